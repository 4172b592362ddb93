-- What many bytes of a term or a formula do in a line.
use Rattle.std.specs.Prelude.{Result, Ok, Err}
use Rattle.fpc_base.specs.declared.refusal.Code.TheVariants.{Unexpected}
use Rattle.fpc_base.specs.declared.refusal.TokenRefusal.{TokenRefusal}
use Rattle.fpc_base.specs.declared.refusal.TokenRefusal.TheVariants.{Refused}
use Rattle.polarised_formulas.specs.declared.plain.reader.Progress as progress
use Rattle.explicit_form.specs.declared.word.Written.{Written}
use Rattle.explicit_form.specs.declared.line.Taken as taken
use Rattle.explicit_form.specs.StepReading.{Next, on, whole, last, wrong, with_term, with_formula}

-- what is answered where a byte ends a line, if there is a step of it
abbrev pub ended_with : Next → Result taken.Taken TokenRefusal
ended_with (on l) = Err (Refused Unexpected)
ended_with (whole s) = Ok (taken.TheVariants.Whole s)
ended_with last = Err (Refused Unexpected)
ended_with wrong = Err (Refused Unexpected)

-- what the answer of the reader of a term or a formula means in a line
abbrev pub answer_in : Written → Result progress.Progress TokenRefusal → Result taken.Taken TokenRefusal
answer_in w (Ok progress.TheVariants.Going) = Ok taken.TheVariants.Going
answer_in w (Ok (progress.TheVariants.Term t)) = ended_with (with_term w t)
answer_in w (Ok (progress.TheVariants.Formula f)) = ended_with (with_formula w f)
answer_in w (Err e) = Err e
