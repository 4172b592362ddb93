-- Where a reader of a line stands, and how it answers a byte.
use Rattle.std.specs.Prelude.{◌≡◌, ℕ, List, [], Option, Some, None, Result, Ok, Err}
use Rattle.fpc_base.specs.declared.refusal.Code.TheVariants.{Unexpected}
use Rattle.fpc_base.specs.declared.refusal.TokenRefusal.{TokenRefusal}
use Rattle.fpc_base.specs.declared.refusal.TokenRefusal.TheVariants.{Refused, OutOfMemory}
use Rattle.polarised_formulas.specs.declared.logic.Logic.{Logic}
use Rattle.polarised_formulas.specs.declared.step.Step.{Step}
use Rattle.polarised_formulas.specs.PlainReading as plain
use Rattle.polarised_formulas.specs.PlainStanding as plain_standing
use Rattle.polarised_formulas.specs.declared.plain.reader.PlainReader as plain_reader
use Rattle.explicit_form.specs.declared.word.Written.{Written}
use Rattle.explicit_form.specs.declared.word.Written.TheVariants as written
use Rattle.explicit_form.specs.StepReading.{Line, in_word, at_place, in_place, in_plain, Next, on, whole, last, wrong, next}
use Rattle.explicit_form.specs.StepLimits.{line_limit}
use Rattle.explicit_form.specs.declared.line.LineReader.{LineReader}
use Rattle.explicit_form.specs.declared.line.Mode as mode
use Rattle.explicit_form.specs.declared.line.Taken as taken

abbrev pub mode_at : Line → mode.Mode
mode_at (in_word w) = mode.TheVariants.InWord
mode_at (at_place p) = mode.TheVariants.AtPlace p
mode_at (in_place p k) = mode.TheVariants.InPlace p k
mode_at (in_plain w q) = mode.TheVariants.InPlain w

-- the word in progress
abbrev pub word_at : Line → List ℕ
word_at (in_word w) = w
word_at (at_place p) = []
word_at (in_place p k) = []
word_at (in_plain w q) = []

-- the reader of a term or a formula stands where the line is in one
abbrev pub IsPlainAt : Logic → Line → plain_reader.PlainReader → Type 0
IsPlainAt logic (in_word w) r = Unit {0}
IsPlainAt logic (at_place p) r = Unit {0}
IsPlainAt logic (in_place p k) r = Unit {0}
IsPlainAt logic (in_plain w q) r = plain_standing.Stands logic q r

-- a reader of the logic stands where the line does
pub record Stands (logic : Logic) (l : Line) (r : LineReader) : Type 0 where
  pub logic_is : r.logic ≡ logic
  pub mode : r.mode ≡ mode_at l
  pub word : r.word.items ≡ word_at l
  pub plain : IsPlainAt logic l r.plain

-- The answer to a byte tells what comes next behind a line, or memory ran out. A limit is told exactly where one is passed.
abbrev pub IsNext : Logic → Line → Result taken.Taken TokenRefusal → LineReader → Next → Type 0
IsNext logic l (Ok taken.TheVariants.Going) r (on m) = Stands logic m r × (line_limit l m ≡ None)
IsNext logic l (Ok (taken.TheVariants.Whole s)) r (whole u) = (s ≡ u) × (r.logic ≡ logic)
IsNext logic l (Ok taken.TheVariants.Last) r last = Unit {0}
IsNext logic l (Err (Refused code)) r (on m) = line_limit l m ≡ Some code
IsNext logic l (Err (Refused code)) r wrong = code ≡ Unexpected
IsNext logic l (Err OutOfMemory) r n = Unit {0}
IsNext _ _ _ _ _ = ⊥

-- a term or a formula behind a word that is to come
abbrev pub plain_start : Written → plain.Reading
plain_start written.Exists = plain.at_term plain.alone
plain_start written.FocLEvery = plain.at_term plain.alone
plain_start written.FocRExists = plain.at_term plain.alone
plain_start written.Cut = plain.at_formula []

-- the line of a step is whole, if there is one
abbrev pub stepped : Option Step → Next
stepped None = wrong
stepped (Some s) = whole s

-- what a byte does where no name ends
abbrev pub next_unnamed : Logic → Line → ℕ → Next
next_unnamed logic l b = next (λ w. 0) logic l b

-- the text is the word in progress of the term or formula that a line is in
abbrev pub IsPlainWord : LineReader → List ℕ → Type 0
IsPlainWord r text = ((w : Written) × (r.mode ≡ mode.TheVariants.InPlain w)) × (text ≡ r.plain.word.items)
