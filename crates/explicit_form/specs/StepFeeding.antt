-- What a reader gives and tells of a certificate whose bytes come in pieces, while the table of names grows.
use Rattle.std.specs.Prelude.{◌≡◌, ℕ, ◌≤◌, Bool, true, false, List, [], ◌++◌, length, take, Ok, Err}
use Rattle.fpc_base.specs.declared.refusal.Code.TheVariants.{Unexpected}
use Rattle.fpc_base.specs.declared.refusal.Refusal.{Refusal}
use Rattle.fpc_terms.specs.Name.{Agrees, AreDifferent, Grows}
use Rattle.fpc_terms.specs.Text.{name_in}
use Rattle.polarised_formulas.specs.declared.logic.Logic.{Logic}
use Rattle.polarised_formulas.specs.declared.step.Step.{Step}
use Rattle.polarised_formulas.specs.Numbering.{number_in, text_in}
use Rattle.explicit_form.specs.StepReading.{State, heading, reading, ended, mistaken, stuck, start, run, steps_of}
use Rattle.explicit_form.specs.StepLaws.{HasLines}
use Rattle.explicit_form.specs.StepLimits.{most_bytes, FitSteps, IsRefused}
use Rattle.explicit_form.specs.StepTables.{IsCertificateIn}
use Rattle.explicit_form.specs.declared.step_reader.StepFault.TheVariants.{Refused}
use Rattle.explicit_form.specs.declared.step_reader.StepReader.{StepReader}
use Rattle.explicit_form.specs.Feeding.{pushed, line_in, HasRead, IsFed, is_whole}

-- The reader has read these bytes, and by each numbering that agrees with the table the steps whose lines have ended in them are these, in order.
pub record HasGiven (logic : Logic) (names : List (List ℕ)) (bytes : List ℕ) (steps : List Step) (r : StepReader) : Type 0 where
  pub has_read : HasRead logic names bytes r
  pub given : (number : List ℕ → ℕ) → Agrees number names → steps_of (run number logic start bytes) ≡ steps

-- the first line is read, and not the last one
abbrev pub is_in_lines : State → Bool
is_in_lines (heading w) = false
is_in_lines (reading done l) = true
is_in_lines (ended done) = false
is_in_lines mistaken = false
is_in_lines stuck = false

-- by each numbering that agrees with the table the bytes lead to a state that passes the test, or to one that does not
abbrev pub LeadsTo : (State → Bool) → Bool → Logic → List (List ℕ) → List ℕ → Type 0
LeadsTo test answer logic names bytes = (number : List ℕ → ℕ) → Agrees number names → test (run number logic start bytes) ≡ answer

-- a reader that has read nothing has given no step
abbrev pub NothingGiven : Type 0
NothingGiven = (logic : Logic) (names : List (List ℕ)) (r : StepReader) → HasRead logic names [] r → HasGiven logic names [] [] r

-- behind a piece a reader has given the steps from before, and then the one that it has, if any
abbrev pub FeedingGives : Type 0
FeedingGives = (logic : Logic) (known names : List (List ℕ)) (before bytes : List ℕ) (steps : List Step) (n : ℕ) (old new : StepReader) → HasGiven logic known before steps old → Grows known names
    → IsFed logic names before bytes (Ok n) new → HasGiven logic names (before ++ take n bytes) (steps ++ pushed new.step []) new

-- where the last line is read the bytes are the text of the steps, within the limits
abbrev pub EndIsWhole : Type 0
EndIsWhole = (names : List (List ℕ)) → AreDifferent names → (logic : Logic) (bytes : List ℕ) (steps : List Step) (r : StepReader) → HasGiven logic names bytes steps r → LeadsTo is_whole true logic names bytes
    → IsCertificateIn names logic steps bytes × FitSteps (name_in names) steps × (length bytes ≤ most_bytes)

-- inside the lines the bytes are the lines of the steps, and a part of a line that has not ended
abbrev pub LinesAreTaken : Type 0
LinesAreTaken = (names : List (List ℕ)) → AreDifferent names → (logic : Logic) (bytes : List ℕ) (steps : List Step) (r : StepReader) → HasGiven logic names bytes steps r → LeadsTo is_in_lines true logic names bytes
    → HasLines (name_in names) (number_in (length names) names) logic steps bytes

-- what is told of a piece is why the bytes up to the end of its first line are refused, whatever stands behind them
abbrev pub ToldIsRefused : Type 0
ToldIsRefused = (names : List (List ℕ)) → AreDifferent names → (logic : Logic) (known : List (List ℕ)) (before bytes : List ℕ) (x : Refusal) (old new : StepReader) → HasRead logic known before old
    → Grows known names → IsFed logic names before bytes (Err (Refused x)) new
    → (rest : List ℕ) → IsRefused (text_in (length names) names) (number_in (length names) names) logic (before ++ (line_in bytes ++ rest)) x

-- bytes that end before the last line is read are refused at their end
abbrev pub EndIsRefused : Type 0
EndIsRefused = (names : List (List ℕ)) → AreDifferent names → (logic : Logic) (bytes : List ℕ) (r : StepReader) → HasRead logic names bytes r → LeadsTo is_whole false logic names bytes
    → IsRefused (text_in (length names) names) (number_in (length names) names) logic bytes (record { code = Unexpected; at = length bytes })
