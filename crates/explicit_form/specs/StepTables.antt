-- Certificates with the names of a table.
use Rattle.std.specs.Prelude.{◌≡◌, ℕ, ◌≤◌, ◌↔◌, List, [], length}
use Rattle.fpc_terms.specs.Name.{Agrees, AreDifferent, Grows}
use Rattle.fpc_terms.specs.Text.{name_in}
use Rattle.polarised_formulas.specs.declared.logic.Logic.{Logic}
use Rattle.polarised_formulas.specs.declared.step.Step.{Step}
use Rattle.polarised_formulas.specs.Numbering.{number_in}
use Rattle.polarised_formulas.specs.PlainLimits.{IsNumbering}
use Rattle.explicit_form.specs.StepText.{line_before, IsPlainStep, ArePlainSteps, IsCertificate}
use Rattle.explicit_form.specs.StepReading.{Line, reading, ended, start, run, steps_onto}
use Rattle.explicit_form.specs.StepLaws.{HasLines}
use Rattle.explicit_form.specs.Sizes.{StepsNamedBelow}
use Rattle.explicit_form.specs.StepLimits.{most_bytes, Outcome, read, outcome, FitsStep, FitSteps}

-- the step is one of the logic, and has a text with the names of a table
abbrev pub IsPlainStepIn : List (List ℕ) → Logic → Step → Type 0
IsPlainStepIn names logic s = IsPlainStep (name_in names) (number_in (length names) names) logic s

-- the bytes are the text of the steps with the names of a table
abbrev pub IsCertificateIn : List (List ℕ) → Logic → List Step → List ℕ → Type 0
IsCertificateIn names logic steps bytes = IsCertificate (name_in names) (number_in (length names) names) logic steps bytes

-- by each numbering that agrees with the table the bytes are read as the steps
abbrev pub ReadsSteps : List (List ℕ) → Logic → List ℕ → List Step → Type 0
ReadsSteps names logic bytes steps = (number : List ℕ → ℕ) → Agrees number names → run number logic start bytes ≡ ended (steps_onto steps [])

-- by each numbering that agrees with the table the lines of the steps, the last one first, are read, and then a line that has not ended
abbrev pub ReadsLines : List (List ℕ) → Logic → List ℕ → List Step → Type 0
ReadsLines names logic bytes done = (number : List ℕ → ℕ) → Agrees number names → (l : Line) × (run number logic start bytes ≡ reading done l)

-- by each numbering of the table the outcome of the bytes is that one
abbrev pub HasOutcome : List (List ℕ) → Logic → List ℕ → Outcome → Type 0
HasOutcome names logic bytes o = (number : List ℕ → ℕ) → IsNumbering names number → outcome number logic start 0 bytes ≡ o

-- steps are read with a table exactly from their text with the names of the table
abbrev pub StepsAreRead : Type 0
StepsAreRead = (names : List (List ℕ)) → AreDifferent names → (logic : Logic) (bytes : List ℕ) (steps : List Step) → ReadsSteps names logic bytes steps ↔ IsCertificateIn names logic steps bytes

-- the steps that are read with a table inside a certificate are those whose lines have ended, with the names of the table
abbrev pub LinesInTable : Type 0
LinesInTable = (names : List (List ℕ)) → AreDifferent names → (logic : Logic) (bytes : List ℕ) (done : List Step)
    → ReadsLines names logic bytes done → HasLines (name_in names) (number_in (length names) names) logic (steps_onto done []) bytes

-- with a table of different names the outcome is steps exactly at the text of these steps, where it keeps the limits
abbrev pub StepsOutcome : Type 0
StepsOutcome = (names : List (List ℕ)) → AreDifferent names → (logic : Logic) (bytes : List ℕ) (steps : List Step)
    → HasOutcome names logic bytes (read steps) ↔ (IsCertificateIn names logic steps bytes × FitSteps (name_in names) steps × (length bytes ≤ most_bytes))

-- a step with the names of a table stays so, with its line and within the limits, as the table grows
abbrev pub StepGrows : Type 0
StepGrows = (old new : List (List ℕ)) → Grows old new → AreDifferent new → (logic : Logic) (s : Step) → IsPlainStepIn old logic s
    → IsPlainStepIn new logic s × ((rest : List ℕ) → line_before (name_in new) logic s rest ≡ line_before (name_in old) logic s rest) × (FitsStep (name_in old) s → FitsStep (name_in new) s)

-- the names in steps that are plain with the names of a table have numbers in the table
abbrev pub PlainIsNamed : Type 0
PlainIsNamed = (names : List (List ℕ)) (number : List ℕ → ℕ) (logic : Logic) (steps : List Step) → ArePlainSteps (name_in names) number logic steps → StepsNamedBelow (length names) steps
