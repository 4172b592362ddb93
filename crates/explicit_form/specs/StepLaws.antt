-- What the reading of a certificate byte by byte says of its text.
use Rattle.std.specs.Prelude.{◌≡◌, ℕ, true, false, nat_eq, ◌⊎◌, ◌↔◌, List, [], ◌∷◌, ◌++◌}
use Rattle.std.specs.List.{list_all}
use Rattle.fpc_base.specs.Tokens.{is_in_line}
use Rattle.polarised_formulas.specs.declared.logic.Logic.{Logic}
use Rattle.polarised_formulas.specs.declared.step.Step.{Step}
use Rattle.polarised_formulas.specs.Step.{IsProperStep}
use Rattle.polarised_formulas.specs.PlainForm.{GivesBack}
use Rattle.explicit_form.specs.StepText.{header_word, header_text, lines_before, certificate_text, IsPlainStep, ArePlainSteps, BeginsCertificate, IsCertificate}
use Rattle.explicit_form.specs.StepReading.{Line, Next, on, whole, last, wrong, next, State, heading, reading, ended, mistaken, stuck, start, other, run, steps_onto}

-- no byte was wrong, and the first line is not that of the other calculus
abbrev pub IsGoing : State → Type 0
IsGoing (heading w) = Unit {0}
IsGoing (reading done l) = Unit {0}
IsGoing (ended done) = Unit {0}
IsGoing mistaken = ⊥
IsGoing stuck = ⊥

-- the bytes are a part, and not all, of the header word of a calculus
abbrev pub BeginsHeader : Logic → List ℕ → Type 0
BeginsHeader logic bytes = (b : ℕ) × ((more : List ℕ) × (header_word logic ≡ bytes ++ b ∷ more))

-- the reading goes on exactly where the bytes begin a certificate of the calculus, or the header word of the other one
abbrev pub CertificateBegins : Type 0
CertificateBegins = (text : ℕ → List ℕ) (number : List ℕ → ℕ) → GivesBack text number → (logic : Logic) (bytes : List ℕ)
    → IsGoing (run number logic start bytes) ↔ (BeginsCertificate text number logic bytes ⊎ BeginsHeader (other logic) bytes)

-- the reading ends with steps exactly behind the text of these steps
abbrev pub CertificateIsWhole : Type 0
CertificateIsWhole = (text : ℕ → List ℕ) (number : List ℕ → ℕ) → GivesBack text number → (logic : Logic) (bytes : List ℕ) (steps : List Step)
    → (run number logic start bytes ≡ ended (steps_onto steps [])) ↔ IsCertificate text number logic steps bytes

-- the reading is for the other calculus exactly where the bytes begin with the header word of that one
abbrev pub OtherCalculus : Type 0
OtherCalculus = (number : List ℕ → ℕ) (logic : Logic) (bytes : List ℕ) → (run number logic start bytes ≡ mistaken) ↔ ((more : List ℕ) × (header_word (other logic) ++ more ≡ bytes))

-- different lists of steps have different texts
abbrev pub CertificateIsOne : Type 0
CertificateIsOne = (text : ℕ → List ℕ) (number : List ℕ → ℕ) (logic : Logic) (ss us : List Step) → ArePlainSteps text number logic ss → ArePlainSteps text number logic us
    → certificate_text text logic ss ≡ certificate_text text logic us → ss ≡ us

-- The bytes are the header, the lines of these steps and the bytes of a line that has not ended.
pub record HasLines (text : ℕ → List ℕ) (number : List ℕ → ℕ) (logic : Logic) (steps : List Step) (bytes : List ℕ) : Type 0 where
  pub plain : ArePlainSteps text number logic steps
  pub line : List ℕ
  pub parts : header_text logic ++ lines_before text logic steps line ≡ bytes
  pub open_line : list_all is_in_line line ≡ true

-- the steps that the reading has inside the lines are those whose lines have ended
abbrev pub LinesAreRead : Type 0
LinesAreRead = (text : ℕ → List ℕ) (number : List ℕ → ℕ) → GivesBack text number → (logic : Logic) (bytes : List ℕ) (done : List Step) (l : Line)
    → run number logic start bytes ≡ reading done l → HasLines text number logic (steps_onto done []) bytes

-- where a line ends, and where it does not
abbrev pub EndsAt : ℕ → Next → Type 0
EndsAt b (on l) = nat_eq b 10 ≡ false
EndsAt b (whole s) = b ≡ 10
EndsAt b last = b ≡ 10
EndsAt b wrong = Unit {0}

-- a line ends with the byte 10, and this byte stands nowhere inside one
abbrev pub LineEnds : Type 0
LineEnds = (number : List ℕ → ℕ) (logic : Logic) (l : Line) (b : ℕ) → EndsAt b (next number logic l b)

-- what a plain step names has no variable and no free bound index, and is of the logic
abbrev pub PlainStepIsProper : Type 0
PlainStepIsProper = (text : ℕ → List ℕ) (number : List ℕ → ℕ) (logic : Logic) (s : Step) → IsPlainStep text number logic s → IsProperStep logic s
