-- The limits of certificates, and what a reader of one tells of its bytes.
use Rattle.std.specs.Prelude.{◌≡◌, ℕ, suc, ◌<◌, ◌≤◌, ◌⊎◌, ◌↔◌, if◌then◌else◌, nat_le, List, [], ◌∷◌, ◌++◌, length, Option, Some, None}
use Rattle.fpc_base.specs.declared.refusal.Code.{Code}
use Rattle.fpc_base.specs.declared.refusal.Code.TheVariants.{Unexpected, TooLarge, WrongCalculus}
use Rattle.fpc_base.specs.declared.refusal.Refusal.{Refusal}
use Rattle.polarised_formulas.specs.declared.logic.Logic.{Logic}
use Rattle.polarised_formulas.specs.declared.step.Step.{Step}
use Rattle.polarised_formulas.specs.declared.step.Step.TheVariants as step
use Rattle.polarised_formulas.specs.PlainReading.{Reading}
use Rattle.polarised_formulas.specs.PlainForm.{GivesBack}
use Rattle.polarised_formulas.specs.PlainLimits.{limit_of, FitsTerm, FitsFormula}
use Rattle.explicit_form.specs.StepText.{header_word, BeginsCertificate, IsCertificate}
use Rattle.explicit_form.specs.StepReading.{Line, in_word, at_place, in_place, in_plain, State, heading, reading, ended, mistaken, stuck, start, other, go, run, steps_onto}
use Rattle.explicit_form.specs.StepLaws.{BeginsHeader}

-- the most bytes of a certificate
abbrev pub most_bytes : ℕ
most_bytes = 67108864

-- what is told of a byte that leads from a reading of a term or a formula to a line
abbrev pub plain_limit : Reading → Line → Option Code
plain_limit q (in_word w) = None
plain_limit q (at_place p) = None
plain_limit q (in_place p k) = None
plain_limit q (in_plain w r) = limit_of q r

-- what is told of a byte that leads from a line to a line
abbrev pub line_limit : Line → Line → Option Code
line_limit (in_word w) m = None
line_limit (at_place p) m = None
line_limit (in_place p k) m = None
line_limit (in_plain w q) m = plain_limit q m

-- what is told of a byte that leads from a line to a state
abbrev pub limit_behind : Line → State → Option Code
limit_behind l (heading w) = None
limit_behind l (reading done m) = line_limit l m
limit_behind l (ended done) = None
limit_behind l mistaken = None
limit_behind l stuck = None

-- what is told of a byte that leads from a state to another: a formula begins too deep, a name is too long, or one argument too many comes
abbrev pub state_limit : State → State → Option Code
state_limit (heading w) st = None
state_limit (reading done l) st = limit_behind l st
state_limit (ended done) st = None
state_limit mistaken st = None
state_limit stuck st = None

-- a code at a place
abbrev pub told_at : ℕ → Option Code → Option Refusal
told_at place None = None
told_at place (Some code) = Some (record { code = code; at = place })

-- What is told of a byte at a place that leads from a state to another. The word of the other calculus lies at byte 6.
abbrev pub byte_fault : ℕ → State → State → Option Refusal
byte_fault place st (heading w) = told_at place (state_limit st (heading w))
byte_fault place st (reading done l) = told_at place (state_limit st (reading done l))
byte_fault place st (ended done) = told_at place (state_limit st (ended done))
byte_fault place st mistaken = Some (record { code = WrongCalculus; at = 6 })
byte_fault place st stuck = Some (record { code = Unexpected; at = place })

-- the same, where the text may be too large
abbrev pub fault : ℕ → State → State → Option Refusal
fault place st next = if nat_le most_bytes place then Some (record { code = TooLarge; at = place }) else byte_fault place st next

-- what a reader of a whole certificate gives
pub data Outcome : Type 0 where
  read : List Step → Outcome
  refused : Refusal → Outcome

-- at the end of the bytes
abbrev pub outcome_at_end : ℕ → State → Outcome
outcome_at_end place (heading w) = refused (record { code = Unexpected; at = place })
outcome_at_end place (reading done l) = refused (record { code = Unexpected; at = place })
outcome_at_end place (ended done) = read (steps_onto done [])
outcome_at_end place mistaken = refused (record { code = Unexpected; at = place })
outcome_at_end place stuck = refused (record { code = Unexpected; at = place })

-- a refusal, or what comes later
abbrev pub unless_refused : Option Refusal → Outcome → Outcome
unless_refused (Some r) later = refused r
unless_refused None later = later

-- The outcome of the bytes from a place on: the first byte of which something is told, or the end.
abbrev pub outcome : (List ℕ → ℕ) → Logic → State → ℕ → List ℕ → Outcome
outcome number logic st place [] = outcome_at_end place st
outcome number logic st place (b ∷ bs) = unless_refused (fault place st (go number logic st b)) (outcome number logic (go number logic st b) (suc place) bs)

-- each name has at most 255 bytes and 255 arguments, and formulas are nested at most 10,000 deep
abbrev pub FitsStep : (ℕ → List ℕ) → Step → Type 0
FitsStep text (step.Exists t) = FitsTerm text t
FitsStep text (step.FocLEvery t) = FitsTerm text t
FitsStep text (step.FocRExists t) = FitsTerm text t
FitsStep text (step.Cut f) = FitsFormula text 0 f
FitsStep text _ = Unit {0}

-- so in all of the steps
abbrev pub FitSteps : (ℕ → List ℕ) → List Step → Type 0
FitSteps text [] = Unit {0}
FitSteps text (s ∷ ss) = FitsStep text s × FitSteps text ss

-- the steps are read exactly from their text, where it keeps the limits
abbrev pub CertificateOutcome : Type 0
CertificateOutcome = (text : ℕ → List ℕ) (number : List ℕ → ℕ) → GivesBack text number → (logic : Logic) (bytes : List ℕ) (steps : List Step)
    → (outcome number logic start 0 bytes ≡ read steps) ↔ (IsCertificate text number logic steps bytes × FitSteps text steps × (length bytes ≤ most_bytes))

-- the bytes begin a certificate of the calculus, or the header word of the other one
abbrev pub Begins : (ℕ → List ℕ) → (List ℕ → ℕ) → Logic → List ℕ → Type 0
Begins text number logic bytes = BeginsCertificate text number logic bytes ⊎ BeginsHeader (other logic) bytes

-- why bytes are refused behind the first of them, which lead to a state
pub data WhyRefused (text : ℕ → List ℕ) (number : List ℕ → ℕ) (logic : Logic) (front : List ℕ) (state : State) : List ℕ → Refusal → Type 0 where
  -- they end, and are no certificate
  at_end : ((steps : List Step) → IsCertificate text number logic steps front → ⊥) → WhyRefused text number logic front state [] (record { code = Unexpected; at = length front })
  too_large : (b : ℕ) (more : List ℕ) → most_bytes ≤ length front → WhyRefused text number logic front state (b ∷ more) (record { code = TooLarge; at = length front })
  -- with the next byte they begin no text
  unexpected : (b : ℕ) (more : List ℕ) → length front < most_bytes → (Begins text number logic (front ++ b ∷ []) → ⊥) → (front ++ b ∷ [] ≡ header_word (other logic) → ⊥)
      → WhyRefused text number logic front state (b ∷ more) (record { code = Unexpected; at = length front })
  -- with the next byte they are the header word of the other calculus
  other_word : (b : ℕ) (more : List ℕ) → front ++ b ∷ [] ≡ header_word (other logic) → WhyRefused text number logic front state (b ∷ more) (record { code = WrongCalculus; at = 6 })
  -- with the next byte they begin a text, and go past a limit
  limited : (b : ℕ) (more : List ℕ) (code : Code) → length front < most_bytes → Begins text number logic (front ++ b ∷ []) → state_limit state (go number logic state b) ≡ Some code
      → WhyRefused text number logic front state (b ∷ more) (record { code = code; at = length front })

-- nothing is told of any of the bytes, the first of them at a place
abbrev pub AreUntold : (List ℕ → ℕ) → Logic → State → ℕ → List ℕ → Type 0
AreUntold number logic st place [] = Unit {0}
AreUntold number logic st place (b ∷ bs) = (fault place st (go number logic st b) ≡ None) × AreUntold number logic (go number logic st b) (suc place) bs

-- The bytes are refused so: those in front begin a text, and of none of them anything is told.
pub record IsRefused (text : ℕ → List ℕ) (number : List ℕ → ℕ) (logic : Logic) (bytes : List ℕ) (r : Refusal) : Type 0 where
  pub front : List ℕ
  pub rest : List ℕ
  pub parts : front ++ rest ≡ bytes
  pub begins : Begins text number logic front
  pub untold : AreUntold number logic start 0 front
  pub why : WhyRefused text number logic front (run number logic start front) rest r

-- the outcome is a refusal exactly where the bytes are refused so
abbrev pub RefusalIsTold : Type 0
RefusalIsTold = (text : ℕ → List ℕ) (number : List ℕ → ℕ) → GivesBack text number → (logic : Logic) (bytes : List ℕ) (r : Refusal)
    → (outcome number logic start 0 bytes ≡ refused r) ↔ IsRefused text number logic bytes r
