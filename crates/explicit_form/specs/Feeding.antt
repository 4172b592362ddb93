-- Where a reader of a certificate stands, and what it does with bytes.
use Rattle.std.specs.Prelude.{◌≡◌, ℕ, ◌+◌, Bool, true, false, if◌then◌else◌, nat_eq, suc, List, [], ◌∷◌, ◌++◌, length, take, Option, Some, None, Result, Ok, Err}
use Rattle.fpc_base.specs.declared.refusal.Refusal.{Refusal}
use Rattle.fpc_terms.specs.Name.{Agrees}
use Rattle.polarised_formulas.specs.declared.logic.Logic.{Logic}
use Rattle.polarised_formulas.specs.declared.step.Step.{Step}
use Rattle.explicit_form.specs.StepReading.{in_word, Next, on, whole, last, wrong, next, State, heading, reading, ended, mistaken, stuck, start, go, run, steps_of}
use Rattle.explicit_form.specs.StepLimits.{fault, outcome, read, refused, AreUntold}
use Rattle.explicit_form.specs.declared.step_reader.Phase as phase
use Rattle.explicit_form.specs.declared.step_reader.StepFault.{StepFault}
use Rattle.explicit_form.specs.declared.step_reader.StepFault.TheVariants.{Refused, OutOfMemory}
use Rattle.explicit_form.specs.declared.step_reader.StepReader.{StepReader}
use Rattle.explicit_form.specs.LineStanding.{Stands, IsPlainWord}

-- a reader of the logic stands where the reading of a certificate does
abbrev pub IsAt : Logic → State → StepReader → Type 0
IsAt logic (heading w) r = (r.phase ≡ phase.TheVariants.Heading) × Stands logic (in_word w) r.line
IsAt logic (reading done l) r = (r.phase ≡ phase.TheVariants.Lines) × Stands logic l r.line
IsAt logic (ended done) r = r.phase ≡ phase.TheVariants.Ended
IsAt logic mistaken r = ⊥
IsAt logic stuck r = ⊥

-- the step whose line is whole
abbrev pub step_of : Next → Option Step
step_of (on l) = None
step_of (whole s) = Some s
step_of last = None
step_of wrong = None

-- the step whose line ends with a byte behind a state
abbrev pub step_with : (List ℕ → ℕ) → Logic → State → ℕ → Option Step
step_with number logic (heading w) b = None
step_with number logic (reading done l) b = step_of (next number logic l b)
step_with number logic (ended done) b = None
step_with number logic mistaken b = None
step_with number logic stuck b = None

-- The answer to a byte of which this is told, and which leads to a state and ends the line of a step, if any. Memory may run out.
abbrev pub IsTaken : Logic → Option Refusal → State → Option Step → Result (Unit {0}) StepFault → StepReader → Type 0
IsTaken logic told st s (Ok u) r = (told ≡ None) × IsAt logic st r × (r.step ≡ s)
IsTaken logic told st s (Err (Refused x)) r = told ≡ Some x
IsTaken logic told st s (Err OutOfMemory) r = Unit {0}

-- the steps whose lines are whole, the last one first
abbrev pub done_of : State → List Step
done_of (heading w) = []
done_of (reading done l) = done
done_of (ended done) = done
done_of mistaken = []
done_of stuck = []

-- a step, if any, in front of others
abbrev pub pushed : Option Step → List Step → List Step
pushed None done = done
pushed (Some s) done = s ∷ done

-- Something is told of one of these bytes, which come at a place behind a state, and nothing of those in front of it.
pub record IsToldIn (number : List ℕ → ℕ) (logic : Logic) (st : State) (place : ℕ) (bytes : List ℕ) (x : Refusal) : Type 0 where
  pub front : List ℕ
  pub byte : ℕ
  pub more : List ℕ
  pub parts : front ++ byte ∷ more ≡ bytes
  pub untold : AreUntold number logic st place front
  pub told : fault (place + length front) (run number logic st front) (go number logic (run number logic st front) byte) ≡ Some x

-- The reader has taken these bytes, which came at a place behind a state. It has the step whose line they ended, if any.
pub record HasTaken (number : List ℕ → ℕ) (logic : Logic) (st : State) (place : ℕ) (bytes : List ℕ) (r : StepReader) : Type 0 where
  pub where_is : IsAt logic (run number logic st bytes) r
  pub untold : AreUntold number logic st place bytes
  pub step_is : done_of (run number logic st bytes) ≡ pushed r.step (done_of st)

-- how many of the bytes there are up to and with the first end of a line, or in all
abbrev pub line_length : List ℕ → ℕ
line_length [] = 0
line_length (b ∷ bs) = if nat_eq b 10 then 1 else suc (line_length bs)

-- the bytes up to and with the first end of a line, or all of them
abbrev pub line_in : List ℕ → List ℕ
line_in bytes = take (line_length bytes) bytes

-- The answer to bytes that come at a place behind a state. A refusal is told of a byte of the first line of them.
abbrev pub IsLine : (List ℕ → ℕ) → Logic → State → ℕ → List ℕ → Result ℕ StepFault → StepReader → Type 0
IsLine number logic st place bytes (Ok n) r = HasTaken number logic st place (take n bytes) r
IsLine number logic st place bytes (Err (Refused x)) r = IsToldIn number logic st place (line_in bytes) x
IsLine number logic st place bytes (Err OutOfMemory) r = Unit {0}

-- The reader has read these bytes of a certificate of the logic, with a table of names, and nothing is told of any of them.
pub record HasRead (logic : Logic) (names : List (List ℕ)) (bytes : List ℕ) (r : StepReader) : Type 0 where
  pub where_is : (number : List ℕ → ℕ) → Agrees number names → IsAt logic (run number logic start bytes) r
  pub untold : (number : List ℕ → ℕ) → Agrees number names → AreUntold number logic start 0 bytes
  pub place : r.at ≡ length bytes

-- The answer to bytes behind others that were read: so many were read too, with the line of at most one step, or a refusal is told of a byte of the first line of
-- these.
abbrev pub IsFed : Logic → List (List ℕ) → List ℕ → List ℕ → Result ℕ StepFault → StepReader → Type 0
IsFed logic names before bytes (Ok n) r =
    HasRead logic names (before ++ take n bytes) r
    × ((number : List ℕ → ℕ) → Agrees number names → done_of (run number logic start (before ++ take n bytes)) ≡ pushed r.step (done_of (run number logic start before)))
IsFed logic names before bytes (Err (Refused x)) r = (number : List ℕ → ℕ) → Agrees number names → IsToldIn number logic (run number logic start before) (length before) (line_in bytes) x
IsFed logic names before bytes (Err OutOfMemory) r = Unit {0}

-- the last line is read
abbrev pub is_whole : State → Bool
is_whole (heading w) = false
is_whole (reading done l) = false
is_whole (ended done) = true
is_whole mistaken = false
is_whole stuck = false

-- the answer at the end of bytes that were read
abbrev pub IsFinished : (List ℕ → ℕ) → Logic → List ℕ → Result (Unit {0}) StepFault → Type 0
IsFinished number logic bytes (Ok u) = outcome number logic start 0 bytes ≡ read (steps_of (run number logic start bytes))
IsFinished number logic bytes (Err (Refused x)) = outcome number logic start 0 bytes ≡ refused x
IsFinished number logic bytes (Err OutOfMemory) = ⊥

-- the text is the word in progress of the term or formula of the line that the reader is in
abbrev pub IsLineWord : StepReader → List ℕ → Type 0
IsLineWord r text = (r.phase ≡ phase.TheVariants.Lines) × IsPlainWord r.line text

-- the reader stands behind these bytes, by each numbering that agrees with the table
abbrev pub StandsBehind : Logic → List (List ℕ) → List ℕ → StepReader → Type 0
StandsBehind logic names bytes r = (number : List ℕ → ℕ) → Agrees number names → IsAt logic (run number logic start bytes) r
