-- A certificate that is being checked in any calculus.
use Rattle.std.specs.Prelude.{◌≡◌, ◌≢◌, ◌⊎◌, ℕ, ◌+◌, ◌≤◌, Bool, true, false, List, [], ◌++◌, length, take, Option, Result, Ok, Err}
use Rattle.fpc_terms.specs.Name.{Agrees}
use Rattle.polarised_formulas.specs.declared.logic.Logic.{Logic}
use Rattle.polarised_formulas.specs.declared.step.Step.{Step}
use Rattle.polarised_formulas.specs.Formula.{Formula}
use Rattle.polarised_formulas.specs.Calculus.Rules.{RuleCalculus, LevelledIn}
use Rattle.polarised_formulas.specs.Calculus.Lawful.{AreLow}
use Rattle.explicit_form.specs.StepReading.{start, run}
use Rattle.explicit_form.specs.StepLimits.{most_bytes}
use Rattle.explicit_form.specs.Feeding.{HasRead, is_whole}
use Rattle.explicit_form.specs.declared.step_reader.StepReader.{StepReader}
use Rattle.explicit_form.specs.declared.step_reader.StepFault.{StepFault}
use Rattle.explicit_form.specs.declared.step_reader.StepFault.TheVariants.{Refused as ReaderRefused, OutOfMemory as ReaderNoMemory}
use Rattle.explicit_kernel.specs.Progress.{Follows, IsUnfit, IsShort}
use Rattle.explicit_kernel.specs.VerdictIn.{HasFitted}
use Rattle.explicit_kernel.specs.JudgmentIn.{going, judged, accepted, rejected, refused, course_of, judgment}
use Rattle.explicit_kernel.specs.declared.verify.Verdict.{Verdict}
use Rattle.explicit_kernel.specs.declared.verify.Verdict.TheVariants.{Rejected}
use Rattle.explicit_kernel.specs.declared.verify.VerifyRefusal.{VerifyRefusal}
use Rattle.explicit_kernel.specs.declared.verify.VerifyRefusal.TheVariants.{Refused, OutOfMemory}
use Rattle.explicit_kernel.specs.declared.check.Stop.{Stop}
use Rattle.explicit_kernel.specs.declared.check.Stop.TheVariants.{Rejected as StopsRejected, Refused as StopsRefused, OutOfMemory as StopsNoMemory}

-- The check has come to the end of these bytes of a certificate for the goal, read with a table of
-- names: they show nothing yet. These sequents are still to be derived, and so many steps have
-- fitted.
pub record HasCome (C : RuleCalculus) (names : List (List ℕ)) (goal : Formula) (bytes : List ℕ) (reader : StepReader) (pending : List (LevelledIn C)) (fitted : ℕ) : Type 0 where
  pub read : HasRead C.logic names bytes reader
  pub course : (number : List ℕ → ℕ) → Agrees number names
      → course_of C number goal bytes ≡ going (run number C.logic start bytes) pending fitted
  pub low : AreLow C fitted pending
  pub few : fitted ≤ length bytes
  pub short : length bytes ≤ most_bytes

-- a tick for each step that fitted, of which there were so many and are so many
abbrev pub HasTicks : ℕ → ℕ → ℕ → ℕ → Type 0
HasTicks old new before now = now + old ≡ before + new

-- by each numbering the bytes that the reader has read hold the last line, or do not, as the flag
-- says
abbrev pub Ends : Logic → Bool → StepReader → Type 0
Ends logic flag r =
    (names : List (List ℕ)) (bytes : List ℕ) (number : List ℕ → ℕ)
    → HasRead logic names bytes r → Agrees number names
    → is_whole (run number logic start bytes) ≡ flag

module _ (C : RuleCalculus) where
  -- the check has come to the end of some bytes of a certificate for some goal
  abbrev pub IsUnderWay : List (List ℕ) → StepReader → List (LevelledIn C) → ℕ → Type 0
  IsUnderWay names reader q n =
      (goal : Formula) × (bytes : List ℕ) × HasCome C names goal bytes reader q n

  -- The bytes of a certificate for the goal show why the check stopped, with so many steps that
  -- fitted: a step is rejected at a place after the first so many bytes, or a refusal is reported
  -- of a byte after them. The word of the other calculus is reported two bytes after its place.
  abbrev pub IsStopped : List (List ℕ) → Formula → ℕ → List ℕ → ℕ → Stop → Type 0
  IsStopped names goal least bytes n (StopsRejected k) =
      (n + 1 ≡ k)
      × ((number : List ℕ → ℕ) → Agrees number names
      → (place : ℕ)
      × ((course_of C number goal bytes ≡ judged (rejected k place)) × (least ≤ place)))
  IsStopped names goal least bytes n (StopsRefused r) =
      (number : List ℕ → ℕ) → Agrees number names
      → (course_of C number goal bytes ≡ judged (refused r n)) × (least ≤ r.at + 2)
  IsStopped names goal least bytes n StopsNoMemory =
      (number : List ℕ → ℕ) → Agrees number names → HasFitted C number goal bytes n

  -- The answer to bytes after others: so many of them are taken and show nothing, or they show why
  -- the check stopped.
  abbrev pub IsTakenOn : List (List ℕ) → Formula → List ℕ → List ℕ → Result ℕ Stop → StepReader
      → List (LevelledIn C) → ℕ → Type 0
  IsTakenOn names goal before bytes (Ok taken) reader q n =
      HasCome C names goal (before ++ take taken bytes) reader q n
  IsTakenOn names goal before bytes (Err stop) reader q n =
      IsStopped names goal (length before) (before ++ bytes) n stop

  -- where the last line is read nothing is left, or the step after the last one is rejected
  abbrev pub IsClosed : StepReader → List (LevelledIn C) → ℕ → Result (Unit {0}) Stop → Type 0
  IsClosed reader q n (Ok u) = (q ≡ []) ⊎ Ends C.logic false reader
  IsClosed reader q n (Err (StopsRejected k)) = (k ≡ n + 1) × (q ≢ []) × Ends C.logic true reader
  IsClosed reader q n (Err (StopsRefused r)) = ⊥
  IsClosed reader q n (Err StopsNoMemory) = ⊥

  -- The step that the reader had, if any, was played, or is rejected, or memory ran out in playing
  -- it: from sequents, with so many steps before, to others, with the reader as it is then.
  abbrev pub IsFollowed : Option Step → List (LevelledIn C) → ℕ → StepReader
      → List (LevelledIn C) → ℕ → Result (Unit {0}) Stop → Type 0
  IsFollowed step q n reader r m (Ok u) =
      Follows C step q n r m × ((r ≡ []) ⊎ Ends C.logic false reader)
  IsFollowed step q n reader r m (Err (StopsRejected k)) =
      (k ≡ m + 1)
      × ((IsUnfit C step q × (m ≡ n))
      ⊎ (Follows C step q n r m × (r ≢ []) × Ends C.logic true reader))
  IsFollowed step q n reader r m (Err (StopsRefused x)) = ⊥
  IsFollowed step q n reader r m (Err StopsNoMemory) = IsShort C step q × (m ≡ n)

  -- the answer at the end of the bytes, with so many steps that fitted
  abbrev pub IsFinal : List (List ℕ) → Formula → List ℕ → ℕ → Result ℕ Stop → Type 0
  IsFinal names goal bytes n (Ok m) =
      (m ≡ n)
      × ((number : List ℕ → ℕ) → Agrees number names → judgment C number goal bytes ≡ accepted m)
  IsFinal names goal bytes n (Err (StopsRejected k)) = ⊥
  IsFinal names goal bytes n (Err (StopsRefused r)) =
      (r.at ≡ length bytes)
      × ((number : List ℕ → ℕ) → Agrees number names → judgment C number goal bytes ≡ refused r n)
  IsFinal names goal bytes n (Err StopsNoMemory) = ⊥

-- why the check stops where the reader reports a fault
abbrev pub stop_of : StepFault → Stop
stop_of (ReaderRefused r) = StopsRefused r
stop_of ReaderNoMemory = StopsNoMemory

-- the answer where the check stopped
abbrev pub IsAnswerTo : Stop → Result Verdict VerifyRefusal → Type 0
IsAnswerTo (StopsRejected k) answer = answer ≡ Ok (Rejected k)
IsAnswerTo (StopsRefused r) answer = answer ≡ Err (Refused r)
IsAnswerTo StopsNoMemory answer = answer ≡ Err OutOfMemory
