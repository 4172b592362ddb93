-- `verify`: the verdict on an explicit certificate for a problem of LKF.
use Rattle.std.specs.Prelude.{◌≡◌, ℕ, ◌+◌, ◌≤◌, List, [], ◌∷◌, ◌++◌, length, Result, Ok, Err}
use Rattle.fpc_base.specs.Lexeme.{items_of}
use Rattle.fpc_base.specs.Outside.{Outside, Content, holds, Rose}
use Rattle.fpc_terms.specs.Name.{Agrees, AreDifferent}
use Rattle.polarised_formulas.specs.declared.logic.Logic.TheVariants.{Lkf}
use Rattle.polarised_formulas.specs.Formula.{Formula, IsClosed, IsLkf}
use Rattle.polarised_formulas.specs.PlainForm.{GivesBack}
use Rattle.polarised_formulas.specs.ReadProblem.{ProblemIsRead}
use Rattle.polarised_formulas.specs.Written.{WrittenFormula, formula_meant}
use Rattle.lkf_rules.specs.Derivation.{IsDerivable}
use Rattle.lkf_rules.specs.Sequent.{Levelled}
use Rattle.explicit_form.specs.StepReading.{State}
use Rattle.explicit_kernel.specs.Judgment.{Judgment, accepted, rejected, refused, Course, going, course_of, judgment}
use Rattle.explicit_kernel.specs.Progress.{HasSpelling}
use Rattle.explicit_kernel.specs.Verdict.{most_ahead}
use Rattle.explicit_kernel.specs.declared.verify.Verdict.{Verdict}
use Rattle.explicit_kernel.specs.declared.verify.Verdict.TheVariants.{Accepted as AcceptedBy, Rejected as RejectedAt}
use Rattle.explicit_kernel.specs.declared.verify.VerifyRefusal.{VerifyRefusal}
use Rattle.explicit_kernel.specs.declared.verify.VerifyRefusal.TheVariants.{Refused as RefusedAt, ReadFault as Fault, OutOfMemory as NoMemory}
use Rattle.fpc_cli.specs.declared.answer.Answer.{Answer}
use Rattle.fpc_cli.specs.declared.answer.Answer.TheVariants.{Accepted, Rejected, Refused, ReadFault, OutOfMemory}
use Rattle.fpc_cli.specs.declared.answer.Role.TheVariants.{Problem, Explicit}
use Rattle.fpc_cli.specs.Grammars.{lkf_problem, IsProblemOf}
use Rattle.fpc_cli.specs.Held.{MayHold, left_of}
use Rattle.fpc_cli.specs.Inputs.{source, stream, Task}

-- the goal has a spelling of so many steps, and is derivable, where the certificate is accepted
abbrev pub IsProved : Formula → Answer → Type 0
IsProved goal (Accepted n) = HasSpelling goal n × IsDerivable goal
IsProved goal _ = Unit {0}

-- The answer is the judgment of the certificate, and not too much was taken after the place where a
-- rejection or a refusal lies. Before a failed read what was taken shows neither.
abbrev pub IsVerdict : Answer → Course → (taken : ℕ) → Judgment → Type 0
IsVerdict (Accepted n) course taken j = j ≡ accepted n
IsVerdict (Rejected k) course taken j =
    (place : ℕ) × ((j ≡ rejected k place) × (taken ≤ place + 1 + most_ahead))
IsVerdict (Refused Explicit r) course taken j =
    (fitted : ℕ) × ((j ≡ refused r fitted) × (taken ≤ r.at + 1 + most_ahead))
IsVerdict ReadFault course taken j =
    (st : State) × ((q : List Levelled) × ((n : ℕ) × (course ≡ going st q n)))
IsVerdict OutOfMemory course taken j = Unit {0}
IsVerdict _ course taken j = ⊥

-- the count of faults rose where the answer is a read fault, and else it is as it was
abbrev pub IsCounted : Answer → (before now : ℕ) → Type 0
IsCounted ReadFault before now = Rose before now
IsCounted _ before now = now ≡ before

-- The result: some bytes were taken of the certificate's file, and no file was opened. By the
-- numbers of names in a table the problem's bytes have a goal, which is closed and of LKF, and the
-- answer is the judgment of the certificate for it. An accepted goal has a spelling and a
-- derivation.
pub record VerifyEnds (problem : List ℕ) (explicit : Content) (old new : Outside) (answer : Answer)
    : Type 0 where
  pub names : List (List ℕ)
  pub different : AreDifferent names
  pub goal : Formula
  pub read : ProblemIsRead (items_of problem) names Lkf goal
  pub closed : IsClosed goal
  pub lkf : IsLkf goal
  pub proved : IsProved goal answer
  pub taken : List ℕ
  pub held : MayHold explicit (taken ++ left_of new.left)
  pub judged : (number : List ℕ → ℕ) → Agrees number names
      → IsVerdict answer (course_of number goal taken) (length taken)
      (judgment number goal (taken ++ left_of new.left))
  pub counted : IsCounted answer old.faults new.faults
  pub none : new.opened ≡ old.opened

-- so, of the two inputs
abbrev pub EndsVerify : Content → List (List ℕ) → Outside → Outside → Answer → Type 0
EndsVerify explicit (problem ∷ taken ∷ []) old new answer =
    VerifyEnds problem explicit old new answer
EndsVerify explicit _ old new answer = ⊥

-- the answer that a judgment is
abbrev pub answer_due : Judgment → Answer
answer_due (accepted n) = Accepted n
answer_due (rejected k place) = Rejected k
answer_due (refused r fitted) = Refused Explicit r

-- The answer is the judgment of the bytes that the certificate's file holds, by whatever numbering
-- gives names back.
abbrev pub VerifyIsDue : Content → List (List ℕ) → Answer → Type 0
VerifyIsDue explicit (problem ∷ taken ∷ []) answer =
    (w : WrittenFormula) (bytes : List ℕ) → IsProblemOf problem w → explicit ≡ holds bytes
    → (text : ℕ → List ℕ) (number : List ℕ → ℕ) → GivesBack text number
    → answer ≡ answer_due (judgment number (formula_meant number [] [] w) bytes)
VerifyIsDue explicit _ answer = ⊥

-- `verify` reads a problem of LKF, and then takes the certificate's bytes as they come
abbrev pub verify_task : (problem explicit : List ℕ) → Task
verify_task problem explicit = record {
  inputs = source Problem problem (λ earlier. lkf_problem) ∷ stream explicit ∷ [];
  Ends = λ content. EndsVerify (content explicit);
  Due = λ content. VerifyIsDue (content explicit);
}

-- the answer that a verdict is
abbrev pub IsAnswerOf : Result Verdict VerifyRefusal → Answer → Type 0
IsAnswerOf (Ok (AcceptedBy n)) a = a ≡ Accepted n
IsAnswerOf (Ok (RejectedAt k)) a = a ≡ Rejected k
IsAnswerOf (Err (RefusedAt r)) a = a ≡ Refused Explicit r
IsAnswerOf (Err Fault) a = a ≡ ReadFault
IsAnswerOf (Err NoMemory) a = a ≡ OutOfMemory
