-- The end of `verify` is that of the check of an open certificate.
use Rattle.std.specs.Prelude.{◌≡◌, ℕ, false, List, [], ◌∷◌, ◌++◌, length, Option, Some, None, Result, Ok, Err, OnOk, IfOk, IfErr, is_err}
use Rattle.std.proofs.Common.{refl, subst, sym, ap, ◌∙◌, append-nil, inl, inr}
use Rattle.fpc_base.specs.Lexeme.{items_of}
use Rattle.fpc_base.specs.Reading.{ReadsAll}
use Rattle.fpc_base.specs.Outside.{Outside, Content, untold, missing, holds, IsAtStartOf, IsAtEnd, TakesFront}
use Rattle.fpc_terms.specs.Name.{Agrees, AreDifferent, Grows}
use Rattle.polarised_formulas.specs.declared.logic.Logic.TheVariants.{Lkf}
use Rattle.polarised_formulas.specs.Formula.{Formula, IsClosed, IsLkf}
use Rattle.polarised_formulas.specs.ReadProblem.{ProblemIsRead}
use Rattle.polarised_formulas.specs.Place.{ProblemLimits}
use Rattle.polarised_formulas.specs.Written.{IsProblem}
use Rattle.polarised_formulas.specs.declared.logic.Logic.{Logic}
use Rattle.polarised_formulas.proofs.Standing.{Agrees-grows}
use Rattle.explicit_kernel.specs.Judgment.{Judgment, accepted, rejected, refused, judged as shown_judgment, course_of, judgment}
use Rattle.explicit_kernel.specs.Verdict.{IsJudged, IsRight, HasReason}
use Rattle.explicit_kernel.specs.declared.verify.Verdict.{Verdict}
use Rattle.explicit_kernel.specs.declared.verify.Verdict.TheVariants.{Accepted as AcceptedBy, Rejected as RejectedAt}
use Rattle.explicit_kernel.specs.declared.verify.VerifyRefusal.{VerifyRefusal}
use Rattle.explicit_kernel.specs.declared.verify.VerifyRefusal.TheVariants.{Refused as RefusedAt, ReadFault as Fault, OutOfMemory as NoMemory}
use Rattle.fpc_cli.specs.declared.answer.Answer.{Answer}
use Rattle.fpc_cli.specs.declared.answer.Answer.TheVariants.{Accepted, Rejected, Refused, ReadFault, OutOfMemory}
use Rattle.fpc_cli.specs.declared.answer.Role.TheVariants.{Explicit}
use Rattle.fpc_cli.specs.Grammars.{IsProblemOf, lkf_problem}
use Rattle.fpc_cli.specs.Held.{MayHold, left_of}
use Rattle.fpc_cli.specs.Command.{verify}
use Rattle.fpc_cli.specs.Inputs.{stream, IsOpened, IsReadWhole, Comes}
use Rattle.fpc_cli.specs.Run.{IsCaused}
use Rattle.fpc_cli.specs.commands.Verify.{IsProved, IsVerdict, IsCounted, VerifyEnds, EndsVerify, IsAnswerOf}

pub from-ok : {T E P : Type 0} (r : Result T E) → is_err r ≡ false → OnOk r P → P
from-ok (Ok t) e p = p
from-ok (Err x) e p = let n : ⊥ = cc in absurd n

-- a problem of LKF that is read is one
pub read-problem : (bytes : List ℕ) (names : List (List ℕ)) (goal : Formula) (h : ProblemIsRead (items_of bytes) names Lkf goal) → IsProblemOf bytes h.written.formula
read-problem bytes names goal h =
    subst (λ (l : Logic). ReadsAll IsProblem ProblemLimits [] (items_of bytes) (record { logic = l; formula = h.written.formula })) (sym h.in_logic) h.reads

pub read-whole : (bytes : List ℕ) (names : List (List ℕ)) (goal : Formula) → ProblemIsRead (items_of bytes) names Lkf goal → lkf_problem.IsWhole bytes
read-whole bytes names goal h = (h.written.formula, read-problem bytes names goal h)

-- a goal stays read as the table grows
pub read-grows : (known names : List (List ℕ)) (bytes : List ℕ) (goal : Formula) → Grows known names → ProblemIsRead (items_of bytes) known Lkf goal
    → ProblemIsRead (items_of bytes) names Lkf goal
read-grows known names bytes goal grows h = record {
  written = h.written;
  reads = h.reads;
  in_logic = h.in_logic;
  meant = λ number agrees. h.meant number (Agrees-grows known names number grows agrees);
}

-- the bytes that were taken from an open file, and those that are left, are those that it holds
held-so : (c : Content) (old new : Option (List ℕ)) (taken : List ℕ) → IsAtStartOf c old → TakesFront old taken new → MayHold c (taken ++ left_of new)
held-so untold old new taken h t = tt
held-so missing old new taken h t = absurd h
held-so (holds b) old new taken h t = by new (subst (λ o. TakesFront o taken new) h t)
  where
    by : (n : Option (List ℕ)) → TakesFront (Some b) taken n → MayHold (holds b) (taken ++ left_of n)
    by None k = absurd k
    by (Some left) k = k

-- bytes that show a judgment keep it
abbrev pub JudgmentStays : Type 0
JudgmentStays = (number : List ℕ → ℕ) (goal : Formula) (front more : List ℕ) (j : Judgment) → course_of number goal front ≡ shown_judgment j → judgment number goal (front ++ more) ≡ j

-- at the end nothing is left
nothing-left : (new : Option (List ℕ)) → IsAtEnd new → left_of new ≡ []
nothing-left None h = refl
nothing-left (Some left) h = h

module _ (names : List (List ℕ)) (differ : AreDifferent names) (goal : Formula) (problem : List ℕ) (read : ProblemIsRead (items_of problem) names Lkf goal)
    (closed : IsClosed goal) (lkf : IsLkf goal) (explicit : Content) (old new : Outside) (start : IsAtStartOf explicit old.left) (none : new.opened ≡ old.opened)
    (before now : ℕ) (judgment_stays : JudgmentStays) where
  ends-by : (verdict : Result Verdict VerifyRefusal) (h : IsJudged names goal old.left new.left before now verdict) (answer : Answer) → IsProved goal answer
      → IsCounted answer old.faults new.faults
      → ((number : List ℕ → ℕ) → Agrees number names → IsVerdict answer (course_of number goal h.bytes) (length h.bytes) (judgment number goal (h.bytes ++ left_of new.left)))
      → VerifyEnds problem explicit old new answer
  ends-by verdict h answer proved counted judged = record {
    names = names;
    different = differ;
    goal = goal;
    read = read;
    closed = closed;
    lkf = lkf;
    proved = proved;
    taken = h.bytes;
    held = held-so explicit old.left new.left h.bytes start h.taken;
    judged = judged;
    counted = counted;
    none = none;
  }

  whole : (bytes : List ℕ) (number : List ℕ → ℕ) (j : Judgment) → IsAtEnd new.left → judgment number goal bytes ≡ j
      → judgment number goal (bytes ++ left_of new.left) ≡ j
  whole bytes number j e h = ap (judgment number goal) (ap (λ l. bytes ++ l) (nothing-left new.left e) ∙ append-nil bytes) ∙ h

  ends-verdict : (verdict : Result Verdict VerifyRefusal) (answer : Answer) → IsAnswerOf verdict answer → IsJudged names goal old.left new.left before now verdict
      → IfOk verdict (IsRight goal) → OnOk verdict (new.faults ≡ old.faults) → IfErr verdict (HasReason old.faults new.faults)
      → VerifyEnds problem explicit old new answer
  ends-verdict (Ok (AcceptedBy n)) answer is h right same reason =
      rw is (ends-by (Ok (AcceptedBy n)) h (Accepted n) right same (λ number agrees. let s = h.shown number agrees in whole h.bytes number (accepted n) s.1 s.0))
  ends-verdict (Ok (RejectedAt k)) answer is h right same reason =
      rw is (ends-by (Ok (RejectedAt k)) h (Rejected k) tt same (λ number agrees.
      let s = h.shown number agrees in
      (s.0, (judgment_stays number goal h.bytes (left_of new.left) (rejected k s.0) s.1.0, s.1.1))))
  ends-verdict (Err (RefusedAt r)) answer is h right same reason =
      rw is (ends-by (Err (RefusedAt r)) h (Refused Explicit r) tt reason (λ number agrees.
      let s = h.shown number agrees in (
        s.0,
        (
          elim s.1.1 [
            | inl end ↦ whole h.bytes number (refused r s.0) end s.1.0
            | inr shown ↦ judgment_stays number goal h.bytes (left_of new.left) (refused r s.0) shown
          ],
          s.1.2,
        ),
      )))
  ends-verdict (Err Fault) answer is h right same reason =
      rw is (ends-by (Err Fault) h ReadFault tt reason (λ number agrees. let s = h.shown number agrees in (s.0, (s.1.0, (s.1.1.0, s.1.1.1.0)))))
  ends-verdict (Err NoMemory) answer is h right same reason = rw is (ends-by (Err NoMemory) h OutOfMemory tt reason (λ number agrees. tt))

pub ends-so : JudgmentStays → (known names : List (List ℕ)) → Grows known names → AreDifferent names → (goal : Formula) (problem : List ℕ)
    → ProblemIsRead (items_of problem) known Lkf goal → IsClosed goal → IsLkf goal → (explicit : Content) (old new : Outside) → IsAtStartOf explicit old.left
    → new.opened ≡ old.opened → (before now : ℕ) (verdict : Result Verdict VerifyRefusal) (answer : Answer) → IsAnswerOf verdict answer
    → IsJudged names goal old.left new.left before now verdict → IfOk verdict (IsRight goal) → OnOk verdict (new.faults ≡ old.faults)
    → IfErr verdict (HasReason old.faults new.faults) → VerifyEnds problem explicit old new answer
ends-so stays known names grows differ goal problem read closed lkf explicit old new start none before now verdict answer is h right same reason =
    ends-verdict names differ goal problem (read-grows known names problem goal grows read) closed lkf explicit old new start none before now stays verdict answer is h right same reason

-- a certificate that was opened is checked to the end
pub comes-by : (content later : List ℕ → Content) → later ≡ content → (name bytes : List ℕ) (old mid new : Outside) (answer : Answer)
    → IsOpened (content name) name old mid → VerifyEnds bytes (later name) mid new answer
    → Comes content (EndsVerify (content name)) (bytes ∷ []) (stream name ∷ []) old new answer
comes-by content later same name bytes old mid new answer opened ends =
    inr (mid, ([], ((refl, opened), subst (λ (X : List ℕ → Content). VerifyEnds bytes (X name) mid new answer) same ends)))

-- a problem that was read is followed by its certificate
pub caused-by : (content later : List ℕ → Content) → later ≡ content → (problem explicit : List ℕ) (old mid new : Outside) (answer : Answer)
    → (names : List (List ℕ)) (goal : Formula)
    → (read : (bytes : List ℕ) × (IsReadWhole (content problem) problem old mid bytes × ProblemIsRead (items_of bytes) names Lkf goal))
    → ((bytes : List ℕ) → ProblemIsRead (items_of bytes) names Lkf goal
    → Comes later (EndsVerify (later explicit)) (bytes ∷ []) (stream explicit ∷ []) mid new answer)
    → IsCaused (verify problem explicit) content old new answer
caused-by content later same problem explicit old mid new answer names goal (bytes, (whole, read)) comes =
    inr (
      mid,
      (
        bytes,
        (
          (whole, read-whole bytes names goal read),
          subst (λ (X : List ℕ → Content). Comes X (EndsVerify (X explicit)) (bytes ∷ []) (stream explicit ∷ []) mid new answer) same (comes bytes read),
        ),
      ),
    )
