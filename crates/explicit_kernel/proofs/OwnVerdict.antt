-- What `verify` answers where the source holds the text of steps that spell a derivation.
use Rattle.std.proofs.Common.{◌≡◌, ◌⊎◌, inl, inr, ℕ, ◌+◌, List, [], ◌++◌, length, Option, Some, None, Result, Ok, Err, refl, sym, ap, ◌∙◌, arith, append-nil}
use Rattle.fpc_base.specs.declared.refusal.Refusal.{Refusal}
use Rattle.fpc_base.specs.Outside.{TakesFront, IsAtEnd}
use Rattle.fpc_terms.specs.Name.{Agrees}
use Rattle.polarised_formulas.specs.Calculus.Lawful.{IsLawful}
use Rattle.polarised_formulas.specs.Calculus.Low.{HasLowSteps}
use Rattle.polarised_formulas.specs.Calculus.Rules.{RuleCalculus}
use Rattle.polarised_formulas.specs.Formula.{Formula}
use Rattle.polarised_formulas.specs.Numbering.{number_in, text_in}
use Rattle.polarised_formulas.specs.PlainLimits.{IsNumbering}
use Rattle.polarised_formulas.proofs.Numberings.{GivesBack-number_in, Agrees-number_in}
use Rattle.explicit_kernel.specs.JudgmentIn.{Judgment, accepted, rejected, refused, judged, course_of, judgment}
use Rattle.explicit_kernel.specs.OwnText.{IsAcceptedOr, OwnTextIsVerified}
use Rattle.explicit_kernel.specs.VerdictIn.{IsShown}
use Rattle.explicit_kernel.specs.declared.verify.Verdict.{Verdict}
use Rattle.explicit_kernel.specs.declared.verify.Verdict.TheVariants.{Accepted, Rejected}
use Rattle.explicit_kernel.specs.declared.verify.VerifyRefusal.{VerifyRefusal}
use Rattle.explicit_kernel.specs.declared.verify.VerifyRefusal.TheVariants.{Refused, ReadFault, OutOfMemory}
use Rattle.explicit_kernel.proofs.JudgmentLaws.{judgment_stays_in}
use Rattle.explicit_kernel.proofs.OwnText.{own_text_is_accepted}

-- the number of steps is told by the judgment
one-count : (m n : ℕ) → accepted m ≡ accepted n → m ≡ n
one-count m n e = cc

not-rejected : (j : Judgment) (n k place : ℕ) → j ≡ accepted n → j ≡ rejected k place → ⊥
not-rejected j n k place e f = let no : ⊥ = cc in no

not-refused : (j : Judgment) (n fitted : ℕ) (r : Refusal) → j ≡ accepted n → j ≡ refused r fitted → ⊥
not-refused j n fitted r e f = let no : ⊥ = cc in no

module _ (C : RuleCalculus) (number : List ℕ → ℕ) (goal : Formula) (n before now : ℕ) (bytes left : List ℕ) (is : judgment C number goal (bytes ++ left) ≡ accepted n) where
  -- where nothing is left the bytes are all there are
  at-end : left ≡ [] → judgment C number goal bytes ≡ accepted n
  at-end e = ap (judgment C number goal) (sym (append-nil bytes) ∙ ap (λ v. bytes ++ v) (sym e)) ∙ is

  told : (answer : Result Verdict VerifyRefusal) → IsShown (course_of C number goal bytes) (length bytes) (Some left) before now answer → IsAcceptedOr n (Some left) before now answer
  told (Ok (Accepted m)) h = let e = one-count m n (sym h.0 ∙ at-end h.1) in inl (ap (λ k. Ok (Accepted k)) e, ap Some h.1, h.2 ∙ ap (λ k. before + k) e)
  told (Ok (Rejected k)) h = absurd (not-rejected (judgment C number goal (bytes ++ left)) n k h.0 is (judgment_stays_in C number goal bytes left (rejected k h.0) h.1.0))
  told (Err (Refused r)) h = absurd (by h.1.1)
    where
      by : IsAtEnd (Some left) ⊎ (course_of C number goal bytes ≡ judged (refused r h.0)) → ⊥
      by (inl e) = not-refused (judgment C number goal bytes) n h.0 r (at-end e) h.1.0
      by (inr e) = not-refused (judgment C number goal (bytes ++ left)) n h.0 r is (judgment_stays_in C number goal bytes left (refused r h.0) e)
  told (Err ReadFault) h = inr (inl refl)
  told (Err OutOfMemory) h = inr (inr refl)

pub own_text_is_verified : (C : RuleCalculus) → HasLowSteps C → IsLawful C → OwnTextIsVerified C
own_text_is_verified C low lawful names goal steps bytes h new differ grows left before now answer j = by left j.taken (j.shown number agrees)
  where
    number : List ℕ → ℕ
    number = number_in (length new) new

    agrees : Agrees number new
    agrees = Agrees-number_in (length new) new differ

    numbering : IsNumbering names number
    numbering = (λ k text got. agrees k text (grows k text got), (text_in (length new) new, GivesBack-number_in (length new) new (omega arith)))

    by : (l : Option (List ℕ)) → TakesFront (Some bytes) j.bytes l → IsShown (course_of C number goal j.bytes) (length j.bytes) l before now answer → IsAcceptedOr (length steps) l before now answer
    by None taken shown = absurd taken
    by (Some l) taken shown =
        told C number goal (length steps) before now j.bytes l (ap (judgment C number goal) (sym taken) ∙ own_text_is_accepted C low lawful names goal steps bytes h number numbering) answer shown
