-- How many ticks a verdict tells.
use Rattle.std.proofs.Common.{◌≡◌, ℕ, ◌+◌, inl, inr, List, ◌++◌, length, Option, Some, Ok, Err, ap, ◌∙◌, append-nil}
use Rattle.fpc_base.specs.declared.refusal.Refusal.{Refusal}
use Rattle.fpc_terms.specs.Name.{Agrees, AreDifferent}
use Rattle.polarised_formulas.specs.Formula.{Formula}
use Rattle.polarised_formulas.specs.Numbering.{number_in}
use Rattle.polarised_formulas.proofs.Numberings.{Agrees-number_in}
use Rattle.explicit_kernel.specs.Judgment.{refused, judgment}
use Rattle.explicit_kernel.specs.Verdict.{IsJudged}
use Rattle.explicit_kernel.proofs.JudgmentLaws.{judgment_stays}
use Rattle.explicit_kernel.specs.declared.verify.Verdict.TheVariants.{Accepted, Rejected}
use Rattle.explicit_kernel.specs.declared.verify.VerifyRefusal.TheVariants.{Refused}

module _ (names : List (List ℕ)) (differ : AreDifferent names) (goal : Formula) (old new : Option (List ℕ)) (before now : ℕ) where
  -- an accepted certificate has as many as steps
  pub ticks-accepted : (n : ℕ) → IsJudged names goal old new before now (Ok (Accepted n)) → now ≡ before + n
  ticks-accepted n h = (h.shown (number_in (length names) names) (Agrees-number_in (length names) names differ)).2

  -- a rejected one has as many as there are steps before the one that is told
  pub ticks-rejected : (k : ℕ) → IsJudged names goal old new before now (Ok (Rejected k)) → now + 1 ≡ before + k
  ticks-rejected k h = (h.shown (number_in (length names) names) (Agrees-number_in (length names) names differ)).1.2

-- a refused one has as many as the judgment of the whole certificate says
pub ticks-refused : (names : List (List ℕ)) (goal : Formula) (all left : List ℕ) (before now : ℕ) (r : Refusal) → IsJudged names goal (Some all) (Some left) before now (Err (Refused r)) → (number : List ℕ → ℕ) → Agrees number names
    → (n : ℕ) × ((judgment number goal all ≡ refused r n) × (now ≡ before + n))
ticks-refused names goal all left before now r h number agrees =
    let s = h.shown number agrees in (
      s.0,
      (
        ap (judgment number goal) h.taken ∙ elim s.1.1 [
          | inl end ↦ ap (λ l. judgment number goal (h.bytes ++ l)) end ∙ ap (judgment number goal) (append-nil h.bytes) ∙ s.1.0
          | inr shown ↦ judgment_stays number goal h.bytes left (refused r s.0) shown
        ],
        s.1.3,
      ),
    )
