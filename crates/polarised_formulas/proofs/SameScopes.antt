-- The tests of scope on terms and formulas that are the same but for the numbers of names.
use Rattle.std.proofs.Common.{◌≡◌, ℕ, suc, ◌&&◌, refl, ap₂}
use Rattle.fpc_terms.specs.Term.{Term, Args}
use Rattle.fpc_terms.specs.Same.{SameTerm, SameArgs, same_eigen, same_bound, same_variable, same_app, same_no_args, same_arg}
use Rattle.polarised_formulas.specs.declared.logic.Logic.{Logic}
use Rattle.polarised_formulas.specs.Formula.{Formula}
use Rattle.polarised_formulas.specs.Scope.{is_scoped, are_scoped, has_implication, has_disjunction, may_be_cut}
use Rattle.polarised_formulas.specs.Same.{SameFormula, same_truth, same_falsity, same_atom, same_conj, same_disj, same_implies, same_for_all, same_exists}

module _ (S : ℕ → ℕ → Type 0) where
  mutual
    pub is_scoped-same : (n d : ℕ) {t u : Term} → SameTerm S t u → is_scoped n d t ≡ is_scoped n d u
    is_scoped-same n d (same_eigen k) = refl
    is_scoped-same n d (same_bound k) = refl
    is_scoped-same n d (same_variable k) = refl
    is_scoped-same n d (same_app s hs) = are_scoped-same n d hs

    pub are_scoped-same : (n d : ℕ) {ts us : Args} → SameArgs S ts us → are_scoped n d ts ≡ are_scoped n d us
    are_scoped-same n d same_no_args = refl
    are_scoped-same n d (same_arg h hs) = ap₂ (λ a b. a && b) (is_scoped-same n d h) (are_scoped-same n d hs)

  pub may_be_cut-same : (l : Logic) (n d : ℕ) {f g : Formula} → SameFormula S f g → may_be_cut l n d f ≡ may_be_cut l n d g
  may_be_cut-same l n d (same_truth p) = refl
  may_be_cut-same l n d (same_falsity p) = refl
  may_be_cut-same l n d (same_atom positive s hs) = are_scoped-same n d hs
  may_be_cut-same l n d (same_conj p h k) = ap₂ (λ a b. a && b) (may_be_cut-same l n d h) (may_be_cut-same l n d k)
  may_be_cut-same l n d (same_disj p h k) = ap₂ (λ a b. has_disjunction l p && (a && b)) (may_be_cut-same l n d h) (may_be_cut-same l n d k)
  may_be_cut-same l n d (same_implies h k) = ap₂ (λ a b. has_implication l && (a && b)) (may_be_cut-same l n d h) (may_be_cut-same l n d k)
  may_be_cut-same l n d (same_for_all h) = may_be_cut-same l n (suc d) h
  may_be_cut-same l n d (same_exists h) = may_be_cut-same l n (suc d) h
