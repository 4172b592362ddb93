-- Formulas that are the same by their names have the same text, each by its own table; and formulas with names in a table are the same as themselves.
use Rattle.std.proofs.Common.{◌≡◌, ℕ, suc, ◌<◌, List, ◌∷◌, ◌++◌, codes, ap, ap₂}
use Rattle.fpc_terms.proofs.SameTexts.{args_before-same, args_itself, args_named}
use Rattle.polarised_formulas.specs.declared.logic.Logic.{Logic}
use Rattle.polarised_formulas.specs.Formula.{Formula, truth, falsity, atom, conj, disj, implies, for_all, exists}
use Rattle.polarised_formulas.specs.PlainForm.{plain_formula}
use Rattle.polarised_formulas.specs.Printing.{AllNamesBelow}
use Rattle.polarised_formulas.specs.Same.{SameFormula, same_truth, same_falsity, same_atom, same_conj, same_disj, same_implies, same_for_all, same_exists}
use Rattle.polarised_formulas.specs.Text.{truth_text, falsity_text, mark_text, conj_text, disj_text, operator_before}

-- related numbers have one text, each by its own numbering
module _ {S : ℕ → ℕ → Type 0} (text other : ℕ → List ℕ) (named : (m n : ℕ) → S m n → text m ≡ other n) (logic : Logic) where
  pub formula_before-same : {f g : Formula} {rest more : List ℕ} (d : ℕ) → SameFormula S f g → rest ≡ more → plain_formula text logic d f rest ≡ plain_formula other logic d g more
  formula_before-same d (same_truth p) e = ap (λ w. truth_text p ++ w) e
  formula_before-same d (same_falsity p) e = ap (λ w. falsity_text logic p ++ w) e
  formula_before-same d (same_atom positive {f = f} {g = g} s hs) e =
      ap (λ w. mark_text logic positive ++ w) (ap₂ (λ x y. x ++ y) (named f g s) (args_before-same text other named hs e))
  formula_before-same d (same_conj p a b) e =
      ap (λ w. 40 ∷ w) (formula_before-same d a (ap (λ w. operator_before (conj_text p) w) (formula_before-same d b (ap (λ w. 41 ∷ w) e))))
  formula_before-same d (same_disj p a b) e =
      ap (λ w. 40 ∷ w) (formula_before-same d a (ap (λ w. operator_before (disj_text logic p) w) (formula_before-same d b (ap (λ w. 41 ∷ w) e))))
  formula_before-same d (same_implies a b) e =
      ap (λ w. 40 ∷ w) (formula_before-same d a (ap (λ w. operator_before (codes "=>") w) (formula_before-same d b (ap (λ w. 41 ∷ w) e))))
  formula_before-same d (same_for_all a) e = ap (λ w. codes "all " ++ w) (formula_before-same (suc d) a e)
  formula_before-same d (same_exists a) e = ap (λ w. codes "some " ++ w) (formula_before-same (suc d) a e)

module _ (S : ℕ → ℕ → Type 0) (n : ℕ) where
  -- where each number below n is related to itself
  module _ (self : (f : ℕ) → f < n → S f f) where
    pub formula_itself : (f : Formula) → AllNamesBelow n f → SameFormula S f f
    formula_itself (truth p) h = same_truth p
    formula_itself (falsity p) h = same_falsity p
    formula_itself (atom positive f ts) h = same_atom positive (self f h.0) (args_itself S n self ts h.1)
    formula_itself (conj p a b) h = same_conj p (formula_itself a h.0) (formula_itself b h.1)
    formula_itself (disj p a b) h = same_disj p (formula_itself a h.0) (formula_itself b h.1)
    formula_itself (implies a b) h = same_implies (formula_itself a h.0) (formula_itself b h.1)
    formula_itself (for_all a) h = same_for_all (formula_itself a h)
    formula_itself (exists a) h = same_exists (formula_itself a h)

  -- where what is related to any number is below n
  module _ (below : (f g : ℕ) → S f g → f < n) where
    pub formula_named : {f g : Formula} → SameFormula S f g → AllNamesBelow n f
    formula_named (same_truth p) = tt
    formula_named (same_falsity p) = tt
    formula_named (same_atom positive {f = f} {g = g} s hs) = (below f g s, args_named S n below hs)
    formula_named (same_conj p a b) = (formula_named a, formula_named b)
    formula_named (same_disj p a b) = (formula_named a, formula_named b)
    formula_named (same_implies a b) = (formula_named a, formula_named b)
    formula_named (same_for_all a) = formula_named a
    formula_named (same_exists a) = formula_named a
