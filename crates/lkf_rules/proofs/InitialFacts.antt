-- When a literal closes with a stored formula.
use Rattle.std.proofs.Common.{◌≡◌, ℕ, [], refl, subst, arith}
use Rattle.std.proofs.lemmas.Bool.{eq-eqb}
use Rattle.std.specs.Prelude.{◌↔◌, Bool, true, false, ◌&&◌, nat_eq, Some, None, IsTrue, if◌then◌else◌}
use Rattle.fpc_terms.specs.Term.{Args, same_args}
use Rattle.polarised_formulas.specs.Formula.{Formula, truth, falsity, atom, conj, disj, implies, for_all, exists, dual_of, root_node}
use Rattle.polarised_formulas.specs.Nodes.{node_dual}
use Rattle.polarised_formulas.specs.Held.{literal_arguments}
use Rattle.polarised_formulas.proofs.Leaves.{same_args-equal, same_args-reflexive}
use Rattle.lkf_rules.specs.Premises.{closed_with}

closes_if_same : (name other : ℕ) (ts us : Args) (b : Bool) → (nat_eq name other && same_args ts us) ≡ b → (atom false name ts ≡ atom false other us → ⊥) → b ≡ false
closes_if_same name other ts us true e h = absurd (h (grind (arith, same_args-equal ts us)))
closes_if_same name other ts us false e h = refl

-- a formula closes with nothing but its dual
closes-only_dual : (f g : Formula) → (dual_of f ≡ g → ⊥) → closed_with f (Some g) ≡ None
closes-only_dual (atom true name ts) (atom false other us) h =
    rw (closes_if_same name other ts us (nat_eq name other && same_args ts us) refl h)
closes-only_dual _ _ h = refl

-- a positive literal closes with its dual
pub closes-dual : (name : ℕ) (ts : Args) → closed_with (atom true name ts) (Some (atom false name ts)) ≡ Some []
closes-dual name ts = rw (eq-eqb name name refl, same_args-reflexive ts)

-- a positive literal closes with a formula of the dual shape exactly where the arguments are the same
alike : (name other : ℕ) (ts us : Args) (b : Bool) → name ≡ other → (IsTrue b ↔ (ts ≡ us)) → closed_with (atom true name ts) (Some (atom false other us)) ≡ (if b then Some [] else None)
alike name other ts us true e h = let same : ts ≡ us = h.0 refl in rw (← e, ← same) (closes-dual name ts)
alike name other ts us false e h =
    rw (closes_if_same name other ts us (nat_eq name other && same_args ts us) refl (λ x. let same : ts ≡ us = cc in let no : IsTrue false = h.1 same in cc)) refl

pub closes-alike : (name : ℕ) (ts : Args) (f g : Formula) (b : Bool) → f ≡ atom true name ts → node_dual (root_node f) ≡ root_node g
    → (IsTrue b ↔ (literal_arguments f ≡ literal_arguments g)) → closed_with (atom true name ts) (Some g) ≡ (if b then Some [] else None)
closes-alike name ts f (atom false other us) b e d h =
    alike name other ts us b (cc) (subst (λ x. IsTrue b ↔ (literal_arguments x ≡ us)) e h)
closes-alike name ts f (atom true other us) b e d h = let no : ⊥ = cc in absurd no
closes-alike name ts f (truth p) b e d h = let no : ⊥ = cc in absurd no
closes-alike name ts f (falsity p) b e d h = let no : ⊥ = cc in absurd no
closes-alike name ts f (conj p x y) b e d h = let no : ⊥ = cc in absurd no
closes-alike name ts f (disj p x y) b e d h = let no : ⊥ = cc in absurd no
closes-alike name ts f (implies x y) b e d h = let no : ⊥ = cc in absurd no
closes-alike name ts f (for_all x) b e d h = let no : ⊥ = cc in absurd no
closes-alike name ts f (exists x) b e d h = let no : ⊥ = cc in absurd no

-- and it closes with no formula of another shape
pub closes-unlike : (name : ℕ) (ts : Args) (f g : Formula) → f ≡ atom true name ts → (node_dual (root_node f) ≡ root_node g → ⊥) → closed_with (atom true name ts) (Some g) ≡ None
closes-unlike name ts f g e d = closes-only_dual (atom true name ts) g (λ same. d (rw (e, ← same) refl))
