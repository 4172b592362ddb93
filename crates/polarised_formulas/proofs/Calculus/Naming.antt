-- What a calculus owes to the law that the numbers of names don't matter.
use Rattle.std.proofs.Common.{◌≡◌, ℕ, nat_eq}
use Rattle.fpc_terms.specs.Same.{SameList, SameOption}
use Rattle.polarised_formulas.specs.declared.step.Step.{Step}
use Rattle.polarised_formulas.specs.Formula.{Formula}
use Rattle.polarised_formulas.specs.Calculus.Rules.{RuleCalculus}
use Rattle.polarised_formulas.specs.Same.{SameFormula}
use Rattle.polarised_formulas.specs.Same.{SameStep}

-- two values with one level are the same but for names where the values are
pub data SameLevelled {X : Type 0} (R : X → X → Type 0) : ℕ × X → ℕ × X → Type 0 where
  same_levelled : (n : ℕ) → {c d : X} → R c d → SameLevelled R (n, c) (n, d)

-- the relation of numbers is one to one
abbrev pub IsOneToOne : (ℕ → ℕ → Type 0) → Type 0
IsOneToOne S = (f g m n : ℕ) → S f m → S g n → nat_eq f g ≡ nat_eq m n

-- at sequents that are the same but for names, steps that are so name premises that are so
pub record RespectsNames (C : RuleCalculus) : Type 1 where
  pub SameSequent : (ℕ → ℕ → Type 0) → C.SequentOf → C.SequentOf → Type 0
  pub root_same : (S : ℕ → ℕ → Type 0) (f g : Formula) → SameFormula S f g
      → SameSequent S (C.root_of f) (C.root_of g)
  pub premises_same : (S : ℕ → ℕ → Type 0) → IsOneToOne S → (t u : Step) → SameStep S t u
      → (n : ℕ) (c d : C.SequentOf) → SameSequent S c d
      → SameOption (SameList (SameLevelled (SameSequent S))) (C.premises_of t n c) (C.premises_of u n d)
