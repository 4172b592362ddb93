-- Formulas and steps that are the same but for the numbers of names.
use Rattle.std.specs.Prelude.{ℕ, Bool}
use Rattle.fpc_terms.specs.Same.{SameTerm, SameArgs}
use Rattle.fpc_terms.specs.Term.{Term, Args}
use Rattle.polarised_formulas.specs.declared.logic.Polarity.{Polarity}
use Rattle.polarised_formulas.specs.declared.step.Step.{Step}
use Rattle.polarised_formulas.specs.declared.step.Step.TheVariants as step
use Rattle.polarised_formulas.specs.Formula.{Formula, truth, falsity, atom, conj, disj, implies, for_all, exists}

-- the two formulas are the same but for their names, which are related
pub data SameFormula (S : ℕ → ℕ → Type 0) : Formula → Formula → Type 0 where
  same_truth : (p : Polarity) → SameFormula S (truth p) (truth p)
  same_falsity : (p : Polarity) → SameFormula S (falsity p) (falsity p)
  same_atom : (positive : Bool) → {f g : ℕ} {ts us : Args} → S f g → SameArgs S ts us → SameFormula S (atom positive f ts) (atom positive g us)
  same_conj : (p : Polarity) → {a b c d : Formula} → SameFormula S a c → SameFormula S b d → SameFormula S (conj p a b) (conj p c d)
  same_disj : (p : Polarity) → {a b c d : Formula} → SameFormula S a c → SameFormula S b d → SameFormula S (disj p a b) (disj p c d)
  same_implies : {a b c d : Formula} → SameFormula S a c → SameFormula S b d → SameFormula S (implies a b) (implies c d)
  same_for_all : {a c : Formula} → SameFormula S a c → SameFormula S (for_all a) (for_all c)
  same_exists : {a c : Formula} → SameFormula S a c → SameFormula S (exists a) (exists c)

-- the step has no term and no formula
abbrev pub IsNameless : Step → Type 0
IsNameless (step.Exists t) = ⊥
IsNameless (step.FocLEvery t) = ⊥
IsNameless (step.FocRExists t) = ⊥
IsNameless (step.Cut f) = ⊥
IsNameless _ = Unit {0}

-- the two steps are the same but for the names in them, whose numbers are related
pub data SameStep (S : ℕ → ℕ → Type 0) : Step → Step → Type 0 where
  same_exists_step : {t u : Term} → SameTerm S t u → SameStep S (step.Exists t) (step.Exists u)
  same_left_every : {t u : Term} → SameTerm S t u → SameStep S (step.FocLEvery t) (step.FocLEvery u)
  same_right_exists : {t u : Term} → SameTerm S t u → SameStep S (step.FocRExists t) (step.FocRExists u)
  same_cut : {f g : Formula} → SameFormula S f g → SameStep S (step.Cut f) (step.Cut g)
  same_nameless : (s : Step) → IsNameless s → SameStep S s s
