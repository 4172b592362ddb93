-- Numbers that the steps of a derivation name: places and eigenvariables stay below the number of
-- the steps before.
use Rattle.std.specs.Prelude.{◌≡◌, ℕ, suc, ◌<◌, ◌≤◌, List, Some}
use Rattle.std.specs.List.{AllByRecursion}
use Rattle.fpc_terms.specs.Term.{InScope}
use Rattle.polarised_formulas.specs.declared.logic.Logic.{Logic}
use Rattle.polarised_formulas.specs.declared.step.Step.{Step}
use Rattle.polarised_formulas.specs.declared.step.Step.TheVariants.{Decide, Exists, Init, Cut}
use Rattle.polarised_formulas.specs.declared.step.Step.TheVariants.{DecideL, FocLEvery, FocRExists, FocRInit}
use Rattle.polarised_formulas.specs.Formula.{Formula, IsProper, IsOfLogic}
use Rattle.polarised_formulas.specs.Step.{IsStepOf}
use Rattle.polarised_formulas.specs.Calculus.Rules.{RuleCalculus, LevelledIn}

-- the step's place is below m, and so are the eigenvariables of its term or cut formula, which has
-- no variable and no free bound index; a cut formula is of the logic
abbrev pub IsWithin : ℕ → Logic → Step → Type 0
IsWithin m logic (Decide k) = k < m
IsWithin m logic (Init k) = k < m
IsWithin m logic (DecideL k) = k < m
IsWithin m logic (FocRInit k) = k < m
IsWithin m logic (Exists t) = InScope m t
IsWithin m logic (FocLEvery t) = InScope m t
IsWithin m logic (FocRExists t) = InScope m t
IsWithin m logic (Cut f) = IsProper (λ j. j < m) f × IsOfLogic logic f
IsWithin m logic _ = Unit {0}

-- A calculus whose steps raise the level and the number of stored formulas by at most one, and name
-- no place and no eigenvariable that is not below one of them.
pub record HasLowSteps (C : RuleCalculus) : Type 0 where
  -- how many formulas of a sequent are stored
  pub stored_in : C.SequentOf → ℕ
  pub root_is_low : (f : Formula) → stored_in (C.root_of f) ≡ 0
  pub step_is_low : (m : ℕ) (step : Step) (n : ℕ) (c : C.SequentOf) (ps : List (LevelledIn C))
      → n ≤ m → stored_in c ≤ m → C.premises_of step n c ≡ Some ps
      → IsStepOf C.logic step × IsWithin m C.logic step
      × AllByRecursion (λ p. (p.0 ≤ suc m) × (stored_in p.1 ≤ suc m)) ps
