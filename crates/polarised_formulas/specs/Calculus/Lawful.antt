-- What a calculus owes the theory of its derivations.
use Rattle.std.specs.Prelude.{◌≡◌, ℕ, ◌+◌, ◌≤◌, List, map, Some}
use Rattle.std.specs.List.{AllByRecursion}
use Rattle.polarised_formulas.specs.declared.step.Step.{Step}
use Rattle.polarised_formulas.specs.Formula.{Formula, IsClosed, IsOfLogic}
use Rattle.polarised_formulas.specs.Calculus.Rules.{RuleCalculus, LevelledIn}

-- each of some sequents with their levels is in scope
abbrev pub AreScoped : (C : RuleCalculus) → List (LevelledIn C) → Type 0
AreScoped C q = AllByRecursion C.IsScoped q

-- the formulas of each of them are of the calculus's logic
abbrev pub AreOfItsLogic : (C : RuleCalculus) → List (LevelledIn C) → Type 0
AreOfItsLogic C q = AllByRecursion (λ p. C.IsOfItsLogic p.1) q

-- no level is above n
abbrev pub AreLow : (C : RuleCalculus) → ℕ → List (LevelledIn C) → Type 0
AreLow C n q = AllByRecursion (λ p. p.0 ≤ n) q

-- these premises of a sequent with its level keep what it has
pub record Keeps (C : RuleCalculus) (n : ℕ) (c : C.SequentOf) (ps : List (LevelledIn C)) : Type 0 where
  -- at a sequent in scope they are those of an instance of a rule
  pub rule : C.IsScoped (n, c) → C.RuleOf c (map (λ p. p.1) ps)
  -- scope and logic are kept
  pub scope : C.IsScoped (n, c) → AreScoped C ps
  pub logic : C.IsOfItsLogic c → AreOfItsLogic C ps
  -- the level rises by at most one
  pub levels : AreLow C (n + 1) ps

-- The premises that steps name keep what their sequent has, and the root sequent of a goal has it.
pub record IsLawful (C : RuleCalculus) : Type 0 where
  pub keeps : (step : Step) (n : ℕ) (c : C.SequentOf) (ps : List (LevelledIn C))
      → C.premises_of step n c ≡ Some ps → Keeps C n c ps
  pub root_scope : (f : Formula) → IsClosed f → C.IsScoped (0, C.root_of f)
  pub root_logic : (f : Formula) → IsOfLogic C.logic f → C.IsOfItsLogic (C.root_of f)
