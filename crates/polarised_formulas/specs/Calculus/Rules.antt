-- A calculus whose steps name instances of its rules.
use Rattle.std.specs.Prelude.{ℕ, List, Option}
use Rattle.polarised_formulas.specs.declared.logic.Logic.{Logic}
use Rattle.polarised_formulas.specs.declared.step.Step.{Step}
use Rattle.polarised_formulas.specs.Formula.{Formula}

-- What is read of a calculus: its logic, its sequents, its rules, and the premises that steps name.
pub record RuleCalculus : Type 1 where
  pub logic : Logic
  pub SequentOf : Type 0
  -- the root sequent of a goal
  pub root_of : Formula → SequentOf
  -- the instances of its rules, a conclusion and its premises
  pub RuleOf : SequentOf → List SequentOf → Type 0
  -- the premises, with their levels, of the instance that a step names at a sequent and its level;
  -- none where it names no instance
  pub premises_of : Step → ℕ → SequentOf → Option (List (ℕ × SequentOf))
  -- the sequent's eigenvariables are below its level
  pub IsScoped : ℕ × SequentOf → Type 0
  -- the sequent's formulas are of the logic
  pub IsOfItsLogic : SequentOf → Type 0

-- a sequent with its level, which is the number of steps on the way to it that raise it
abbrev pub LevelledIn : RuleCalculus → Type 0
LevelledIn C = ℕ × C.SequentOf
