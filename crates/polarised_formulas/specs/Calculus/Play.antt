-- Play: steps in preorder replace the first of a list of sequents by the premises of the instance
-- that they name.
use Rattle.std.specs.Prelude.{◌≡◌, ℕ, List, [], ◌∷◌, ◌++◌, Some}
use Rattle.polarised_formulas.specs.declared.step.Step.{Step}
use Rattle.polarised_formulas.specs.Formula.{Formula}
use Rattle.polarised_formulas.specs.Calculus.Rules.{RuleCalculus, LevelledIn}

-- a step plays a list of sequents with their levels to another
pub data PlaysOne (C : RuleCalculus) : List (LevelledIn C) → Step → List (LevelledIn C) → Type 0 where
  plays : {n : ℕ} {c : C.SequentOf} {step : Step} {ps q : List (LevelledIn C)}
      → C.premises_of step n c ≡ Some ps → PlaysOne C ((n, c) ∷ q) step (ps ++ q)

-- steps play a list of sequents to another, in order
pub data Plays (C : RuleCalculus) : List (LevelledIn C) → List Step → List (LevelledIn C) → Type 0 where
  plays_none : {q : List (LevelledIn C)} → Plays C q [] q
  plays_more : {q r t : List (LevelledIn C)} {step : Step} {steps : List Step}
      → PlaysOne C q step r → Plays C r steps t → Plays C q (step ∷ steps) t

module _ (C : RuleCalculus) where
  -- the goal's root sequent at level 0, alone
  abbrev pub start_of : Formula → List (LevelledIn C)
  start_of f = (0, C.root_of f) ∷ []

  -- the steps play the goal's root to nothing
  abbrev pub PlaysOut : Formula → List Step → Type 0
  PlaysOut f steps = Plays C (start_of f) steps []

  -- the step fits: it plays the list to another
  abbrev pub Fits : List (LevelledIn C) → Step → Type 0
  Fits q step = (r : List (LevelledIn C)) × PlaysOne C q step r
