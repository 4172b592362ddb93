-- How far the check of an explicit certificate has come.
use Rattle.std.specs.Prelude.{◌≡◌, ◌≢◌, ℕ, ◌+◌, List, [], length, Option, Some, None}
use Rattle.polarised_formulas.specs.declared.step.Step.{Step}
use Rattle.polarised_formulas.specs.declared.step.Step.TheVariants.{Cut}
use Rattle.polarised_formulas.specs.Formula.{Formula}
use Rattle.polarised_formulas.specs.Calculus.Rules.{RuleCalculus, LevelledIn}
use Rattle.polarised_formulas.specs.Calculus.Certificate.{IsSpelling}
use Rattle.polarised_formulas.specs.Calculus.Play.{PlaysOne, Fits}
use Rattle.lkf_rules.specs.Lkf.{lkf}

module _ (C : RuleCalculus) where
  -- the step, if any, was played and counted: from sequents, with so many steps before, to others
  abbrev pub Follows : Option Step → List (LevelledIn C) → ℕ → List (LevelledIn C) → ℕ → Type 0
  Follows None q before r now = (r ≡ q) × (now ≡ before)
  Follows (Some step) q before r now = PlaysOne C q step r × (now ≡ before + 1)

  -- there is a step, and it does not fit
  abbrev pub IsUnfit : Option Step → List (LevelledIn C) → Type 0
  IsUnfit None q = ⊥
  IsUnfit (Some step) q = (r : List (LevelledIn C)) → PlaysOne C q step r → ⊥

  -- Where memory may run out in playing a step at sequents: at `cut` already in the test of its
  -- formula, unless no sequent is left, at every other step only where it fits.
  abbrev pub MayRunOutAt : Step → List (LevelledIn C) → Type 0
  MayRunOutAt (Cut b) q = q ≢ []
  MayRunOutAt step q = Fits C q step

  -- there is a step, and memory may run out in playing it
  abbrev pub IsShort : Option Step → List (LevelledIn C) → Type 0
  IsShort None q = ⊥
  IsShort (Some step) q = MayRunOutAt step q

  -- the goal has a spelling of so many steps
  abbrev pub HasSpellingIn : Formula → ℕ → Type 0
  HasSpellingIn f n = (steps : List Step) × IsSpelling C f steps × (length steps ≡ n)

-- the goal has a spelling in LKF of so many steps
abbrev pub HasSpelling : Formula → ℕ → Type 0
HasSpelling f n = HasSpellingIn lkf f n
