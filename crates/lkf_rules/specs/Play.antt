-- Play in LKF: that of any calculus, at the premises that steps name in LKF.
use Rattle.std.specs.Prelude.{List}
use Rattle.polarised_formulas.specs.declared.step.Step.{Step}
use Rattle.polarised_formulas.specs.Formula.{Formula}
use Rattle.polarised_formulas.specs.Calculus.Play.{PlaysOne as PlaysOneIn, Plays as PlaysIn, start_of as start_in, PlaysOut as PlaysOutIn, Fits as FitsIn}
pub use Rattle.polarised_formulas.specs.Calculus.Play.{plays, plays_none, plays_more}
use Rattle.lkf_rules.specs.Sequent.{Levelled}
use Rattle.lkf_rules.specs.Lkf.{lkf}

-- a step plays a list of sequents with their levels to another
abbrev pub PlaysOne : List Levelled → Step → List Levelled → Type 0
PlaysOne q step r = PlaysOneIn lkf q step r

-- steps play a list of sequents to another, in order
abbrev pub Plays : List Levelled → List Step → List Levelled → Type 0
Plays q steps r = PlaysIn lkf q steps r

-- the goal's root sequent at level 0, alone
abbrev pub start_of : Formula → List Levelled
start_of f = start_in lkf f

-- the steps play the goal's root to nothing
abbrev pub PlaysOut : Formula → List Step → Type 0
PlaysOut f steps = PlaysOutIn lkf f steps

-- the step fits: it plays the list to another
abbrev pub Fits : List Levelled → Step → Type 0
Fits q step = FitsIn lkf q step
