-- What is told of a step at the sequents still to be derived.
use Rattle.std.specs.Prelude.{◌≡◌, List, ◌++◌, Option, Some, None, Result, Ok, Err}
use Rattle.polarised_formulas.specs.declared.step.Step.{Step}
use Rattle.lkf_rules.specs.declared.rules.outcome.StepRefusal.{StepRefusal}
use Rattle.lkf_rules.specs.declared.rules.outcome.StepRefusal.TheVariants.{DoesNotFit, OutOfMemory}
use Rattle.lkf_rules.specs.Sequent.{Levelled}
use Rattle.lkf_rules.specs.Lkf.{lkf}
use Rattle.lkf_rules.specs.Play.{PlaysOne}
use Rattle.explicit_kernel.specs.Progress.{MayRunOutAt}

-- the premises stand before the other sequents, where there are some
abbrev pub Replaces : Option (List Levelled) → List Levelled → List Levelled → Type 0
Replaces (Some ps) q r = r ≡ ps ++ q
Replaces None q r = ⊥

-- the answer to a step at sequents of which these were left where it fitted; memory runs out only
-- where it may
abbrev pub IsPlayed : Step → Result (Unit {0}) StepRefusal → List Levelled → List Levelled → Type 0
IsPlayed step (Ok u) q r = PlaysOne q step r
IsPlayed step (Err DoesNotFit) q r = (r : List Levelled) → PlaysOne q step r → ⊥
IsPlayed step (Err OutOfMemory) q r = MayRunOutAt lkf step q
