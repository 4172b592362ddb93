-- What the code's values mean: sequents with their levels, premises, and the answer to a step.
use Rattle.std.specs.Prelude.{◌≡◌, List, [], ◌∷◌, Option, Some, None, Result, Ok, Err}
use Rattle.std.specs.Option.{IsSome}
use Rattle.lkf_rules.specs.declared.sequent.Sequent as code
use Rattle.lkf_rules.specs.declared.sequent.Sequent.TheVariants.{Up, Down}
use Rattle.lkf_rules.specs.declared.rules.outcome.Premises.{Premises}
use Rattle.lkf_rules.specs.declared.rules.outcome.Premises.TheVariants.{None as NoPremise, One, Two}
use Rattle.lkf_rules.specs.declared.rules.outcome.StepRefusal.{StepRefusal}
use Rattle.lkf_rules.specs.declared.rules.outcome.StepRefusal.TheVariants.{DoesNotFit, OutOfMemory}
use Rattle.polarised_formulas.specs.declared.step.Step.{Step}
use Rattle.polarised_formulas.specs.declared.step.Step.TheVariants.{Cut}
use Rattle.lkf_rules.specs.Sequent.{Levelled, up, down}

-- the sequent with its level
abbrev pub levelled : code.Sequent → Levelled
levelled (Up level stored work) = (level, up stored work)
levelled (Down level stored focus) = (level, down stored focus)

-- the premises with their levels, in order
abbrev pub premise_list : Premises → List Levelled
premise_list NoPremise = []
premise_list (One a) = levelled a ∷ []
premise_list (Two a b) = levelled a ∷ levelled b ∷ []

-- The answer to a step that names these premises, or none. Memory runs out only where it names some.
abbrev pub Gives : Result Premises StepRefusal → Option (List Levelled) → Type 0
Gives (Ok p) o = o ≡ Some (premise_list p)
Gives (Err DoesNotFit) o = o ≡ None
Gives (Err OutOfMemory) o = IsSome o

-- where memory may run out: at `cut` already in the test of the formula, at every other step only where the step names premises
abbrev pub MayRunOut : Step → Option (List Levelled) → Type 0
MayRunOut (Cut b) o = Unit {0}
MayRunOut _ o = IsSome o

-- the answer to this step, which names these premises, or none
abbrev pub Answers : Step → Result Premises StepRefusal → Option (List Levelled) → Type 0
Answers step (Ok p) o = o ≡ Some (premise_list p)
Answers step (Err DoesNotFit) o = o ≡ None
Answers step (Err OutOfMemory) o = MayRunOut step o
