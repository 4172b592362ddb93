-- What the table of rules answers to a step, and the premises that it so names.
use Rattle.std.specs.Prelude.{ℕ, ◌+◌, List, [], ◌∷◌, ◌++◌, Option, Some, None}
use Rattle.fpc_terms.specs.Term.{eigen}
use Rattle.polarised_formulas.specs.declared.logic.Side.TheVariants.{Left, Right}
use Rattle.polarised_formulas.specs.declared.step.Step.{Step}
use Rattle.polarised_formulas.specs.declared.step.Step.TheVariants as step
use Rattle.polarised_formulas.specs.Formula.{Formula, open_at}
use Rattle.polarised_formulas.specs.Parts.{left_of, right_of, body_of, IsPair, IsQuantified}
use Rattle.lkf_rules.specs.declared.rules.table.WorkEffect.{WorkEffect}
use Rattle.lkf_rules.specs.declared.rules.table.WorkEffect.TheVariants as work
use Rattle.lkf_rules.specs.declared.rules.table.FocusEffect.{FocusEffect}
use Rattle.lkf_rules.specs.declared.rules.table.FocusEffect.TheVariants as focus
use Rattle.lkf_rules.specs.Sequent.{Levelled, up, down}

-- the premises at level n, with the stored formulas s, where f is worked on first and g behind it
abbrev pub worked_by : Option WorkEffect → ℕ → List Formula → Formula → List Formula → Option (List Levelled)
worked_by None n s f g = None
worked_by (Some work.Close) n s f g = Some []
worked_by (Some work.Pass) n s f g = Some ((n, up s g) ∷ [])
worked_by (Some work.Both) n s f g = Some ((n, up s (left_of f ∷ right_of f ∷ g)) ∷ [])
worked_by (Some work.Split) n s f g = Some ((n, up s (left_of f ∷ g)) ∷ (n, up s (right_of f ∷ g)) ∷ [])
worked_by (Some work.Raise) n s f g = Some ((n + 1, up s (open_at 0 (eigen n) (body_of f) ∷ g)) ∷ [])
worked_by (Some work.Store) n s f g = Some ((n, up (s ++ f ∷ []) g) ∷ [])

-- the formula has the parts that the effect takes
abbrev pub IsWorkable : WorkEffect → Formula → Type 0
IsWorkable work.Both f = IsPair f
IsWorkable work.Split f = IsPair f
IsWorkable work.Raise f = IsQuantified f
IsWorkable _ f = Unit {0}

-- the premises at level n, with the stored formulas s, where f is under focus
abbrev pub focused_by : Option FocusEffect → ℕ → List Formula → Formula → Option (List Levelled)
focused_by None n s f = None
focused_by (Some focus.Close) n s f = Some []
focused_by (Some focus.Split) n s f = Some ((n, down s (left_of f)) ∷ (n, down s (right_of f)) ∷ [])
focused_by (Some (focus.Side Left)) n s f = Some ((n, down s (left_of f)) ∷ [])
focused_by (Some (focus.Side Right)) n s f = Some ((n, down s (right_of f)) ∷ [])
focused_by (Some focus.Release) n s f = Some ((n, up s (f ∷ [])) ∷ [])

-- the formula has the parts that the effect takes
abbrev pub IsFocusable : FocusEffect → Formula → Type 0
IsFocusable focus.Split f = IsPair f
IsFocusable (focus.Side side) f = IsPair f
IsFocusable _ f = Unit {0}

-- the step brings no term and names no stored formula
abbrev pub BringsNothing : Step → Type 0
BringsNothing (step.Exists t) = ⊥
BringsNothing (step.Init k) = ⊥
BringsNothing _ = Unit {0}
