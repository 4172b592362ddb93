use Rattle.std.proofs.Common.{◌≡◌, ◌++◌, drop}
use Rattle.std.specs.Prelude.{false}
use Rattle.polarised_formulas.specs.declared.step.Step.TheVariants.{Init}
use Rattle.search_model.specs.GoalItems.{lists_in}
use Rattle.search_model.specs.Lines.{at_places, atom_term, closing_at, is_literal}
use Rattle.lkf_kernel.proofs.choices.closings_of.Given as goal

abbrev pub invariant-loop-place : goal.invariant-loop-place
invariant-loop-place l =
    lists_in l.lists
    ++ at_places (is_literal false l.name l.arguments) (λ j i. closing_at l.index i.index (atom_term i.formula) l.atom (Init j))
    l.place (drop l.place l.stored)
    ≡ at_places (is_literal false l.name l.arguments) (λ j i. closing_at l.index i.index (atom_term i.formula) l.atom (Init j))
    0 l.stored
