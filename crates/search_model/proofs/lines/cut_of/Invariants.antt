use Rattle.std.proofs.Common.{◌≡◌, replicate, Some}
use Rattle.search_model.specs.GoalItems.{list_in}
use Rattle.search_model.proofs.lines.cut_of.Given as goal

abbrev pub invariant-loop : goal.invariant-loop
invariant-loop g l =
    list_in l.goals ≡ record (list_in l.initial.goals) { new = replicate l.counter (Some l.level) }
