use Rattle.std.proofs.Common.{◌≡◌, ◌++◌, replicate, None}
use Rattle.search_model.proofs.calls.push_variables.Given as goal

abbrev pub invariant-loop : goal.invariant-loop
invariant-loop l = l.levels.items ≡ l.initial.levels.items ++ replicate l.counter None
