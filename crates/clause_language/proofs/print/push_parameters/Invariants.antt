use Rattle.std.proofs.Common.{◌≡◌, ◌-◌, ◌++◌, []}
use Rattle.clause_language.specs.Text.{parameters_before, more_parameters_before}
use Rattle.clause_language.proofs.print.push_parameters.Given as goal

abbrev pub invariant-loop-k : goal.invariant-loop-k
invariant-loop-k l = l.out.items ++ more_parameters_before l.k (l.parameters - l.k) [] ≡ l.fn.out.items ++ parameters_before l.parameters []
