use Rattle.std.proofs.Common.{◌≡◌, length}
use Rattle.polarised_formulas.specs.Bound.{outermost}
use Rattle.polarised_formulas.proofs.bound.BoundNames.keep.Given as goal

abbrev pub invariant-loop : goal.invariant-loop
invariant-loop l = outermost l.count l.fn.self ≡ outermost l.count l.self

abbrev pub decreases-loop : goal.decreases-loop
decreases-loop l = length l.self
