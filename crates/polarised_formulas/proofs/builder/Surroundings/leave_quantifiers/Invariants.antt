use Rattle.std.proofs.Common.{◌≡◌, length}
use Rattle.polarised_formulas.specs.Unfinished.{unders_left}
use Rattle.polarised_formulas.proofs.builder.Surroundings.leave_quantifiers.Given as goal

abbrev pub invariant-loop : goal.invariant-loop
invariant-loop l = unders_left l.self ≡ unders_left l.fn.self

abbrev pub decreases-loop : goal.decreases-loop
decreases-loop l = length l.self
