use Rattle.std.proofs.Common.{◌≤◌, length}
use Rattle.polarised_formulas.proofs.references.Link.+drop.Given as goal

abbrev pub invariant-loop-outer : goal.invariant-loop-outer
invariant-loop-outer g l = length l.self ≤ length l.initial.self
