use Rattle.std.proofs.Common.{◌-◌, length}
use Rattle.polarised_formulas.proofs.PlainRuns.{IsPast}
use Rattle.polarised_formulas.proofs.plain.reader.PlainReader.pieces.Given as goal

abbrev pub invariant-loop-passed : goal.invariant-loop-passed
invariant-loop-passed l = IsPast l.fn.names l.names l.fn.self l.self l.bytes l.passed

abbrev pub decreases-loop-passed : goal.decreases-loop-passed
decreases-loop-passed l = length l.bytes - l.passed
