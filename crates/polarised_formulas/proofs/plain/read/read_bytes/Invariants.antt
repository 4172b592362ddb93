use Rattle.polarised_formulas.proofs.Taking.{ReadsTo}
use Rattle.polarised_formulas.proofs.plain.read.read_bytes.Given as goal

abbrev pub invariant-loop-at : goal.invariant-loop-at
invariant-loop-at l = ReadsTo l.fn.names l.names l.fn.logic l.fn.bytes l.reader l.at
