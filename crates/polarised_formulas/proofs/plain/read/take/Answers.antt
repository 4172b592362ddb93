use Rattle.std.proofs.Common.{arith}
use Rattle.polarised_formulas.proofs.Taking.{goes-inside}
use Rattle.polarised_formulas.proofs.plain.read.take.Goals as goal

pub returns-in-Ok-Going-clause-taken : goal.returns-in-Ok-Going-clause-taken
returns-in-Ok-Going-clause-taken c = λ number logic q a h.
    let small = c.if-at-ge-MOST_BYTES.false in
    goes-inside logic q c.args.at c.byte.new.self _ (rw c.in-Ok-Going.field-0-is at (c.in-Ok-Going.ensures.next number logic q a h)) (omega arith)
