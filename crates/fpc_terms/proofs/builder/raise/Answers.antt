use Rattle.fpc_terms.proofs.BuilderFacts.{raised}
use Rattle.fpc_terms.proofs.builder.raise.Goals as goal

pub returns-then-at-len : goal.returns-then-at-len
returns-then-at-len c = λ front back f n few at.
    raised c.args.cells.now.items c.args.at c.index_mut.result.now c.raise_cell.new.cell front back f n c.index_mut.ensures.value (c.raise_cell.ensures f n few) at
