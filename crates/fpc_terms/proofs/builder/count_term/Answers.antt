use Rattle.fpc_terms.proofs.BuilderFacts.{counted}
use Rattle.fpc_terms.proofs.builder.count_term.Goals as goal

pub returns-in-Some : goal.returns-in-Some
returns-in-Some c = λ t base fs h.
    let top = c.in-Some.ensures.some in
    counted t c.args.cells.now.items c.raise.new.cells.items c.args.places.now c.in-Some.at top.0 c.args.whole.now base fs h top.1 c.raise.ensures
