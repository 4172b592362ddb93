use Rattle.fpc_terms.proofs.BuilderFacts.{innermost-first}
use Rattle.fpc_terms.proofs.builder.innermost.Goals as goal

pub returns-in-Some : goal.returns-in-Some
returns-in-Some c = λ base fs h.
    let top = c.in-Some.ensures.some in
    innermost-first c.args.cells.now c.args.places.now c.in-Some.at top.0 c.args.whole c.arguments_at.result base fs h top.1 c.arguments_at.ensures
