use Rattle.clause_language.proofs.PrintFacts.{clause-pieces}
use Rattle.clause_language.proofs.print.push_clause.Goals as goal

pub returns : goal.returns
returns c = rw (c.in_ok-extend_from_slice.ensures.items, c.in_ok-push_body.ensures, c.in_ok-print_atom.ensures.ok, c.items.ensures) (clause-pieces c.args.names.now c.args.out.now.items c.args.clause.now)
