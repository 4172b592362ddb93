use Rattle.std.proofs.lemmas.Result.{on_ok_weaker}
use Rattle.clause_language.proofs.PrintFacts.{body-written}
use Rattle.clause_language.proofs.print.push_body.Goals as goal

pub returns-in_ok-print_atom-in-Some : goal.returns-in_ok-print_atom-in-Some
returns-in_ok-print_atom-in-Some c =
    on_ok_weaker c.push_more_atoms.result
    (body-written c.args.names.now c.args.out.now.items c.in-Some.first.now c.in-Some.rest.now c.args.body.now c.in-Some.ensures.cases.0 c.in_ok-extend_from_slice-in-Some.ensures.items c.in_ok-print_atom-in-Some.ensures.ok)
    c.push_more_atoms.ensures
