use Rattle.clause_language.proofs.PrintFacts.{declaration-pieces}
use Rattle.clause_language.proofs.print.push_declaration.Goals as goal

pub returns : goal.returns
returns c =
    rw (c.in_ok-extend_from_slice-3.ensures.items, c.in_ok-push_named_formula.ensures.ok, c.in_ok-extend_from_slice-2.ensures.items, c.in_ok-push_parameters.ensures, c.in_ok-push_name.ensures.ok, c.in_ok-extend_from_slice.ensures.items)
    (declaration-pieces c.args.names.now c.args.logic c.args.out.now.items c.args.declared.now)
