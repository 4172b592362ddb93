use Rattle.clause_language.proofs.PrintFacts.{file-pieces}
use Rattle.clause_language.proofs.print.print_items.Goals as goal

pub returns : goal.returns
returns c =
    rw (c.in_ok-push_clauses.ensures, c.in_ok-push_declared.ensures, c.in_ok-push_logic.ensures, c.new-out.ensures.items)
    (file-pieces c.args.names.now c.args.logic c.args.declared.now c.args.clauses.now)
