use Rattle.std.proofs.lemmas.Result.{on_ok_weaker}
use Rattle.clause_language.proofs.PrintFacts.{arguments-written}
use Rattle.clause_language.proofs.print.push_arguments.Goals as goal

pub returns-in_ok-print_term-in-Some-clause-ok : goal.returns-in_ok-print_term-in-Some-clause-ok
returns-in_ok-print_term-in-Some-clause-ok c =
    on_ok_weaker c.push_more_arguments.result
    (arguments-written c.args.names.now c.args.out.now.items c.in-Some.first.now c.in-Some.rest.now c.args.arguments.now c.in-Some.ensures.cases.0 c.in_ok-push-in-Some.ensures.items c.in_ok-print_term-in-Some.ensures.ok)
    c.push_more_arguments.ensures.ok
