use Rattle.std.proofs.Common.{rules, ◌≡◌, ◌+◌, ◌<◌, ◌∷◌, ◌++◌, [], drop, length, sym, ap, ◌∙◌}
use Rattle.std.proofs.lemmas.List.{drop_more}
use Rattle.clause_language.specs.Text.{clause_before, clauses_before}
use Rattle.clause_language.proofs.PrintFacts.{one-written, clause-append}
use Rattle.clause_language.proofs.print.push_clauses.Goals as goal

pub loop-clause-preserved : goal.loop-clause-preserved
loop-clause-preserved c =
    let low : c.loop-clause.clause-index < length c.args.clauses.now = search rules in
    let parts : drop c.loop-clause.clause-index c.args.clauses.now ≡ c.clause-item.result ∷ drop (c.loop-clause.clause-index + 1) c.args.clauses.now =
    drop_more c.args.clauses.now c.loop-clause.clause-index c.clause-item.result low ∙ ap (λ one. one ∷ drop (c.loop-clause.clause-index + 1) c.args.clauses.now) (sym c.clause-item.is) in
    record {
      text = one-written _ _ (clause_before c.args.names.now c.clause-item.result) (clause-append c.args.names.now c.clause-item.result) (c.in_ok-push_clause.ensures) (ap (λ ones. c.loop-clause.out.items ++ clauses_before c.args.names.now ones []) (sym parts) ∙ c.loop-clause.invariant.text);
      named = (rw parts at c.loop-clause.invariant.named).1;
    }
