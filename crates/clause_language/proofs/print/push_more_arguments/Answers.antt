use Rattle.std.proofs.Common.{rules, true, ◌≡◌, ◌+◌, ◌<◌, ◌∷◌, ◌++◌, [], drop, length, sym, ap, ◌∙◌}
use Rattle.std.proofs.lemmas.List.{drop_more}
use Rattle.fpc_terms.specs.Text.{name_in, plain_leaves, term_before, more_before}
use Rattle.polarised_formulas.proofs.PrintFacts.{term_before-append}
use Rattle.clause_language.specs.Text.{args_of}
use Rattle.clause_language.proofs.PrintFacts.{one-written, behind}
use Rattle.fpc_terms.proofs.PrintFacts.{StartsWith-more, StartsWith-written}
use Rattle.clause_language.proofs.print.push_more_arguments.Goals as goal

pub loop-term-preserved : goal.loop-term-preserved
loop-term-preserved c =
    let low : c.loop-term.term-index < length c.args.arguments.now = search rules in
    let parts : drop c.loop-term.term-index c.args.arguments.now ≡ c.term-item.result ∷ drop (c.loop-term.term-index + 1) c.args.arguments.now =
    drop_more c.args.arguments.now c.loop-term.term-index c.term-item.result low ∙ ap (λ one. one ∷ drop (c.loop-term.term-index + 1) c.args.arguments.now) (sym c.term-item.is) in
    record {
      text = one-written _ _ (λ bytes. 44 ∷ term_before (plain_leaves (name_in c.args.names.now)) c.term-item.result bytes) (λ xs ys. ap (λ bytes. 44 ∷ bytes) (term_before-append (plain_leaves (name_in c.args.names.now)) c.term-item.result xs ys)) (behind _ _ _ c.in_ok-push.ensures.items c.in_ok-print_term.ensures.ok) (ap (λ ones. c.loop-term.out.items ++ more_before (plain_leaves (name_in c.args.names.now)) (args_of ones) []) (sym parts) ∙ c.loop-term.invariant.text);
      front = StartsWith-more _ _ _
          (StartsWith-more _ _ _ c.loop-term.invariant.front (StartsWith-written true _ _ _ c.in_ok-push.ensures.items))
          (StartsWith-written true _ _ _ c.in_ok-print_term.ensures.ok);
      named = (rw parts at c.loop-term.invariant.named).1;
    }
