use Rattle.std.proofs.Common.{rules, ◌≡◌, ◌+◌, ◌<◌, ◌∷◌, ◌++◌, [], drop, length, sym, ap, ◌∙◌}
use Rattle.std.proofs.lemmas.List.{drop_more}
use Rattle.clause_language.specs.Text.{declaration_before, declared_before}
use Rattle.clause_language.proofs.PrintFacts.{one-written, declaration-append}
use Rattle.clause_language.proofs.print.push_declared.Goals as goal

pub loop-one-preserved : goal.loop-one-preserved
loop-one-preserved c =
    let low : c.loop-one.one-index < length c.args.declared.now = search rules in
    let parts : drop c.loop-one.one-index c.args.declared.now ≡ c.one-item.result ∷ drop (c.loop-one.one-index + 1) c.args.declared.now =
    drop_more c.args.declared.now c.loop-one.one-index c.one-item.result low ∙ ap (λ one. one ∷ drop (c.loop-one.one-index + 1) c.args.declared.now) (sym c.one-item.is) in
    record {
      text = one-written _ _ (declaration_before c.args.names.now c.args.logic c.one-item.result) (declaration-append c.args.names.now c.args.logic c.one-item.result) (c.in_ok-push_declaration.ensures) (ap (λ ones. c.loop-one.out.items ++ declared_before c.args.names.now c.args.logic ones []) (sym parts) ∙ c.loop-one.invariant.text);
      named = (rw parts at c.loop-one.invariant.named).1;
    }
