use Rattle.std.proofs.Common.{rules, ◌≡◌, ◌+◌, ◌≤◌, ◌∷◌, [], drop, sym, subst, ap, ◌∙◌}
use Rattle.std.proofs.lemmas.List.{drop_more, drop_all}
use Rattle.std.proofs.lemmas.List.Elements.{All-nil, All-cons}
use Rattle.clause_language.specs.declared.declaration.DeclaredFormula.{DeclaredFormula}
use Rattle.search_model.specs.TableLaws.{HaveFewParameters}
use Rattle.search_model.proofs.search.are_few.Goals as goal

pub loop-one-init : goal.loop-one-init
loop-one-init c = λ h. h

pub loop-one-preserved : goal.loop-one-preserved
loop-one-preserved c = λ h.
    let low = c.loop-one-test.true in
    let parts : drop c.loop-one.one-index c.args.declared.now ≡ c.one-item.result ∷ drop (c.loop-one.one-index + 1) c.args.declared.now =
    drop_more c.args.declared.now c.loop-one.one-index c.one-item.result low ∙ ap (λ one. one ∷ drop (c.loop-one.one-index + 1) c.args.declared.now) (sym c.one-item.is) in
    c.loop-one.invariant (subst HaveFewParameters (sym parts)
    (All-cons (λ (d : DeclaredFormula). d.parameters ≤ 255) c.one-item.result (drop (c.loop-one.one-index + 1) c.args.declared.now) c.is_few.ensures h))

pub returns : goal.returns
returns c =
    let all : drop c.loop-one.one-index c.args.declared.now ≡ [] = drop_all c.loop-one.one-index c.args.declared.now (search rules) in
    c.loop-one.invariant (subst HaveFewParameters (sym all) (All-nil (λ (d : DeclaredFormula). d.parameters ≤ 255)))
