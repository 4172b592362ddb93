use Rattle.std.proofs.Common.{ℕ, List, sym, subst, ◌∙◌}
use Rattle.fpc_base.specs.Outside.{Content, IsAtStartOf}
use Rattle.fpc_cli.proofs.commands.VerifyFacts.{from-ok, comes-by}
use Rattle.fpc_cli.proofs.commands.verify.checked.Goals as goal

pub returns-clause-comes : goal.returns-clause-comes
returns-clause-comes g c = λ bytes read.
    let before = c.args.files.now in
    let mid = c.open.new.self in
    let after = c.judged.new.files in
    let ok = sym c.is_err.ensures.value ∙ c.if-is_err.false in
    let start = from-ok c.open.result ok c.open.ensures.opened in
    comes-by (g.F.Source.outside before).content (g.F.Source.outside mid).content c.open.ensures.content
    c.args.name.now bytes
    (g.F.Source.outside before)
    (g.F.Source.outside mid)
    (g.F.Source.outside after)
    c.judged.result
    (record {
      start = start;
      named = from-ok c.open.result ok c.open.ensures.named;
      calm = from-ok c.open.result ok c.open.ensures.ok_count;
    })
    (c.judged.ensures.ends bytes c.args.name.now read
    (subst (λ (X : List ℕ → Content). IsAtStartOf (X c.args.name.now) (g.F.Source.outside mid).left)
    (sym c.open.ensures.content) start))
