use Rattle.std.proofs.Common.{◌≡◌}
use Rattle.std.proofs.lemmas.Result.{IfOk-weaker}
use Rattle.polarised_formulas.specs.References.{list_from, IsTail}
use Rattle.polarised_formulas.proofs.ReferenceFacts.{tail-of-tail}
use Rattle.polarised_formulas.proofs.references.jump_over.Goals as goal

pub returns-then-stride : goal.returns-then-stride
returns-then-stride g c =
    let list = list_from c.args.list.now in
    let second = c.in-Some-jump.second.value in
    let third = list_from c.jump-then-stride.result.now in
    let near : IsTail second c.in-Some.first.value =
    rw (c.deref.ensures, c.in-Some-jump.is) at c.jump.ensures.tail in
    let far : IsTail third second =
    rw c.deref-then-stride.ensures at c.jump-then-stride.ensures.tail in
    let all : IsTail third list = rw c.in-Some.is (tail-of-tail far near) in
    IfOk-weaker c.shared-then-stride.result (λ l. list_from l ≡ third) (λ l. IsTail (list_from l) list)
    (λ l e. rw e all) c.shared-then-stride.ensures
