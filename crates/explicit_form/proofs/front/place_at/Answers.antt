use Rattle.std.proofs.Common.{◌+◌, refl, subst, slice_index_or}
use Rattle.explicit_form.proofs.Fronts.{IsInPlace, place-next, place-end, grown-some}
use Rattle.explicit_form.proofs.front.place_at.Goals as goal

pub returns-then-b-eq10 : goal.returns-then-b-eq10
returns-then-b-eq10 c =
    let b = slice_index_or c.args.bytes.now c.loop-n.n 0 in
    place-end c.args.bytes.now c.loop-n.place c.loop-n.n b c.loop-n.invariant c.loop-n-test.true refl c.if-b-eq10.true

pub loop-n-preserved : goal.loop-n-preserved
loop-n-preserved c =
    let b = slice_index_or c.args.bytes.now c.loop-n.n 0 in
    let g = grown-some c.loop-n.place b c.in-Some.grown c.with_digit.result c.with_digit.ensures c.in-Some.is in
    subst (λ k. IsInPlace c.args.bytes.now k (c.loop-n.n + 1)) g.1 (place-next c.args.bytes.now c.loop-n.place c.loop-n.n b c.loop-n.invariant c.loop-n-test.true refl g.0)
