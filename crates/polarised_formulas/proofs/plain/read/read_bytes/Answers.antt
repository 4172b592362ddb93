use Rattle.std.proofs.Common.{◌≡◌, suc, ◌+◌, length, refl, subst, arith}
use Rattle.std.proofs.Math.Seq.{drop-cons}
use Rattle.polarised_formulas.proofs.Taking.{ReadsTo, reads-added, reads-on, reads-stopped, reads-end}
use Rattle.polarised_formulas.proofs.plain.read.read_bytes.Goals as goal

pub returns-in-Err-clause-outcome : goal.returns-in-Err-clause-outcome
returns-in-Err-clause-outcome c =
    reads-stopped c.args.names.now c.loop-at.names c.take.new.names c.args.logic c.args.bytes.now c.loop-at.reader c.take.new.reader c.loop-at.at _ _ c.loop-at.invariant c.in-Err.ensures.grows
    (drop-cons c.args.bytes.now c.loop-at.at 0 c.loop-at-test.true) c.in-Err.refusal c.in-Err.ensures.taken c.loop-at-test.true

pub loop-at-preserved : goal.loop-at-preserved
loop-at-preserved c =
    let e : c.loop-at.at + 1 ≡ suc c.loop-at.at = omega arith in
    rw e (reads-on c.args.names.now c.loop-at.names c.take.new.names c.args.logic c.args.bytes.now c.loop-at.reader c.take.new.reader c.loop-at.at _ _ c.loop-at.invariant c.in-Ok.ensures.grows
    (drop-cons c.args.bytes.now c.loop-at.at 0 c.loop-at-test.true) c.in-Ok.ensures.taken c.in-Ok.ensures.small refl c.in-Ok.ensures.only)

pub returns-clause-outcome : goal.returns-clause-outcome
returns-clause-outcome c =
    let few = c.loop-at-test.false in
    let most = c.loop-at.auto.at-end in
    let e : c.loop-at.at ≡ length c.args.bytes.now = omega arith in
    reads-end c.args.names.now c.loop-at.names c.end.new.names c.args.logic c.args.bytes.now c.loop-at.reader
    (subst (ReadsTo c.args.names.now c.loop-at.names c.args.logic c.args.bytes.now c.loop-at.reader) e c.loop-at.invariant) c.end.ensures.grows c.end.result c.end.ensures.ended

pub returns-in-Err-clause-only : goal.returns-in-Err-clause-only
returns-in-Err-clause-only c =
    reads-added c.args.names.now c.loop-at.names c.take.new.names c.args.logic c.args.bytes.now c.loop-at.reader c.loop-at.at c.loop-at.invariant c.in-Err.ensures.grows c.in-Err.ensures.only

pub returns-clause-only : goal.returns-clause-only
returns-clause-only c =
    reads-added c.args.names.now c.loop-at.names c.end.new.names c.args.logic c.args.bytes.now c.loop-at.reader c.loop-at.at c.loop-at.invariant c.end.ensures.grows c.end.ensures.only
