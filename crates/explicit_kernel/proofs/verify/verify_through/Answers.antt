use Rattle.std.proofs.Common.{◌++◌, [], take, refl, sym, subst, arith}
use Rattle.std.proofs.lemmas.List.{length-append}
use Rattle.fpc_base.specs.Outside.{TakesFront}
use Rattle.fpc_base.proofs.Moves.{TakesFront-nothing, TakesFront-more}
use Rattle.fpc_terms.proofs.AddingFacts.{AddsOnly-same}
use Rattle.polarised_formulas.specs.Adding.{IsPartOf}
use Rattle.explicit_kernel.proofs.NamesAdded.{added-all, added-none, added-end}
use Rattle.explicit_kernel.proofs.Judging.{judged-memory, judged-fault, judged-accepted, judged-unfinished, judged-stop}
use Rattle.explicit_kernel.proofs.verify.verify_through.Goals as goal

pub returns-in-Err-clause-judged : goal.returns-in-Err-clause-judged
returns-in-Err-clause-judged g c = judged-memory g.P.Pending.calculus c.args.names.now c.args.goal.now (g.S.Source.outside c.args.source.now).left c.args.steps.now

pub loop-names-init : goal.loop-names-init
loop-names-init g c = (
  ([], (TakesFront-nothing (g.S.Source.outside c.args.source.now).left, (c.in-Ok.ensures.come c.args.names.now, (omega arith, AddsOnly-same (IsPartOf []) c.args.names.now)))),
  λ k text h. h,
  omega (arith, c.in-Ok.ensures.fitted),
  refl,
  refl,
  refl,
)

pub returns-in-Ok-finish-clause-judged : goal.returns-in-Ok-finish-clause-judged
returns-in-Ok-finish-clause-judged g c =
    let r = c.loop-names.invariant.0 in
    judged-accepted g.P.Pending.calculus c.loop-names.names c.args.goal.now (g.S.Source.outside c.args.source.now).left (g.S.Source.outside c.loop-names.source).left (g.S.Source.outside c.read.new.self).left c.args.steps.now c.loop-names.steps r.0 c.loop-names.check.reader (g.P.Pending.sequents_of c.loop-names.check.play.pending) c.loop-names.check.play.fitted r.1.0 r.1.1.0
    c.loop-names.invariant.2 (c.in-Ok-eq0.ensures.end c.in-Ok-eq0.field-0-test)
    (subst (λ n. TakesFront (g.S.Source.outside c.loop-names.source).left (take n c.read.new.buf) (g.S.Source.outside c.read.new.self).left) c.in-Ok-eq0.field-0-test c.in-Ok-eq0.ensures.taken)
    c.in-Ok-finish.steps (c.in-Ok-finish.ensures c.loop-names.names c.args.goal.now r.0 c.distinct.ensures r.1.1.0)

pub returns-in-Err-finish-clause-judged : goal.returns-in-Err-finish-clause-judged
returns-in-Err-finish-clause-judged g c =
    let r = c.loop-names.invariant.0 in
    judged-unfinished g.P.Pending.calculus c.loop-names.names c.args.goal.now (g.S.Source.outside c.args.source.now).left (g.S.Source.outside c.loop-names.source).left (g.S.Source.outside c.read.new.self).left c.args.steps.now c.loop-names.steps r.0 c.loop-names.check.reader (g.P.Pending.sequents_of c.loop-names.check.play.pending) c.loop-names.check.play.fitted r.1.0 r.1.1.0
    c.loop-names.invariant.2 (c.in-Ok-eq0.ensures.end c.in-Ok-eq0.field-0-test)
    (subst (λ n. TakesFront (g.S.Source.outside c.loop-names.source).left (take n c.read.new.buf) (g.S.Source.outside c.read.new.self).left) c.in-Ok-eq0.field-0-test c.in-Ok-eq0.ensures.taken)
    c.in-Err-finish.stop c.answer_to.result (c.in-Err-finish.ensures c.loop-names.names c.args.goal.now r.0 c.distinct.ensures r.1.1.0) c.answer_to.ensures

pub loop-names-smaller : goal.loop-names-smaller
loop-names-smaller g c =
    let r = c.loop-names.invariant.0 in
    let come = c.in-Ok-take_piece.ensures.come c.args.goal.now r.0 r.1.1.0 in
    let l = length-append r.0 c.split_at.result.0.now in
    let old_place = r.1.1.0.read.place in
    let new_place = come.read.place in
    let short = come.short in
    omega (arith, l, old_place, new_place, short, c.split_at.ensures.front_len, c.in-Ok-read.n-test)

pub loop-names-preserved : goal.loop-names-preserved
loop-names-preserved g c =
    let r = c.loop-names.invariant.0 in
    let l = length-append r.0 c.split_at.result.0.now in
    let few = r.1.1.1.0 in (
      (
        r.0 ++ c.split_at.result.0.now,
        (
          TakesFront-more (g.S.Source.outside c.args.source.now).left (g.S.Source.outside c.loop-names.source).left (g.S.Source.outside c.read.new.self).left r.0 c.split_at.result.0.now r.1.0
              (subst (λ bs. TakesFront (g.S.Source.outside c.loop-names.source).left bs (g.S.Source.outside c.read.new.self).left) (sym c.split_at.ensures.front) c.in-Ok-read.ensures.taken),
          (
            c.in-Ok-take_piece.ensures.come c.args.goal.now r.0 r.1.1.0,
            (
              omega (arith, c.in-Ok-read.ensures.calls, l, few, c.split_at.ensures.front_len, c.in-Ok-read.n-test),
              added-all r.0 c.split_at.result.0.now c.args.names.now c.loop-names.names c.take_piece.new.names r.1.1.1.1 (c.in-Ok-take_piece.ensures.only c.args.goal.now r.0 r.1.1.0),
            ),
          ),
        ),
      ),
      λ k text h. c.in-Ok-take_piece.ensures.grows k text (c.loop-names.invariant.1 k text h),
      omega (arith, c.in-Ok-take_piece.ensures.ticks, c.loop-names.invariant.2),
      cc (c.in-Ok-read.ensures.ok_count, c.loop-names.invariant.3),
      cc (c.in-Ok-read.ensures.content, c.loop-names.invariant.4),
      cc (c.in-Ok-read.ensures.opened, c.loop-names.invariant.5),
    )

pub returns-in-Err-take_piece-clause-judged : goal.returns-in-Err-take_piece-clause-judged
returns-in-Err-take_piece-clause-judged g c =
    let r = c.loop-names.invariant.0 in
    judged-stop g.P.Pending.calculus c.take_piece.new.names c.args.goal.now (g.S.Source.outside c.args.source.now).left (g.S.Source.outside c.loop-names.source).left (g.S.Source.outside c.read.new.self).left c.args.steps.now c.take_piece.new.steps r.0 c.split_at.result.0.now
    c.take_piece.new.self.play.fitted c.in-Err-take_piece.stop c.answer_to-in-Err-take_piece.result r.1.0
    (subst (λ bs. TakesFront (g.S.Source.outside c.loop-names.source).left bs (g.S.Source.outside c.read.new.self).left) (sym c.split_at.ensures.front) c.in-Ok-read.ensures.taken)
    (omega (arith, c.split_at.ensures.front_len, c.in-Ok-read.ensures.within, c.read.auto.buf, c.loop-names.auto.buffer, c.requires.buffer)) (omega (arith, c.in-Err-take_piece.ensures.ticks, c.loop-names.invariant.2))
    (c.in-Err-take_piece.ensures.stopped c.args.goal.now r.0 r.1.1.0) c.answer_to-in-Err-take_piece.ensures

pub returns-in-Err-read-clause-judged : goal.returns-in-Err-read-clause-judged
returns-in-Err-read-clause-judged g c =
    let r = c.loop-names.invariant.0 in
    judged-fault g.P.Pending.calculus c.loop-names.names c.args.goal.now (g.S.Source.outside c.args.source.now).left (g.S.Source.outside c.loop-names.source).left (g.S.Source.outside c.read.new.self).left c.args.steps.now c.loop-names.steps r.0 c.loop-names.check.reader (g.P.Pending.sequents_of c.loop-names.check.play.pending) c.loop-names.check.play.fitted r.1.0 r.1.1.0
    c.loop-names.invariant.2 c.in-Err-read.ensures.none_taken

pub returns-in-Err-clause-only : goal.returns-in-Err-clause-only
returns-in-Err-clause-only g c = added-none c.args.names.now (g.S.Source.outside c.args.source.now).left

pub returns-in-Ok-finish-clause-only : goal.returns-in-Ok-finish-clause-only
returns-in-Ok-finish-clause-only g c =
    let r = c.loop-names.invariant.0 in
    added-end c.args.names.now c.loop-names.names (g.S.Source.outside c.args.source.now).left (g.S.Source.outside c.loop-names.source).left (g.S.Source.outside c.read.new.self).left r.0 r.1.0 r.1.1.1.1
    (subst (λ n. TakesFront (g.S.Source.outside c.loop-names.source).left (take n c.read.new.buf) (g.S.Source.outside c.read.new.self).left) c.in-Ok-eq0.field-0-test c.in-Ok-eq0.ensures.taken)

pub returns-in-Err-finish-clause-only : goal.returns-in-Err-finish-clause-only
returns-in-Err-finish-clause-only g c =
    let r = c.loop-names.invariant.0 in
    added-end c.args.names.now c.loop-names.names (g.S.Source.outside c.args.source.now).left (g.S.Source.outside c.loop-names.source).left (g.S.Source.outside c.read.new.self).left r.0 r.1.0 r.1.1.1.1
    (subst (λ n. TakesFront (g.S.Source.outside c.loop-names.source).left (take n c.read.new.buf) (g.S.Source.outside c.read.new.self).left) c.in-Ok-eq0.field-0-test c.in-Ok-eq0.ensures.taken)

pub returns-in-Err-take_piece-clause-only : goal.returns-in-Err-take_piece-clause-only
returns-in-Err-take_piece-clause-only g c =
    let r = c.loop-names.invariant.0 in
    record {
      bytes = r.0 ++ c.split_at.result.0.now;
      taken = TakesFront-more (g.S.Source.outside c.args.source.now).left (g.S.Source.outside c.loop-names.source).left (g.S.Source.outside c.read.new.self).left r.0 c.split_at.result.0.now r.1.0
          (subst (λ bs. TakesFront (g.S.Source.outside c.loop-names.source).left bs (g.S.Source.outside c.read.new.self).left) (sym c.split_at.ensures.front) c.in-Ok-read.ensures.taken);
      only = added-all r.0 c.split_at.result.0.now c.args.names.now c.loop-names.names c.take_piece.new.names r.1.1.1.1 (c.in-Err-take_piece.ensures.only c.args.goal.now r.0 r.1.1.0);
    }

pub returns-in-Err-read-clause-only : goal.returns-in-Err-read-clause-only
returns-in-Err-read-clause-only g c =
    let r = c.loop-names.invariant.0 in
    record {
      bytes = r.0;
      taken = subst (TakesFront (g.S.Source.outside c.args.source.now).left r.0) (sym c.in-Err-read.ensures.none_taken) r.1.0;
      only = r.1.1.1.1;
    }
