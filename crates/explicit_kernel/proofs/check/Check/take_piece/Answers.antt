use Rattle.std.proofs.Common.{◌++◌, ◌-◌, take, drop, length, subst, arith}
use Rattle.std.proofs.lemmas.List.{take_all, length-append}
use Rattle.explicit_kernel.specs.Check.{HasCome}
use Rattle.explicit_kernel.proofs.NamesAdded.{added-piece}
use Rattle.explicit_kernel.proofs.Judging.{stopped-from, come-taken, whole-is}
use Rattle.explicit_kernel.proofs.check.Check.take_piece.Goals as goal

pub take_line-requires-clause-under_way : goal.take_line-requires-clause-under_way
take_line-requires-clause-under_way g c =
    let u = c.requires.under_way in (u.0, u.1 ++ take c.loop-fed.fed c.args.piece.now, c.loop-fed.invariant.2 u.0 u.1 u.2)

pub loop-fed-preserved : goal.loop-fed-preserved
loop-fed-preserved g c = (
  λ k text h. c.in-Ok.ensures.grows k text (c.loop-fed.invariant.0 k text h),
  omega (arith, c.in-Ok.ensures.within, c.loop-fed.invariant.1),
  λ goal before come.
      come-taken g.P.Pending.calculus c.take_line.new.names goal before c.args.piece.now c.loop-fed.fed c.in-Ok.n c.take_line.new.self.reader (g.P.Pending.sequents_of c.take_line.new.self.play.pending) c.take_line.new.self.play.fitted
      (c.in-Ok.ensures.taken goal (before ++ take c.loop-fed.fed c.args.piece.now) (c.loop-fed.invariant.2 goal before come)),
  omega (arith, c.in-Ok.ensures.ticks, c.loop-fed.invariant.3),
  λ goal before come.
      added-piece before c.args.piece.now c.loop-fed.fed c.args.names.now c.loop-fed.names c.take_line.new.names (c.loop-fed.invariant.4 goal before come)
      (c.in-Ok.ensures.only goal (before ++ take c.loop-fed.fed c.args.piece.now) (c.loop-fed.invariant.2 goal before come)),
)

pub returns-in-Err-clause-stopped : goal.returns-in-Err-clause-stopped
returns-in-Err-clause-stopped g c = λ goal before come.
    let piece = c.args.piece.now in
    let fed = c.loop-fed.fed in
    let l = length-append before (take fed piece) in
    stopped-from g.P.Pending.calculus c.take_line.new.names goal (length (before ++ take fed piece)) (length before) ((before ++ take fed piece) ++ take (length piece - fed) (drop fed piece)) (before ++ piece) c.take_line.new.self.play.fitted c.in-Err.stop (omega (arith, l))
    (whole-is before piece fed) (c.in-Err.ensures.taken goal (before ++ take fed piece) (c.loop-fed.invariant.2 goal before come))

pub returns-clause-come : goal.returns-clause-come
returns-clause-come g c = λ goal before come.
    subst (λ bs. HasCome g.P.Pending.calculus c.loop-fed.names goal (before ++ bs) c.loop-fed.self.reader (g.P.Pending.sequents_of c.loop-fed.self.play.pending) c.loop-fed.self.play.fitted) (take_all c.loop-fed.fed c.args.piece.now (omega (arith, c.loop-fed-test.false))) (c.loop-fed.invariant.2 goal before come)

pub returns-in-Err-clause-only : goal.returns-in-Err-clause-only
returns-in-Err-clause-only g c = λ goal before come.
    added-piece before c.args.piece.now c.loop-fed.fed c.args.names.now c.loop-fed.names c.take_line.new.names (c.loop-fed.invariant.4 goal before come)
    (c.in-Err.ensures.only goal (before ++ take c.loop-fed.fed c.args.piece.now) (c.loop-fed.invariant.2 goal before come))

pub returns-clause-only : goal.returns-clause-only
returns-clause-only g c = c.loop-fed.invariant.4
