use Rattle.std.proofs.Common.{◌++◌, length, take, subst, sym}
use Rattle.explicit_kernel.specs.Check.{IsStopped}
use Rattle.explicit_kernel.proofs.NamesAdded.{added-line}
use Rattle.explicit_kernel.proofs.Coming.{come-on, rejected-in, told-in}
use Rattle.explicit_kernel.proofs.check.Check.take_line.Goals as goal

pub returns-in-Ok-judge-clause-taken : goal.returns-in-Ok-judge-clause-taken
returns-in-Ok-judge-clause-taken g c = λ goal before come.
    let fed = c.in-Ok.ensures.fed g.P.Pending.calculus.logic c.args.names.now before come.read (λ k text h. h) in
    come-on g.P.Pending.calculus c.args.names.now c.feed.new.names goal before c.args.bytes.now c.args.self.now.reader c.feed.new.self (g.P.Pending.sequents_of c.args.self.now.play.pending) c.args.self.now.play.fitted come c.feed.ensures.grows
    c.in-Ok.n fed (c.in-Ok.ensures.moves c.requires.some) c.in-Ok.ensures.within
    c.judge.new.self.reader (g.P.Pending.sequents_of c.judge.new.self.play.pending) c.judge.new.self.play.fitted
    c.distinct.ensures (c.in-Ok-judge.ensures.kept g.P.Pending.calculus.logic c.feed.new.names (before ++ take c.in-Ok.n c.args.bytes.now) fed.0) c.in-Ok-judge.ensures.followed c.in-Ok-judge.ensures.low

pub returns-in-Err-judge-clause-taken : goal.returns-in-Err-judge-clause-taken
returns-in-Err-judge-clause-taken g c = λ goal before come.
    let fed = c.in-Ok.ensures.fed g.P.Pending.calculus.logic c.args.names.now before come.read (λ k text h. h) in
    rejected-in g.P.Pending.calculus c.args.names.now c.feed.new.names goal before c.args.bytes.now c.args.self.now.reader c.feed.new.self (g.P.Pending.sequents_of c.args.self.now.play.pending) c.args.self.now.play.fitted come c.feed.ensures.grows
    c.in-Ok.n fed (c.in-Ok.ensures.moves c.requires.some) c.in-Ok.ensures.within
    c.judge.new.self.reader (g.P.Pending.sequents_of c.judge.new.self.play.pending) c.judge.new.self.play.fitted c.in-Err-judge.stop
    (c.in-Err-judge.ensures.kept g.P.Pending.calculus.logic c.feed.new.names (before ++ take c.in-Ok.n c.args.bytes.now) fed.0) c.in-Err-judge.ensures.followed

pub returns-in-Err-clause-taken : goal.returns-in-Err-clause-taken
returns-in-Err-clause-taken g c = λ goal before come.
    subst (IsStopped g.P.Pending.calculus c.feed.new.names goal (length before) (before ++ c.args.bytes.now) c.args.self.now.play.fitted) (sym c.stop_at.ensures)
    (told-in g.P.Pending.calculus c.args.names.now c.feed.new.names goal before c.args.bytes.now c.args.self.now.reader c.feed.new.self (g.P.Pending.sequents_of c.args.self.now.play.pending) c.args.self.now.play.fitted come c.feed.ensures.grows c.in-Err.fault (c.in-Err.ensures.fed g.P.Pending.calculus.logic c.args.names.now before come.read (λ k text h. h)))

pub returns-in-Ok-judge-clause-only : goal.returns-in-Ok-judge-clause-only
returns-in-Ok-judge-clause-only g c = λ goal before come.
    added-line before c.args.bytes.now c.args.names.now c.feed.new.names (c.feed.ensures.only g.P.Pending.calculus.logic c.args.names.now before come.read (λ k text h. h))

pub returns-in-Err-judge-clause-only : goal.returns-in-Err-judge-clause-only
returns-in-Err-judge-clause-only g c = λ goal before come.
    added-line before c.args.bytes.now c.args.names.now c.feed.new.names (c.feed.ensures.only g.P.Pending.calculus.logic c.args.names.now before come.read (λ k text h. h))

pub returns-in-Err-clause-only : goal.returns-in-Err-clause-only
returns-in-Err-clause-only g c = λ goal before come.
    added-line before c.args.bytes.now c.args.names.now c.feed.new.names (c.feed.ensures.only g.P.Pending.calculus.logic c.args.names.now before come.read (λ k text h. h))
