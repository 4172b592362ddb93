use Rattle.std.proofs.Common.{Err, refl, subst, sym}
use Rattle.explicit_kernel.specs.Check.{IsFinal}
use Rattle.explicit_kernel.proofs.Judging.{accepted-at-end, final}
use Rattle.explicit_kernel.proofs.check.Check.finish.Goals as goal

pub returns-in-Ok : goal.returns-in-Ok
returns-in-Ok g c = λ names goal bytes differ come.
    (refl, λ number agrees. accepted-at-end g.P.Pending.calculus names goal bytes c.args.self.now.reader (g.P.Pending.sequents_of c.args.self.now.play.pending) c.args.self.now.play.fitted come number agrees (c.in-Ok.ensures.whole g.P.Pending.calculus.logic names bytes number come.read agrees))

pub returns-in-Err : goal.returns-in-Err
returns-in-Err g c = λ names goal bytes differ come.
    subst (λ s. IsFinal g.P.Pending.calculus names goal bytes c.args.self.now.play.fitted (Err s)) (sym c.stop_at.ensures)
    (final g.P.Pending.calculus names goal bytes c.args.self.now.reader (g.P.Pending.sequents_of c.args.self.now.play.pending) c.args.self.now.play.fitted come differ c.in-Err.end (λ number agrees. c.in-Err.ensures.whole g.P.Pending.calculus.logic names bytes number come.read agrees))
