use Rattle.polarised_formulas.proofs.Calculus.Play.{AreLow-plays}
use Rattle.explicit_kernel.proofs.play.Play.advance.Goals as goal

pub returns-in-Ok-clause-low : goal.returns-in-Ok-clause-low
returns-in-Ok-clause-low g c =
    AreLow-plays g.P.Pending.calculus g.met.P.Pending.lawful c.args.self.now.fitted (g.P.Pending.sequents_of c.args.self.now.pending)
    (g.P.Pending.sequents_of c.play.new.self) c.args.step c.requires.low c.in-Ok.ensures.fits
