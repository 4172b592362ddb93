use Rattle.std.proofs.Common.{refl}
use Rattle.fpc_terms.proofs.HoldingFacts.{takes-close, takes-end}
use Rattle.fpc_terms.proofs.reader.TermReader.take_close.Goals as goal

pub returns-then-not-is_closed : goal.returns-then-not-is_closed
returns-then-not-is_closed c = λ number leaf known s h m.
    takes-close number leaf known s c.args.self.now _ h m (λ e. let d = c.is_closed.ensures.1 e in cc) (rw c.close.ensures refl)

pub returns : goal.returns
returns c = λ number leaf known s h m.
    takes-end number leaf known s c.args.self.now _ h m (c.is_closed.ensures.0 c.if-not-is_closed.false) (λ a. let d = c.if-self.false in cc) refl
