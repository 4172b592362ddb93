use Rattle.std.proofs.Common.{refl}
use Rattle.fpc_terms.proofs.HoldingFacts.{takes-comma}
use Rattle.fpc_terms.proofs.reader.TermReader.take_comma.Goals as goal

pub returns : goal.returns
returns c = λ number leaf known s h m.
    takes-comma number leaf known s c.args.self.now _ h m (λ a f. let d = c.stands_alone.ensures.1 (a, f) in cc) (c.has_room.ensures.0 c.if-not-has_room.false) refl
