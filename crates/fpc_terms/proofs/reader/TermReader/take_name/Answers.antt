use Rattle.std.proofs.Common.{refl}
use Rattle.fpc_terms.proofs.HoldingFacts.{takes-name}
use Rattle.fpc_terms.proofs.reader.TermReader.take_name.Goals as goal

pub returns-in-Ok-clause-taken : goal.returns-in-Ok-clause-taken
returns-in-Ok-clause-taken c = λ number leaf known s a h m v.
    rw c.in-Name.is (takes-name number leaf known s c.in-Name.text.now c.args.self.now _ c.in-Ok.name h m (a _ _ c.in-Ok.ensures.id) refl)
