use Rattle.std.proofs.Common.{refl}
use Rattle.fpc_terms.proofs.HoldingFacts.{takes-open, named-room}
use Rattle.fpc_terms.proofs.reader.TermReader.open_application.Goals as goal

pub returns-in-Ok-true : goal.returns-in-Ok-true
returns-in-Ok-true c = λ number leaf known s h m.
    let d = rw c.in-Ok-true.field-0-test at c.in-Ok-true.ensures.done in
    takes-open number leaf known s c.args.self.now _ c.args.name h m (rw (d refl) refl)

pub returns-in-Ok-false : goal.returns-in-Ok-false
returns-in-Ok-false c = λ number leaf known s h m.
    let r = rw c.in-Ok-false.field-0-test at c.in-Ok-false.ensures.room in
    absurd (named-room number leaf known s c.args.name c.args.self.now h m (λ lt. let e = r.1 lt in cc))
