use Rattle.std.proofs.Common.{refl, arith}
use Rattle.std.proofs.lemmas.Grind.{common_steps}
use Rattle.fpc_terms.specs.Term.{bound}
use Rattle.fpc_terms.proofs.HoldingFacts.{takes-variable, takes-full}
use Rattle.fpc_terms.proofs.reader.TermReader.take_bound.Goals as goal

pub returns-in-Ok-true : goal.returns-in-Ok-true
returns-in-Ok-true c = λ number leaf known s text h k l.
    let d = rw c.in-Ok-true.field-0-test at c.in-Ok-true.ensures.done in
    takes-variable number leaf known s text c.args.self.now _ (bound c.args.index) h (grind (arith, common_steps)) k l (rw (d refl) refl)

pub returns-in-Ok-false : goal.returns-in-Ok-false
returns-in-Ok-false c = λ number leaf known s text h k l.
    let r = rw c.in-Ok-false.field-0-test at c.in-Ok-false.ensures.room in
    absurd (takes-full number leaf known s text c.args.self.now h (grind (arith, common_steps)) (λ lt. let e = r.1 lt in cc))
