use Rattle.std.proofs.Common.{refl}
use Rattle.fpc_base.specs.Lexeme.{lexeme_as}
use Rattle.fpc_terms.proofs.HoldingFacts.{takes-constant}
use Rattle.fpc_terms.proofs.reader.TermReader.take_behind_name.Goals as goal

pub returns-in-Ok-true : goal.returns-in-Ok-true
returns-in-Ok-true c = λ number leaf known s h m.
    let d = rw c.in-Ok-true.field-0-test at c.in-Ok-true.ensures.done in
    takes-constant number leaf known s (lexeme_as c.args.lexeme) c.args.self.now _ _ c.args.name _ h m (λ e. let o = c.is.ensures.1 e in let n = c.if-is.false in cc) (rw (d refl) refl)
    (λ t g. c.take_behind.ensures number leaf known t g refl)
