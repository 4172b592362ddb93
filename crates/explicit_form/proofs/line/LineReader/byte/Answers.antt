use Rattle.fpc_terms.specs.Adding.{IsText}
use Rattle.fpc_terms.proofs.AddingFacts.{AddsOnly-wider}
use Rattle.explicit_form.specs.LineStanding.{IsPlainWord}
use Rattle.explicit_form.proofs.line.LineReader.byte.Goals as goal

pub returns-in-InPlain-clause-only : goal.returns-in-InPlain-clause-only
returns-in-InPlain-clause-only c =
    AddsOnly-wider (IsText c.args.self.now.plain.word.items) (IsPlainWord c.args.self.now) _ _ (λ text e. ((c.in-InPlain.written, c.in-InPlain.is), e)) c.in_plain.ensures.only
