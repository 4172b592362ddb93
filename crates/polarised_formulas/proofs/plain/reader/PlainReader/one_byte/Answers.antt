use Rattle.fpc_terms.specs.Adding.{IsText}
use Rattle.fpc_terms.proofs.AddingFacts.{AddsOnly-wider}
use Rattle.polarised_formulas.specs.Adding.{IsPartIn}
use Rattle.polarised_formulas.proofs.PlainRuns.{word-part, next-stop}
use Rattle.polarised_formulas.proofs.plain.reader.PlainReader.one_byte.Goals as goal

pub returns-clause-only : goal.returns-clause-only
returns-clause-only c =
    AddsOnly-wider (IsText c.args.self.now.word.items) (IsPartIn c.args.self.now.word.items c.args.bytes.now) _ _ (λ text e. word-part c.args.self.now.word.items c.args.bytes.now text e) c.byte.ensures.only

pub returns-clause-stop : goal.returns-clause-stop
returns-clause-stop c = λ number logic q a h. rw c.stopped.ensures (next-stop number logic q c.args.bytes.now c.byte.result c.byte.new.self c.requires (c.byte.ensures.next number logic q a h))
