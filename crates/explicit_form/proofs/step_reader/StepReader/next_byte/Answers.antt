use Rattle.fpc_terms.proofs.AddingFacts.{AddsOnly-wider}
use Rattle.explicit_form.specs.LineStanding.{IsPlainWord}
use Rattle.explicit_form.specs.Feeding.{IsLineWord}
use Rattle.explicit_form.proofs.Taking.{takes-heading, takes-line}
use Rattle.explicit_form.proofs.step_reader.StepReader.next_byte.Goals as goal

pub returns-in-Heading-clause-taken : goal.returns-in-Heading-clause-taken
returns-in-Heading-clause-taken c = λ number logic st agrees h none.
    takes-heading number logic c.args.b c.args.self.now c.heading_byte.new.self c.heading_byte.result c.in-Heading.is (c.heading_byte.ensures.taken logic) st h none

pub returns-in-Lines-clause-taken : goal.returns-in-Lines-clause-taken
returns-in-Lines-clause-taken c = λ number logic st agrees h none.
    takes-line number logic c.args.b c.args.self.now c.line_byte.new.self c.line_byte.result c.in-Lines.is (λ done l. c.line_byte.ensures.taken number logic done l agrees) st h none

pub returns-in-Lines-clause-only : goal.returns-in-Lines-clause-only
returns-in-Lines-clause-only c = AddsOnly-wider (IsPlainWord c.args.self.now.line) (IsLineWord c.args.self.now) _ _ (λ text w. (c.in-Lines.is, w)) c.line_byte.ensures.only
