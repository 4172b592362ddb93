use Rattle.polarised_formulas.proofs.Answering.{closes-literal}
use Rattle.polarised_formulas.proofs.plain.reader.PlainReader.end_arguments.Goals as goal

pub returns-in-Literal : goal.returns-in-Literal
returns-in-Literal c = λ logic up t h. closes-literal logic up t c.args.self.now _ c.in-Literal.positive c.in-Literal.name _ h (c.is_closed.ensures.0 c.if-not-is_closed.false) c.in-Literal.is (λ hs ts l. c.end_literal.ensures logic hs ts l)
