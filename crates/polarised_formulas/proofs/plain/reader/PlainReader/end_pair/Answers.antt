use Rattle.std.proofs.Common.{refl, sym, ◌∙◌}
use Rattle.polarised_formulas.proofs.Answering.{closes-pair, closes-none}
use Rattle.polarised_formulas.proofs.plain.reader.PlainReader.end_pair.Goals as goal

pub returns-then-close : goal.returns-then-close
returns-then-close c = λ logic hs f h. closes-pair logic hs f c.args.self.now h _ (sym c.close.ensures.answer ∙ c.if-close.true) (rw c.close.ensures.value refl)

pub returns-else-close : goal.returns-else-close
returns-else-close c = λ logic hs f h. closes-none logic hs f c.args.self.now h c.args.self.now (sym c.close.ensures.answer ∙ c.if-close.false)
