use Rattle.std.proofs.Common.{refl, sym, ◌∙◌}
use Rattle.polarised_formulas.proofs.Answering.{parts-pair, parts-none, parts-bare}
use Rattle.polarised_formulas.proofs.plain.reader.PlainReader.end_first_part.Goals as goal

pub returns-then-close : goal.returns-then-close
returns-then-close c = λ logic hs f h. parts-none logic hs f c.args.self.now h c.args.self.now (sym c.close.ensures.answer ∙ c.if-close.true)

pub returns-then-depth-eq0 : goal.returns-then-depth-eq0
returns-then-depth-eq0 c = λ logic hs f h. parts-bare logic hs f c.args.self.now h c.args.self.now (sym c.close.ensures.answer ∙ c.if-close.false) (rw (sym c.close.ensures.value) (sym c.depth.ensures ∙ c.if-depth-eq0.true))

pub returns : goal.returns
returns c = λ logic hs f h. parts-pair logic hs f c.args.self.now h _ (sym c.close.ensures.answer ∙ c.if-close.false) (λ e. c.if-depth-eq0.false (c.depth.ensures ∙ rw c.close.ensures.value e)) (rw c.close.ensures.value refl)
