use Rattle.polarised_formulas.proofs.PlainPieces.{links-stop, links-refused}
use Rattle.std.proofs.Common.{refl, sym, ◌∙◌}
use Rattle.polarised_formulas.proofs.plain.reader.PlainReader.link_piece.Goals as goal

pub returns-then-operator-clause-stop : goal.returns-then-operator-clause-stop
returns-then-operator-clause-stop c = λ number logic hs f bytes found h. rw c.stopped.ensures (links-stop number logic hs f c.args.self.now h bytes c.args.joiner c.args.n found _ (sym c.operator.ensures.answer ∙ c.if-operator.true) (rw c.operator.ensures.value refl))

pub returns-else-operator-clause-stop : goal.returns-else-operator-clause-stop
returns-else-operator-clause-stop c = λ number logic hs f bytes found h. rw c.stopped-else-operator.ensures (links-refused number logic hs f c.args.self.now h bytes c.args.joiner c.args.n found _ (sym c.operator.ensures.answer ∙ c.if-operator.false))
