use Rattle.polarised_formulas.specs.PlainReading.{at_name}
use Rattle.polarised_formulas.proofs.PlainPieces.{marked-ends}
use Rattle.polarised_formulas.proofs.plain.reader.PlainReader.marked_piece.Goals as goal

pub returns-in-Some-clause-stop : goal.returns-in-Some-clause-stop
returns-in-Some-clause-stop c = λ number logic hs a h. c.literal_piece.ensures.stop number logic hs (at_name hs c.args.positive) a h (record { logic_is = h.logic_is; word = h.word; terms = h.terms; formula = h.formula }) (marked-ends number hs c.args.bytes.now c.in-Some.n c.in-Some.ensures.name c.in-Some.ensures.within logic c.args.positive)
