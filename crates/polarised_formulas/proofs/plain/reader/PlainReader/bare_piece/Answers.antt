use Rattle.polarised_formulas.specs.declared.logic.Logic.TheVariants.{Lkf}
use Rattle.polarised_formulas.specs.PlainReading.{at_formula}
use Rattle.polarised_formulas.proofs.PlainPieces.{bare-ends}
use Rattle.polarised_formulas.proofs.plain.reader.PlainReader.bare_piece.Goals as goal

pub returns-in-Some-clause-stop : goal.returns-in-Some-clause-stop
returns-in-Some-clause-stop c = λ number hs shallow a h. c.literal_piece.ensures.stop number Lkf hs (at_formula hs) a h (record { logic_is = h.logic_is; word = h.word; terms = h.terms; formula = h.formula }) (bare-ends number hs c.args.bytes.now c.in-Some.n c.in-Some.ensures.name c.in-Some.ensures.within shallow)
