use Rattle.polarised_formulas.proofs.PlainPieces.{not-deep}
use Rattle.polarised_formulas.proofs.plain.reader.PlainReader.formula_piece.Goals as goal

pub returns-in-Some-clause-stop : goal.returns-in-Some-clause-stop
returns-in-Some-clause-stop c = λ number logic hs a h. c.word_piece.ensures.stop number logic hs (not-deep logic hs c.args.self.now _ h c.depth.ensures c.if-depth-ge10000.false) h

pub returns-in-None-clause-stop : goal.returns-in-None-clause-stop
returns-in-None-clause-stop c = λ number logic hs a h. c.name_piece.ensures.stop number logic hs (not-deep logic hs c.args.self.now _ h c.depth.ensures c.if-depth-ge10000.false) a h
