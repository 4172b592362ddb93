use Rattle.polarised_formulas.specs.PlainReading.{at_formula}
use Rattle.polarised_formulas.proofs.PlainRuns.{next-stop}
use Rattle.polarised_formulas.proofs.plain.reader.PlainReader.formula_byte.Goals as goal

pub returns-clause-stop : goal.returns-clause-stop
returns-clause-stop c = λ number logic hs h. rw c.stopped.ensures (next-stop number logic (at_formula hs) c.args.bytes.now _ _ c.requires (c.at_formula.ensures logic hs h))
