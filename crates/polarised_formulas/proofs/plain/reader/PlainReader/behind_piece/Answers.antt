use Rattle.polarised_formulas.proofs.PlainRuns.{next-stop}
use Rattle.polarised_formulas.specs.PlainReading.{behind_formula}
use Rattle.polarised_formulas.proofs.plain.reader.PlainReader.behind_piece.Goals as goal

pub returns-in-None-clause-stop : goal.returns-in-None-clause-stop
returns-in-None-clause-stop c = λ number logic hs f h. rw c.stopped.ensures (next-stop number logic (behind_formula hs f) c.args.bytes.now _ _ c.requires (c.behind_formula.ensures logic hs f h))
