use Rattle.polarised_formulas.specs.PlainReading.{at_term}
use Rattle.polarised_formulas.proofs.PlainRuns.{next-stop}
use Rattle.polarised_formulas.proofs.plain.reader.PlainReader.term_piece.Goals as goal

pub returns-in-None-clause-stop : goal.returns-in-None-clause-stop
returns-in-None-clause-stop c = λ number logic up a h. rw c.stopped.ensures (next-stop number logic (at_term up) c.args.bytes.now _ _ c.requires.some (c.at_term.ensures logic up h))
