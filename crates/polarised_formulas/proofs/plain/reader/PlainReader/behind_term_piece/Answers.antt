use Rattle.polarised_formulas.specs.PlainReading.{behind_term}
use Rattle.polarised_formulas.proofs.PlainRuns.{next-stop}
use Rattle.polarised_formulas.proofs.plain.reader.PlainReader.behind_term_piece.Goals as goal

pub returns-clause-stop : goal.returns-clause-stop
returns-clause-stop c = λ number logic up t h. rw c.stopped.ensures (next-stop number logic (behind_term up t) c.args.bytes.now _ _ c.requires (c.behind_term.ensures logic up t h))
