use Rattle.fpc_terms.specs.Term.{no_args}
use Rattle.polarised_formulas.specs.Formula.{atom}
use Rattle.polarised_formulas.specs.PlainReading.{args_onto, behind_formula}
use Rattle.polarised_formulas.proofs.Answering.{memory-only}
use Rattle.polarised_formulas.proofs.plain.reader.PlainReader.end_literal.Goals as goal

pub returns-in-Err : goal.returns-in-Err
returns-in-Err c = λ logic hs ts h. memory-only logic (behind_formula hs (atom c.args.positive c.args.name (args_onto ts no_args))) c.in-Err.refusal _ _ (c.in-Err.ensures logic hs ts h)
