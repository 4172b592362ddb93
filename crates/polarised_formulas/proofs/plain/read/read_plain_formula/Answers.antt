use Rattle.polarised_formulas.proofs.plain.read.read_plain_formula.Goals as goal

pub returns-clause-only : goal.returns-clause-only
returns-clause-only c = c.read_bytes-result.ensures.only c.distinct.ensures
