use Rattle.polarised_formulas.proofs.reader.FormulaReader.take_name.Goals as goal

pub returns-in-Name-clause-only : goal.returns-in-Name-clause-only
returns-in-Name-clause-only c = rw c.in-Name.is c.name_atom.ensures.only
