use Rattle.polarised_formulas.proofs.ReaderFacts.{whole-has, whole-named}
use Rattle.polarised_formulas.proofs.reader.FormulaReader.finish_whole.Goals as goal

pub returns-in-Named : goal.returns-in-Named
returns-in-Named c = λ number logic parameters s w h e.
    rw (whole-named number logic parameters s c.args.self w c.in-Named.positive c.in-Named.name h e c.in-Named.is) at c.finish_plain_atom.ensures

pub returns : goal.returns
returns c = λ number logic parameters s w h e.
    rw (whole-has number logic parameters s c.args.self w h e c.in_default.not-Named) at c.into_formula.ensures
