use Rattle.std.proofs.Common.{sym, ◌∙◌}
use Rattle.polarised_formulas.proofs.ReaderFacts.{refuses-name, takes-plain_name}
use Rattle.polarised_formulas.proofs.reader.FormulaReader.take_plain_name.Goals as goal

pub returns-then-is_deep-clause-taken : goal.returns-then-is_deep-clause-taken
returns-then-is_deep-clause-taken c = λ number logic parameters s a h m.
    refuses-name number logic parameters s c.args.text.now c.args.self.now h m (sym h.in_logic ∙ c.in-Lkf.is) (c.is_deep.ensures.0 c.if-is_deep.true)

pub returns-else-is_deep-clause-taken : goal.returns-else-is_deep-clause-taken
returns-else-is_deep-clause-taken c = λ number logic parameters s a h m.
    takes-plain_name number logic parameters s c.args.text.now c.name_atom.result c.args.self.now c.name_atom.new.self c.name_atom.new.names h m (sym h.in_logic ∙ c.in-Lkf.is)
    (λ e. let d = c.is_deep.ensures.1 e in let n = c.if-is_deep.false in cc) (λ id e. a id c.args.text.now e) c.name_atom.ensures.ok c.name_atom.ensures.err
