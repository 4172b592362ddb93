use Rattle.std.proofs.Common.{refl}
use Rattle.fpc_base.specs.Lexeme.{lexeme_as}
use Rattle.polarised_formulas.proofs.ReaderFacts.{refuses-in_atom, takes-in_atom, ends-atom}
use Rattle.polarised_formulas.proofs.reader.FormulaReader.take_in_atom.Goals as goal

pub returns-in-Err-clause-taken : goal.returns-in-Err-clause-taken
returns-in-Err-clause-taken c = λ number logic s a h m.
    refuses-in_atom number logic c.args.parameters.now s (lexeme_as c.args.lexeme) c.in-Err.error c.args.positive c.args.name c.args.self.now _ c.take_argument.new.terms h m (λ t g. c.in-Err.ensures.taken number t a g)

pub returns-then-not-is_ended-clause-taken : goal.returns-then-not-is_ended-clause-taken
returns-then-not-is_ended-clause-taken c = λ number logic s a h m.
    takes-in_atom number logic c.args.parameters.now s (lexeme_as c.args.lexeme) c.args.positive c.args.name c.args.self.now (record c.args.self.now { terms = c.take_argument.new.terms }) h m (λ t g. c.in-Ok.ensures.taken number t a g) refl
    (λ e. let d = c.is_ended.ensures.1 e in let n = c.if-not-is_ended.true in cc)

pub returns-clause-taken : goal.returns-clause-taken
returns-clause-taken c = λ number logic s a h m.
    ends-atom number logic c.args.parameters.now s (lexeme_as c.args.lexeme) c.args.positive c.args.name c.add_atom.result c.args.self.now (record c.args.self.now { terms = c.take_argument.new.terms }) c.add_atom.new.self h m (λ t g. c.in-Ok.ensures.taken number t a g) refl
    (c.is_ended.ensures.0 c.if-not-is_ended.false) (λ leaf args k. c.add_atom.ensures.ok number leaf args k) c.add_atom.ensures.err
