use Rattle.std.proofs.Common.{refl}
use Rattle.fpc_base.specs.Lexeme.{lexeme_as}
use Rattle.polarised_formulas.proofs.ReaderFacts.{takes-arguments, takes-behind_name}
use Rattle.polarised_formulas.proofs.reader.FormulaReader.take_behind_name.Goals as goal

pub returns-then-is : goal.returns-then-is
returns-then-is c = λ number logic parameters s h m.
    takes-arguments number logic parameters s (lexeme_as c.args.lexeme) c.args.positive c.args.name c.args.self.now _ h m (c.is.ensures.0 c.if-is.true) refl (λ leaf. c.begin_arguments.ensures number leaf)

pub returns-in-Ok : goal.returns-in-Ok
returns-in-Ok c = λ number logic parameters s h m.
    takes-behind_name number logic parameters s (lexeme_as c.args.lexeme) c.args.positive c.args.name c.take_behind.result c.args.self.now c.add_plain_atom.new.self c.take_behind.new.self h m
    (λ e. let d = c.is.ensures.1 e in let n = c.if-is.false in cc) c.in-Ok.ensures.ok
    (λ u g. c.take_behind.ensures number logic parameters u g (rw c.in-Ok.ensures.ok refl))
