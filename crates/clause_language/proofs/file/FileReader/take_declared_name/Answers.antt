use Rattle.std.proofs.Common.{sym, ◌∙◌, true, false}
use Rattle.clause_language.specs.DeclarationMachine.{at_name}
use Rattle.clause_language.proofs.FileTaking.{found-taken, refuses-duplicate, takes-new_name}
use Rattle.clause_language.proofs.file.FileReader.take_declared_name.Goals as goal

pub returns-then-is_some-clause-taken : goal.returns-then-is_some-clause-taken
returns-then-is_some-clause-taken c = λ kind expected earlier logic items h.
    let e = found-taken c.args.self.now.taken c.in-Name.text.now c.find.result true c.find.ensures (sym c.is_some.ensures ∙ c.if-is_some.true) in
    rw (c.in-Name.is, c.refused.ensures) (refuses-duplicate c.args.names.now kind expected earlier c.args.self.now logic items h c.in-Name.text.now e)

pub returns-in_ok-number-in-Name-clause-taken : goal.returns-in_ok-number-in-Name-clause-taken
returns-in_ok-number-in-Name-clause-taken c = λ kind expected earlier logic items h.
    let e = found-taken c.args.self.now.taken c.in-Name.text.now c.find.result false c.find.ensures (sym c.is_some.ensures ∙ c.if-is_some.false) in
    let t = rw c.in-Name.is at (c.take.ensures.taken logic at_name h.3) in
    rw c.in-Name.is (takes-new_name c.args.names.now kind expected earlier c.args.self.now logic items h c.in-Name.text.now c.take.result c.take.new.names c.number.new.self c.take.new.self c.take.ensures.names e c.in_ok-number-in-Name.ensures.names t)
