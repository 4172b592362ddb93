use Rattle.std.proofs.Common.{refl, sym, ◌∙◌}
use Rattle.clause_language.proofs.DeclarationReading.{takes-parameter, not-found}
use Rattle.clause_language.proofs.declaration_reader.DeclarationReader.take_parameter.Goals as goal

pub returns-in_ok-number-in-Variable : goal.returns-in_ok-number-in-Variable
returns-in_ok-number-in-Variable c = λ names logic s h m.
    let absent = not-found c.args.self.now.parameters c.in-Variable.text.now c.find.result c.find.ensures (sym c.is_some.ensures ∙ c.if-is_some.false) in
    rw c.in-Variable.is (takes-parameter names logic s c.in-Variable.text.now c.args.self.now _ h m absent (rw c.in_ok-number-in-Variable.ensures.names refl))
