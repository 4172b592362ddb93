use Rattle.std.proofs.Common.{refl}
use Rattle.clause_language.proofs.DeclarationReading.{takes-open, takes-defined_plain}
use Rattle.clause_language.proofs.declaration_reader.DeclarationReader.take_behind_name.Goals as goal

pub returns-in-Sign-OpenParenthesis : goal.returns-in-Sign-OpenParenthesis
returns-in-Sign-OpenParenthesis c = λ names logic s h m.
    let i = rw c.in-Sign-OpenParenthesis.is at c.in-Sign-OpenParenthesis.field-0-is in
    rw (c.in-Sign-OpenParenthesis.is, i) (takes-open names logic s c.args.self.now _ h m refl)

pub returns-in-Sign-Defined : goal.returns-in-Sign-Defined
returns-in-Sign-Defined c = λ names logic s h m.
    let i = rw c.in-Sign-Defined.is at c.in-Sign-Defined.field-0-is in
    rw (c.in-Sign-Defined.is, i) (takes-defined_plain names logic s c.args.self.now _ h m refl)
