use Rattle.std.proofs.Common.{refl}
use Rattle.clause_language.proofs.DeclarationReading.{takes-defined}
use Rattle.clause_language.proofs.declaration_reader.DeclarationReader.take_defined.Goals as goal

pub returns-in-Sign-Defined : goal.returns-in-Sign-Defined
returns-in-Sign-Defined c = λ names logic s h m.
    let i = rw c.in-Sign-Defined.is at c.in-Sign-Defined.field-0-is in
    rw (c.in-Sign-Defined.is, i) (takes-defined names logic s c.args.self.now _ h m refl)
