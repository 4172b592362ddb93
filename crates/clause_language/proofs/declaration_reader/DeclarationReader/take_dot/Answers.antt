use Rattle.std.proofs.Common.{refl}
use Rattle.clause_language.proofs.DeclarationReading.{refuses-dot, takes-dot}
use Rattle.clause_language.proofs.declaration_reader.DeclarationReader.take_dot.Goals as goal

pub returns-then-not-is_whole : goal.returns-then-not-is_whole
returns-then-not-is_whole c = λ logic s h m.
    rw c.refused.ensures (refuses-dot c.args.names.now logic s c.args.self.now c.is_whole.result c.distinct.ensures h m c.if-not-is_whole.true c.is_whole.ensures)

pub returns : goal.returns
returns c = λ logic s h m. takes-dot c.args.names.now logic s c.args.self.now _ c.is_whole.result c.distinct.ensures h m c.if-not-is_whole.false c.is_whole.ensures refl
