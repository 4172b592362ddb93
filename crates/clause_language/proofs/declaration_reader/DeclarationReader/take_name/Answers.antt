use Rattle.std.proofs.Common.{refl}
use Rattle.fpc_terms.proofs.AddingFacts.{AddsOnly-name}
use Rattle.clause_language.proofs.DeclarationReading.{takes-name}
use Rattle.clause_language.proofs.declaration_reader.DeclarationReader.take_name.Goals as goal

pub returns-in_ok-name-in-Name-clause-taken : goal.returns-in_ok-name-in-Name-clause-taken
returns-in_ok-name-in-Name-clause-taken c = λ logic s h m.
    rw c.in-Name.is (takes-name c.args.names.now c.intern.new.self logic s c.in-Name.text.now c.in_ok-name-in-Name.name c.args.self.now _ h m c.in_ok-name-in-Name.ensures.id refl)

pub returns-in_ok-name-in-Name-clause-only : goal.returns-in_ok-name-in-Name-clause-only
returns-in_ok-name-in-Name-clause-only c = rw c.in-Name.is (AddsOnly-name _ _ _ c.intern.ensures.only)
