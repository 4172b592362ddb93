use Rattle.std.proofs.Common.{Some, ap, sym, ◌∙◌}
use Rattle.clause_language.proofs.DeclarationReading.{declaration-read}
use Rattle.clause_language.proofs.declaration_reader.DeclarationReader.finish.Goals as goal

pub returns-in_default-2 : goal.returns-in_default-2
returns-in_default-2 c = λ names logic x ps w number h a.
    absurd (c.in_default-2.not-Some _ (c.in_ok-formula.ensures.whole number logic ps h.1.0 w (h.1.1.1 number a) h.1.1.0))

pub returns-in-Some-name : goal.returns-in-Some-name
returns-in-Some-name c = λ names logic x ps w number h a.
    ap Some
    (declaration-read names logic x ps w number c.args.self c.in-Some-name.name c.in-Ok.parameters c.in-Some.formula h a c.in-Some-name.is (c.in-Ok.ensures.1 ∙ c.count.ensures)
    (λ l qs s k e. (let i = sym c.in-Some.is ∙ c.in_ok-formula.ensures.whole number l qs s w k e in cc)))
