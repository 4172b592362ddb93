use Rattle.std.proofs.Common.{refl, ◌∙◌}
use Rattle.clause_language.proofs.DeclarationReading.{takes-comma, takes-close}
use Rattle.clause_language.proofs.declaration_reader.DeclarationReader.take_behind_parameter.Goals as goal

pub returns-else-count-eq-MOST_PARAMETERS : goal.returns-else-count-eq-MOST_PARAMETERS
returns-else-count-eq-MOST_PARAMETERS c = λ names logic s h m.
    let i = rw c.in-Sign-Comma.is at c.in-Sign-Comma.field-0-is in
    rw (c.in-Sign-Comma.is, i) (takes-comma names logic s c.args.self.now _ h m (λ e. c.if-count-eq-MOST_PARAMETERS.false (c.count.ensures ∙ e)) refl)

pub returns-in-Sign-CloseParenthesis : goal.returns-in-Sign-CloseParenthesis
returns-in-Sign-CloseParenthesis c = λ names logic s h m.
    let i = rw c.in-Sign-CloseParenthesis.is at c.in-Sign-CloseParenthesis.field-0-is in
    rw (c.in-Sign-CloseParenthesis.is, i) (takes-close names logic s c.args.self.now _ h m refl)
