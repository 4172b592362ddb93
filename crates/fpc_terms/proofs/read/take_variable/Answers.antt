use Rattle.std.proofs.Common.{sym, ◌∙◌}
use Rattle.fpc_terms.proofs.Places.{Grows-with_text, got-with_text}
use Rattle.fpc_terms.proofs.ReadFacts.{own, refused-variable, many-variable, taken-variable}
use Rattle.fpc_terms.proofs.read.take_variable.Goals as goal

pub returns-then-not-wants_term-clause-taken : goal.returns-then-not-wants_term-clause-taken
returns-then-not-wants_term-clause-taken c = λ names s dn h.
    refused-variable _ _ c.args.most c.args.vars.now s c.args.name.now c.args.reader.now (own names c.args.vars.now s c.args.reader.now dn c.distinct.ensures h)
    (λ m. let d = c.wants_term.ensures.1 m in let e = c.if-not-wants_term.true in cc)

pub returns-then-is_too_many-clause-taken : goal.returns-then-is_too_many-clause-taken
returns-then-is_too_many-clause-taken c = λ names s dn h.
    many-variable _ _ c.args.most c.args.vars.now s c.args.name.now c.args.reader.now (own names c.args.vars.now s c.args.reader.now dn c.distinct.ensures h)
    (c.wants_term.ensures.0 c.if-not-wants_term.false) (sym c.is_too_many.ensures ∙ c.if-is_too_many.true)

pub returns-in-Ok-clause-taken : goal.returns-in-Ok-clause-taken
returns-in-Ok-clause-taken c = λ names s dn h.
    taken-variable c.take_numbered.result c.args.most names c.args.vars.now c.number.new.self s c.args.name.now c.args.reader.now _ c.in-Ok.number dn c.distinct-in-Ok.ensures
    (rw c.in-Ok.ensures.names (Grows-with_text c.args.vars.now c.args.name.now)) (sym c.is_too_many.ensures ∙ c.if-is_too_many.false)
    (rw (c.in-Ok.ensures.number, c.in-Ok.ensures.names) (got-with_text c.args.vars.now c.args.name.now)) c.take_numbered.ensures h

pub returns-in-Ok-clause-variables : goal.returns-in-Ok-clause-variables
returns-in-Ok-clause-variables c = rw c.in-Ok.ensures.names (Grows-with_text c.args.vars.now c.args.name.now)
