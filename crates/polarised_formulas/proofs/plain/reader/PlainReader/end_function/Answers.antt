use Rattle.polarised_formulas.specs.PlainReading.{is_keyword}
use Rattle.polarised_formulas.proofs.Answering.{named-ok, named-err}
use Rattle.polarised_formulas.proofs.plain.reader.PlainReader.end_function.Goals as goal

pub returns-in-Ok-clause-next : goal.returns-in-Ok-clause-next
returns-in-Ok-clause-next c = λ number logic up w a h.
    let n = rw (c.as_slice.ensures.value, h.word) at c.in-Ok.ensures.name number a in
    let k = named-ok number (is_keyword w) w c.in-Ok.name (n h.kept.0) in
    rw (k.0, k.1) (c.end_named_term.ensures logic up (record { logic_is = h.logic_is; word = c.clear.ensures.items; outside = h.outside; terms = h.terms; formula = h.formula; room = h.kept.1 }))

pub returns-in-Err-clause-next : goal.returns-in-Err-clause-next
returns-in-Err-clause-next c = λ number logic up w a h.
    let n = rw (c.as_slice.ensures.value, h.word) at c.in-Err.ensures.name number a in
    named-err number (is_keyword w) w c.in-Err.refusal logic _ _ (n h.kept.0)

pub returns-in-Ok-clause-only : goal.returns-in-Ok-clause-only
returns-in-Ok-clause-only c = rw c.as_slice.ensures.value at c.in-Ok.ensures.only

pub returns-in-Err-clause-only : goal.returns-in-Err-clause-only
returns-in-Err-clause-only c = rw c.as_slice.ensures.value at c.in-Err.ensures.only
