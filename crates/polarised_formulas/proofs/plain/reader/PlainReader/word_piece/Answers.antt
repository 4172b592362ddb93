use Rattle.std.proofs.Common.{Ok, Err, subst}
use Rattle.polarised_formulas.specs.declared.plain.reader.Progress as progress
use Rattle.polarised_formulas.specs.PlainReading.{at_formula}
use Rattle.polarised_formulas.specs.PlainStanding.{word_meant}
use Rattle.polarised_formulas.specs.PlainFronts.{IsWordAt}
use Rattle.polarised_formulas.proofs.PlainPieces.{word-stop, word-goes_on}
use Rattle.polarised_formulas.proofs.plain.reader.PlainReader.word_piece.Goals as goal

pub returns-in-Err-clause-stop : goal.returns-in-Err-clause-stop
returns-in-Err-clause-stop c = λ number logic hs shallow h.
    let w = word_meant c.args.word in
    let found = subst (λ l. IsWordAt l c.args.bytes.now w c.args.n) h.logic_is c.requires.word in
    let next = rw c.in-Err.is at c.end_word.ensures logic hs (record { logic_is = h.logic_is; outside = h.outside; terms = h.terms; formula = h.formula }) in
    rw c.stopped.ensures (word-stop number hs shallow logic c.args.bytes.now w c.args.n (Err c.in-Err.refusal) c.end_word.new.self found next)

pub returns-clause-stop : goal.returns-clause-stop
returns-clause-stop c = λ number logic hs shallow h.
    let w = word_meant c.args.word in
    let found = subst (λ l. IsWordAt l c.args.bytes.now w c.args.n) h.logic_is c.requires.word in
    let next = rw c.in_default.is at c.end_word.ensures logic hs (record { logic_is = h.logic_is; outside = h.outside; terms = h.terms; formula = h.formula }) in
    c.behind_word.ensures.stop number logic (at_formula hs)
    (word-stop number hs shallow logic c.args.bytes.now w c.args.n (Ok progress.TheVariants.Going) c.end_word.new.self found (word-goes_on logic 0 c.end_word.new.self hs w c.in_default.field-0 next))
