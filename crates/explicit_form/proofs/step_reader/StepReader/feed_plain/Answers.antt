use Rattle.std.proofs.Common.{◌≡◌, ◌∙◌, ◌+◌, take, IsOk, refl, sym, ap, subst}
use Rattle.fpc_terms.specs.Adding.{AddsOnly}
use Rattle.polarised_formulas.specs.Adding.{IsPartIn}
use Rattle.polarised_formulas.specs.PlainRuns.{IsRun}
use Rattle.explicit_form.specs.StepReading.{settle}
use Rattle.explicit_form.specs.LineStanding.{IsNext}
use Rattle.explicit_form.specs.Feeding.{HasTaken, line_in}
use Rattle.explicit_form.proofs.Taking.{IsAt-same}
use Rattle.explicit_form.proofs.PlainFeeding.{plain-taken, plain-told, plain-adds}
use Rattle.explicit_form.proofs.step_reader.StepReader.feed_plain.Goals as goal

pub returns-in-Ok-clause-only : goal.returns-in-Ok-clause-only
returns-in-Ok-clause-only c = λ logic before stands.
    let bytes = c.args.bytes.now in
    let e : c.split_at.result.0.now ≡ line_in bytes = c.split_at.ensures.front ∙ ap (λ k. take k bytes) c.line_length-n.ensures.count in
    plain-adds logic before c.args.written (line_in bytes) c.args.self.now c.args.names.now c.bytes-passed.new.names c.requires.phase c.requires.mode c.bytes-passed.ensures.grows c.distinct.ensures stands
    (λ number q agrees h. subst (λ bs. AddsOnly (IsPartIn c.args.self.now.line.plain.word.items bs) c.args.names.now c.bytes-passed.new.names) e (c.bytes-passed.ensures.only number logic q agrees h))

pub returns-in-Err-clause-only : goal.returns-in-Err-clause-only
returns-in-Err-clause-only c = λ logic before stands.
    let bytes = c.args.bytes.now in
    let e : c.split_at.result.0.now ≡ line_in bytes = c.split_at.ensures.front ∙ ap (λ k. take k bytes) c.line_length-n.ensures.count in
    plain-adds logic before c.args.written (line_in bytes) c.args.self.now c.args.names.now c.bytes-passed.new.names c.requires.phase c.requires.mode c.bytes-passed.ensures.grows c.distinct.ensures stands
    (λ number q agrees h. subst (λ bs. AddsOnly (IsPartIn c.args.self.now.line.plain.word.items bs) c.args.names.now c.bytes-passed.new.names) e (c.bytes-passed.ensures.only number logic q agrees h))

pub returns-in-Ok-clause-line : goal.returns-in-Ok-clause-line
returns-in-Ok-clause-line c = λ number logic st agrees here.
    let bytes = c.args.bytes.now in
    let old = c.args.self.now in
    let middle = record old.line { plain = c.bytes-passed.new.self } in
    let final = record c.take_answer.new.self { at = c.take_answer.new.self.at + c.line_length-n.result } in
    let e : c.split_at.result.0.now ≡ line_in bytes = c.split_at.ensures.front ∙ ap (λ k. take k bytes) c.line_length-n.ensures.count in
    subst (λ k. HasTaken number logic st old.at (take k bytes) final) (sym c.line_length-n.ensures.count)
    (plain-taken number logic st c.args.written bytes old final c.bytes-passed.result.passed c.bytes-passed.result.last c.bytes-passed.new.self c.requires.room c.requires.phase c.requires.mode here
    (λ q h. subst (λ bs. IsRun number logic q bs c.bytes-passed.result.passed c.bytes-passed.result.last c.bytes-passed.new.self) e (c.bytes-passed.ensures.run number logic q agrees h))
    (λ done l m i. let t = c.in-Ok.ensures.taken logic done l m c.requires.phase c.requires.none (subst (λ x. IsNext logic l x middle m) (sym c.answer_in-answer.ensures) i) in
    (t.0, IsAt-same logic (settle done m) c.take_answer.new.self final refl refl t.1, t.2))
    (subst IsOk c.answer_in-answer.ensures c.in-Ok.ensures.ok))

pub returns-in-Err-clause-line : goal.returns-in-Err-clause-line
returns-in-Err-clause-line c = λ number logic st agrees here.
    let bytes = c.args.bytes.now in
    let old = c.args.self.now in
    let middle = record old.line { plain = c.bytes-passed.new.self } in
    let e : c.split_at.result.0.now ≡ line_in bytes = c.split_at.ensures.front ∙ ap (λ k. take k bytes) c.line_length-n.ensures.count in
    plain-told number logic st c.args.written bytes old c.take_answer.new.self c.bytes-passed.result.passed c.bytes-passed.result.last c.bytes-passed.new.self c.requires.room c.requires.phase c.requires.mode here
    (λ q h. subst (λ bs. IsRun number logic q bs c.bytes-passed.result.passed c.bytes-passed.result.last c.bytes-passed.new.self) e (c.bytes-passed.ensures.run number logic q agrees h))
    c.in-Err.fault
    (λ done l m i. c.in-Err.ensures.taken logic done l m c.requires.phase c.requires.none (subst (λ x. IsNext logic l x middle m) (sym c.answer_in-answer.ensures) i))
