use Rattle.std.proofs.Common.{◌∙◌, ap, Ok, Err, arith}
use Rattle.polarised_formulas.specs.declared.plain.reader.Progress as progress
use Rattle.polarised_formulas.proofs.PlainRuns.{past-next, past-run, past-adds, past-end}
use Rattle.polarised_formulas.proofs.plain.reader.PlainReader.pieces.Goals as goal

pub loop-passed-preserved : goal.loop-passed-preserved
loop-passed-preserved c =
    past-next c.args.names.now c.loop-passed.names c.piece-more.new.names c.args.self.now c.loop-passed.self c.piece-more.new.self c.args.bytes.now c.loop-passed.passed c.piece-more.result.passed c.piece-more.result.last c.loop-passed.invariant
    c.piece-more.ensures.grows (rw c.split_at.ensures.back at c.piece-more.ensures.within) (rw c.split_at.ensures.back at c.piece-more.ensures.stop) (rw c.split_at.ensures.back at c.piece-more.ensures.only) (c.in-Ok-Going.is ∙ ap Ok c.in-Ok-Going.field-0-is)

pub returns-in-Err-clause-only : goal.returns-in-Err-clause-only
returns-in-Err-clause-only c =
    past-adds c.args.names.now c.loop-passed.names c.piece-more.new.names c.args.self.now c.loop-passed.self c.piece-more.new.self c.args.bytes.now c.loop-passed.passed c.piece-more.result.passed c.piece-more.result.last c.loop-passed.invariant
    c.piece-more.ensures.grows (rw c.split_at.ensures.back at c.piece-more.ensures.within) (rw c.split_at.ensures.back at c.piece-more.ensures.stop) (rw c.split_at.ensures.back at c.piece-more.ensures.only)

pub returns-in-Err-clause-run : goal.returns-in-Err-clause-run
returns-in-Err-clause-run c = λ number logic q agrees h.
    let e = c.in-Err.is in
    rw c.stopped-in-Err.ensures (past-run c.args.names.now c.loop-passed.names c.piece-more.new.names c.args.self.now c.loop-passed.self c.piece-more.new.self c.args.bytes.now c.loop-passed.passed c.piece-more.result.passed c.piece-more.result.last c.loop-passed.invariant
    c.piece-more.ensures.grows (rw c.split_at.ensures.back at c.piece-more.ensures.within) (rw c.split_at.ensures.back at c.piece-more.ensures.stop) (rw c.split_at.ensures.back at c.piece-more.ensures.only) number logic q agrees h (Err c.in-Err.refusal) (cc) (λ g. cc))

pub returns-clause-run : goal.returns-clause-run
returns-clause-run c = λ number logic q agrees h.
    rw c.stopped-2.ensures (past-end c.args.names.now c.loop-passed.names c.args.self.now c.loop-passed.self c.args.bytes.now c.loop-passed.passed c.loop-passed.invariant (omega (arith, c.loop-passed-test.false)) number logic q agrees h)

pub returns-in-Ok-Term-clause-only : goal.returns-in-Ok-Term-clause-only
returns-in-Ok-Term-clause-only c =
    past-adds c.args.names.now c.loop-passed.names c.piece-more.new.names c.args.self.now c.loop-passed.self c.piece-more.new.self c.args.bytes.now c.loop-passed.passed c.piece-more.result.passed c.piece-more.result.last c.loop-passed.invariant
    c.piece-more.ensures.grows (rw c.split_at.ensures.back at c.piece-more.ensures.within) (rw c.split_at.ensures.back at c.piece-more.ensures.stop) (rw c.split_at.ensures.back at c.piece-more.ensures.only)

pub returns-in-Ok-Term-clause-run : goal.returns-in-Ok-Term-clause-run
returns-in-Ok-Term-clause-run c = λ number logic q agrees h.
    let e = c.in-Ok-Term.is in
    let f = c.in-Ok-Term.field-0-is in
    rw c.stopped.ensures (past-run c.args.names.now c.loop-passed.names c.piece-more.new.names c.args.self.now c.loop-passed.self c.piece-more.new.self c.args.bytes.now c.loop-passed.passed c.piece-more.result.passed c.piece-more.result.last c.loop-passed.invariant
    c.piece-more.ensures.grows (rw c.split_at.ensures.back at c.piece-more.ensures.within) (rw c.split_at.ensures.back at c.piece-more.ensures.stop) (rw c.split_at.ensures.back at c.piece-more.ensures.only) number logic q agrees h (Ok (progress.TheVariants.Term c.in-Ok-Term.term)) (cc) (λ g. cc))

pub returns-in-Ok-Formula-clause-only : goal.returns-in-Ok-Formula-clause-only
returns-in-Ok-Formula-clause-only c =
    past-adds c.args.names.now c.loop-passed.names c.piece-more.new.names c.args.self.now c.loop-passed.self c.piece-more.new.self c.args.bytes.now c.loop-passed.passed c.piece-more.result.passed c.piece-more.result.last c.loop-passed.invariant
    c.piece-more.ensures.grows (rw c.split_at.ensures.back at c.piece-more.ensures.within) (rw c.split_at.ensures.back at c.piece-more.ensures.stop) (rw c.split_at.ensures.back at c.piece-more.ensures.only)

pub returns-in-Ok-Formula-clause-run : goal.returns-in-Ok-Formula-clause-run
returns-in-Ok-Formula-clause-run c = λ number logic q agrees h.
    let e = c.in-Ok-Formula.is in
    let f = c.in-Ok-Formula.field-0-is in
    rw c.stopped-in-Ok-Formula.ensures (past-run c.args.names.now c.loop-passed.names c.piece-more.new.names c.args.self.now c.loop-passed.self c.piece-more.new.self c.args.bytes.now c.loop-passed.passed c.piece-more.result.passed c.piece-more.result.last c.loop-passed.invariant
    c.piece-more.ensures.grows (rw c.split_at.ensures.back at c.piece-more.ensures.within) (rw c.split_at.ensures.back at c.piece-more.ensures.stop) (rw c.split_at.ensures.back at c.piece-more.ensures.only) number logic q agrees h (Ok (progress.TheVariants.Formula c.in-Ok-Formula.formula)) (cc) (λ g. cc))
