use Rattle.std.proofs.Common.{refl, slice_index_or}
use Rattle.explicit_form.proofs.ReaderFeeding.{added, takes, stops, inside-next}
use Rattle.explicit_form.proofs.step_reader.StepReader.feed_bytes.Goals as goal

pub returns-in-Err-clause-line : goal.returns-in-Err-clause-line
returns-in-Err-clause-line c =
    stops c.args.names.now c.loop-i.names c.byte.new.names c.args.self.now c.loop-i.self c.byte.new.self c.args.bytes.now c.loop-i.i (slice_index_or c.args.bytes.now c.loop-i.i 0) c.loop-i.invariant
    c.loop-i-test.true refl c.in-Err.ensures.grows c.in-Err.fault c.in-Err.ensures.taken

pub returns-then-b-eq10-clause-line : goal.returns-then-b-eq10-clause-line
returns-then-b-eq10-clause-line c =
    takes c.args.names.now c.loop-i.names c.byte.new.names c.args.self.now c.loop-i.self c.byte.new.self c.args.bytes.now c.loop-i.i (slice_index_or c.args.bytes.now c.loop-i.i 0) c.loop-i.invariant
    c.loop-i-test.true refl c.in-Ok.ensures.grows c.in-Ok.ensures.taken

pub loop-i-preserved : goal.loop-i-preserved
loop-i-preserved c =
    inside-next c.args.names.now c.loop-i.names c.byte.new.names c.args.self.now c.loop-i.self c.byte.new.self c.args.bytes.now c.loop-i.i (slice_index_or c.args.bytes.now c.loop-i.i 0) c.loop-i.invariant
    c.loop-i-test.true refl c.in-Ok.ensures.grows c.in-Ok.ensures.taken c.in-Ok.ensures.place c.if-b-eq10.false c.in-Ok.ensures.only

pub returns-in-Err-clause-only : goal.returns-in-Err-clause-only
returns-in-Err-clause-only c = λ logic before stands.
    added c.args.names.now c.loop-i.names c.byte.new.names c.args.self.now c.loop-i.self c.byte.new.self c.args.bytes.now c.loop-i.i (slice_index_or c.args.bytes.now c.loop-i.i 0) c.loop-i.invariant
    c.loop-i-test.true refl c.in-Err.ensures.grows c.in-Err.ensures.only logic before c.distinct.ensures stands

pub returns-then-b-eq10-clause-only : goal.returns-then-b-eq10-clause-only
returns-then-b-eq10-clause-only c = λ logic before stands.
    added c.args.names.now c.loop-i.names c.byte.new.names c.args.self.now c.loop-i.self c.byte.new.self c.args.bytes.now c.loop-i.i (slice_index_or c.args.bytes.now c.loop-i.i 0) c.loop-i.invariant
    c.loop-i-test.true refl c.in-Ok.ensures.grows c.in-Ok.ensures.only logic before c.distinct-then-b-eq10.ensures stands

pub returns-clause-only : goal.returns-clause-only
returns-clause-only c = λ logic before stands. c.loop-i.invariant.only logic before c.distinct-2.ensures stands
