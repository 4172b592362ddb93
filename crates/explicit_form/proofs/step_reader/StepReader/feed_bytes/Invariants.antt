use Rattle.explicit_form.proofs.ReaderFeeding.{IsInside}
use Rattle.explicit_form.proofs.step_reader.StepReader.feed_bytes.Given as goal

abbrev pub invariant-loop-i : goal.invariant-loop-i
invariant-loop-i l = IsInside l.fn.names l.names l.fn.self l.self l.bytes l.i
