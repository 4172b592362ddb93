use Rattle.std.proofs.Common.{◌≡◌, ◌+◌, drop}
use Rattle.explicit_form.specs.Feeding.{line_length}
use Rattle.explicit_form.proofs.front.line_length.Given as goal

abbrev pub invariant-loop-i : goal.invariant-loop-i
invariant-loop-i l = line_length l.bytes ≡ l.i + line_length (drop l.i l.bytes)
