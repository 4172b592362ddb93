use Rattle.std.proofs.Common.{◌-◌, length}
use Rattle.explicit_form.proofs.Fronts.{IsInPlace}
use Rattle.explicit_form.proofs.front.place_at.Given as goal

abbrev pub invariant-loop-n : goal.invariant-loop-n
invariant-loop-n l = IsInPlace l.bytes l.place l.n

abbrev pub decreases-loop-n : goal.decreases-loop-n
decreases-loop-n l = length l.bytes - l.n
