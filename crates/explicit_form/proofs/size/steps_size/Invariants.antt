use Rattle.std.proofs.Common.{◌≡◌, ◌≤◌, ◌+◌, drop, length}
use Rattle.fpc_terms.specs.Text.{name_in}
use Rattle.explicit_form.specs.Sizes.{counted, steps_size, StepsNamedBelow}
use Rattle.explicit_form.proofs.size.steps_size.Given as goal

abbrev pub invariant-loop-step : goal.invariant-loop-step
invariant-loop-step l = record {
  size : counted (l.size + steps_size (name_in l.names) l.logic (drop l.step-index l.steps)) ≡ counted (steps_size (name_in l.names) l.logic l.steps);
  fits : l.size ≤ 18446744073709551615;
  named : StepsNamedBelow (length l.names) (drop l.step-index l.steps);
}
