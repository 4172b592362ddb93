use Rattle.std.proofs.Common.{◌≡◌, ◌++◌, drop, length}
use Rattle.fpc_terms.specs.Text.{name_in}
use Rattle.explicit_form.specs.StepText.{lines_before, end_text, certificate_text}
use Rattle.explicit_form.specs.Sizes.{StepsNamedBelow}
use Rattle.explicit_form.proofs.print.push_steps.Given as goal

abbrev pub invariant-loop-step : goal.invariant-loop-step
invariant-loop-step l = record {
  text : l.out.items ++ lines_before (name_in l.names) l.logic (drop l.step-index l.steps) end_text ≡ certificate_text (name_in l.names) l.logic l.steps;
  named : StepsNamedBelow (length l.names) (drop l.step-index l.steps);
}
