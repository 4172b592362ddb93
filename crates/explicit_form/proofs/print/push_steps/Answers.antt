use Rattle.std.proofs.Common.{rules, ◌≡◌, ◌+◌, ◌<◌, ◌∷◌, ◌++◌, drop, length, sym, ap, ◌∙◌}
use Rattle.std.proofs.lemmas.List.{drop_more}
use Rattle.fpc_terms.specs.Text.{name_in}
use Rattle.explicit_form.specs.StepText.{lines_before, end_text}
use Rattle.explicit_form.proofs.PrintFacts.{step-written}
use Rattle.explicit_form.proofs.print.push_steps.Goals as goal

pub loop-step-preserved : goal.loop-step-preserved
loop-step-preserved c =
    let low : c.loop-step.step-index < length c.args.steps.now = search rules in
    let parts : drop c.loop-step.step-index c.args.steps.now ≡ c.step-item.result ∷ drop (c.loop-step.step-index + 1) c.args.steps.now =
    drop_more c.args.steps.now c.loop-step.step-index c.step-item.result low ∙ ap (λ s. s ∷ drop (c.loop-step.step-index + 1) c.args.steps.now) (sym c.step-item.is) in
    record {
      text = step-written (name_in c.args.names.now) c.args.logic c.step-item.result c.loop-step.out.items c.push_step.new.out.items _ _ c.in_ok-push_step.ensures (ap (λ ss. c.loop-step.out.items ++ lines_before (name_in c.args.names.now) c.args.logic ss end_text) (sym parts) ∙ c.loop-step.invariant.text);
      named = (rw parts at c.loop-step.invariant.named).1;
    }
