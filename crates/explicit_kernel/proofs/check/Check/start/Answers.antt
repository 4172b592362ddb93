use Rattle.std.proofs.Common.{[], sym, subst, ap₂, arith}
use Rattle.explicit_form.specs.StepReading.{start}
use Rattle.explicit_form.specs.Feeding.{HasRead}
use Rattle.explicit_kernel.specs.JudgmentIn.{going}
use Rattle.explicit_kernel.proofs.check.Check.start.Goals as goal

pub returns-clause-come : goal.returns-clause-come
returns-clause-come g c = λ names. record {
  read = subst (λ logic. HasRead logic names [] c.new.result) c.logic.ensures (c.new.ensures.read names);
  course = λ number agrees. ap₂ (λ q n. going start q n) (sym c.in_ok-start.ensures.pending) (sym c.in_ok-start.ensures.fitted);
  low = c.in_ok-start.ensures.low;
  few = omega (arith, c.in_ok-start.ensures.fitted);
  short = omega arith;
}
