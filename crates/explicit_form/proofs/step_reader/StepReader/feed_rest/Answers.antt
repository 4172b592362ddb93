use Rattle.std.proofs.Common.{None, refl}
use Rattle.explicit_form.specs.StepReading.{start, run}
use Rattle.explicit_form.proofs.Taking.{IsAt-same}
use Rattle.explicit_form.proofs.step_reader.StepReader.feed_rest.Goals as goal

pub returns-in-Some-clause-only : goal.returns-in-Some-clause-only
returns-in-Some-clause-only c = λ logic before stands.
    c.feed_plain.ensures.only logic before
    (λ number agrees. IsAt-same logic (run number logic start before) c.args.self.now (record c.args.self.now { step = None }) refl refl (stands number agrees))
