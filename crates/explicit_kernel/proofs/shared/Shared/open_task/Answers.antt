use Rattle.std.proofs.Common.{ap, length, refl}
use Rattle.explicit_kernel.proofs.Sharing.{task-sound}
use Rattle.explicit_kernel.proofs.shared.Shared.open_task.Goals as goal

pub returns-clause-sound : goal.returns-clause-sound
returns-clause-sound c =
    task-sound c.push.result c.args.floor c.args.level (length c.as_slice-stored.result.now) (length c.as_slice-terms.result.now) c.args.task c.args.self.now (record c.args.self.now { sequents = c.push.new.self })
    c.requires.ready c.requires.task c.requires.served (ap length c.as_slice-stored.ensures.value) (ap length c.as_slice-terms.ensures.value) refl refl refl c.push.ensures.ok c.push.ensures.err
