use Rattle.std.proofs.Common.{arith, ◌-◌}
use Rattle.explicit_kernel.proofs.Sharing.{first-cell}
use Rattle.explicit_kernel.proofs.shared.Shared.first_at.Goals as goal

pub returns : goal.returns
returns c = first-cell c.args.self.now c.args.place (c.args.place - 1) c.at.result.now (omega arith) c.requires.down c.requires.place c.at.ensures
