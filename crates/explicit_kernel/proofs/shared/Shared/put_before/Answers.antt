use Rattle.explicit_kernel.proofs.Sharing.{cell-grows}
use Rattle.std.proofs.Common.{refl}
use Rattle.explicit_kernel.proofs.shared.Shared.put_before.Goals as goal

pub returns-clause-grows : goal.returns-clause-grows
returns-clause-grows c =
    cell-grows record { formula = c.args.formula; next = c.args.next } c.args.self.now (record c.args.self.now { cells = c.push.new.self }) c.requires.next.0 c.in_ok-push.ensures.ok refl refl refl c.requires.sound
