use Rattle.explicit_kernel.proofs.Sharing.{ready-sound}
use Rattle.explicit_kernel.proofs.shared.Shared.open_first.Goals as goal

pub returns-in_err-place-clause-sound : goal.returns-in_err-place-clause-sound
returns-in_err-place-clause-sound c = ready-sound c.args.floor c.put_before.new.self (c.put_before.ensures.grows.ready c.args.floor c.requires.ready)

pub put_before-requires-clause-sound : goal.put_before-requires-clause-sound
put_before-requires-clause-sound c = ready-sound c.args.floor c.args.self.now c.requires.ready
