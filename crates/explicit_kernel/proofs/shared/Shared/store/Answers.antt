use Rattle.std.proofs.Common.{refl}
use Rattle.explicit_kernel.proofs.Sharing.{stored-ready, stored-same}
use Rattle.explicit_kernel.proofs.shared.Shared.store.Goals as goal

pub returns-clause-ready : goal.returns-clause-ready
returns-clause-ready c =
    stored-ready c.args.floor c.args.self.now c.push.new.self.items (record c.args.self.now { stored = c.push.new.self }) c.args.formula c.in_ok-push.ensures.items c.requires.served refl refl refl refl c.requires.ready

pub returns-clause-pending : goal.returns-clause-pending
returns-clause-pending c =
    stored-same c.args.self.now.terms.items c.args.floor c.args.self.now.stored.items c.push.new.self.items c.args.formula c.args.self.now.cells c.args.self.now.sequents c.in_ok-push.ensures.items c.requires.ready.below
