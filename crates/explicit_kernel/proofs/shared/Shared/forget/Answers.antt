use Rattle.std.proofs.Common.{refl}
use Rattle.explicit_kernel.proofs.Sharing.{forget-ready, forget-task, forget-same, forget-pending}
use Rattle.explicit_kernel.proofs.shared.Shared.forget.Goals as goal

pub returns-clause-ready : goal.returns-clause-ready
returns-clause-ready c =
    forget-ready c.args.sequent.now c.args.self.now (record c.args.self.now { stored = c.truncate.new.self; terms = c.truncate-2.new.self }) c.requires c.truncate.ensures.items c.truncate-2.ensures.items refl refl

pub returns-clause-served : goal.returns-clause-served
returns-clause-served c = forget-task c.args.sequent.now c.args.self.now c.truncate-2.new.self.items c.requires c.truncate-2.ensures.items

pub returns-clause-same : goal.returns-clause-same
returns-clause-same c = forget-same c.args.sequent.now c.args.self.now c.truncate.new.self.items c.truncate-2.new.self.items c.requires c.truncate.ensures.items c.truncate-2.ensures.items

pub returns-clause-pending : goal.returns-clause-pending
returns-clause-pending c = forget-pending c.args.sequent.now c.args.self.now c.truncate.new.self.items c.truncate-2.new.self.items c.requires c.truncate.ensures.items c.truncate-2.ensures.items
