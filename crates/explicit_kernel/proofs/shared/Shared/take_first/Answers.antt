use Rattle.std.proofs.Common.{refl, arith, ◌-◌}
use Rattle.explicit_kernel.proofs.Sharing.{taken-first, taken-ready, taken-pending}
use Rattle.explicit_kernel.proofs.shared.Shared.take_first.Goals as goal

pub returns-then-floor-place-clause-ready : goal.returns-then-floor-place-clause-ready
returns-then-floor-place-clause-ready c =
    taken-ready c.args.self.now (record c.args.self.now { cells = c.take.new.self }) c.args.floor (c.args.place - 1) c.take.result (omega arith) c.requires.ready c.take.ensures refl refl refl

pub returns-then-floor-place-clause-pending : goal.returns-then-floor-place-clause-pending
returns-then-floor-place-clause-pending c = taken-pending c.args.self.now c.take.new.self c.args.floor (c.args.place - 1) c.take.result (omega arith) c.requires.ready c.take.ensures

pub returns-then-floor-place-clause-first : goal.returns-then-floor-place-clause-first
returns-then-floor-place-clause-first c =
    taken-first c.args.self.now (record c.args.self.now { cells = c.take.new.self }) c.args.place (c.args.place - 1) c.take.result (omega arith) c.requires.ready.down c.requires.place c.take.ensures refl
