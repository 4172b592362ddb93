use Rattle.std.proofs.Common.{length}
use Rattle.explicit_kernel.proofs.Sharing.{cut-ready, cut-chain, cut-same, cut-place, cut-dropped}
use Rattle.explicit_kernel.proofs.shared.Shared.cut_back.Goals as goal

pub returns-clause-ready : goal.returns-clause-ready
returns-clause-ready c =
    cut-ready c.args.floor c.larger.result (record c.args.self.now { cells = c.keep.new.self }) c.args.self.now.cells c.larger.ensures.first c.requires.ready.down c.keep.ensures
    c.requires.ready.below c.requires.ready.served c.requires.ready.stored_served c.requires.ready.unbound

pub returns-clause-rest : goal.returns-clause-rest
returns-clause-rest c = cut-place c.larger.result c.args.rest (record c.args.self.now { cells = c.keep.new.self }) c.args.self.now.cells c.larger.ensures.second c.keep.ensures c.requires.rest.1

pub returns-clause-chain : goal.returns-clause-chain
returns-clause-chain c = cut-chain c.args.self.now.cells c.keep.new.self c.larger.result c.args.rest c.larger.ensures.second c.keep.ensures

pub returns-clause-pending : goal.returns-clause-pending
returns-clause-pending c =
    cut-same c.args.self.now.terms.items c.args.floor (length c.args.self.now.stored.items) c.larger.result c.args.self.now.stored.items c.args.self.now.cells c.keep.new.self c.args.self.now.sequents
    c.requires.ready.below c.larger.ensures.first c.keep.ensures

pub returns-clause-dropped : goal.returns-clause-dropped
returns-clause-dropped c = cut-dropped c.args.floor c.args.rest c.larger.result c.args.self.now.cells c.keep.new.self c.larger.ensures.one c.keep.ensures
