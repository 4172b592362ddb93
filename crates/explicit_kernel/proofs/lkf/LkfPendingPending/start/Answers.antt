use Rattle.fpc_terms.specs.Term.{Always, Never}
use Rattle.polarised_formulas.proofs.Leaves.{EachInside-weaker}
use Rattle.explicit_kernel.proofs.lkf.LkfPendingPending.start.Goals as goal

pub start-requires : goal.start-requires
start-requires c = EachInside-weaker Never Always (λ n h. absurd h) 0 c.args.goal.now c.requires
