use Rattle.std.proofs.Common.{[]}
use Rattle.polarised_formulas.specs.Held.{given}
use Rattle.polarised_formulas.proofs.HeldFacts.{stands_root, may_be_held}
use Rattle.explicit_kernel.proofs.NamingFacts.{root-pending}
use Rattle.explicit_kernel.proofs.shared.Shared.start.Goals as goal

pub of_formula-requires : goal.of_formula-requires
of_formula-requires c = rw c.in_ok-copy.ensures (may_be_held c.args.goal.now c.requires)

pub returns-clause-pending : goal.returns-clause-pending
returns-clause-pending c =
    root-pending c.empty-shared.result c.open_first.new.self c.in_ok-goal.goal c.args.goal.now c.empty-shared.ensures.stored c.empty-shared.ensures.terms c.empty-shared.ensures.cells c.empty-shared.ensures.sequents
    (rw (c.in_ok-goal.ensures, c.in_ok-copy.ensures) (stands_root (given []) c.args.goal.now c.requires)) c.in_ok-open_first.ensures.pending
