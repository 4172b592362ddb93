use Rattle.std.proofs.Common.{rules, ◌≡◌, length}
use Rattle.polarised_formulas.proofs.AtFacts.{begins_root}
use Rattle.polarised_formulas.proofs.closure.whole.Goals as goal

pub made-requires : goal.made-requires
made-requires g c =
    let r : c.in_ok-root.root.value ≡ record { tree = c.args.f; parameters = c.args.parameters } = search rules in
    rw (r, c.none.ensures) (begins_root c.args.f 0 (length c.args.parameters) c.requires).at
