use Rattle.std.proofs.lemmas.Result.{on_ok_weaker}
use Rattle.polarised_formulas.specs.Held.{given}
use Rattle.explicit_kernel.proofs.NamingFacts.{split-premises, released-premise}
use Rattle.explicit_kernel.proofs.shared.Shared.open_focused.Goals as goal

pub returns-in-Split-clause-pending : goal.returns-in-Split-clause-pending
returns-in-Split-clause-pending c =
    let x = c.args.self.now in
    let ref = given x.terms.items in
    on_ok_weaker c.open_focus-in-Split.result
    (λ told. split-premises x c.args.level c.args.effect c.args.formula c.open_focus.new.self c.in_ok-first-in-Split.first c.in_ok-second-in-Split.second _
    c.in-Split.is c.open_focus.ensures.stored c.open_focus.ensures.terms (c.in_ok-first-in-Split.ensures.stands ref) (c.in_ok-second-in-Split.ensures.stands ref) c.in_ok-open_focus-in-Split.ensures.pending told)
    c.open_focus-in-Split.ensures.pending

pub returns-clause-pending : goal.returns-clause-pending
returns-clause-pending c =
    on_ok_weaker c.open_first.result (λ told. released-premise c.args.self.now c.args.level c.args.effect c.args.formula _ c.in-Release.is told) c.open_first.ensures.pending
