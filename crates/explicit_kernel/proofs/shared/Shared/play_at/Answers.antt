use Rattle.std.proofs.Common.{◌≡◌, [], sym, ◌∙◌}
use Rattle.lkf_rules.specs.Sequent.{up}
use Rattle.explicit_kernel.specs.Shared.{stored_of, taken_sequent}
use Rattle.explicit_kernel.proofs.Sharing.{focus-some, nothing-left}
use Rattle.explicit_kernel.proofs.shared.Shared.play_at.Goals as goal

pub play_on_focus-requires-clause-first : goal.play_on_focus-requires-clause-first
play_on_focus-requires-clause-first c = focus-some c.forget.new.self c.in-Focus.place (rw c.in-Focus.is at c.forget.ensures.served)

pub returns-then-place-eq0-clause-played : goal.returns-then-place-eq0-clause-played
returns-then-place-eq0-clause-played c =
    let y = c.forget.new.self in
    let task = c.args.sequent.now.task in
    let is : taken_sequent c.args.sequent.now c.args.self.now ≡ up (stored_of y) [] =
    sym c.forget.ensures.same ∙ nothing-left y.terms.items y.stored.items y.cells task c.in-Work.place c.in-Work.is c.if-place-eq0.true in
    rw (is, ← c.forget.ensures.pending) c.play_on_nothing.ensures.played
