use Rattle.std.proofs.Common.{◌≡◌, ℕ, ◌≤◌, ◌+◌, ◌-◌, List, length}
use Rattle.fpc_base.specs.Outside.{TakesFront}
use Rattle.fpc_terms.specs.Name.{Grows}
use Rattle.fpc_terms.specs.Adding.{AddsOnly}
use Rattle.polarised_formulas.specs.Adding.{IsPartOf}
use Rattle.explicit_kernel.specs.Check.{HasCome}
use Rattle.explicit_kernel.proofs.verify.verify_through.Given as goal

abbrev pub invariant-loop-names : goal.invariant-loop-names
invariant-loop-names g l =
    ((front : List ℕ) × (TakesFront (g.S.Source.outside l.initial.source).left front (g.S.Source.outside l.source).left × (HasCome g.P.Pending.calculus l.names l.goal front l.check.reader (g.P.Pending.sequents_of l.check.play.pending) l.check.play.fitted × (((g.S.Source.outside l.source).calls ≤ (g.S.Source.outside l.initial.source).calls + length front) × AddsOnly (IsPartOf front) l.initial.names l.names))))
    × Grows l.initial.names l.names
    × (l.steps ≡ l.initial.steps + l.check.play.fitted)
    × ((g.S.Source.outside l.source).faults ≡ (g.S.Source.outside l.initial.source).faults)
    × ((g.S.Source.outside l.source).content ≡ (g.S.Source.outside l.initial.source).content)
    × ((g.S.Source.outside l.source).opened ≡ (g.S.Source.outside l.initial.source).opened)

abbrev pub decreases-loop-names : goal.decreases-loop-names
decreases-loop-names g l = 67108865 - l.check.reader.at
