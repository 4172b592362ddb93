use Rattle.std.proofs.Common.{ℕ, ◌≤◌, ◌-◌, ◌++◌, List, length, take}
use Rattle.fpc_terms.specs.Name.{Grows}
use Rattle.fpc_terms.specs.Adding.{AddsOnly}
use Rattle.polarised_formulas.specs.Adding.{IsPartIn}
use Rattle.polarised_formulas.specs.Formula.{Formula}
use Rattle.explicit_kernel.specs.Check.{HasCome, HasTicks}
use Rattle.explicit_kernel.proofs.check.Check.take_piece.Given as goal

abbrev pub invariant-loop-fed : goal.invariant-loop-fed
invariant-loop-fed g l =
    Grows l.initial.names l.names
    × (l.fed ≤ length l.piece)
    × ((goal : Formula) (before : List ℕ) → HasCome g.P.Pending.calculus l.initial.names goal before l.initial.self.reader (g.P.Pending.sequents_of l.initial.self.play.pending) l.initial.self.play.fitted → HasCome g.P.Pending.calculus l.names goal (before ++ take l.fed l.piece) l.self.reader (g.P.Pending.sequents_of l.self.play.pending) l.self.play.fitted)
    × HasTicks l.initial.self.play.fitted l.self.play.fitted l.initial.steps l.steps
    × ((goal : Formula) (before : List ℕ) → HasCome g.P.Pending.calculus l.initial.names goal before l.initial.self.reader (g.P.Pending.sequents_of l.initial.self.play.pending) l.initial.self.play.fitted → AddsOnly (IsPartIn before l.piece) l.initial.names l.names)

abbrev pub decreases-loop-fed : goal.decreases-loop-fed
decreases-loop-fed g l = length l.piece - l.fed
