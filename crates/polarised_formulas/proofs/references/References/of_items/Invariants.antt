use Rattle.std.proofs.Common.{◌≡◌, ◌≤◌, drop, length}
use Rattle.polarised_formulas.proofs.references.References.of_items.Given as goal

abbrev pub invariant-loop-left : goal.invariant-loop-left
invariant-loop-left g l = (l.left ≤ length l.fn.items) × (l.all ≡ drop l.left l.fn.items)

abbrev pub decreases-loop-left : goal.decreases-loop-left
decreases-loop-left g l = l.left
