use Rattle.std.proofs.Common.{◌≡◌, ◌<◌, ◌≤◌, ◌-◌, length, slice_get}
use Rattle.polarised_formulas.proofs.references.reference_at.Given as goal

abbrev pub invariant-loop-link : goal.invariant-loop-link
invariant-loop-link g l =
    (0 < l.len) × (l.len ≤ length l.link) ×
    (slice_get l.link (length l.link - l.len) ≡ slice_get l.fn.first l.fn.place)

abbrev pub decreases-loop-link : goal.decreases-loop-link
decreases-loop-link g l = length l.link
