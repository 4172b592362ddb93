use Rattle.std.proofs.Common.{◌≡◌, ◌+◌, ◌-◌, ◌≤◌, vec_len}
use Rattle.fpc_base.proofs.Moves.{IsRead}
use Rattle.fpc_base.proofs.transfer.read_through.Given as goal

abbrev pub invariant-loop-bytes : goal.invariant-loop-bytes
invariant-loop-bytes g l =
    IsRead (g.S.Source.outside l.initial.src).left (g.S.Source.outside l.src).left l.bytes.items (vec_len l.bytes) l.limit
    × ((g.S.Source.outside l.src).faults ≡ (g.S.Source.outside l.initial.src).faults)
    × ((g.S.Source.outside l.src).content ≡ (g.S.Source.outside l.initial.src).content)
    × ((g.S.Source.outside l.src).calls ≤ (g.S.Source.outside l.initial.src).calls + vec_len l.bytes)
    × ((g.S.Source.outside l.src).opened ≡ (g.S.Source.outside l.initial.src).opened)

abbrev pub decreases-loop-bytes : goal.decreases-loop-bytes
decreases-loop-bytes g l = l.limit + 1 - vec_len l.bytes
