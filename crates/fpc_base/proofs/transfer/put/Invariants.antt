use Rattle.std.proofs.Common.{◌≡◌, ◌+◌, ◌-◌, ◌≤◌, length}
use Rattle.fpc_base.proofs.Moves.{IsPut}
use Rattle.fpc_base.proofs.transfer.put.Given as goal

abbrev pub invariant-loop-done : goal.invariant-loop-done
invariant-loop-done g l =
    IsPut (g.S.Sink.output l.initial.sink).taken (g.S.Sink.output l.sink).taken l.bytes l.done
    × ((g.S.Sink.output l.sink).faults ≡ (g.S.Sink.output l.initial.sink).faults)
    × ((g.S.Sink.output l.sink).calls ≤ (g.S.Sink.output l.initial.sink).calls + l.done)

abbrev pub decreases-loop-done : goal.decreases-loop-done
decreases-loop-done g l = length l.initial.bytes - l.done
