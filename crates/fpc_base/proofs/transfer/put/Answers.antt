use Rattle.std.proofs.Common.{arith}
use Rattle.fpc_base.proofs.Moves.{IsPut-more, IsPut-prefix}
use Rattle.fpc_base.proofs.transfer.put.Goals as goal

pub loop-done-preserved : goal.loop-done-preserved
loop-done-preserved g c = (
  IsPut-more (g.S.Sink.output c.args.sink.now).taken (g.S.Sink.output c.loop-done.sink).taken (g.S.Sink.output c.write.new.self).taken c.args.bytes.now c.split_at.result.1.now c.loop-done.done c.in-Ok.n c.loop-done.invariant.0 c.split_at.ensures.back c.in-Ok.ensures.within c.in-Ok.ensures.added,
  omega (arith, c.in-Ok.ensures.ok_count),
  omega (arith, c.in-Ok.ensures.calls, c.in-Ok.ensures.some),
)

pub returns-in-Err-clause-prefix : goal.returns-in-Err-clause-prefix
returns-in-Err-clause-prefix g c =
    rw c.in-Err.ensures.none_added (IsPut-prefix (g.S.Sink.output c.args.sink.now).taken (g.S.Sink.output c.loop-done.sink).taken c.args.bytes.now c.loop-done.done c.loop-done.invariant.0)
