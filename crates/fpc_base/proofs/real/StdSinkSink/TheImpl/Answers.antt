-- What the adapter doesn't tell stays untold.
use Rattle.std.proofs.Common.{refl, arith}
use Rattle.fpc_base.proofs.Untold.{each-ok, on-err}
use Rattle.fpc_base.proofs.real.StdSinkSink.TheImpl.Goals as goal

pub write-tells : goal.write-tells
write-tells g c = record {
  never_falls = c.ensures.never_falls;
  ok_count = c.ensures.ok_count;
  failed = c.ensures.failed;
  some = c.ensures.some;
  within = c.ensures.within;
  added = each-ok c.result _ (λ n. refl);
  none_added = on-err c.result refl;
  calls = omega arith;
}
