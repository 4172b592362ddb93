-- What the adapter doesn't tell stays untold.
use Rattle.std.proofs.Common.{refl, arith}
use Rattle.fpc_base.proofs.Untold.{each-ok, on-err}
use Rattle.fpc_base.proofs.real.StdSourceSource.TheImpl.Goals as goal

pub read-tells : goal.read-tells
read-tells g c = record {
  never_falls = c.ensures.never_falls;
  ok_count = c.ensures.ok_count;
  failed = c.ensures.failed;
  within = c.ensures.within;
  taken = each-ok c.result _ (λ n. refl);
  end = each-ok c.result _ (λ n at_end. tt);
  none_taken = on-err c.result refl;
  content = refl;
  opened = refl;
  calls = omega arith;
}
