-- What the adapter doesn't tell stays untold.
use Rattle.std.proofs.Common.{refl, arith, inl}
use Rattle.fpc_base.proofs.Untold.{on-ok, on-err, err-weaker}
use Rattle.fpc_base.proofs.real.StdFilesFiles.TheImpl.Goals as goal

pub open-tells : goal.open-tells
open-tells g c = record {
  never_falls = c.ensures.never_falls;
  ok_count = c.ensures.ok_count;
  failed = err-weaker c.result (λ rose. inl rose) c.ensures.failed;
  opened = on-ok c.result tt;
  content = refl;
  named = on-ok c.result refl;
  not_named = on-err c.result refl;
  calls = omega arith;
}
