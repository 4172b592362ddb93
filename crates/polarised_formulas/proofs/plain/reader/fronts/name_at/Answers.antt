use Rattle.std.proofs.Common.{◌≡◌, true}
use Rattle.std.specs.Prelude.{slice_index}
use Rattle.fpc_terms.specs.Name.{is_small_letter}
use Rattle.polarised_formulas.proofs.PlainRuns.{name-front, name-stops}
use Rattle.polarised_formulas.proofs.plain.reader.fronts.name_at.Goals as goal

pub returns-then-n-le255-clause-name : goal.returns-then-n-le255-clause-name
returns-then-n-le255-clause-name c =
    let h : is_small_letter (slice_index c.args.bytes.now 0) ≡ true = cc in
    record {
      name = name-front c.args.bytes.now c.name_bytes-n.result c.name_bytes-n.ensures.count h;
      few = c.if-n-le255.true;
      behind = name-stops c.args.bytes.now c.name_bytes-n.result c.name_bytes-n.ensures.count c.if-n-bytes.true;
    }
