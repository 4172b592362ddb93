use Rattle.std.proofs.Common.{rules, ◌+◌, ◌/◌, ◌^◌, ◌<◌, length, ap, ◌∙◌, arith}
use Rattle.std.specs.Fmt.{decimal}
use Rattle.explicit_form.proofs.SizeFacts.{digits-step, digits-end}
use Rattle.explicit_form.proofs.size.digits.Goals as goal

pub loop-rest-preserved : goal.loop-rest-preserved
loop-rest-preserved c =
    let fits : c.args.number < 2 ^ 64 = search rules in
    let rest_fits : c.loop-rest.rest < 2 ^ 64 = search rules in
    record {
      digits = ap (λ n. n + length (decimal (c.loop-rest.rest / 10))) c.saturating_add-count.ensures
          ∙ digits-step c.args.number c.loop-rest.rest c.loop-rest.count fits rest_fits (omega (arith, c.loop-rest-test.true)) c.loop-rest.invariant.digits;
    }

pub returns : goal.returns
returns c = digits-end c.args.number c.loop-rest.rest c.loop-rest.count (omega (arith, c.loop-rest-test.false)) c.loop-rest.invariant.digits
