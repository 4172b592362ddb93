use Rattle.std.proofs.Common.{◌≡◌, false, [], nat_eq, arith}
use Rattle.std.proofs.lemmas.Bool.Decides.{nat_tests}
use Rattle.fpc_terms.specs.Term.{no_args}
use Rattle.polarised_formulas.specs.Formula.{atom}
use Rattle.polarised_formulas.specs.PlainReading.{behind_formula}
use Rattle.polarised_formulas.proofs.Answering.{memory-only}
use Rattle.polarised_formulas.proofs.plain.reader.PlainReader.end_named_literal.Goals as goal

pub returns-in-Ok : goal.returns-in-Ok
returns-in-Ok c = λ logic hs h.
    let e : nat_eq c.args.b 40 ≡ false = grind (arith, nat_tests) in
    rw e (c.behind_formula.ensures logic hs (atom c.args.positive c.args.name no_args) (c.in-Ok.ensures logic hs [] h))

pub returns-in-Err : goal.returns-in-Err
returns-in-Err c = λ logic hs h. memory-only logic (behind_formula hs (atom c.args.positive c.args.name no_args)) c.in-Err.refusal _ _ (c.in-Err.ensures logic hs [] h)
