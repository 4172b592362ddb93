use Rattle.std.proofs.Common.{◌≡◌, arith}
use Rattle.std.proofs.lemmas.Grind.{common_steps}
use Rattle.polarised_formulas.specs.Formula.{root_node}
use Rattle.polarised_formulas.specs.Closure.{marked_node}
use Rattle.polarised_formulas.proofs.FillFacts.{stands-root}
use Rattle.polarised_formulas.proofs.closure.Closure.shape.Goals as goal

pub returns-clause-stands : goal.returns-clause-stands
returns-clause-stands g c =
    let v : c.with_mark.result ≡ marked_node c.args.self.now.is_dual (root_node c.args.self.now.part) = grind (arith, common_steps) in
    λ ref. rw (v, stands-root ref c.args.self.now)
