use Rattle.std.proofs.Common.{◌≡◌, take, map}
use Rattle.fpc_terms.specs.Open.{at_one}
use Rattle.polarised_formulas.specs.OpenFormula.{put_formula}
use Rattle.polarised_formulas.proofs.substitution.formulas_with_term.Given as goal

abbrev pub invariant-loop-formula : goal.invariant-loop-formula
invariant-loop-formula l =
    l.found ≡ map (put_formula (at_one l.variable l.by)) (take l.formula-index l.formulas)
