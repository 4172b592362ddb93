use Rattle.polarised_formulas.proofs.ProblemFacts.{read-closed, read-of_logic, read-lkf}
use Rattle.std.specs.Prelude.{[]}
use Rattle.fpc_terms.proofs.ReadFacts.{Agrees-index_in}
use Rattle.polarised_formulas.proofs.FormulaNames.{told-names}
use Rattle.polarised_formulas.proofs.problem.read_problem.Goals as goal

pub returns-in-Ok-clause-closed : goal.returns-in-Ok-clause-closed
returns-in-Ok-clause-closed c = read-closed _ _ _ _ c.distinct.ensures c.in-Ok.ensures.ok

pub returns-in-Ok-clause-of_logic : goal.returns-in-Ok-clause-of_logic
returns-in-Ok-clause-of_logic c = read-of_logic _ _ _ _ c.distinct.ensures c.in-Ok.ensures.ok

pub returns-in-Ok-clause-lkf : goal.returns-in-Ok-clause-lkf
returns-in-Ok-clause-lkf c = read-lkf _ _ _ _ c.distinct.ensures c.in-Ok.ensures.ok

pub returns-in-Ok-clause-named : goal.returns-in-Ok-clause-named
returns-in-Ok-clause-named c =
    let r = c.in-Ok.ensures.ok in told-names _ [] c.distinct.ensures _ r.written.formula (Agrees-index_in _ c.distinct.ensures) r.meant
