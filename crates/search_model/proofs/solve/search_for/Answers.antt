use Rattle.std.proofs.lemmas.Result.{IfOk-weaker}
use Rattle.clause_language.specs.LeastModel.{fits}
use Rattle.search_model.specs.ClausesAlone.{no_table}
use Rattle.search_model.specs.Search.{call, search}
use Rattle.search_model.specs.Solve.{solving}
use Rattle.search_model.specs.States.{IsFound, IsFoundAlone}
use Rattle.search_model.specs.Table.{calculus_of}
use Rattle.search_model.proofs.NoItems.{found-alone}
use Rattle.search_model.proofs.solve.search_for.Goals as goal

pub returns : goal.returns
returns c =
    let p = c.args.program.now in
    IfOk-weaker c.search_goal.result
    (λ f. IsFound f (search (calculus_of no_table) fits p.clauses c.args.budget (call c.in_ok-question.question) c.in_ok-asked.asked c.args.variables))
    (λ f. IsFoundAlone f (solving p.clauses c.args.budget c.args.atom.now c.args.variables))
    (λ f h. found-alone p.clauses c.args.atom.now c.args.variables c.args.budget f (rw (c.in_ok-question.ensures, c.in_ok-asked.ensures) at h))
    c.search_goal.ensures
