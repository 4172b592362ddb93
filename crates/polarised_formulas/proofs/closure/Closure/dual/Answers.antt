use Rattle.std.proofs.Common.{rules, ◌≡◌}
use Rattle.std.proofs.lemmas.Result.{IfOk-weaker}
use Rattle.polarised_formulas.proofs.FillFacts.{stands-dual}
use Rattle.polarised_formulas.proofs.closure.Closure.dual.Goals as goal

pub returns-clause-value : goal.returns-clause-value
returns-clause-value g c =
    let o : c.in_ok-opened.opened ≡ c.self.inside.opened = search rules in rw (← c.self.view_is) (rw o at c.sharing.ensures)

pub returns-clause-stands : goal.returns-clause-stands
returns-clause-stands g c =
    IfOk-weaker c.sharing.result _ _ (λ r e ref. rw e (stands-dual ref c.args.self.now)) (returns-clause-value g c)
