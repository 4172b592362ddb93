use Rattle.search_model.proofs.Roots.{check_settled}
use Rattle.search_model.proofs.laws.outcome_of_check_is_settled.Goals as goal

pub returns : goal.returns
returns g c = λ p aim budget units answer e.
    let s = check_settled (g.C.Calculus.table p) p aim budget units answer e in (s.same, s.below)
