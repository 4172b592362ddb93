use Rattle.std.proofs.Common.{◌≡◌, take, map}
use Rattle.fpc_terms.specs.Open.{at_one}
use Rattle.search_model.specs.StoredFormulas.{put_stored}
use Rattle.search_model.proofs.stored.Store.with_term.Given as goal

abbrev pub invariant-loop-one : goal.invariant-loop-one
invariant-loop-one l =
    l.found ≡ map (put_stored (at_one l.variable l.term)) (take l.one-index l.self)
