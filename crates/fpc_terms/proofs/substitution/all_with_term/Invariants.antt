use Rattle.std.proofs.Common.{◌≡◌, take, map}
use Rattle.fpc_terms.specs.Term.{put}
use Rattle.fpc_terms.specs.Open.{at_one}
use Rattle.fpc_terms.proofs.substitution.all_with_term.Given as goal

abbrev pub invariant-loop-term : goal.invariant-loop-term
invariant-loop-term l = l.found ≡ map (put (at_one l.variable l.by)) (take l.term-index l.terms)
