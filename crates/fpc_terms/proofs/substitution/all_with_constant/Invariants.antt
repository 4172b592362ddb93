use Rattle.std.proofs.Common.{◌≡◌, take, map}
use Rattle.fpc_terms.specs.Term.{put}
use Rattle.fpc_terms.specs.Open.{constant}
use Rattle.fpc_terms.proofs.substitution.all_with_constant.Given as goal

abbrev pub invariant-loop-term : goal.invariant-loop-term
invariant-loop-term l = l.found ≡ map (put (constant l.name)) (take l.term-index l.terms)
