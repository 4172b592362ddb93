use Rattle.std.proofs.Common.{◌≡◌, take, map}
use Rattle.fpc_terms.specs.Term.{put}
use Rattle.fpc_terms.specs.Open.{later}
use Rattle.fpc_terms.proofs.substitution.all_with_later_variables.Given as goal

abbrev pub invariant-loop-term : goal.invariant-loop-term
invariant-loop-term l = l.found ≡ map (put (later l.offset)) (take l.term-index l.terms)
