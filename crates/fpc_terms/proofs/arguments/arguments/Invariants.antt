use Rattle.std.proofs.Common.{◌≡◌, ◌++◌, length}
use Rattle.fpc_terms.specs.Term.{no_args, terms_from, terms_in, arguments_in}
use Rattle.fpc_terms.specs.Cells.{AreTerms}
use Rattle.fpc_terms.proofs.arguments.arguments.Given as goal

abbrev pub invariant-loop-rest : goal.invariant-loop-rest
invariant-loop-rest l = record {
  whole : AreTerms l.rest;
  so_far : l.found ++ terms_in (terms_from l.rest no_args) ≡ arguments_in l.term;
}

abbrev pub decreases-loop-rest : goal.decreases-loop-rest
decreases-loop-rest l = length l.rest
