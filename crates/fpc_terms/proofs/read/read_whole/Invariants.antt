use Rattle.std.proofs.Common.{◌≡◌, length}
use Rattle.fpc_base.specs.Lexeme.{items_left}
use Rattle.fpc_base.specs.Tokens.{source_of}
use Rattle.fpc_terms.specs.Name.{Grows}
use Rattle.fpc_terms.specs.Adding.{AddsTaken}
use Rattle.fpc_terms.proofs.ReadFacts.{IsOn}
use Rattle.fpc_terms.proofs.read.read_whole.Given as goal

abbrev pub invariant-reading : goal.invariant-reading
invariant-reading l = record {
  on : IsOn l.initial.most (length (source_of l.initial.start)) (items_left l.initial.start) (items_left l.tokens) l.names l.initial.vars l.vars l.reader;
  names : Grows l.initial.names l.names;
  adds : AddsTaken (items_left l.initial.start) (items_left l.tokens) l.initial.names l.names;
  variables : Grows l.initial.vars l.vars;
  source : source_of l.tokens ≡ source_of l.initial.start;
}

abbrev pub decreases-reading : goal.decreases-reading
decreases-reading l = length (items_left l.tokens)
