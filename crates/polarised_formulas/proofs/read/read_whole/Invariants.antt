use Rattle.std.proofs.Common.{◌≡◌, length}
use Rattle.fpc_base.specs.Lexeme.{items_left}
use Rattle.fpc_base.specs.Tokens.{source_of}
use Rattle.fpc_terms.specs.Name.{Grows}
use Rattle.fpc_terms.specs.Adding.{AddsTaken}
use Rattle.polarised_formulas.proofs.ReadFacts.{IsOn}
use Rattle.polarised_formulas.proofs.read.read_whole.Given as goal

abbrev pub invariant-reading : goal.invariant-reading
invariant-reading l = record {
  on : IsOn l.fn.logic l.fn.parameters (length (source_of l.initial.start)) (items_left l.initial.start) (items_left l.tokens) l.names l.reader;
  names : Grows l.initial.names l.names;
  adds : AddsTaken (items_left l.initial.start) (items_left l.tokens) l.initial.names l.names;
  source : source_of l.tokens ≡ source_of l.initial.start;
}

abbrev pub decreases-reading : goal.decreases-reading
decreases-reading l = length (items_left l.tokens)
