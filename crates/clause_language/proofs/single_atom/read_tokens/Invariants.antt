use Rattle.std.proofs.Common.{length}
use Rattle.fpc_base.specs.Lexeme.{items_left, items_of}
use Rattle.fpc_terms.specs.Adding.{AddsTaken}
use Rattle.fpc_terms.specs.Name.{Grows}
use Rattle.clause_language.specs.HoldingAtom.{AtomIsTaken}
use Rattle.clause_language.proofs.single_atom.read_tokens.Given as goal

abbrev pub invariant-reading : goal.invariant-reading
invariant-reading l = record {
  on : AtomIsTaken (length l.fn.bytes) (items_of l.fn.bytes) (items_left l.tokens) l.names l.reader;
  names : Grows l.initial.names l.names;
  adds : AddsTaken (items_of l.fn.bytes) (items_left l.tokens) l.initial.names l.names;
}

abbrev pub decreases-reading : goal.decreases-reading
decreases-reading l = length (items_left l.tokens)
