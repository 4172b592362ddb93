use Rattle.std.proofs.Common.{drop, length}
use Rattle.clause_language.specs.Naming.{AreDeclaredNamedBelow}
use Rattle.clause_language.specs.ReadFile.{names_of}
use Rattle.clause_language.proofs.ReadFacts.{AreComing}
use Rattle.clause_language.proofs.read.taken_names.Given as goal

abbrev pub invariant-loop-one : goal.invariant-loop-one
invariant-loop-one l = record {
  coming : AreComing (names_of l.names l.declared) l.taken (names_of l.names (drop l.one-index l.declared));
  named : AreDeclaredNamedBelow (length l.names) (drop l.one-index l.declared);
}
