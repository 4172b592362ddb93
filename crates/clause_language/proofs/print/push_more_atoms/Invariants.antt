use Rattle.std.proofs.Common.{◌≡◌, ◌++◌, [], drop, length}
use Rattle.clause_language.specs.Text.{more_atoms_before}
use Rattle.clause_language.specs.Naming.{AreAtomsNamedBelow}
use Rattle.clause_language.proofs.print.push_more_atoms.Given as goal

abbrev pub invariant-loop-atom : goal.invariant-loop-atom
invariant-loop-atom l = record {
  text : l.out.items ++ more_atoms_before l.names (drop l.atom-index l.atoms) [] ≡ l.fn.out.items ++ more_atoms_before l.names l.atoms [];
  named : AreAtomsNamedBelow (length l.names) (drop l.atom-index l.atoms);
}
