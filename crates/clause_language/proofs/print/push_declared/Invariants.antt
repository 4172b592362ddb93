use Rattle.std.proofs.Common.{◌≡◌, ◌++◌, [], drop, length}
use Rattle.clause_language.specs.Text.{declared_before}
use Rattle.clause_language.specs.Naming.{AreDeclaredNamedBelow}
use Rattle.clause_language.proofs.print.push_declared.Given as goal

abbrev pub invariant-loop-one : goal.invariant-loop-one
invariant-loop-one l = record {
  text : l.out.items ++ declared_before l.names l.logic (drop l.one-index l.declared) [] ≡ l.fn.out.items ++ declared_before l.names l.logic l.declared [];
  named : AreDeclaredNamedBelow (length l.names) (drop l.one-index l.declared);
}
