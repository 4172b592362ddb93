use Rattle.std.proofs.Common.{◌≡◌, ◌++◌, [], drop, length}
use Rattle.clause_language.specs.Text.{clauses_before}
use Rattle.clause_language.specs.Naming.{AreClausesNamedBelow}
use Rattle.clause_language.proofs.print.push_clauses.Given as goal

abbrev pub invariant-loop-clause : goal.invariant-loop-clause
invariant-loop-clause l = record {
  text : l.out.items ++ clauses_before l.names (drop l.clause-index l.clauses) [] ≡ l.fn.out.items ++ clauses_before l.names l.clauses [];
  named : AreClausesNamedBelow (length l.names) (drop l.clause-index l.clauses);
}
