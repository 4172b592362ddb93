use Rattle.std.proofs.Common.{◌≡◌, ◌++◌, [], drop, length}
use Rattle.fpc_terms.specs.Printing.{StartsWith}
use Rattle.fpc_terms.specs.Text.{name_in, plain_leaves, more_before}
use Rattle.clause_language.specs.Text.{args_of}
use Rattle.clause_language.specs.Naming.{AreTermsNamedBelow}
use Rattle.clause_language.proofs.print.push_more_arguments.Given as goal

abbrev pub invariant-loop-term : goal.invariant-loop-term
invariant-loop-term l = record {
  text : l.out.items ++ more_before (plain_leaves (name_in l.names)) (args_of (drop l.term-index l.arguments)) []
      ≡ l.fn.out.items ++ more_before (plain_leaves (name_in l.names)) (args_of l.arguments) [];
  front : StartsWith l.fn.out.items l.out.items;
  named : AreTermsNamedBelow (length l.names) (drop l.term-index l.arguments);
}
