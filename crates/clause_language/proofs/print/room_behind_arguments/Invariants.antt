use Rattle.std.proofs.Common.{◌≡◌, [], drop, length}
use Rattle.fpc_terms.specs.Text.{name_in, plain_leaves, more_before, room_left}
use Rattle.clause_language.specs.Text.{args_of}
use Rattle.clause_language.specs.Naming.{AreTermsNamedBelow}
use Rattle.clause_language.proofs.print.room_behind_arguments.Given as goal

abbrev pub invariant-loop-term : goal.invariant-loop-term
invariant-loop-term l = record {
  room : room_left l.left (length (more_before (plain_leaves (name_in l.names)) (args_of (drop l.term-index l.arguments)) []))
      ≡ room_left l.fn.room (length (more_before (plain_leaves (name_in l.names)) (args_of l.arguments) []));
  named : AreTermsNamedBelow (length l.names) (drop l.term-index l.arguments);
}
