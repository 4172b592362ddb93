use Rattle.std.proofs.Common.{◌≡◌, ◌++◌, length}
use Rattle.fpc_terms.specs.Printing.{StartsWith}
use Rattle.polarised_formulas.specs.Printing.{end_text, end_waiting, end_depth}
use Rattle.polarised_formulas.proofs.print.progress.Progress.pass_end.Given as goal

abbrev pub invariant-loop-waiting : goal.invariant-loop-waiting
invariant-loop-waiting l = record {
  text : l.out.items ++ end_text l.logic l.self.waiting ≡ l.initial.out.items ++ end_text l.logic l.initial.self.waiting;
  waiting : end_waiting l.self.waiting ≡ end_waiting l.initial.self.waiting;
  depth : end_depth l.self.depth l.self.waiting ≡ end_depth l.initial.self.depth l.initial.self.waiting;
  front : StartsWith l.initial.out.items l.out.items;
}

abbrev pub decreases-loop-waiting : goal.decreases-loop-waiting
decreases-loop-waiting l = length l.self.waiting
