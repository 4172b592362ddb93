use Rattle.std.proofs.Common.{◌≡◌, ◌++◌, length}
use Rattle.fpc_terms.specs.Printing.{StartsWith, end_text, end_counts}
use Rattle.fpc_terms.proofs.print.push_end.Given as goal

abbrev pub invariant-loop-count : goal.invariant-loop-count
invariant-loop-count l = record {
  text : l.out.items ++ end_text l.counts ≡ l.initial.out.items ++ end_text l.initial.counts;
  counts : end_counts l.counts ≡ end_counts l.initial.counts;
  front : StartsWith l.initial.out.items l.out.items;
}

abbrev pub decreases-loop-count : goal.decreases-loop-count
decreases-loop-count l = length l.counts
