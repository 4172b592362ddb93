use Rattle.std.proofs.lemmas.Grind.{common_steps}
use Rattle.std.proofs.Common.{◌<◌, length, arith, append_assoc}
use Rattle.fpc_terms.proofs.ArgumentFacts.{holds_arguments, splits_first}
use Rattle.fpc_terms.proofs.arguments.arguments.Goals as goal

pub split_at-requires : goal.split_at-requires
split_at-requires c = rw c.cells.ensures (holds_arguments c.args.term.now).some

pub loop-rest-init : goal.loop-rest-init
loop-rest-init c = let h = holds_arguments c.args.term.now in record {
  whole = rw (c.split_at.ensures.back, c.cells.ensures) h.whole;
  so_far = rw (c.new-found.ensures, c.split_at.ensures.back, c.cells.ensures) h.arguments;
}

pub length_of_first-requires : goal.length_of_first-requires
length_of_first-requires c =
    let some : 0 < length c.loop-rest.rest.now = grind (arith, common_steps) in
    let h = splits_first c.loop-rest.rest.now c.loop-rest.invariant.whole some in
    h.few

pub split_at-requires-in-loop-rest : goal.split_at-requires-in-loop-rest
split_at-requires-in-loop-rest c =
    let some : 0 < length c.loop-rest.rest.now = grind (arith, common_steps) in
    let h = splits_first c.loop-rest.rest.now c.loop-rest.invariant.whole some in
    rw c.length_of_first.ensures h.within

pub from_cells-requires : goal.from_cells-requires
from_cells-requires c =
    let some : 0 < length c.loop-rest.rest.now = grind (arith, common_steps) in
    let h = splits_first c.loop-rest.rest.now c.loop-rest.invariant.whole some in
    rw (c.split_at-in-loop-rest.ensures.front, c.length_of_first.ensures) h.first

pub loop-rest-preserved : goal.loop-rest-preserved
loop-rest-preserved c =
    let some : 0 < length c.loop-rest.rest.now = grind (arith, common_steps) in
    let h = splits_first c.loop-rest.rest.now c.loop-rest.invariant.whole some in
    record {
      whole = rw (c.split_at-in-loop-rest.ensures.back, c.length_of_first.ensures) h.later;
      so_far = rw (c.in_ok-push.ensures.ok, append_assoc c.loop-rest.found, c.in_ok-from_cells.ensures, c.split_at-in-loop-rest.ensures.front, c.split_at-in-loop-rest.ensures.back, c.length_of_first.ensures, ← h.both) c.loop-rest.invariant.so_far;
    }
