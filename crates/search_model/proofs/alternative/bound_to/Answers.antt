use Rattle.std.proofs.Common.{sym}
use Rattle.search_model.proofs.StateFacts.{bound-is}
use Rattle.search_model.proofs.alternative.bound_to.Goals as goal

pub returns : goal.returns
returns g c = λ p.
    bound-is (g.C.Calculus.table p) (g.C.Calculus.sequent_of p) c.args.variable c.args.term.now c.args.alternative c.in_ok-goals.goals.items
    c.in_ok-emitted.emitted.items c.in_ok-asked.asked c.lower_levels.new.levels.items
    (rw (sym c.as_slice.ensures.value) (c.in_ok-goals.ensures p))
    (rw (sym c.as_slice-2.ensures.value) c.in_ok-emitted.ensures)
    (rw (sym c.items.ensures) c.in_ok-asked.ensures)
    (rw (c.level_at-level.ensures, c.as_slice-3.ensures.value, c.cells.ensures) at c.lower_levels.ensures)
