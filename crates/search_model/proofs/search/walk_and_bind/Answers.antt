use Rattle.std.proofs.Common.{◌-◌, ◌∙◌, ap}
use Rattle.fpc_terms.specs.Open.{level_of}
use Rattle.search_model.specs.Run.{ended}
use Rattle.search_model.specs.States.{alternative_of, alternatives_of}
use Rattle.search_model.specs.Table.{calculus_of}
use Rattle.search_model.specs.declared.walk.Walked.TheVariants.{Passed, Clashed, OutOfUnits}
use Rattle.search_model.proofs.StateFacts.{alternatives-push}
use Rattle.search_model.proofs.WalkFacts.{walk-le, step-runs}
use Rattle.search_model.proofs.search.walk_and_bind.Goals as goal

pub returns-in-OutOfUnits-clause-left : goal.returns-in-OutOfUnits-clause-left
returns-in-OutOfUnits-clause-left g c = rw c.in-OutOfUnits.ensures.left (walk-le _ _ _ _)

pub returns-in-OutOfUnits-clause-step : goal.returns-in-OutOfUnits-clause-step
returns-in-OutOfUnits-clause-step g c = λ p.
    let of = g.C.Calculus.sequent_of p in
    step-runs (calculus_of (g.C.Calculus.table p)) p.clauses c.args.variable c.args.term.now (alternative_of of c.args.first) (alternatives_of of c.args.stack.now.items)
    c.args.units.now c.level_at-level.result c.cells.result.now OutOfUnits c.walk_through.new.units
    (c.level_at-level.ensures ∙ ap (λ ls. level_of ls c.args.variable) c.as_slice.ensures.value) c.cells.ensures c.in-OutOfUnits.ensures.ends c.in-OutOfUnits.ensures.left

pub returns-in-Clashed-clause-left : goal.returns-in-Clashed-clause-left
returns-in-Clashed-clause-left g c = rw c.in-Clashed.ensures.left (walk-le _ _ _ _)

pub returns-in-Clashed-clause-step : goal.returns-in-Clashed-clause-step
returns-in-Clashed-clause-step g c = λ p.
    let of = g.C.Calculus.sequent_of p in
    step-runs (calculus_of (g.C.Calculus.table p)) p.clauses c.args.variable c.args.term.now (alternative_of of c.args.first) (alternatives_of of c.args.stack.now.items)
    c.args.units.now c.level_at-level.result c.cells.result.now Clashed c.walk_through.new.units
    (c.level_at-level.ensures ∙ ap (λ ls. level_of ls c.args.variable) c.as_slice.ensures.value) c.cells.ensures c.in-Clashed.ensures.ends c.in-Clashed.ensures.left

pub returns-in_ok-push-in-Passed-clause-left : goal.returns-in_ok-push-in-Passed-clause-left
returns-in_ok-push-in-Passed-clause-left g c = rw c.in-Passed.ensures.left (walk-le _ _ _ _)

pub returns-in_ok-push-in-Passed-clause-step : goal.returns-in_ok-push-in-Passed-clause-step
returns-in_ok-push-in-Passed-clause-step g c = λ p.
    let of = g.C.Calculus.sequent_of p in
    step-runs (calculus_of (g.C.Calculus.table p)) p.clauses c.args.variable c.args.term.now (alternative_of of c.args.first) (alternatives_of of c.args.stack.now.items)
    c.args.units.now c.level_at-level.result c.cells.result.now Passed c.walk_through.new.units
    (c.level_at-level.ensures ∙ ap (λ ls. level_of ls c.args.variable) c.as_slice.ensures.value) c.cells.ensures c.in-Passed.ensures.ends c.in-Passed.ensures.left
    ∙ ap (λ found_now. ended found_now (c.args.units.now - c.walk_through.new.units))
    (alternatives-push of c.args.stack.now.items c.push.new.self.items c.in_ok-bound_to-in-Passed.field-0 _ c.in_ok-push-in-Passed.ensures.items (c.in_ok-bound_to-in-Passed.ensures p))
