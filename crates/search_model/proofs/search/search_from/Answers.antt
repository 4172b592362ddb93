use Rattle.std.proofs.Common.{rules, ◌∙◌, ◌-◌, ◌≤◌, ◌++◌, ◌∷◌, [], sym, arith, ap, refl}
use Rattle.search_model.specs.States.{alternatives_of, reached}
use Rattle.search_model.proofs.LoopFacts.{begins-loop, none-left, no-goal, no-unit, ran-out, goes-on, is-goal, stays-fine, goal-levelled, stays-low}
use Rattle.search_model.proofs.search.search_from.Goals as goal

pub returns-in-None-pop : goal.returns-in-None-pop
returns-in-None-pop g c =
    let p = c.args.program.now in
    no-goal (g.C.Calculus.table p) (g.C.Calculus.sequent_of p) p.clauses _ _ _ c.loop-stack.stack.items c.loop-stack.invariant.0 _ c.in-Some.first c.in-Some.ensures.items
    (sym c.in-Some.first.goals.ok.0 ∙ c.in-None-pop.ensures.cases.0)

pub returns-then-not-branch : goal.returns-then-not-branch
returns-then-not-branch g c =
    let p = c.args.program.now in
    let of = g.C.Calculus.sequent_of p in
    ran-out (g.C.Calculus.table p) of p.clauses _ _ _ c.loop-stack.stack.items c.loop-stack.invariant.0 _ c.in-Some.first c.in-Some.ensures.items _ _ c.in-Some-pop.ensures.items c.if-left-eq0.false
    c.take.new.units (alternatives_of of c.take.new.stack.items)
    (c.in_ok-take.ensures.step ∙ ap (λ b. reached (c.loop-stack.left - 1) c.take.new.units b (alternatives_of of c.take.new.stack.items)) c.if-not-branch.true)

pub loop-stack-preserved : goal.loop-stack-preserved
loop-stack-preserved g c =
    let p = c.args.program.now in
    let of = g.C.Calculus.sequent_of p in
    let went = c.in_ok-take.ensures.step ∙ ap (λ b. reached (c.loop-stack.left - 1) c.take.new.units b (alternatives_of of c.take.new.stack.items)) c.if-not-branch.false in (
      goes-on (g.C.Calculus.table p) of p.clauses _ _ _ c.loop-stack.stack.items c.loop-stack.invariant.0 _ c.in-Some.first c.in-Some.ensures.items _ _ c.in-Some-pop.ensures.items c.if-left-eq0.false
          c.take.new.units (alternatives_of of c.take.new.stack.items) c.args.budget went refl c.loop-stack.invariant.1 c.in_ok-take.ensures.left,
      (let le = c.in_ok-take.ensures.left in let le2 = c.loop-stack.invariant.1 in omega arith),
      (let some = c.if-left-eq0.false in let le = c.in_ok-take.ensures.left in let le2 = c.loop-stack.invariant.1 in
          stays-low (g.C.Calculus.table p) of p.clauses c.loop-stack.stack.items _ c.in-Some.first c.in-Some.ensures.items _ _ c.in-Some-pop.ensures.items
          (g.met.C.Calculus.tabled p c.requires.program c.requires.few) (c.args.budget - c.loop-stack.left) c.loop-stack.invariant.2 _ _ _ (c.args.budget - c.take.new.units) (omega (arith, some, le, le2)) went),
      stays-fine (g.C.Calculus.table p) of p.clauses c.loop-stack.stack.items _ c.in-Some.first c.in-Some.ensures.items _ _ c.in-Some-pop.ensures.items
          (g.met.C.Calculus.sequents p) (g.met.C.Calculus.sound p c.requires.program) c.requires.program.clauses_open c.loop-stack.invariant.3 _ _ _ went,
    )

pub loop-stack-init : goal.loop-stack-init
loop-stack-init g c =
    let p = c.args.program.now in
    begins-loop (g.C.Calculus.table p) (g.C.Calculus.sequent_of p) p.clauses c.args.budget c.args.first c.push.new.self.items
    (c.in_ok-push.ensures.items ∙ ap (λ xs. xs ++ c.args.first ∷ []) c.new-stack.ensures.items) c.requires.goals c.requires.levels c.requires.asked

pub returns-in-None : goal.returns-in-None
returns-in-None g c =
    let p = c.args.program.now in
    none-left (g.C.Calculus.table p) (g.C.Calculus.sequent_of p) p.clauses _ _ _ c.loop-stack.stack.items c.loop-stack.invariant.0
    (sym c.loop-stack.stack.ok.0 ∙ c.in-None.ensures.cases.0)

pub returns-then-left-eq0 : goal.returns-then-left-eq0
returns-then-left-eq0 g c =
    let p = c.args.program.now in
    no-unit (g.C.Calculus.table p) (g.C.Calculus.sequent_of p) p.clauses _ _ _ c.loop-stack.stack.items c.loop-stack.invariant.0 _ c.in-Some.first c.in-Some.ensures.items
    _ _ c.in-Some-pop.ensures.items c.if-left-eq0.true

pub take-requires-clause-is_goal : goal.take-requires-clause-is_goal
take-requires-clause-is_goal g c =
    let p = c.args.program.now in
    is-goal (g.C.Calculus.table p) (g.C.Calculus.sequent_of p) p.clauses c.loop-stack.stack.items _ c.in-Some.first c.in-Some.ensures.items _ _ c.in-Some-pop.ensures.items
    (g.met.C.Calculus.sequents p) (g.met.C.Calculus.sound p c.requires.program) c.requires.program.clauses_open c.loop-stack.invariant.3

pub take-requires-clause-level : goal.take-requires-clause-level
take-requires-clause-level g c =
    let p = c.args.program.now in
    let some = c.if-left-eq0.false in
    let le = c.loop-stack.invariant.1 in
    let top : c.args.budget ≤ 18446744073709551615 = search rules in
    goal-levelled (g.C.Calculus.table p) (g.C.Calculus.sequent_of p) p.clauses c.loop-stack.stack.items _ c.in-Some.first c.in-Some.ensures.items _ _ c.in-Some-pop.ensures.items
    (g.met.C.Calculus.tabled p c.requires.program c.requires.few) (c.args.budget - c.loop-stack.left) c.loop-stack.invariant.2 18446744073709551614 (omega (arith, some, le, top))
