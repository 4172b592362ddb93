use Rattle.std.proofs.Common.{◌∙◌, ◌++◌, ◌∷◌, [], sym, ap}
use Rattle.clause_language.specs.LeastModel.{fits}
use Rattle.search_model.specs.Search.{between, taken}
use Rattle.search_model.specs.States.{alternative_of, alternatives_of, goal_of}
use Rattle.search_model.specs.Table.{calculus_of}
use Rattle.search_model.proofs.ChosenFacts.{chosen-taken}
use Rattle.search_model.proofs.StateFacts.{alternatives-push}
use Rattle.search_model.proofs.WalkFacts.{at-same}
use Rattle.search_model.proofs.search.take.Goals as goal

pub returns-in_ok-push_all_answered-in-Call-clause-step :
    goal.returns-in_ok-push_all_answered-in-Call-clause-step
returns-in_ok-push_all_answered-in-Call-clause-step g c =
    let p = c.args.program.now in
    let of = g.C.Calculus.sequent_of p in
    at-same (calculus_of (g.C.Calculus.table p)) p.clauses c.args.units.now _ (alternatives_of of c.push_all_answered.new.stack.items)
    (ap (λ x. taken (calculus_of (g.C.Calculus.table p)) fits p.clauses (goal_of of x) (alternative_of of c.args.first) (alternatives_of of c.args.stack.now.items)) c.in-Call.is
    ∙ ap between (sym (rw c.items.ensures at (c.in_ok-push_all_answered-in-Call.ensures p))))

pub returns-in-Eq-clause-step : goal.returns-in-Eq-clause-step
returns-in-Eq-clause-step g c = rw c.in-Eq.is (c.equate.ensures.step c.args.program.now)

pub returns-in_ok-push-in-Emit-2-clause-step : goal.returns-in_ok-push-in-Emit-2-clause-step
returns-in_ok-push-in-Emit-2-clause-step g c =
    let p = c.args.program.now in
    let of = g.C.Calculus.sequent_of p in
    at-same (calculus_of (g.C.Calculus.table p)) p.clauses c.args.units.now _ (alternatives_of of c.push-in-Emit.new.self.items)
    (ap (λ x. taken (calculus_of (g.C.Calculus.table p)) fits p.clauses (goal_of of x) (alternative_of of c.args.first) (alternatives_of of c.args.stack.now.items)) c.in-Emit.is
    ∙ ap between (alternatives-push of c.args.stack.now.items c.push-in-Emit.new.self.items _
    (record (alternative_of of c.args.first) { emitted = c.args.first.emitted.items ++ c.in-Emit.step ∷ [] })
    c.in_ok-push-in-Emit-2.ensures.items
    (ap (λ es. record (alternative_of of c.args.first) { emitted = es }) c.in_ok-push-in-Emit.ensures.items)))

pub returns-in_ok-take_sequent-in-Seq-clause-step :
    goal.returns-in_ok-take_sequent-in-Seq-clause-step
returns-in_ok-take_sequent-in-Seq-clause-step g c =
    let p = c.args.program.now in
    let of = g.C.Calculus.sequent_of p in
    at-same (calculus_of (g.C.Calculus.table p)) p.clauses c.args.units.now _ (alternatives_of of c.take_sequent.new.stack.items)
    (ap (λ x. taken (calculus_of (g.C.Calculus.table p)) fits p.clauses (goal_of of x) (alternative_of of c.args.first) (alternatives_of of c.args.stack.now.items)) c.in-Seq.is
    ∙ ap between (sym c.in_ok-take_sequent-in-Seq.ensures))

pub returns-in_ok-take_chosen-in_default-clause-step :
    goal.returns-in_ok-take_chosen-in_default-clause-step
returns-in_ok-take_chosen-in_default-clause-step g c =
    let p = c.args.program.now in
    let of = g.C.Calculus.sequent_of p in
    at-same (calculus_of (g.C.Calculus.table p)) p.clauses c.args.units.now _ (alternatives_of of c.take_chosen.new.stack.items)
    (chosen-taken (g.C.Calculus.table p) of p.clauses (alternative_of of c.args.first) (alternatives_of of c.args.stack.now.items)
    (alternatives_of of c.take_chosen.new.stack.items) c.args.goal
    c.in_default.not-Call c.in_default.not-Eq c.in_default.not-Emit c.in_default.not-Seq c.in_ok-take_chosen-in_default.ensures)
