use Rattle.std.proofs.Common.{sym, ap, ap₂, ◌∷◌, ◌∙◌, refl}
use Rattle.fpc_terms.specs.Term.{variable}
use Rattle.search_model.specs.Search.{between, bound_to, equalities, with_goals}
use Rattle.search_model.specs.States.{alternative_of, alternatives_of, goals_of}
use Rattle.search_model.specs.Table.{calculus_of}
use Rattle.search_model.proofs.ComparisonFacts.{parts-as_many, terms-args_in}
use Rattle.search_model.proofs.StateFacts.{alternatives-push}
use Rattle.search_model.proofs.WalkFacts.{at-same}
use Rattle.search_model.proofs.search.equate.Goals as goal

pub with_parts-requires : goal.with_parts-requires
with_parts-requires g c = parts-as_many c.args.left.now c.args.right.now c.in-Parts.ensures

pub returns-in_ok-push-in-Older-clause-step : goal.returns-in_ok-push-in-Older-clause-step
returns-in_ok-push-in-Older-clause-step g c = λ p.
    let of = g.C.Calculus.sequent_of p in
    rw (sym c.in-Older.ensures)
    (at-same (calculus_of (g.C.Calculus.table p)) p.clauses c.args.units.now _ _
    (ap between (alternatives-push of c.args.stack.now.items c.push-in-Older.new.self.items c.in_ok-bound_to-in-Older.field-0
    (bound_to (calculus_of (g.C.Calculus.table p)) c.in-Older.young (variable c.in-Older.old) (alternative_of of c.args.first)) c.in_ok-push-in-Older.ensures.items
    (rw c.in_ok-term-in-Older.ensures at (c.in_ok-bound_to-in-Older.ensures p)))))

pub returns-in-Left-clause-step : goal.returns-in-Left-clause-step
returns-in-Left-clause-step g c = λ p. rw (sym c.in-Left.ensures) (c.walk_and_bind.ensures.step p)

pub returns-in-Right-clause-step : goal.returns-in-Right-clause-step
returns-in-Right-clause-step g c = λ p. rw (sym c.in-Right.ensures) (c.walk_and_bind-in-Right.ensures.step p)

pub returns-in-Clash-clause-step : goal.returns-in-Clash-clause-step
returns-in-Clash-clause-step g c = λ p.
    rw (sym c.in-Clash.ensures) (at-same (calculus_of (g.C.Calculus.table p)) p.clauses c.args.units.now _ _ refl)

pub returns-in_ok-push-in-Same-clause-step : goal.returns-in_ok-push-in-Same-clause-step
returns-in_ok-push-in-Same-clause-step g c = λ p.
    let of = g.C.Calculus.sequent_of p in
    rw (sym c.in-Same.ensures)
    (at-same (calculus_of (g.C.Calculus.table p)) p.clauses c.args.units.now _ _
    (ap between (alternatives-push of c.args.stack.now.items c.push.new.self.items c.args.first _ c.in_ok-push-in-Same.ensures.items refl)))

pub returns-in_ok-push-in-Parts-clause-step : goal.returns-in_ok-push-in-Parts-clause-step
returns-in_ok-push-in-Parts-clause-step g c = λ p.
    let of = g.C.Calculus.sequent_of p in
    rw (sym c.in-Parts.ensures)
    (at-same (calculus_of (g.C.Calculus.table p)) p.clauses c.args.units.now _ _
    (ap₂ (λ ts us. between (with_goals (alternative_of of c.args.first) (equalities ts us (goals_of of c.args.first.goals.items)) ∷ alternatives_of of c.args.stack.now.items))
    (terms-args_in c.args.left.now) (terms-args_in c.args.right.now)
    ∙ ap between (alternatives-push of c.args.stack.now.items c.push-in-Parts.new.self.items c.in_ok-with_parts-in-Parts.field-0 _ c.in_ok-push-in-Parts.ensures.items (c.in_ok-with_parts-in-Parts.ensures p))))
