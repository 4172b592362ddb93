use Rattle.std.proofs.Common.{◌≡◌, Some, Err, rules}
use Rattle.polarised_formulas.specs.Held.{given}
use Rattle.lkf_rules.specs.declared.rules.outcome.StepRefusal.TheVariants.{OutOfMemory}
use Rattle.lkf_rules.specs.Sequent.{up}
use Rattle.explicit_kernel.specs.Shared.{meant, stored_of, worked_at, pending_of}
use Rattle.explicit_kernel.proofs.NamingFacts.{work-told, work-played, taken-node, played-out, played-short, worked_some}
use Rattle.explicit_kernel.proofs.shared.Shared.play_on_first.Goals as goal

pub returns-in_err-first-in-Some-clause-played : goal.returns-in_err-first-in-Some-clause-played
returns-in_err-first-in-Some-clause-played c =
    let x = c.args.self.now in
    let a = c.first_at.result.now in
    let f = meant x.terms.items a.formula in
    let n = c.args.level in
    let short : c.from_residual.result ≡ Err OutOfMemory = search rules in
    let told = work-told x c.args.place a c.first_at.ensures c.args.step.now n (Some c.in-Some.effect)
    (c.in-Some.ensures.effect n (stored_of x) (worked_at x a.next) f (c.shape.ensures.stands (given x.terms.items))) in
    played-out c.args.step.now c.from_residual.result _ _ short
    (played-short c.args.step.now n (up (stored_of x) (worked_at x c.args.place)) (pending_of x) _ told (worked_some c.in-Some.effect n (stored_of x) f (worked_at x a.next)))

pub returns-in-Ok-clause-played : goal.returns-in-Ok-clause-played
returns-in-Ok-clause-played c =
    let x = c.args.self.now in
    let y = c.take_up.new.self in
    let first = c.in_ok-first-in-Some.first in
    let taken = c.in_ok-first-in-Some.ensures in
    let node = taken-node x y c.args.place c.first_at.result.now first c.shape.result c.first_at.ensures taken.first taken.terms (c.shape.ensures.stands (given x.terms.items)) in
    work-played x y c.args.place first taken.first taken.stored taken.terms taken.pending c.args.step.now c.args.level _ c.in-Some.effect
    (c.in-Some.ensures.effect c.args.level (stored_of y) (worked_at y first.next) (meant y.terms.items first.formula) node) c.in-Ok.ensures.pending

pub returns-in-Err-clause-played : goal.returns-in-Err-clause-played
returns-in-Err-clause-played c =
    let x = c.args.self.now in
    let a = c.first_at.result.now in
    let f = meant x.terms.items a.formula in
    let n = c.args.level in
    let told = work-told x c.args.place a c.first_at.ensures c.args.step.now n (Some c.in-Some.effect)
    (c.in-Some.ensures.effect n (stored_of x) (worked_at x a.next) f (c.shape.ensures.stands (given x.terms.items))) in
    played-short c.args.step.now n (up (stored_of x) (worked_at x c.args.place)) (pending_of x) _ told (worked_some c.in-Some.effect n (stored_of x) f (worked_at x a.next))
