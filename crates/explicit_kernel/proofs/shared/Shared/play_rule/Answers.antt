use Rattle.std.proofs.Common.{◌≡◌, Some, Err, rules}
use Rattle.polarised_formulas.specs.Held.{given}
use Rattle.lkf_rules.specs.declared.rules.outcome.StepRefusal.TheVariants.{OutOfMemory}
use Rattle.lkf_rules.specs.Sequent.{down}
use Rattle.lkf_rules.specs.Table.{focused_by}
use Rattle.explicit_kernel.specs.Shared.{meant, first_of, stored_of, worked_at, pending_of}
use Rattle.explicit_kernel.proofs.NamingFacts.{focus-told, focus-played, taken-node, played-out, played-short, focused_some}
use Rattle.explicit_kernel.proofs.shared.Shared.play_rule.Goals as goal

pub returns-in_err-formula-in-Some-clause-played : goal.returns-in_err-formula-in-Some-clause-played
returns-in_err-formula-in-Some-clause-played c =
    let x = c.args.self.now in
    let a = c.first_at.result.now in
    let f = meant x.terms.items a.formula in
    let n = c.args.level in
    let short : c.from_residual.result ≡ Err OutOfMemory = search rules in
    let told = focus-told x c.args.place a c.first_at.ensures c.args.step.now n (focused_by (Some c.in-Some.effect) n (stored_of x) f)
    (c.in-Some.ensures.effect n (stored_of x) f (c.shape.ensures.stands (given x.terms.items)) c.requires.nothing) in
    played-out c.args.step.now c.from_residual.result _ _ short
    (played-short c.args.step.now n (down (stored_of x) (first_of (worked_at x c.args.place))) (pending_of x) _ told (focused_some c.in-Some.effect n (stored_of x) f))

pub returns-in-Ok-clause-played : goal.returns-in-Ok-clause-played
returns-in-Ok-clause-played c =
    let x = c.args.self.now in
    let y = c.take_up.new.self in
    let n = c.args.level in
    let cell = c.in_ok-formula-in-Some.field-0 in
    let taken = c.in_ok-formula-in-Some.ensures in
    let node = taken-node x y c.args.place c.first_at.result.now cell c.shape.result c.first_at.ensures taken.first taken.terms (c.shape.ensures.stands (given x.terms.items)) in
    focus-played x y c.args.place cell taken.first taken.stored taken.terms taken.pending c.args.step.now n _ (focused_by (Some c.in-Some.effect) n (stored_of y) (meant y.terms.items cell.formula))
    (c.in-Some.ensures.effect n (stored_of y) (meant y.terms.items cell.formula) node c.requires.nothing) c.in-Ok.ensures.pending

pub returns-in-Err-clause-played : goal.returns-in-Err-clause-played
returns-in-Err-clause-played c =
    let x = c.args.self.now in
    let a = c.first_at.result.now in
    let f = meant x.terms.items a.formula in
    let n = c.args.level in
    let told = focus-told x c.args.place a c.first_at.ensures c.args.step.now n (focused_by (Some c.in-Some.effect) n (stored_of x) f)
    (c.in-Some.ensures.effect n (stored_of x) f (c.shape.ensures.stands (given x.terms.items)) c.requires.nothing) in
    played-short c.args.step.now n (down (stored_of x) (first_of (worked_at x c.args.place))) (pending_of x) _ told (focused_some c.in-Some.effect n (stored_of x) f)
