use Rattle.std.proofs.Common.{◌≡◌, ◌∷◌, [], Some, Err, rules, refl, sym, ◌∙◌}
use Rattle.lkf_rules.specs.declared.rules.outcome.StepRefusal.TheVariants.{OutOfMemory}
use Rattle.lkf_rules.specs.Sequent.{down}
use Rattle.lkf_rules.proofs.StepFacts.{is_unbound}
use Rattle.polarised_formulas.specs.declared.step.Step.TheVariants.{Exists}
use Rattle.polarised_formulas.specs.Formula.{open_at}
use Rattle.polarised_formulas.specs.Held.{given}
use Rattle.polarised_formulas.specs.Parts.{body_of}
use Rattle.explicit_kernel.specs.Shared.{meant, first_of, stored_of, worked_at, pending_of}
use Rattle.explicit_kernel.proofs.NamingFacts.{focus-told, focus-played, taken-node, is_quantified, some-fits, played-short, played-out}
use Rattle.explicit_kernel.proofs.shared.Shared.instantiate.Goals as goal

pub open_body-requires-clause-quantified : goal.open_body-requires-clause-quantified
open_body-requires-clause-quantified c =
    let x = c.args.self.now in
    let y = c.take_up.new.self in
    let cell = c.in_ok-formula-in-Exists.field-0 in
    let taken = c.in_ok-formula-in-Exists.ensures in
    is_quantified (meant y.terms.items cell.formula)
    (sym (taken-node x y c.args.place c.first_at.result.now cell _ c.first_at.ensures taken.first taken.terms (c.in-Exists.ensures.stands (given x.terms.items))))

pub open_body-requires-clause-unbound : goal.open_body-requires-clause-unbound
open_body-requires-clause-unbound c = is_unbound c.args.level c.args.t (sym c.is_in_scope.ensures ∙ c.in_ok-fits-in-Exists.ensures.ok)

pub returns-in_err-formula-in-Exists-clause-played : goal.returns-in_err-formula-in-Exists-clause-played
returns-in_err-formula-in-Exists-clause-played c =
    let x = c.args.self.now in
    let a = c.first_at.result.now in
    let f = meant x.terms.items a.formula in
    let n = c.args.level in
    let told = focus-told x c.args.place a c.first_at.ensures (Exists c.args.t) n (Some ((n, down (stored_of x) (open_at 0 c.args.t (body_of f))) ∷ []))
    (some-fits c.args.t n (stored_of x) f (sym (c.in-Exists.ensures.stands (given x.terms.items))) (sym c.is_in_scope.ensures ∙ c.in_ok-fits-in-Exists.ensures.ok)) in
    let short : c.from_residual-in_err-formula-in-Exists.result ≡ Err OutOfMemory = search rules in
    played-out (Exists c.args.t) _ _ _ short (played-short (Exists c.args.t) n (down (stored_of x) (first_of (worked_at x c.args.place))) (pending_of x) _ told refl)

pub returns-in-Ok-clause-played : goal.returns-in-Ok-clause-played
returns-in-Ok-clause-played c =
    let x = c.args.self.now in
    let y = c.take_up.new.self in
    let n = c.args.level in
    let cell = c.in_ok-formula-in-Exists.field-0 in
    let f = meant y.terms.items cell.formula in
    let taken = c.in_ok-formula-in-Exists.ensures in
    let node = taken-node x y c.args.place c.first_at.result.now cell _ c.first_at.ensures taken.first taken.terms (c.in-Exists.ensures.stands (given x.terms.items)) in
    focus-played x y c.args.place cell taken.first taken.stored taken.terms taken.pending (Exists c.args.t) n _ (Some ((n, down (stored_of y) (open_at 0 c.args.t (body_of f))) ∷ []))
    (some-fits c.args.t n (stored_of y) f (sym node) (sym c.is_in_scope.ensures ∙ c.in_ok-fits-in-Exists.ensures.ok)) c.in-Ok.ensures.pending

pub returns-in-Err-clause-played : goal.returns-in-Err-clause-played
returns-in-Err-clause-played c =
    let x = c.args.self.now in
    let a = c.first_at.result.now in
    let f = meant x.terms.items a.formula in
    let n = c.args.level in
    let told = focus-told x c.args.place a c.first_at.ensures (Exists c.args.t) n (Some ((n, down (stored_of x) (open_at 0 c.args.t (body_of f))) ∷ []))
    (some-fits c.args.t n (stored_of x) f (sym (c.in-Exists.ensures.stands (given x.terms.items))) (sym c.is_in_scope.ensures ∙ c.in_ok-fits-in-Exists.ensures.ok)) in
    played-short (Exists c.args.t) n (down (stored_of x) (first_of (worked_at x c.args.place))) (pending_of x) _ told refl
