use Rattle.std.proofs.Common.{◌≡◌, [], Some, Err, rules}
use Rattle.lkf_rules.specs.declared.rules.outcome.StepRefusal.TheVariants.{DoesNotFit}
use Rattle.lkf_rules.specs.Premises.{closed_with}
use Rattle.lkf_rules.specs.Sequent.{down}
use Rattle.polarised_formulas.specs.declared.step.Step.TheVariants.{Init}
use Rattle.explicit_kernel.specs.Shared.{meant, first_of, stored_of, worked_at, pending_of}
use Rattle.explicit_kernel.proofs.NamingFacts.{init-told, init-none, closed-fits, closed-unfit, played-fits, played-not, played-unfit}
use Rattle.explicit_kernel.proofs.shared.Shared.initial.Goals as goal

pub returns-in_err-fits-in-Some-clause-played : goal.returns-in_err-fits-in-Some-clause-played
returns-in_err-fits-in-Some-clause-played c =
    let x = c.args.self.now in
    let a = c.first_at.result.now in
    let h = c.in-Some.other.now in
    let us = c.as_slice-in-Some.result.now in
    let unfit : c.from_residual.result ≡ Err DoesNotFit = search rules in
    let told = init-told x c.args.level c.args.k c.as_slice.result.now c.as_slice.ensures.value c.args.place a us h _ c.first_at.ensures c.as_slice-in-Some.ensures.value c.in-Some.ensures.some
    (closed-unfit c.may_close.result (closed_with (meant us a.formula) (Some (meant us h))) c.may_close.ensures c.in_err-fits-in-Some.ensures.err) in
    played-unfit (Init c.args.k) c.from_residual.result _ _ unfit (played-not (Init c.args.k) c.args.level (down (stored_of x) (first_of (worked_at x c.args.place))) (pending_of x) told)

pub returns-in_ok-fits-in-Some-clause-played : goal.returns-in_ok-fits-in-Some-clause-played
returns-in_ok-fits-in-Some-clause-played c =
    let x = c.args.self.now in
    let a = c.first_at.result.now in
    let h = c.in-Some.other.now in
    let us = c.as_slice-in-Some.result.now in
    let told = init-told x c.args.level c.args.k c.as_slice.result.now c.as_slice.ensures.value c.args.place a us h _ c.first_at.ensures c.as_slice-in-Some.ensures.value c.in-Some.ensures.some
    (closed-fits c.may_close.result (closed_with (meant us a.formula) (Some (meant us h))) c.may_close.ensures c.in_ok-fits-in-Some.ensures.ok) in
    played-fits (Init c.args.k) c.args.level (down (stored_of x) (first_of (worked_at x c.args.place))) (pending_of x) (Some []) (pending_of c.cut_back.new.self) told c.cut_back.ensures.pending

pub returns-in-None-clause-played : goal.returns-in-None-clause-played
returns-in-None-clause-played c =
    let x = c.args.self.now in
    let f = first_of (worked_at x c.args.place) in
    played-not (Init c.args.k) c.args.level (down (stored_of x) f) (pending_of x) (init-none x c.args.level c.args.k c.as_slice.result.now c.as_slice.ensures.value f c.in-None.ensures.none)
