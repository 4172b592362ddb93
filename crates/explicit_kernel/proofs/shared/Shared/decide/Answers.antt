use Rattle.std.proofs.Common.{◌≡◌, [], Err, refl, rules}
use Rattle.lkf_rules.specs.declared.rules.outcome.StepRefusal.TheVariants.{OutOfMemory}
use Rattle.polarised_formulas.specs.declared.step.Step.TheVariants.{Decide}
use Rattle.polarised_formulas.specs.Held.{given}
use Rattle.lkf_rules.specs.Sequent.{up}
use Rattle.explicit_kernel.specs.Shared.{meant, stored_of, pending_of}
use Rattle.explicit_kernel.proofs.NamingFacts.{decide-told, decide-none, played-out, played-short, played-fits, played-not}
use Rattle.explicit_kernel.proofs.shared.Shared.decide.Goals as goal

pub returns-in_err-formula-in-Some-clause-played : goal.returns-in_err-formula-in-Some-clause-played
returns-in_err-formula-in-Some-clause-played c =
    let x = c.args.self.now in
    let n = c.args.level in
    let h = c.in-Some.formula.now in
    let short : c.from_residual-in_err-formula-in-Some.result ≡ Err OutOfMemory = search rules in
    let told = decide-told x n c.args.k c.as_slice.result.now c.as_slice.ensures.value h _ c.in-Some.ensures.some
    (rw c.in_ok-fits-in-Some.ensures.ok at (c.may_decide.ensures n (stored_of x) (meant x.terms.items h) (c.shape.ensures.stands (given x.terms.items)))) in
    played-out (Decide c.args.k) _ _ _ short (played-short (Decide c.args.k) n (up (stored_of x) []) (pending_of x) _ told refl)

pub returns-in-Ok-clause-played : goal.returns-in-Ok-clause-played
returns-in-Ok-clause-played c =
    let x = c.args.self.now in
    let n = c.args.level in
    let h = c.in-Some.formula.now in
    let told = decide-told x n c.args.k c.as_slice.result.now c.as_slice.ensures.value h _ c.in-Some.ensures.some
    (rw c.in_ok-fits-in-Some.ensures.ok at (c.may_decide.ensures n (stored_of x) (meant x.terms.items h) (c.shape.ensures.stands (given x.terms.items)))) in
    played-fits (Decide c.args.k) n (up (stored_of x) []) (pending_of x) _ _ told (rw c.in_ok-formula-in-Some.ensures at c.in-Ok.ensures.pending)

pub returns-in-Err-clause-played : goal.returns-in-Err-clause-played
returns-in-Err-clause-played c =
    let x = c.args.self.now in
    let n = c.args.level in
    let h = c.in-Some.formula.now in
    let told = decide-told x n c.args.k c.as_slice.result.now c.as_slice.ensures.value h _ c.in-Some.ensures.some
    (rw c.in_ok-fits-in-Some.ensures.ok at (c.may_decide.ensures n (stored_of x) (meant x.terms.items h) (c.shape.ensures.stands (given x.terms.items)))) in
    played-short (Decide c.args.k) n (up (stored_of x) []) (pending_of x) _ told refl

pub returns-in-None-clause-played : goal.returns-in-None-clause-played
returns-in-None-clause-played c =
    let x = c.args.self.now in
    let n = c.args.level in
    played-not (Decide c.args.k) n (up (stored_of x) []) (pending_of x) (decide-none x n c.args.k c.as_slice.result.now c.as_slice.ensures.value c.in-None.ensures.none)
