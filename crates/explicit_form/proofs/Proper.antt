-- A plain step is one that the rules of its logic take.
use Rattle.std.proofs.Common.{ℕ, suc}
use Rattle.fpc_terms.specs.Term.{Term, Args, eigen, bound, variable, app, no_args, arg, Each, EachArg, Never, Always}
use Rattle.polarised_formulas.specs.declared.step.Step.TheVariants as step
use Rattle.polarised_formulas.specs.Formula.{Formula, truth, falsity, atom, conj, disj, implies, for_all, exists, EachInside, Tied}
use Rattle.polarised_formulas.specs.PlainForm.{HasNineDigits}
use Rattle.polarised_formulas.proofs.Proper.{plain_term_is_proper, plain_formula_is_proper}
use Rattle.explicit_form.specs.StepLaws.{PlainStepIsProper}

module _ (e b v : ℕ → Type 0) where
  mutual
    any-term : (t : Term) → Each e b v t → Each Always b v t
    any-term (eigen k) h = tt
    any-term (bound k) h = h
    any-term (variable k) h = h
    any-term (app f ts) h = any-args ts h

    any-args : (ts : Args) → EachArg e b v ts → EachArg Always b v ts
    any-args no_args h = tt
    any-args (arg t ts) h = (any-term t h.0, any-args ts h.1)

any-formula : (f : Formula) (d : ℕ) → EachInside HasNineDigits Tied Never d f → EachInside Always Tied Never d f
any-formula (truth p) d h = tt
any-formula (falsity p) d h = tt
any-formula (atom positive f ts) d h = any-args HasNineDigits (Tied d) Never ts h
any-formula (conj p a b) d h = (any-formula a d h.0, any-formula b d h.1)
any-formula (disj p a b) d h = (any-formula a d h.0, any-formula b d h.1)
any-formula (implies a b) d h = (any-formula a d h.0, any-formula b d h.1)
any-formula (for_all a) d h = any-formula a (suc d) h
any-formula (exists a) d h = any-formula a (suc d) h

pub plain_step_is_proper : PlainStepIsProper
plain_step_is_proper text number logic (step.Exists t) h = any-term HasNineDigits Never Never t (plain_term_is_proper text number t h.1)
plain_step_is_proper text number logic (step.FocLEvery t) h = any-term HasNineDigits Never Never t (plain_term_is_proper text number t h.1)
plain_step_is_proper text number logic (step.FocRExists t) h = any-term HasNineDigits Never Never t (plain_term_is_proper text number t h.1)
plain_step_is_proper text number logic (step.Cut f) h = let p = plain_formula_is_proper text number logic f h.1 in (any-formula f 0 p.0, p.1)
plain_step_is_proper text number logic _ h = tt
