-- What the answer to a step says, and what may be put in or cut.
use Rattle.std.proofs.Common.{◌≡◌, ◌≢◌, ◌↔◌, ◌<◌, ℕ, List, refl}
use Rattle.std.specs.Prelude.{true, Option, Some, None, Result, Ok, Err, IfOk}
use Rattle.fpc_terms.specs.Term.{Term, Each, Always, Never}
use Rattle.fpc_terms.proofs.ScopeFacts.{Each-weaker}
use Rattle.polarised_formulas.specs.declared.logic.Logic.TheVariants.{Lkf}
use Rattle.polarised_formulas.specs.declared.step.Step.{Step}
use Rattle.polarised_formulas.specs.Formula.{Formula, IsLkf, IsProper}
use Rattle.lkf_rules.specs.declared.rules.outcome.Premises.{Premises}
use Rattle.lkf_rules.specs.declared.rules.outcome.StepRefusal.{StepRefusal}
use Rattle.lkf_rules.specs.declared.rules.outcome.StepRefusal.TheVariants.{DoesNotFit, OutOfMemory}
use Rattle.lkf_rules.specs.Sequent.{Levelled}
use Rattle.polarised_formulas.specs.Scope.{is_scoped, may_be_cut}
use Rattle.lkf_rules.specs.Values.{premise_list, Answers, MayRunOut}
use Rattle.polarised_formulas.proofs.Leaves.{InScope-is_scoped, IsOfLogic-may_be_cut, EachInside-may_be_cut, EachInside-weaker}

-- a term in scope has no bound index
pub is_unbound : (n : ℕ) (t : Term) → is_scoped n 0 t ≡ true → Each Always Never Always t
is_unbound n t passes = Each-weaker (λ n x. tt) (λ n x. x) (λ n x. absurd x) t (InScope-is_scoped n t passes)

-- a formula that may be cut is of LKF
pub is_lkf : (n : ℕ) (f : Formula) → may_be_cut Lkf n 0 f ≡ true → IsLkf f
is_lkf n f passes = IsOfLogic-may_be_cut n Lkf 0 f passes

-- a formula that may be cut is proper
pub is_proper : (n : ℕ) (f : Formula) → may_be_cut Lkf n 0 f ≡ true → IsProper Always f
is_proper n f passes = EachInside-weaker (λ m. m < n) Always (λ m h. tt) 0 f (EachInside-may_be_cut n Lkf 0 f passes)

pub Answers-fits : (step : Step) (r : Result Premises StepRefusal) (o : Option (List Levelled)) → Answers step r o → IfOk r (λ p. o ≡ Some (premise_list p))
Answers-fits step (Ok p) o h = h
Answers-fits step (Err e) o h = tt

Answers-unfit_forth : (step : Step) (r : Result Premises StepRefusal) (o : Option (List Levelled)) → Answers step r o → r ≡ Err DoesNotFit → (o ≡ None) × (r ≢ Err OutOfMemory)
Answers-unfit_forth step (Ok p) o h e = cc
Answers-unfit_forth step (Err DoesNotFit) o h e = (h, λ x. cc)
Answers-unfit_forth step (Err OutOfMemory) o h e = cc

Answers-unfit_back : (step : Step) (r : Result Premises StepRefusal) (o : Option (List Levelled)) → Answers step r o → (o ≡ None) × (r ≢ Err OutOfMemory) → r ≡ Err DoesNotFit
Answers-unfit_back step (Ok p) o h e = let none = e.0 in cc
Answers-unfit_back step (Err DoesNotFit) o h e = refl
Answers-unfit_back step (Err OutOfMemory) o h e = absurd (e.1 refl)

pub Answers-unfit : (step : Step) (r : Result Premises StepRefusal) (o : Option (List Levelled)) → Answers step r o → r ≡ Err DoesNotFit ↔ (o ≡ None) × (r ≢ Err OutOfMemory)
Answers-unfit step r o h = (Answers-unfit_forth step r o h, Answers-unfit_back step r o h)

pub Answers-memory : (step : Step) (r : Result Premises StepRefusal) (o : Option (List Levelled)) → Answers step r o → r ≡ Err OutOfMemory → MayRunOut step o
Answers-memory step (Ok p) o h e = cc
Answers-memory step (Err DoesNotFit) o h e = cc
Answers-memory step (Err OutOfMemory) o h e = h

pub ruleset answer_facts = (Answers-fits, Answers-unfit, Answers-memory)
