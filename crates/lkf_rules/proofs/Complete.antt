-- Each instance of a rule that a step spells is what the step names.
use Rattle.std.proofs.Common.{◌≡◌, ℕ, List, map, Some, Result, Ok, Err, IfOk, refl}
use Rattle.polarised_formulas.specs.declared.logic.Logic.TheVariants.{Lkf}
use Rattle.polarised_formulas.specs.declared.step.Step.{Step}
use Rattle.lkf_rules.specs.Sequent.{Sequent, Levelled, IsInScope}
use Rattle.lkf_rules.specs.Rule.{Rule, true_negative, false_negative, or_negative, and_negative, every, store, decide, cut, true_positive, and_positive, or_left, or_right, some, release, initial}
use Rattle.lkf_rules.specs.Premises.{premises_of}
use Rattle.lkf_rules.specs.declared.rules.outcome.Premises.{Premises}
use Rattle.lkf_rules.specs.declared.rules.outcome.StepRefusal.{StepRefusal}
use Rattle.lkf_rules.specs.declared.rules.outcome.StepRefusal.TheVariants.{DoesNotFit, OutOfMemory}
use Rattle.lkf_rules.specs.Values.{premise_list, Answers}
use Rattle.lkf_rules.specs.Instance.{SpellsRule, level_above, IsInstance}
use Rattle.polarised_formulas.proofs.Leaves.{is_scoped-in_scope, may_be_cut-each}
use Rattle.lkf_rules.proofs.InitialFacts.{closes-dual}
use Rattle.lkf_rules.proofs.Sound.{IsSound-premises_of}

-- the premises of the instance that a step spells are those that it names
premises_of-rule : (step : Step) (n : ℕ) (c : Sequent) (cs : List Sequent) (r : Rule c cs) → SpellsRule step n r
    → premises_of step n c ≡ Some (map (λ d. (level_above n r, d)) cs)
premises_of-rule step n _ _ (true_negative s g) h = rw h refl
premises_of-rule step n _ _ (false_negative s g) h = rw h refl
premises_of-rule step n _ _ (or_negative s g a b) h = rw h refl
premises_of-rule step n _ _ (and_negative s g a b) h = rw h refl
premises_of-rule step n _ _ (every s g a j fresh) h = rw (h.0, h.1) refl
premises_of-rule step n _ _ (store s g f storable) h = rw (h, storable) refl
premises_of-rule step n _ _ (decide s f stands positive) h = rw (h.1, h.2, positive) refl
premises_of-rule step n _ _ (cut s b proper lkf) h = rw (h.0, may_be_cut-each n Lkf 0 b h.1 lkf) refl
premises_of-rule step n _ _ (true_positive s) h = rw h refl
premises_of-rule step n _ _ (and_positive s a b) h = rw h refl
premises_of-rule step n _ _ (or_left s a b) h = rw h refl
premises_of-rule step n _ _ (or_right s a b) h = rw h refl
premises_of-rule step n _ _ (some s a t proper) h = rw (h.0, is_scoped-in_scope n t h.1) refl
premises_of-rule step n _ _ (release s f negative) h = rw (h, negative) refl
premises_of-rule step n _ _ (initial s name ts stands) h = rw (h.1, h.2, closes-dual name ts) refl

-- at a sequent in scope, a step names these premises exactly where they are those of an instance that it spells
pub IsInstance-premises_of : (step : Step) (n : ℕ) (c : Sequent) (ps : List Levelled) → IsInScope (n, c) → premises_of step n c ≡ Some ps → IsInstance step n c ps
IsInstance-premises_of step n c ps scope fits = (IsSound-premises_of step n c ps fits).named scope

pub premises_of-instance : (step : Step) (n : ℕ) (c : Sequent) (ps : List Levelled) → IsInstance step n c ps → premises_of step n c ≡ Some ps
premises_of-instance step n c ps h = rw h.3 (premises_of-rule step n c h.0 h.1 h.2)

-- the premises that answer a step are those of an instance
pub Answers-instance : (step : Step) (n : ℕ) (c : Sequent) (r : Result Premises StepRefusal) → Answers step r (premises_of step n c) → IsInScope (n, c)
    → IfOk r (λ p. IsInstance step n c (premise_list p))
Answers-instance step n c (Ok p) h scope = IsInstance-premises_of step n c (premise_list p) scope h
Answers-instance step n c (Err e) h scope = tt

-- where a step is told not to fit, it spells no instance
pub Answers-no_instance : (step : Step) (n : ℕ) (c : Sequent) (r : Result Premises StepRefusal) → Answers step r (premises_of step n c)
    → r ≡ Err DoesNotFit → (ps : List Levelled) → IsInstance step n c ps → ⊥
Answers-no_instance step n c (Ok p) h e ps i = cc
Answers-no_instance step n c (Err DoesNotFit) h e ps i = let named = premises_of-instance step n c ps i in cc
Answers-no_instance step n c (Err OutOfMemory) h e ps i = cc

pub ruleset instance_facts = (Answers-instance)
