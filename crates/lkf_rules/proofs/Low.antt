-- The steps of LKF name places and eigenvariables below the number of the steps before them.
use Rattle.std.proofs.Common.{◌≡◌, ℕ, suc, ◌<◌, ◌≤◌, true, false, ◌&&◌, nat_eq, List, [], ◌∷◌, ◌++◌, length, length-append, Option, Some, None, IfSome, slice_get, refl, arith}
use Rattle.std.proofs.lemmas.Option.{slice_get_within}
use Rattle.std.specs.List.{AllByRecursion}
use Rattle.fpc_terms.specs.Term.{Term, same_args}
use Rattle.polarised_formulas.specs.declared.logic.Logic.TheVariants.{Lkf}
use Rattle.polarised_formulas.specs.declared.logic.Polarity.{Polarity}
use Rattle.polarised_formulas.specs.declared.logic.Polarity.TheVariants.{Positive, Negative}
use Rattle.polarised_formulas.specs.declared.logic.Side.TheVariants.{Left, Right}
use Rattle.polarised_formulas.specs.declared.step.Step.{Step}
use Rattle.polarised_formulas.specs.declared.step.Step.TheVariants.{TrueN, FalseN, OrN, AndN, Every, Store, Decide, TrueP, AndP, OrP, Exists, Release, Init, Cut}
use Rattle.polarised_formulas.specs.Calculus.Low.{IsWithin, HasLowSteps}
use Rattle.polarised_formulas.specs.Formula.{Formula, truth, falsity, atom, conj, disj, for_all, exists, polarity_of, dual_of, open_at}
use Rattle.polarised_formulas.specs.Scope.{is_scoped, may_be_cut}
use Rattle.polarised_formulas.specs.Step.{IsStepOf}
use Rattle.polarised_formulas.proofs.Elements.{IfSome-if}
use Rattle.polarised_formulas.proofs.Leaves.{Each-weaker, EachInside-weaker, InScope-is_scoped, EachInside-may_be_cut, IsOfLogic-may_be_cut}
use Rattle.lkf_rules.specs.Laws.{stored_of}
use Rattle.lkf_rules.specs.Lkf.{lkf}
use Rattle.lkf_rules.specs.Premises.{where_positive, where_negative, decided, closed_with, worked, chosen, focused, premises_of}
use Rattle.lkf_rules.specs.Rule.{is_storable}
use Rattle.lkf_rules.specs.Sequent.{Sequent, up, down, Levelled}

-- the level and the number of stored formulas are at most m
abbrev IsLow : ℕ → Levelled → Type 0
IsLow m p = (p.0 ≤ m) × (length (stored_of p.1) ≤ m)

-- the step is one of LKF, what it names lies below m, and the premises are at most one higher
abbrev Goes : ℕ → Step → List Levelled → Type 0
Goes m s ps = IsStepOf Lkf s × IsWithin m Lkf s × AllByRecursion (IsLow (suc m)) ps

module _ (m n : ℕ) (s : List Formula) (level : n ≤ m) (few : length s ≤ m) where
  here : IsLow (suc m) (n, up s [])
  here = (omega arith, omega arith)

  goes-store : (f : Formula) (g : List Formula) → Goes m Store ((n, up (s ++ f ∷ []) g) ∷ [])
  goes-store f g = (tt, tt, ((omega arith, omega (arith, length-append s (f ∷ []))), tt))

  goes-worked : (x : Step) (f : Formula) (g : List Formula) → IfSome (worked x n s f g) (Goes m x)
  goes-worked TrueN (truth Negative) g = (tt, tt, tt)
  goes-worked FalseN (falsity Negative) g = (tt, tt, (here, tt))
  goes-worked OrN (disj Negative a b) g = (tt, tt, (here, tt))
  goes-worked AndN (conj Negative a b) g = (tt, tt, (here, (here, tt)))
  goes-worked Every (for_all a) g = (tt, tt, ((omega arith, omega arith), tt))
  goes-worked Store f g = IfSome-if (Goes m Store) (is_storable f) ((n, up (s ++ f ∷ []) g) ∷ []) (λ e. goes-store f g)
  goes-worked _ f g = tt

  goes-positive : (k : ℕ) (f : Formula) → k < m → (p : Polarity) → IfSome (where_positive p ((n, down s f) ∷ [])) (Goes m (Decide k))
  goes-positive k f l Positive = (tt, l, (here, tt))
  goes-positive k f l Negative = tt

  goes-decided : (k : ℕ) (o : Option Formula) → slice_get s k ≡ o → IfSome (decided n s o) (Goes m (Decide k))
  goes-decided k None e = tt
  goes-decided k (Some f) e = let l = slice_get_within s k f e in goes-positive k f (omega arith) (polarity_of f)

  goes-cut : (b : Formula) → may_be_cut Lkf n 0 b ≡ true → (ps : List Levelled) → AllByRecursion (IsLow (suc m)) ps → Goes m (Cut b) ps
  goes-cut b passes ps low =
      (tt, (EachInside-weaker (λ j. j < n) (λ j. j < m) (λ j l. omega arith) 0 b (EachInside-may_be_cut n Lkf 0 b passes), IsOfLogic-may_be_cut n Lkf 0 b passes), low)

  goes-chosen : (x : Step) → IfSome (chosen x n s) (Goes m x)
  goes-chosen (Decide k) = goes-decided k (slice_get s k) refl
  goes-chosen (Cut b) = IfSome-if (Goes m (Cut b)) (may_be_cut Lkf n 0 b) ((n, up s (b ∷ [])) ∷ (n, up s (dual_of b ∷ [])) ∷ [])
      (λ passes. goes-cut b passes ((n, up s (b ∷ [])) ∷ (n, up s (dual_of b ∷ [])) ∷ []) (here, (here, tt)))
  goes-chosen _ = tt

  goes-some : (t : Term) → is_scoped n 0 t ≡ true → (ps : List Levelled) → AllByRecursion (IsLow (suc m)) ps → Goes m (Exists t) ps
  goes-some t passes ps low = (tt, Each-weaker (λ j. j < n) (λ j. j < m) _ _ _ (λ j l. omega arith) (λ k x. x) t (InScope-is_scoped n t passes), low)

  goes-negative : (f : Formula) → (p : Polarity) → IfSome (where_negative p ((n, up s (f ∷ [])) ∷ [])) (Goes m Release)
  goes-negative f Positive = tt
  goes-negative f Negative = (tt, tt, (here, tt))

  goes-closed : (k : ℕ) (f : Formula) (o : Option Formula) → slice_get s k ≡ o → IfSome (closed_with f o) (Goes m (Init k))
  goes-closed k (atom true name ts) (Some (atom false name' ts')) e =
      let l = slice_get_within s k (atom false name' ts') e in
      IfSome-if (Goes m (Init k)) (nat_eq name name' && same_args ts ts') [] (λ same. (tt, omega arith, tt))
  goes-closed k _ _ e = tt

  goes-focused : (x : Step) (f : Formula) → IfSome (focused x n s f) (Goes m x)
  goes-focused TrueP (truth Positive) = (tt, tt, tt)
  goes-focused AndP (conj Positive a b) = (tt, tt, (here, (here, tt)))
  goes-focused (OrP Left) (disj Positive a b) = (tt, tt, (here, tt))
  goes-focused (OrP Right) (disj Positive a b) = (tt, tt, (here, tt))
  goes-focused (Exists t) (exists a) = IfSome-if (Goes m (Exists t)) (is_scoped n 0 t) ((n, down s (open_at 0 t a)) ∷ []) (λ passes. goes-some t passes ((n, down s (open_at 0 t a)) ∷ []) (here, tt))
  goes-focused Release f = goes-negative f (polarity_of f)
  goes-focused (Init k) f = goes-closed k f (slice_get s k) refl
  goes-focused _ f = tt

goes-any : (m : ℕ) (x : Step) (n : ℕ) (c : Sequent) → n ≤ m → length (stored_of c) ≤ m → IfSome (premises_of x n c) (Goes m x)
goes-any m x n (up s (f ∷ g)) h k = goes-worked m n s h k x f g
goes-any m x n (up s []) h k = goes-chosen m n s h k x
goes-any m x n (down s f) h k = goes-focused m n s h k x f

pub lkf_has_low_steps : HasLowSteps lkf
lkf_has_low_steps = record {
  stored_in = λ c. length (stored_of c);
  root_is_low = λ f. refl;
  step_is_low = λ m step n c ps h k fits. rw fits at (goes-any m step n c h k);
}
