-- What a step names at a sequent is an instance of a rule, and keeps scope, levels and the logic.
use Rattle.std.proofs.Common.{◌≡◌, ℕ, ◌+◌, ◌<◌, ◌≤◌, ◌≢◌, true, false, ◌&&◌, nat_eq, List, [], ◌∷◌, ◌++◌, map, Option, Some, None, IfSome, slice_get, refl, arith}
use Rattle.std.proofs.lemmas.Bool.Decides.{nat_tests}
use Rattle.std.proofs.lemmas.Bool.{and_parts}
use Rattle.std.specs.List.{AllByRecursion}
use Rattle.fpc_terms.specs.Term.{Term, eigen, Args, Never, Always, IsProperTerm, same_args}
use Rattle.polarised_formulas.specs.declared.logic.Logic.TheVariants.{Lkf}
use Rattle.polarised_formulas.specs.declared.logic.Polarity.{Polarity}
use Rattle.polarised_formulas.specs.declared.logic.Polarity.TheVariants.{Positive, Negative}
use Rattle.polarised_formulas.specs.declared.logic.Side.TheVariants.{Left, Right}
use Rattle.polarised_formulas.specs.declared.step.Step.{Step}
use Rattle.polarised_formulas.specs.declared.step.Step.TheVariants.{TrueN, FalseN, OrN, AndN, Every, Store, Decide, TrueP, AndP, OrP, Exists, Release, Init, Cut}
use Rattle.polarised_formulas.specs.Formula.{Formula, truth, falsity, atom, conj, disj, for_all, exists, polarity_of, dual_of, open_at, IsProper, IsClosed, IsLkf}
use Rattle.polarised_formulas.specs.Calculus.Lawful.{IsLawful}
use Rattle.lkf_rules.specs.Sequent.{Sequent, up, down, Levelled, IsInScope, IsLkfSequent, IsFresh, IsProperSequent, root_of}
use Rattle.lkf_rules.specs.Lkf.{lkf}
use Rattle.lkf_rules.specs.Rule.{Rule, is_storable, true_negative, false_negative, or_negative, and_negative, every, store, decide, cut, true_positive, and_positive, or_left, or_right, some, release, initial}
use Rattle.lkf_rules.specs.Premises.{where_positive, where_negative, decided, closed_with, worked, chosen, focused, premises_of}
use Rattle.polarised_formulas.proofs.Elements.{AllByRecursion-append, AllByRecursion-at, AllByRecursion-weaker, IfSome-if}
use Rattle.polarised_formulas.specs.Scope.{is_scoped, may_be_cut}
use Rattle.lkf_rules.specs.Instance.{IsInstance}
use Rattle.polarised_formulas.proofs.Leaves.{Each-weaker, EachInside-weaker, EachInside-open_at, EachInside-dual_of, InScope-is_scoped, EachInside-may_be_cut, IsOfLogic-may_be_cut, IsLkf-open_at, IsLkf-dual_of, same_args-equal}

-- the sequents of a list, without their levels
abbrev pub sequents_of : List Levelled → List Sequent
sequents_of ps = map (λ p. p.1) ps

-- the premises are of an instance of a rule, and they keep what the conclusion has
pub record IsSound (step : Step) (n : ℕ) (c : Sequent) (ps : List Levelled) : Type 0 where
  pub rule : IsInScope (n, c) → Rule c (sequents_of ps)
  pub named : IsInScope (n, c) → IsInstance step n c ps
  pub scope : IsInScope (n, c) → AllByRecursion IsInScope ps
  pub logic : IsLkfSequent c → AllByRecursion (λ p. IsLkfSequent p.1) ps
  pub levels : AllByRecursion (λ p. p.0 ≤ n + 1) ps

-- a sequent in scope at a level is in scope at the next one
IsProperSequent-weaker : (e f : ℕ → Type 0) → ((n : ℕ) → e n → f n) → (c : Sequent) → IsProperSequent e c → IsProperSequent f c
IsProperSequent-weaker e f w (up s g) h =
    let each = λ (a : Formula) (x : IsProper e a). EachInside-weaker e f w 0 a x in
    (AllByRecursion-weaker (IsProper e) (IsProper f) each s h.0, AllByRecursion-weaker (IsProper e) (IsProper f) each g h.1)
IsProperSequent-weaker e f w (down s a) h =
    let each = λ (a : Formula) (x : IsProper e a). EachInside-weaker e f w 0 a x in
    (AllByRecursion-weaker (IsProper e) (IsProper f) each s h.0, each a h.1)

-- a level is fresh in a sequent that is in scope there
IsFresh-level : (n : ℕ) (c : Sequent) → IsInScope (n, c) → IsFresh n c
IsFresh-level n c h = IsProperSequent-weaker (λ m. m < n) (λ m. m ≢ n) (λ m lt. omega arith) c h

-- an instance of `every`
IsSound-every : (n : ℕ) (s : List Formula) (a : Formula) (g : List Formula) → IsSound Every n (up s (for_all a ∷ g)) ((n + 1, up s (open_at 0 (eigen n) a ∷ g)) ∷ [])
IsSound-every n s a g =
    let wider = IsProperSequent-weaker (λ m. m < n) (λ m. m < n + 1) (λ m lt. omega arith) (up s (for_all a ∷ g)) in
    record {
      rule = λ h. every s g a n (IsFresh-level n (up s (for_all a ∷ g)) h);
      named = λ h. (_, every s g a n (IsFresh-level n (up s (for_all a ∷ g)) h), (refl, refl), refl);
      scope = λ h. let k = wider h in ((k.0, (EachInside-open_at (λ m. m < n + 1) (eigen n) (omega arith) 0 a k.1.0, k.1.1)), tt);
      logic = λ h. ((h.0, (IsLkf-open_at 0 (eigen n) a h.1.0, h.1.1)), tt);
      levels = (omega arith, tt);
    }

-- an instance of `store`
IsSound-store : (n : ℕ) (s : List Formula) (f : Formula) (g : List Formula) → is_storable f ≡ true → IsSound Store n (up s (f ∷ g)) ((n, up (s ++ f ∷ []) g) ∷ [])
IsSound-store n s f g e = record {
  rule = λ h. store s g f e;
  named = λ h. (_, store s g f e, refl, refl);
  scope = λ h. ((AllByRecursion-append (IsProper (λ m. m < n)) s (f ∷ []) h.0 (h.1.0, tt), h.1.1), tt);
  logic = λ h. ((AllByRecursion-append IsLkf s (f ∷ []) h.0 (h.1.0, tt), h.1.1), tt);
  levels = (omega arith, tt);
}

-- a step of the negative phase
IfSome-worked : (step : Step) (n : ℕ) (s : List Formula) (f : Formula) (g : List Formula) → IfSome (worked step n s f g) (IsSound step n (up s (f ∷ g)))
IfSome-worked TrueN n s (truth Negative) g = record { rule = λ h. true_negative s g; named = λ h. (_, true_negative s g, refl, refl); scope = λ h. tt; logic = λ h. tt; levels = tt }
IfSome-worked FalseN n s (falsity Negative) g =
    record { rule = λ h. false_negative s g; named = λ h. (_, false_negative s g, refl, refl); scope = λ h. ((h.0, h.1.1), tt); logic = λ h. ((h.0, h.1.1), tt); levels = (omega arith, tt) }
IfSome-worked OrN n s (disj Negative a b) g = record {
  rule = λ h. or_negative s g a b;
  named = λ h. (_, or_negative s g a b, refl, refl);
  scope = λ h. ((h.0, (h.1.0.0, (h.1.0.1, h.1.1))), tt);
  logic = λ h. ((h.0, (h.1.0.0, (h.1.0.1, h.1.1))), tt);
  levels = (omega arith, tt);
}
IfSome-worked AndN n s (conj Negative a b) g = record {
  rule = λ h. and_negative s g a b;
  named = λ h. (_, and_negative s g a b, refl, refl);
  scope = λ h. ((h.0, (h.1.0.0, h.1.1)), ((h.0, (h.1.0.1, h.1.1)), tt));
  logic = λ h. ((h.0, (h.1.0.0, h.1.1)), ((h.0, (h.1.0.1, h.1.1)), tt));
  levels = (omega arith, (omega arith, tt));
}
IfSome-worked Every n s (for_all a) g = IsSound-every n s a g
IfSome-worked Store n s f g = IfSome-if (IsSound Store n (up s (f ∷ g))) (is_storable f) ((n, up (s ++ f ∷ []) g) ∷ []) (IsSound-store n s f g)
IfSome-worked _ n s f g = tt

-- a decision
IsSound-decide : (n k : ℕ) (s : List Formula) (f : Formula) → slice_get s k ≡ Some f → polarity_of f ≡ Positive → IsSound (Decide k) n (up s []) ((n, down s f) ∷ [])
IsSound-decide n k s f e p = record {
  rule = λ h. decide s f (k, e) p;
  named = λ h. (_, decide s f (k, e) p, (k, refl, e), refl);
  scope = λ h. ((h.0, AllByRecursion-at (IsProper (λ m. m < n)) s k f h.0 e), tt);
  logic = λ h. ((h.0, AllByRecursion-at IsLkf s k f h.0 e), tt);
  levels = (omega arith, tt);
}

-- the premises where a polarity fits
IfSome-where_positive : (P : List Levelled → Type 0) (p : Polarity) (ps : List Levelled) → (p ≡ Positive → P ps) → IfSome (where_positive p ps) P
IfSome-where_positive P Positive ps h = h refl
IfSome-where_positive P Negative ps h = tt

IfSome-where_negative : (P : List Levelled → Type 0) (p : Polarity) (ps : List Levelled) → (p ≡ Negative → P ps) → IfSome (where_negative p ps) P
IfSome-where_negative P Positive ps h = tt
IfSome-where_negative P Negative ps h = h refl

-- a decision on the formula at a place, if there is one
IfSome-decided : (n k : ℕ) (s : List Formula) (o : Option Formula) → slice_get s k ≡ o → IfSome (decided n s o) (IsSound (Decide k) n (up s []))
IfSome-decided n k s None e = tt
IfSome-decided n k s (Some f) e = IfSome-where_positive (IsSound (Decide k) n (up s [])) (polarity_of f) ((n, down s f) ∷ []) (IsSound-decide n k s f e)

-- a cut
IsSound-cut : (n : ℕ) (s : List Formula) (b : Formula) → may_be_cut Lkf n 0 b ≡ true → IsSound (Cut b) n (up s []) ((n, up s (b ∷ [])) ∷ (n, up s (dual_of b ∷ [])) ∷ [])
IsSound-cut n s b passes =
    let within = EachInside-may_be_cut n Lkf 0 b passes in
    let of = IsOfLogic-may_be_cut n Lkf 0 b passes in
    let proper : IsProper Always b = EachInside-weaker (λ m. m < n) Always (λ m lt. tt) 0 b within in
    record {
      rule = λ h. cut s b proper of;
      named = λ h. (_, cut s b proper of, (refl, within), refl);
      scope = λ h. ((h.0, (within, tt)), ((h.0, (EachInside-dual_of (λ m. m < n) 0 b within, tt)), tt));
      logic = λ h. ((h.0, (of, tt)), ((h.0, (IsLkf-dual_of b of, tt)), tt));
      levels = (omega arith, (omega arith, tt));
    }

-- a step at a sequent with nothing to work on
IfSome-chosen : (step : Step) (n : ℕ) (s : List Formula) → IfSome (chosen step n s) (IsSound step n (up s []))
IfSome-chosen (Decide k) n s = IfSome-decided n k s (slice_get s k) refl
IfSome-chosen (Cut b) n s =
    IfSome-if (IsSound (Cut b) n (up s [])) (may_be_cut Lkf n 0 b) ((n, up s (b ∷ [])) ∷ (n, up s (dual_of b ∷ [])) ∷ []) (IsSound-cut n s b)
IfSome-chosen _ n s = tt

-- an instance of `some`
IsSound-some : (n : ℕ) (s : List Formula) (a : Formula) (t : Term) → is_scoped n 0 t ≡ true → IsSound (Exists t) n (down s (exists a)) ((n, down s (open_at 0 t a)) ∷ [])
IsSound-some n s a t passes =
    let within = InScope-is_scoped n t passes in
    let proper : IsProperTerm Always t = Each-weaker (λ m. m < n) Always Never Never Never (λ m lt. tt) (λ k x. x) t within in
    record {
      rule = λ h. some s a t proper;
      named = λ h. (_, some s a t proper, (refl, within), refl);
      scope = λ h. ((h.0, EachInside-open_at (λ m. m < n) t within 0 a h.1), tt);
      logic = λ h. ((h.0, IsLkf-open_at 0 t a h.1), tt);
      levels = (omega arith, tt);
    }

-- a release
IsSound-release : (n : ℕ) (s : List Formula) (f : Formula) → polarity_of f ≡ Negative → IsSound Release n (down s f) ((n, up s (f ∷ [])) ∷ [])
IsSound-release n s f p = record { rule = λ h. release s f p; named = λ h. (_, release s f p, refl, refl); scope = λ h. ((h.0, (h.1, tt)), tt); logic = λ h. ((h.0, (h.1, tt)), tt); levels = (omega arith, tt) }

-- a literal closed by its dual at a place
IsSound-init : (n k : ℕ) (s : List Formula) (name name' : ℕ) (ts ts' : Args) → slice_get s k ≡ Some (atom false name' ts') → (nat_eq name name' && same_args ts ts') ≡ true → IsSound (Init k) n (down s (atom true name ts)) []
IsSound-init n k s name name' ts ts' e same =
    let parts = and_parts (nat_eq name name') (same_args ts ts') same in
    let one : name ≡ name' = grind (arith, nat_tests) in
    let both : ts ≡ ts' = same_args-equal ts ts' parts.1 in
    let at : slice_get s k ≡ Some (atom false name ts) = cc in
    record { rule = λ h. initial s name ts (k, at); named = λ h. (_, initial s name ts (k, at), (k, refl, at), refl); scope = λ h. tt; logic = λ h. tt; levels = tt }

-- a literal closed by the formula at a place, if there is one
IfSome-closed_with : (n k : ℕ) (s : List Formula) (f : Formula) (o : Option Formula) → slice_get s k ≡ o → IfSome (closed_with f o) (IsSound (Init k) n (down s f))
IfSome-closed_with n k s (atom true name ts) (Some (atom false name' ts')) e =
    IfSome-if (IsSound (Init k) n (down s (atom true name ts))) (nat_eq name name' && same_args ts ts') [] (IsSound-init n k s name name' ts ts' e)
IfSome-closed_with n k s _ _ e = tt

-- a step on the formula under focus
IfSome-focused : (step : Step) (n : ℕ) (s : List Formula) (f : Formula) → IfSome (focused step n s f) (IsSound step n (down s f))
IfSome-focused TrueP n s (truth Positive) = record { rule = λ h. true_positive s; named = λ h. (_, true_positive s, refl, refl); scope = λ h. tt; logic = λ h. tt; levels = tt }
IfSome-focused AndP n s (conj Positive a b) = record {
  rule = λ h. and_positive s a b;
  named = λ h. (_, and_positive s a b, refl, refl);
  scope = λ h. ((h.0, h.1.0), ((h.0, h.1.1), tt));
  logic = λ h. ((h.0, h.1.0), ((h.0, h.1.1), tt));
  levels = (omega arith, (omega arith, tt));
}
IfSome-focused (OrP Left) n s (disj Positive a b) =
    record { rule = λ h. or_left s a b; named = λ h. (_, or_left s a b, refl, refl); scope = λ h. ((h.0, h.1.0), tt); logic = λ h. ((h.0, h.1.0), tt); levels = (omega arith, tt) }
IfSome-focused (OrP Right) n s (disj Positive a b) =
    record { rule = λ h. or_right s a b; named = λ h. (_, or_right s a b, refl, refl); scope = λ h. ((h.0, h.1.1), tt); logic = λ h. ((h.0, h.1.1), tt); levels = (omega arith, tt) }
IfSome-focused (Exists t) n s (exists a) =
    IfSome-if (IsSound (Exists t) n (down s (exists a))) (is_scoped n 0 t) ((n, down s (open_at 0 t a)) ∷ []) (IsSound-some n s a t)
IfSome-focused Release n s f = IfSome-where_negative (IsSound Release n (down s f)) (polarity_of f) ((n, up s (f ∷ [])) ∷ []) (IsSound-release n s f)
IfSome-focused (Init k) n s f = IfSome-closed_with n k s f (slice_get s k) refl
IfSome-focused _ n s f = tt

-- the premises that a step names, if it names some, are sound
IfSome-premises_of : (step : Step) (n : ℕ) (c : Sequent) → IfSome (premises_of step n c) (IsSound step n c)
IfSome-premises_of step n (up s (f ∷ g)) = IfSome-worked step n s f g
IfSome-premises_of step n (up s []) = IfSome-chosen step n s
IfSome-premises_of step n (down s f) = IfSome-focused step n s f

-- the same, at the premises
pub IsSound-premises_of : (step : Step) (n : ℕ) (c : Sequent) (ps : List Levelled) → premises_of step n c ≡ Some ps → IsSound step n c ps
IsSound-premises_of step n c ps fits = rw fits at (IfSome-premises_of step n c)

-- a goal is in scope at the start
root-scope : (f : Formula) → IsClosed f → IsInScope (0, root_of f)
root-scope f closed = (tt, (EachInside-weaker Never (λ m. m < 0) (λ m x. absurd x) 0 f closed, tt))

-- LKF is lawful
pub lkf_is_lawful : IsLawful lkf
lkf_is_lawful = record {
  keeps = λ step n c ps fits.
      let s = IsSound-premises_of step n c ps fits in
      record { rule = s.rule; scope = s.scope; logic = s.logic; levels = s.levels };
  root_scope = root-scope;
  root_logic = λ f of. (tt, (of, tt));
}
