-- Sequents that are the same but for the numbers of names, and the premises that steps name there.
use Rattle.std.proofs.Common.{◌≡◌, ℕ, ◌+◌, Bool, true, false, if◌then◌else◌, ◌&&◌, List, [], ◌∷◌, Option, Some, None, refl, ap₂, subst}
use Rattle.fpc_terms.specs.Term.{Term}
use Rattle.polarised_formulas.specs.declared.logic.Logic.TheVariants.{Lkf}
use Rattle.polarised_formulas.specs.declared.logic.Polarity.{Polarity}
use Rattle.polarised_formulas.specs.declared.logic.Polarity.TheVariants.{Positive, Negative}
use Rattle.polarised_formulas.specs.declared.logic.Side.TheVariants.{Left, Right}
use Rattle.polarised_formulas.specs.declared.step.Step.{Step}
use Rattle.polarised_formulas.specs.declared.step.Step.TheVariants.{TrueN, FalseN, OrN, AndN, Every, Store, Decide, TrueP, AndP, OrP, Exists, Release, Init, Cut}
use Rattle.polarised_formulas.specs.Formula.{Formula, polarity_of}
use Rattle.polarised_formulas.proofs.Calculus.Naming.{SameLevelled, same_levelled, IsOneToOne, RespectsNames}
use Rattle.lkf_rules.specs.Sequent.{Sequent, up, down, Levelled}
use Rattle.lkf_rules.specs.Lkf.{lkf}
use Rattle.polarised_formulas.specs.Scope.{is_scoped, may_be_cut}
use Rattle.polarised_formulas.proofs.SameScopes.{is_scoped-same, may_be_cut-same}
use Rattle.lkf_rules.specs.Rule.{is_storable}
use Rattle.lkf_rules.specs.Premises.{where_positive, where_negative, decided, closed_with, worked, chosen, focused, premises_of}
use Rattle.fpc_terms.specs.Same.{SameTerm, same_eigen, SameList, same_nil, same_cons, SameOption, same_none, same_some}
use Rattle.fpc_terms.proofs.SameTerms.{if-same, append-same, slice_get-same, same_args-same}
use Rattle.polarised_formulas.specs.Same.{SameFormula, same_truth, same_falsity, same_atom, same_conj, same_disj, same_implies, same_for_all, same_exists}
use Rattle.polarised_formulas.proofs.SameFormulas.{polarity_of-same, dual_of-same, open_at-same}
use Rattle.polarised_formulas.specs.Same.{IsNameless, SameStep, same_exists_step, same_left_every, same_right_exists, same_cut, same_nameless}

-- the two sequents are the same but for their names, which are related
pub data SameSequent (S : ℕ → ℕ → Type 0) : Sequent → Sequent → Type 0 where
  same_up : {s r g h : List Formula} → SameList (SameFormula S) s r → SameList (SameFormula S) g h → SameSequent S (up s g) (up r h)
  same_down : {s r : List Formula} {f g : Formula} → SameList (SameFormula S) s r → SameFormula S f g → SameSequent S (down s f) (down r g)

module _ (S : ℕ → ℕ → Type 0) where
  -- premises on both sides or on none
  abbrev pub SamePremises : Option (List Levelled) → Option (List Levelled) → Type 0
  SamePremises o p = SameOption (SameList (SameLevelled (SameSequent S))) o p

  abbrev SameFormulas : List Formula → List Formula → Type 0
  SameFormulas s r = SameList (SameFormula S) s r

  one-same : (n : ℕ) {c d : Sequent} → SameSequent S c d → SamePremises (Some ((n, c) ∷ [])) (Some ((n, d) ∷ []))
  one-same n h = same_some (same_cons (same_levelled n h) same_nil)

  two-same : (n : ℕ) {c d a b : Sequent} → SameSequent S c d → SameSequent S a b → SamePremises (Some ((n, c) ∷ (n, a) ∷ [])) (Some ((n, d) ∷ (n, b) ∷ []))
  two-same n h k = same_some (same_cons (same_levelled n h) (same_cons (same_levelled n k) same_nil))

  is_storable-same : {f g : Formula} → SameFormula S f g → is_storable f ≡ is_storable g
  is_storable-same (same_truth p) = refl
  is_storable-same (same_falsity p) = refl
  is_storable-same (same_atom positive s hs) = refl
  is_storable-same (same_conj Positive h k) = refl
  is_storable-same (same_conj Negative h k) = refl
  is_storable-same (same_disj Positive h k) = refl
  is_storable-same (same_disj Negative h k) = refl
  is_storable-same (same_implies h k) = refl
  is_storable-same (same_for_all h) = refl
  is_storable-same (same_exists h) = refl

  -- the same premises, where two tests tell the same
  tested-same : (c d : Bool) → c ≡ d → {ps qs : List Levelled} → SameList (SameLevelled (SameSequent S)) ps qs → SamePremises (if c then Some ps else None) (if d then Some qs else None)
  tested-same c d e {ps = ps} {qs = qs} h =
      subst (λ t. SamePremises (if c then Some ps else None) (if t then Some qs else None)) e (if-same (λ o p. SamePremises o p) c (λ _. same_some h) (λ _. same_none))

  positive-same : (p q : Polarity) → p ≡ q → {ps qs : List Levelled} → SameList (SameLevelled (SameSequent S)) ps qs → SamePremises (where_positive p ps) (where_positive q qs)
  positive-same p q e {ps = ps} {qs = qs} h = subst (λ r. SamePremises (where_positive p ps) (where_positive r qs)) e (by p)
    where
      by : (p : Polarity) → SamePremises (where_positive p ps) (where_positive p qs)
      by Positive = same_some h
      by Negative = same_none

  negative-same : (p q : Polarity) → p ≡ q → {ps qs : List Levelled} → SameList (SameLevelled (SameSequent S)) ps qs → SamePremises (where_negative p ps) (where_negative q qs)
  negative-same p q e {ps = ps} {qs = qs} h = subst (λ r. SamePremises (where_negative p ps) (where_negative r qs)) e (by p)
    where
      by : (p : Polarity) → SamePremises (where_negative p ps) (where_negative p qs)
      by Positive = same_none
      by Negative = same_some h

  worked-same : (s : Step) (n : ℕ) {st su g h : List Formula} {a b : Formula} → SameFormulas st su → SameFormula S a b → SameFormulas g h → SamePremises (worked s n st a g) (worked s n su b h)
  worked-same TrueN n s (same_truth Negative) g = same_some same_nil
  worked-same FalseN n s (same_falsity Negative) g = one-same n (same_up s g)
  worked-same OrN n s (same_disj Negative a b) g = one-same n (same_up s (same_cons a (same_cons b g)))
  worked-same AndN n s (same_conj Negative a b) g = two-same n (same_up s (same_cons a g)) (same_up s (same_cons b g))
  worked-same Every n s (same_for_all a) g = one-same (n + 1) (same_up s (same_cons (open_at-same S 0 (same_eigen n) a) g))
  worked-same Store n {a = a} {b = b} s f g = tested-same (is_storable a) (is_storable b) (is_storable-same f) (same_cons (same_levelled n (same_up (append-same s (same_cons f same_nil)) g)) same_nil)
  worked-same _ n s f g = same_none

  decided-same : (n : ℕ) {s r : List Formula} {o p : Option Formula} → SameFormulas s r → SameOption (SameFormula S) o p → SamePremises (decided n s o) (decided n r p)
  decided-same n s same_none = same_none
  decided-same n s (same_some {x = f} {y = g} h) = positive-same (polarity_of f) (polarity_of g) (polarity_of-same S h) (same_cons (same_levelled n (same_down s h)) same_nil)

  chosen-same : (t : Step) → IsNameless t → (n : ℕ) {s r : List Formula} → SameFormulas s r → SamePremises (chosen t n s) (chosen t n r)
  chosen-same (Decide k) i n s = decided-same n s (slice_get-same s k)
  chosen-same (Cut b) i n s = absurd i
  chosen-same _ i n s = same_none

  cut-same : (n : ℕ) {s r : List Formula} {a b : Formula} → SameFormulas s r → SameFormula S a b → SamePremises (chosen (Cut a) n s) (chosen (Cut b) n r)
  cut-same n {a = a} {b = b} s h =
      tested-same (may_be_cut Lkf n 0 a) (may_be_cut Lkf n 0 b) (may_be_cut-same S Lkf n 0 h)
      (same_cons (same_levelled n (same_up s (same_cons h same_nil))) (same_cons (same_levelled n (same_up s (same_cons (dual_of-same S h) same_nil))) same_nil))

  some-same : (n : ℕ) {s r : List Formula} {t u : Term} {f g : Formula} → SameFormulas s r → SameTerm S t u → SameFormula S f g → SamePremises (focused (Exists t) n s f) (focused (Exists u) n r g)
  some-same n {t = t} {u = u} s h (same_exists a) = tested-same (is_scoped n 0 t) (is_scoped n 0 u) (is_scoped-same S n 0 h) (same_cons (same_levelled n (same_down s (open_at-same S 0 h a))) same_nil)
  some-same n s h _ = same_none

  -- where the relation is one to one
  module _ (one : IsOneToOne S) where
    closed-same : {f g : Formula} {o p : Option Formula} → SameFormula S f g → SameOption (SameFormula S) o p → SamePremises (closed_with f o) (closed_with g p)
    closed-same (same_atom true {f = f} {g = m} s hs) (same_some (same_atom false {f = g} {g = n} r ks)) =
        tested-same _ _ (ap₂ (λ a b. a && b) (one f g m n s r) (same_args-same S one hs ks)) same_nil
    closed-same _ _ = same_none

    focused-same : (t : Step) → IsNameless t → (n : ℕ) {s r : List Formula} {f g : Formula} → SameFormulas s r → SameFormula S f g → SamePremises (focused t n s f) (focused t n r g)
    focused-same TrueP i n s (same_truth Positive) = same_some same_nil
    focused-same AndP i n s (same_conj Positive a b) = two-same n (same_down s a) (same_down s b)
    focused-same (OrP Left) i n s (same_disj Positive a b) = one-same n (same_down s a)
    focused-same (OrP Right) i n s (same_disj Positive a b) = one-same n (same_down s b)
    focused-same (Exists t) i n s f = absurd i
    focused-same Release i n {f = f} {g = g} s h = negative-same (polarity_of f) (polarity_of g) (polarity_of-same S h) (same_cons (same_levelled n (same_up s (same_cons h same_nil))) same_nil)
    focused-same (Init k) i n s f = closed-same f (slice_get-same s k)
    focused-same _ i n s f = same_none

    -- a step names the same premises
    premises_of-same : {t u : Step} {c d : Sequent} → SameStep S t u → (n : ℕ) → SameSequent S c d → SamePremises (premises_of t n c) (premises_of u n d)
    premises_of-same (same_exists_step h) n (same_up s same_nil) = same_none
    premises_of-same (same_exists_step h) n (same_up s (same_cons f g)) = same_none
    premises_of-same (same_exists_step h) n (same_down s f) = some-same n s h f
    premises_of-same (same_left_every h) n (same_up s same_nil) = same_none
    premises_of-same (same_left_every h) n (same_up s (same_cons f g)) = same_none
    premises_of-same (same_left_every h) n (same_down s f) = same_none
    premises_of-same (same_right_exists h) n (same_up s same_nil) = same_none
    premises_of-same (same_right_exists h) n (same_up s (same_cons f g)) = same_none
    premises_of-same (same_right_exists h) n (same_down s f) = same_none
    premises_of-same (same_cut h) n (same_up s same_nil) = cut-same n s h
    premises_of-same (same_cut h) n (same_up s (same_cons f g)) = same_none
    premises_of-same (same_cut h) n (same_down s f) = same_none
    premises_of-same (same_nameless t i) n (same_up s same_nil) = chosen-same t i n s
    premises_of-same (same_nameless t i) n (same_up s (same_cons f g)) = worked-same t n s f g
    premises_of-same (same_nameless t i) n (same_down s f) = focused-same t i n s f

-- the numbers of names don't matter in LKF
pub lkf_respects_names : RespectsNames lkf
lkf_respects_names = record {
  SameSequent = SameSequent;
  root_same = λ S f g h. same_up same_nil (same_cons h same_nil);
  premises_same = λ S one t u s n c d h. premises_of-same S one s n h;
}
