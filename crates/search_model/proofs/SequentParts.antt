-- The laws of what the sequents of either logic are made of: stored formulas with their indexes,
-- formulas in a row, literals.
use Rattle.std.proofs.Common.{◌&&◌, ◌++◌, ◌<◌, ◌∙◌, ◌∷◌, ◌≡◌, ◌≤◌, ℕ, zero, suc, Bool, true, false}
use Rattle.std.proofs.Common.{nat_eq, List, [], map, length, Some, slice_get, refl, ap, ap₂, sym}
use Rattle.std.proofs.Common.{subst, arith}
use Rattle.std.specs.List.{All}
use Rattle.std.proofs.lemmas.Bool.Decides.{nat_tests}
use Rattle.std.proofs.lemmas.List.{map-id}
use Rattle.std.proofs.lemmas.List.Elements.{All-nil, All-cons, All-head, All-tail, All-map}
use Rattle.std.proofs.lemmas.List.Elements.{All-weaker, All-append}
use mathlib.Core.Path.{fun_ext}
use Rattle.fpc_terms.specs.Term.{Term, Args, eigen, bound, variable, app, no_args, arg, count, put}
use Rattle.fpc_terms.specs.Term.{Each, EachArg, Never, Always}
use Rattle.fpc_terms.specs.Open.{IsOpen, Level, level_of, IsAtMost}
use Rattle.fpc_terms.proofs.PutFacts.{put-put, put_agrees, open_put, open_more, count-put_all}
use Rattle.polarised_formulas.specs.declared.logic.Polarity.TheVariants.{Positive}
use Rattle.polarised_formulas.specs.Formula.{Formula, truth, falsity, atom, conj, disj, implies}
use Rattle.polarised_formulas.specs.Formula.{for_all, exists, Tied}
use Rattle.polarised_formulas.specs.OpenFormula.{put_formula, AnyBound, IsOpenFormula, IsScopedFormula}
use Rattle.fpc_terms.specs.Open.{IsOpenAt}
use Rattle.search_model.specs.StoredFormulas.{put_stored, IsOpenStored, IsScopedStored}
use Rattle.search_model.specs.Lines.{atom_term, is_literal}
use Rattle.search_model.specs.declared.stored.Stored.{Stored}
use Rattle.polarised_formulas.proofs.OpenFormulaFacts.{put_same, formula_same, formula-put}
use Rattle.polarised_formulas.proofs.OpenFormulaFacts.{formula_agrees, formula_open_put}
use Rattle.polarised_formulas.proofs.OpenFormulaFacts.{formula_open_more, formula_scoped_put}
use Rattle.polarised_formulas.proofs.OpenFormulaFacts.{formula_scoped_more}
use Rattle.std.proofs.lemmas.Option.{slice_get-map}
use Rattle.std.proofs.lemmas.Simd.{map-map}
use Rattle.std.specs.Option.{option_map}

maps_agree : {X : Type 0} (P : X → Type 0) (f g : X → X) → ((x : X) → P x → f x ≡ g x)
    → (xs : List X)
    → All P xs → map f xs ≡ map g xs
maps_agree P f g e [] h = refl
maps_agree P f g e (x ∷ xs) h =
    ap₂ (λ y ys. y ∷ ys) (e x (All-head P x xs h)) (maps_agree P f g e xs (All-tail P x xs h))

all_put : {X : Type 0} (P Q : X → Type 0) (g : X → X) → ((x : X) → P x → Q (g x)) → (xs : List X)
    → All P xs → All Q (map g xs)
all_put P Q g h xs a = All-map Q g xs (All-weaker P (λ x. Q (g x)) h xs a)

-- one alone, and one more at the end
pub alone : {X : Type 0} (P : X → Type 0) (x : X) → P x → All P (x ∷ [])
alone P x h = All-cons P x [] h (All-nil P)

pub all_end : {X : Type 0} (P : X → Type 0) (xs : List X) (x : X) → All P xs → P x
    → All P (xs ++ x ∷ [])
all_end P xs x h hx = All-append P xs (x ∷ []) h (alone P x hx)

-- stored formulas, and formulas in a row
abbrev as_stored : Term → Formula → Stored
as_stored t f = record { index = t; formula = f }

module _ (s r : ℕ → Term) where
  pub stores-put : (st : List Stored)
      → map (put_stored s) (map (put_stored r) st) ≡ map (put_stored (λ n. put s (r n))) st
  stores-put st =
      map-map (put_stored s) (put_stored r) st
      ∙ ap (λ f. map f st)
      (fun_ext (λ i. ap₂ as_stored (put-put s r i.index) (formula-put s r i.formula)))

  pub works-put : (g : List Formula)
      → map (put_formula s) (map (put_formula r) g) ≡ map (put_formula (λ n. put s (r n))) g
  works-put g =
      map-map (put_formula s) (put_formula r) g ∙ ap (λ f. map f g) (fun_ext (formula-put s r))

pub stores_same : (st : List Stored) → map (put_stored variable) st ≡ st
stores_same st =
    ap (λ f. map f st) (fun_ext (λ i. ap₂ as_stored (put_same i.index) (formula_same i.formula)))
    ∙ map-id st

pub works_same : (g : List Formula) → map (put_formula variable) g ≡ g
works_same g = ap (λ f. map f g) (fun_ext formula_same) ∙ map-id g

module _ (k : ℕ) (s r : ℕ → Term) (same : (n : ℕ) → n < k → s n ≡ r n) where
  pub work_agrees : (f : Formula) → IsOpenFormula k f → put_formula s f ≡ put_formula r f
  work_agrees f h = formula_agrees Always AnyBound (λ n. n < k) s r same 0 f h

  pub works_agree : (g : List Formula) → All (IsOpenFormula k) g → map (put_formula s) g
      ≡ map (put_formula r) g
  works_agree g h = maps_agree (IsOpenFormula k) (put_formula s) (put_formula r) work_agrees g h

  pub stores_agree : (st : List Stored) → All (IsOpenStored k) st
      → map (put_stored s) st ≡ map (put_stored r) st
  stores_agree st h =
      maps_agree (IsOpenStored k) (put_stored s) (put_stored r)
      (λ i q. ap₂ as_stored (put_agrees Always Never (λ n. n < k) s r same i.index q.0)
      (work_agrees i.formula q.1)) st h

module _ (j k : ℕ) where
  module _ (r : ℕ → Term) (are_open : (n : ℕ) → n < j → IsOpen k (r n)) where
    pub stores_open_put : (st : List Stored) → All (IsOpenStored j) st
        → All (IsOpenStored k) (map (put_stored r) st)
    stores_open_put st h =
        all_put (IsOpenStored j) (IsOpenStored k) (put_stored r)
        (λ i q. (
          open_put j k r are_open i.index q.0,
          formula_open_put j k r are_open i.formula
              q.1,
        )) st h

    pub works_open_put : (g : List Formula) → All (IsOpenFormula j) g
        → All (IsOpenFormula k) (map (put_formula r) g)
    works_open_put g h =
        all_put (IsOpenFormula j) (IsOpenFormula k) (put_formula r)
        (formula_open_put j k r are_open) g h

  module _ (le : j ≤ k) where
    pub stores_open_more : (st : List Stored) → All (IsOpenStored j) st → All (IsOpenStored k) st
    stores_open_more st h =
        All-weaker (IsOpenStored j) (IsOpenStored k)
        (λ i q. (open_more j k le i.index q.0, formula_open_more j k le i.formula q.1)) st h

    pub works_open_more : (g : List Formula) → All (IsOpenFormula j) g → All (IsOpenFormula k) g
    works_open_more g h =
        All-weaker (IsOpenFormula j) (IsOpenFormula k) (formula_open_more j k le) g h

module _ (levels after : List Level) (r : ℕ → Term)
    (at_levels : (n : ℕ) → n < length levels → IsOpenAt after (level_of levels n) (r n))
    (n : ℕ) where
  pub stores_scoped_put : (st : List Stored) → All (IsScopedStored levels n) st
      → All (IsScopedStored after n) (map (put_stored r) st)
  stores_scoped_put st h =
      all_put (IsScopedStored levels n) (IsScopedStored after n) (put_stored r)
      (λ (i : Stored) q. formula_scoped_put levels after r at_levels n i.formula q) st h

  pub works_scoped_put : (g : List Formula) → All (IsScopedFormula levels n) g
      → All (IsScopedFormula after n) (map (put_formula r) g)
  works_scoped_put g h =
      all_put (IsScopedFormula levels n) (IsScopedFormula after n) (put_formula r)
      (formula_scoped_put levels after r at_levels n) g h

module _ (levels more : List Level) (n : ℕ) where
  pub stores_scoped_more : (st : List Stored) → All (IsScopedStored levels n) st
      → All (IsScopedStored (levels ++ more) n) st
  stores_scoped_more st h =
      All-weaker (IsScopedStored levels n) (IsScopedStored (levels ++ more) n)
      (λ (i : Stored) q. formula_scoped_more levels more n i.formula q) st h

  pub works_scoped_more : (g : List Formula) → All (IsScopedFormula levels n) g
      → All (IsScopedFormula (levels ++ more) n) g
  works_scoped_more g h =
      All-weaker (IsScopedFormula levels n) (IsScopedFormula (levels ++ more) n)
      (formula_scoped_more levels more n) g h

-- what holds of each stored formula holds of the one at a place
pub stored_all : (P : Stored → Type 0) (st : List Stored) (j : ℕ) (i : Stored) → slice_get st j
    ≡ Some i → All P st → P i
stored_all P [] j i e h = absurd (cc)
stored_all P (i' ∷ st) zero i e h = subst P (let same : i' ≡ i = cc in same) (All-head P i' st h)
stored_all P (i' ∷ st) (suc j) i e h = stored_all P st j i e (All-tail P i' st h)

-- the stored formula at a place, with terms for variables
pub stored_at : (s : ℕ → Term) (st : List Stored) (j : ℕ) (i : Stored) → slice_get st j ≡ Some i
    → slice_get (map (put_stored s) st) j ≡ Some (put_stored s i)
stored_at s st j i e = slice_get-map (put_stored s) st j ∙ ap (option_map (put_stored s)) e

-- the terms of a literal in scope have no bound index
module _ (m : ℕ) (levels : List Level) (n : ℕ) where
  mutual
    open_leaf : (t : Term) → Each Always (AnyBound 0) (λ v. v < m) t
        → Each (λ j. j < n) (Tied 0) (λ v. IsAtMost (level_of levels v) (Some n)) t → IsOpen m t
    open_leaf (eigen j) h k = tt
    open_leaf (bound j) h k = absurd (omega (arith, k))
    open_leaf (variable v) h k = h
    open_leaf (app f ts) h k = open_leaves ts h k

    open_leaves : (ts : Args) → EachArg Always (AnyBound 0) (λ v. v < m) ts
        → EachArg (λ j. j < n) (Tied 0) (λ v. IsAtMost (level_of levels v) (Some n)) ts
        → EachArg Always Never (λ v. v < m) ts
    open_leaves no_args h k = tt
    open_leaves (arg t ts) h k = (open_leaf t h.0 k.0, open_leaves ts h.1 k.1)

  pub atom_term_open : (a : Formula) → IsOpenFormula m a → IsScopedFormula levels n a
      → IsOpen m (atom_term a)
  atom_term_open (truth q) h k = tt
  atom_term_open (falsity q) h k = tt
  atom_term_open (atom b f ts) h k = open_leaves ts h k
  atom_term_open (conj q a b) h k = tt
  atom_term_open (disj q a b) h k = tt
  atom_term_open (implies a b) h k = tt
  atom_term_open (for_all a) h k = tt
  atom_term_open (exists a) h k = tt

pub atom_term-put : (s : ℕ → Term) (a : Formula) → atom_term (put_formula s a) ≡ put s (atom_term a)
atom_term-put s (truth q) = refl
atom_term-put s (falsity q) = refl
atom_term-put s (atom b f ts) = refl
atom_term-put s (conj q a b) = refl
atom_term-put s (disj q a b) = refl
atom_term-put s (implies a b) = refl
atom_term-put s (for_all a) = refl
atom_term-put s (exists a) = refl

-- terms for variables change no literal's sign, name and number of arguments
pub literal-put : (s : ℕ → Term) (b : Bool) (f c : ℕ) (a : Formula)
    → is_literal b f c (put_formula s a) ≡ is_literal b f c a
literal-put s true f c (truth q) = refl
literal-put s true f c (falsity q) = refl
literal-put s true f c (atom true g us) = ap (λ m. nat_eq f g && nat_eq c m) (count-put_all s us)
literal-put s true f c (atom false g us) = refl
literal-put s true f c (conj q x y) = refl
literal-put s true f c (disj q x y) = refl
literal-put s true f c (implies x y) = refl
literal-put s true f c (for_all x) = refl
literal-put s true f c (exists x) = refl
literal-put s false f c (truth q) = refl
literal-put s false f c (falsity q) = refl
literal-put s false f c (atom true g us) = refl
literal-put s false f c (atom false g us) = ap (λ m. nat_eq f g && nat_eq c m) (count-put_all s us)
literal-put s false f c (conj q x y) = refl
literal-put s false f c (disj q x y) = refl
literal-put s false f c (implies x y) = refl
literal-put s false f c (for_all x) = refl
literal-put s false f c (exists x) = refl

same_name : (b : Bool) (f g : ℕ) (c : Bool) (us : Args) → (nat_eq f g && c) ≡ true → atom b g us
    ≡ atom b f us
same_name b f g c us e =
    let same : f ≡ g = grind (arith, nat_tests, e) in ap (λ h. atom b h us) (sym same)

pub literal_is : (b : Bool) (f c : ℕ) (a : Formula) → is_literal b f c a ≡ true
    → (us : Args) × (a ≡ atom b f us)
literal_is true f c (truth q) e = absurd (cc)
literal_is true f c (falsity q) e = absurd (cc)
literal_is true f c (atom true g us) e = (us, same_name true f g (nat_eq c (count us)) us e)
literal_is true f c (atom false g us) e = absurd (cc)
literal_is true f c (conj q x y) e = absurd (cc)
literal_is true f c (disj q x y) e = absurd (cc)
literal_is true f c (implies x y) e = absurd (cc)
literal_is true f c (for_all x) e = absurd (cc)
literal_is true f c (exists x) e = absurd (cc)
literal_is false f c (truth q) e = absurd (cc)
literal_is false f c (falsity q) e = absurd (cc)
literal_is false f c (atom true g us) e = absurd (cc)
literal_is false f c (atom false g us) e = (us, same_name false f g (nat_eq c (count us)) us e)
literal_is false f c (conj q x y) e = absurd (cc)
literal_is false f c (disj q x y) e = absurd (cc)
literal_is false f c (implies x y) e = absurd (cc)
literal_is false f c (for_all x) e = absurd (cc)
literal_is false f c (exists x) e = absurd (cc)

-- a term as a literal
abbrev as_literal : Bool → Term → Formula
as_literal b (app f ts) = atom b f ts
as_literal b _ = truth Positive

-- a literal whose atom becomes a term becomes the literal of that term
pub literal_put : (s : ℕ → Term) (b : Bool) (f c : ℕ) (a : Formula) (ts : Args) → is_literal b f c a
    ≡ true
    → put s (atom_term a) ≡ app f ts → put_formula s a ≡ atom b f ts
literal_put s b f c a ts is e =
    let lit = literal_is b f c a is in
    ap (put_formula s) lit.1
    ∙ ap (as_literal b) (sym (ap (λ q. put s (atom_term q)) lit.1) ∙ e)
