-- Goal lists over related sequents are related: stated once for the tables of both logics.
use Rattle.std.proofs.Common.{◌≡◌, ℕ, zero, suc, ◌+◌, Bool, true, false, ◌&&◌, nat_eq, List, [], ◌∷◌, map, replicate, None, Some, refl, ap₂, subst}
use Rattle.fpc_terms.specs.Open.{later}
use Rattle.fpc_terms.specs.Term.{Term}
use Rattle.fpc_terms.specs.Same.{SameTerm, SameArgs, same_eigen, same_variable, same_app, same_no_args, same_arg, SameList, same_nil, same_cons}
use Rattle.polarised_formulas.specs.Formula.{Formula}
use Rattle.polarised_formulas.specs.declared.step.Step.{Step}
use Rattle.polarised_formulas.specs.Same.{SameFormula, same_truth, same_falsity, same_atom, same_conj, same_disj, same_implies, same_for_all, same_exists}
use Rattle.polarised_formulas.specs.Same.{SameStep, same_cut}
use Rattle.clause_language.specs.declared.declaration.DeclaredFormula.{DeclaredFormula}
use Rattle.search_model.specs.Lines.{Line, arguments_from, bare, closed_by, one, raised, two, indexed, witnessed, sided, picked, init_picked, cutting, matched, at_place, closing_at, cut_of, where_so, at_places, atom_term, is_literal}
use Rattle.polarised_formulas.specs.OpenFormula.{put_formula}
use Rattle.search_model.specs.Same.{IsOneToOne, AreRelated, related_nil, related_cons, SameAtom, SameDeclared, SameStored, same_derive, same_pick, same_init_pick, same_cut_item, same_call, same_equate, same_emit, same_item, same_goal_list, SameLine}
use Rattle.search_model.specs.StoredFormulas.{put_stored}
use Rattle.search_model.specs.declared.stored.Stored.{Stored}
use Rattle.search_model.proofs.SameTermParts.{map-same, map-to_related, put-same, later-same, count-same}
use Rattle.search_model.proofs.SameTables.{put_formula-same}

module _ {S : ℕ → ℕ → Type 0} where
  -- stored formulas
  pub put_stored-same : (s r : ℕ → Term) → ((n : ℕ) → SameTerm S (s n) (r n)) → {is js : List Stored} → SameList (SameStored S) is js → SameList (SameStored S) (map (put_stored s) is) (map (put_stored r) js)
  put_stored-same s r h is = map-same (put_stored s) (put_stored r) (λ i j k. record { indexes = put-same s r h k.indexes; formulas = put_formula-same s r h k.formulas }) is

  pub put_formulas-same : (s r : ℕ → Term) → ((n : ℕ) → SameTerm S (s n) (r n)) → {fs gs : List Formula} → SameList (SameFormula S) fs gs → SameList (SameFormula S) (map (put_formula s) fs) (map (put_formula r) gs)
  put_formulas-same s r h fs = map-same (put_formula s) (put_formula r) (λ f g k. put_formula-same s r h k) fs

  arguments-same : (k i m : ℕ) → SameArgs S (arguments_from (later k) i m) (arguments_from (later k) i m)
  arguments-same k i zero = same_no_args
  arguments-same k i (suc m) = same_arg (later-same k i) (arguments-same k (suc i) m)

  -- the term of a literal
  pub atom_term-same : (b : Bool) (f c : ℕ) {d e : Formula} → SameFormula S d e → is_literal b f c d ≡ true → SameTerm S (atom_term d) (atom_term e)
  atom_term-same b f c (same_atom a g ts) h = same_app g ts
  atom_term-same true f c (same_truth p) h = absurd (cc)
  atom_term-same true f c (same_falsity p) h = absurd (cc)
  atom_term-same true f c (same_conj p x y) h = absurd (cc)
  atom_term-same true f c (same_disj p x y) h = absurd (cc)
  atom_term-same true f c (same_implies x y) h = absurd (cc)
  atom_term-same true f c (same_for_all x) h = absurd (cc)
  atom_term-same true f c (same_exists x) h = absurd (cc)
  atom_term-same false f c (same_truth p) h = absurd (cc)
  atom_term-same false f c (same_falsity p) h = absurd (cc)
  atom_term-same false f c (same_conj p x y) h = absurd (cc)
  atom_term-same false f c (same_disj p x y) h = absurd (cc)
  atom_term-same false f c (same_implies x y) h = absurd (cc)
  atom_term-same false f c (same_for_all x) h = absurd (cc)
  atom_term-same false f c (same_exists x) h = absurd (cc)

  module _ (one_to_one : IsOneToOne S) where
    pub literal-same : (b : Bool) {f g c d : ℕ} → S f g → c ≡ d → {x y : Formula} → SameFormula S x y → is_literal b f c x ≡ is_literal b g d y
    literal-same true {f = f} {g = g} h k (same_atom true {f = m} {g = n} i ts) = ap₂ (λ u v. u && v) (one_to_one f m g n h i) (ap₂ (λ u v. nat_eq u v) k (count-same ts))
    literal-same false {f = f} {g = g} h k (same_atom false {f = m} {g = n} i ts) = ap₂ (λ u v. u && v) (one_to_one f m g n h i) (ap₂ (λ u v. nat_eq u v) k (count-same ts))
    literal-same true h k (same_atom false i ts) = refl
    literal-same false h k (same_atom true i ts) = refl
    literal-same true h k (same_truth p) = refl
    literal-same true h k (same_falsity p) = refl
    literal-same true h k (same_conj p x y) = refl
    literal-same true h k (same_disj p x y) = refl
    literal-same true h k (same_implies x y) = refl
    literal-same true h k (same_for_all x) = refl
    literal-same true h k (same_exists x) = refl
    literal-same false h k (same_truth p) = refl
    literal-same false h k (same_falsity p) = refl
    literal-same false h k (same_conj p x y) = refl
    literal-same false h k (same_disj p x y) = refl
    literal-same false h k (same_implies x y) = refl
    literal-same false h k (same_for_all x) = refl
    literal-same false h k (same_exists x) = refl

  -- what is asked of new variables
  asked_one : {f g : ℕ} {x y : Term} → S f g → SameTerm S x y → SameAtom S (record { name = f; arguments = x ∷ [] }) (record { name = g; arguments = y ∷ [] })
  asked_one h x = record { names = h; terms = same_cons x same_nil }

  asked_two : {f g : ℕ} {x y t u : Term} → S f g → SameTerm S x y → SameTerm S t u → SameAtom S (record { name = f; arguments = x ∷ t ∷ [] }) (record { name = g; arguments = y ∷ u ∷ [] })
  asked_two h x t = record { names = h; terms = same_cons x (same_cons t same_nil) }

  asked_three : {f g : ℕ} {x y t u s r : Term} → S f g → SameTerm S x y → SameTerm S t u → SameTerm S s r → SameAtom S (record { name = f; arguments = x ∷ t ∷ s ∷ [] }) (record { name = g; arguments = y ∷ u ∷ r ∷ [] })
  asked_three h x t s = record { names = h; terms = same_cons x (same_cons t (same_cons s same_nil)) }

  module _ {V W : Type 0} {R : V → W → Type 0} where
    -- The lines. Where a sequent is made of a new variable, it stands here as it is made.
    pub bare_same : {d e : Step} → SameStep S d e → SameLine S R (bare d) (bare e)
    bare_same e = same_goal_list (related_cons (same_emit e) related_nil) []

    pub closed_by_same : {f g : ℕ} {x y : Term} {d e : Step} → S f g → SameTerm S x y → SameStep S d e → SameLine S R (closed_by f x d) (closed_by g y e)
    closed_by_same h x e = same_goal_list (related_cons (same_call (asked_one h x)) (related_cons (same_emit e) related_nil)) []

    pub one_same : {f g : ℕ} {x y : Term} {d e : Step} (n k : ℕ) {q : V} {c : W} → S f g → SameTerm S x y → SameStep S d e → R q c → SameLine S R (one f x d n k q) (one g y e n k c)
    one_same n k h x e q =
        same_goal_list (related_cons (same_call (asked_two h x (same_variable k))) (related_cons (same_emit e) (related_cons (same_item (same_derive n (same_variable k) q)) related_nil))) (None ∷ [])

    pub raised_same : {f g : ℕ} {x y : Term} {d e : Step} (n k : ℕ) {q : V} {c : W} → S f g → SameTerm S x y → SameStep S d e → R q c → SameLine S R (raised f x d n k q) (raised g y e n k c)
    raised_same n k h x e q =
        same_goal_list (related_cons (same_call (asked_three h x (same_eigen n) (same_variable k))) (related_cons (same_emit e) (related_cons (same_item (same_derive (suc n) (same_variable k) q)) related_nil))) (None ∷ [])

    pub two_same : {f g : ℕ} {x y : Term} {d e : Step} (n k : ℕ) {q u : V} {c w : W} → S f g → SameTerm S x y → SameStep S d e → R q c → R u w → SameLine S R (two f x d n k q u) (two g y e n k c w)
    two_same n k h x e q u =
        same_goal_list (related_cons (same_call (asked_three h x (same_variable k) (same_variable (k + 1))))
        (related_cons (same_emit e) (related_cons (same_item (same_derive n (same_variable k) q)) (related_cons (same_item (same_derive n (same_variable (k + 1)) u)) related_nil)))) (None ∷ None ∷ [])

    pub indexed_same : {f g : ℕ} {x y : Term} {d e : Step} (n k : ℕ) {q : V} {c : W} → S f g → SameTerm S x y → SameStep S d e → R q c → SameLine S R (indexed f x d n k (λ l. q)) (indexed g y e n k (λ l. c))
    indexed_same n k h x e q =
        same_goal_list (related_cons (same_call (asked_three h x (same_variable k) (same_variable (k + 1)))) (related_cons (same_emit e) (related_cons (same_item (same_derive n (same_variable k) q)) related_nil))) (None ∷ None ∷ [])

    pub witnessed_same : {f g : ℕ} {x y : Term} {d e : Step} (n k : ℕ) {q : V} {c : W} → S f g → SameTerm S x y → SameStep S d e → R q c
        → SameLine S R (witnessed f x (λ t. d) n k (λ t. q)) (witnessed g y (λ t. e) n k (λ t. c))
    witnessed_same n k h x e q =
        same_goal_list (related_cons (same_call (asked_three h x (same_variable k) (same_variable (k + 1)))) (related_cons (same_emit e) (related_cons (same_item (same_derive n (same_variable k) q)) related_nil))) (None ∷ Some n ∷ [])

    pub sided_same : {f g : ℕ} {x y : Term} {l r : ℕ} {d e : Step} (n k : ℕ) {q : V} {c : W} → S f g → SameTerm S x y → S l r → SameStep S d e → R q c → SameLine S R (sided f x l d n k q) (sided g y r e n k c)
    sided_same n k h x s e q =
        same_goal_list (related_cons (same_call (asked_three h x (same_variable k) (same_variable (k + 1)))) (related_cons (same_equate (same_variable (k + 1)) (same_app s same_no_args))
        (related_cons (same_emit e) (related_cons (same_item (same_derive n (same_variable k) q)) related_nil)))) (None ∷ None ∷ [])

    pub picked_same : {f g : ℕ} {x y : Term} (n k : ℕ) {q : V} {c : W} → S f g → SameTerm S x y → R q c → SameLine S R (picked f x n k q) (picked g y n k c)
    picked_same n k h x q =
        same_goal_list (related_cons (same_call (asked_three h x (same_variable k) (same_variable (k + 1)))) (related_cons (same_item (same_pick n (same_variable k) (same_variable (k + 1)) q)) related_nil)) (None ∷ None ∷ [])

    pub init_picked_same : {f g : ℕ} {x y : Term} (n k : ℕ) {q : V} {c : W} → S f g → SameTerm S x y → R q c → SameLine S R (init_picked f x n k q) (init_picked g y n k c)
    init_picked_same n k h x q = same_goal_list (related_cons (same_call (asked_two h x (same_variable k))) (related_cons (same_item (same_init_pick n (same_variable k) q)) related_nil)) (None ∷ [])

    pub cutting_same : {f g : ℕ} {x y : Term} (n k : ℕ) {q : V} {c : W} → S f g → SameTerm S x y → R q c → SameLine S R (cutting f x n k q) (cutting g y n k c)
    cutting_same n k h x q =
        same_goal_list
        (related_cons (same_call (record { names = h; terms = same_cons x (same_cons (same_variable k) (same_cons (same_variable (k + 1)) (same_cons (same_variable (k + 2)) same_nil))) }))
        (related_cons (same_item (same_cut_item n (same_variable k) (same_variable (k + 1)) (same_variable (k + 2)) q)) related_nil)) (None ∷ None ∷ None ∷ [])

    pub matched_same : {f g : ℕ} {x y a b t u : Term} {d e : Step} → S f g → SameTerm S x y → SameStep S d e → SameTerm S a t → SameTerm S b u → SameLine S R (matched f x d a b) (matched g y e t u)
    matched_same h x e a b = same_goal_list (related_cons (same_call (asked_one h x)) (related_cons (same_equate a b) (related_cons (same_emit e) related_nil))) []

    pub at_place_same : {x y l m t u : Term} {d e : Step} (n : ℕ) {q : V} {c : W} → SameTerm S x y → SameTerm S l m → SameTerm S t u → SameStep S d e → R q c → SameLine S R (at_place x l t d n q) (at_place y m u e n c)
    at_place_same n x l t e q = same_goal_list (related_cons (same_equate l t) (related_cons (same_emit e) (related_cons (same_item (same_derive n x q)) related_nil))) []

    pub closing_at_same : {l m t u a b v w : Term} {d e : Step} → SameTerm S l m → SameTerm S t u → SameTerm S a v → SameTerm S b w → SameStep S d e → SameLine S R (closing_at l t a b d) (closing_at m u v w e)
    closing_at_same l t a b e = same_goal_list (related_cons (same_equate l t) (related_cons (same_equate a b) (related_cons (same_emit e) related_nil))) []

    -- a line under a condition
    pub so_same : (b c : Bool) {e : Line V} {d : Line W} {es : List (Line V)} {ds : List (Line W)} → b ≡ c → (b ≡ true → SameLine S R e d) → AreRelated (SameLine S R) es ds
        → AreRelated (SameLine S R) (where_so b e es) (where_so c d ds)
    so_same true true h e es = related_cons (e refl) es
    so_same false false h e es = es
    so_same true false h e es = absurd (cc)
    so_same false true h e es = absurd (cc)

    -- a line for each place
    pub places_same : (test tests : Formula → Bool) (make : ℕ → Stored → Line V) (made : ℕ → Stored → Line W) → ((f g : Formula) → SameFormula S f g → test f ≡ tests g)
        → ((m : ℕ) (i j : Stored) → SameStored S i j → test i.formula ≡ true → SameLine S R (make m i) (made m j))
        → (m : ℕ) {is js : List Stored} → SameList (SameStored S) is js → AreRelated (SameLine S R) (at_places test make m is) (at_places tests made m js)
    places_same test tests make made h k m same_nil = related_nil
    places_same test tests make made h k m (same_cons {x = i} {y = j} s ss) =
        so_same (test i.formula) (tests j.formula) (h i.formula j.formula s.formulas) (λ e. k m i j s e) (places_same test tests make made h k (suc m) ss)

    -- declared formulas are cut
    module _ (n k : ℕ) {x y z w b d : Term} (xs : SameTerm S x y) (zs : SameTerm S z w) (bs : SameTerm S b d) (q u : Formula → V) (c v : Formula → W)
        (qs : (f g : Formula) → SameFormula S f g → R (q f) (c g)) (us : (f g : Formula) → SameFormula S f g → R (u f) (v g)) where
      cut_same : (i j : DeclaredFormula) → SameDeclared S i j → SameLine S R (cut_of x z b n k q u i) (cut_of y w d n k c v j)
      cut_same i j h =
          let f = put_formula-same (later k) (later k) (later-same k) h.formulas in
          subst (λ m. SameLine S R (cut_of x z b n k q u i) (cut_of y w d n k c v (record { name = j.name; parameters = m; formula = j.formula }))) h.as_many
          (same_goal_list (related_cons (same_equate bs (same_app h.names (arguments-same k 0 i.parameters))) (related_cons (same_emit (same_cut f))
          (related_cons (same_item (same_derive n xs (qs (put_formula (later k) i.formula) (put_formula (later k) j.formula) f)))
          (related_cons (same_item (same_derive n zs (us (put_formula (later k) i.formula) (put_formula (later k) j.formula) f))) related_nil)))) (replicate i.parameters (Some n)))

      pub cuts_same : {is js : List DeclaredFormula} → SameList (SameDeclared S) is js → AreRelated (SameLine S R) (map (cut_of x z b n k q u) is) (map (cut_of y w d n k c v) js)
      cuts_same hs = map-to_related (cut_of x z b n k q u) (cut_of y w d n k c v) cut_same hs
