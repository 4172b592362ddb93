-- A goal list with terms for variables is one of the same kind: stated once for both logics.
use Rattle.std.proofs.Common.{◌+◌, ◌<◌, ◌∙◌, ◌∷◌, ◌≡◌, ℕ, zero, suc, Bool, true, false, List, []}
use Rattle.std.proofs.Common.{map, replicate, None, Some, refl, ap, ap₂, sym, subst, arith}
use Rattle.std.specs.List.{All}
use Rattle.std.proofs.lemmas.List.Elements.{All-head, All-tail}
use mathlib.Core.Path.{fun_ext}
use Rattle.fpc_terms.specs.Term.{Term, Args, eigen, variable, app, no_args, arg, put, put_all, Each}
use Rattle.fpc_terms.specs.Term.{Never, Always}
use Rattle.fpc_terms.specs.Open.{IsOpen, Level, later}
use Rattle.fpc_terms.proofs.PutFacts.{put_agrees, each_more}
use Rattle.polarised_formulas.specs.Formula.{Formula, open_at, EachInside}
use Rattle.polarised_formulas.specs.declared.step.Step.{Step}
use Rattle.polarised_formulas.specs.declared.step.Step.TheVariants.{Cut}
use Rattle.clause_language.specs.declared.declaration.DeclaredFormula.{DeclaredFormula}
use Rattle.polarised_formulas.specs.OpenFormula.{put_formula, put_step, AnyBound, IsOpenFormula}
use Rattle.search_model.specs.Search.{SearchCalculus, Goal, call, equate, emit, item}
use Rattle.search_model.specs.Lawful.{both, put_list}
use Rattle.search_model.specs.Table.{ItemOn, derive, pick, init_pick, cut, Table, calculus_of}
use Rattle.search_model.specs.Table.{AreSequents}
use Rattle.search_model.specs.StoredFormulas.{put_stored, IsOpenStored}
use Rattle.search_model.specs.Lines.{Line, atom_of, arguments_from, closed_by, one, raised, two}
use Rattle.search_model.specs.Lines.{indexed, witnessed, sided, picked, init_picked, cutting}
use Rattle.search_model.specs.Lines.{matched, at_place, closing_at, cut_of, where_so, at_places}
use Rattle.search_model.specs.declared.stored.Stored.{Stored}
use Rattle.polarised_formulas.proofs.OpenFormulaFacts.{formula-put, formula_agrees}
use Rattle.search_model.proofs.ClosingFacts.{both_below, both_later}
use Rattle.search_model.proofs.SequentParts.{work_agrees}
use Rattle.polarised_formulas.proofs.OpenedPutFacts.{put-open_at}

-- goal lists of equal parts
module _ {S : Type 0} where
  abbrev asked : (f : ℕ) (ts : List Term) (new : List Level) → List (Goal (ItemOn S) Step) → Line S
  asked f ts new goals = record { goals = call (atom_of f ts) ∷ goals; new = new }

  one_is : (f n : ℕ) {t t' u u' : Term} {e e' : Step} {q q' : S} → t ≡ t' → u ≡ u' → e ≡ e' → q ≡ q'
      → asked f (t ∷ u ∷ []) (None ∷ []) (emit e ∷ item (derive u n q) ∷ [])
      ≡ asked f (t' ∷ u' ∷ []) (None ∷ []) (emit e' ∷ item (derive u' n q') ∷ [])
  one_is f n a b c d = rw (a, b, c, d) refl

  raised_is : (f n : ℕ) {t t' u u' : Term} {e e' : Step} {q q' : S} → t ≡ t' → u ≡ u' → e ≡ e' → q
      ≡ q'
      → asked f (t ∷ eigen n ∷ u ∷ []) (None ∷ []) (emit e ∷ item (derive u (suc n) q) ∷ [])
      ≡ asked f (t' ∷ eigen n ∷ u' ∷ []) (None ∷ []) (emit e' ∷ item (derive u' (suc n) q') ∷ [])
  raised_is f n a b c d = rw (a, b, c, d) refl

  two_is : (f n : ℕ) {t t' u u' v v' : Term} {e e' : Step} {q q' c c' : S} → t ≡ t' → u ≡ u' → v
      ≡ v'
      → e ≡ e' → q ≡ q' → c ≡ c'
      → asked f (t ∷ u ∷ v ∷ []) (None ∷ None ∷ [])
      (emit e ∷ item (derive u n q) ∷ item (derive v n c) ∷ [])
      ≡ asked f (t' ∷ u' ∷ v' ∷ []) (None ∷ None ∷ [])
      (emit e' ∷ item (derive u' n q') ∷ item (derive v' n c') ∷ [])
  two_is f n a b c d g h = rw (a, b, c, d, g, h) refl

  second_is : (f n : ℕ) (new : List Level) {t t' u u' v v' : Term} {e e' : Step} {q q' : S} → t ≡ t'
      → u ≡ u'
      → v ≡ v' → e ≡ e' → q ≡ q'
      → asked f (t ∷ u ∷ v ∷ []) new (emit e ∷ item (derive u n q) ∷ [])
      ≡ asked f (t' ∷ u' ∷ v' ∷ []) new (emit e' ∷ item (derive u' n q') ∷ [])
  second_is f n new a b c d g = rw (a, b, c, d, g) refl

  sided_is : (f side n : ℕ) {t t' u u' v v' : Term} {e e' : Step} {q q' : S} → t ≡ t' → u ≡ u' → v
      ≡ v'
      → e ≡ e' → q ≡ q'
      → asked f (t ∷ u ∷ v ∷ []) (None ∷ None ∷ [])
      (equate v (app side no_args) ∷ emit e ∷ item (derive u n q) ∷ [])
      ≡ asked f (t' ∷ u' ∷ v' ∷ []) (None ∷ None ∷ [])
      (equate v' (app side no_args) ∷ emit e' ∷ item (derive u' n q') ∷ [])
  sided_is f side n a b c d g = rw (a, b, c, d, g) refl

  picked_is : (f n : ℕ) {t t' u u' v v' : Term} {q q' : S} → t ≡ t' → u ≡ u' → v ≡ v' → q ≡ q'
      → asked f (t ∷ u ∷ v ∷ []) (None ∷ None ∷ []) (item (pick u n v q) ∷ [])
      ≡ asked f (t' ∷ u' ∷ v' ∷ []) (None ∷ None ∷ []) (item (pick u' n v' q') ∷ [])
  picked_is f n a b c d = rw (a, b, c, d) refl

  init_is : (f n : ℕ) {t t' u u' : Term} {q q' : S} → t ≡ t' → u ≡ u' → q ≡ q'
      → asked f (t ∷ u ∷ []) (None ∷ []) (item (init_pick n u q) ∷ [])
      ≡ asked f (t' ∷ u' ∷ []) (None ∷ []) (item (init_pick n u' q') ∷ [])
  init_is f n a b c = rw (a, b, c) refl

  cutting_is : (f n : ℕ) {t t' u u' v v' b b' : Term} {q q' : S} → t ≡ t' → u ≡ u' → v ≡ v' → b ≡ b'
      → q ≡ q'
      → asked f (t ∷ u ∷ v ∷ b ∷ []) (None ∷ None ∷ None ∷ []) (item (cut u v n b q) ∷ [])
      ≡ asked f (t' ∷ u' ∷ v' ∷ b' ∷ []) (None ∷ None ∷ None ∷ []) (item (cut u' v' n b' q') ∷ [])
  cutting_is f n h i c d g = rw (h, i, c, d, g) refl

  matched_is : (f : ℕ) {t t' a a' b b' : Term} {e e' : Step} → t ≡ t' → a ≡ a' → b ≡ b' → e ≡ e'
      → matched {S = S} f t e a b ≡ matched f t' e' a' b'
  matched_is f h i c d = rw (h, i, c, d) refl

  closed_is : (f : ℕ) {t t' : Term} {e e' : Step} → t ≡ t' → e ≡ e' → closed_by {S = S} f t e
      ≡ closed_by f t' e'
  closed_is f h i = rw (h, i) refl

  place_is : (n : ℕ) {x x' l l' t t' : Term} {e e' : Step} {q q' : S} → x ≡ x' → l ≡ l' → t ≡ t' → e
      ≡ e'
      → q ≡ q' → at_place x l t e n q ≡ at_place x' l' t' e' n q'
  place_is n a b c d g = rw (a, b, c, d, g) refl

  closing_is : {l l' t t' a a' b b' : Term} {e e' : Step} → l ≡ l' → t ≡ t' → a ≡ a' → b ≡ b' → e
      ≡ e'
      → closing_at {S = S} l t a b e ≡ closing_at l' t' a' b' e'
  closing_is h i c d g = rw (h, i, c, d, g) refl

  abbrev cut_line : DeclaredFormula → ℕ → (t u v : Term) (ts : Args) (g : Formula) (q c : S)
      → Line S
  cut_line d n t u v ts g q c = record {
    goals =
        equate v (app d.name ts) ∷ emit (Cut g) ∷ item (derive t n q) ∷ item (derive u n c) ∷ [];
    new = replicate d.parameters (Some n);
  }

  cut_is : (d : DeclaredFormula) (n : ℕ) {t t' u u' v v' : Term} {ts ts' : Args} {g g' : Formula}
      {q q' c c' : S}
      → t ≡ t' → u ≡ u' → v ≡ v' → ts ≡ ts' → g ≡ g' → q ≡ q' → c ≡ c'
      → cut_line d n t u v ts g q c ≡ cut_line d n t' u' v' ts' g' q' c'
  cut_is d n a b h i e f g = rw (a, b, h, i, e, f, g) refl

module _ (T : Table) (laws : AreSequents T) (j k : ℕ) (r : ℕ → Term)
    (are_open : (n : ℕ) → n < j → IsOpen k (r n)) where
  abbrev C : SearchCalculus
  C = calculus_of T

  -- the terms for the variables so far, and the new variables for the new ones
  abbrev pub w : ℕ → Term
  w = both j r (later k)

  pub w_old : (n : ℕ) → n < j → r n ≡ w n
  w_old n h = both_below j r (later k) n h

  pub w_new : (i : ℕ) → variable (k + i) ≡ w (j + i)
  w_new i = sym (both_later j r (later k) i)

  w_first : variable k ≡ w j
  w_first =
      let e : j + 0 ≡ j = omega arith in
      let f : k + 0 ≡ k = omega arith in
      ap variable (sym f) ∙ w_new 0 ∙ ap w e

  abbrev pub on : List (Line T.SequentOf) → List (Line T.SequentOf)
  on es = map (put_list C w) es

  term_is : (t : Term) → IsOpen j t → put r t ≡ put w t
  term_is t h = put_agrees Always Never (λ n. n < j) r w w_old t h

  pub formula_is : (f : Formula) → IsOpenFormula j f → put_formula r f ≡ put_formula w f
  formula_is f h = work_agrees j r w w_old f h

  pub sequent_is : (q : T.SequentOf) → T.IsOpenSequent j q → T.put_sequent r q ≡ T.put_sequent w q
  sequent_is q h = laws.sequent_agrees j r w w_old q h

  pub opened_is : (t : Term) (a : Formula) → EachInside Always AnyBound (λ n. n < j) 1 a
      → open_at 0 (put w t) (put_formula r a) ≡ put_formula w (open_at 0 t a)
  opened_is t a h =
      ap (open_at 0 (put w t)) (formula_agrees Always AnyBound (λ n. n < j) r w w_old 1 a h)
      ∙ sym (put-open_at Always AnyBound (λ n. n < j) w unbound t 1 0 a h)
    where
      unbound : (n : ℕ) → n < j → Each Always Never Always (w n)
      unbound n l =
          subst (Each Always Never Always) (w_old n l)
          (each_more Always Never (λ m. m < k) Always Never Always (λ m a. a) (λ m a. a) (λ m a. tt)
          (r n) (are_open n l))

  module _ (x : Term) (x_open : IsOpen j x) (n : ℕ) where
    abbrev x' : Term
    x' = put r x

    pub closed_by_natural : (f : ℕ) (e : Step) → e ≡ put_step w e → closed_by f x' e
        ≡ put_list C w (closed_by f x e)
    closed_by_natural f e se = closed_is f (term_is x x_open) se

    pub one_natural : (f : ℕ) (e : Step) (q' q : T.SequentOf) → e ≡ put_step w e → q'
        ≡ T.put_sequent w q
        → one f x' e n k q' ≡ put_list C w (one f x e n j q)
    one_natural f e q' q se sq = one_is f n (term_is x x_open) w_first se sq

    pub raised_natural : (f : ℕ) (e : Step) (q' q : T.SequentOf) → e ≡ put_step w e → q'
        ≡ T.put_sequent w q
        → raised f x' e n k q' ≡ put_list C w (raised f x e n j q)
    raised_natural f e q' q se sq = raised_is f n (term_is x x_open) w_first se sq

    pub two_natural : (f : ℕ) (e : Step) (q' q c' c : T.SequentOf) → e ≡ put_step w e → q'
        ≡ T.put_sequent w q
        → c' ≡ T.put_sequent w c → two f x' e n k q' c' ≡ put_list C w (two f x e n j q c)
    two_natural f e q' q c' c se sq sc = two_is f n (term_is x x_open) w_first (w_new 1) se sq sc

    pub indexed_natural : (f : ℕ) (e : Step) (q' q : Term → T.SequentOf) → e ≡ put_step w e
        → q' (variable (k + 1)) ≡ T.put_sequent w (q (variable (j + 1)))
        → indexed f x' e n k q' ≡ put_list C w (indexed f x e n j q)
    indexed_natural f e q' q se sq =
        second_is f n (None ∷ None ∷ []) (term_is x x_open) w_first (w_new 1) se sq

    pub witnessed_natural : (f : ℕ) (e : Term → Step) (q' q : Term → T.SequentOf)
        → e (variable (k + 1)) ≡ put_step w (e (variable (j + 1)))
        → q' (variable (k + 1)) ≡ T.put_sequent w (q (variable (j + 1)))
        → witnessed f x' e n k q' ≡ put_list C w (witnessed f x e n j q)
    witnessed_natural f e q' q se sq =
        second_is f n (None ∷ Some n ∷ []) (term_is x x_open) w_first (w_new 1) se sq

    pub sided_natural : (f side : ℕ) (e : Step) (q' q : T.SequentOf) → e ≡ put_step w e → q'
        ≡ T.put_sequent w q
        → sided f x' side e n k q' ≡ put_list C w (sided f x side e n j q)
    sided_natural f side e q' q se sq = sided_is f side n (term_is x x_open) w_first (w_new 1) se sq

    pub picked_natural : (f : ℕ) (q' q : T.SequentOf) → q' ≡ T.put_sequent w q
        → picked f x' n k q' ≡ put_list C w (picked f x n j q)
    picked_natural f q' q sq = picked_is f n (term_is x x_open) w_first (w_new 1) sq

    pub init_picked_natural : (f : ℕ) (q' q : T.SequentOf) → q' ≡ T.put_sequent w q
        → init_picked f x' n k q' ≡ put_list C w (init_picked f x n j q)
    init_picked_natural f q' q sq = init_is f n (term_is x x_open) w_first sq

    pub cutting_natural : (f : ℕ) (q' q : T.SequentOf) → q' ≡ T.put_sequent w q
        → cutting f x' n k q' ≡ put_list C w (cutting f x n j q)
    cutting_natural f q' q sq = cutting_is f n (term_is x x_open) w_first (w_new 1) (w_new 2) sq

    pub matched_natural : (f : ℕ) (e : Step) (a' a b' b : Term) → e ≡ put_step w e → a' ≡ put w a
        → b' ≡ put w b
        → matched f x' e a' b' ≡ put_list C w (matched f x e a b)
    matched_natural f e a' a b' b se sa sb = matched_is f (term_is x x_open) sa sb se

    pub place_natural : (l t : Term) (e : Step) (q' q : T.SequentOf) → IsOpen j l → IsOpen j t → e
        ≡ put_step w e
        → q' ≡ T.put_sequent w q → at_place x' (put r l) (put r t) e n q'
        ≡ put_list C w (at_place x l t e n q)
    place_natural l t e q' q hl ht se sq =
        place_is n (term_is x x_open) (term_is l hl) (term_is t ht) se sq

  pub closing_natural : (l t : Term) (e : Step) (a' a b' b : Term) → IsOpen j l → IsOpen j t → e
      ≡ put_step w e
      → a' ≡ put w a → b' ≡ put w b → closing_at (put r l) (put r t) a' b' e
      ≡ put_list C w (closing_at l t a b e)
  closing_natural l t e a' a b' b hl ht se sa sb = closing_is (term_is l hl) (term_is t ht) sa sb se

  where_so_natural : (c' c : Bool) (e' e : Line T.SequentOf) (es' es : List (Line T.SequentOf)) → c'
      ≡ c
      → e' ≡ put_list C w e → es' ≡ on es → where_so c' e' es' ≡ on (where_so c e es)
  where_so_natural c' true e' e es' es sc se ses = rw (sc, se, ses) refl
  where_so_natural c' false e' e es' es sc se ses = rw (sc, ses) refl

  -- a goal list for each place
  pub places_natural : (test' test : Formula → Bool) (make' make : ℕ → Stored → Line T.SequentOf)
      → ((f : Formula) → test' (put_formula r f) ≡ test f)
      → ((m : ℕ) (i : Stored) → IsOpenStored j i → make' m (put_stored r i)
      ≡ put_list C w (make m i))
      → (m : ℕ) (is : List Stored) → All (IsOpenStored j) is
      → at_places test' make' m (map (put_stored r) is) ≡ on (at_places test make m is)
  places_natural test' test make' make tests makes m [] h = refl
  places_natural test' test make' make tests makes m (i ∷ is) h =
      where_so_natural (test' (put_formula r i.formula)) (test i.formula) (make' m (put_stored r i))
      (make m i)
      (at_places test' make' (suc m) (map (put_stored r) is)) (at_places test make (suc m) is)
      (tests i.formula)
      (makes m i (All-head (IsOpenStored j) i is h))
      (places_natural test' test make' make tests makes (suc m) is
      (All-tail (IsOpenStored j) i is h))

  -- a declared formula with new parameters
  parameters_are : (m i : ℕ) → arguments_from (later k) i m
      ≡ put_all w (arguments_from (later j) i m)
  parameters_are zero i = refl
  parameters_are (suc m) i = ap₂ arg (w_new i) (parameters_are m (suc i))

  declared_is : (f : Formula) → put_formula (later k) f ≡ put_formula w (put_formula (later j) f)
  declared_is f = ap (λ s. put_formula s f) (fun_ext w_new) ∙ sym (formula-put w (later j) f)

  module _ (x y b : Term) (x_open : IsOpen j x) (y_open : IsOpen j y) (b_open : IsOpen j b) (n : ℕ)
      (q' q c' c : Formula → T.SequentOf)
      (sq : (f : Formula) → q' (put_formula w f) ≡ T.put_sequent w (q f))
      (sc : (f : Formula) → c' (put_formula w f) ≡ T.put_sequent w (c f)) where
    cut_natural : (d : DeclaredFormula)
        → cut_of (put r x) (put r y) (put r b) n k q' c' d ≡ put_list C w (cut_of x y b n j q c d)
    cut_natural d =
        let f = put_formula (later j) d.formula in
        let f_is = declared_is d.formula in
        cut_is d n (term_is x x_open) (term_is y y_open) (term_is b b_open)
        (parameters_are d.parameters 0) f_is
        (ap q' f_is ∙ sq f) (ap c' f_is ∙ sc f)

    pub cuts_natural : (ds : List DeclaredFormula)
        → map (cut_of (put r x) (put r y) (put r b) n k q' c') ds
        ≡ on (map (cut_of x y b n j q c) ds)
    cuts_natural [] = refl
    cuts_natural (d ∷ ds) = ap₂ (λ e es. e ∷ es) (cut_natural d) (cuts_natural ds)
