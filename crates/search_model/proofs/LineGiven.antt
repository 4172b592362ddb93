-- A completion of an item without variables is given by a goal list: stated once for both logics.
use Rattle.std.proofs.Common.{if◌then◌else◌, ◌++◌, ◌+◌, ◌<◌, ◌∙◌, ◌∷◌, ◌≡◌, ◌≤◌, ℕ, zero, suc, Bool}
use Rattle.std.proofs.Common.{true, false, nat_lt, List, [], map, replicate, None, Some, slice_get}
use Rattle.std.proofs.Common.{Contains, refl, ap, ap₂, sym, subst, arith, append-nil, ⊎_elim}
use Rattle.std.proofs.lemmas.Bool.{cases_lt, cond-true, cond-false, lt-ltb, le-ltb}
use Rattle.std.proofs.lemmas.List.{length-replicate, get_or_past, get_or-replicate}
use Rattle.std.proofs.lemmas.List.Elements.{All-head, All-tail}
use Rattle.fpc_terms.specs.Term.{Term, eigen, variable, app, no_args, arg, put, put_all, Never}
use Rattle.fpc_terms.specs.Term.{Always, InScope}
use Rattle.fpc_terms.specs.Open.{IsGround, IsOpen, Level, level_of, IsScopedAt, IsClosing, later}
use Rattle.fpc_terms.proofs.PutFacts.{each_more}
use Rattle.polarised_formulas.specs.Formula.{Formula, EachInside, Tied}
use Rattle.polarised_formulas.specs.declared.step.Step.{Step}
use Rattle.polarised_formulas.specs.declared.step.Step.TheVariants.{Cut}
use Rattle.clause_language.specs.declared.clause.Clause.{Clause}
use Rattle.clause_language.specs.declared.declaration.DeclaredFormula.{DeclaredFormula}
use Rattle.clause_language.specs.LeastModel.{Holds, AreOpenClauses}
use Rattle.clause_language.proofs.LeastModelFacts.{holds_ground}
use Rattle.polarised_formulas.specs.OpenFormula.{put_formula, put_step}
use Rattle.search_model.specs.Search.{SearchCalculus, Goal, emit, item}
use Rattle.search_model.specs.Lawful.{Spelled}
use Rattle.search_model.specs.Table.{ItemOn, derive, pick, init_pick, cut, Table, calculus_of}
use Rattle.search_model.specs.Table.{AreSequents}
use Rattle.search_model.specs.Lines.{Line, atom_of, arguments_from, bare, closed_by, one, raised}
use Rattle.search_model.specs.Lines.{two, indexed, witnessed, sided, picked, init_picked, cutting}
use Rattle.search_model.specs.Lines.{matched, at_place, closing_at, cut_of, where_so, at_places}
use Rattle.search_model.specs.declared.stored.Stored.{Stored}
use Rattle.polarised_formulas.proofs.OpenFormulaFacts.{formula-put, formula_agrees}
use Rattle.search_model.proofs.TableFacts.{sequent_closed}
use Rattle.search_model.proofs.NaturalFacts.{IsGiven}
use Rattle.search_model.proofs.ClosedFacts.{closed_term}

here : {X : Type 0} → (x : X) (xs : List X) → Contains (x ∷ xs) x
here x xs = (0, omega arith, refl)

there : {X : Type 0} → (y : X) (xs : List X) (x : X) → Contains xs x → Contains (y ∷ xs) x
there y xs x c = (suc c.0, omega (arith, c.1), c.2)

contains_map : {X Y : Type 0} (f : X → Y) (xs : List X) (x : X) → Contains xs x
    → Contains (map f xs) (f x)
contains_map f [] x (k, lt, is) = absurd (omega (arith, lt))
contains_map f (y ∷ ys) x (zero, lt, is) = (0, omega arith, ap f is)
contains_map f (y ∷ ys) x (suc k, lt, is) =
    there (f y) (map f ys) (f x) (contains_map f ys x (k, omega (arith, lt), is))

-- a goal list under a condition, and the one for a place
so_here : {S : Type 0} → (c : Bool) (e : Line S) (es : List (Line S)) → c ≡ true
    → Contains (where_so c e es) e
so_here true e es h = here e es
so_here false e es h = absurd (cc)

so_there : {S : Type 0} → (c : Bool) (e : Line S) (es : List (Line S)) (x : Line S) → Contains es x
    → Contains (where_so c e es) x
so_there true e es x h = there e es x h
so_there false e es x h = h

module _ {S : Type 0} (test : Formula → Bool) (make : ℕ → Stored → Line S) where
  places_have : (j : ℕ) (is : List Stored) (m : ℕ) (i : Stored) → slice_get is m ≡ Some i
      → test i.formula ≡ true
      → Contains (at_places test make j is) (make (j + m) i)
  places_have j [] m i e h = absurd (cc)
  places_have j (i' ∷ is) zero i e h =
      let same : i' ≡ i = cc in
      let at : j + 0 ≡ j = omega arith in
      subst (λ q. Contains (at_places test make j (i' ∷ is)) (make q i)) (sym at)
      (subst (λ q. Contains (at_places test make j (i' ∷ is)) (make j q)) same
      (so_here (test i'.formula) (make j i') (at_places test make (suc j) is)
      (ap (λ (q : Stored). test q.formula) same ∙ h)))
  places_have j (i' ∷ is) (suc m) i e h =
      let at : suc j + m ≡ j + suc m = omega arith in
      so_there (test i'.formula) (make j i') (at_places test make (suc j) is) (make (j + suc m) i)
      (subst (λ q. Contains (at_places test make (suc j) is) (make q i)) at
      (places_have (suc j) is m i e h))

  pub has_place : (st : List Stored) (m : ℕ) (i : Stored) → slice_get st m ≡ Some i → test i.formula
      ≡ true
      → Contains (at_places test make 0 st) (make m i)
  has_place st m i e h =
      let at : 0 + m ≡ m = omega arith in
      subst (λ q. Contains (at_places test make 0 st) (make q i)) at (places_have 0 st m i e h)

-- terms for new variables
abbrev nothing : Term
nothing = app 0 no_args

abbrev from_list : List Term → ℕ → Term
from_list [] n = nothing
from_list (t ∷ ts) zero = t
from_list (t ∷ ts) (suc n) = from_list ts n

abbrev Fits : List Level → List Term → Type 0
Fits [] [] = Unit {0}
Fits (l ∷ ls) (t ∷ ts) = IsGround t × IsScopedAt l t × Fits ls ts
Fits _ _ = ⊥

fits_closing : (ls : List Level) (ts : List Term) → Fits ls ts → IsClosing ls (from_list ts)
fits_closing ls ts h = record { ground = ground_at ls ts h; in_scope = scope_at ls ts h }
  where
    ground_at : (ls : List Level) (ts : List Term) → Fits ls ts → (n : ℕ)
        → IsGround (from_list ts n)
    ground_at ls [] h n = tt
    ground_at [] (t ∷ ts) h n = absurd h
    ground_at (l ∷ ls) (t ∷ ts) h zero = h.0
    ground_at (l ∷ ls) (t ∷ ts) h (suc n) = ground_at ls ts h.2 n

    scope_at : (ls : List Level) (ts : List Term) → Fits ls ts → (n : ℕ)
        → IsScopedAt (level_of ls n) (from_list ts n)
    scope_at [] [] h n = tt
    scope_at [] (t ∷ ts) h n = absurd h
    scope_at (l ∷ ls) [] h n = absurd h
    scope_at (l ∷ ls) (t ∷ ts) h zero = h.1
    scope_at (l ∷ ls) (t ∷ ts) h (suc n) = scope_at ls ts h.2 n

-- terms in scope for parameters, and a constant after them
module _ (d : DeclaredFormula) (n : ℕ) (ts : ℕ → Term)
    (scope : (i : ℕ) → i < d.parameters → InScope n (ts i)) where
  abbrev params : ℕ → Term
  params i = if nat_lt i d.parameters then ts i else nothing

  params_are : (i : ℕ) → i < d.parameters → ts i ≡ params i
  params_are i l = sym (cond-true (nat_lt i d.parameters) (ts i) nothing (lt-ltb i d.parameters l))

  params_closing : IsClosing (replicate d.parameters (Some n)) params
  params_closing =
      record {
        ground = ground_at;
        in_scope = λ i. ⊎_elim (within i) (past i)
            (cases_lt i d.parameters);
      }
    where
      ground_at : (i : ℕ) → IsGround (params i)
      ground_at i =
          ⊎_elim
          (λ l. subst IsGround (params_are i l)
          (each_more (λ m. m < n) Never Never Always Never Never (λ m q. tt) (λ m q. q) (λ m q. q)
          (ts i) (scope i l)))
          (λ l. subst IsGround
          (sym (cond-false (nat_lt i d.parameters) (ts i) nothing (le-ltb i d.parameters l))) tt)
          (cases_lt i d.parameters)

      within : (i : ℕ) → i < d.parameters
          → IsScopedAt (level_of (replicate d.parameters (Some n)) i) (params i)
      within i l =
          subst (λ a. IsScopedAt a (params i))
          (sym (get_or-replicate d.parameters i (Some n) None l))
          (subst (InScope n) (params_are i l) (scope i l))

      past : (i : ℕ) → d.parameters ≤ i
          → IsScopedAt (level_of (replicate d.parameters (Some n)) i) (params i)
      past i l =
          subst (λ a. IsScopedAt a (params i))
          (sym (get_or_past (replicate d.parameters (Some n)) i None
          (omega (arith, l, length-replicate {A = Level} d.parameters (Some n)))))
          tt

  arguments_are : (c i : ℕ) → i + c ≤ d.parameters → arguments_from ts i c
      ≡ put_all params (arguments_from (later 0) i c)
  arguments_are zero i l = refl
  arguments_are (suc c) i l =
      let at : 0 + i ≡ i = omega arith in
      ap₂ arg (params_are i (omega (arith, l)) ∙ ap params (sym at))
      (arguments_are c (suc i) (omega (arith, l)))

  instance_is : EachInside Never Tied (λ v. v < d.parameters) 0 d.formula
      → put_formula ts d.formula ≡ put_formula params (put_formula (later 0) d.formula)
  instance_is closed =
      formula_agrees Never Tied (λ v. v < d.parameters) ts (λ v. params (0 + v))
      (λ v l. let at : 0 + v ≡ v = omega arith in params_are v l ∙ ap params (sym at)) 0 d.formula
      closed
      ∙ sym (formula-put params (later 0) d.formula)

module _ (T : Table) (laws : AreSequents T) (clauses : List Clause)
    (opens : AreOpenClauses clauses) where
  abbrev C : SearchCalculus
  C = calculus_of T

  abbrev Item : Type 0
  Item = ItemOn T.SequentOf

  abbrev pub Given : List (Line T.SequentOf) → List Step → Type 0
  Given es steps = IsGiven C clauses es steps

  by_terms : {e : Line T.SequentOf} {es : List (Line T.SequentOf)} {steps : List Step}
      (ts : List Term) → Fits e.new ts
      → Spelled C clauses (from_list ts) e.goals steps → Given (e ∷ es) steps
  by_terms {e} {es} ts fits met =
      record {
        one_of = e;
        is_one = here e es;
        terms = from_list ts;
        closing = fits_closing e.new ts
            fits;
        met = met;
      }

  pub later_given : {es : List (Line T.SequentOf)} {steps : List Step} (e : Line T.SequentOf)
      → Given es steps
      → Given (e ∷ es) steps
  later_given {es} e g =
      record {
        one_of = g.one_of;
        is_one = there e es g.one_of g.is_one;
        terms = g.terms;
        closing =
            g.closing;
        met = g.met;
      }

  -- ground arguments of atoms that hold
  second_of : (f : ℕ) (t u : Term) (ts : List Term) → Holds clauses (atom_of f (t ∷ u ∷ ts))
      → IsGround u
  second_of f t u ts h =
      let all = holds_ground clauses (atom_of f (t ∷ u ∷ ts)) opens h in
      All-head IsGround u ts (All-tail IsGround t (u ∷ ts) all)

  third_of : (f : ℕ) (t u v : Term) (ts : List Term) → Holds clauses (atom_of f (t ∷ u ∷ v ∷ ts))
      → IsGround v
  third_of f t u v ts h =
      let all = holds_ground clauses (atom_of f (t ∷ u ∷ v ∷ ts)) opens h in
      All-head IsGround v ts (All-tail IsGround u (v ∷ ts) (All-tail IsGround t (u ∷ v ∷ ts) all))

  fourth_of : (f : ℕ) (t u v b : Term) (ts : List Term)
      → Holds clauses (atom_of f (t ∷ u ∷ v ∷ b ∷ ts)) → IsGround b
  fourth_of f t u v b ts h =
      let all = holds_ground clauses (atom_of f (t ∷ u ∷ v ∷ b ∷ ts)) opens h in
      All-head IsGround b ts (All-tail IsGround v (b ∷ ts)
      (All-tail IsGround u (v ∷ b ∷ ts) (All-tail IsGround t (u ∷ v ∷ b ∷ ts) all)))

  -- what goals spell
  module _ (r : ℕ → Term) where
    item_met : (y : Item) (us : List Step) → T.Completed (C.put_item r y) us
        → Spelled C clauses r (item y ∷ []) us
    item_met y us d = (us, [], sym (append-nil us), d, refl)

    step_met : (e e' : Step) (us : List Step) (gs : List (Goal Item Step)) → put_step r e ≡ e'
        → Spelled C clauses r gs us
        → Spelled C clauses r (emit e ∷ gs) (e' ∷ us)
    step_met e e' us gs se h = (us, ap (λ q. q ∷ us) (sym se), h)

    -- a premise, which terms for the new variables leave as it is
    premise_met : (v y : Term) (n : ℕ) (q c : T.SequentOf) (us : List Step) → put r v ≡ y
        → T.put_sequent r q ≡ c
        → T.Completed (derive y n c) us → T.Completed (derive (put r v) n (T.put_sequent r q)) us
    premise_met v y n q c us sy sc d =
        subst (λ t. T.Completed (derive t n (T.put_sequent r q)) us) (sym sy)
        (subst (λ s. T.Completed (derive y n s) us) (sym sc) d)

    closed_premise : (v : Term) (n : ℕ) (q : T.SequentOf) (us : List Step) → T.IsOpenSequent 0 q
        → T.Completed (derive (put r v) n q) us
        → T.Completed (derive (put r v) n (T.put_sequent r q)) us
    closed_premise v n q us hq d =
        premise_met v (put r v) n q q us refl (sequent_closed T laws r q hq) d

  module _ (x : Term) (hx : IsOpen 0 x) (n : ℕ) where
    says : (r : ℕ → Term) (f : ℕ) (ts : List Term) → Holds clauses (atom_of f (x ∷ ts))
        → Holds clauses (atom_of f (put r x ∷ ts))
    says r f ts h = subst (λ t. Holds clauses (atom_of f (t ∷ ts))) (sym (closed_term r x hx)) h

    pub bare_given : (e : Step) (es : List (Line T.SequentOf)) → ((r : ℕ → Term) → put_step r e ≡ e)
        → Given (bare e ∷ es) (e ∷ [])
    bare_given e es se = by_terms [] tt (step_met (from_list []) e e [] [] (se (from_list [])) refl)

    pub closed_by_given : (f : ℕ) (e : Step) (es : List (Line T.SequentOf))
        → ((r : ℕ → Term) → put_step r e ≡ e)
        → Holds clauses (atom_of f (x ∷ [])) → Given (closed_by f x e ∷ es) (e ∷ [])
    closed_by_given f e es se h =
        by_terms [] tt (
          says (from_list []) f [] h,
          step_met (from_list []) e e [] []
              (se (from_list [])) refl,
        )

    pub one_given : (f : ℕ) (e : Step) (q : T.SequentOf) (x1 : Term) (us : List Step)
        (es : List (Line T.SequentOf))
        → T.IsOpenSequent 0 q → ((r : ℕ → Term) → put_step r e ≡ e)
        → Holds clauses (atom_of f (x ∷ x1 ∷ []))
        → T.Completed (derive x1 n q) us → Given (one f x e n 0 q ∷ es) (e ∷ us)
    one_given f e q x1 us es hq se h d =
        let r = from_list (x1 ∷ []) in
        let y : Item = derive (variable 0) n q in
        by_terms (x1 ∷ []) (second_of f x x1 [] h, tt, tt) (
          says r f (x1 ∷ []) h,
          step_met r e e us (item y ∷ []) (se r)
              (item_met r y us (closed_premise r (variable 0) n q us hq d)),
        )

    pub raised_given : (f : ℕ) (e : Step) (q : T.SequentOf) (x1 : Term) (us : List Step)
        (es : List (Line T.SequentOf))
        → T.IsOpenSequent 0 q → ((r : ℕ → Term) → put_step r e ≡ e)
        → Holds clauses (atom_of f (x ∷ eigen n ∷ x1 ∷ []))
        → T.Completed (derive x1 (suc n) q) us → Given (raised f x e n 0 q ∷ es) (e ∷ us)
    raised_given f e q x1 us es hq se h d =
        let r = from_list (x1 ∷ []) in
        let y : Item = derive (variable 0) (suc n) q in
        by_terms (x1 ∷ []) (third_of f x (eigen n) x1 [] h, tt, tt) (
          says r f (eigen n ∷ x1 ∷ []) h,
          step_met r e e us (item y ∷ []) (se r)
              (item_met r y us (closed_premise r (variable 0) (suc n) q us hq d)),
        )

    pub two_given : (f : ℕ) (e : Step) (q c : T.SequentOf) (x1 x2 : Term) (us vs : List Step)
        (es : List (Line T.SequentOf))
        → T.IsOpenSequent 0 q → T.IsOpenSequent 0 c → ((r : ℕ → Term) → put_step r e ≡ e)
        → Holds clauses (atom_of f (x ∷ x1 ∷ x2 ∷ [])) → T.Completed (derive x1 n q) us
        → T.Completed (derive x2 n c) vs
        → Given (two f x e n 0 q c ∷ es) (e ∷ us ++ vs)
    two_given f e q c x1 x2 us vs es hq hc se h d d' =
        let r = from_list (x1 ∷ x2 ∷ []) in
        let y : Item = derive (variable 0) n q in
        let z : Item = derive (variable (0 + 1)) n c in
        by_terms (x1 ∷ x2 ∷ []) (
          second_of f x x1 (x2 ∷ []) h,
          tt,
          (third_of f x x1 x2 [] h, tt, tt),
        ) (
          says r f (x1 ∷ x2 ∷ []) h,
          step_met r e e (us ++ vs) (item y ∷ item z ∷ []) (se r) (
            us,
            vs,
            refl,
            closed_premise r (variable 0) n q us hq d,
            item_met r z vs
                (closed_premise r (variable (0 + 1)) n c vs hc d'),
          ),
        )

    module _ (f : ℕ) (q : Term → T.SequentOf) (x1 t : Term) (us : List Step)
        (es : List (Line T.SequentOf))
        (sq : (r : ℕ → Term) → T.put_sequent r (q (variable (0 + 1))) ≡ q (r (0 + 1))) where
      pub indexed_given : (e : Step) → ((r : ℕ → Term) → put_step r e ≡ e)
          → Holds clauses (atom_of f (x ∷ x1 ∷ t ∷ []))
          → T.Completed (derive x1 n (q t)) us → Given (indexed f x e n 0 q ∷ es) (e ∷ us)
      indexed_given e se h d =
          let r = from_list (x1 ∷ t ∷ []) in
          let y : Item = derive (variable 0) n (q (variable (0 + 1))) in
          by_terms (x1 ∷ t ∷ []) (second_of f x x1 (t ∷ []) h, tt, (third_of f x x1 t [] h, tt, tt)) (
            says r f (x1 ∷ t ∷ []) h,
            step_met r e e us (item y ∷ []) (se r)
                (item_met r y us (premise_met r (variable 0) x1 n (q (variable (0 + 1))) (q t) us
                refl
                (sq r) d)),
          )

      pub witnessed_given : (e : Term → Step)
          → ((r : ℕ → Term) → put_step r (e (variable (0 + 1))) ≡ e (r (0 + 1)))
          → InScope n t → Holds clauses (atom_of f (x ∷ x1 ∷ t ∷ []))
          → T.Completed (derive x1 n (q t)) us
          → Given (witnessed f x e n 0 q ∷ es) (e t ∷ us)
      witnessed_given e se scope h d =
          let r = from_list (x1 ∷ t ∷ []) in
          let y : Item = derive (variable 0) n (q (variable (0 + 1))) in
          by_terms (x1 ∷ t ∷ []) (
            second_of f x x1 (t ∷ []) h,
            tt,
            (third_of f x x1 t [] h, scope, tt),
          ) (
            says r f (x1 ∷ t ∷ []) h,
            step_met r (e (variable (0 + 1))) (e t) us (item y ∷ []) (se r)
                (item_met r y us (premise_met r (variable 0) x1 n (q (variable (0 + 1))) (q t) us
                refl
                (sq r) d)),
          )

    pub sided_given : (f side : ℕ) (e : Step) (q : T.SequentOf) (x1 : Term) (us : List Step)
        (es : List (Line T.SequentOf))
        → T.IsOpenSequent 0 q → ((r : ℕ → Term) → put_step r e ≡ e)
        → Holds clauses (atom_of f (x ∷ x1 ∷ app side no_args ∷ []))
        → T.Completed (derive x1 n q) us → Given (sided f x side e n 0 q ∷ es) (e ∷ us)
    sided_given f side e q x1 us es hq se h d =
        let c = app side no_args in
        let r = from_list (x1 ∷ c ∷ []) in
        let y : Item = derive (variable 0) n q in
        by_terms (x1 ∷ c ∷ []) (second_of f x x1 (c ∷ []) h, tt, (tt, tt, tt)) (
          says r f (x1 ∷ c ∷ []) h,
          (
            refl,
            step_met r e e us (item y ∷ []) (se r)
                (item_met r y us (closed_premise r (variable 0) n q us hq d)),
          ),
        )

    pub matched_given : (f : ℕ) (e : Step) (a b : Term) (es : List (Line T.SequentOf))
        → ((r : ℕ → Term) → put_step r e ≡ e)
        → ((r : ℕ → Term) → put r a ≡ put r b) → Holds clauses (atom_of f (x ∷ []))
        → Given (matched f x e a b ∷ es) (e ∷ [])
    matched_given f e a b es se same h =
        let r = from_list [] in
        by_terms [] tt (says r f [] h, (same r, step_met r e e [] [] (se r) refl))

    pub picked_given : (f : ℕ) (c : T.SequentOf) (x1 l : Term) (us : List Step)
        (es : List (Line T.SequentOf))
        → T.IsOpenSequent 0 c → Holds clauses (atom_of f (x ∷ x1 ∷ l ∷ []))
        → T.Completed (pick x1 n l c) us
        → Given (picked f x n 0 c ∷ es) us
    picked_given f c x1 l us es hc h d =
        let r = from_list (x1 ∷ l ∷ []) in
        by_terms (x1 ∷ l ∷ []) (second_of f x x1 (l ∷ []) h, tt, (third_of f x x1 l [] h, tt, tt)) (
          says r f (x1 ∷ l ∷ []) h,
          item_met r (pick (variable 0) n (variable (0 + 1)) c) us
              (subst (λ q. T.Completed (pick x1 n l q) us) (sym (sequent_closed T laws r c hc)) d),
        )

    pub init_picked_given : (f : ℕ) (c : T.SequentOf) (l : Term) (us : List Step)
        (es : List (Line T.SequentOf))
        → T.IsOpenSequent 0 c → Holds clauses (atom_of f (x ∷ l ∷ []))
        → T.Completed (init_pick n l c) us
        → Given (init_picked f x n 0 c ∷ es) us
    init_picked_given f c l us es hc h d =
        let r = from_list (l ∷ []) in
        by_terms (l ∷ []) (second_of f x l [] h, tt, tt) (
          says r f (l ∷ []) h,
          item_met r (init_pick n (variable 0) c) us
              (subst (λ q. T.Completed (init_pick n l q) us) (sym (sequent_closed T laws r c hc))
              d),
        )

    pub cutting_given : (f : ℕ) (c : T.SequentOf) (x1 x2 b : Term) (us : List Step)
        (es : List (Line T.SequentOf))
        → T.IsOpenSequent 0 c → Holds clauses (atom_of f (x ∷ x1 ∷ x2 ∷ b ∷ []))
        → T.Completed (cut x1 x2 n b c) us
        → Given (cutting f x n 0 c ∷ es) us
    cutting_given f c x1 x2 b us es hc h d =
        let r = from_list (x1 ∷ x2 ∷ b ∷ []) in
        by_terms (x1 ∷ x2 ∷ b ∷ []) (
          second_of f x x1 (x2 ∷ b ∷ []) h,
          tt,
          (third_of f x x1 x2 (b ∷ []) h, tt, (fourth_of f x x1 x2 b [] h, tt, tt)),
        ) (
          says r f (x1 ∷ x2 ∷ b ∷ []) h,
          item_met r
              (cut (variable 0) (variable (0 + 1)) n (variable (0 + 2)) c) us
              (subst (λ q. T.Completed (cut x1 x2 n b q) us) (sym (sequent_closed T laws r c hc))
              d),
        )

    -- a place that is chosen has its goal list
    pub place_given : (es : List (Line T.SequentOf)) (l : Term) (e : Step) (q : T.SequentOf)
        (us : List Step)
        → T.IsOpenSequent 0 q → ((r : ℕ → Term) → put_step r e ≡ e)
        → Contains es (at_place x l l e n q)
        → T.Completed (derive x n q) us → Given es (e ∷ us)
    place_given es l e q us hq se in_es d =
        let r = from_list [] in
        let y : Item = derive x n q in
        record {
          one_of = at_place x l l e n q;
          is_one = in_es;
          terms = r;
          closing = fits_closing [] [] tt;
          met = (
            refl,
            step_met r e e us (item y ∷ []) (se r)
                (item_met r y us (premise_met r x x n q q us (closed_term r x hx)
                (sequent_closed T laws r q hq) d)),
          );
        }

  pub closing_given : (es : List (Line T.SequentOf)) (l a : Term) (e : Step)
      → ((r : ℕ → Term) → put_step r e ≡ e)
      → Contains es (closing_at l l a a e) → Given es (e ∷ [])
  closing_given es l a e se in_es =
      let r = from_list [] in
      record {
        one_of = closing_at l l a a e;
        is_one = in_es;
        terms = r;
        closing = fits_closing [] [] tt;
        met = (refl, (refl, step_met r e e [] [] (se r) refl));
      }

  -- a declared formula is cut
  pub cut_given : (x y b : Term) → IsOpen 0 x → IsOpen 0 y → IsOpen 0 b
      → (n : ℕ) (q c : Formula → T.SequentOf)
      → ((r : ℕ → Term) (f : Formula) → T.put_sequent r (q f) ≡ q (put_formula r f))
      → ((r : ℕ → Term) (f : Formula) → T.put_sequent r (c f) ≡ c (put_formula r f))
      → (ds : List DeclaredFormula) (d : DeclaredFormula) → Contains ds d
      → EachInside Never Tied (λ v. v < d.parameters) 0 d.formula
      → (ts : ℕ → Term) → ((i : ℕ) → i < d.parameters → InScope n (ts i))
      → b ≡ app d.name (arguments_from ts 0 d.parameters) → (us vs : List Step)
      → T.Completed (derive x n (q (put_formula ts d.formula))) us
      → T.Completed (derive y n (c (put_formula ts d.formula))) vs
      → Given (map (cut_of x y b n 0 q c) ds) (Cut (put_formula ts d.formula) ∷ us ++ vs)
  cut_given x y b hx hy hb n q c sq sc ds d in_ds closed ts scope is_b us vs e e' =
      let r = params d n ts scope in
      let f = put_formula (later 0) d.formula in
      let f_is = instance_is d n ts scope closed in
      let y1 : Item = derive x n (q f) in
      let y2 : Item = derive y n (c f) in
      record {
        one_of = cut_of x y b n 0 q c d;
        is_one = contains_map (cut_of x y b n 0 q c) ds d in_ds;
        terms = r;
        closing = params_closing d n ts scope;
        met = (
          closed_term r b hb ∙ is_b
              ∙ ap (app d.name) (arguments_are d n ts scope d.parameters 0 (omega arith)),
          step_met r (Cut f) (Cut (put_formula ts d.formula)) (us ++ vs) (item y1 ∷ item y2 ∷ [])
              (ap Cut (sym f_is)) (
                us,
                vs,
                refl,
                premise_met r x x n (q f) (q (put_formula ts d.formula)) us
                    (closed_term r x hx) (sq r f ∙ ap q (sym f_is)) e,
                item_met r y2 vs (premise_met r y y n (c f) (c (put_formula ts d.formula)) vs
                    (closed_term r y hy) (sc r f ∙ ap c (sym f_is)) e'),
              ),
        );
      }
