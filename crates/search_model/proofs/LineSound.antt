-- The goal lists of a table are sound where its rules are: stated once for both logics.
use Rattle.std.proofs.Common.{◌++◌, ◌+◌, ◌-◌, ◌<◌, ◌∙◌, ◌∷◌, ◌≡◌, ◌≤◌, ℕ, zero, suc, Bool, true}
use Rattle.std.proofs.Common.{false, List, [], map, length, replicate, None, Some, slice_get}
use Rattle.std.proofs.Common.{Contains, refl, ap, sym, subst, arith, length-append, append-nil}
use Rattle.std.specs.List.{AllByRecursion}
use Rattle.std.proofs.lemmas.List.{get_or-append_right, length-replicate, get_or-replicate}
use Rattle.std.proofs.lemmas.List.Elements.{All-nil, All-cons, All-contains, All-from_recursion}
use Rattle.fpc_terms.specs.Term.{Term, eigen, variable, app, no_args, arg, put, put_all, EachArg}
use Rattle.fpc_terms.specs.Term.{Never, Always, InScope}
use Rattle.fpc_terms.specs.Open.{IsOpen, AreOpen, Level, level_of, IsAtMost, IsScopedAt, IsClosing}
use Rattle.fpc_terms.specs.Open.{later}
use Rattle.polarised_formulas.specs.Formula.{Formula, EachInside, Tied}
use Rattle.polarised_formulas.specs.declared.step.Step.{Step}
use Rattle.polarised_formulas.specs.declared.step.Step.TheVariants.{Cut}
use Rattle.clause_language.specs.declared.atom.Atom.{Atom}
use Rattle.clause_language.specs.declared.clause.Clause.{Clause}
use Rattle.clause_language.specs.declared.declaration.DeclaredFormula.{DeclaredFormula}
use Rattle.clause_language.specs.LeastModel.{Holds}
use Rattle.polarised_formulas.specs.OpenFormula.{put_formula, put_step, AnyBound, IsOpenFormula}
use Rattle.polarised_formulas.specs.OpenFormula.{IsScopedFormula, IsOpenStep}
use Rattle.search_model.specs.Search.{SearchCalculus, Goal, call, equate, emit, item}
use Rattle.fpc_terms.specs.Open.{IsOpenAt}
use Rattle.search_model.specs.Lawful.{Spelled, IsGoal, AreGoals}
use Rattle.search_model.specs.Table.{ItemOn, derive, pick, init_pick, cut, Table, calculus_of}
use Rattle.search_model.specs.Table.{AreSequents}
use Rattle.search_model.specs.TableLaws.{AreSoundLines}
use Rattle.search_model.specs.Lines.{Line, atom_of, arguments_from, bare, closed_by, one, raised}
use Rattle.search_model.specs.Lines.{two, indexed, witnessed, sided, picked, init_picked, cutting}
use Rattle.search_model.specs.Lines.{matched, at_place, closing_at, cut_of, where_so, at_places}
use Rattle.search_model.specs.declared.stored.Stored.{Stored}
use Rattle.polarised_formulas.proofs.OpenFormulaFacts.{formula-put, inside_put}
use Rattle.search_model.proofs.TableFacts.{item_open_more, item_scoped_more}
use Rattle.search_model.proofs.SequentParts.{alone}

-- new variables and their levels
new_at : (levels new : List Level) (i : ℕ) → i < length new
    → length levels + i < length (levels ++ new)
new_at levels new i l = omega (arith, l, length-append levels new)

new_first : (levels new : List Level) → 0 < length new → length levels < length (levels ++ new)
new_first levels new l = omega (arith, l, length-append levels new)

level_at : (levels new : List Level) (i : ℕ) → level_of (levels ++ new) (length levels + i)
    ≡ level_of new i
level_at levels new i =
    let past : length levels ≤ length levels + i = omega arith in
    let back : length levels + i - length levels ≡ i = omega arith in
    get_or-append_right levels new (length levels) (length levels + i) None refl past
    ∙ ap (level_of new) back

level_new : (levels : List Level) (n c v : ℕ) → v < c
    → level_of (levels ++ replicate c (Some n)) (length levels + v) ≡ Some n
level_new levels n c v l =
    level_at levels (replicate c (Some n)) v ∙ get_or-replicate c v (Some n) None l

-- parameters as terms
arguments_open : (k m c : ℕ) → ((v : ℕ) → v < c → k + v < m) → (j i : ℕ) → i + j ≤ c
    → EachArg Always Never (λ v. v < m) (arguments_from (later k) i j)
arguments_open k m c new zero i l = tt
arguments_open k m c new (suc j) i l =
    (new i (omega (arith, l)), arguments_open k m c new j (suc i) (omega (arith, l)))

arguments-put : (s : ℕ → Term) (k j i : ℕ)
    → put_all s (arguments_from (later k) i j) ≡ arguments_from (λ v. s (k + v)) i j
arguments-put s k zero i = refl
arguments-put s k (suc j) i = ap (arg (s (k + i))) (arguments-put s k j (suc i))

-- open lists of terms
open_two : (m : ℕ) (t u : Term) → IsOpen m t → IsOpen m u → AreOpen m (t ∷ u ∷ [])
open_two m t u a b = All-cons (IsOpen m) t (u ∷ []) a (alone (IsOpen m) u b)

open_three : (m : ℕ) (t u v : Term) → IsOpen m t → IsOpen m u → IsOpen m v
    → AreOpen m (t ∷ u ∷ v ∷ [])
open_three m t u v a b c = All-cons (IsOpen m) t (u ∷ v ∷ []) a (open_two m u v b c)

-- the places from j on, where they are the rest of the list
places_on : (st : List Stored) (j : ℕ) (i : Stored) (is : List Stored)
    → ((m : ℕ) → slice_get (i ∷ is) m ≡ slice_get st (j + m))
    → (slice_get st j ≡ Some i) × ((m : ℕ) → slice_get is m ≡ slice_get st (suc j + m))
places_on st j i is h = (
  subst (λ q. slice_get st q ≡ Some i) (let e : j + 0 ≡ j = omega arith in e) (sym (h 0)),
  λ m. subst (λ q. slice_get is m ≡ slice_get st q)
      (let e : j + suc m ≡ suc j + m = omega arith in e) (h (suc m)),
)

module _ {S : Type 0} (P : Line S → Type 0) where
  -- a goal list under a condition
  where_so_by_recursion : (c : Bool) (e : Line S) (es : List (Line S)) → (c ≡ true → P e)
      → AllByRecursion P es → AllByRecursion P (where_so c e es)
  where_so_by_recursion true e es h hs = (h refl, hs)
  where_so_by_recursion false e es h hs = hs

  module _ (test : Formula → Bool) (make : ℕ → Stored → Line S) (st : List Stored)
      (each : (j : ℕ) (i : Stored) → slice_get st j ≡ Some i → test i.formula ≡ true
      → P (make j i)) where
    places_from : (j : ℕ) (is : List Stored) → ((m : ℕ) → slice_get is m ≡ slice_get st (j + m))
        → AllByRecursion P (at_places test make j is)
    places_from j [] on = tt
    places_from j (i ∷ is) on =
        let at = places_on st j i is on in
        where_so_by_recursion (test i.formula) (make j i) (at_places test make (suc j) is)
        (each j i at.0)
        (places_from (suc j) is at.1)

    -- P of the goal list of each place, where it holds for each place that passes the test
    pub places_by_recursion : AllByRecursion P (at_places test make 0 st)
    places_by_recursion =
        places_from 0 st (λ m. let e : 0 + m ≡ m = omega arith in ap (slice_get st) (sym e))

module _ (T : Table) (clauses : List Clause) where
  abbrev C : SearchCalculus
  C = calculus_of T

  abbrev pub Item : Type 0
  Item = ItemOn T.SequentOf

  -- what goals owe to the item that they stand for
  abbrev pub IsFine : List Level → Item → List (Goal Item Step) → Type 0
  IsFine ms x gs =
      AreGoals C ms gs × ((s : ℕ → Term) → IsClosing ms s → (steps : List Step)
      → Spelled C clauses s gs steps
      → T.Completed (C.put_item s x) steps)

  -- a goal list is sound, under the levels that it makes
  abbrev pub IsSound : List Level → Item → Line T.SequentOf → Type 0
  IsSound levels x e =
      C.IsOpenItem (length (levels ++ e.new)) x → C.IsScopedItem (levels ++ e.new) x
      → IsFine (levels ++ e.new) x e.goals

  module _ (s : ℕ → Term) where
    tail_item : (y : Item) (steps : List Step) → Spelled C clauses s (item y ∷ []) steps
        → T.Completed (C.put_item s y) steps
    tail_item y steps h =
        subst (T.Completed (C.put_item s y)) (sym (h.2 ∙ ap (λ r. h.0 ++ r) h.4 ∙ append-nil h.0))
        h.3

    tail_none : (e : Step) (steps : List Step) → Spelled C clauses s (emit e ∷ []) steps → steps
        ≡ put_step s e ∷ []
    tail_none e steps h = h.1 ∙ ap (λ r. put_step s e ∷ r) h.2

    tail_one : (e : Step) (y : Item) (steps : List Step)
        → Spelled C clauses s (emit e ∷ item y ∷ []) steps
        → (us : List Step) × T.Completed (C.put_item s y) us × (steps ≡ put_step s e ∷ us)
    tail_one e y steps h = (h.0, tail_item y h.0 h.2, h.1)

    tail_two : (e : Step) (y z : Item) (steps : List Step)
        → Spelled C clauses s (emit e ∷ item y ∷ item z ∷ []) steps
        → (us vs : List Step) × T.Completed (C.put_item s y) us × T.Completed (C.put_item s z) vs
        × (steps ≡ put_step s e ∷ us ++ vs)
    tail_two e y z steps h =
        (h.2.0, h.2.1, h.2.3, tail_item z h.2.1 h.2.4, h.1 ∙ ap (λ r. put_step s e ∷ r) h.2.2)

  module _ (ms : List Level) where
    abbrev Goals : List (Goal Item Step) → Type 0
    Goals gs = AreGoals C ms gs

    no_goals : Goals []
    no_goals = All-nil (IsGoal C ms)

    item_goal : (y : Item) (gs : List (Goal Item Step))
        → C.IsOpenItem (length ms) y × C.IsScopedItem ms y → Goals gs
        → Goals (item y ∷ gs)
    item_goal y gs m h = All-cons (IsGoal C ms) (item y) gs m h

    emit_goal : (e : Step) (gs : List (Goal Item Step)) → IsOpenStep (length ms) e → Goals gs
        → Goals (emit e ∷ gs)
    emit_goal e gs m h = All-cons (IsGoal C ms) (emit e) gs m h

    equate_goal : (t u : Term) (gs : List (Goal Item Step)) → IsOpen (length ms) t
        → IsOpen (length ms) u → Goals gs
        → Goals (equate t u ∷ gs)
    equate_goal t u gs a b h = All-cons (IsGoal C ms) (equate t u) gs (a, b) h

    call_goal : (a : Atom) (gs : List (Goal Item Step)) → AreOpen (length ms) a.arguments → Goals gs
        → Goals (call a ∷ gs)
    call_goal a gs ha h = All-cons (IsGoal C ms) (call a) gs ha h

  module _ (levels : List Level) (x : Term) (n : ℕ) (c : T.SequentOf) where
    abbrev k : ℕ
    k = length levels

    abbrev this : Item
    this = derive x n c

    -- what is completed, under terms for variables
    abbrev Made : (ℕ → Term) → List Step → Type 0
    Made s us = T.Completed (derive (put s x) n (T.put_sequent s c)) us

    -- a premise is open where the conclusion is, and in scope
    abbrev Opens : T.SequentOf → Type 0
    Opens q = (m : ℕ) → T.IsOpenSequent m c → T.IsOpenSequent m q

    abbrev Scopes : ℕ → T.SequentOf → Type 0
    Scopes j q = (ms : List Level) → T.IsScopedSequent ms n c → T.IsScopedSequent ms j q

    -- a premise with a term that is open where the term is
    abbrev OpensWith : (Term → T.SequentOf) → Type 0
    OpensWith q = (m : ℕ) (t : Term) → T.IsOpenSequent m c → IsOpen m t → T.IsOpenSequent m (q t)

    pub bare_sound : (e : Step) → ((m : ℕ) → IsOpenStep m e)
        → ((s : ℕ → Term) → Made s (put_step s e ∷ []))
        → IsSound levels this (bare e)
    bare_sound e step rule b o =
        let ms : List Level = levels ++ [] in (
          emit_goal ms e [] (step (length ms)) (no_goals ms),
          λ s cl steps h. subst (Made s) (sym (tail_none s e steps h)) (rule s),
        )

    pub closed_by_sound : (f : ℕ) (e : Step) → ((m : ℕ) → IsOpenStep m e)
        → ((s : ℕ → Term) → Holds clauses (atom_of f (put s x ∷ [])) → Made s (put_step s e ∷ []))
        → IsSound levels this (closed_by f x e)
    closed_by_sound f e step rule b o =
        let ms : List Level = levels ++ [] in
        let m = length ms in (
          call_goal ms (atom_of f (x ∷ [])) (emit e ∷ []) (alone (IsOpen m) x b.0)
              (emit_goal ms e [] (step m) (no_goals ms)),
          λ s cl steps h. subst (Made s) (sym (tail_none s e steps h.1)) (rule s h.0),
        )

    pub one_sound : (f : ℕ) (e : Step) → ((m : ℕ) → IsOpenStep m e) → (q : T.SequentOf) → Opens q
        → Scopes n q
        → ((s : ℕ → Term) (x1 : Term) (us : List Step)
        → Holds clauses (atom_of f (put s x ∷ x1 ∷ []))
        → T.Completed (derive x1 n (T.put_sequent s q)) us → Made s (put_step s e ∷ us))
        → IsSound levels this (one f x e n k q)
    one_sound f e step q opens scopes rule b o =
        let ms : List Level = levels ++ None ∷ [] in
        let m = length ms in
        let first : k < m = new_first levels (None ∷ []) (omega arith) in
        let y : Item = derive (variable k) n q in (
          call_goal ms (atom_of f (x ∷ variable k ∷ [])) (emit e ∷ item y ∷ [])
              (open_two m x (variable k) b.0 first)
              (emit_goal ms e (item y ∷ []) (step m)
              (item_goal ms y [] ((first, opens m b.1), (tt, scopes ms o.1)) (no_goals ms))),
          λ s cl steps h. let t =
              tail_one s e y steps h.1 in subst (Made s) (sym t.2) (rule s (s k) t.0 h.0 t.1),
        )

    pub raised_sound : (f : ℕ) (e : Step) → ((m : ℕ) → IsOpenStep m e) → (q : T.SequentOf) → Opens q
        → Scopes (suc n) q
        → ((ms : List Level) (s : ℕ → Term) → IsClosing ms s → T.IsOpenSequent (length ms) c
        → T.IsScopedSequent ms n c
        → (x1 : Term) (us : List Step) → Holds clauses (atom_of f (put s x ∷ eigen n ∷ x1 ∷ []))
        → T.Completed (derive x1 (suc n) (T.put_sequent s q)) us → Made s (put_step s e ∷ us))
        → IsSound levels this (raised f x e n k q)
    raised_sound f e step q opens scopes rule b o =
        let ms : List Level = levels ++ None ∷ [] in
        let m = length ms in
        let first : k < m = new_first levels (None ∷ []) (omega arith) in
        let y : Item = derive (variable k) (suc n) q in (
          call_goal ms (atom_of f (x ∷ eigen n ∷ variable k ∷ [])) (emit e ∷ item y ∷ [])
              (open_three m x (eigen n) (variable k) b.0 tt first)
              (emit_goal ms e (item y ∷ []) (step m)
              (item_goal ms y [] ((first, opens m b.1), (tt, scopes ms o.1)) (no_goals ms))),
          λ s cl steps h.
              let t = tail_one s e y steps h.1 in
              subst (Made s) (sym t.2) (rule ms s cl b.1 o.1 (s k) t.0 h.0 t.1),
        )

    pub two_sound : (f : ℕ) (e : Step) → ((m : ℕ) → IsOpenStep m e) → (q r : T.SequentOf) → Opens q
        → Opens r
        → Scopes n q → Scopes n r
        → ((s : ℕ → Term) (x1 x2 : Term) (us vs : List Step)
        → Holds clauses (atom_of f (put s x ∷ x1 ∷ x2 ∷ []))
        → T.Completed (derive x1 n (T.put_sequent s q)) us
        → T.Completed (derive x2 n (T.put_sequent s r)) vs
        → Made s (put_step s e ∷ us ++ vs))
        → IsSound levels this (two f x e n k q r)
    two_sound f e step q r opens opens' scopes scopes' rule b o =
        let ms : List Level = levels ++ None ∷ None ∷ [] in
        let m = length ms in
        let first : k < m = new_first levels (None ∷ None ∷ []) (omega arith) in
        let second : k + 1 < m = new_at levels (None ∷ None ∷ []) 1 (omega arith) in
        let y : Item = derive (variable k) n q in
        let z : Item = derive (variable (k + 1)) n r in (
          call_goal ms (atom_of f (x ∷ variable k ∷ variable (k + 1) ∷ []))
              (emit e ∷ item y ∷ item z ∷ [])
              (open_three m x (variable k) (variable (k + 1)) b.0 first second)
              (emit_goal ms e (item y ∷ item z ∷ []) (step m)
              (item_goal ms y (item z ∷ []) ((first, opens m b.1), (tt, scopes ms o.1))
              (item_goal ms z [] ((second, opens' m b.1), (tt, scopes' ms o.1)) (no_goals ms)))),
          λ s cl steps h.
              let t = tail_two s e y z steps h.1 in
              subst (Made s) (sym t.4) (rule s (s k) (s (k + 1)) t.0 t.1 h.0 t.2 t.3),
        )

    pub indexed_sound : (f : ℕ) (e : Step) → ((m : ℕ) → IsOpenStep m e) → (q : Term → T.SequentOf)
        → OpensWith q
        → ((ms : List Level) (t : Term) → T.IsScopedSequent ms n c → T.IsScopedSequent ms n (q t))
        → ((s : ℕ → Term) (t x1 : Term) (us : List Step)
        → Holds clauses (atom_of f (put s x ∷ x1 ∷ put s t ∷ []))
        → T.Completed (derive x1 n (T.put_sequent s (q t))) us → Made s (put_step s e ∷ us))
        → IsSound levels this (indexed f x e n k q)
    indexed_sound f e step q opens scopes rule b o =
        let ms : List Level = levels ++ None ∷ None ∷ [] in
        let m = length ms in
        let first : k < m = new_first levels (None ∷ None ∷ []) (omega arith) in
        let second : k + 1 < m = new_at levels (None ∷ None ∷ []) 1 (omega arith) in
        let v : Term = variable (k + 1) in
        let y : Item = derive (variable k) n (q v) in (
          call_goal ms (atom_of f (x ∷ variable k ∷ v ∷ [])) (emit e ∷ item y ∷ [])
              (open_three m x (variable k) v b.0 first second)
              (emit_goal ms e (item y ∷ []) (step m)
              (item_goal ms y [] ((first, opens m v b.1 second), (tt, scopes ms v o.1))
              (no_goals ms))),
          λ s cl steps h. let t =
              tail_one s e y steps h.1 in subst (Made s) (sym t.2) (rule s v (s k) t.0 h.0 t.1),
        )

    pub witnessed_sound : (f : ℕ) (e : Term → Step)
        → ((m : ℕ) (t : Term) → IsOpen m t → IsOpenStep m (e t))
        → (q : Term → T.SequentOf) → OpensWith q
        → ((ms : List Level) (t : Term) → T.IsScopedSequent ms n c → IsOpenAt ms (Some n) t
        → T.IsScopedSequent ms n (q t))
        → ((ms : List Level) (s : ℕ → Term) → IsClosing ms s → T.IsOpenSequent (length ms) c
        → T.IsScopedSequent ms n c
        → (t x1 : Term) (us : List Step) → InScope n (put s t)
        → Holds clauses (atom_of f (put s x ∷ x1 ∷ put s t ∷ []))
        → T.Completed (derive x1 n (T.put_sequent s (q t))) us → Made s (put_step s (e t) ∷ us))
        → IsSound levels this (witnessed f x e n k q)
    witnessed_sound f e step q opens scopes rule b o =
        let ms : List Level = levels ++ None ∷ Some n ∷ [] in
        let m = length ms in
        let first : k < m = new_first levels (None ∷ Some n ∷ []) (omega arith) in
        let second : k + 1 < m = new_at levels (None ∷ Some n ∷ []) 1 (omega arith) in
        let level : level_of ms (k + 1) ≡ Some n = level_at levels (None ∷ Some n ∷ []) 1 in
        let at : IsAtMost (level_of ms (k + 1)) (Some n) =
        subst (λ l. IsAtMost l (Some n)) (sym level) (omega arith) in
        let v : Term = variable (k + 1) in
        let y : Item = derive (variable k) n (q v) in (
          call_goal ms (atom_of f (x ∷ variable k ∷ v ∷ [])) (emit (e v) ∷ item y ∷ [])
              (open_three m x (variable k) v b.0 first second)
              (emit_goal ms (e v) (item y ∷ []) (step m v second)
              (item_goal ms y [] ((first, opens m v b.1 second), (tt, scopes ms v o.1 at))
              (no_goals ms))),
          λ s cl steps h.
              let t = tail_one s (e v) y steps h.1 in
              let scope : InScope n (s (k + 1)) =
              subst (λ l. IsScopedAt l (s (k + 1))) level (cl.in_scope (k + 1)) in
              subst (Made s) (sym t.2) (rule ms s cl b.1 o.1 v (s k) t.0 scope h.0 t.1),
        )

    pub sided_sound : (f side : ℕ) (e : Step) → ((m : ℕ) → IsOpenStep m e) → (q : T.SequentOf)
        → Opens q → Scopes n q
        → ((s : ℕ → Term) (x1 : Term) (us : List Step)
        → Holds clauses (atom_of f (put s x ∷ x1 ∷ app side no_args ∷ []))
        → T.Completed (derive x1 n (T.put_sequent s q)) us → Made s (put_step s e ∷ us))
        → IsSound levels this (sided f x side e n k q)
    sided_sound f side e step q opens scopes rule b o =
        let ms : List Level = levels ++ None ∷ None ∷ [] in
        let m = length ms in
        let first : k < m = new_first levels (None ∷ None ∷ []) (omega arith) in
        let second : k + 1 < m = new_at levels (None ∷ None ∷ []) 1 (omega arith) in
        let v : Term = variable (k + 1) in
        let y : Item = derive (variable k) n q in (
          call_goal ms (atom_of f (x ∷ variable k ∷ v ∷ []))
              (equate v (app side no_args) ∷ emit e ∷ item y ∷ [])
              (open_three m x (variable k) v b.0 first second)
              (equate_goal ms v (app side no_args) (emit e ∷ item y ∷ []) second tt
              (emit_goal ms e (item y ∷ []) (step m)
              (item_goal ms y [] ((first, opens m b.1), (tt, scopes ms o.1)) (no_goals ms)))),
          λ s cl steps h.
              let t = tail_one s e y steps h.1.1 in
              let said : Holds clauses (atom_of f (put s x ∷ s k ∷ app side no_args ∷ [])) =
              subst (λ u. Holds clauses (atom_of f (put s x ∷ s k ∷ u ∷ []))) h.1.0 h.0 in
              subst (Made s) (sym t.2) (rule s (s k) t.0 said t.1),
        )

    pub matched_sound : (f : ℕ) (e : Step) → ((m : ℕ) → IsOpenStep m e) → (a a' : Term)
        → ((ms : List Level) → T.IsOpenSequent (length ms) c → T.IsScopedSequent ms n c
        → IsOpen (length ms) a × IsOpen (length ms) a')
        → ((s : ℕ → Term) → Holds clauses (atom_of f (put s x ∷ [])) → put s a ≡ put s a'
        → Made s (put_step s e ∷ []))
        → IsSound levels this (matched f x e a a')
    matched_sound f e step a a' opens rule b o =
        let ms : List Level = levels ++ [] in
        let m = length ms in
        let are = opens ms b.1 o.1 in (
          call_goal ms (atom_of f (x ∷ [])) (equate a a' ∷ emit e ∷ []) (alone (IsOpen m) x b.0)
              (equate_goal ms a a' (emit e ∷ []) are.0 are.1
              (emit_goal ms e [] (step m) (no_goals ms))),
          λ s cl steps h. subst (Made s) (sym (tail_none s e steps h.1.1)) (rule s h.0 h.1.0),
        )

    pub picked_sound : (f : ℕ)
        → ((s : ℕ → Term) (x1 l : Term) (us : List Step)
        → Holds clauses (atom_of f (put s x ∷ x1 ∷ l ∷ []))
        → T.Completed (pick x1 n l (T.put_sequent s c)) us → Made s us)
        → IsSound levels this (picked f x n k c)
    picked_sound f rule b o =
        let ms : List Level = levels ++ None ∷ None ∷ [] in
        let m = length ms in
        let first : k < m = new_first levels (None ∷ None ∷ []) (omega arith) in
        let second : k + 1 < m = new_at levels (None ∷ None ∷ []) 1 (omega arith) in
        let y : Item = pick (variable k) n (variable (k + 1)) c in (
          call_goal ms (atom_of f (x ∷ variable k ∷ variable (k + 1) ∷ [])) (item y ∷ [])
              (open_three m x (variable k) (variable (k + 1)) b.0 first second)
              (item_goal ms y [] ((first, second, b.1), (tt, tt, o.1)) (no_goals ms)),
          λ s cl steps h. rule s (s k) (s (k + 1)) steps h.0 (tail_item s y steps h.1),
        )

    pub init_picked_sound : (f : ℕ)
        → ((s : ℕ → Term) (l : Term) (us : List Step) → Holds clauses (atom_of f (put s x ∷ l ∷ []))
        → T.Completed (init_pick n l (T.put_sequent s c)) us → Made s us)
        → IsSound levels this (init_picked f x n k c)
    init_picked_sound f rule b o =
        let ms : List Level = levels ++ None ∷ [] in
        let m = length ms in
        let first : k < m = new_first levels (None ∷ []) (omega arith) in
        let y : Item = init_pick n (variable k) c in (
          call_goal ms (atom_of f (x ∷ variable k ∷ [])) (item y ∷ [])
              (open_two m x (variable k) b.0 first)
              (item_goal ms y [] ((first, b.1), (tt, o.1)) (no_goals ms)),
          λ s cl steps h. rule s (s k) steps h.0 (tail_item s y steps h.1),
        )

    pub cutting_sound : (f : ℕ)
        → ((s : ℕ → Term) (x1 x2 b : Term) (us : List Step)
        → Holds clauses (atom_of f (put s x ∷ x1 ∷ x2 ∷ b ∷ []))
        → T.Completed (cut x1 x2 n b (T.put_sequent s c)) us → Made s us)
        → IsSound levels this (cutting f x n k c)
    cutting_sound f rule b o =
        let ms : List Level = levels ++ None ∷ None ∷ None ∷ [] in
        let m = length ms in
        let first : k < m = new_first levels (None ∷ None ∷ None ∷ []) (omega arith) in
        let second : k + 1 < m = new_at levels (None ∷ None ∷ None ∷ []) 1 (omega arith) in
        let third : k + 2 < m = new_at levels (None ∷ None ∷ None ∷ []) 2 (omega arith) in
        let y : Item = cut (variable k) (variable (k + 1)) n (variable (k + 2)) c in (
          call_goal ms (atom_of f (x ∷ variable k ∷ variable (k + 1) ∷ variable (k + 2) ∷ []))
              (item y ∷ [])
              (All-cons (IsOpen m) x (variable k ∷ variable (k + 1) ∷ variable (k + 2) ∷ []) b.0
              (open_three m (variable k) (variable (k + 1)) (variable (k + 2)) first second third))
              (item_goal ms y [] ((first, second, third, b.1), (tt, tt, tt, o.1)) (no_goals ms)),
          λ s cl steps h. rule s (s k) (s (k + 1)) (s (k + 2)) steps h.0 (tail_item s y steps h.1),
        )

  -- a place is chosen
  module _ (levels : List Level) (x : Term) (n : ℕ) (l : Term) (c : T.SequentOf) where
    pub place_sound : (t : Term) (e : Step) → ((m : ℕ) → IsOpenStep m e) → (q : T.SequentOf)
        → ((m : ℕ) → T.IsOpenSequent m c → IsOpen m t × T.IsOpenSequent m q)
        → ((ms : List Level) → T.IsScopedSequent ms n c → T.IsScopedSequent ms n q)
        → ((s : ℕ → Term) (us : List Step) → put s l ≡ put s t
        → T.Completed (derive (put s x) n (T.put_sequent s q)) us
        → T.Completed (pick (put s x) n (put s l) (T.put_sequent s c)) (put_step s e ∷ us))
        → IsSound levels (pick x n l c) (at_place x l t e n q)
    place_sound t e step q opens scopes rule b o =
        let ms : List Level = levels ++ [] in
        let m = length ms in
        let are = opens m b.2 in
        let y : Item = derive x n q in (
          equate_goal ms l t (emit e ∷ item y ∷ []) b.1 are.0
              (emit_goal ms e (item y ∷ []) (step m)
              (item_goal ms y [] ((b.0, are.1), (tt, scopes ms o.2)) (no_goals ms))),
          λ s cl steps h.
              let u = tail_one s e y steps h.1 in
              subst (T.Completed (pick (put s x) n (put s l) (T.put_sequent s c))) (sym u.2)
              (rule s u.0 h.0 u.1),
        )

  -- a place to close with is chosen
  module _ (levels : List Level) (n : ℕ) (l : Term) (c : T.SequentOf) where
    pub closing_sound : (t a a' : Term) (e : Step) → ((m : ℕ) → IsOpenStep m e)
        → ((ms : List Level) → T.IsOpenSequent (length ms) c → T.IsScopedSequent ms n c
        → IsOpen (length ms) t × IsOpen (length ms) a × IsOpen (length ms) a')
        → ((s : ℕ → Term) → put s l ≡ put s t → put s a ≡ put s a'
        → T.Completed (init_pick n (put s l) (T.put_sequent s c)) (put_step s e ∷ []))
        → IsSound levels (init_pick n l c) (closing_at l t a a' e)
    closing_sound t a a' e step opens rule b o =
        let ms : List Level = levels ++ [] in
        let are = opens ms b.1 o.1 in (
          equate_goal ms l t (equate a a' ∷ emit e ∷ []) b.0 are.0
              (equate_goal ms a a' (emit e ∷ []) are.1 are.2
              (emit_goal ms e [] (step (length ms)) (no_goals ms))),
          λ s cl steps h.
              subst (T.Completed (init_pick n (put s l) (T.put_sequent s c)))
              (sym (tail_none s e steps h.1.1))
              (rule s h.0 h.1.0),
        )

  -- a declared formula is cut
  module _ (levels : List Level) (x y : Term) (n : ℕ) (b : Term) (c : T.SequentOf)
      (q r : Formula → T.SequentOf) where
    abbrev j : ℕ
    j = length levels

    -- the rule gives what it makes of terms in scope for the parameters
    abbrev pub IsCutRule : DeclaredFormula → Type 0
    IsCutRule d =
        (s ts : ℕ → Term) (us vs : List Step) → put s b
        ≡ app d.name (arguments_from ts 0 d.parameters)
        → ((i : ℕ) → i < d.parameters → InScope n (ts i)) → (f : Formula) → put_formula s f
        ≡ put_formula ts d.formula
        → T.Completed (derive (put s x) n (T.put_sequent s (q f))) us
        → T.Completed (derive (put s y) n (T.put_sequent s (r f))) vs
        → T.Completed (cut (put s x) (put s y) n (put s b) (T.put_sequent s c))
        (Cut (put_formula ts d.formula) ∷ us ++ vs)

    -- a premise with a formula is open where the formula is, and in scope
    abbrev pub TakesFormula : (Formula → T.SequentOf) → Type 0
    TakesFormula q =
        ((m : ℕ) (f : Formula) → IsOpenFormula m f → T.IsOpenSequent m c → T.IsOpenSequent m (q f))
        × ((ms : List Level) (f : Formula) → IsScopedFormula ms n f → T.IsScopedSequent ms n c
        → T.IsScopedSequent ms n (q f))

    cut_sound : TakesFormula q → TakesFormula r → (d : DeclaredFormula)
        → EachInside Never Tied (λ v. v < d.parameters) 0 d.formula → IsCutRule d
        → IsSound levels (cut x y n b c) (cut_of x y b n j q r d)
    cut_sound takes takes' d closed rule h o =
        let new : List Level = replicate d.parameters (Some n) in
        let ms : List Level = levels ++ new in
        let m = length ms in
        let f = put_formula (later j) d.formula in
        let y1 : Item = derive x n (q f) in
        let y2 : Item = derive y n (r f) in
        let fits : (v : ℕ) → v < d.parameters → j + v < m =
        (λ v l. new_at levels new v (omega
        (arith, l, length-replicate {A = Level} d.parameters (Some n)))) in
        let at : (v : ℕ) → v < d.parameters → IsAtMost (level_of ms (j + v)) (Some n) =
        (λ v l. subst (λ a. IsAtMost a (Some n)) (sym (level_new levels n d.parameters v l))
        (omega arith)) in
        let f_open : IsOpenFormula m f =
        inside_put Never Tied (λ v. v < d.parameters) Always AnyBound (λ v. v < m) (λ i a. tt)
        (λ e i a. tt) (later j)
        (λ e v l. fits v l) 0 d.formula closed in
        let f_scoped : IsScopedFormula ms n f =
        inside_put Never Tied (λ v. v < d.parameters) (λ i. i < n) Tied
        (λ v. IsAtMost (level_of ms v) (Some n))
        (λ i a. absurd a) (λ e i a. a) (later j) (λ e v l. at v l) 0 d.formula closed in (
          equate_goal ms b (app d.name (arguments_from (later j) 0 d.parameters))
              (emit (Cut f) ∷ item y1 ∷ item y2 ∷ []) h.2
              (arguments_open j m d.parameters fits d.parameters 0 (omega arith))
              (emit_goal ms (Cut f) (item y1 ∷ item y2 ∷ []) f_open
              (item_goal ms y1 (item y2 ∷ [])
              ((h.0, takes.0 m f f_open h.3), (tt, takes.1 ms f f_scoped o.3))
              (item_goal ms y2 [] ((h.1, takes'.0 m f f_open h.3), (tt, takes'.1 ms f f_scoped o.3))
              (no_goals ms)))),
          λ s cl steps g.
              let t = tail_two s (Cut f) y1 y2 steps g.1 in
              let is : put_formula s f ≡ put_formula (λ i. s (j + i)) d.formula =
              formula-put s (later j) d.formula in
              let scope : (i : ℕ) → i < d.parameters → InScope n (s (j + i)) =
              (λ i l. subst (λ a. IsScopedAt a (s (j + i))) (level_new levels n d.parameters i l)
              (cl.in_scope (j + i))) in
              subst (T.Completed (cut (put s x) (put s y) n (put s b) (T.put_sequent s c)))
              (sym (t.4 ∙ ap (λ z. Cut z ∷ t.0 ++ t.1) is))
              (rule s (λ i. s (j + i)) t.0 t.1
              (g.0 ∙ ap (app d.name) (arguments-put s j d.parameters 0)) scope f is t.2 t.3),
        )

    pub cuts_sound : TakesFormula q → TakesFormula r → (ds : List DeclaredFormula)
        → ((d : DeclaredFormula) → Contains ds d
        → EachInside Never Tied (λ v. v < d.parameters) 0 d.formula)
        → ((d : DeclaredFormula) → Contains ds d → IsCutRule d)
        → AllByRecursion (IsSound levels (cut x y n b c)) (map (cut_of x y b n j q r) ds)
    cuts_sound takes takes' [] closed rule = tt
    cuts_sound takes takes' (d ∷ ds) closed rule = (
      cut_sound takes takes' d (closed d (0, omega arith, refl)) (rule d (0, omega arith, refl)),
      cuts_sound takes takes' ds (λ e i. closed e (suc i.0, omega (arith, i.1), i.2))
          (λ e i. rule e (suc i.0, omega (arith, i.1), i.2)),
    )

  -- The goal lists of a table are sound where its sequents obey their laws and each list is sound.
  module _ (laws : AreSequents T)
      (sound : (levels : List Level) (x : Item)
      → AllByRecursion (IsSound levels x) (T.expand x (length levels))) where
    line_fine : (levels : List Level) (x : Item) → C.IsOpenItem (length levels) x
        → C.IsScopedItem levels x
        → (e : Line T.SequentOf) → Contains (T.expand x (length levels)) e
        → IsFine (levels ++ e.new) x e.goals
    line_fine levels x b o e i =
        let le : length levels ≤ length (levels ++ e.new) =
        omega (arith, length-append levels e.new) in
        All-contains (IsSound levels x) (T.expand x (length levels)) e
        (All-from_recursion (IsSound levels x) (T.expand x (length levels)) (sound levels x)) i
        (item_open_more T laws (length levels) (length (levels ++ e.new)) le x b)
        (item_scoped_more T laws levels e.new x o)

    pub sound_lines : AreSoundLines T clauses
    sound_lines = record {
      expands = λ levels x b o e i. (line_fine levels x b o e i).0;
      sound = λ levels x b o e i s c steps h. (line_fine levels x b o e i).1 s c steps h;
    }
