-- An alternative stays fine where a term that a walk passed is put for a variable.
use Rattle.std.specs.Prelude.{ℕ, ◌≡◌, ◌≢◌, ◌<◌, Bool, true, false, nat_eq, if◌then◌else◌, Some, None, List, ◌∷◌, length}
use Rattle.std.proofs.Common.{refl, ap, sym, subst, ◌∙◌, arith}
use Rattle.std.proofs.lemmas.Bool.Decides.{nat_tests}
use Rattle.std.proofs.lemmas.List.Elements.{All-head, All-tail}
use Rattle.fpc_terms.specs.Term.{Term, Args, eigen, bound, variable, app, no_args, arg, put, Each, EachArg, Always, Never}
use Rattle.fpc_terms.specs.Open.{IsGround, IsOpen, at_one, Level, level_of, lower_in, IsAtMost, IsScopedAt, IsClosing}
use Rattle.fpc_terms.specs.Equality.{is_out_of_scope, has_level}
use Rattle.fpc_terms.proofs.LevelFacts.{IsPassed, ArePassed, passed_scoped, length-lower_in, lowered_at_most, lowered_below, scoped_more}
use Rattle.fpc_terms.proofs.PutFacts.{put_agrees, puts-puts, each_more, ground_put, opens_put, at_one_open, at_one_same, at_one_other}
use Rattle.clause_language.specs.declared.clause.Clause.{Clause}
use Rattle.search_model.specs.Search.{SearchCalculus, equate, Alternative, with_goals, bound_to}
use Rattle.fpc_terms.specs.Open.{IsOpenAt}
use Rattle.search_model.specs.Lawful.{IsGoal, IsLawful}
use Rattle.search_model.proofs.Fine.{IsFine}
use Rattle.search_model.proofs.SpelledFacts.{spelled_put, steps-put, goals_put}

-- what is put for a variable: the term, or the variable itself
at_one_case : (P : Term → Type 0) (v : ℕ) (t : Term) (n : ℕ) → (n ≡ v → P t) → (n ≢ v → P (variable n)) → P (at_one v t n)
at_one_case P v t n this other = by_test (nat_eq n v) refl where
  by_test : (b : Bool) → nat_eq n v ≡ b → P (if b then t else variable n)
  by_test true e = this (grind (arith, nat_tests, e))
  by_test false e = other (λ h. grind (arith, nat_tests, e, h))

-- an eigenvariable that is not out of scope is below the level
below_scope : (l m : ℕ) → is_out_of_scope (Some l) m ≡ false → m < l
below_scope l m e = grind (arith, nat_tests, e)

module _ (v l : ℕ) (levels : List Level) where
  mutual
    open_at : (t : Term) → IsPassed v (Some l) t → Each Always Never (λ n. IsAtMost (level_of levels n) (Some l)) t → IsOpenAt levels (Some l) t
    open_at (eigen m) p h = below_scope l m p
    open_at (bound k) p h = absurd h
    open_at (variable n) p h = h
    open_at (app f ts) p h = all_open_at ts p h

    all_open_at : (ts : Args) → ArePassed v (Some l) ts → EachArg Always Never (λ n. IsAtMost (level_of levels n) (Some l)) ts
        → EachArg (λ m. m < l) Never (λ n. IsAtMost (level_of levels n) (Some l)) ts
    all_open_at no_args p h = tt
    all_open_at (arg t ts) p h = (open_at t p.0 h.0, all_open_at ts p.1 h.1)

-- a term that was passed is in scope at the level, under levels of its variables that are at most it
open_passed : (v : ℕ) (levels : List Level) (l : Level) (t : Term) → IsPassed v l t → Each Always Never (λ n. IsAtMost (level_of levels n) l) t
    → IsOpenAt levels l t
open_passed v levels None t p h = tt
open_passed v levels (Some l) t p h = open_at v l levels t p h

open_variable : (levels : List Level) (l : Level) (n : ℕ) → IsAtMost (level_of levels n) l → IsOpenAt levels l (variable n)
open_variable levels None n h = tt
open_variable levels (Some l) n h = h

-- A term t is put for the variable v, and the levels of the variables of t are lowered.
module _ (v : ℕ) (t : Term) (levels : List Level) (t_open : IsOpen (length levels) t) (passed : IsPassed v (level_of levels v) t) where
  abbrev lowered : List Level
  lowered = lower_in (level_of levels v) t levels

  lowered_as_many : length lowered ≡ length levels
  lowered_as_many = length-lower_in (level_of levels v) t levels

  put_is_open : (n : ℕ) → n < length levels → IsOpen (length lowered) (at_one v t n)
  put_is_open n l = subst (λ k. IsOpen k (at_one v t n)) (sym lowered_as_many) (at_one_open (length levels) v t t_open n l)

  put_is_open_at : (n : ℕ) → IsOpenAt lowered (level_of levels n) (at_one v t n)
  put_is_open_at n =
      let here = open_passed v lowered (level_of levels v) t passed (lowered_below (level_of levels v) t levels t_open) in
      at_one_case (IsOpenAt lowered (level_of levels n)) v t n
      (λ e. subst (λ m. IsOpenAt lowered (level_of levels m) t) (sym e) here)
      (λ e. open_variable lowered (level_of levels n) n (lowered_at_most (level_of levels v) t levels t_open n))

  -- a closing of what is left closes the variables of before
  closing_before : (s : ℕ → Term) → IsClosing lowered s → IsClosing levels (λ n. put s (at_one v t n))
  closing_before s c = record { ground = ground; in_scope = in_scope } where
    ground : (n : ℕ) → IsGround (put s (at_one v t n))
    ground n =
        at_one_case (λ u. IsGround (put s u)) v t n
        (λ e. ground_put (length levels) s (λ m l. c.ground m) t t_open)
        (λ e. c.ground n)

    variables_scoped : Each Always Never (λ m. IsScopedAt (level_of levels v) (s m)) t
    variables_scoped =
        each_more Always Never (λ m. IsAtMost (level_of lowered m) (level_of levels v)) Always Never (λ m. IsScopedAt (level_of levels v) (s m))
        (λ m h. h) (λ m h. h) (λ m h. scoped_more (level_of lowered m) (level_of levels v) (s m) h (c.in_scope m))
        t (lowered_below (level_of levels v) t levels t_open)

    in_scope : (n : ℕ) → IsScopedAt (level_of levels n) (put s (at_one v t n))
    in_scope n =
        at_one_case (λ u. IsScopedAt (level_of levels n) (put s u)) v t n
        (λ e. subst (λ m. IsScopedAt (level_of levels m) (put s t)) (sym e) (passed_scoped v (level_of levels v) s t passed variables_scoped))
        (λ e. scoped_more (level_of lowered n) (level_of levels n) (s n) (lowered_at_most (level_of levels v) t levels t_open n) (c.in_scope n))

  -- and makes the variable and the term equal
  closing_equates : (s : ℕ → Term) → put s (at_one v t v) ≡ put (λ n. put s (at_one v t n)) t
  closing_equates s =
      let others : put (λ n. put s (at_one v t n)) t ≡ put s t =
      put_agrees (λ m. is_out_of_scope (level_of levels v) m ≡ false) (λ k. has_level (level_of levels v) ≡ false) (λ n. n ≢ v)
      (λ n. put s (at_one v t n)) s (λ n h. ap (put s) (at_one_other v t n h)) t passed
      in
      ap (put s) (at_one_same v t) ∙ sym others

module _ (C : SearchCalculus) (clauses : List Clause) (lawful : IsLawful C clauses) (End : List Term → List C.StepOf → Type 0) where
  -- An alternative that was fine before its equality of a variable and a term was taken is fine with the term put for the variable.
  pub bound_fine : (a : Alternative C.ItemOf C.StepOf) (v : ℕ) (t : Term) → IsFine C clauses End (with_goals a (equate (variable v) t ∷ a.goals))
      → IsPassed v (level_of a.levels v) t → IsFine C clauses End (bound_to C v t a)
  bound_fine a v t fine passed = record {
    goals_are =
        goals_put C clauses lawful a.levels (lowered v t a.levels t_open passed) (at_one v t) (put_is_open v t a.levels t_open passed)
        (λ n l. put_is_open_at v t a.levels t_open passed n) a.goals
        (All-tail (IsGoal C a.levels) (equate (variable v) t) a.goals fine.goals_are);
    asked_open =
        opens_put (length a.levels) (length (lowered v t a.levels t_open passed)) (at_one v t) (put_is_open v t a.levels t_open passed) a.asked
        fine.asked_open;
    ends = λ s c steps h.
        rw (puts-puts s (at_one v t) a.asked, steps-put C clauses lawful s (at_one v t) a.emitted)
        (fine.ends (λ n. put s (at_one v t n)) (closing_before v t a.levels t_open passed s c) steps
        (closing_equates v t a.levels t_open passed s, spelled_put C clauses lawful s (at_one v t) a.goals steps h));
  }
    where
      t_open : IsOpen (length a.levels) t
      t_open = (All-head (IsGoal C a.levels) (equate (variable v) t) a.goals fine.goals_are).1
