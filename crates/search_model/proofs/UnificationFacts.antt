-- The search takes an equality as unification does: to its end, in as many units.
use Rattle.std.specs.Prelude.{◌≡◌, ℕ, zero, suc, ◌-◌, Option, Some, None, List, [], ◌∷◌, map}
use Rattle.std.proofs.Common.{refl, ap, sym, ◌∙◌, arith}
use Rattle.fpc_terms.specs.Term.{Term, Args, no_args, arg, joined, terms_in, put}
use Rattle.fpc_terms.specs.Open.{Level, level_of, at_one, lower_in}
use Rattle.fpc_terms.specs.Equality.{Equality, same, parts, older, walk, clash, equality, walked_node}
use Rattle.fpc_terms.specs.Run.{Ending, ended, spent, one_more, raise, run}
use Rattle.fpc_terms.specs.Unification.{Equation, Problem, Unification, unifying, walking_through, clashed}
use Rattle.fpc_terms.specs.Unification.{Unified, solved, unsolvable, unified, solved_in, put_equation}
use Rattle.fpc_terms.specs.Unification.{equations_before, solved_by, after_equality, through, after_node}
use Rattle.fpc_terms.specs.Unification.{unify_step}
use Rattle.clause_language.specs.declared.clause.Clause.{Clause}
use Rattle.clause_language.specs.LeastModel.{fits}
use Rattle.search_model.specs.Search.{SearchCalculus, Choice, Goal, equate, Alternative, Rest, between}
use Rattle.search_model.specs.Search.{State, Answer, answer, answer_of, goals_before, problem_of, of_problem, at_first}
use Rattle.search_model.specs.Search.{put_goal, put_rest, step}
use Rattle.search_model.specs.Solve.{no_calculus}
use Rattle.search_model.specs.EqualityRun.{goes_on_after, EqualityIsUnified}
use Rattle.fpc_terms.proofs.RunFacts.{run_answered, run_spent, run_going, raise-none, raise-more}

module _ (C : SearchCalculus) where
  abbrev ProblemOf : Type 0
  ProblemOf = Problem (Rest C.ItemOf C.StepOf)

  abbrev UnificationOf : Type 0
  UnificationOf = Unification (Rest C.ItemOf C.StepOf)

  abbrev UnifiedOf : Type 0
  UnifiedOf = Unified (Rest C.ItemOf C.StepOf)

  goals_joined : (ts us : List Term) (es : List Equation) (goals : List (Goal C.ItemOf C.StepOf))
      → goals_before (equations_before ts us []) (goals_before es goals)
      ≡ goals_before (equations_before ts us es) goals
  goals_joined [] us es goals = refl
  goals_joined (t ∷ ts) [] es goals = refl
  goals_joined (t ∷ ts) (u ∷ us) es goals = ap (λ gs. equate t u ∷ gs) (goals_joined ts us es goals)

  goals_put : (s : ℕ → Term) (es : List Equation) (goals : List (Goal C.ItemOf C.StepOf))
      → map (put_goal C s) (goals_before es goals)
      ≡ goals_before (map (put_equation s) es) (map (put_goal C s) goals)
  goals_put s [] goals = refl
  goals_put s (e ∷ es) goals =
      ap (λ gs. equate (put s e.left) (put s e.right) ∷ gs) (goals_put s es goals)

  -- the equations of a problem as goals of its rest
  abbrev again : ProblemOf → ProblemOf
  again p = problem_of [] (of_problem p)

  bound_again : (v : ℕ) (t : Term) (p : ProblemOf)
      → of_problem (solved_by (put_rest C) v t (again p)) ≡ of_problem (solved_by (put_rest C) v t p)
  bound_again v t p =
      ap
      (λ gs.
      let a : Alternative C.ItemOf C.StepOf = record {
        goals = gs;
        emitted = map (C.put_step (at_one v t)) p.rest.emitted;
        asked = map (put (at_one v t)) p.rest.asked;
        levels = lower_in (level_of p.levels v) t p.levels;
      }
      in
      a)
      (goals_put (at_one v t) p.equations p.rest.goals)

  module _ (others : List (Alternative C.ItemOf C.StepOf)) where
    equality_again : (q : Equality) (p : ProblemOf)
        → at_first (after_equality (put_rest C) q (again p)) others
        ≡ at_first (after_equality (put_rest C) q p) others
    equality_again same p = refl
    equality_again (parts ts us) p =
        ap
        (λ gs.
        let a : Alternative C.ItemOf C.StepOf = record {
          goals = gs;
          emitted = p.rest.emitted;
          asked = p.rest.asked;
          levels = p.levels;
        }
        in
        between (a ∷ others))
        (goals_joined (terms_in ts) (terms_in us) p.equations p.rest.goals)
    equality_again (older young old) p = ap (λ a. between (a ∷ others)) (bound_again young _ p)
    equality_again (walk v t) p = refl
    equality_again clash p = refl

    through_again : (v : ℕ) (t : Term) (xs : Args) (p : ProblemOf)
        → at_first (through (put_rest C) v t xs (again p)) others
        ≡ at_first (through (put_rest C) v t xs p) others
    through_again v t no_args p = ap (λ a. between (a ∷ others)) (bound_again v t p)
    through_again v t (arg x xs) p = refl

    node_again : (v : ℕ) (t : Term) (q : Option Args) (xs : Args) (p : ProblemOf)
        → at_first (after_node (put_rest C) v t q xs (again p)) others
        ≡ at_first (after_node (put_rest C) v t q xs p) others
    node_again v t None xs p = refl
    node_again v t (Some ys) xs p = through_again v t (joined ys xs) p

    module _ (choice : Choice) (clauses : List Clause) where
      equations_again : (es : List Equation) (rest : Rest C.ItemOf C.StepOf) (levels : List Level)
          → solved_in es (record { equations = es; rest = rest; levels = levels }) ≡ None
          → step C choice clauses
          (at_first (unifying (record { equations = es; rest = rest; levels = levels })) others)
          ≡ at_first
          (unify_step (put_rest C)
          (unifying (record { equations = es; rest = rest; levels = levels }))) others
      equations_again [] rest levels none = cc
      equations_again (e ∷ es) rest levels none =
          equality_again (equality e.left e.right)
          (record { equations = es; rest = rest; levels = levels })

      -- a step of the search is one of unification
      step_again : (q : UnificationOf) → unified q ≡ None
          → step C choice clauses (at_first q others) ≡ at_first (unify_step (put_rest C) q) others
      step_again (unifying p) none = equations_again p.equations p.rest p.levels none
      step_again (walking_through v t x xs p) none =
          node_again v t (walked_node v (level_of p.levels v) x) xs p
      step_again clashed none = cc

      abbrev running_of : ℕ → State C.ItemOf C.StepOf → Ending (Answer C.ItemOf C.StepOf)
      running_of n s = run answer (step C choice clauses) n s

      abbrev unifying_of : ℕ → UnificationOf → Ending UnifiedOf
      unifying_of n q = run unified (unify_step (put_rest C)) n q

      -- where unification has no answer, the search has none
      no_answer : (q : UnificationOf) → unified q ≡ None
          → answer (at_first q others) ≡ None
      no_answer (unifying p) none = by_equations p.equations p none where
        by_equations : (es : List Equation) (p : ProblemOf) → solved_in es p ≡ None
            → answer_of (goals_before es p.rest.goals) (of_problem p) ≡ None
        by_equations [] p none = cc
        by_equations (e ∷ es) p none = refl
      no_answer (walking_through v t x xs p) none = refl
      no_answer clashed none = cc

      -- no unit was taken, and one unit more
      at_once : (n : ℕ) (s : State C.ItemOf C.StepOf) → running_of n s ≡ raise 0 (running_of (n - 0) s)
      at_once n s =
          let all : n ≡ n - 0 = omega arith in
          ap (λ k. running_of k s) all ∙ sym (raise-none (running_of (n - 0) s))

      one_unit : (n u : ℕ) (s : State C.ItemOf C.StepOf)
          → one_more (raise u (running_of (n - u) s)) ≡ raise (suc u) (running_of (suc n - suc u) s)
      one_unit n u s =
          let left : n - u ≡ suc n - suc u = omega arith in
          raise-more u (running_of (n - u) s) ∙ ap (λ k. raise (suc u) (running_of k s)) left

      -- where it has one, the search goes on from it
      goes_on_now : (n : ℕ) (q : UnificationOf) (r : UnifiedOf)
          → unified q ≡ Some r → running_of n (at_first q others) ≡ goes_on_after C choice clauses n (ended r 0) others
      goes_on_now n (unifying p) r is = by_equations p.equations p.rest p.levels r is where
        by_equations : (es : List Equation) (rest : Rest C.ItemOf C.StepOf) (levels : List Level)
            (r : UnifiedOf)
            → solved_in es (record { equations = es; rest = rest; levels = levels }) ≡ Some r
            → running_of n (at_first (unifying (record { equations = es; rest = rest; levels = levels })) others)
            ≡ goes_on_after C choice clauses n (ended r 0) others
        by_equations [] rest levels (solved last after) is =
            let same_rest : rest ≡ last = cc in
            let same_levels : levels ≡ after = cc in
            rw (sym same_rest, sym same_levels) (at_once n _)
        by_equations [] rest levels unsolvable is = cc
        by_equations (e ∷ es) rest levels r is = cc
      goes_on_now n (walking_through v t x xs p) r is = cc
      goes_on_now n clashed (solved last after) is = cc
      goes_on_now n clashed unsolvable is = at_once n _

      -- one unit more, before and after
      goes_on_more : (n : ℕ) (e : Ending UnifiedOf)
          → one_more (goes_on_after C choice clauses n e others)
          ≡ goes_on_after C choice clauses (suc n) (one_more e) others
      goes_on_more n (ended (solved rest levels) u) = one_unit n u _
      goes_on_more n (ended unsolvable u) = one_unit n u _
      goes_on_more n spent = refl

      pub equality_runs : (n : ℕ) (q : UnificationOf)
          → running_of n (at_first q others) ≡ goes_on_after C choice clauses n (unifying_of n q) others
      equality_runs zero q = by_answer (unified q) refl where
        by_answer : (o : Option UnifiedOf) → unified q ≡ o
            → running_of 0 (at_first q others) ≡ goes_on_after C choice clauses 0 (unifying_of 0 q) others
        by_answer (Some r) is =
            goes_on_now 0 q r is
            ∙ ap (λ e. goes_on_after C choice clauses 0 e others)
            (sym (run_answered UnificationOf UnifiedOf unified (unify_step (put_rest C)) 0 q r is))
        by_answer None none =
            run_spent (State C.ItemOf C.StepOf) (Answer C.ItemOf C.StepOf) answer (step C choice clauses) (at_first q others) (no_answer q none)
            ∙ ap (λ e. goes_on_after C choice clauses 0 e others)
            (sym (run_spent UnificationOf UnifiedOf unified (unify_step (put_rest C)) q none))
      equality_runs (suc n) q = by_answer (unified q) refl (equality_runs n (unify_step (put_rest C) q)) where
        by_answer : (o : Option UnifiedOf) → unified q ≡ o
            → running_of n (at_first (unify_step (put_rest C) q) others)
            ≡ goes_on_after C choice clauses n (unifying_of n (unify_step (put_rest C) q)) others
            → running_of (suc n) (at_first q others) ≡ goes_on_after C choice clauses (suc n) (unifying_of (suc n) q) others
        by_answer (Some r) is later =
            goes_on_now (suc n) q r is
            ∙ ap (λ e. goes_on_after C choice clauses (suc n) e others)
            (sym (run_answered UnificationOf UnifiedOf unified (unify_step (put_rest C)) (suc n) q r is))
        by_answer None none later =
            run_going (State C.ItemOf C.StepOf) (Answer C.ItemOf C.StepOf) answer (step C choice clauses) n (at_first q others) (no_answer q none)
            ∙ ap (λ s. one_more (running_of n s)) (step_again q none)
            ∙ ap one_more later
            ∙ goes_on_more n (unifying_of n (unify_step (put_rest C) q))
            ∙ ap (λ e. goes_on_after C choice clauses (suc n) e others)
            (sym (run_going UnificationOf UnifiedOf unified (unify_step (put_rest C)) n q none))

pub equality_unified : EqualityIsUnified
equality_unified clauses n q others = equality_runs no_calculus others fits clauses n q
