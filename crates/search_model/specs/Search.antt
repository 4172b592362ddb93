-- The search: over clauses, and over the items of a calculus (its sequents and choices) with
-- their steps.
use Rattle.std.specs.Prelude.{ℕ, Bool, true, false, Option, Some, None}
use Rattle.std.specs.Prelude.{List, [], ◌∷◌, ◌++◌, map, length, replicate}
use Rattle.fpc_terms.specs.Term.{Term, Args, put}
use Rattle.fpc_terms.specs.Open.{Level, later}
use Rattle.fpc_terms.specs.Equality.{Equality}
use Rattle.fpc_terms.specs.Run.{Ending, run}
use Rattle.fpc_terms.specs.Unification.{Equation, Problem, Unification, unifying, walking_through}
use Rattle.fpc_terms.specs.Unification.{clashed, equations_before, solved_by, after_equality}
use Rattle.fpc_terms.specs.Unification.{unify_step}
use Rattle.clause_language.specs.declared.atom.Atom.{Atom}
use Rattle.clause_language.specs.declared.clause.Clause.{Clause}
use Rattle.clause_language.specs.LeastModel.{put_atom}

-- What is left to be shown: an atom holds, two terms are equal, a step is emitted, an item of the
-- calculus is expanded.
pub data Goal (I S : Type 0) : Type 0 where
  call : Atom → Goal I S
  equate : Term → Term → Goal I S
  emit : S → Goal I S
  item : I → Goal I S

-- one list of goals that an item or a call may be replaced by, with the levels of its new variables
pub record GoalList (I S : Type 0) : Type 0 where
  pub goals : List (Goal I S)
  pub new : List Level

-- Which clauses may answer the call of an atom, by their heads.
abbrev pub Choice : Type 0
Choice = Atom → Atom → Bool

-- What the search reads of a calculus with its program.
pub record SearchCalculus : Type 1 where
  pub ItemOf : Type 0
  pub StepOf : Type 0
  -- an item and a step with a term for each variable
  pub put_item : (ℕ → Term) → ItemOf → ItemOf
  pub put_step : (ℕ → Term) → StepOf → StepOf
  -- the goal lists for an item, whose new variables are numbered from here on
  pub expand : ItemOf → ℕ → List (GoalList ItemOf StepOf)
  -- a guided completion of an item without variables, which spells these steps
  pub Completed : ItemOf → List StepOf → Type 0
  -- the item, or the step, is open, with variables numbered below this
  pub IsOpenItem : ℕ → ItemOf → Type 0
  pub IsOpenStep : ℕ → StepOf → Type 0
  -- the formulas of the item are in scope at its level, under these levels of its variables
  pub IsScopedItem : List Level → ItemOf → Type 0

-- An alternative: the goals that are left, the steps so far, what was asked (the arguments of an
-- atom) as it now is, and the levels of its variables in the order of their numbers.
pub record Alternative (I S : Type 0) : Type 0 where
  pub goals : List (Goal I S)
  pub emitted : List S
  pub asked : List Term
  pub levels : List Level

-- an alternative without its levels
pub record Rest (I S : Type 0) : Type 0 where
  pub goals : List (Goal I S)
  pub emitted : List S
  pub asked : List Term

-- A state: alternatives, the first one first; or a walk through the term t for the variable v, at
-- the node x with xs to come, in the first alternative, whose equality was taken.
pub data State (I S : Type 0) : Type 0 where
  between : List (Alternative I S) → State I S
  walking : (v : ℕ) → (t : Term) → (x : Term) → (xs : Args) → (first : Alternative I S)
      → (others : List (Alternative I S)) → State I S

-- how a search ends: with the alternative that has no goal left, or without alternatives
pub data Answer (I S : Type 0) : Type 0 where
  accepted : Alternative I S → Answer I S
  rejected : Answer I S

module _ {I S : Type 0} where
  -- equations as equalities before other goals
  abbrev pub goals_before : List Equation → List (Goal I S) → List (Goal I S)
  goals_before [] goals = goals
  goals_before (e ∷ es) goals = equate e.left e.right ∷ goals_before es goals

  -- the equalities of two lists of terms, from the left, before other goals
  abbrev pub equalities : List Term → List Term → List (Goal I S) → List (Goal I S)
  equalities ts us goals = goals_before (equations_before ts us []) goals

  -- equations are to be solved before the goals of an alternative
  abbrev pub problem_of : List Equation → Alternative I S → Problem (Rest I S)
  problem_of es a = record {
    equations = es;
    rest = record { goals = a.goals; emitted = a.emitted; asked = a.asked };
    levels = a.levels;
  }

  -- a problem as an alternative
  abbrev pub of_problem : Problem (Rest I S) → Alternative I S
  of_problem p = record {
    goals = goals_before p.equations p.rest.goals;
    emitted = p.rest.emitted;
    asked = p.rest.asked;
    levels = p.levels;
  }

  -- the state in which the first alternative is at this state of unification
  abbrev pub at_first : Unification (Rest I S) → List (Alternative I S) → State I S
  at_first (unifying p) others = between (of_problem p ∷ others)
  at_first (walking_through v t x xs p) others = walking v t x xs (of_problem p) others
  at_first clashed others = between others

  -- the goal list before the goals that are left
  abbrev pub extended : Alternative I S → GoalList I S → Alternative I S
  extended a e = record a { goals = e.goals ++ a.goals; levels = a.levels ++ e.new }

  -- the alternative's first goal was taken
  abbrev pub with_goals : Alternative I S → List (Goal I S) → Alternative I S
  with_goals a goals = record a { goals = goals }

  -- an alternative without goals is accepted
  abbrev pub answer_of : List (Goal I S) → Alternative I S → Option (Answer I S)
  answer_of [] a = Some (accepted a)
  answer_of (g ∷ goals) a = None

  -- the answer in a state, where the search ends there
  abbrev pub answer : State I S → Option (Answer I S)
  answer (between []) = Some rejected
  answer (between (a ∷ others)) = answer_of a.goals a
  answer (walking v t x xs a others) = None

  -- the search begins with one goal, and so many variables without level
  abbrev pub start : Goal I S → List Term → ℕ → State I S
  start g asked variables =
      between (record {
        goals = g ∷ [];
        emitted = [];
        asked = asked;
        levels = replicate variables None;
      } ∷ [])

module _ (C : SearchCalculus) where
  -- a goal with a term for each variable
  abbrev pub put_goal : (ℕ → Term) → Goal C.ItemOf C.StepOf → Goal C.ItemOf C.StepOf
  put_goal s (call a) = call (put_atom s a)
  put_goal s (equate t u) = equate (put s t) (put s u)
  put_goal s (emit e) = emit (C.put_step s e)
  put_goal s (item x) = item (C.put_item s x)

  -- the rest with a term for each variable
  abbrev pub put_rest : (ℕ → Term) → Rest C.ItemOf C.StepOf → Rest C.ItemOf C.StepOf
  put_rest s r = record {
    goals = map (put_goal s) r.goals;
    emitted = map (C.put_step s) r.emitted;
    asked = map (put s) r.asked;
  }

  -- the alternative with t for the variable v everywhere, and the levels of the variables of t
  -- lowered to that of v
  abbrev pub bound_to : ℕ → Term → Alternative C.ItemOf C.StepOf → Alternative C.ItemOf C.StepOf
  bound_to v t a = of_problem (solved_by put_rest v t (problem_of [] a))

  -- the goal list by which a clause answers the call of an atom: the clause's variables are
  -- renamed apart, to those from k on, and have no level
  abbrev pub by_clause : Atom → ℕ → Clause → GoalList C.ItemOf C.StepOf
  by_clause a k c = record {
    goals = equalities a.arguments (map (put (later k)) c.head.arguments)
        (map (λ b. call (put_atom (later k) b)) c.body);
    new = replicate c.variables None;
  }

  -- one goal list more, under a condition
  abbrev pub where_it_fits : Bool → GoalList C.ItemOf C.StepOf
      → List (GoalList C.ItemOf C.StepOf) → List (GoalList C.ItemOf C.StepOf)
  where_it_fits true e es = e ∷ es
  where_it_fits false e es = es

  -- the goal lists for a call: one for each clause whose head is chosen for the atom, in order
  abbrev pub by_clauses : Choice → Atom → ℕ → List Clause → List (GoalList C.ItemOf C.StepOf)
  by_clauses choice a k [] = []
  by_clauses choice a k (c ∷ cs) =
      where_it_fits (choice a c.head) (by_clause a k c) (by_clauses choice a k cs)

  -- the state after an equality, which the first alternative has lost
  abbrev pub equated : Equality → Alternative C.ItemOf C.StepOf
      → List (Alternative C.ItemOf C.StepOf) → State C.ItemOf C.StepOf
  equated e a others = at_first (after_equality put_rest e (problem_of [] a)) others

module _ (C : SearchCalculus) (choice : Choice) (clauses : List Clause) where
  -- a goal is taken, which the first alternative has lost
  abbrev pub taken : Goal C.ItemOf C.StepOf → Alternative C.ItemOf C.StepOf
      → List (Alternative C.ItemOf C.StepOf) → State C.ItemOf C.StepOf
  taken (call b) a others =
      between (map (extended a) (by_clauses C choice b (length a.levels) clauses) ++ others)
  taken (equate t u) a others =
      let p : Problem (Rest C.ItemOf C.StepOf) =
      problem_of (record { left = t; right = u } ∷ []) a in
      at_first (unify_step (put_rest C) (unifying p)) others
  taken (emit e) a others = between (record a { emitted = a.emitted ++ e ∷ [] } ∷ others)
  taken (item x) a others = between (map (extended a) (C.expand x (length a.levels)) ++ others)

  -- the first goal of the first alternative is taken
  abbrev pub step_of : List (Goal C.ItemOf C.StepOf) → Alternative C.ItemOf C.StepOf
      → List (Alternative C.ItemOf C.StepOf) → State C.ItemOf C.StepOf
  step_of [] a others = between (a ∷ others)
  step_of (g ∷ goals) a others = taken g (with_goals a goals) others

  -- what one unit does
  abbrev pub step : State C.ItemOf C.StepOf → State C.ItemOf C.StepOf
  step (between []) = between []
  step (between (a ∷ others)) = step_of a.goals a others
  step (walking v t x xs a others) =
      at_first (unify_step (put_rest C) (walking_through v t x xs (problem_of [] a))) others

  -- the search for one goal within a budget
  abbrev pub search : ℕ → Goal C.ItemOf C.StepOf → List Term → ℕ
      → Ending (Answer C.ItemOf C.StepOf)
  search budget g asked variables = run answer step budget (start g asked variables)
