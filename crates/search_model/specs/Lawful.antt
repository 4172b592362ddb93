-- What a calculus owes the search.
use Rattle.std.specs.Prelude.{◌≡◌, ℕ, ◌<◌, ◌≤◌, ◌-◌, true, nat_lt, if◌then◌else◌, Some, None}
use Rattle.std.specs.Prelude.{List, [], ◌∷◌, ◌++◌, map, length, Contains}
use Rattle.std.specs.List.{All}
use Rattle.fpc_terms.specs.Term.{Term, variable, put, Each, Never}
use Rattle.fpc_terms.specs.Open.{IsOpen, AreOpen, IsOpenAt, Level, level_of, IsClosing, IsAtMost, later}
use Rattle.clause_language.specs.declared.atom.Atom.{Atom}
use Rattle.clause_language.specs.declared.clause.Clause.{Clause}
use Rattle.clause_language.specs.LeastModel.{put_atom, Holds, fits}
use Rattle.search_model.specs.Search.{SearchCalculus, Choice, Goal, call, equate, emit, item}
use Rattle.search_model.specs.Search.{GoalList, put_goal}

module _ (C : SearchCalculus) (clauses : List Clause) where
  -- under a closing the calls hold, the equalities are true and the items are completed; together
  -- they spell these steps
  abbrev pub Spelled : (ℕ → Term) → List (Goal C.ItemOf C.StepOf) → List C.StepOf → Type 0
  Spelled s [] steps = steps ≡ []
  Spelled s (call a ∷ goals) steps = Holds clauses (put_atom s a) × Spelled s goals steps
  Spelled s (equate t u ∷ goals) steps = (put s t ≡ put s u) × Spelled s goals steps
  Spelled s (emit e ∷ goals) steps =
      (rest : List C.StepOf) × (steps ≡ C.put_step s e ∷ rest) × Spelled s goals rest
  Spelled s (item x ∷ goals) steps =
      (first rest : List C.StepOf) × (steps ≡ first ++ rest) × C.Completed (C.put_item s x) first
      × Spelled s goals rest

module _ (C : SearchCalculus) where
  -- the variables of a goal have these levels, and an item is in scope
  abbrev pub IsGoal : List Level → Goal C.ItemOf C.StepOf → Type 0
  IsGoal levels (call a) = AreOpen (length levels) a.arguments
  IsGoal levels (equate t u) = IsOpen (length levels) t × IsOpen (length levels) u
  IsGoal levels (emit e) = C.IsOpenStep (length levels) e
  IsGoal levels (item x) = C.IsOpenItem (length levels) x × C.IsScopedItem levels x

  -- each goal is one
  abbrev pub AreGoals : List Level → List (Goal C.ItemOf C.StepOf) → Type 0
  AreGoals levels goals = All (IsGoal levels) goals

-- A lawful calculus. Terms that are substituted for variables compose, count only for the
-- variables that occur, and keep items and steps open and items in scope. The goal lists of an
-- item are goals. The table is sound: where the goals of one list are met, the item is completed
-- by the steps that they spell.
pub record IsLawful (C : SearchCalculus) (clauses : List Clause) : Type 0 where
  pub item-put : (s r : ℕ → Term) (x : C.ItemOf)
      → C.put_item s (C.put_item r x) ≡ C.put_item (λ n. put s (r n)) x
  pub step-put : (s r : ℕ → Term) (e : C.StepOf)
      → C.put_step s (C.put_step r e) ≡ C.put_step (λ n. put s (r n)) e
  pub item_same : (x : C.ItemOf) → C.put_item variable x ≡ x
  pub step_same : (e : C.StepOf) → C.put_step variable e ≡ e
  pub item_agrees : (k : ℕ) (s r : ℕ → Term) → ((n : ℕ) → n < k → s n ≡ r n)
      → (x : C.ItemOf) → C.IsOpenItem k x → C.put_item s x ≡ C.put_item r x
  pub step_agrees : (k : ℕ) (s r : ℕ → Term) → ((n : ℕ) → n < k → s n ≡ r n)
      → (e : C.StepOf) → C.IsOpenStep k e → C.put_step s e ≡ C.put_step r e
  pub open_put : (j k : ℕ) (r : ℕ → Term) → ((n : ℕ) → n < j → IsOpen k (r n))
      → (x : C.ItemOf) → C.IsOpenItem j x → C.IsOpenItem k (C.put_item r x)
  pub step_open_put : (j k : ℕ) (r : ℕ → Term) → ((n : ℕ) → n < j → IsOpen k (r n))
      → (e : C.StepOf) → C.IsOpenStep j e → C.IsOpenStep k (C.put_step r e)
  pub open_more : (j k : ℕ) → j ≤ k → (x : C.ItemOf) → C.IsOpenItem j x → C.IsOpenItem k x
  pub step_open_more : (j k : ℕ) → j ≤ k → (e : C.StepOf) → C.IsOpenStep j e → C.IsOpenStep k e
  pub scoped_put : (levels after : List Level) (r : ℕ → Term)
      → ((n : ℕ) → n < length levels → IsOpenAt after (level_of levels n) (r n))
      → (x : C.ItemOf) → C.IsOpenItem (length levels) x → C.IsScopedItem levels x
      → C.IsScopedItem after (C.put_item r x)
  pub scoped_more : (levels more : List Level) (x : C.ItemOf) → C.IsOpenItem (length levels) x
      → C.IsScopedItem levels x → C.IsScopedItem (levels ++ more) x
  pub expands : (levels : List Level) (x : C.ItemOf) → C.IsOpenItem (length levels) x
      → C.IsScopedItem levels x → (e : GoalList C.ItemOf C.StepOf)
      → Contains (C.expand x (length levels)) e → AreGoals C (levels ++ e.new) e.goals
  pub sound : (levels : List Level) (x : C.ItemOf) → C.IsOpenItem (length levels) x
      → C.IsScopedItem levels x → (e : GoalList C.ItemOf C.StepOf)
      → Contains (C.expand x (length levels)) e
      → (s : ℕ → Term) → IsClosing (levels ++ e.new) s
      → (steps : List C.StepOf) → Spelled C clauses s e.goals steps
      → C.Completed (C.put_item s x) steps

-- s below k, and r from k on
abbrev pub both : ℕ → (ℕ → Term) → (ℕ → Term) → ℕ → Term
both k s r n = if nat_lt n k then s n else r (n - k)

-- A complete calculus: each completion of an item is given by one of its goal lists, under one
-- closing of the new variables, with the same steps.
pub record IsComplete (C : SearchCalculus) (clauses : List Clause) : Type 0 where
  pub given : (levels : List Level) (x : C.ItemOf) → C.IsOpenItem (length levels) x
      → C.IsScopedItem levels x → (s : ℕ → Term) → IsClosing levels s
      → (steps : List C.StepOf) → C.Completed (C.put_item s x) steps
      → (e : GoalList C.ItemOf C.StepOf) × Contains (C.expand x (length levels)) e × (r : ℕ → Term)
      × IsClosing (levels ++ e.new) (both (length levels) s r)
      × Spelled C clauses (both (length levels) s r) e.goals steps

-- a goal list with a term for each variable
abbrev pub put_list : (C : SearchCalculus) → (ℕ → Term) → GoalList C.ItemOf C.StepOf
    → GoalList C.ItemOf C.StepOf
put_list C s e = record { goals = map (put_goal C s) e.goals; new = e.new }

-- A natural calculus: the goal lists of an item with terms for its variables are those of the item,
-- with the same terms, and with the new variables numbered from k on in place of j.
abbrev pub IsNatural : SearchCalculus → Type 0
IsNatural C = (j k : ℕ) (r : ℕ → Term) → ((n : ℕ) → n < j → IsOpen k (r n))
    → (x : C.ItemOf) → C.IsOpenItem j x
    → C.expand (C.put_item r x) k ≡ map (put_list C (both j r (later k))) (C.expand x j)

-- What a choice owes: it takes only clauses whose head has the atom's name and number of arguments,
-- and each clause of whose head some instance is one of the atom.
pub record IsChoice (choice : Choice) : Type 0 where
  pub only : (a head : Atom) → choice a head ≡ true → fits a head ≡ true
  pub each : (a head : Atom) (s r : ℕ → Term) → put_atom s a ≡ put_atom r head
      → choice a head ≡ true
