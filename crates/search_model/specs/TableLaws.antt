-- What the goal lists of a table owe.
use Rattle.std.specs.Prelude.{ℕ, ◌≤◌, List, ◌++◌, length, Contains}
use Rattle.std.specs.List.{All}
use Rattle.fpc_terms.specs.Term.{Term}
use Rattle.fpc_terms.specs.Open.{Level, IsClosing}
use Rattle.polarised_formulas.specs.declared.step.Step.{Step}
use Rattle.clause_language.specs.declared.clause.Clause.{Clause}
use Rattle.clause_language.specs.declared.declaration.DeclaredFormula.{DeclaredFormula}
use Rattle.search_model.specs.Lawful.{AreGoals, Spelled}
use Rattle.search_model.specs.Search.{GoalList}
use Rattle.search_model.specs.Table.{ItemOn, Table, calculus_of}

-- each declared formula has at most 255 parameters
abbrev pub HaveFewParameters : List DeclaredFormula → Type 0
HaveFewParameters declared = All (λ (d : DeclaredFormula). d.parameters ≤ 255) declared

-- The goal lists of an item are goals, and they are sound: where the goals of one list are met,
-- the item is completed by the steps that they spell. With the laws of the table's sequents this
-- makes its calculus lawful.
pub record AreSoundLines (T : Table) (clauses : List Clause) : Type 0 where
  pub expands : (levels : List Level) (x : ItemOn T.SequentOf)
      → (calculus_of T).IsOpenItem (length levels) x → (calculus_of T).IsScopedItem levels x
      → (e : GoalList (ItemOn T.SequentOf) Step) → Contains (T.expand x (length levels)) e
      → AreGoals (calculus_of T) (levels ++ e.new) e.goals
  pub sound : (levels : List Level) (x : ItemOn T.SequentOf)
      → (calculus_of T).IsOpenItem (length levels) x → (calculus_of T).IsScopedItem levels x
      → (e : GoalList (ItemOn T.SequentOf) Step) → Contains (T.expand x (length levels)) e
      → (s : ℕ → Term) → IsClosing (levels ++ e.new) s
      → (steps : List Step) → Spelled (calculus_of T) clauses s e.goals steps
      → T.Completed ((calculus_of T).put_item s x) steps
