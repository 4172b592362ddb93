-- Facts of calls and their alternatives.
use Rattle.std.specs.Prelude.{◌≡◌, ℕ, List, ◌++◌, map, length, replicate, None, refl}
use Rattle.fpc_terms.specs.Open.{Level, later}
use Rattle.fpc_terms.specs.Term.{Term, put}
use Rattle.clause_language.specs.declared.atom.Atom.{Atom}
use Rattle.clause_language.specs.declared.clause.Clause.{Clause}
use Rattle.clause_language.specs.LeastModel.{put_atom}
use Rattle.search_model.specs.Search.{SearchCalculus, Goal, Alternative, by_clause, call, equalities, extended}
use Rattle.search_model.proofs.StateFacts.{equalities-append}

-- the alternative in which a clause answers a call, from its pieces
module _ (C : SearchCalculus) (rest : Alternative C.ItemOf C.StepOf) (atom : Atom) (clause : Clause) (offset : ℕ) (head : List Term) where
  pub answered-is : (next : Alternative C.ItemOf C.StepOf) (called goals : List (Goal C.ItemOf C.StepOf)) (levels : List Level)
      → next ≡ rest → offset ≡ length next.levels → head ≡ map (put (later offset)) clause.head.arguments
      → called ≡ map (λ b. call (put_atom (later offset) b)) clause.body ++ next.goals → goals ≡ equalities atom.arguments head called
      → levels ≡ next.levels ++ replicate clause.variables None
      → record { goals = goals; emitted = next.emitted; asked = next.asked; levels = levels }
      ≡ extended rest (by_clause C atom (length rest.levels) clause)
  answered-is next called goals levels same at heads calls all lowered =
      rw (all, calls, heads, lowered, at, same) (rw (equalities-append atom.arguments (map (put (later (length rest.levels))) clause.head.arguments) (map (λ b. call (put_atom (later (length rest.levels)) b)) clause.body) rest.goals) refl)
