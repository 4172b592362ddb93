-- Goals that a closing meets, whatever steps they spell.
use Rattle.std.specs.Prelude.{◌≡◌, ℕ, List, [], ◌∷◌}
use Rattle.std.specs.List.{All}
use Rattle.std.proofs.lemmas.List.Elements.{All-nil, All-cons}
use Rattle.fpc_terms.specs.Term.{Term, put}
use Rattle.clause_language.specs.declared.clause.Clause.{Clause}
use Rattle.clause_language.specs.LeastModel.{put_atom, Holds}
use Rattle.search_model.specs.Search.{SearchCalculus, Goal, call, equate, emit, item}
use Rattle.search_model.specs.Lawful.{Spelled}

module _ (C : SearchCalculus) (clauses : List Clause) where
  -- the goal is met: the call holds, the equality is true, the item is completed by some steps
  abbrev pub IsMet : (ℕ → Term) → Goal C.ItemOf C.StepOf → Type 0
  IsMet s (call a) = Holds clauses (put_atom s a)
  IsMet s (equate t u) = put s t ≡ put s u
  IsMet s (emit e) = Unit {0}
  IsMet s (item x) = (steps : List C.StepOf) × C.Completed (C.put_item s x) steps

  -- each goal is met
  abbrev pub AreMet : (ℕ → Term) → List (Goal C.ItemOf C.StepOf) → Type 0
  AreMet s goals = All (IsMet s) goals

  -- goals that spell some steps are met
  pub spelled_met : (s : ℕ → Term) (goals : List (Goal C.ItemOf C.StepOf)) (steps : List C.StepOf) → Spelled C clauses s goals steps → AreMet s goals
  spelled_met s [] steps h = All-nil (IsMet s)
  spelled_met s (call a ∷ goals) steps h = All-cons (IsMet s) (call a) goals h.0 (spelled_met s goals steps h.1)
  spelled_met s (equate t u ∷ goals) steps h = All-cons (IsMet s) (equate t u) goals h.0 (spelled_met s goals steps h.1)
  spelled_met s (emit e ∷ goals) steps h = All-cons (IsMet s) (emit e) goals tt (spelled_met s goals h.0 h.2)
  spelled_met s (item x ∷ goals) steps h = All-cons (IsMet s) (item x) goals (h.0, h.3) (spelled_met s goals h.1 h.4)
