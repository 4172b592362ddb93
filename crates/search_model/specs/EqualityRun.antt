-- The search takes an equality as unification does: to its end, in as many units.
use Rattle.std.specs.Prelude.{◌≡◌, ℕ, ◌-◌, List, [], ◌∷◌}
use Rattle.fpc_terms.specs.Run.{Ending, ended, spent, raise, run}
use Rattle.fpc_terms.specs.Unification.{Unification, Unified, solved, unsolvable, unified}
use Rattle.fpc_terms.specs.Unification.{unify_step}
use Rattle.clause_language.specs.declared.clause.Clause.{Clause}
use Rattle.clause_language.specs.LeastModel.{fits}
use Rattle.search_model.specs.Search.{SearchCalculus, Choice, Alternative, Rest, between, Answer}
use Rattle.search_model.specs.Search.{answer, of_problem, at_first, put_rest, step}
use Rattle.search_model.specs.Solve.{Nothing, no_calculus}

-- how a search with n units goes on where unification ended so in its first alternative: from the
-- alternative as it is then, or without it
abbrev pub goes_on_after : (C : SearchCalculus) → Choice → List Clause → ℕ
    → Ending (Unified (Rest C.ItemOf C.StepOf)) → List (Alternative C.ItemOf C.StepOf)
    → Ending (Answer C.ItemOf C.StepOf)
goes_on_after C choice clauses n (ended (solved rest levels) u) others =
    raise u
    (run answer (step C choice clauses) (n - u)
    (between (of_problem (record { equations = []; rest = rest; levels = levels }) ∷ others)))
goes_on_after C choice clauses n (ended unsolvable u) others =
    raise u (run answer (step C choice clauses) (n - u) (between others))
goes_on_after C choice clauses n spent others = spent

-- a search over clauses alone whose first alternative is at a state of unification
abbrev pub EqualityIsUnified : Type 0
EqualityIsUnified = (clauses : List Clause) (n : ℕ) (q : Unification (Rest Nothing Nothing))
    (others : List (Alternative Nothing Nothing))
    → run answer (step no_calculus fits clauses) n (at_first q others)
    ≡ goes_on_after no_calculus fits clauses n
    (run unified (unify_step (put_rest no_calculus)) n q) others
