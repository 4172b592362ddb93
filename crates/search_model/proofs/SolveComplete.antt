-- Completeness of rejection for the search over clauses alone.
use Rattle.std.specs.Prelude.{◌≡◌, ℕ, None, List, [], ◌∷◌, replicate}
use Rattle.std.proofs.Common.{sym, subst}
use Rattle.std.proofs.lemmas.List.{length-replicate}
use Rattle.std.proofs.lemmas.List.Elements.{All-nil, All-cons}
use Rattle.fpc_terms.specs.Term.{Term}
use Rattle.fpc_terms.specs.Open.{IsGround, AreOpen, Level}
use Rattle.clause_language.specs.declared.atom.Atom.{Atom}
use Rattle.clause_language.specs.declared.clause.Clause.{Clause}
use Rattle.clause_language.specs.LeastModel.{put_atom, Holds, AreOpenClauses, fits}
use Rattle.search_model.specs.Run.{ended}
use Rattle.search_model.specs.Search.{call, rejected}
use Rattle.search_model.specs.Lawful.{IsGoal, AreGoals, IsComplete}
use Rattle.search_model.specs.Solve.{no_calculus, solving}
use Rattle.search_model.proofs.SolveFacts.{no_calculus_lawful}
use Rattle.search_model.proofs.Complete.{rejected_none}
use Rattle.search_model.proofs.ChoiceFacts.{fits_is_choice}

-- without items there is nothing to complete
pub no_calculus_complete : (clauses : List Clause) → IsComplete no_calculus clauses
no_calculus_complete clauses = record { given = λ levels x o scoped s closing steps completed. absurd o }

-- where the search rejects an atom, no ground instance of it holds
pub rejected_holds_not : (clauses : List Clause) → AreOpenClauses clauses → (b : Atom) (variables : ℕ) → AreOpen variables b.arguments
    → (budget units : ℕ) → solving clauses budget b variables ≡ ended rejected units
    → (s : ℕ → Term) → ((n : ℕ) → IsGround (s n)) → Holds clauses (put_atom s b) → ⊥
rejected_holds_not clauses are_clauses b variables open_arguments budget units ends s ground_at holds =
    let levels : List Level = replicate variables None in
    let is_goal : IsGoal no_calculus levels (call b) = subst (λ k. AreOpen k b.arguments) (sym (length-replicate variables None)) open_arguments in
    let are : AreGoals no_calculus levels (call b ∷ []) = All-cons (IsGoal no_calculus levels) (call b) [] is_goal (All-nil (IsGoal no_calculus levels)) in
    rejected_none no_calculus fits fits_is_choice clauses (no_calculus_lawful clauses) (no_calculus_complete clauses) are_clauses budget (call b) b.arguments variables are
    open_arguments units ends s ground_at holds
