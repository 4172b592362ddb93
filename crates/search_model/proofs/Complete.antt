-- Completeness of rejection: where a search ends without alternatives, no closing meets its goal.
use Rattle.std.specs.Prelude.{◌≡◌, ℕ, Some, None, List, [], ◌∷◌, map, length, replicate}
use Rattle.std.proofs.Common.{sym, subst, inl, inr, ◌⊎◌}
use Rattle.std.proofs.lemmas.List.{length-replicate}
use Rattle.std.proofs.lemmas.List.Elements.{All-nil, All-cons, All-head, All-tail}
use mathlib.Core.Path.{refl}
use Rattle.fpc_terms.specs.Term.{Term, put}
use Rattle.fpc_terms.specs.Open.{IsGround, IsOpen, AreOpen, Level, level_of, IsClosing}
use Rattle.fpc_terms.specs.Equality.{equality, walked_node}
use Rattle.fpc_terms.proofs.EqualityFacts.{means_equality, equality_walks}
use Rattle.clause_language.specs.declared.clause.Clause.{Clause}
use Rattle.clause_language.specs.LeastModel.{AreOpenClauses}
use Rattle.search_model.specs.Run.{run, ended}
use Rattle.search_model.specs.Search.{SearchCalculus, Choice, call, equate, emit, item, between, walking, Answer, rejected, with_goals, answer_of, answer}
use Rattle.search_model.specs.Search.{by_clauses, taken, step_of, step, start, search}
use Rattle.search_model.specs.Lawful.{IsGoal, AreGoals, IsLawful, IsComplete, IsChoice}
use Rattle.search_model.proofs.ClosingFacts.{closing_free}
use Rattle.search_model.proofs.GoalsMet.{IsMet, AreMet}
use Rattle.search_model.proofs.Fine.{IsFine, IsStateFine}
use Rattle.fpc_terms.proofs.RunFacts.{kept}
use Rattle.search_model.proofs.Sound.{step_fine, start_fine}
use Rattle.search_model.proofs.Covered.{GoalOf, AlternativeOf, StateOf, IsCoveredBy, IsCovered, IsOneCovered, IsStateCovered}
use Rattle.search_model.proofs.Covered.{rest_covered, equated_others, behind_others, equated_covered, node_covered}
use Rattle.search_model.proofs.CoveredGoals.{others_covered, call_covered, item_covered}

module _ (C : SearchCalculus) (choice : Choice) (clauses : List Clause) where
  -- a goal is taken of an alternative before others, of which one is covered
  taken_others : (z : List Term) (g : GoalOf C) (a : AlternativeOf C) (others : List (AlternativeOf C)) → IsOneCovered C clauses z others
      → IsStateCovered C clauses z (taken C choice clauses g a others)
  taken_others z (call b) a others h = others_covered C clauses z a others (by_clauses C choice b (length a.levels) clauses) h
  taken_others z (equate t u) a others h = equated_others C clauses z a others h (equality t u)
  taken_others z (emit e) a others h = inr h
  taken_others z (item x) a others h = others_covered C clauses z a others (C.expand x (length a.levels)) h

  module _ (is_choice : IsChoice choice) (lawful : IsLawful C clauses)
      (complete : IsComplete C clauses) (z : List Term) where
    -- a goal is taken of an alternative that is covered
    taken_covered : (g : GoalOf C) (a : AlternativeOf C) (others : List (AlternativeOf C))
        → IsFine C clauses (λ _ _. Unit {0}) (with_goals a (g ∷ a.goals)) → (s : ℕ → Term) → IsCoveredBy C clauses z (with_goals a (g ∷ a.goals)) s
        → IsStateCovered C clauses z (taken C choice clauses g a others)
    taken_covered (call b) a others fine s c =
        let open_arguments : AreOpen (length a.levels) b.arguments = All-head (IsGoal C a.levels) (call b) a.goals fine.goals_are in
        let goals : AreGoals C a.levels a.goals = All-tail (IsGoal C a.levels) (call b) a.goals fine.goals_are in
        call_covered C clauses lawful complete z a others goals fine.asked_open s choice is_choice b
        open_arguments c
    taken_covered (equate t u) a others fine s c =
        let equal : put s t ≡ put s u = All-head (IsMet C clauses s) (equate t u) a.goals c.met in
        equated_covered C clauses z lawful a others t u (equality t u) s c (means_equality s t u equal) (equality_walks t u)
    taken_covered (emit e) a others fine s c =
        let rest : IsCoveredBy C clauses z a s = rest_covered C clauses z a (emit e) s c in
        inl (s, record { closing = rest.closing; met = rest.met; asked_is = rest.asked_is })
    taken_covered (item x) a others fine s c =
        let is_goal : IsGoal C a.levels (item x) = All-head (IsGoal C a.levels) (item x) a.goals fine.goals_are in
        let goals : AreGoals C a.levels a.goals = All-tail (IsGoal C a.levels) (item x) a.goals fine.goals_are in
        item_covered C clauses lawful complete z a others goals fine.asked_open s x is_goal c

    -- the first goal of the first alternative is taken
    first_taken : (goals : List (GoalOf C)) (a : AlternativeOf C) (others : List (AlternativeOf C))
        → IsFine C clauses (λ _ _. Unit {0}) (with_goals a goals) → IsCovered C clauses z (with_goals a goals) ⊎ IsOneCovered C clauses z others
        → IsStateCovered C clauses z (step_of C choice clauses goals (with_goals a goals) others)
    first_taken [] a others fine h = h
    first_taken (g ∷ goals) a others fine (inl h) = taken_covered g (with_goals a goals) others fine h.0 h.1
    first_taken (g ∷ goals) a others fine (inr h) = taken_others z g (with_goals a goals) others h

    -- after a step some alternative is covered as before
    pub step_covers : (q : StateOf C) → IsStateFine C clauses (λ _ _. Unit {0}) q → IsStateCovered C clauses z q
        → IsStateCovered C clauses z (step C choice clauses q)
    step_covers (between []) fine h = h
    step_covers (between (a ∷ others)) fine h = first_taken a.goals a others (All-head (IsFine C clauses (λ _ _. Unit {0})) a others fine) h
    step_covers (walking v t x xs a others) fine (inl h) = node_covered C clauses z lawful a others v t x xs h
    step_covers (walking v t x xs a others) fine (inr h) = behind_others C clauses z a others h v t (walked_node v (level_of a.levels v) x) xs

  -- before an alternative the search does not reject
  not_rejected : (goals : List (GoalOf C)) (a : AlternativeOf C) → answer_of goals a ≡ Some rejected → ⊥
  not_rejected [] a e = cc
  not_rejected (g ∷ goals) a e = cc

  -- a state in which some alternative is covered is no rejection
  rejected_uncovered : (z : List Term) (q : StateOf C) → IsStateCovered C clauses z q → answer q ≡ Some rejected → ⊥
  rejected_uncovered z (between []) h e = h
  rejected_uncovered z (between (a ∷ others)) h e = not_rejected a.goals a e
  rejected_uncovered z (walking v t x xs a others) h e = cc

  -- ground terms that meet the goal of a search cover its start, since its variables have no level
  start_covered : (g : GoalOf C) (asked : List Term) (variables : ℕ) (s : ℕ → Term) → ((n : ℕ) → IsGround (s n)) → IsMet C clauses s g
      → IsStateCovered C clauses (map (put s) asked) (start g asked variables)
  start_covered g asked variables s ground_at met = inl (s, record { closing = closing; met = each; asked_is = refl })
    where
      closing : IsClosing (replicate variables None) s
      closing = closing_free variables s ground_at

      each : AreMet C clauses s (g ∷ [])
      each = All-cons (IsMet C clauses s) g [] met (All-nil (IsMet C clauses s))

  module _ (is_choice : IsChoice choice) (lawful : IsLawful C clauses)
      (complete : IsComplete C clauses) (are_clauses : AreOpenClauses clauses) (z : List Term) where
    -- what each step keeps
    abbrev IsKept : StateOf C → Type 0
    IsKept q = IsStateFine C clauses (λ _ _. Unit {0}) q × IsStateCovered C clauses z q

    keeps : (q : StateOf C) → answer q ≡ None → IsKept q → IsKept (step C choice clauses q)
    keeps q none h = (
      step_fine C choice is_choice clauses lawful (λ _ _. Unit {0}) are_clauses q h.0,
      step_covers is_choice lawful complete z q h.0 h.1,
    )

    -- from a state in which some alternative is covered no run ends in a rejection
    pub covered_not_rejected : (budget : ℕ) (q : StateOf C) (units : ℕ) → IsKept q → run answer (step C choice clauses) budget q ≡ ended rejected units → ⊥
    covered_not_rejected budget q units h ends =
        let last = kept (StateOf C) (Answer C.ItemOf C.StepOf) answer (step C choice clauses) IsKept keeps budget q rejected units h ends in
        rejected_uncovered z last.0 last.1.1 last.2

-- where the search rejects a goal, no ground terms for its variables meet it
pub rejected_none : (C : SearchCalculus) (choice : Choice) → IsChoice choice
    → (clauses : List Clause) → IsLawful C clauses → IsComplete C clauses → AreOpenClauses clauses
    → (budget : ℕ) (g : GoalOf C) (asked : List Term) (variables : ℕ) → AreGoals C (replicate variables None) (g ∷ []) → AreOpen variables asked
    → (units : ℕ) → search C choice clauses budget g asked variables ≡ ended rejected units
    → (s : ℕ → Term) → ((n : ℕ) → IsGround (s n)) → IsMet C clauses s g → ⊥
rejected_none C choice is_choice clauses lawful complete are_clauses budget g asked variables are
    open_asked units ends s ground_at met =
    let fine = start_fine C choice is_choice clauses lawful (λ _ _. Unit {0}) g asked variables are open_asked (λ _ _ _ _. tt) in
    let covered = start_covered C choice clauses g asked variables s ground_at met in
    covered_not_rejected C choice clauses is_choice lawful complete are_clauses (map (put s) asked) budget
    (start g asked variables) units (fine, covered) ends

-- where the search rejects an item, no ground terms for its variables complete it
pub rejected_item : (C : SearchCalculus) (choice : Choice) → IsChoice choice
    → (clauses : List Clause) → IsLawful C clauses → IsComplete C clauses → AreOpenClauses clauses
    → (budget : ℕ) (x : C.ItemOf) (variables : ℕ) → C.IsOpenItem variables x → C.IsScopedItem (replicate variables None) x
    → (units : ℕ) → search C choice clauses budget (item x) [] variables ≡ ended rejected units
    → (s : ℕ → Term) → ((n : ℕ) → IsGround (s n)) → (steps : List C.StepOf) → C.Completed (C.put_item s x) steps → ⊥
rejected_item C choice is_choice clauses lawful complete are_clauses budget x variables open_item scoped units ends s ground_at steps completed =
    let levels : List Level = replicate variables None in
    let is_goal : IsGoal C levels (item x) = (subst (λ k. C.IsOpenItem k x) (sym (length-replicate variables None)) open_item, scoped) in
    let are : AreGoals C levels (item x ∷ []) = All-cons (IsGoal C levels) (item x) [] is_goal (All-nil (IsGoal C levels)) in
    rejected_none C choice is_choice clauses lawful complete are_clauses budget (item x) [] variables are
    (All-nil (IsOpen variables)) units ends s ground_at (steps, completed)
