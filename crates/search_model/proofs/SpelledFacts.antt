-- What goals spell, and whether they are open and in scope, with terms put for variables and with further goals.
use Rattle.std.specs.Prelude.{ℕ, ◌≡◌, ◌<◌, ◌≤◌, List, [], ◌∷◌, ◌++◌, map, length}
use Rattle.std.proofs.Common.{refl, ap, ap₂, sym, subst, ◌∙◌, arith, append_assoc, length-append}
use Rattle.std.proofs.lemmas.List.Elements.{All-map, All-weaker}
use Rattle.fpc_terms.specs.Term.{Term, put}
use Rattle.fpc_terms.specs.Open.{IsOpen, Level, level_of}
use Rattle.fpc_terms.proofs.PutFacts.{put-put, open_put, opens_put, open_more, opens_more}
use Rattle.clause_language.proofs.LeastModelFacts.{put_atom-put_atom}
use Rattle.clause_language.specs.declared.clause.Clause.{Clause}
use Rattle.clause_language.specs.LeastModel.{Holds}
use Rattle.search_model.specs.Search.{SearchCalculus, Goal, call, equate, emit, item, put_goal}
use Rattle.fpc_terms.specs.Open.{IsOpenAt}
use Rattle.search_model.specs.Lawful.{Spelled, IsGoal, AreGoals, IsLawful}

-- later variables may be added
pub length_more : (levels more : List Level) → length levels ≤ length (levels ++ more)
length_more levels more = omega (arith, length-append levels more)

module _ (C : SearchCalculus) (clauses : List Clause) (lawful : IsLawful C clauses) where
  -- what goals spell after terms were put, they spelled under the two together
  pub spelled_put : (s r : ℕ → Term) (goals : List (Goal C.ItemOf C.StepOf)) (steps : List C.StepOf)
      → Spelled C clauses s (map (put_goal C r) goals) steps → Spelled C clauses (λ n. put s (r n)) goals steps
  spelled_put s r [] steps h = h
  spelled_put s r (call a ∷ goals) steps h = (subst (Holds clauses) (put_atom-put_atom s r a) h.0, spelled_put s r goals steps h.1)
  spelled_put s r (equate t u ∷ goals) steps h = (sym (put-put s r t) ∙ h.0 ∙ put-put s r u, spelled_put s r goals steps h.1)
  spelled_put s r (emit e ∷ goals) steps h = (h.0, h.1 ∙ ap (λ x. x ∷ h.0) (lawful.step-put s r e), spelled_put s r goals h.0 h.2)
  spelled_put s r (item x ∷ goals) steps h =
      (h.0, h.1, h.2, subst (λ y. C.Completed y h.0) (lawful.item-put s r x) h.3, spelled_put s r goals h.1 h.4)

  pub steps-put : (s r : ℕ → Term) (steps : List C.StepOf)
      → map (C.put_step s) (map (C.put_step r) steps) ≡ map (C.put_step (λ n. put s (r n))) steps
  steps-put s r [] = refl
  steps-put s r (e ∷ steps) = ap₂ (λ x xs. x ∷ xs) (lawful.step-put s r e) (steps-put s r steps)

  -- goals before others spell the first of the steps, and the others the rest
  pub spelled_parts : (s : ℕ → Term) (goals others : List (Goal C.ItemOf C.StepOf)) (steps : List C.StepOf)
      → Spelled C clauses s (goals ++ others) steps
      → (first rest : List C.StepOf) × (steps ≡ first ++ rest) × Spelled C clauses s goals first × Spelled C clauses s others rest
  spelled_parts s [] others steps h = ([], steps, refl, refl, h)
  spelled_parts s (call a ∷ goals) others steps h =
      let p = spelled_parts s goals others steps h.1 in
      (p.0, p.1, p.2, (h.0, p.3), p.4)
  spelled_parts s (equate t u ∷ goals) others steps h =
      let p = spelled_parts s goals others steps h.1 in
      (p.0, p.1, p.2, (h.0, p.3), p.4)
  spelled_parts s (emit e ∷ goals) others steps h =
      let p = spelled_parts s goals others h.0 h.2 in
      (C.put_step s e ∷ p.0, p.1, h.1 ∙ ap (λ xs. C.put_step s e ∷ xs) p.2, (p.0, refl, p.3), p.4)
  spelled_parts s (item x ∷ goals) others steps h =
      let p = spelled_parts s goals others h.1 h.4 in
      (h.0 ++ p.0, p.1, h.2 ∙ ap (λ xs. h.0 ++ xs) p.2 ∙ sym (append_assoc h.0 p.0 p.1), (h.0, p.0, refl, h.3, p.3), p.4)

  goal_put : (levels after : List Level) (r : ℕ → Term) → ((n : ℕ) → n < length levels → IsOpen (length after) (r n))
      → ((n : ℕ) → n < length levels → IsOpenAt after (level_of levels n) (r n))
      → (g : Goal C.ItemOf C.StepOf) → IsGoal C levels g → IsGoal C after (put_goal C r g)
  goal_put levels after r open_terms at_levels (call a) h = opens_put (length levels) (length after) r open_terms a.arguments h
  goal_put levels after r open_terms at_levels (equate t u) h =
      (open_put (length levels) (length after) r open_terms t h.0, open_put (length levels) (length after) r open_terms u h.1)
  goal_put levels after r open_terms at_levels (emit e) h =
      lawful.step_open_put (length levels) (length after) r open_terms e h
  goal_put levels after r open_terms at_levels (item x) h =
      (lawful.open_put (length levels) (length after) r open_terms x h.0, lawful.scoped_put levels after r at_levels x h.0 h.1)

  -- goals stay open and in scope where the terms that are put are open and in scope at the levels of their variables
  pub goals_put : (levels after : List Level) (r : ℕ → Term) → ((n : ℕ) → n < length levels → IsOpen (length after) (r n))
      → ((n : ℕ) → n < length levels → IsOpenAt after (level_of levels n) (r n))
      → (goals : List (Goal C.ItemOf C.StepOf)) → AreGoals C levels goals → AreGoals C after (map (put_goal C r) goals)
  goals_put levels after r open_terms at_levels goals h =
      All-map (IsGoal C after) (put_goal C r) goals
      (All-weaker (IsGoal C levels) (λ g. IsGoal C after (put_goal C r g)) (goal_put levels after r open_terms at_levels) goals h)

  goal_more : (levels more : List Level) (g : Goal C.ItemOf C.StepOf) → IsGoal C levels g → IsGoal C (levels ++ more) g
  goal_more levels more (call a) h = opens_more (length levels) (length (levels ++ more)) (length_more levels more) a.arguments h
  goal_more levels more (equate t u) h =
      let le = length_more levels more in
      (open_more (length levels) (length (levels ++ more)) le t h.0, open_more (length levels) (length (levels ++ more)) le u h.1)
  goal_more levels more (emit e) h =
      lawful.step_open_more (length levels) (length (levels ++ more)) (length_more levels more) e h
  goal_more levels more (item x) h =
      (lawful.open_more (length levels) (length (levels ++ more)) (length_more levels more) x h.0, lawful.scoped_more levels more x h.0 h.1)

  -- goals stay open and in scope where variables are added
  pub goals_more : (levels more : List Level) (goals : List (Goal C.ItemOf C.StepOf)) → AreGoals C levels goals → AreGoals C (levels ++ more) goals
  goals_more levels more goals h = All-weaker (IsGoal C levels) (IsGoal C (levels ++ more)) (goal_more levels more) goals h
