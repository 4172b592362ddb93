-- The search is sound: what it accepts meets the end that its first goal meets.
use Rattle.std.specs.Prelude.{ℕ, ◌≡◌, ◌≢◌, ◌<◌, false, Option, Some, None, List, [], ◌∷◌, ◌++◌, map, length, replicate}
use Rattle.std.proofs.Common.{refl, ap, sym, subst, ◌∙◌, arith, append_assoc, append-nil}
use Rattle.std.proofs.lemmas.List.{map-append, length-replicate}
use Rattle.std.proofs.lemmas.List.Elements.{All-nil, All-cons, All-head, All-tail, All-contains_itself}
use Rattle.fpc_terms.specs.Term.{Term, Args, variable, no_args, arg, joined, terms_in, put, put_all, Always, Never}
use Rattle.fpc_terms.specs.Open.{IsGround, IsOpen, AreOpen, constant, Level, level_of, IsClosing}
use Rattle.fpc_terms.specs.Equality.{Equality, same, parts, older, walk, clash, equality, walked_node, is_out_of_scope, has_level}
use Rattle.fpc_terms.proofs.LevelFacts.{IsPassed, ArePassed, passed_node, closing_constant}
use Rattle.fpc_terms.proofs.PutFacts.{terms_in-put_all, terms_in_same, each_terms_in, each_joined}
use Rattle.fpc_terms.proofs.EqualityFacts.{Means, equality_means, HasTerms, equality_has, AreAsMany, equality_as_many, OlderDiffer, equality_older}
use Rattle.clause_language.specs.declared.clause.Clause.{Clause}
use Rattle.clause_language.specs.LeastModel.{AreOpenClauses}
use Rattle.search_model.specs.Run.{ended}
use Rattle.search_model.specs.Search.{SearchCalculus, Choice, Goal, call, equate, emit, item, Alternative, State, between, walking, Answer, accepted, equalities, with_goals, answer_of, answer, equated, taken, step_of, step, start, search}
use Rattle.search_model.proofs.WalkSteps.{walked_on, behind_node}
use Rattle.search_model.specs.Lawful.{Spelled, IsGoal, AreGoals, IsLawful, IsChoice}
use Rattle.fpc_terms.proofs.RunFacts.{kept}
use Rattle.search_model.proofs.Fine.{IsFine, AreFine, IsStateFine}
use Rattle.search_model.proofs.BindFacts.{bound_fine}
use Rattle.search_model.proofs.ExtendFacts.{equalities_are, equalities_spelled, clauses_entries, item_entries, extended_are_fine}

module _ (C : SearchCalculus) (clauses : List Clause) (End : List Term → List C.StepOf → Type 0) where
  -- one equality may stand for another that follows from it
  equality_for : (a : Alternative C.ItemOf C.StepOf) (t u x y : Term) → IsFine C clauses End (with_goals a (equate t u ∷ a.goals))
      → IsOpen (length a.levels) x → IsOpen (length a.levels) y → ((s : ℕ → Term) → put s x ≡ put s y → put s t ≡ put s u)
      → IsFine C clauses End (with_goals a (equate x y ∷ a.goals))
  equality_for a t u x y fine x_open y_open follows = record {
    goals_are =
        All-cons (IsGoal C a.levels) (equate x y) a.goals (x_open, y_open) (All-tail (IsGoal C a.levels) (equate t u) a.goals fine.goals_are);
    asked_open = fine.asked_open;
    ends = λ s closing steps h. fine.ends s closing steps (follows s h.0, h.1);
  }

  -- an equality that holds in any case may go
  equality_gone : (a : Alternative C.ItemOf C.StepOf) (t u : Term) → IsFine C clauses End (with_goals a (equate t u ∷ a.goals))
      → ((s : ℕ → Term) → put s t ≡ put s u) → IsFine C clauses End a
  equality_gone a t u fine holds = record {
    goals_are = All-tail (IsGoal C a.levels) (equate t u) a.goals fine.goals_are;
    asked_open = fine.asked_open;
    ends = λ s closing steps h. fine.ends s closing steps (holds s, h);
  }

  -- the equalities of the arguments may stand for that of two applications
  equality_in_parts : (a : Alternative C.ItemOf C.StepOf) (t u : Term) (ts us : Args) → IsFine C clauses End (with_goals a (equate t u ∷ a.goals))
      → AreOpen (length a.levels) (terms_in ts) → AreOpen (length a.levels) (terms_in us) → length (terms_in ts) ≡ length (terms_in us)
      → ((s : ℕ → Term) → put_all s ts ≡ put_all s us → put s t ≡ put s u)
      → IsFine C clauses End (with_goals a (equalities (terms_in ts) (terms_in us) a.goals))
  equality_in_parts a t u ts us fine ts_open us_open as_many follows = record {
    goals_are =
        equalities_are C a.levels (terms_in ts) (terms_in us) a.goals ts_open us_open
        (All-tail (IsGoal C a.levels) (equate t u) a.goals fine.goals_are);
    asked_open = fine.asked_open;
    ends = λ s closing steps h.
        let p = equalities_spelled C clauses s (terms_in ts) (terms_in us) a.goals steps as_many h in
        fine.ends s closing steps
        (follows s (terms_in_same (put_all s ts) (put_all s us) (terms_in-put_all s ts ∙ p.0 ∙ sym (terms_in-put_all s us))), p.1);
  }

  -- an emitted step goes behind the others
  emit_fine : (a : Alternative C.ItemOf C.StepOf) (e : C.StepOf) → IsFine C clauses End (with_goals a (emit e ∷ a.goals))
      → IsFine C clauses End (record a { emitted = a.emitted ++ e ∷ [] })
  emit_fine a e fine = record {
    goals_are = All-tail (IsGoal C a.levels) (emit e) a.goals fine.goals_are;
    asked_open = fine.asked_open;
    ends = λ s closing steps h.
        rw (map-append (C.put_step s) a.emitted (e ∷ []), append_assoc (map (C.put_step s) a.emitted) (C.put_step s e ∷ []) steps)
        (fine.ends s closing (C.put_step s e ∷ steps) (steps, refl, h));
  }

module _ (C : SearchCalculus) (choice : Choice) (is_choice : IsChoice choice) (clauses : List Clause)
    (lawful : IsLawful C clauses) (End : List Term → List C.StepOf → Type 0) where
  module _ (a : Alternative C.ItemOf C.StepOf) (others : List (Alternative C.ItemOf C.StepOf)) (rest : AreFine C clauses End others) where
    walked_on_fine : (v : ℕ) (t : Term) → IsFine C clauses End (with_goals a (equate (variable v) t ∷ a.goals)) → (xs : Args)
        → (ArePassed v (level_of a.levels v) xs → IsPassed v (level_of a.levels v) t) → IsStateFine C clauses End (walked_on C v t xs a others)
    walked_on_fine v t fine no_args h = All-cons (IsFine C clauses End) _ others (bound_fine C clauses lawful End a v t fine (h tt)) rest
    walked_on_fine v t fine (arg x xs) h = (fine, ((λ p ps. h (p, ps)), rest))

    behind_node_fine : (v : ℕ) (t : Term) → IsFine C clauses End (with_goals a (equate (variable v) t ∷ a.goals)) → (q : Option Args) (xs : Args)
        → ((ys : Args) → q ≡ Some ys → ArePassed v (level_of a.levels v) ys → ArePassed v (level_of a.levels v) xs
        → IsPassed v (level_of a.levels v) t)
        → IsStateFine C clauses End (behind_node C v t q xs a others)
    behind_node_fine v t fine None xs h = rest
    behind_node_fine v t fine (Some ys) xs h =
        walked_on_fine v t fine (joined ys xs)
        (λ ps.
        let l = level_of a.levels v in
        let both = each_joined (λ m. is_out_of_scope l m ≡ false) (λ k. has_level l ≡ false) (λ n. n ≢ v) ys xs ps in
        h ys refl both.0 both.1)

    equated_fine : (t u : Term) → IsFine C clauses End (with_goals a (equate t u ∷ a.goals)) → (r : Equality)
        → ((s : ℕ → Term) → Means s r → put s t ≡ put s u) → HasTerms Always Never (λ n. n < length a.levels) r → AreAsMany r → OlderDiffer r
        → IsStateFine C clauses End (equated C r a others)
    equated_fine t u fine same means has as_many differ =
        All-cons (IsFine C clauses End) a others (equality_gone C clauses End a t u fine (λ s. means s tt)) rest
    equated_fine t u fine (parts ts us) means has as_many differ =
        All-cons (IsFine C clauses End) (with_goals a (equalities (terms_in ts) (terms_in us) a.goals)) others
        (equality_in_parts C clauses End a t u ts us fine (each_terms_in Always Never (λ n. n < length a.levels) ts has.0)
        (each_terms_in Always Never (λ n. n < length a.levels) us has.1) as_many means)
        rest
    equated_fine t u fine (older young old) means has as_many differ =
        let first = equality_for C clauses End a t u (variable young) (variable old) fine has.0 has.1 means in
        All-cons (IsFine C clauses End) _ others (bound_fine C clauses lawful End a young (variable old) first (λ e. omega (arith, e, differ))) rest
    equated_fine t u fine (walk v w) means has as_many differ =
        (equality_for C clauses End a t u (variable v) w fine has.0 has.1 means, ((λ p ps. p), rest))
    equated_fine t u fine clash means has as_many differ = rest

    taken_fine : AreOpenClauses clauses → (g : Goal C.ItemOf C.StepOf) → IsFine C clauses End (with_goals a (g ∷ a.goals))
        → IsStateFine C clauses End (taken C choice clauses g a others)
    taken_fine opens (call b) fine =
        let b_open = All-head (IsGoal C a.levels) (call b) a.goals fine.goals_are in
        extended_are_fine C clauses lawful End a (call b) others fine rest _
        (clauses_entries C clauses a.levels b b_open choice is_choice clauses
        (All-contains_itself clauses) opens)
    taken_fine opens (equate t u) fine =
        let open_terms = All-head (IsGoal C a.levels) (equate t u) a.goals fine.goals_are in
        equated_fine t u fine (equality t u) (λ s. equality_means s t u)
        (equality_has Always Never (λ n. n < length a.levels) t u open_terms.0 open_terms.1) (equality_as_many t u) (equality_older t u)
    taken_fine opens (emit e) fine = All-cons (IsFine C clauses End) _ others (emit_fine C clauses End a e fine) rest
    taken_fine opens (item x) fine =
        extended_are_fine C clauses lawful End a (item x) others fine rest _
        (item_entries C clauses lawful a.levels x (All-head (IsGoal C a.levels) (item x) a.goals fine.goals_are))

  step_of_fine : AreOpenClauses clauses → (goals : List (Goal C.ItemOf C.StepOf)) (a : Alternative C.ItemOf C.StepOf)
      (others : List (Alternative C.ItemOf C.StepOf)) → IsFine C clauses End (with_goals a goals) → IsFine C clauses End a
      → AreFine C clauses End others → IsStateFine C clauses End (step_of C choice clauses goals a others)
  step_of_fine opens [] a others fine whole rest = All-cons (IsFine C clauses End) a others whole rest
  step_of_fine opens (g ∷ goals) a others fine whole rest = taken_fine (with_goals a goals) others rest opens g fine

  -- each step keeps what holds of the states
  pub step_fine : AreOpenClauses clauses → (q : State C.ItemOf C.StepOf) → IsStateFine C clauses End q → IsStateFine C clauses End (step C choice clauses q)
  step_fine opens (between []) fine = fine
  step_fine opens (between (a ∷ others)) fine =
      let first = All-head (IsFine C clauses End) a others fine in
      step_of_fine opens a.goals a others first first (All-tail (IsFine C clauses End) a others fine)
  step_fine opens (walking v t x xs a others) fine =
      behind_node_fine a others fine.1.1 v t fine.0 (walked_node v (level_of a.levels v) x) xs
      (λ ys e ps qs. fine.1.0 (passed_node v (level_of a.levels v) x ys e ps) qs)

  -- an alternative without goals meets the end, whatever constant is put for the variables that are left
  answered_ends : (any : ℕ) (goals : List (Goal C.ItemOf C.StepOf)) (b a : Alternative C.ItemOf C.StepOf) → IsFine C clauses End b → b.goals ≡ goals
      → answer_of goals b ≡ Some (accepted a) → End (map (put (constant any)) a.asked) (map (C.put_step (constant any)) a.emitted)
  answered_ends any [] b a fine none e =
      let this : b ≡ a = cc in
      let spelled = subst (λ goals. Spelled C clauses (constant any) goals []) (sym none) refl in
      let ends = fine.ends (constant any) (closing_constant any b.levels) [] spelled in
      subst (λ d. End (map (put (constant any)) d.asked) (map (C.put_step (constant any)) d.emitted)) this
      (subst (End (map (put (constant any)) b.asked)) (append-nil (map (C.put_step (constant any)) b.emitted)) ends)
  answered_ends any (g ∷ goals) b a fine none e = cc

  answer_ends : (any : ℕ) (q : State C.ItemOf C.StepOf) (a : Alternative C.ItemOf C.StepOf) → IsStateFine C clauses End q
      → answer q ≡ Some (accepted a) → End (map (put (constant any)) a.asked) (map (C.put_step (constant any)) a.emitted)
  answer_ends any (between []) a fine e = cc
  answer_ends any (between (b ∷ others)) a fine e = answered_ends any b.goals b a (All-head (IsFine C clauses End) b others fine) refl e
  answer_ends any (walking v t x xs b others) a fine e = cc

  -- A search begins fine, where each closing that meets its goal meets the end.
  pub start_fine : (g : Goal C.ItemOf C.StepOf) (asked : List Term) (variables : ℕ)
      → AreGoals C (replicate variables None) (g ∷ []) → AreOpen variables asked
      → ((s : ℕ → Term) → IsClosing (replicate variables None) s → (steps : List C.StepOf) → Spelled C clauses s (g ∷ []) steps
      → End (map (put s) asked) steps)
      → IsStateFine C clauses End (start g asked variables)
  start_fine g asked variables are asked_open ends =
      All-cons (IsFine C clauses End) _ []
      (record {
        goals_are = are;
        asked_open = subst (λ k. AreOpen k asked) (sym (length-replicate {A = Level} variables None)) asked_open;
        ends = ends;
      })
      (All-nil (IsFine C clauses End))

  -- What a search accepts meets the end, with its steps and what was asked of it, whatever constant is put for the variables that are left.
  pub accepted_ends : AreOpenClauses clauses → (budget : ℕ) (g : Goal C.ItemOf C.StepOf) (asked : List Term) (variables : ℕ)
      → AreGoals C (replicate variables None) (g ∷ []) → AreOpen variables asked
      → ((s : ℕ → Term) → IsClosing (replicate variables None) s → (steps : List C.StepOf) → Spelled C clauses s (g ∷ []) steps
      → End (map (put s) asked) steps)
      → (a : Alternative C.ItemOf C.StepOf) (units : ℕ) → search C choice clauses budget g asked variables ≡ ended (accepted a) units
      → (any : ℕ) → End (map (put (constant any)) a.asked) (map (C.put_step (constant any)) a.emitted)
  accepted_ends opens budget g asked variables are asked_open ends a units e any = answer_ends any last.0 a last.1 last.2 where
    keeps : (q : State C.ItemOf C.StepOf) → answer q ≡ None → IsStateFine C clauses End q → IsStateFine C clauses End (step C choice clauses q)
    keeps q none fine = step_fine opens q fine

    last : (q : State C.ItemOf C.StepOf) × IsStateFine C clauses End q × (answer q ≡ Some (accepted a))
    last =
        kept (State C.ItemOf C.StepOf) (Answer C.ItemOf C.StepOf) answer (step C choice clauses) (IsStateFine C clauses End) keeps budget
        (start g asked variables) (accepted a) units (start_fine g asked variables are asked_open ends) e

-- the steps complete an instance of the item
abbrev pub CompletesInstance : (C : SearchCalculus) → C.ItemOf → List C.StepOf → Type 0
CompletesInstance C x steps = (s : ℕ → Term) × ((n : ℕ) → IsGround (s n)) × C.Completed (C.put_item s x) steps

-- What a search for an item accepts completes an instance of the item, by its steps.
pub accepted_completed : (C : SearchCalculus) (choice : Choice) → IsChoice choice
    → (clauses : List Clause) → IsLawful C clauses → AreOpenClauses clauses
    → (budget : ℕ) (x : C.ItemOf) (variables : ℕ) → C.IsOpenItem variables x → C.IsScopedItem (replicate variables None) x
    → (a : Alternative C.ItemOf C.StepOf) (units : ℕ) → search C choice clauses budget (item x) [] variables ≡ ended (accepted a) units
    → (any : ℕ) → CompletesInstance C x (map (C.put_step (constant any)) a.emitted)
accepted_completed C choice is_choice clauses lawful opens budget x variables x_open x_scoped a units e any =
    accepted_ends C choice is_choice clauses lawful (λ asked steps. CompletesInstance C x steps) opens budget (item x) [] variables are
    (All-nil (IsOpen variables)) met a units e any
  where
    levels_open : C.IsOpenItem (length (replicate {A = Level} variables None)) x
    levels_open = subst (λ k. C.IsOpenItem k x) (sym (length-replicate {A = Level} variables None)) x_open

    are : AreGoals C (replicate variables None) (item x ∷ [])
    are = All-cons (IsGoal C (replicate variables None)) (item x) [] (levels_open, x_scoped) (All-nil (IsGoal C (replicate variables None)))

    met : (s : ℕ → Term) → IsClosing (replicate variables None) s → (steps : List C.StepOf) → Spelled C clauses s (item x ∷ []) steps
        → CompletesInstance C x steps
    met s closing steps h =
        let all : h.0 ≡ steps = sym (append-nil h.0) ∙ ap (λ rest. h.0 ++ rest) (sym h.4) ∙ sym h.2 in
        (s, closing.ground, subst (C.Completed (C.put_item s x)) all h.3)
