-- The search takes the same course over calculi and clauses that are the same but for the numbers of their names.
use Rattle.std.proofs.Common.{◌≡◌, ℕ, zero, suc, Bool, true, false, ◌&&◌, nat_eq, List, ◌∷◌, ◌++◌, map, length, replicate, Option, Some, None, refl, ap₂, subst}
use Rattle.fpc_terms.specs.Term.{Term, Args, put}
use Rattle.fpc_terms.specs.Open.{level_of, at_one, later, lower_in}
use Rattle.fpc_terms.specs.Equality.{Equality}
use Rattle.fpc_terms.specs.Same.{SameTerm, SameArgs, same_variable, same_no_args, same_arg, SameList, same_nil, same_cons, SameOption, same_none, same_some}
use Rattle.fpc_terms.proofs.SameTerms.{length-same}
use Rattle.clause_language.specs.declared.atom.Atom.{Atom}
use Rattle.clause_language.specs.declared.clause.Clause.{Clause}
use Rattle.clause_language.specs.LeastModel.{put_atom, fits}
use Rattle.search_model.specs.Run.{Ending, ended, spent, one_more, run}
use Rattle.search_model.specs.Search.{Choice, SearchCalculus, search}
use Rattle.search_model.specs.Search.{Goal, call, GoalList, Alternative, State, between, walking, Answer, accepted, rejected, equalities, extended, with_goals, answer_of, answer, put_goal, bound_to, by_clause, where_it_fits, by_clauses, equated, taken, step_of, step}
use Rattle.search_model.specs.Same.{IsOneToOne, AreRelated, related_nil, related_cons, SameAtom, SameClause, ChoosesAlike, SameGoal, same_call, same_equate, same_emit, same_item, SameGoalList, same_goal_list, SameAlternative, same_alternative, SameAnswer, same_accepted, same_rejected, SameEnding, same_ended, same_spent, AreSameCalculi, SearchesOfCalculiAlike}
use Rattle.search_model.proofs.WalkSteps.{walked_on, behind_node}
use Rattle.search_model.proofs.SameTermParts.{SameEquality, same_same, same_parts, same_older, same_walk, same_clash, append-related, map-related, map-to_related, put-same, map_put-same, at_one-same, later-same, lower_in-same, terms_in-same, joined-same, walked_node-same, equality-same}

one_more-same : {X Y : Type 0} {A : X → Y → Type 0} {e : Ending X} {d : Ending Y} → SameEnding A e d → SameEnding A (one_more e) (one_more d)
one_more-same (same_ended h units) = same_ended h (suc units)
one_more-same same_spent = same_spent

-- two answers that are related, or none on both sides
data BothAnswer {X Y : Type 0} (A : X → Y → Type 0) : Option X → Option Y → Type 0 where
  neither : BothAnswer A None None
  both : {x : X} {y : Y} → A x y → BothAnswer A (Some x) (Some y)

-- runs from related states end alike, where steps keep the relation and answers are related under it
module _ {X Y L R : Type 0} {Q : X → Y → Type 0} {A : L → R → Type 0} (answers : X → Option L) (others : Y → Option R) (steps : X → X) (more : Y → Y)
    (agree : (s : X) (r : Y) → Q s r → BothAnswer A (answers s) (others r)) (keep : (s : X) (r : Y) → Q s r → Q (steps s) (more r)) where
  ended-same : {o : Option L} {u : Option R} {e : Ending L} {d : Ending R} → BothAnswer A o u → SameEnding A e d
      → SameEnding A (elim o [ Some r ↦ ended r 0 | None ↦ e ]) (elim u [ Some r ↦ ended r 0 | None ↦ d ])
  ended-same neither k = k
  ended-same (both h) k = same_ended h 0

  run-same : (budget : ℕ) {s : X} {r : Y} → Q s r → SameEnding A (run answers steps budget s) (run others more budget r)
  run-same zero {s = s} {r = r} h = ended-same (agree s r h) same_spent
  run-same (suc n) {s = s} {r = r} h = ended-same (agree s r h) (one_more-same (run-same n (keep s r h)))

-- the two states are the same but for the numbers of their names
data SameState (S : ℕ → ℕ → Type 0) {I J E F : Type 0} (P : I → J → Type 0) (Q : E → F → Type 0) : State I E → State J F → Type 0 where
  same_between : {others : List (Alternative I E)} {more : List (Alternative J F)} → AreRelated (SameAlternative S P Q) others more → SameState S P Q (between others) (between more)
  same_walking : (v : ℕ) → {t u x y : Term} → {xs ys : Args} → {a : Alternative I E} → {b : Alternative J F} → {others : List (Alternative I E)} {more : List (Alternative J F)}
      → SameTerm S t u → SameTerm S x y → SameArgs S xs ys
      → SameAlternative S P Q a b → AreRelated (SameAlternative S P Q) others more → SameState S P Q (walking v t x xs a others) (walking v u y ys b more)

module _ {S : ℕ → ℕ → Type 0} (C D : SearchCalculus) (P : C.ItemOf → D.ItemOf → Type 0) (Q : C.StepOf → D.StepOf → Type 0) (calculi : AreSameCalculi S C D P Q) where
  abbrev Left : Type 0
  Left = Alternative C.ItemOf C.StepOf

  abbrev Right : Type 0
  Right = Alternative D.ItemOf D.StepOf

  abbrev Goals : List (Goal C.ItemOf C.StepOf) → List (Goal D.ItemOf D.StepOf) → Type 0
  Goals goals more = AreRelated (SameGoal S P Q) goals more

  abbrev Lists : List (GoalList C.ItemOf C.StepOf) → List (GoalList D.ItemOf D.StepOf) → Type 0
  Lists es ds = AreRelated (SameGoalList S P Q) es ds

  abbrev Alike : Left → Right → Type 0
  Alike a b = SameAlternative S P Q a b

  abbrev AllAlike : List Left → List Right → Type 0
  AllAlike others more = AreRelated (SameAlternative S P Q) others more

  put_atom-same : (s r : ℕ → Term) → ((n : ℕ) → SameTerm S (s n) (r n)) → {a b : Atom} → SameAtom S a b → SameAtom S (put_atom s a) (put_atom r b)
  put_atom-same s r h k = record { names = k.names; terms = map_put-same s r h k.terms }

  put_goal-same : (s r : ℕ → Term) → ((n : ℕ) → SameTerm S (s n) (r n)) → {g : Goal C.ItemOf C.StepOf} {k : Goal D.ItemOf D.StepOf} → SameGoal S P Q g k → SameGoal S P Q (put_goal C s g) (put_goal D r k)
  put_goal-same s r h (same_call k) = same_call (put_atom-same s r h k)
  put_goal-same s r h (same_equate t u) = same_equate (put-same s r h t) (put-same s r h u)
  put_goal-same s r h (same_emit {d = d} {e = e} k) = same_emit (calculi.steps s r h d e k)
  put_goal-same s r h (same_item {x = x} {y = y} k) = same_item (calculi.items s r h x y k)

  equalities-same : {ts us ss rs : List Term} {goals : List (Goal C.ItemOf C.StepOf)} {more : List (Goal D.ItemOf D.StepOf)} → SameList (SameTerm S) ts ss → SameList (SameTerm S) us rs → Goals goals more
      → Goals (equalities ts us goals) (equalities ss rs more)
  equalities-same same_nil same_nil k = k
  equalities-same same_nil (same_cons u us) k = k
  equalities-same (same_cons t ts) same_nil k = k
  equalities-same (same_cons t ts) (same_cons u us) k = related_cons (same_equate t u) (equalities-same ts us k)

  bound_to-same : (v : ℕ) {t u : Term} {a : Left} {b : Right} → SameTerm S t u → Alike a b → Alike (bound_to C v t a) (bound_to D v u b)
  bound_to-same v {t = t} {u = u} h (same_alternative {goals = goals} {more = more} {emitted = emitted} {spelled = spelled} {asked = asked} {answered = answered} gs es ts levels) =
      subst
      (λ l. Alike (bound_to C v t (record { goals = goals; emitted = emitted; asked = asked; levels = levels }))
      (record { goals = map (put_goal D (at_one v u)) more; emitted = map (D.put_step (at_one v u)) spelled; asked = map (put (at_one v u)) answered; levels = l }))
      (lower_in-same (level_of levels v) h levels)
      (same_alternative (map-related (put_goal C (at_one v t)) (put_goal D (at_one v u)) (λ g k s. put_goal-same (at_one v t) (at_one v u) (at_one-same v h) s) gs)
      (map-related (C.put_step (at_one v t)) (D.put_step (at_one v u)) (λ d e k. calculi.steps (at_one v t) (at_one v u) (at_one-same v h) d e k) es)
      (map_put-same (at_one v t) (at_one v u) (at_one-same v h) ts) (lower_in (level_of levels v) t levels))

  with_goals-same : {a : Left} {b : Right} {goals : List (Goal C.ItemOf C.StepOf)} {more : List (Goal D.ItemOf D.StepOf)} → Alike a b → Goals goals more → Alike (with_goals a goals) (with_goals b more)
  with_goals-same (same_alternative gs es ts levels) k = same_alternative k es ts levels

  extended-same : {a : Left} {b : Right} {e : GoalList C.ItemOf C.StepOf} {d : GoalList D.ItemOf D.StepOf} → Alike a b → SameGoalList S P Q e d → Alike (extended a e) (extended b d)
  extended-same (same_alternative gs es ts levels) (same_goal_list hs new) = same_alternative (append-related hs gs) es ts (levels ++ new)

  by_clause-same : (k : ℕ) {a b : Atom} {c d : Clause} → SameAtom S a b → SameClause S c d → SameGoalList S P Q (by_clause C a k c) (by_clause D b k d)
  by_clause-same k {a = a} {b = b} {c = c} {d = d} h s =
      subst
      (λ n. SameGoalList S P Q (by_clause C a k c)
      (record { goals = equalities b.arguments (map (put (later k)) d.head.arguments) (map (λ x. call (put_atom (later k) x)) d.body); new = replicate n None }))
      s.as_many
      (same_goal_list
      (equalities-same h.terms (map_put-same (later k) (later k) (later-same k) s.heads.terms)
      (map-to_related (λ x. call (put_atom (later k) x)) (λ x. call (put_atom (later k) x)) (λ x y r. same_call (put_atom-same (later k) (later k) (later-same k) r)) s.bodies))
      (replicate c.variables None))

  where_it_fits-same : (c : Bool) {e : GoalList C.ItemOf C.StepOf} {d : GoalList D.ItemOf D.StepOf} {es : List (GoalList C.ItemOf C.StepOf)} {ds : List (GoalList D.ItemOf D.StepOf)} → SameGoalList S P Q e d → Lists es ds
      → Lists (where_it_fits C c e es) (where_it_fits D c d ds)
  where_it_fits-same true h hs = related_cons h hs
  where_it_fits-same false h hs = hs

  walked_on-same : (v : ℕ) {t u : Term} {xs ys : Args} {a : Left} {b : Right} {others : List Left} {more : List Right} → SameTerm S t u → SameArgs S xs ys
      → Alike a b → AllAlike others more → SameState S P Q (walked_on C v t xs a others) (walked_on D v u ys b more)
  walked_on-same v h same_no_args s k = same_between (related_cons (bound_to-same v h s) k)
  walked_on-same v h (same_arg x xs) s k = same_walking v h x xs s k

  behind_node-same : (v : ℕ) {t u : Term} {o p : Option Args} {xs ys : Args} {a : Left} {b : Right} {others : List Left} {more : List Right} → SameTerm S t u
      → SameOption (SameArgs S) o p → SameArgs S xs ys → Alike a b → AllAlike others more
      → SameState S P Q (behind_node C v t o xs a others) (behind_node D v u p ys b more)
  behind_node-same v h same_none xs s k = same_between k
  behind_node-same v h (same_some zs) xs s k = walked_on-same v h (joined-same zs xs) s k

  equated-same : {e d : Equality} {a : Left} {b : Right} {others : List Left} {more : List Right} → SameEquality S e d → Alike a b → AllAlike others more
      → SameState S P Q (equated C e a others) (equated D d b more)
  equated-same same_same s k = same_between (related_cons s k)
  equated-same (same_parts hs us) (same_alternative gs es ts levels) k =
      same_between (related_cons (same_alternative (equalities-same (terms_in-same hs) (terms_in-same us) gs) es ts levels) k)
  equated-same (same_older young old) s k = same_between (related_cons (bound_to-same young (same_variable old) s) k)
  equated-same (same_walk v h) s k = same_walking v h h same_no_args s k
  equated-same same_clash s k = same_between k

  answer_of-same : {goals : List (Goal C.ItemOf C.StepOf)} {more : List (Goal D.ItemOf D.StepOf)} {a : Left} {b : Right} → Goals goals more → Alike a b → BothAnswer (SameAnswer S P Q) (answer_of goals a) (answer_of more b)
  answer_of-same related_nil s = both (same_accepted s)
  answer_of-same (related_cons g gs) s = neither

  -- a state's answer
  answer-same : {s : State C.ItemOf C.StepOf} {r : State D.ItemOf D.StepOf} → SameState S P Q s r → BothAnswer (SameAnswer S P Q) (answer s) (answer r)
  answer-same (same_between related_nil) = both same_rejected
  answer-same (same_between (related_cons (same_alternative gs es ts levels) k)) = answer_of-same gs (same_alternative gs es ts levels)
  answer-same (same_walking v h x xs s k) = neither

  -- a choice that depends on no numbers chooses alike
  module _ (choice : Choice) (alike : ChoosesAlike S choice) where
    by_clauses-same : (k : ℕ) {a b : Atom} {cs ds : List Clause} → SameAtom S a b → SameList (SameClause S) cs ds → Lists (by_clauses C choice a k cs) (by_clauses D choice b k ds)
    by_clauses-same k h same_nil = related_nil
    by_clauses-same k {a = a} {b = b} h (same_cons {x = c} {y = d} {xs = cs} {ys = ds} s ss) =
        subst
        (λ w. Lists (by_clauses C choice a k (c ∷ cs)) (where_it_fits D w (by_clause D b k d) (by_clauses D choice b k ds)))
        (alike a b c.head d.head h s.heads)
        (where_it_fits-same (choice a c.head) (by_clause-same k h s) (by_clauses-same k h ss))

    module _ (one : IsOneToOne S) {cs ds : List Clause} (same_clauses : SameList (SameClause S) cs ds) where
      taken-same : {g : Goal C.ItemOf C.StepOf} {k : Goal D.ItemOf D.StepOf} {a : Left} {b : Right} {others : List Left} {more : List Right} → SameGoal S P Q g k → Alike a b → AllAlike others more
          → SameState S P Q (taken C choice cs g a others) (taken D choice ds k b more)
      taken-same {a = a} {b = b} (same_call h) (same_alternative gs es ts levels) k =
          same_between
          (append-related (map-related (extended a) (extended b) (λ e d s. extended-same (same_alternative gs es ts levels) s) (by_clauses-same (length levels) h same_clauses)) k)
      taken-same (same_equate t u) s k = equated-same (equality-same one t u) s k
      taken-same (same_emit e) (same_alternative gs es ts levels) k = same_between (related_cons (same_alternative gs (append-related es (related_cons e related_nil)) ts levels) k)
      taken-same {a = a} {b = b} (same_item {x = x} {y = y} h) (same_alternative gs es ts levels) k =
          same_between
          (append-related (map-related (extended a) (extended b) (λ e d s. extended-same (same_alternative gs es ts levels) s) (calculi.expanded x y h (length levels))) k)

      step_of-same : {goals : List (Goal C.ItemOf C.StepOf)} {rest : List (Goal D.ItemOf D.StepOf)} {a : Left} {b : Right} {others : List Left} {more : List Right} → Goals goals rest → Alike a b
          → AllAlike others more → SameState S P Q (step_of C choice cs goals a others) (step_of D choice ds rest b more)
      step_of-same related_nil s k = same_between (related_cons s k)
      step_of-same (related_cons g gs) s k = taken-same g (with_goals-same s gs) k

      -- a step keeps the relation
      step-same : {s : State C.ItemOf C.StepOf} {r : State D.ItemOf D.StepOf} → SameState S P Q s r → SameState S P Q (step C choice cs s) (step D choice ds r)
      step-same (same_between related_nil) = same_between related_nil
      step-same (same_between (related_cons (same_alternative gs es ts levels) k)) = step_of-same gs (same_alternative gs es ts levels) k
      step-same (same_walking v h x xs (same_alternative gs es ts levels) k) =
          behind_node-same v h (walked_node-same v (level_of levels v) x) xs (same_alternative gs es ts levels) k

      -- the search ends alike
      pub search-same : (g : Goal C.ItemOf C.StepOf) (h : Goal D.ItemOf D.StepOf) → SameGoal S P Q g h → (asked answered : List Term) → SameList (SameTerm S) asked answered → (variables budget : ℕ)
          → SameEnding (SameAnswer S P Q) (search C choice cs budget g asked variables) (search D choice ds budget h answered variables)
      search-same g h k asked answered ts variables budget =
          run-same answer answer (step C choice cs) (step D choice ds) (λ s r h. answer-same h) (λ s r h. step-same h) budget
          (same_between (related_cons (same_alternative (related_cons k related_nil) related_nil ts (replicate variables None)) related_nil))

pub searches_of_calculi_alike : SearchesOfCalculiAlike
searches_of_calculi_alike S one choice alike C D P Q calculi cs ds same_clauses g h k asked answered ts variables budget =
    search-same C D P Q calculi choice alike one same_clauses g h k asked answered ts variables budget

-- the choice by name and number of arguments chooses alike
pub fits-same : {S : ℕ → ℕ → Type 0} → IsOneToOne S → ChoosesAlike S fits
fits-same one a b c d h k =
    ap₂ (λ x y. x && y) (one a.name c.name b.name d.name h.names k.names)
    (ap₂ (λ x y. nat_eq x y) (length-same h.terms) (length-same k.terms))

-- what is known of two endings: they are of one kind, with related alternatives and the same units
module _ (S : ℕ → ℕ → Type 0) {I J E F : Type 0} (P : I → J → Type 0) (Q : E → F → Type 0) where
  abbrev pub EndAlike : Ending (Answer I E) → Ending (Answer J F) → Type 0
  EndAlike (ended (accepted f) u) (ended (accepted g) v) = SameAlternative S P Q f g × (u ≡ v)
  EndAlike (ended rejected u) (ended rejected v) = u ≡ v
  EndAlike spent spent = Unit {0}
  EndAlike _ _ = ⊥

  end_alike : {e : Ending (Answer I E)} {d : Ending (Answer J F)} → SameEnding (SameAnswer S P Q) e d → EndAlike e d
  end_alike (same_ended (same_accepted h) units) = (h, refl)
  end_alike (same_ended same_rejected units) = refl
  end_alike same_spent = tt

  pub told_alike : {x e : Ending (Answer I E)} {y d : Ending (Answer J F)} → SameEnding (SameAnswer S P Q) x y → x ≡ e → y ≡ d → EndAlike e d
  told_alike {x = x} {d = d} h p q = subst (λ w. EndAlike w d) p (subst (λ w. EndAlike x w) q (end_alike h))
