-- Alternatives that are covered: some closing meets their goals, and makes given terms of what was asked.
use Rattle.std.specs.Prelude.{◌≡◌, ◌≢◌, ℕ, Bool, true, false, nat_eq, if◌then◌else◌, Option, Some, None, List, [], ◌∷◌, map}
use Rattle.std.proofs.Common.{sym, ap, ◌∙◌, subst, inl, inr, ◌⊎◌}
use Rattle.std.proofs.lemmas.Bool.{eqb-true}
use Rattle.std.proofs.lemmas.List.Elements.{All-cons, All-head, All-tail, All-map, All-weaker}
use mathlib.Core.Path.{fun_ext, refl}
use Rattle.fpc_terms.specs.Term.{Term, Args, variable, no_args, arg, joined, terms_in, put}
use Rattle.fpc_terms.specs.Open.{Level, level_of, at_one, IsScopedAt, IsClosing}
use Rattle.fpc_terms.specs.Equality.{Equality, same, parts, older, walk, clash, walked_node, is_out_of_scope, has_level}
use Rattle.fpc_terms.proofs.PutFacts.{put-put, puts-puts, terms_in-put_all, joined_each}
use Rattle.fpc_terms.proofs.EqualityFacts.{Means, WalksNoVariable}
use Rattle.fpc_terms.proofs.LevelFacts.{IsPassed, ArePassed}
use Rattle.fpc_terms.proofs.LevelFacts.{walk_passed, node_passed}
use Rattle.clause_language.specs.declared.clause.Clause.{Clause}
use Rattle.clause_language.specs.LeastModel.{Holds}
use Rattle.clause_language.proofs.LeastModelFacts.{put_atom-put_atom}
use Rattle.search_model.specs.Search.{SearchCalculus, Goal, call, equate, emit, item, Alternative, State, between, walking, equalities}
use Rattle.search_model.specs.Search.{with_goals, put_goal, bound_to, equated}
use Rattle.search_model.proofs.WalkSteps.{walked_on, behind_node}
use Rattle.search_model.specs.Lawful.{IsLawful}
use Rattle.search_model.proofs.GoalsMet.{IsMet, AreMet}
use Rattle.search_model.proofs.Lowering.{term_lowered}

-- a calculus's goals, alternatives and states
abbrev pub GoalOf : SearchCalculus → Type 0
GoalOf C = Goal C.ItemOf C.StepOf

abbrev pub AlternativeOf : SearchCalculus → Type 0
AlternativeOf C = Alternative C.ItemOf C.StepOf

abbrev pub StateOf : SearchCalculus → Type 0
StateOf C = State C.ItemOf C.StepOf

-- a term that a variable is equal to may stand for it
put_back : (s : ℕ → Term) (v : ℕ) (t : Term) → s v ≡ put s t → (λ n. put s (at_one v t n)) ≡ s
put_back s v t e = fun_ext (λ n. by_test n (nat_eq n v) refl)
  where
    by_test : (n : ℕ) (b : Bool) → nat_eq n v ≡ b → put s (if b then t else variable n) ≡ s n
    by_test n true h = sym e ∙ ap s (sym (eqb-true n v h))
    by_test n false h = refl

-- equal lists are equal at their heads and behind them
same_head : {X : Type 0} (x y : X) (xs ys : List X) → x ∷ xs ≡ y ∷ ys → x ≡ y
same_head x y xs ys h = cc

same_tail : {X : Type 0} (x y : X) (xs ys : List X) → x ∷ xs ≡ y ∷ ys → xs ≡ ys
same_tail x y xs ys h = cc

-- passed nodes before passed nodes
joined_passed : (v : ℕ) (l : Level) (ts us : Args) → ArePassed v l ts → ArePassed v l us → ArePassed v l (joined ts us)
joined_passed v l ts us h k = joined_each (λ m. is_out_of_scope l m ≡ false) (λ m. has_level l ≡ false) (λ n. n ≢ v) ts us h k

module _ (C : SearchCalculus) (clauses : List Clause) where
  -- equalities that are true, before goals that are met
  pub equalities_met : (s : ℕ → Term) (ts us : List Term) (goals : List (GoalOf C)) → map (put s) ts ≡ map (put s) us → AreMet C clauses s goals
      → AreMet C clauses s (equalities ts us goals)
  equalities_met s (t ∷ ts) (u ∷ us) goals h met =
      let first : put s t ≡ put s u = same_head (put s t) (put s u) (map (put s) ts) (map (put s) us) h in
      let rest : map (put s) ts ≡ map (put s) us = same_tail (put s t) (put s u) (map (put s) ts) (map (put s) us) h in
      All-cons (IsMet C clauses s) (equate t u) (equalities ts us goals) first (equalities_met s ts us goals rest met)
  equalities_met s [] us goals h met = met
  equalities_met s (t ∷ ts) [] goals h met = met

  module _ (lawful : IsLawful C clauses) (s r : ℕ → Term) where
    -- a goal with terms for its variables
    put_met : (g : GoalOf C) → IsMet C clauses (λ n. put s (r n)) g → IsMet C clauses s (put_goal C r g)
    put_met (call a) h = subst (Holds clauses) (sym (put_atom-put_atom s r a)) h
    put_met (equate t u) h = put-put s r t ∙ h ∙ sym (put-put s r u)
    put_met (emit e) h = tt
    put_met (item x) h = subst (λ y. (steps : List C.StepOf) × C.Completed y steps) (sym (lawful.item-put s r x)) h

    puts_met : (goals : List (GoalOf C)) → AreMet C clauses (λ n. put s (r n)) goals → AreMet C clauses s (map (put_goal C r) goals)
    puts_met goals h =
        let each = All-weaker (IsMet C clauses (λ n. put s (r n))) (λ g. IsMet C clauses s (put_goal C r g)) put_met goals h in
        All-map (IsMet C clauses s) (put_goal C r) goals each

  module _ (z : List Term) where
    -- the closing meets the goals, and makes the terms z of what was asked
    pub record IsCoveredBy (a : AlternativeOf C) (s : ℕ → Term) : Type 0 where
      pub closing : IsClosing a.levels s
      pub met : AreMet C clauses s a.goals
      pub asked_is : map (put s) a.asked ≡ z

    -- some closing does
    abbrev pub IsCovered : AlternativeOf C → Type 0
    IsCovered a = (s : ℕ → Term) × IsCoveredBy a s

    -- some alternative is covered
    abbrev pub IsOneCovered : List (AlternativeOf C) → Type 0
    IsOneCovered [] = ⊥
    IsOneCovered (a ∷ others) = IsCovered a ⊎ IsOneCovered others

    -- the first alternative of a walk was covered before its equality was taken, and the walk passes the nodes to come
    abbrev pub IsWalkCovered : ℕ → Term → Term → Args → AlternativeOf C → Type 0
    IsWalkCovered v t x xs a =
        (s : ℕ → Term) × IsCoveredBy (with_goals a (equate (variable v) t ∷ a.goals)) s
        × IsPassed v (level_of a.levels v) x × ArePassed v (level_of a.levels v) xs

    -- some alternative of the state is covered
    abbrev pub IsStateCovered : StateOf C → Type 0
    IsStateCovered (between alternatives) = IsOneCovered alternatives
    IsStateCovered (walking v t x xs a others) = IsWalkCovered v t x xs a ⊎ IsOneCovered others

    -- without its first goal
    pub rest_covered : (a : AlternativeOf C) (g : GoalOf C) (s : ℕ → Term) → IsCoveredBy (with_goals a (g ∷ a.goals)) s → IsCoveredBy a s
    rest_covered a g s c = record { closing = c.closing; met = All-tail (IsMet C clauses s) g a.goals c.met; asked_is = c.asked_is }

    -- with an equality that is true in place of the first goal
    equal_covered : (a : AlternativeOf C) (g : GoalOf C) (v : ℕ) (t : Term) (s : ℕ → Term) → IsCoveredBy (with_goals a (g ∷ a.goals)) s
        → s v ≡ put s t → IsCoveredBy (with_goals a (equate (variable v) t ∷ a.goals)) s
    equal_covered a g v t s c h =
        let rest : IsCoveredBy a s = rest_covered a g s c in
        record { closing = c.closing; met = All-cons (IsMet C clauses s) (equate (variable v) t) a.goals h rest.met; asked_is = c.asked_is }

    -- where another alternative is covered, whatever becomes of the first one
    module _ (a : AlternativeOf C) (others : List (AlternativeOf C)) (h : IsOneCovered others) where
      pub equated_others : (q : Equality) → IsStateCovered (equated C q a others)
      equated_others same = inr h
      equated_others (parts ts us) = inr h
      equated_others (older m n) = inr h
      equated_others (walk v t) = inr h
      equated_others clash = h

      walked_others : (v : ℕ) (t : Term) (xs : Args) → IsStateCovered (walked_on C v t xs a others)
      walked_others v t no_args = inr h
      walked_others v t (arg x xs) = inr h

      pub behind_others : (v : ℕ) (t : Term) (o : Option Args) (xs : Args) → IsStateCovered (behind_node C v t o xs a others)
      behind_others v t None xs = h
      behind_others v t (Some ys) xs = walked_others v t (joined ys xs)

    module _ (lawful : IsLawful C clauses) (a : AlternativeOf C) (others : List (AlternativeOf C)) where
      -- a variable becomes a term that it is equal to
      bound_covered : (v : ℕ) (t : Term) (s : ℕ → Term) → IsCoveredBy (with_goals a (equate (variable v) t ∷ a.goals)) s
          → IsCovered (bound_to C v t a)
      bound_covered v t s c =
          let equal : s v ≡ put s t = All-head (IsMet C clauses s) (equate (variable v) t) a.goals c.met in
          let back : (λ n. put s (at_one v t n)) ≡ s = put_back s v t equal in
          let scoped : IsScopedAt (level_of a.levels v) (put s t) = subst (IsScopedAt (level_of a.levels v)) equal (c.closing.in_scope v) in
          let rest : IsCoveredBy a s = rest_covered a (equate (variable v) t) s c in (
            s,
            record {
              closing = record { ground = c.closing.ground; in_scope = term_lowered (level_of a.levels v) s t a.levels c.closing.in_scope scoped };
              met = puts_met lawful s (at_one v t) a.goals (subst (λ r. AreMet C clauses r a.goals) (sym back) rest.met);
              asked_is = puts-puts s (at_one v t) a.asked ∙ ap (λ r. map (put r) a.asked) back ∙ c.asked_is;
            },
          )

      -- an equality that is true is taken
      pub equated_covered : (t u : Term) (q : Equality) (s : ℕ → Term) → IsCoveredBy (with_goals a (equate t u ∷ a.goals)) s → Means s q
          → WalksNoVariable q → IsStateCovered (equated C q a others)
      equated_covered t u same s c h w = inl (s, rest_covered a (equate t u) s c)
      equated_covered t u (parts ts us) s c h w =
          let lists = sym (terms_in-put_all s ts) ∙ ap terms_in h ∙ terms_in-put_all s us in
          let rest : IsCoveredBy a s = rest_covered a (equate t u) s c in
          inl (s, record { closing = c.closing; met = equalities_met s (terms_in ts) (terms_in us) a.goals lists rest.met; asked_is = c.asked_is })
      equated_covered t u (older m n) s c h w = inl (bound_covered m (variable n) s (equal_covered a (equate t u) m (variable n) s c h))
      equated_covered t u (walk v x) s c h w =
          let passed : IsPassed v (level_of a.levels v) x = walk_passed v (level_of a.levels v) s x h w (c.closing.in_scope v) in
          inl (s, equal_covered a (equate t u) v x s c h, passed, tt)
      equated_covered t u clash s c h w = absurd h

      -- the walk goes on, or binds
      walked_covered : (v : ℕ) (t : Term) (xs : Args) (s : ℕ → Term) → IsCoveredBy (with_goals a (equate (variable v) t ∷ a.goals)) s
          → ArePassed v (level_of a.levels v) xs → IsStateCovered (walked_on C v t xs a others)
      walked_covered v t no_args s c h = inl (bound_covered v t s c)
      walked_covered v t (arg x xs) s c h = inl (s, c, h.0, h.1)

      -- the walk passes a node
      pub node_covered : (v : ℕ) (t x : Term) (xs : Args) → IsWalkCovered v t x xs a
          → IsStateCovered (behind_node C v t (walked_node v (level_of a.levels v) x) xs a others)
      node_covered v t x xs h =
          let node = node_passed v (level_of a.levels v) x h.2 in
          let nodes : ArePassed v (level_of a.levels v) (joined node.0 xs) = joined_passed v (level_of a.levels v) node.0 xs node.2 h.3 in
          subst (λ o. IsStateCovered (behind_node C v t o xs a others)) (sym node.1) (walked_covered v t (joined node.0 xs) h.0 h.1 nodes)
