-- The levels of items: what a goal brings has at most one level more than the goal.
use Rattle.std.specs.Prelude.{◌≡◌, ℕ, suc, ◌≤◌, Bool, true, false, Option, Some, None, List, [], ◌∷◌, ◌++◌, map, length, Contains}
use Rattle.std.specs.List.{All}
use Rattle.std.proofs.Common.{arith, subst}
use Rattle.std.proofs.lemmas.List.Elements.{All-nil, All-cons, All-append, All-map, All-weaker, All-contains_itself}
use Rattle.fpc_terms.specs.Equality.{Equality, same, parts, older, walk, clash, equality, walked_node}
use Rattle.fpc_terms.specs.Open.{at_one, level_of, later}
use Rattle.fpc_terms.specs.Term.{Term, Args, variable, no_args, arg, joined, terms_in, put}
use Rattle.fpc_terms.specs.Unification.{Equation, equations_before}
use Rattle.fpc_terms.proofs.RunFacts.{kept}
use Rattle.clause_language.specs.declared.atom.Atom.{Atom}
use Rattle.clause_language.specs.declared.clause.Clause.{Clause}
use Rattle.clause_language.specs.LeastModel.{put_atom, fits}
use Rattle.search_model.specs.Run.{ended}
use Rattle.search_model.specs.Search as search
use Rattle.search_model.specs.Search.{Goal, call, equate, emit, item, GoalList, between, walking}
use Rattle.search_model.specs.States.{at_between, to_between}
use Rattle.search_model.specs.Table.{derive, pick, init_pick, cut, level_in, Table, calculus_of, IsLevelled, IsTable}
use Rattle.search_model.proofs.WalkSteps.{walked_on, behind_node}

module _ (T : Table) where
  abbrev C : search.SearchCalculus
  C = calculus_of T

  abbrev GoalOf : Type 0
  GoalOf = Goal C.ItemOf C.StepOf

  abbrev ListOf : Type 0
  ListOf = GoalList C.ItemOf C.StepOf

  abbrev AlternativeOf : Type 0
  AlternativeOf = search.Alternative C.ItemOf C.StepOf

  -- each item among the goals of an alternative has at most the level n
  abbrev pub IsLow : ℕ → AlternativeOf → Type 0
  IsLow n a = All (IsLevelled n) a.goals

  abbrev pub AreLow : ℕ → List AlternativeOf → Type 0
  AreLow n alternatives = All (IsLow n) alternatives

  abbrev pub IsStateLow : ℕ → search.State C.ItemOf C.StepOf → Type 0
  IsStateLow n (between alternatives) = AreLow n alternatives
  IsStateLow n (walking v t x xs a others) = IsLow n a × AreLow n others

  -- a higher bound
  pub levelled_more : (m n : ℕ) → m ≤ n → (g : GoalOf) → IsLevelled m g → IsLevelled n g
  levelled_more m n le (call a) h = tt
  levelled_more m n le (equate t u) h = tt
  levelled_more m n le (emit e) h = tt
  levelled_more m n le (item x) h = omega (arith, le, h)

  low_more : (m n : ℕ) → m ≤ n → (a : AlternativeOf) → IsLow m a → IsLow n a
  low_more m n le a h = All-weaker (IsLevelled m) (IsLevelled n) (levelled_more m n le) a.goals h

  pub are_low_more : (m n : ℕ) → m ≤ n → (alternatives : List AlternativeOf) → AreLow m alternatives
      → AreLow n alternatives
  are_low_more m n le alternatives h =
      All-weaker (IsLow m) (IsLow n) (low_more m n le) alternatives h

  -- terms for variables change no level
  levelled_put : (n : ℕ) (s : ℕ → Term) (g : GoalOf) → IsLevelled n g
      → IsLevelled n (search.put_goal C s g)
  levelled_put n s (call a) h = tt
  levelled_put n s (equate t u) h = tt
  levelled_put n s (emit e) h = tt
  levelled_put n s (item (derive x m q)) h = h
  levelled_put n s (item (pick x m l q)) h = h
  levelled_put n s (item (init_pick m l q)) h = h
  levelled_put n s (item (cut x y m b q)) h = h

  bound_low : (n : ℕ) (a : AlternativeOf) (v : ℕ) (t : Term) → IsLow n a
      → IsLow n (search.bound_to C v t a)
  bound_low n a v t h =
      All-map (IsLevelled n) (search.put_goal C (at_one v t)) a.goals
      (All-weaker (IsLevelled n) (λ g. IsLevelled n (search.put_goal C (at_one v t) g))
      (levelled_put n (at_one v t)) a.goals h)

  -- equalities and calls are no items
  equations_low : (n : ℕ) (es : List Equation) (goals : List GoalOf) → All (IsLevelled n) goals
      → All (IsLevelled n) (search.goals_before es goals)
  equations_low n [] goals h = h
  equations_low n (e ∷ es) goals h =
      All-cons (IsLevelled n) (equate e.left e.right) (search.goals_before es goals) tt
      (equations_low n es goals h)

  calls_low : (n : ℕ) (s : ℕ → Term) (body : List Atom)
      → All (IsLevelled {S = T.SequentOf} n) (map (λ b. call (put_atom s b)) body)
  calls_low n s [] = All-nil (IsLevelled n)
  calls_low n s (b ∷ body) =
      All-cons (IsLevelled n) (call (put_atom s b)) (map (λ d. call (put_atom s d)) body) tt
      (calls_low n s body)

  -- the goals of a list have at most the level n
  abbrev IsLowList : ℕ → ListOf → Type 0
  IsLowList n e = All (IsLevelled n) e.goals

  clause_low : (n : ℕ) (b : Atom) (k : ℕ) (c : Clause) → IsLowList n (search.by_clause C b k c)
  clause_low n b k c =
      equations_low n (equations_before b.arguments (map (put (later k)) c.head.arguments) [])
      (map (λ d. call (put_atom (later k) d)) c.body) (calls_low n (later k) c.body)

  where_it_fits_low : (n : ℕ) (t : Bool) (e : ListOf) (es : List ListOf) → IsLowList n e
      → All (IsLowList n) es → All (IsLowList n) (search.where_it_fits C t e es)
  where_it_fits_low n true e es h hs = All-cons (IsLowList n) e es h hs
  where_it_fits_low n false e es h hs = hs

  clauses_low : (n : ℕ) (choice : search.Choice) (b : Atom) (k : ℕ) (cs : List Clause)
      → All (IsLowList n) (search.by_clauses C choice b k cs)
  clauses_low n choice b k [] = All-nil (IsLowList n)
  clauses_low n choice b k (c ∷ cs) =
      where_it_fits_low n (choice b c.head) (search.by_clause C b k c)
      (search.by_clauses C choice b k cs) (clause_low n b k c) (clauses_low n choice b k cs)

  lists_low : IsTable T → (n : ℕ) (x : C.ItemOf) (k : ℕ) → level_in x ≤ n
      → All (IsLowList (suc n)) (T.expand x k)
  lists_low table n x k le =
      All-weaker (Contains (T.expand x k)) (IsLowList (suc n))
      (λ e one. All-weaker (IsLevelled (suc (level_in x))) (IsLevelled (suc n))
      (levelled_more (suc (level_in x)) (suc n) (omega (arith, le))) e.goals
      (table.levels x k e one))
      (T.expand x k) (All-contains_itself (T.expand x k))

  module _ (n : ℕ) (a : AlternativeOf) (others : List AlternativeOf) (low : IsLow n a)
      (rest : AreLow n others) where
    extended_low : (es : List ListOf) → All (IsLowList n) es
        → AreLow n (map (search.extended a) es ++ others)
    extended_low es h =
        All-append (IsLow n) (map (search.extended a) es) others
        (All-map (IsLow n) (search.extended a) es
        (All-weaker (IsLowList n) (λ e. IsLow n (search.extended a e))
        (λ e l. All-append (IsLevelled n) e.goals a.goals l low) es h)) rest

    equated_low : (r : Equality) → IsStateLow n (search.equated C r a others)
    equated_low same = All-cons (IsLow n) a others low rest
    equated_low (parts ts us) =
        All-cons (IsLow n) (search.with_goals a (search.equalities (terms_in ts) (terms_in us) a.goals))
        others (equations_low n (equations_before (terms_in ts) (terms_in us) []) a.goals low) rest
    equated_low (older young old) =
        All-cons (IsLow n) (search.bound_to C young (variable old) a) others
        (bound_low n a young (variable old) low) rest
    equated_low (walk v t) = (low, rest)
    equated_low clash = rest

    walked_on_low : (v : ℕ) (t : Term) (xs : Args) → IsStateLow n (walked_on C v t xs a others)
    walked_on_low v t no_args =
        All-cons (IsLow n) (search.bound_to C v t a) others (bound_low n a v t low) rest
    walked_on_low v t (arg x xs) = (low, rest)

    node_low : (v : ℕ) (t : Term) (q : Option Args) (xs : Args)
        → IsStateLow n (behind_node C v t q xs a others)
    node_low v t None xs = rest
    node_low v t (Some ys) xs = walked_on_low v t (joined ys xs)

  -- a goal is taken
  pub taken_low : IsTable T → (clauses : List Clause) (n : ℕ) (g : GoalOf) (a : AlternativeOf)
      (others : List AlternativeOf) → IsLevelled n g → IsLow n a → AreLow n others
      → IsStateLow (suc n) (search.taken C fits clauses g a others)
  taken_low table clauses n g a others level low rest =
      go g level (low_more n (suc n) (omega arith) a low)
      (are_low_more n (suc n) (omega arith) others rest)
    where
      go : (g : GoalOf) → IsLevelled n g → IsLow (suc n) a → AreLow (suc n) others
          → IsStateLow (suc n) (search.taken C fits clauses g a others)
      go (call b) level low rest =
          extended_low (suc n) a others low rest
          (search.by_clauses C fits b (length a.levels) clauses)
          (clauses_low (suc n) fits b (length a.levels) clauses)
      go (equate t u) level low rest = equated_low (suc n) a others low rest (equality t u)
      go (emit e) level low rest =
          All-cons (IsLow (suc n)) (record a { emitted = a.emitted ++ e ∷ [] }) others low rest
      go (item x) level low rest =
          extended_low (suc n) a others low rest (T.expand x (length a.levels))
          (lists_low table n x (length a.levels) level)

  module _ (clauses : List Clause) (n : ℕ) where
    -- a walk keeps the levels
    walk_low : (q : search.State C.ItemOf C.StepOf) → at_between q ≡ None → IsStateLow n q
        → IsStateLow n (search.step C fits clauses q)
    walk_low (between alternatives) none h = absurd (cc)
    walk_low (walking v t x xs a others) none h =
        node_low n a others h.0 h.1 v t (walked_node v (level_of a.levels v) x) xs

    at_end : (q : search.State C.ItemOf C.StepOf) (found_now : List AlternativeOf)
        → IsStateLow n q → at_between q ≡ Some found_now → AreLow n found_now
    at_end (between alternatives) found_now h e =
        let f : alternatives ≡ found_now = cc in subst (AreLow n) f h
    at_end (walking v t x xs a others) found_now h e = absurd (cc)

    -- and so does a run to the next state that is no walk
    pub reached_low : (budget : ℕ) (q : search.State C.ItemOf C.StepOf)
        (found_now : List AlternativeOf) (k : ℕ) → IsStateLow n q
        → to_between C clauses budget q ≡ ended found_now k → AreLow n found_now
    reached_low budget q found_now k h e =
        let last = kept (search.State C.ItemOf C.StepOf) (List AlternativeOf) at_between
        (search.step C fits clauses) (IsStateLow n) walk_low budget q found_now k h e in
        at_end last.0 found_now last.1 last.2
