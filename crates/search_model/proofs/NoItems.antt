-- The search over clauses alone is the search at the table that gives nothing.
use Rattle.std.specs.Prelude.{◌≡◌, ℕ, zero, suc, Bool, true, false, Option, Some, None, List, [], ◌∷◌, ◌++◌, map, length, replicate, refl}
use Rattle.std.proofs.Common.{ap, ap₂, ◌∙◌, sym}
use Rattle.std.proofs.lemmas.List.{map-append}
use Rattle.fpc_terms.specs.Equality.{Equality, same, parts, older, walk, clash, equality, walked_node}
use Rattle.fpc_terms.specs.Open.{later, at_one, level_of}
use Rattle.fpc_terms.specs.Term.{Term, Args, no_args, arg, joined, put, terms_in}
use Rattle.polarised_formulas.specs.declared.step.Step.{Step}
use Rattle.clause_language.specs.declared.atom.Atom.{Atom}
use Rattle.clause_language.specs.declared.clause.Clause.{Clause}
use Rattle.clause_language.specs.LeastModel.{fits, put_atom}
use Rattle.search_model.specs.Run.{Ending, ended, spent, one_more, run}
use Rattle.search_model.specs.Search.{SearchCalculus, Goal, call, equate, emit, item, GoalList, Alternative, State, between, walking}
use Rattle.search_model.specs.Search.{Answer, accepted, rejected, answer, answer_of, by_clause, by_clauses, where_it_fits, bound_to}
use Rattle.search_model.specs.Search.{equalities, equated, extended, put_goal, search, start, step, taken, with_goals}
use Rattle.search_model.specs.ClausesAlone.{no_table}
use Rattle.search_model.specs.Solve.{Nothing, no_calculus, solving}
use Rattle.search_model.specs.States.{IsFound, IsFoundAlone}
use Rattle.search_model.specs.Table.{calculus_of}
use Rattle.search_model.specs.declared.search.Found.{Found}
use Rattle.search_model.specs.declared.search.Found.TheVariants.{Accepted, Rejected, Spent}
use Rattle.fpc_terms.proofs.RunFacts.{run_answered, run_going, run_spent}
use Rattle.search_model.proofs.WalkSteps.{walked_on, behind_node}

abbrev E : SearchCalculus
E = calculus_of no_table

abbrev N : SearchCalculus
N = no_calculus

nothing : {X : Type 0} → Nothing → X
nothing x = elim x [ ]

-- a goal, without items and steps
abbrev goal_to : Goal Nothing Nothing → Goal E.ItemOf Step
goal_to (call a) = call a
goal_to (equate t u) = equate t u
goal_to (emit e) = nothing e
goal_to (item x) = nothing x

abbrev goals_to : List (Goal Nothing Nothing) → List (Goal E.ItemOf Step)
goals_to goals = map goal_to goals

abbrev list_to : GoalList Nothing Nothing → GoalList E.ItemOf Step
list_to e = record { goals = goals_to e.goals; new = e.new }

abbrev to : Alternative Nothing Nothing → Alternative E.ItemOf Step
to a = record { goals = goals_to a.goals; emitted = []; asked = a.asked; levels = a.levels }

abbrev state_to : State Nothing Nothing → State E.ItemOf Step
state_to (between others) = between (map to others)
state_to (walking v t x xs a others) = walking v t x xs (to a) (map to others)

abbrev answer_to : Answer Nothing Nothing → Answer E.ItemOf Step
answer_to (accepted a) = accepted (to a)
answer_to rejected = rejected

abbrev option_to : Option (Answer Nothing Nothing) → Option (Answer E.ItemOf Step)
option_to (Some r) = Some (answer_to r)
option_to None = None

abbrev ending_to : Ending (Answer Nothing Nothing) → Ending (Answer E.ItemOf Step)
ending_to (ended r u) = ended (answer_to r) u
ending_to spent = spent

put-to : (s : ℕ → Term) (goals : List (Goal Nothing Nothing)) → map (put_goal E s) (goals_to goals) ≡ goals_to (map (put_goal N s) goals)
put-to s [] = refl
put-to s (call a ∷ goals) = ap (λ gs. call (put_atom s a) ∷ gs) (put-to s goals)
put-to s (equate t u ∷ goals) = ap (λ gs. equate (put s t) (put s u) ∷ gs) (put-to s goals)
put-to s (emit e ∷ goals) = nothing e
put-to s (item x ∷ goals) = nothing x

equalities-to : (ts us : List Term) (goals : List (Goal Nothing Nothing)) → equalities ts us (goals_to goals) ≡ goals_to (equalities ts us goals)
equalities-to [] us goals = refl
equalities-to (t ∷ ts) [] goals = refl
equalities-to (t ∷ ts) (u ∷ us) goals = ap (λ gs. equate t u ∷ gs) (equalities-to ts us goals)

calls-to : (k : ℕ) (body : List Atom) → map {B = Goal E.ItemOf Step} (λ b. call (put_atom (later k) b)) body ≡ goals_to (map (λ b. call (put_atom (later k) b)) body)
calls-to k [] = refl
calls-to k (b ∷ body) = ap (λ gs. call (put_atom (later k) b) ∷ gs) (calls-to k body)

bound-to : (v : ℕ) (t : Term) (a : Alternative Nothing Nothing) → bound_to E v t (to a) ≡ to (bound_to N v t a)
bound-to v t a = ap (λ gs. record (bound_to E v t (to a)) { goals = gs }) (put-to (at_one v t) a.goals)

clause-to : (a : Alternative Nothing Nothing) (b : Atom) (k : ℕ) (c : Clause) → extended (to a) (by_clause E b k c) ≡ to (extended a (by_clause N b k c))
clause-to a b k c =
    ap (λ gs. record (to a) { goals = gs; levels = a.levels ++ replicate c.variables None })
    (ap (λ hs. equalities b.arguments (map (put (later k)) c.head.arguments) hs ++ goals_to a.goals) (calls-to k c.body)
    ∙ ap (λ hs. hs ++ goals_to a.goals) (equalities-to b.arguments (map (put (later k)) c.head.arguments) (map (λ d. call (put_atom (later k) d)) c.body))
    ∙ sym (map-append goal_to (by_clause N b k c).goals a.goals))

clauses-to : (a : Alternative Nothing Nothing) (b : Atom) (k : ℕ) (cs : List Clause) (others : List (Alternative Nothing Nothing))
    → map (extended (to a)) (by_clauses E fits b k cs) ++ map to others ≡ map to (map (extended a) (by_clauses N fits b k cs) ++ others)
clauses-to a b k [] others = refl
clauses-to a b k (c ∷ cs) others = go (fits b c.head) (clauses-to a b k cs others)
  where
    go : (f : Bool) → map (extended (to a)) (by_clauses E fits b k cs) ++ map to others ≡ map to (map (extended a) (by_clauses N fits b k cs) ++ others)
        → map (extended (to a)) (where_it_fits E f (by_clause E b k c) (by_clauses E fits b k cs)) ++ map to others
        ≡ map to (map (extended a) (where_it_fits N f (by_clause N b k c) (by_clauses N fits b k cs)) ++ others)
    go true h = ap₂ (λ x xs. x ∷ xs) (clause-to a b k c) h
    go false h = h

module _ (a : Alternative Nothing Nothing) (others : List (Alternative Nothing Nothing)) where
  equated-to : (r : Equality) → equated E r (to a) (map to others) ≡ state_to (equated N r a others)
  equated-to same = refl
  equated-to (parts ts us) =
      ap (λ gs. between (with_goals (to a) gs ∷ map to others)) (equalities-to (terms_in ts) (terms_in us) a.goals)
  equated-to (older young old) = ap (λ b. between (b ∷ map to others)) (bound-to young _ a)
  equated-to (walk v t) = refl
  equated-to clash = refl

  on-to : (v : ℕ) (t : Term) (xs : Args) → walked_on E v t xs (to a) (map to others) ≡ state_to (walked_on N v t xs a others)
  on-to v t no_args = ap (λ b. between (b ∷ map to others)) (bound-to v t a)
  on-to v t (arg x xs) = refl

  node-to : (v : ℕ) (t : Term) (q : Option Args) (xs : Args) → behind_node E v t q xs (to a) (map to others) ≡ state_to (behind_node N v t q xs a others)
  node-to v t None xs = refl
  node-to v t (Some ys) xs = on-to v t (joined ys xs)

  taken-to : (clauses : List Clause) (g : Goal Nothing Nothing) → taken E fits clauses (goal_to g) (to a) (map to others) ≡ state_to (taken N fits clauses g a others)
  taken-to clauses (call b) = ap between (clauses-to a b (length a.levels) clauses others)
  taken-to clauses (equate t u) = equated-to (equality t u)
  taken-to clauses (emit e) = nothing e
  taken-to clauses (item x) = nothing x

module _ (clauses : List Clause) where
  first-to : (goals : List (Goal Nothing Nothing)) (a : Alternative Nothing Nothing) (others : List (Alternative Nothing Nothing))
      → step E fits clauses (state_to (between (with_goals a goals ∷ others))) ≡ state_to (step N fits clauses (between (with_goals a goals ∷ others)))
  first-to [] a others = refl
  first-to (g ∷ goals) a others = taken-to (with_goals a goals) others clauses g

  step-to : (q : State Nothing Nothing) → step E fits clauses (state_to q) ≡ state_to (step N fits clauses q)
  step-to (between []) = refl
  step-to (between (a ∷ others)) = first-to a.goals a others
  step-to (walking v t x xs a others) = node-to a others v t (walked_node v (level_of a.levels v) x) xs

  answer_of-to : (goals : List (Goal Nothing Nothing)) (a : Alternative Nothing Nothing) → answer_of (goals_to goals) (to a) ≡ option_to (answer_of goals a)
  answer_of-to [] a = refl
  answer_of-to (g ∷ goals) a = refl

  answer-to : (q : State Nothing Nothing) → answer (state_to q) ≡ option_to (answer q)
  answer-to (between []) = refl
  answer-to (between (a ∷ others)) = answer_of-to a.goals a
  answer-to (walking v t x xs a others) = refl

  one-more-to : (o : Ending (Answer Nothing Nothing)) → one_more (ending_to o) ≡ ending_to (one_more o)
  one-more-to (ended r u) = refl
  one-more-to spent = refl

  abbrev RunE : ℕ → State E.ItemOf Step → Ending (Answer E.ItemOf Step)
  RunE n q = run answer (step E fits clauses) n q

  abbrev RunN : ℕ → State Nothing Nothing → Ending (Answer Nothing Nothing)
  RunN n q = run answer (step N fits clauses) n q

  answered-to : (n : ℕ) (q : State Nothing Nothing) (r : Answer Nothing Nothing) → answer q ≡ Some r → RunE n (state_to q) ≡ ending_to (RunN n q)
  answered-to n q r is =
      run_answered (State E.ItemOf Step) (Answer E.ItemOf Step) answer (step E fits clauses) n (state_to q) (answer_to r) (answer-to q ∙ ap option_to is)
      ∙ sym (ap ending_to (run_answered (State Nothing Nothing) (Answer Nothing Nothing) answer (step N fits clauses) n q r is))

  run-to : (n : ℕ) (q : State Nothing Nothing) → RunE n (state_to q) ≡ ending_to (RunN n q)
  run-to zero q = go (answer q) refl
    where
      go : (o : Option (Answer Nothing Nothing)) → answer q ≡ o → RunE zero (state_to q) ≡ ending_to (RunN zero q)
      go (Some r) is = answered-to zero q r is
      go None is =
          run_spent (State E.ItemOf Step) (Answer E.ItemOf Step) answer (step E fits clauses) (state_to q) (answer-to q ∙ ap option_to is)
          ∙ sym (ap ending_to (run_spent (State Nothing Nothing) (Answer Nothing Nothing) answer (step N fits clauses) q is))
  run-to (suc n) q = go (answer q) refl (run-to n (step N fits clauses q))
    where
      go : (o : Option (Answer Nothing Nothing)) → answer q ≡ o → RunE n (state_to (step N fits clauses q)) ≡ ending_to (RunN n (step N fits clauses q))
          → RunE (suc n) (state_to q) ≡ ending_to (RunN (suc n) q)
      go (Some r) is h = answered-to (suc n) q r is
      go None is h =
          run_going (State E.ItemOf Step) (Answer E.ItemOf Step) answer (step E fits clauses) n (state_to q) (answer-to q ∙ ap option_to is)
          ∙ ap (λ s. one_more (RunE n s)) (step-to q) ∙ ap one_more h ∙ one-more-to (RunN n (step N fits clauses q))
          ∙ sym (ap ending_to (run_going (State Nothing Nothing) (Answer Nothing Nothing) answer (step N fits clauses) n q is))

abbrev ended-e : Answer E.ItemOf Step → ℕ → Ending (Answer E.ItemOf Step)
ended-e r u = ended r u

abbrev spent-e : Ending (Answer E.ItemOf Step)
spent-e = spent

-- what was found over the table is what the search over clauses alone finds
pub found-alone : (clauses : List Clause) (a : Atom) (variables budget : ℕ) (f : Found)
    → IsFound f (search E fits clauses budget (call a) a.arguments variables) → IsFoundAlone f (solving clauses budget a variables)
found-alone clauses a variables budget f found = go f (solving clauses budget a variables) (run-to clauses budget (start (call a) a.arguments variables)) found
  where
    go : (f : Found) (e : Ending (Answer Nothing Nothing)) → search E fits clauses budget (call a) a.arguments variables ≡ ending_to e
        → IsFound f (search E fits clauses budget (call a) a.arguments variables) → IsFoundAlone f e
    go (Accepted asked emitted units) (ended (accepted b) u) is found =
        let same : ended-e (accepted (to b)) u ≡ ended-e (accepted found.0) units = sym is ∙ found.1 in
        let first : to b ≡ found.0 = cc in
        let units_are : u ≡ units = cc in
        (b, ap (ended (accepted b)) units_are, ap (λ x. x.asked) first ∙ found.2)
    go (Accepted asked emitted units) (ended rejected u) is found =
        let same : ended-e rejected u ≡ ended-e (accepted found.0) units = sym is ∙ found.1 in cc
    go (Accepted asked emitted units) spent is found =
        let same : spent-e ≡ ended-e (accepted found.0) units = sym is ∙ found.1 in cc
    go (Rejected units) (ended (accepted b) u) is found =
        let same : ended-e (accepted (to b)) u ≡ ended-e rejected units = sym is ∙ found in cc
    go (Rejected units) (ended rejected u) is found =
        let same : ended-e rejected u ≡ ended-e rejected units = sym is ∙ found in
        let units_are : u ≡ units = cc in
        ap (ended rejected) units_are
    go (Rejected units) spent is found = let same : spent-e ≡ ended-e rejected units = sym is ∙ found in cc
    go Spent (ended (accepted b) u) is found = let same : ended-e (accepted (to b)) u ≡ spent-e = sym is ∙ found in cc
    go Spent (ended rejected u) is found = let same : ended-e rejected u ≡ spent-e = sym is ∙ found in cc
    go Spent spent is found = refl
