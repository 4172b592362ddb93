-- Alternatives stay fine where a call or an item is replaced by each of its goal lists.
use Rattle.std.specs.Prelude.{ℕ, ◌≡◌, ◌+◌, ◌<◌, Bool, true, false, nat_eq, ◌&&◌, None, List, [], ◌∷◌, ◌++◌, map, length, replicate, Contains}
use Rattle.std.specs.List.{All}
use Rattle.std.proofs.Common.{refl, ap₂, sym, subst, ◌∙◌, arith, length-append}
use Rattle.std.proofs.lemmas.List.{length-replicate, length-map}
use Rattle.std.proofs.lemmas.Bool.Decides.{nat_tests}
use Rattle.std.proofs.lemmas.List.Elements.{All-nil, All-cons, All-head, All-tail, All-append, All-map, All-weaker, All-contains_itself}
use Rattle.fpc_terms.specs.Term.{Term, put}
use Rattle.fpc_terms.specs.Open.{IsOpen, AreOpen, later, Level, IsClosing}
use Rattle.fpc_terms.proofs.PutFacts.{puts-puts, opens_put, opens_more}
use Rattle.fpc_terms.proofs.LevelFacts.{closing_fewer}
use Rattle.clause_language.proofs.LeastModelFacts.{all_hold_none, all_hold_also, holds_by, put_atoms-put_atoms, open_atoms_put}
use Rattle.clause_language.specs.declared.atom.Atom.{Atom}
use Rattle.clause_language.specs.declared.clause.Clause.{Clause}
use Rattle.clause_language.specs.LeastModel.{put_atom, IsInstance, AllHold, AreOpenAtoms, IsOpenClause, AreOpenClauses, fits}
use Rattle.search_model.specs.Search.{SearchCalculus, Choice, Goal, call, equate, item, GoalList, Alternative, equalities, extended, with_goals, by_clause, by_clauses, where_it_fits}
use Rattle.search_model.specs.Lawful.{Spelled, IsGoal, AreGoals, IsLawful, IsChoice}
use Rattle.search_model.proofs.Fine.{IsFine, AreFine}
use Rattle.search_model.proofs.SpelledFacts.{length_more, spelled_parts, goals_more}

-- two tests that both pass
both_pass : (a b : Bool) → (a && b) ≡ true → (a ≡ true) × (b ≡ true)
both_pass true b e = (refl, e)
both_pass false b e = cc

-- atoms of one name and the same arguments
same_atom : (a b : Atom) → a.name ≡ b.name → a.arguments ≡ b.arguments → a ≡ b
same_atom a b e f = ap₂ (λ k ts. record { name = k; arguments = ts }) e f

module _ (C : SearchCalculus) where
  -- equalities of open terms are goals
  pub equalities_are : (levels : List Level) (ts us : List Term) (goals : List (Goal C.ItemOf C.StepOf))
      → AreOpen (length levels) ts → AreOpen (length levels) us → AreGoals C levels goals → AreGoals C levels (equalities ts us goals)
  equalities_are levels [] [] goals p q h = h
  equalities_are levels [] (u ∷ us) goals p q h = h
  equalities_are levels (t ∷ ts) [] goals p q h = h
  equalities_are levels (t ∷ ts) (u ∷ us) goals p q h =
      All-cons (IsGoal C levels) (equate t u) (equalities ts us goals)
      (All-head (IsOpen (length levels)) t ts p, All-head (IsOpen (length levels)) u us q)
      (equalities_are levels ts us goals (All-tail (IsOpen (length levels)) t ts p) (All-tail (IsOpen (length levels)) u us q) h)

  -- the calls of open atoms are goals
  calls_are : (levels : List Level) (r : ℕ → Term) (atoms : List Atom) → AreOpenAtoms (length levels) (map (put_atom r) atoms)
      → AreGoals C levels (map (λ b. call (put_atom r b)) atoms)
  calls_are levels r [] h = All-nil (IsGoal C levels)
  calls_are levels r (a ∷ atoms) h =
      All-cons (IsGoal C levels) (call (put_atom r a)) (map (λ b. call (put_atom r b)) atoms)
      (All-head (λ b. AreOpen (length levels) b.arguments) (put_atom r a) (map (put_atom r) atoms) h)
      (calls_are levels r atoms (All-tail (λ b. AreOpen (length levels) b.arguments) (put_atom r a) (map (put_atom r) atoms) h))

module _ (C : SearchCalculus) (clauses : List Clause) where
  -- where the equalities of as many terms are met, the terms are equal
  pub equalities_spelled : (s : ℕ → Term) (ts us : List Term) (goals : List (Goal C.ItemOf C.StepOf)) (steps : List C.StepOf) → length ts ≡ length us
      → Spelled C clauses s (equalities ts us goals) steps → (map (put s) ts ≡ map (put s) us) × Spelled C clauses s goals steps
  equalities_spelled s [] [] goals steps e h = (refl, h)
  equalities_spelled s [] (u ∷ us) goals steps e h = absurd (omega (arith, e))
  equalities_spelled s (t ∷ ts) [] goals steps e h = absurd (omega (arith, e))
  equalities_spelled s (t ∷ ts) (u ∷ us) goals steps e h =
      let rest = equalities_spelled s ts us goals steps (omega (arith, e)) h.1 in
      (ap₂ (λ x xs. x ∷ xs) h.0 rest.0, rest.1)

  -- where calls are met, their atoms hold; they spell no steps
  calls_spelled : (s r : ℕ → Term) (atoms : List Atom) (steps : List C.StepOf) → Spelled C clauses s (map (λ b. call (put_atom r b)) atoms) steps
      → AllHold clauses (map (put_atom s) (map (put_atom r) atoms)) × (steps ≡ [])
  calls_spelled s r [] steps h = (all_hold_none clauses, h)
  calls_spelled s r (a ∷ atoms) steps h =
      let rest = calls_spelled s r atoms steps h.1 in
      (all_hold_also clauses (put_atom s (put_atom r a)) (map (put_atom s) (map (put_atom r) atoms)) h.0 rest.0, rest.1)

  -- A goal list may replace a goal: its goals are goals, and where they are met, so is the goal, by the same steps.
  pub record IsEntry (levels : List Level) (g : Goal C.ItemOf C.StepOf) (e : GoalList C.ItemOf C.StepOf) : Type 0 where
    pub are : AreGoals C (levels ++ e.new) e.goals
    pub gives : (s : ℕ → Term) → IsClosing (levels ++ e.new) s → (first rest : List C.StepOf) (goals : List (Goal C.ItemOf C.StepOf))
        → Spelled C clauses s e.goals first → Spelled C clauses s goals rest → Spelled C clauses s (g ∷ goals) (first ++ rest)

module _ (C : SearchCalculus) (clauses : List Clause) (levels : List Level) (b : Atom) (b_open : AreOpen (length levels) b.arguments) where
  abbrev behind : Clause → List Level
  behind c = levels ++ replicate c.variables None

  later_open : (c : Clause) (n : ℕ) → n < c.variables → IsOpen (length (behind c)) (later (length levels) n)
  later_open c n l = omega (arith, l, length-append levels (replicate c.variables None), length-replicate {A = Level} c.variables None)

  -- where the goals of a clause are met under a closing, it has an instance whose head is the atom
  instance_of : (c : Clause) → Contains clauses c → fits b c.head ≡ true → (s : ℕ → Term) → IsClosing (behind c) s
      → map (put s) b.arguments ≡ map (put s) (map (put (later (length levels))) c.head.arguments)
      → IsInstance clauses (put_atom s b) (map (put_atom (λ n. s (length levels + n))) c.body)
  instance_of c one fit s closing e = record {
    clause = c;
    is_one = one;
    terms = λ n. s (length levels + n);
    ground = λ n. closing.ground (length levels + n);
    head_is =
        same_atom (put_atom s b) (put_atom (λ n. s (length levels + n)) c.head)
        (grind (arith, nat_tests, (both_pass (nat_eq b.name c.head.name) (nat_eq (length b.arguments) (length c.head.arguments)) fit).0))
        (e ∙ puts-puts s (later (length levels)) c.head.arguments);
    body_is = refl;
  }

  clause_entry : (c : Clause) → Contains clauses c → IsOpenClause c → fits b c.head ≡ true
      → IsEntry C clauses levels (call b) (by_clause C b (length levels) c)
  clause_entry c one c_open fit = record { are = are; gives = gives } where
    are : AreGoals C (behind c) (by_clause C b (length levels) c).goals
    are =
        equalities_are C (behind c) b.arguments (map (put (later (length levels))) c.head.arguments)
        (map (λ d. call (put_atom (later (length levels)) d)) c.body)
        (opens_more (length levels) (length (behind c)) (length_more levels (replicate c.variables None)) b.arguments b_open)
        (opens_put c.variables (length (behind c)) (later (length levels)) (later_open c) c.head.arguments c_open.head)
        (calls_are C (behind c) (later (length levels)) c.body
        (open_atoms_put c.variables (length (behind c)) (later (length levels)) (later_open c) c.body c_open.body))

    gives : (s : ℕ → Term) → IsClosing (behind c) s → (first rest : List C.StepOf) (goals : List (Goal C.ItemOf C.StepOf))
        → Spelled C clauses s (by_clause C b (length levels) c).goals first → Spelled C clauses s goals rest
        → Spelled C clauses s (call b ∷ goals) (first ++ rest)
    gives s closing first rest goals h k =
        let p =
        equalities_spelled C clauses s b.arguments (map (put (later (length levels))) c.head.arguments)
        (map (λ d. call (put_atom (later (length levels)) d)) c.body) first
        (grind (
          arith,
          nat_tests,
          (both_pass (nat_eq b.name c.head.name) (nat_eq (length b.arguments) (length c.head.arguments)) fit).1,
          length-map c.head.arguments (put (later (length levels))),
        )) h
        in
        let q = calls_spelled C clauses s (later (length levels)) c.body first p.1 in (
          holds_by clauses (put_atom s b) (map (put_atom (λ n. s (length levels + n))) c.body) (instance_of c one fit s closing p.0)
              (subst (AllHold clauses) (put_atoms-put_atoms s (later (length levels)) c.body) q.0),
          subst (λ xs. Spelled C clauses s goals (xs ++ rest)) (sym q.1) k,
        )

  where_it_fits_entries : (t : Bool) (e : GoalList C.ItemOf C.StepOf) (es : List (GoalList C.ItemOf C.StepOf))
      → (t ≡ true → IsEntry C clauses levels (call b) e) → All (IsEntry C clauses levels (call b)) es
      → All (IsEntry C clauses levels (call b)) (where_it_fits C t e es)
  where_it_fits_entries true e es h hs = All-cons (IsEntry C clauses levels (call b)) e es (h refl) hs
  where_it_fits_entries false e es h hs = hs

  -- each goal list for a call may replace it
  module _ (choice : Choice) (is_choice : IsChoice choice) where
    pub clauses_entries : (cs : List Clause) → All (Contains clauses) cs → AreOpenClauses cs
        → All (IsEntry C clauses levels (call b)) (by_clauses C choice b (length levels) cs)
    clauses_entries [] ones opens = All-nil (IsEntry C clauses levels (call b))
    clauses_entries (c ∷ cs) ones opens =
        let one = All-head (Contains clauses) c cs ones in
        let c_open = All-head IsOpenClause c cs opens in
        where_it_fits_entries (choice b c.head) (by_clause C b (length levels) c)
        (by_clauses C choice b (length levels) cs)
        (λ e. clause_entry c one c_open (is_choice.only b c.head e))
        (clauses_entries cs (All-tail (Contains clauses) c cs ones) (All-tail IsOpenClause c cs opens))

module _ (C : SearchCalculus) (clauses : List Clause) (lawful : IsLawful C clauses) where
  -- each goal list of an item may replace it
  pub item_entries : (levels : List Level) (x : C.ItemOf) → IsGoal C levels (item x)
      → All (IsEntry C clauses levels (item x)) (C.expand x (length levels))
  item_entries levels x h =
      All-weaker (Contains (C.expand x (length levels))) (IsEntry C clauses levels (item x)) entry (C.expand x (length levels))
      (All-contains_itself (C.expand x (length levels)))
    where
      entry : (e : GoalList C.ItemOf C.StepOf) → Contains (C.expand x (length levels)) e → IsEntry C clauses levels (item x) e
      entry e one = record {
        are = lawful.expands levels x h.0 h.1 e one;
        gives = λ s closing first rest goals p q. (first, rest, refl, lawful.sound levels x h.0 h.1 e one s closing first p, q);
      }

module _ (C : SearchCalculus) (clauses : List Clause) (lawful : IsLawful C clauses) (End : List Term → List C.StepOf → Type 0) where
  -- an alternative that was fine before its first goal was taken is fine with a goal list that may replace the goal
  extended_fine : (a : Alternative C.ItemOf C.StepOf) (g : Goal C.ItemOf C.StepOf) → IsFine C clauses End (with_goals a (g ∷ a.goals))
      → (e : GoalList C.ItemOf C.StepOf) → IsEntry C clauses a.levels g e → IsFine C clauses End (extended a e)
  extended_fine a g fine e entry = record {
    goals_are =
        All-append (IsGoal C (a.levels ++ e.new)) e.goals a.goals entry.are
        (goals_more C clauses lawful a.levels e.new a.goals (All-tail (IsGoal C a.levels) g a.goals fine.goals_are));
    asked_open = opens_more (length a.levels) (length (a.levels ++ e.new)) (length_more a.levels e.new) a.asked fine.asked_open;
    ends = λ s closing steps h.
        let p = spelled_parts C clauses lawful s e.goals a.goals steps h in
        fine.ends s (closing_fewer a.levels e.new s closing) steps
        (subst (Spelled C clauses s (g ∷ a.goals)) (sym p.2) (entry.gives s closing p.0 p.1 a.goals p.3 p.4));
  }

  -- and so is each of those that it is replaced by
  pub extended_are_fine : (a : Alternative C.ItemOf C.StepOf) (g : Goal C.ItemOf C.StepOf) (others : List (Alternative C.ItemOf C.StepOf))
      → IsFine C clauses End (with_goals a (g ∷ a.goals)) → AreFine C clauses End others
      → (es : List (GoalList C.ItemOf C.StepOf)) → All (IsEntry C clauses a.levels g) es → AreFine C clauses End (map (extended a) es ++ others)
  extended_are_fine a g others fine rest es entries =
      All-append (IsFine C clauses End) (map (extended a) es) others
      (All-map (IsFine C clauses End) (extended a) es
      (All-weaker (IsEntry C clauses a.levels g) (λ e. IsFine C clauses End (extended a e)) (extended_fine a g fine) es entries))
      rest
