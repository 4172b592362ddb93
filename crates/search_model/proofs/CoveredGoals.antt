-- A call and an item, where the goal lists that may stand for them keep an alternative covered.
use Rattle.std.specs.Prelude.{◌≡◌, ℕ, zero, suc, ◌+◌, ◌<◌, Bool, true, false, None}
use Rattle.std.specs.Prelude.{List, [], ◌∷◌, ◌++◌, map, length, get_or, replicate, Contains}
use Rattle.std.proofs.Common.{sym, ap, ◌∙◌, subst, inl, inr, arith}
use Rattle.std.proofs.lemmas.List.Elements.{All-nil, All-cons, All-head, All-append}
use Rattle.std.proofs.lemmas.List.Elements.{Contains-append_right}
use mathlib.Core.Path.{fun_ext, refl}
use Rattle.fpc_terms.specs.Term.{Term, Always, Never, put}
use Rattle.fpc_terms.specs.Open.{AreOpen, later, Level, IsClosing}
use Rattle.fpc_terms.proofs.PutFacts.{puts-puts, put_agrees, puts_agree}
use Rattle.clause_language.specs.declared.atom.Atom.{Atom}
use Rattle.clause_language.specs.declared.clause.Clause.{Clause}
use Rattle.clause_language.specs.LeastModel.{put_atom, IsInstance, AllHold, Holds}
use Rattle.clause_language.proofs.LeastModelFacts.{all_hold_first, all_hold_rest, holds_inversion}
use Rattle.clause_language.proofs.LeastModelFacts.{put_atoms-put_atoms}
use Rattle.search_model.specs.Search.{SearchCalculus, Choice, call, equate, emit, item, GoalList}
use Rattle.search_model.specs.Search.{extended, with_goals, where_it_fits, by_clause, by_clauses}
use Rattle.search_model.specs.Lawful.{IsGoal, AreGoals, both, IsLawful, IsComplete, IsChoice}
use Rattle.search_model.proofs.ClosingFacts.{both_below, both_later, closing_both, closing_free}
use Rattle.search_model.proofs.GoalsMet.{IsMet, AreMet, spelled_met}
use Rattle.search_model.proofs.Covered.{GoalOf, AlternativeOf, IsCoveredBy, IsCovered, IsOneCovered}
use Rattle.search_model.proofs.Covered.{equalities_met, rest_covered}

-- a calculus's goal lists
abbrev GoalListOf : SearchCalculus → Type 0
GoalListOf C = GoalList C.ItemOf C.StepOf

module _ (C : SearchCalculus) (clauses : List Clause) where
  module _ (lawful : IsLawful C clauses) (levels : List Level) (s r : ℕ → Term) (same : (n : ℕ) → n < length levels → s n ≡ r n) where
    -- closings that agree on a goal's variables meet it alike
    met_alike : (g : GoalOf C) → IsGoal C levels g → IsMet C clauses s g → IsMet C clauses r g
    met_alike (call a) o h =
        let arguments : map (put s) a.arguments ≡ map (put r) a.arguments = puts_agree Always Never (λ n. n < length levels) s r same a.arguments o in
        subst (λ ts. Holds clauses (record { name = a.name; arguments = ts })) arguments h
    met_alike (equate t u) o h =
        let first : put s t ≡ put r t = put_agrees Always Never (λ n. n < length levels) s r same t o.0 in
        let second : put s u ≡ put r u = put_agrees Always Never (λ n. n < length levels) s r same u o.1 in
        sym first ∙ h ∙ second
    met_alike (emit e) o h = tt
    met_alike (item x) o h = subst (λ y. (steps : List C.StepOf) × C.Completed y steps) (lawful.item_agrees (length levels) s r same x o.0) h

    all_met_alike : (goals : List (GoalOf C)) → AreGoals C levels goals → AreMet C clauses s goals → AreMet C clauses r goals
    all_met_alike goals are met = λ k d l. met_alike (get_or goals k d) (are k d l) (met k d l)

  -- a goal list under a condition that holds, and one behind a goal list under any condition
  fitting_here : (b : Bool) (e : GoalListOf C) (es : List (GoalListOf C)) → b ≡ true → Contains (where_it_fits C b e es) e
  fitting_here true e es h = (0, omega arith, refl)
  fitting_here false e es h = let n : ⊥ = cc in absurd n

  fitting_behind : (b : Bool) (d e : GoalListOf C) (es : List (GoalListOf C)) → Contains es e → Contains (where_it_fits C b d es) e
  fitting_behind true d e es h = Contains-append_right (d ∷ []) es e h
  fitting_behind false d e es h = h

  -- each clause that is chosen for the call of an atom answers it
  module _ (choice : Choice) (a : Atom) (k : ℕ) (c : Clause) (chosen : choice a c.head ≡ true) where
    clause_answers : (cs : List Clause) (j : ℕ) → j < length cs → get_or cs j c ≡ c
        → Contains (by_clauses C choice a k cs) (by_clause C a k c)
    clause_answers [] j l e = let n : ⊥ = omega arith in absurd n
    clause_answers (d ∷ cs) zero l e =
        let here = fitting_here (choice a c.head) (by_clause C a k c) (by_clauses C choice a k cs) chosen in
        subst (λ x. Contains (by_clauses C choice a k (x ∷ cs)) (by_clause C a k c)) (sym e) here
    clause_answers (d ∷ cs) (suc j) l e =
        fitting_behind (choice a d.head) (by_clause C a k d) (by_clause C a k c) (by_clauses C choice a k cs)
        (clause_answers cs j (omega arith) e)

  -- the calls of atoms that hold
  calls_met : (s r : ℕ → Term) (atoms : List Atom) → AllHold clauses (map (put_atom s) (map (put_atom r) atoms))
      → AreMet C clauses s (map (λ b. call (put_atom r b)) atoms)
  calls_met s r [] h = All-nil (IsMet C clauses s)
  calls_met s r (a ∷ atoms) h =
      let first : Atom = put_atom s (put_atom r a) in
      let others : List Atom = map (put_atom s) (map (put_atom r) atoms) in
      let rest = calls_met s r atoms (all_hold_rest clauses first others h) in
      All-cons (IsMet C clauses s) (call (put_atom r a)) (map (λ b. call (put_atom r b)) atoms) (all_hold_first clauses first others h) rest

  -- under a closing an atom is the head of an instance of a clause, and the instance's body holds
  module _ (levels : List Level) (a : Atom) (open_arguments : AreOpen (length levels) a.arguments) (s : ℕ → Term) (closing : IsClosing levels s)
      (atoms : List Atom) (i : IsInstance clauses (put_atom s a) atoms) (body_holds : AllHold clauses atoms) where
    -- the number of variables so far
    abbrev size : ℕ
    size = length levels

    -- the closing, with the terms for the clause's variables behind
    abbrev wider : ℕ → Term
    wider = both size s i.terms

    renamed : (λ n. wider (size + n)) ≡ i.terms
    renamed = fun_ext (both_later size s i.terms)

    arguments_same : map (put wider) a.arguments ≡ map (put wider) (map (put (later size)) i.clause.head.arguments)
    arguments_same =
        sym (puts_agree Always Never (λ n. n < size) s wider (both_below size s i.terms) a.arguments open_arguments)
        ∙ ap (λ b. b.arguments) i.head_is
        ∙ ap (λ r. map (put r) i.clause.head.arguments) (sym renamed)
        ∙ sym (puts-puts wider (later size) i.clause.head.arguments)

    body_same : atoms ≡ map (put_atom wider) (map (put_atom (later size)) i.clause.body)
    body_same = i.body_is ∙ ap (λ r. map (put_atom r) i.clause.body) (sym renamed) ∙ sym (put_atoms-put_atoms wider (later size) i.clause.body)

    pub clause_given : (choice : Choice) → IsChoice choice
        → Contains (by_clauses C choice a size clauses) (by_clause C a size i.clause)
    clause_given choice is_choice =
        clause_answers choice a size i.clause (is_choice.each a i.clause.head s i.terms i.head_is) clauses
        i.is_one.0 i.is_one.1 i.is_one.2

    pub clause_met : AreMet C clauses wider (by_clause C a size i.clause).goals
    clause_met =
        let calls = calls_met wider (later size) i.clause.body (subst (AllHold clauses) body_same body_holds) in
        equalities_met C clauses wider a.arguments (map (put (later size)) i.clause.head.arguments) (map (λ b. call (put_atom (later size) b)) i.clause.body)
        arguments_same calls

    -- the levels, with those of the clause's variables behind
    abbrev more_levels : List Level
    more_levels = levels ++ replicate i.clause.variables None

    pub clause_closing : IsClosing more_levels wider
    clause_closing =
        closing_both levels (replicate i.clause.variables None) s i.terms closing
        (closing_free i.clause.variables i.terms i.ground)

  module _ (z : List Term) (a : AlternativeOf C) (others : List (AlternativeOf C)) where
    -- other alternatives stay covered behind those of the goal lists
    pub others_covered : (es : List (GoalListOf C)) → IsOneCovered C clauses z others → IsOneCovered C clauses z (map (extended a) es ++ others)
    others_covered [] h = h
    others_covered (e ∷ es) h = inr (others_covered es h)

    -- the alternative of one of the goal lists is covered
    one_covered : (es : List (GoalListOf C)) (j : ℕ) (e : GoalListOf C) → j < length es → get_or es j e ≡ e → IsCovered C clauses z (extended a e)
        → IsOneCovered C clauses z (map (extended a) es ++ others)
    one_covered [] j e l same h = let n : ⊥ = omega arith in absurd n
    one_covered (d ∷ es) zero e l same h = inl (subst (λ x. IsCovered C clauses z (extended a x)) (sym same) h)
    one_covered (d ∷ es) (suc j) e l same h = inr (one_covered es j e (omega arith) same h)

  module _ (lawful : IsLawful C clauses) (complete : IsComplete C clauses) (z : List Term)
      (a : AlternativeOf C) where
    -- the goals of a goal list that are met stand for a goal
    extended_covered : (g : GoalOf C) (e : GoalListOf C) (s r : ℕ → Term) → AreGoals C a.levels a.goals → AreOpen (length a.levels) a.asked
        → IsCoveredBy C clauses z (with_goals a (g ∷ a.goals)) s → IsClosing (a.levels ++ e.new) (both (length a.levels) s r)
        → AreMet C clauses (both (length a.levels) s r) e.goals → IsCovered C clauses z (extended a e)
    extended_covered g e s r are open_asked c closing met =
        let wide : ℕ → Term = both (length a.levels) s r in
        let alike : (n : ℕ) → n < length a.levels → s n ≡ wide n = both_below (length a.levels) s r in
        let rest : IsCoveredBy C clauses z a s = rest_covered C clauses z a g s c in
        let left : AreMet C clauses wide a.goals = all_met_alike lawful a.levels s wide alike a.goals are rest.met in
        let asked : map (put s) a.asked ≡ map (put wide) a.asked = puts_agree Always Never (λ n. n < length a.levels) s wide alike a.asked open_asked in
        (wide, record { closing = closing; met = All-append (IsMet C clauses wide) e.goals a.goals met left; asked_is = sym asked ∙ c.asked_is })

    module _ (others : List (AlternativeOf C)) (are : AreGoals C a.levels a.goals) (open_asked : AreOpen (length a.levels) a.asked) (s : ℕ → Term) where
      -- a call that holds
      pub call_covered : (choice : Choice) → IsChoice choice → (b : Atom)
          → AreOpen (length a.levels) b.arguments
          → IsCoveredBy C clauses z (with_goals a (call b ∷ a.goals)) s
          → IsOneCovered C clauses z
          (map (extended a) (by_clauses C choice b (length a.levels) clauses) ++ others)
      call_covered choice is_choice b open_arguments c =
          let holds : Holds clauses (put_atom s b) = All-head (IsMet C clauses s) (call b) a.goals c.met in
          let found : (atoms : List Atom) × IsInstance clauses (put_atom s b) atoms × AllHold clauses atoms = holds_inversion clauses (put_atom s b) holds in
          let i : IsInstance clauses (put_atom s b) found.0 = found.1 in
          let e : GoalListOf C = by_clause C b (length a.levels) i.clause in
          let given : Contains (by_clauses C choice b (length a.levels) clauses) e =
          clause_given a.levels b open_arguments s c.closing found.0 i found.2 choice is_choice in
          let closing = clause_closing a.levels b open_arguments s c.closing found.0 i found.2 in
          let met = clause_met a.levels b open_arguments s c.closing found.0 i found.2 in
          one_covered z a others (by_clauses C choice b (length a.levels) clauses) given.0 e given.1 given.2
          (extended_covered (call b) e s i.terms are open_asked c closing met)

      -- an item that is completed
      pub item_covered : (x : C.ItemOf) → IsGoal C a.levels (item x) → IsCoveredBy C clauses z (with_goals a (item x ∷ a.goals)) s
          → IsOneCovered C clauses z (map (extended a) (C.expand x (length a.levels)) ++ others)
      item_covered x is_goal c =
          let completed : (steps : List C.StepOf) × C.Completed (C.put_item s x) steps = All-head (IsMet C clauses s) (item x) a.goals c.met in
          let given = complete.given a.levels x is_goal.0 is_goal.1 s c.closing completed.0 completed.1 in
          let covered : IsCovered C clauses z (extended a given.0) = extended_covered (item x) given.0 s given.2 are open_asked c given.3 (spelled_met C clauses (both (length a.levels) s given.2) given.0.goals completed.0 given.4) in
          one_covered z a others (C.expand x (length a.levels)) given.1.0 given.0 given.1.1 given.1.2 covered
