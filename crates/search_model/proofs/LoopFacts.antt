-- Facts of the loop over the stack of alternatives.
use Rattle.std.specs.Prelude.{◌≡◌, ◌≢◌, ℕ, zero, suc, ◌-◌, ◌≤◌, true, false, List, [], ◌∷◌, ◌++◌, length, refl, Some}
use Rattle.std.specs.List.{All}
use Rattle.std.proofs.Common.{ap, ap₂, subst, ◌∙◌, sym, arith}
use Rattle.std.proofs.lemmas.List.Elements.{All-head, All-tail, All-nil, All-cons, All-weaker}
use Rattle.fpc_terms.specs.Open.{AreOpen}
use Rattle.fpc_terms.specs.Term.{Term}
use Rattle.clause_language.specs.declared.clause.Clause.{Clause}
use Rattle.clause_language.specs.LeastModel.{fits, AreOpenClauses}
use Rattle.search_model.specs.Lawful.{AreGoals, IsGoal, IsLawful}
use Rattle.search_model.specs.Run.{Ending, ended, spent, one_more}
use Rattle.search_model.specs.Search as search
use Rattle.search_model.specs.States.{goal_of, goals_of, alternative_of, alternatives_of, at_between, raise, reached, running, to_between, IsFound}
use Rattle.search_model.specs.Table.{Table, calculus_of, AreSequents, IsLevelled, IsTable}
use Rattle.search_model.specs.TableLaws.{AreSoundLines}
use Rattle.search_model.specs.declared.alternative.Alternative.{Alternative}
use Rattle.search_model.specs.declared.goals.GoalItem.{GoalItem}
use Rattle.search_model.specs.declared.search.Found.TheVariants.{Accepted}
use Rattle.search_model.proofs.ChoiceFacts.{fits_is_choice}
use Rattle.search_model.proofs.Fine.{IsFine, AreFine, IsStateFine}
use Rattle.search_model.proofs.ItemLevels.{IsLow, AreLow, levelled_more, are_low_more, taken_low, reached_low}
use Rattle.search_model.proofs.Sound.{step_fine}
use Rattle.search_model.proofs.StateFacts.{seen-push, alternatives-push}
use Rattle.search_model.proofs.TableFacts.{table_lawful}
use Rattle.search_model.proofs.WalkFacts.{at-once}
use Rattle.fpc_terms.proofs.RunFacts.{kept, raise-more, raise-none, raise-raise, raise-one-more, run_answered}

one-more-ended : {R : Type 0} (o : Ending R) (r : R) (k : ℕ) → one_more o ≡ ended r k → (w : ℕ) × (k ≡ suc w) × (o ≡ ended r w)
one-more-ended (ended q w) r k e = (w, (cc), (cc))
one-more-ended spent r k e = cc

one-more-spent : {R : Type 0} (o : Ending R) → one_more o ≡ spent → o ≡ spent
one-more-spent (ended q w) e = cc
one-more-spent spent e = refl

module _ (C : search.SearchCalculus) (clauses : List Clause) where
  abbrev St : Type 0
  St = search.State C.ItemOf C.StepOf

  abbrev Al : Type 0
  Al = search.Alternative C.ItemOf C.StepOf

  run-answered : (n : ℕ) (q : St) (r : search.Answer C.ItemOf C.StepOf) → search.answer q ≡ Some r → running C clauses n q ≡ ended r 0
  run-answered n q r is = run_answered St (search.Answer C.ItemOf C.StepOf) search.answer (search.step C fits clauses) n q r is

  at-end : (n : ℕ) (bs found_now : List Al) (k : ℕ) → to_between C clauses n (search.between bs) ≡ ended found_now k → (bs ≡ found_now) × (k ≡ 0)
  at-end n bs found_now k e = let f : ended bs 0 ≡ ended found_now k = sym (at-once C clauses n bs) ∙ e in ((cc), (cc))

  here : (n : ℕ) (bs found_now : List Al) (k : ℕ) → to_between C clauses n (search.between bs) ≡ ended found_now k
      → running C clauses n (search.between bs) ≡ raise k (running C clauses (n - k) (search.between found_now))
  here n bs found_now k e =
      let p = at-end n bs found_now k e in
      let none : k ≡ 0 = p.1 in
      subst (λ xs. running C clauses n (search.between bs) ≡ raise k (running C clauses (n - k) (search.between xs))) p.0
      (sym (raise-none _) ∙ ap₂ (λ j m. raise j (running C clauses m (search.between bs))) (sym none) (omega (arith, none)))

  later : (n : ℕ) (q : St) (found_now : List Al) (k : ℕ)
      → ((j : ℕ) → to_between C clauses n q ≡ ended found_now j → running C clauses n q ≡ raise j (running C clauses (n - j) (search.between found_now)))
      → one_more (to_between C clauses n q) ≡ ended found_now k
      → one_more (running C clauses n q) ≡ raise k (running C clauses (suc n - k) (search.between found_now))
  later n q found_now k h e =
      let p = one-more-ended (to_between C clauses n q) found_now k e in
      let more : k ≡ suc p.0 = p.1 in
      ap one_more (h p.0 p.2) ∙ raise-more p.0 _
      ∙ ap₂ (λ j m. raise j (running C clauses m (search.between found_now))) (sym more) (omega (arith, more))

  -- a run goes on from the next state that is no walk
  pub runs-on : (n : ℕ) (q : St) (found_now : List Al) (k : ℕ) → to_between C clauses n q ≡ ended found_now k
      → running C clauses n q ≡ raise k (running C clauses (n - k) (search.between found_now))
  runs-on zero (search.between bs) found_now k e = here zero bs found_now k e
  runs-on zero (search.walking v t x xs b bs) found_now k e = let f : spent ≡ ended found_now k = e in cc
  runs-on (suc n) (search.between bs) found_now k e = here (suc n) bs found_now k e
  runs-on (suc n) (search.walking v t x xs b bs) found_now k e =
      later n (search.step C fits clauses (search.walking v t x xs b bs)) found_now k
      (runs-on n (search.step C fits clauses (search.walking v t x xs b bs)) found_now) e

  -- a run is spent before the next state that is no walk
  pub runs-out : (n : ℕ) (q : St) → to_between C clauses n q ≡ spent → running C clauses n q ≡ spent
  runs-out zero (search.between bs) e = let f : ended bs 0 ≡ spent = sym (at-once C clauses zero bs) ∙ e in cc
  runs-out zero (search.walking v t x xs b bs) e = refl
  runs-out (suc n) (search.between bs) e = let f : ended bs 0 ≡ spent = sym (at-once C clauses (suc n) bs) ∙ e in cc
  runs-out (suc n) (search.walking v t x xs b bs) e =
      ap one_more (runs-out n (search.step C fits clauses (search.walking v t x xs b bs))
      (one-more-spent (to_between C clauses n (search.step C fits clauses (search.walking v t x xs b bs))) e))

  -- any end of the asked terms and the steps
  abbrev pub AnyEnd : List Term → List C.StepOf → Type 0
  AnyEnd asked steps = Unit {0}

  module _ (lawful : IsLawful C clauses) (opens : AreOpenClauses clauses) where
    between-fine : (q : St) (found_now : List Al) → IsStateFine C clauses AnyEnd q → at_between q ≡ Some found_now → AreFine C clauses AnyEnd found_now
    between-fine (search.between bs) found_now h e = let f : bs ≡ found_now = cc in subst (AreFine C clauses AnyEnd) f h
    between-fine (search.walking v t x xs b bs) found_now h e = cc

    -- alternatives are fine in the next state that is no walk
    pub reached-fine : (n : ℕ) (q : St) (found_now : List Al) (k : ℕ) → IsStateFine C clauses AnyEnd q → to_between C clauses n q ≡ ended found_now k
        → AreFine C clauses AnyEnd found_now
    reached-fine n q found_now k fine e =
        let last = kept St (List Al) at_between (search.step C fits clauses) (IsStateFine C clauses AnyEnd)
        (λ s none h. step_fine C fits fits_is_choice clauses lawful AnyEnd opens s h) n q found_now k fine e in
        between-fine last.0 found_now last.1 last.2

module _ (T : Table) {S : Type 0} (of : S → T.SequentOf) (clauses : List Clause) where
  abbrev C-of : search.SearchCalculus
  C-of = calculus_of T

  module _ (stack below : List (Alternative S)) (a : Alternative S) (is : stack ≡ below ++ a ∷ []) where
    pub first-is : alternatives_of of stack ≡ alternative_of of a ∷ alternatives_of of below
    first-is = sym (alternatives-push of below stack a (alternative_of of a) is refl)

    module _ (gs : List (GoalItem S)) (g : GoalItem S) (goals : a.goals.items ≡ gs ++ g ∷ []) where
      begins : goals_of of a.goals.items ≡ goal_of of g ∷ goals_of of gs
      begins = ap (goals_of of) goals ∙ seen-push (goal_of of) gs g

      -- the first alternative, with its goal
      pub with-goal : alternatives_of of stack ≡ search.with_goals (alternative_of of a) (goal_of of g ∷ goals_of of gs) ∷ alternatives_of of below
      with-goal = first-is ∙ ap (λ hs. search.with_goals (alternative_of of a) hs ∷ alternatives_of of below) begins

      module _ (sequents : AreSequents T) (lines : AreSoundLines T clauses) (opens : AreOpenClauses clauses)
          (fine : AreFine C-of clauses (AnyEnd C-of clauses) (alternatives_of of stack)) where
        fine-now : AreFine C-of clauses (AnyEnd C-of clauses) (search.with_goals (alternative_of of a) (goal_of of g ∷ goals_of of gs) ∷ alternatives_of of below)
        fine-now = subst (AreFine C-of clauses (AnyEnd C-of clauses)) with-goal fine

        -- its goal is open and in scope
        pub is-goal : IsGoal C-of a.levels.items (goal_of of g)
        is-goal =
            All-head (IsGoal C-of a.levels.items) (goal_of of g) (goals_of of gs)
            (All-head (IsFine C-of clauses (AnyEnd C-of clauses)) _ (alternatives_of of below) fine-now).goals_are

        -- alternatives stay fine
        pub stays-fine : (n k : ℕ) (found_now : List (search.Alternative C-of.ItemOf C-of.StepOf))
            → to_between C-of clauses n (search.taken C-of fits clauses (goal_of of g) (search.with_goals (alternative_of of a) (goals_of of gs)) (alternatives_of of below)) ≡ ended found_now k
            → AreFine C-of clauses (AnyEnd C-of clauses) found_now
        stays-fine n k found_now e =
            reached-fine C-of clauses (table_lawful T sequents clauses lines) opens n _ found_now k
            (step_fine C-of fits fits_is_choice clauses (table_lawful T sequents clauses lines) (AnyEnd C-of clauses) opens
            (search.between (search.with_goals (alternative_of of a) (goal_of of g ∷ goals_of of gs) ∷ alternatives_of of below)) fine-now) e

      module _ (table : IsTable T) (n : ℕ) (low : AreLow T n (alternatives_of of stack)) where
        low-now : AreLow T n (search.with_goals (alternative_of of a) (goal_of of g ∷ goals_of of gs) ∷ alternatives_of of below)
        low-now = subst (AreLow T n) with-goal low

        first-low : All (IsLevelled n) (goal_of of g ∷ goals_of of gs)
        first-low = All-head (IsLow T n) (search.with_goals (alternative_of of a) (goal_of of g ∷ goals_of of gs)) (alternatives_of of below) low-now

        -- its goal has at most the level of the stack
        pub goal-levelled : (m : ℕ) → n ≤ m → IsLevelled m (goal_of of g)
        goal-levelled m le = levelled_more T n m le (goal_of of g) (All-head (IsLevelled n) (goal_of of g) (goals_of of gs) first-low)

        -- the levels rise by at most one
        pub stays-low : (left k : ℕ) (found_now : List (search.Alternative C-of.ItemOf C-of.StepOf)) (m : ℕ) → suc n ≤ m
            → to_between C-of clauses left (search.taken C-of fits clauses (goal_of of g) (search.with_goals (alternative_of of a) (goals_of of gs)) (alternatives_of of below)) ≡ ended found_now k
            → AreLow T m found_now
        stays-low left k found_now m le e =
            are_low_more T (suc n) m le found_now
            (reached_low T clauses (suc n) left _ found_now k
            (taken_low T table clauses n (goal_of of g) (search.with_goals (alternative_of of a) (goals_of of gs)) (alternatives_of of below)
            (goal-levelled n (omega arith)) (All-tail (IsLevelled n) (goal_of of g) (goals_of of gs) first-low)
            (All-tail (IsLow T n) (search.with_goals (alternative_of of a) (goal_of of g ∷ goals_of of gs)) (alternatives_of of below) low-now)) e)

  -- the loop begins
  pub begins-loop : (budget : ℕ) (first : Alternative S) (stack : List (Alternative S)) → stack ≡ first ∷ []
      → AreGoals C-of first.levels.items (alternative_of of first).goals → All (IsLevelled 0) (alternative_of of first).goals → AreOpen (length first.levels.items) first.asked
      → (running C-of clauses budget (search.between (alternative_of of first ∷ [])) ≡ raise (budget - budget) (running C-of clauses budget (search.between (alternatives_of of stack))))
      × (budget ≤ budget) × AreLow T (budget - budget) (alternatives_of of stack) × AreFine C-of clauses (AnyEnd C-of clauses) (alternatives_of of stack)
  begins-loop budget first stack is goals low asked = (
    sym (raise-none _) ∙ ap₂ (λ k q. raise k (running C-of clauses budget (search.between (alternatives_of of q)))) (omega arith) (sym is),
    omega arith,
    subst (λ q. AreLow T (budget - budget) (alternatives_of of q)) (sym is)
        (All-cons (IsLow T (budget - budget)) (alternative_of of first) []
        (All-weaker (IsLevelled 0) (IsLevelled (budget - budget)) (levelled_more T 0 (budget - budget) (omega arith)) (alternative_of of first).goals low)
        (All-nil (IsLow T (budget - budget)))),
    subst (λ q. AreFine C-of clauses (AnyEnd C-of clauses) (alternatives_of of q)) (sym is)
        (All-cons (IsFine C-of clauses (AnyEnd C-of clauses)) (alternative_of of first) []
        (record { goals_are = goals; asked_open = asked; ends = λ s closing steps h. tt }) (All-nil (IsFine C-of clauses (AnyEnd C-of clauses)))),
  )

  module _ (e : Ending (search.Answer C-of.ItemOf C-of.StepOf)) (k left : ℕ) (stack : List (Alternative S))
      (so_far : e ≡ raise k (running C-of clauses left (search.between (alternatives_of of stack)))) where
    -- no alternative is left
    pub none-left : length stack ≡ 0 → e ≡ ended search.rejected k
    none-left none = so_far ∙ ap (raise k) (go stack none) ∙ ap (ended search.rejected) (omega arith)
      where
        go : (xs : List (Alternative S)) → length xs ≡ 0 → running C-of clauses left (search.between (alternatives_of of xs)) ≡ ended search.rejected 0
        go [] none = run-answered C-of clauses left (search.between []) search.rejected refl
        go (x ∷ xs) none = absurd (omega (arith, none))

    module _ (below : List (Alternative S)) (a : Alternative S) (is : stack ≡ below ++ a ∷ []) where
      -- the first alternative has no goal
      pub no-goal : length a.goals.items ≡ 0 → IsFound (Accepted a.asked a.emitted k) e
      no-goal none = (
        alternative_of of a,
        so_far ∙ ap (raise k) (ap (λ q. running C-of clauses left (search.between q)) (first-is stack below a is)
            ∙ run-answered C-of clauses left _ (search.accepted (alternative_of of a)) (answered a.goals.items none)) ∙ ap (ended (search.accepted (alternative_of of a))) (omega arith),
        refl,
        refl,
      )
        where
          answered : (gs : List (GoalItem S)) → length gs ≡ 0 → search.answer_of (goals_of of gs) (alternative_of of a) ≡ Some (search.accepted (alternative_of of a))
          answered [] none = refl
          answered (g ∷ gs) none = absurd (omega (arith, none))

      module _ (gs : List (GoalItem S)) (g : GoalItem S) (goals : a.goals.items ≡ gs ++ g ∷ []) where
        abbrev Now : search.State C-of.ItemOf C-of.StepOf
        Now = search.between (search.with_goals (alternative_of of a) (goal_of of g ∷ goals_of of gs) ∷ alternatives_of of below)

        abbrev Taken : search.State C-of.ItemOf C-of.StepOf
        Taken = search.taken C-of fits clauses (goal_of of g) (search.with_goals (alternative_of of a) (goals_of of gs)) (alternatives_of of below)

        at-goal : e ≡ raise k (running C-of clauses left Now)
        at-goal = so_far ∙ ap (λ q. raise k (running C-of clauses left (search.between q))) (with-goal stack below a is gs g goals)

        -- a unit is needed, and there is none
        pub no-unit : left ≡ 0 → e ≡ spent
        no-unit none = at-goal ∙ ap (λ n. raise k (running C-of clauses n Now)) none

        -- a unit is taken
        a-unit : left ≢ 0 → e ≡ raise (suc k) (running C-of clauses (left - 1) Taken)
        a-unit some = at-goal ∙ go left some
          where
            go : (n : ℕ) → n ≢ 0 → raise k (running C-of clauses n Now) ≡ raise (suc k) (running C-of clauses (n - 1) Taken)
            go zero some = absurd (some refl)
            go (suc n) some = raise-one-more k _ ∙ ap (λ m. raise (suc k) (running C-of clauses m Taken)) (omega arith)

        -- there were not units enough
        pub ran-out : left ≢ 0 → (now : ℕ) (found_now : List (search.Alternative C-of.ItemOf C-of.StepOf))
            → to_between C-of clauses (left - 1) Taken ≡ reached (left - 1) now false found_now → e ≡ spent
        ran-out some now found_now step = a-unit some ∙ ap (raise (suc k)) (runs-out C-of clauses (left - 1) Taken step)

        -- the loop goes on
        pub goes-on : left ≢ 0 → (now : ℕ) (found_now : List (search.Alternative C-of.ItemOf C-of.StepOf)) (budget : ℕ)
            → to_between C-of clauses (left - 1) Taken ≡ reached (left - 1) now true found_now → k ≡ budget - left → left ≤ budget → now ≤ left - 1
            → e ≡ raise (budget - now) (running C-of clauses now (search.between found_now))
        goes-on some now found_now budget step is le le-now =
            a-unit some ∙ ap (raise (suc k)) (runs-on C-of clauses (left - 1) Taken found_now (left - 1 - now) step)
            ∙ raise-raise (suc k) (left - 1 - now) _
            ∙ ap₂ (λ j m. raise j (running C-of clauses m (search.between found_now))) (omega (arith, is, some, le, le-now)) (omega (arith, some, le-now))
