-- Facts of the items that are no sequents to be derived.
use Rattle.std.specs.Prelude.{◌≡◌, ◌≢◌, ℕ, List, ◌++◌, map, length, Option, Some, None, IfSome, OnOk, refl}
use Rattle.std.proofs.Common.{ap, sym, ◌∙◌, Result, Ok, Err}
use Rattle.fpc_terms.specs.Open.{Level}
use Rattle.fpc_terms.specs.Term.{Term}
use Rattle.polarised_formulas.specs.declared.step.Step.{Step}
use Rattle.clause_language.specs.declared.atom.Atom.{Atom}
use Rattle.clause_language.specs.declared.clause.Clause.{Clause}
use Rattle.clause_language.specs.LeastModel.{fits}
use Rattle.search_model.specs.GoalItems.{chosen_in, item_over, list_in, list_over, lists_in}
use Rattle.search_model.specs.Lawful.{IsGoal}
use Rattle.search_model.specs.Search as search
use Rattle.search_model.specs.States.{goal_of, list_of}
use Rattle.search_model.specs.Table.{ItemOn, Table, calculus_of}
use Rattle.search_model.specs.declared.goals.Alternatives.{Alternatives}
use Rattle.search_model.specs.declared.goals.GoalItem.{GoalItem}
use Rattle.search_model.specs.declared.goals.GoalItem.TheVariants.{Seq, Call, Eq, Emit, Pick, InitPick, Cut}
use Rattle.search_model.specs.declared.goals.SequentGoal.{SequentGoal}
use Rattle.search_model.proofs.StateFacts.{map-map}

module _ (T : Table) {S : Type 0} (of : S → T.SequentOf) where
  -- such an item is open where the goal is
  pub chosen-open : (levels : List Level) (g : GoalItem S) → IsGoal (calculus_of T) levels (goal_of of g)
      → IfSome (chosen_in g) (λ x. (calculus_of T).IsOpenItem (length levels) (item_over of x))
  chosen-open levels (Seq s) h = tt
  chosen-open levels (Call a) h = tt
  chosen-open levels (Eq t u) h = tt
  chosen-open levels (Emit e) h = tt
  chosen-open levels (Pick x n l q) h = h.0
  chosen-open levels (InitPick n l q) h = h.0
  chosen-open levels (Cut x y n b q) h = h.0

  -- it is taken by its goal lists
  pub chosen-taken : (clauses : List Clause) (a : search.Alternative (ItemOn T.SequentOf) Step) (others found_now : List (search.Alternative (ItemOn T.SequentOf) Step))
      (g : GoalItem S) → ((b : Atom) → g ≢ Call b) → ((t u : Term) → g ≢ Eq t u) → ((e : Step) → g ≢ Emit e) → ((s : SequentGoal S) → g ≢ Seq s)
      → IfSome (chosen_in g) (λ x. found_now ≡ map (search.extended a) (T.expand (item_over of x) (length a.levels)) ++ others)
      → search.taken (calculus_of T) fits clauses (goal_of of g) a others ≡ search.between found_now
  chosen-taken clauses a others found_now (Seq s) h i j k is = absurd (k s refl)
  chosen-taken clauses a others found_now (Call b) h i j k is = absurd (h b refl)
  chosen-taken clauses a others found_now (Eq t u) h i j k is = absurd (i t u refl)
  chosen-taken clauses a others found_now (Emit e) h i j k is = absurd (j e refl)
  chosen-taken clauses a others found_now (Pick x n l q) h i j k is = ap search.between (sym is)
  chosen-taken clauses a others found_now (InitPick n l q) h i j k is = ap search.between (sym is)
  chosen-taken clauses a others found_now (Cut x y n b q) h i j k is = ap search.between (sym is)

  -- the goal lists that are chosen from, before others
  pub chosen-lists : {X E : Type 0} → (o : Option (ItemOn S)) (q : Result X E) (ls : Alternatives S) (n m : ℕ) (a : search.Alternative (ItemOn T.SequentOf) Step)
      (now others : List (search.Alternative (ItemOn T.SequentOf) Step)) → n ≡ m
      → IfSome o (λ x. map (list_over of) (lists_in ls) ≡ T.expand (item_over of x) n)
      → OnOk q (now ≡ map (search.extended a) (map (list_of of) ls.lists.items) ++ others)
      → OnOk q (IfSome o (λ x. now ≡ map (search.extended a) (T.expand (item_over of x) m) ++ others))
  chosen-lists None (Ok y) ls n m a now others same h k = tt
  chosen-lists None (Err e) ls n m a now others same h k = tt
  chosen-lists (Some x) (Err e) ls n m a now others same h k = tt
  chosen-lists (Some x) (Ok y) ls n m a now others same h k =
      k ∙ ap (λ es. map (search.extended a) es ++ others)
      (sym (map-map (list_over of) list_in ls.lists.items) ∙ h ∙ ap (T.expand (item_over of x)) same)
