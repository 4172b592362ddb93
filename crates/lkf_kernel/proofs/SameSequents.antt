-- Goal lists over the same sequents are the same.
use Rattle.std.proofs.Common.{◌≡◌, List, [], ◌∷◌, map, refl, ap, ap₂}
use Rattle.polarised_formulas.specs.declared.step.Step.{Step}
use Rattle.search_model.specs.Search.{Goal, call, equate, emit, item, GoalList}
use Rattle.search_model.specs.Table.{ItemOn, derive, pick, init_pick, cut}
use Rattle.search_model.specs.GoalItems.{item_over, goal_over, list_over}

module _ {S : Type 0} where
  pub item_same : (x : ItemOn S) → item_over (λ q. q) x ≡ x
  item_same (derive x n q) = refl
  item_same (pick x n l q) = refl
  item_same (init_pick n l q) = refl
  item_same (cut x y n b q) = refl

  goal_same : (g : Goal (ItemOn S) Step) → goal_over (λ q. q) g ≡ g
  goal_same (call a) = refl
  goal_same (equate t u) = refl
  goal_same (emit e) = refl
  goal_same (item x) = ap item (item_same x)

  goals_same : (gs : List (Goal (ItemOn S) Step)) → map (goal_over (λ q. q)) gs ≡ gs
  goals_same [] = refl
  goals_same (g ∷ gs) = ap₂ (λ (h : Goal (ItemOn S) Step) (hs : List (Goal (ItemOn S) Step)). h ∷ hs) (goal_same g) (goals_same gs)

  list_same : (e : GoalList (ItemOn S) Step) → list_over (λ q. q) e ≡ e
  list_same e = ap (λ (gs : List (Goal (ItemOn S) Step)). let f : GoalList (ItemOn S) Step = record { goals = gs; new = e.new } in f) (goals_same e.goals)

  pub lists_same : (es : List (GoalList (ItemOn S) Step)) → map (list_over (λ q. q)) es ≡ es
  lists_same [] = refl
  lists_same (e ∷ es) = ap₂ (λ (f : GoalList (ItemOn S) Step) (fs : List (GoalList (ItemOn S) Step)). f ∷ fs) (list_same e) (lists_same es)

pub ruleset over_facts = (item_same, lists_same)
