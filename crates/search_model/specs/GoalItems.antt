-- The goals and goal lists that a calculus gives, as those of the search.
use Rattle.std.specs.Prelude.{Option, Some, None, List, [], map}
use Rattle.polarised_formulas.specs.declared.step.Step.{Step}
use Rattle.search_model.specs.Search.{Goal, call, equate, emit, item, GoalList}
use Rattle.search_model.specs.Table.{ItemOn, derive, pick, init_pick, cut}
use Rattle.search_model.specs.declared.goals.GoalItem.{GoalItem}
use Rattle.search_model.specs.declared.goals.GoalItem.TheVariants.{Seq, Call, Eq, Emit}
use Rattle.search_model.specs.declared.goals.GoalItem.TheVariants.{Pick, InitPick, Cut}
use Rattle.search_model.specs.declared.goals.Goals.{Goals}
use Rattle.search_model.specs.declared.goals.Alternatives.{Alternatives}

module _ {S : Type 0} where
  -- a goal
  abbrev pub goal_in : GoalItem S → Goal (ItemOn S) Step
  goal_in (Seq g) = item (derive g.certificate g.level g.sequent)
  goal_in (Call a) = call a
  goal_in (Eq t u) = equate t u
  goal_in (Emit e) = emit e
  goal_in (Pick next level index sequent) = item (pick next level index sequent)
  goal_in (InitPick level index sequent) = item (init_pick level index sequent)
  goal_in (Cut left right level formula sequent) = item (cut left right level formula sequent)

  -- the item of a goal that is one, and no sequent to be derived
  abbrev pub chosen_in : GoalItem S → Option (ItemOn S)
  chosen_in (Pick next level index sequent) = Some (pick next level index sequent)
  chosen_in (InitPick level index sequent) = Some (init_pick level index sequent)
  chosen_in (Cut left right level formula sequent) = Some (cut left right level formula sequent)
  chosen_in _ = None

  -- a goal list
  abbrev pub list_in : Goals S → GoalList (ItemOn S) Step
  list_in gs = record { goals = map goal_in gs.items.items; new = gs.levels.items }

  -- goal lists
  abbrev pub lists_in : Alternatives S → List (GoalList (ItemOn S) Step)
  lists_in ls = map list_in ls.lists.items

  -- no goals and no variables
  abbrev pub no_goals : GoalList (ItemOn S) Step
  no_goals = record { goals = []; new = [] }

-- other sequents in place of the sequents
module _ {S V : Type 0} (of : S → V) where
  abbrev pub item_over : ItemOn S → ItemOn V
  item_over (derive x n q) = derive x n (of q)
  item_over (pick x n l q) = pick x n l (of q)
  item_over (init_pick n l q) = init_pick n l (of q)
  item_over (cut x y n b q) = cut x y n b (of q)

  abbrev pub goal_over : Goal (ItemOn S) Step → Goal (ItemOn V) Step
  goal_over (call a) = call a
  goal_over (equate t u) = equate t u
  goal_over (emit e) = emit e
  goal_over (item x) = item (item_over x)

  abbrev pub list_over : GoalList (ItemOn S) Step → GoalList (ItemOn V) Step
  list_over e = record { goals = map goal_over e.goals; new = e.new }
