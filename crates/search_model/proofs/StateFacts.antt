-- Facts of the program's states.
use Rattle.std.specs.Prelude.{◌≡◌, ℕ, List, [], ◌∷◌, ◌++◌, map, reverse, refl, length, get_or, drop, ◌-◌, ◌<◌, ◌≤◌}
use Rattle.std.proofs.Common.{ap, ap₂, ◌∙◌, sym, arith, append_assoc}
use Rattle.std.proofs.lemmas.List.{map-append, reverse-append, drop_more}
use Rattle.fpc_terms.specs.declared.cell.Cell.{Cell}
use Rattle.fpc_terms.specs.Open.{Level, level_of, lower_in, lower_in_args, at_one}
use Rattle.fpc_terms.specs.Term.{Term, Args, eigen, bound, variable, app, no_args, arg, cells_before, all_before, cells_of, put}
use Rattle.polarised_formulas.specs.declared.step.Step.{Step}
use Rattle.search_model.specs.GoalItems.{goal_in, goal_over}
use Rattle.polarised_formulas.specs.OpenFormula.{put_step}
use Rattle.search_model.specs.Search as search
use Rattle.search_model.specs.States.{goal_of, goals_of, list_of, alternative_of, alternatives_of, lower_cells}
use Rattle.search_model.specs.Table.{ItemOn, Table, calculus_of}
use Rattle.search_model.specs.declared.alternative.Alternative.{Alternative}
use Rattle.search_model.specs.declared.goals.GoalItem.{GoalItem}
use Rattle.search_model.specs.declared.goals.Goals.{Goals}

pub map-map : {X Y Z : Type 0} → (g : Y → Z) (f : X → Y) (xs : List X) → map g (map f xs) ≡ map (λ x. g (f x)) xs
map-map g f [] = refl
map-map g f (x ∷ xs) = ap (λ ys. g (f x) ∷ ys) (map-map g f xs)

pub map-reverse : {X Y : Type 0} → (f : X → Y) (xs : List X) → map f (reverse xs) ≡ reverse (map f xs)
map-reverse f [] = refl
map-reverse f (x ∷ xs) =
    ap (map f) (reverse-append (x ∷ []) xs) ∙ map-append f (reverse xs) (x ∷ []) ∙ ap (λ ys. ys ++ f x ∷ []) (map-reverse f xs) ∙ sym (reverse-append (f x ∷ []) (map f xs))

mutual
  lower-cells_before : (l : Level) (t : Term) (cells : List Cell) (levels : List Level) → lower_cells l (cells_before t cells) levels ≡ lower_cells l cells (lower_in l t levels)
  lower-cells_before l (eigen n) cells levels = refl
  lower-cells_before l (bound k) cells levels = refl
  lower-cells_before l (variable n) cells levels = refl
  lower-cells_before l (app f ts) cells levels = lower-all_before l ts cells levels

  lower-all_before : (l : Level) (ts : Args) (cells : List Cell) (levels : List Level) → lower_cells l (all_before ts cells) levels ≡ lower_cells l cells (lower_in_args l ts levels)
  lower-all_before l no_args cells levels = refl
  lower-all_before l (arg t ts) cells levels = lower-cells_before l t (all_before ts cells) levels ∙ lower-all_before l ts cells (lower_in l t levels)

-- the levels are lowered along the cells of a term as in the term
pub lower-cells_of : (l : Level) (t : Term) (levels : List Level) → lower_cells l (cells_of t) levels ≡ lower_in l t levels
lower-cells_of l t levels = lower-cells_before l t [] levels

module _ (T : Table) {S : Type 0} (of : S → T.SequentOf) (v : ℕ) (t : Term) where
  -- goals with a term for a variable, the first one last
  bound-goals : (gs hs : List (GoalItem S))
      → map (goal_of of) hs ≡ map (search.put_goal (calculus_of T) (at_one v t)) (map (goal_of of) gs)
      → goals_of of hs ≡ map (search.put_goal (calculus_of T) (at_one v t)) (goals_of of gs)
  bound-goals gs hs e =
      ap reverse e ∙ sym (map-reverse (search.put_goal (calculus_of T) (at_one v t)) (map (goal_of of) gs))

  -- an alternative with a term for a variable
  pub bound-is : (a : Alternative S) (goals : List (GoalItem S)) (emitted : List Step) (asked : List Term) (levels : List Level)
      → map (goal_of of) goals ≡ map (search.put_goal (calculus_of T) (at_one v t)) (map (goal_of of) a.goals.items)
      → emitted ≡ map (put_step (at_one v t)) a.emitted.items
      → asked ≡ map (put (at_one v t)) a.asked → levels ≡ lower_cells (level_of a.levels.items v) (cells_of t) a.levels.items
      → record { goals = goals_of of goals; emitted = emitted; asked = asked; levels = levels }
      ≡ search.bound_to (calculus_of T) v t (alternative_of of a)
  bound-is a goals emitted asked levels same-goals same-emitted same-asked same-levels =
      rw (bound-goals a.goals.items goals same-goals, same-emitted, same-asked, same-levels ∙ lower-cells_of (level_of a.levels.items v) t a.levels.items) refl

-- one more at the end of a list that is seen from its end
pub seen-push : {X Y : Type 0} → (f : X → Y) (xs : List X) (x : X) → reverse (map f (xs ++ x ∷ [])) ≡ f x ∷ reverse (map f xs)
seen-push f xs x = ap reverse (map-append f xs (x ∷ [])) ∙ reverse-append (map f xs) (f x ∷ [])

-- the equalities before some goals, before others
pub equalities-append : {I E : Type 0} → (ts us : List Term) (goals others : List (search.Goal I E))
    → search.equalities ts us (goals ++ others) ≡ search.equalities ts us goals ++ others
equalities-append [] us goals others = refl
equalities-append (t ∷ ts) [] goals others = refl
equalities-append (t ∷ ts) (u ∷ us) goals others = ap (λ gs. search.equate t u ∷ gs) (equalities-append ts us goals others)

-- the list from one place before
pub drop-before : {X : Type 0} → (xs : List X) (n : ℕ) (d x : X) → 0 < n → n ≤ length xs → x ≡ get_or xs (n - 1) d → drop (n - 1) xs ≡ x ∷ drop n xs
drop-before xs n d x some within is =
    drop_more xs (n - 1) d (omega arith) ∙ ap₂ (λ y k. y ∷ drop k xs) (sym is) (omega arith)

-- what is made of a list, from one place before
pub mapped-before : {X Y : Type 0} → (f : X → Y) (xs : List X) (n : ℕ) (x : X) (zs : List Y) → 0 < n → n ≤ length xs → x ≡ get_or xs (n - 1) x
    → f x ∷ (map f (drop n xs) ++ zs) ≡ map f (drop (n - 1) xs) ++ zs
mapped-before f xs n x zs some within is = sym (ap (λ ys. map f ys ++ zs) (drop-before xs n x x some within is))

-- a copy of an alternative, from its pieces
pub copied-is : {S V : Type 0} → (of : S → V) (a : Alternative S) (goals : List (GoalItem S)) (emitted : List Step) (asked : List Term) (levels : List Level)
    → map (goal_of of) goals ≡ map (goal_of of) a.goals.items → emitted ≡ a.emitted.items → asked ≡ a.asked → levels ≡ a.levels.items
    → record { goals = goals_of of goals; emitted = emitted; asked = asked; levels = levels } ≡ alternative_of of a
copied-is of a goals emitted asked levels same-goals same-emitted same-asked same-levels =
    rw (ap reverse same-goals, same-emitted, same-asked, same-levels) refl

-- the last one of a list, as it is, before others
pub moved : {X Y Z : Type 0} → (f : Y → Z) (h : X → Y) (xs ys : List X) (x : X) (zs now : List Z) → ys ≡ xs ++ x ∷ [] → f (h x) ∷ zs ≡ now
    → map f (map h xs) ++ now ≡ map f (map h ys) ++ zs
moved f h xs ys x zs now is now-is =
    ap (λ l. map f (map h xs) ++ l) (sym now-is)
    ∙ sym (ap (λ l. map f (map h l) ++ zs) is ∙ ap (λ l. map f l ++ zs) (map-append h xs (x ∷ []))
    ∙ ap (λ l. l ++ zs) (map-append f (map h xs) (h x ∷ [])) ∙ append_assoc (map f (map h xs)) (f (h x) ∷ []) zs)

-- an alternative with a goal list before its goals, from its pieces
pub extended-is : {S V : Type 0} → (of : S → V) (list : Goals S) (rest next : search.Alternative (ItemOn V) Step)
    (goals : List (search.Goal (ItemOn V) Step)) (levels : List Level)
    → next ≡ rest → goals ≡ map (goal_of of) list.items.items ++ next.goals → levels ≡ next.levels ++ list.levels.items
    → record { goals = goals; emitted = next.emitted; asked = next.asked; levels = levels } ≡ search.extended rest (list_of of list)
extended-is of list rest next goals levels same all more =
    rw (all, more, same, map-map (goal_over of) goal_in list.items.items) refl

-- one more alternative on the stack is the first one
pub alternatives-push : {S V : Type 0} → (of : S → V) (stack stack-now : List (Alternative S)) (a : Alternative S)
    (b : search.Alternative (ItemOn V) Step) → stack-now ≡ stack ++ a ∷ [] → alternative_of of a ≡ b
    → b ∷ alternatives_of of stack ≡ alternatives_of of stack-now
alternatives-push of stack stack-now a b pushed is =
    sym (ap (alternatives_of of) pushed ∙ seen-push (alternative_of of) stack a ∙ ap (λ x. x ∷ alternatives_of of stack) is)
