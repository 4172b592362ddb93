-- The walk through cells is the walk of the search.
use Rattle.std.specs.Prelude.{◌≡◌, ℕ, zero, suc, ◌-◌, ◌≤◌, Bool, true, false, if◌then◌else◌, List, [], ◌∷◌, refl}
use Rattle.std.proofs.Common.{ap, ap₂, ◌∙◌, sym, arith}
use Rattle.fpc_terms.specs.declared.cell.Cell.{Cell}
use Rattle.fpc_terms.specs.Equality.{unless, walked_node}
use Rattle.fpc_terms.specs.Open.{Level, level_of}
use Rattle.fpc_terms.proofs.RunFacts.{run_answered}
use Rattle.fpc_terms.specs.Term.{Term, Args, eigen, bound, variable, app, no_args, arg, joined, cells_before, all_before, cells_of}
use Rattle.clause_language.specs.declared.clause.Clause.{Clause}
use Rattle.clause_language.specs.LeastModel.{fits}
use Rattle.search_model.specs.Run.{Ending, ended, spent, one_more}
use Rattle.search_model.specs.Search.{SearchCalculus, Alternative, State, between, bound_to, step, walking}
use Rattle.search_model.proofs.WalkSteps.{walked_on, behind_node}
use Rattle.search_model.specs.States.{args_in, at_between, first_cell, is_clash, to_between, walk_through}
use Rattle.search_model.specs.declared.walk.Walked.{Walked}
use Rattle.search_model.specs.declared.walk.Walked.TheVariants.{Passed, Clashed, OutOfUnits}

node-is : (v : ℕ) (l : Level) (x : Term) → walked_node v l x ≡ unless (is_clash v l (first_cell x)) (args_in x)
node-is v l (eigen m) = refl
node-is v l (bound k) = refl
node-is v l (variable n) = refl
node-is v l (app f ts) = refl

cells-first : (x : Term) (cells : List Cell) → cells_before x cells ≡ first_cell x ∷ all_before (args_in x) cells
cells-first (eigen m) cells = refl
cells-first (bound k) cells = refl
cells-first (variable n) cells = refl
cells-first (app f ts) cells = refl

all-joined : (ts us : Args) (cells : List Cell) → all_before (joined ts us) cells ≡ all_before ts (all_before us cells)
all-joined no_args us cells = refl
all-joined (arg t ts) us cells = ap (cells_before t) (all-joined ts us cells)

module _ (v : ℕ) (l : Level) where
  -- a walk leaves no more units than there were
  pub walk-le : (cells : List Cell) (n : ℕ) → (walk_through v l cells n).1 ≤ n
  walk-le [] n = omega arith
  walk-le (c ∷ cells) zero = omega arith
  walk-le (c ∷ cells) (suc n) = at-node (is_clash v l c) (walk-le cells n)
    where
      at-node : (b : Bool) → (walk_through v l cells n).1 ≤ n → (if b then (Clashed, n) else walk_through v l cells n).1 ≤ suc n
      at-node true le = omega arith
      at-node false le = omega (arith, le)

module _ (C : SearchCalculus) (clauses : List Clause) where
  -- a run from a state that is no walk takes no units
  pub at-once : (n : ℕ) (others : List (Alternative C.ItemOf C.StepOf)) → to_between C clauses n (between others) ≡ ended others 0
  at-once n others =
      run_answered (State C.ItemOf C.StepOf) (List (Alternative C.ItemOf C.StepOf)) at_between (step C fits clauses) n (between others) others refl

  -- the same, with the units that were taken
  pub at-same : (n : ℕ) (q : State C.ItemOf C.StepOf) (others : List (Alternative C.ItemOf C.StepOf)) → q ≡ between others
      → to_between C clauses n q ≡ ended others (n - n)
  at-same n q others is = ap (to_between C clauses n) is ∙ at-once n others ∙ ap (ended others) (omega arith)

  module _ (v : ℕ) (t : Term) (a : Alternative C.ItemOf C.StepOf) (others : List (Alternative C.ItemOf C.StepOf)) where
    -- the run through a walk that had n units
    abbrev pub goes_on : ℕ → Walked × ℕ → Ending (List (Alternative C.ItemOf C.StepOf))
    goes_on n (Passed, m) = ended (bound_to C v t a ∷ others) (n - m)
    goes_on n (Clashed, m) = ended others (n - m)
    goes_on n (OutOfUnits, m) = spent

    one-more : (n : ℕ) (w : Walked) (m : ℕ) → m ≤ n → one_more (goes_on n (w, m)) ≡ goes_on (suc n) (w, m)
    one-more n Passed m le = ap (ended (bound_to C v t a ∷ others)) (omega (arith, le))
    one-more n Clashed m le = ap (ended others) (omega (arith, le))
    one-more n OutOfUnits m le = refl

    at-node : (n : ℕ) (x : Term) (xs : Args) (b : Bool)
        → ((ys : Args) → to_between C clauses n (walked_on C v t ys a others) ≡ goes_on n (walk_through v (level_of a.levels v) (all_before ys []) n))
        → one_more (to_between C clauses n (behind_node C v t (unless b (args_in x)) xs a others))
        ≡ goes_on (suc n) (if b then (Clashed, n) else walk_through v (level_of a.levels v) (all_before (args_in x) (all_before xs [])) n)
    at-node n x xs true runs = ap one_more (at-once n others) ∙ ap (ended others) (omega arith)
    at-node n x xs false runs =
        ap one_more (runs (joined (args_in x) xs) ∙ ap (λ cells. goes_on n (walk_through v (level_of a.levels v) cells n)) (all-joined (args_in x) xs []))
        ∙ one-more n _ _ (walk-le v (level_of a.levels v) (all_before (args_in x) (all_before xs [])) n)

    -- the walk of the search ends as the walk through the cells
    pub walk-runs : (n : ℕ) (xs : Args) → to_between C clauses n (walked_on C v t xs a others) ≡ goes_on n (walk_through v (level_of a.levels v) (all_before xs []) n)
    walk-runs n no_args = at-same n _ (bound_to C v t a ∷ others) refl
    walk-runs zero (arg x xs) = rw (cells-first x (all_before xs [])) refl
    walk-runs (suc n) (arg x xs) =
        rw (cells-first x (all_before xs []), node-is v (level_of a.levels v) x)
        (at-node n x xs (is_clash v (level_of a.levels v) (first_cell x)) (λ ys. walk-runs n ys))

    -- the walk through a whole term
    pub term-runs : (n : ℕ) → to_between C clauses n (walking v t t no_args a others) ≡ goes_on n (walk_through v (level_of a.levels v) (cells_of t) n)
    term-runs n = walk-runs n (arg t no_args)

    -- the same, from the end and the units that are left
    pub step-runs : (n : ℕ) (l : Level) (cells : List Cell) (w : Walked) (m : ℕ) → l ≡ level_of a.levels v → cells ≡ cells_of t
        → w ≡ (walk_through v l cells n).0 → m ≡ (walk_through v l cells n).1 → to_between C clauses n (walking v t t no_args a others) ≡ goes_on n (w, m)
    step-runs n l cells w m at are ends left =
        term-runs n ∙ ap₂ (λ k cs. goes_on n (walk_through v k cs n)) (sym at) (sym are) ∙ ap₂ (λ e k. goes_on n (e, k)) (sym ends) (sym left)
