-- Tables: what a calculus of sequents is to the search, for one program.
use Rattle.std.specs.Prelude.{◌≡◌, ℕ, suc, ◌<◌, ◌≤◌, List, [], ◌++◌, length, Contains}
use Rattle.std.specs.List.{All}
use Rattle.fpc_terms.specs.Term.{Term, variable, put}
use Rattle.fpc_terms.specs.Open.{IsOpen, Level, level_of}
use Rattle.polarised_formulas.specs.Formula.{Formula, IsClosed}
use Rattle.polarised_formulas.specs.declared.step.Step.{Step}
use Rattle.search_model.specs.Search.{SearchCalculus, Goal, call, equate, emit, item, GoalList}
use Rattle.fpc_terms.specs.Open.{IsOpenAt}
use Rattle.search_model.specs.Lawful.{IsNatural}
use Rattle.polarised_formulas.specs.OpenFormula.{put_step, IsOpenStep}

-- The items of any calculus, over its sequents S: a sequent is derived by a certificate; a place
-- is chosen by an index, to decide on it or to close with it; a formula is cut. The sequent of
-- the last three is the one in whose goal list they stand.
pub data ItemOn (S : Type 0) : Type 0 where
  derive : (certificate : Term) → (level : ℕ) → (sequent : S) → ItemOn S
  pick : (next : Term) → (level : ℕ) → (index : Term) → (sequent : S) → ItemOn S
  init_pick : (level : ℕ) → (index : Term) → (sequent : S) → ItemOn S
  cut : (left right : Term) → (level : ℕ) → (formula : Term) → (sequent : S) → ItemOn S

module _ {S : Type 0} where
  -- the level of an item: how many eigenvariables there are
  abbrev pub level_in : ItemOn S → ℕ
  level_in (derive x n q) = n
  level_in (pick x n l q) = n
  level_in (init_pick n l q) = n
  level_in (cut x y n b q) = n

  -- f of each term and g of the sequent
  abbrev pub map_on : (Term → Term) → (S → S) → ItemOn S → ItemOn S
  map_on f g (derive x n q) = derive (f x) n (g q)
  map_on f g (pick x n l q) = pick (f x) n (f l) (g q)
  map_on f g (init_pick n l q) = init_pick n (f l) (g q)
  map_on f g (cut x y n b q) = cut (f x) (f y) n (f b) (g q)

  -- P of each term, and Q of the level and the sequent
  abbrev pub EachOn : (Term → Type 0) → (ℕ → S → Type 0) → ItemOn S → Type 0
  EachOn P Q (derive x n q) = P x × Q n q
  EachOn P Q (pick x n l q) = P x × P l × Q n q
  EachOn P Q (init_pick n l q) = P l × Q n q
  EachOn P Q (cut x y n b q) = P x × P y × P b × Q n q

-- any term
abbrev pub AnyTerm : Term → Type 0
AnyTerm t = Unit {0}

-- A table: sequents with terms for their variables, the goal lists of items, and what completes
-- them. On a sequent of another form there is no goal list and nothing completes it. Of the sequent
-- of a choice only the stored formulas and the focus count.
pub record Table : Type 1 where
  pub SequentOf : Type 0
  pub put_sequent : (ℕ → Term) → SequentOf → SequentOf
  -- the sequent is open, with variables numbered below this
  pub IsOpenSequent : ℕ → SequentOf → Type 0
  -- its formulas are in scope at a level, under these levels of its variables
  pub IsScopedSequent : List Level → ℕ → SequentOf → Type 0
  -- the sequent of a goal
  pub root_of : Formula → SequentOf
  -- the goal lists for an item, whose new variables are numbered from here on
  pub expand : ItemOn SequentOf → ℕ → List (GoalList (ItemOn SequentOf) Step)
  -- a guided completion of an item without variables, which spells these steps
  pub Completed : ItemOn SequentOf → List Step → Type 0

-- the calculus of a table; the terms of an item are in scope wherever they stand
abbrev pub calculus_of : Table → SearchCalculus
calculus_of T = record {
  ItemOf = ItemOn T.SequentOf;
  StepOf = Step;
  put_item = λ s x. map_on (put s) (T.put_sequent s) x;
  put_step = put_step;
  expand = T.expand;
  Completed = T.Completed;
  IsOpenItem = λ k x. EachOn (IsOpen k) (λ n. T.IsOpenSequent k) x;
  IsOpenStep = IsOpenStep;
  IsScopedItem = λ levels x. EachOn AnyTerm (T.IsScopedSequent levels) x;
}

-- an item among the goals has at most this level
abbrev pub IsLevelled : {S : Type 0} → ℕ → Goal (ItemOn S) Step → Type 0
IsLevelled n (call a) = Unit {0}
IsLevelled n (equate t u) = Unit {0}
IsLevelled n (emit e) = Unit {0}
IsLevelled n (item x) = level_in x ≤ n

-- What the sequents of a table owe. Terms that are substituted for variables compose, count only
-- for the variables that occur, and keep sequents open and in scope.
pub record AreSequents (T : Table) : Type 0 where
  pub sequent-put : (s r : ℕ → Term) (q : T.SequentOf)
      → T.put_sequent s (T.put_sequent r q) ≡ T.put_sequent (λ n. put s (r n)) q
  pub sequent_same : (q : T.SequentOf) → T.put_sequent variable q ≡ q
  pub sequent_agrees : (k : ℕ) (s r : ℕ → Term) → ((n : ℕ) → n < k → s n ≡ r n)
      → (q : T.SequentOf) → T.IsOpenSequent k q → T.put_sequent s q ≡ T.put_sequent r q
  pub open_put : (j k : ℕ) (r : ℕ → Term) → ((n : ℕ) → n < j → IsOpen k (r n))
      → (q : T.SequentOf) → T.IsOpenSequent j q → T.IsOpenSequent k (T.put_sequent r q)
  pub open_more : (j k : ℕ) → j ≤ k → (q : T.SequentOf) → T.IsOpenSequent j q → T.IsOpenSequent k q
  pub scoped_put : (levels after : List Level) (r : ℕ → Term)
      → ((n : ℕ) → n < length levels → IsOpenAt after (level_of levels n) (r n))
      → (n : ℕ) (q : T.SequentOf) → T.IsScopedSequent levels n q
      → T.IsScopedSequent after n (T.put_sequent r q)
  pub scoped_more : (levels more : List Level) (n : ℕ) (q : T.SequentOf)
      → T.IsScopedSequent levels n q → T.IsScopedSequent (levels ++ more) n q

-- What a table owes beside the laws of its calculus: an item that a goal list brings has at most
-- the level above, a goal list brings at most 255 variables, the root of a closed goal has no
-- variables and is in scope at level 0, and the calculus is natural.
pub record IsTable (T : Table) : Type 0 where
  pub levels : (x : ItemOn T.SequentOf) (k : ℕ) (e : GoalList (ItemOn T.SequentOf) Step)
      → Contains (T.expand x k) e → All (IsLevelled (suc (level_in x))) e.goals
  pub few : (x : ItemOn T.SequentOf) (k : ℕ) (e : GoalList (ItemOn T.SequentOf) Step)
      → Contains (T.expand x k) e → length e.new ≤ 255
  pub root_open : (f : Formula) → IsClosed f → T.IsOpenSequent 0 (T.root_of f)
  pub root_scoped : (f : Formula) → IsClosed f → T.IsScopedSequent [] 0 (T.root_of f)
  pub natural : IsNatural (calculus_of T)
