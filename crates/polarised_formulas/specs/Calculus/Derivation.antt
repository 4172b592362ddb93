-- Derivations: finite trees of sequents in which each node and its children are an instance of a
-- rule.
use Rattle.std.specs.Prelude.{◌≡◌, ℕ, suc, ◌+◌, List, [], ◌∷◌}
use Rattle.polarised_formulas.specs.Formula.{Formula}
use Rattle.polarised_formulas.specs.Calculus.Rules.{RuleCalculus}

mutual
  -- a finite tree of sequents
  pub data Tree (S : Type 0) : Type 0 where
    node : (sequent : S) → (children : Trees S) → Tree S

  -- trees in a row
  pub data Trees (S : Type 0) : Type 0 where
    no_trees : Trees S
    tree : Tree S → Trees S → Trees S

module _ {S : Type 0} where
  -- the sequent at the root of a tree
  abbrev pub root_sequent : Tree S → S
  root_sequent (node c ts) = c

  -- the sequents at the roots of trees in a row
  abbrev pub roots : Trees S → List S
  roots no_trees = []
  roots (tree t ts) = root_sequent t ∷ roots ts

  abbrev mutual
    -- how many nodes a tree has
    pub node_count : Tree S → ℕ
    node_count (node c ts) = suc (all_node_count ts)

    -- how many nodes some trees have together
    pub all_node_count : Trees S → ℕ
    all_node_count no_trees = 0
    all_node_count (tree t ts) = node_count t + all_node_count ts

module _ (C : RuleCalculus) where
  abbrev mutual
    -- each node and its children are an instance of a rule
    pub IsDerivation : Tree C.SequentOf → Type 0
    IsDerivation (node c ts) = C.RuleOf c (roots ts) × AreDerivations ts

    -- the same of each of some trees
    pub AreDerivations : Trees C.SequentOf → Type 0
    AreDerivations no_trees = Unit {0}
    AreDerivations (tree t ts) = IsDerivation t × AreDerivations ts

-- a derivation of the goal
pub record Derivation (C : RuleCalculus) (f : Formula) : Type 0 where
  pub of : Tree C.SequentOf
  pub root : root_sequent of ≡ C.root_of f
  pub is_derivation : IsDerivation C of

-- the goal has a derivation
abbrev pub IsDerivable : RuleCalculus → Formula → Type 0
IsDerivable C f = Derivation C f
