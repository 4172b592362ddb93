-- Derivations of LKF: those of any calculus, at its rules.
use Rattle.polarised_formulas.specs.Formula.{Formula}
use Rattle.polarised_formulas.specs.Calculus.Derivation.{Tree as TreeOf, Trees as TreesOf, IsDerivation as IsDerivationIn, AreDerivations as AreDerivationsIn, Derivation as DerivationIn, IsDerivable as IsDerivableIn}
pub use Rattle.polarised_formulas.specs.Calculus.Derivation.{node, no_trees, tree, root_sequent, roots, node_count, all_node_count}
use Rattle.lkf_rules.specs.Sequent.{Sequent}
use Rattle.lkf_rules.specs.Lkf.{lkf}

-- a finite tree of sequents
abbrev pub Tree : Type 0
Tree = TreeOf Sequent

-- trees in a row
abbrev pub Trees : Type 0
Trees = TreesOf Sequent

-- each node and its children are an instance of a rule of LKF
abbrev pub IsDerivation : Tree → Type 0
IsDerivation t = IsDerivationIn lkf t

-- the same of each of some trees
abbrev pub AreDerivations : Trees → Type 0
AreDerivations ts = AreDerivationsIn lkf ts

-- a derivation of the goal
abbrev pub Derivation : Formula → Type 0
Derivation f = DerivationIn lkf f

-- the goal has a derivation
abbrev pub IsDerivable : Formula → Type 0
IsDerivable f = IsDerivableIn lkf f
