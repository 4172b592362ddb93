-- Laws of LKF's own: exchange, and which instances of its rules steps name.
use Rattle.std.specs.Prelude.{◌≡◌, ◌↔◌, ℕ, List, Some, IsPermutation}
use Rattle.polarised_formulas.specs.declared.step.Step.{Step}
use Rattle.polarised_formulas.specs.Formula.{Formula}
use Rattle.lkf_rules.specs.Sequent.{Sequent, up, down, Levelled, IsInScope}
use Rattle.lkf_rules.specs.Premises.{premises_of}
use Rattle.lkf_rules.specs.Instance.{IsInstance}
use Rattle.lkf_rules.specs.Derivation.{Tree, IsDerivation, root_sequent, node_count}

-- the stored formulas of a sequent
abbrev pub stored_of : Sequent → List Formula
stored_of (up stored work) = stored
stored_of (down stored focus) = stored

-- the sequent with these stored formulas in the place of its own
abbrev pub with_stored : List Formula → Sequent → Sequent
with_stored fs (up stored work) = up fs work
with_stored fs (down stored focus) = down fs focus

-- with its stored formulas in another order, a sequent that has a derivation has one with as many nodes
abbrev pub KeepsUnderExchange : Type 0
KeepsUnderExchange =
    (t : Tree) (fs : List Formula) → IsDerivation t
    → IsPermutation (stored_of (root_sequent t)) fs
    → (u : Tree) × (root_sequent u ≡ with_stored fs (root_sequent t)) × IsDerivation u
    × (node_count u ≡ node_count t)

-- at a sequent in scope, the premises that a step names are exactly those of an instance of a rule
-- that it spells there
abbrev pub NamesInstances : Type 0
NamesInstances =
    (step : Step) (n : ℕ) (c : Sequent) (ps : List Levelled) → IsInScope (n, c)
    → premises_of step n c ≡ Some ps ↔ IsInstance step n c ps
