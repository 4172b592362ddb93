-- Explicit certificates: trees of steps that spell derivations.
use Rattle.std.specs.Prelude.{◌≡◌, ℕ, List, [], ◌∷◌, Some}
use Rattle.polarised_formulas.specs.declared.step.Step.{Step}
use Rattle.polarised_formulas.specs.Formula.{Formula}
use Rattle.polarised_formulas.specs.Calculus.Rules.{RuleCalculus, LevelledIn}
use Rattle.polarised_formulas.specs.Calculus.Derivation.{Tree, Trees, node, no_trees, tree, root_sequent, Derivation}

mutual
  -- a finite tree of steps
  pub data Certificate : Type 0 where
    by : (step : Step) → (children : Certificates) → Certificate

  -- certificates in a row
  pub data Certificates : Type 0 where
    no_certificates : Certificates
    certificate : Certificate → Certificates → Certificates

abbrev mutual
  -- the steps of a certificate in preorder, before other steps
  pub steps_before : Certificate → List Step → List Step
  steps_before (by step cs) rest = step ∷ all_steps_before cs rest

  -- the steps of certificates in a row, before other steps
  pub all_steps_before : Certificates → List Step → List Step
  all_steps_before no_certificates rest = rest
  all_steps_before (certificate c cs) rest = steps_before c (all_steps_before cs rest)

-- the steps of a certificate in preorder
abbrev pub preorder_of : Certificate → List Step
preorder_of c = steps_before c []

module _ (C : RuleCalculus) where
  abbrev mutual
    -- the certificate spells the tree at a level
    pub Spells : Certificate → Tree C.SequentOf → ℕ → Type 0
    Spells (by step cs) (node c ts) n =
        (ps : List (LevelledIn C)) × (C.premises_of step n c ≡ Some ps) × AllSpell cs ts ps

    -- the certificates spell trees with these roots, each at its level
    pub AllSpell : Certificates → Trees C.SequentOf → List (LevelledIn C) → Type 0
    AllSpell no_certificates no_trees [] = Unit {0}
    AllSpell (certificate c cs) (tree t ts) (p ∷ ps) =
        (root_sequent t ≡ p.1) × (Spells c t p.0 × AllSpell cs ts ps)
    AllSpell _ _ _ = ⊥

-- the steps are the preorder of a certificate that spells a derivation of the goal
pub record IsSpelling (C : RuleCalculus) (f : Formula) (steps : List Step) : Type 0 where
  pub certificate_of : Certificate
  pub derivation : Derivation C f
  pub spells : Spells C certificate_of derivation.of 0
  pub preorder : preorder_of certificate_of ≡ steps
