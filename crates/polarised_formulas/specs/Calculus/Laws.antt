-- Laws of play, spellings and derivations in a calculus.
use Rattle.std.specs.Prelude.{◌≡◌, ◌↔◌, ℕ, List, length, Some}
use Rattle.polarised_formulas.specs.declared.step.Step.{Step}
use Rattle.polarised_formulas.specs.Formula.{Formula, IsClosed, IsOfLogic}
use Rattle.polarised_formulas.specs.Calculus.Rules.{RuleCalculus, LevelledIn}
use Rattle.polarised_formulas.specs.Calculus.Derivation.{Tree, root_sequent, node_count, IsDerivable}
use Rattle.polarised_formulas.specs.Calculus.Certificate.{Certificate, Spells, IsSpelling}
use Rattle.polarised_formulas.specs.Calculus.Play.{PlaysOne, PlaysOut}
use Rattle.polarised_formulas.specs.Calculus.Lawful.{AreScoped, AreOfItsLogic}

module _ (C : RuleCalculus) where
  -- steps play a closed goal out exactly where they are the preorder of a certificate that spells a
  -- derivation of it
  abbrev pub PlayIsSpelling : Type 0
  PlayIsSpelling =
      (f : Formula) (steps : List Step) → IsClosed f → PlaysOut C f steps ↔ IsSpelling C f steps

  -- a closed goal that steps play out is derivable
  abbrev pub PlayIsSound : Type 0
  PlayIsSound = (f : Formula) (steps : List Step) → IsClosed f → PlaysOut C f steps → IsDerivable C f

  -- a derivation has a node for each step that spells it
  abbrev pub HasOneNodeAStep : Type 0
  HasOneNodeAStep =
      (f : Formula) (steps : List Step) (s : IsSpelling C f steps)
      → length steps ≡ node_count s.derivation.of

  -- a step plays a list of sequents to at most one
  abbrev pub PlaysToOneList : Type 0
  PlaysToOneList =
      (q r t : List (LevelledIn C)) (step : Step) → PlaysOne C q step r → PlaysOne C q step t → r ≡ t

  -- a certificate spells at most one tree with a root sequent at a level
  abbrev pub SpellsOneTree : Type 0
  SpellsOneTree =
      (c : Certificate) (n : ℕ) (t u : Tree C.SequentOf) → Spells C c t n → Spells C c u n
      → root_sequent t ≡ root_sequent u → t ≡ u

  -- the same steps in preorder are those of one certificate and spell one derivation of a goal
  abbrev pub HasOneSpelling : Type 0
  HasOneSpelling =
      (f : Formula) (steps : List Step) (s t : IsSpelling C f steps)
      → (s.certificate_of ≡ t.certificate_of) × (s.derivation.of ≡ t.derivation.of)

  -- the premises that a step names at a sequent in scope are in scope at their levels
  abbrev pub KeepsScope : Type 0
  KeepsScope =
      (step : Step) (n : ℕ) (c : C.SequentOf) (ps : List (LevelledIn C)) → C.IsScoped (n, c)
      → C.premises_of step n c ≡ Some ps → AreScoped C ps

  -- of a sequent of the logic's formulas the premises are such sequents
  abbrev pub KeepsLogic : Type 0
  KeepsLogic =
      (step : Step) (n : ℕ) (c : C.SequentOf) (ps : List (LevelledIn C)) → C.IsOfItsLogic c
      → C.premises_of step n c ≡ Some ps → AreOfItsLogic C ps

  -- the root of a closed goal of the logic is in scope at level 0, and its formulas are of the
  -- logic
  abbrev pub RootIsInScope : Type 0
  RootIsInScope =
      (f : Formula) → IsClosed f → IsOfLogic C.logic f
      → C.IsScoped (0, C.root_of f) × C.IsOfItsLogic (C.root_of f)
