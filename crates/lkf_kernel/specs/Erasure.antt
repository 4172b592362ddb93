-- Guided derivations without levels, certificates and indexes.
use Rattle.std.specs.Prelude.{◌≡◌, ℕ, List, map}
use Rattle.fpc_terms.specs.Term.{Term}
use Rattle.polarised_formulas.specs.Formula.{Formula}
use Rattle.polarised_formulas.specs.declared.logic.Logic.TheVariants.{Lkf}
use Rattle.polarised_formulas.specs.declared.step.Step.{Step}
use Rattle.clause_language.specs.Program.{IsOpenProgram}
use Rattle.clause_language.specs.declared.program.Program.{Program}
use Rattle.lkf_rules.specs.Sequent.{up, down}
use Rattle.lkf_rules.specs.Sequent as plain
use Rattle.lkf_rules.specs.Derivation.{Tree, node, no_trees, tree}
use Rattle.lkf_rules.specs.Certificate.{IsSpelling}
use Rattle.search_model.specs.declared.stored.Stored.{Stored}
use Rattle.lkf_kernel.specs.Guided.{Guided, true_negative, false_negative, or_negative}
use Rattle.lkf_kernel.specs.Guided.{and_negative, every, store, decide, cut_by, true_positive}
use Rattle.lkf_kernel.specs.Guided.{and_positive, or_positive, some, release, initial, IsGuided}
use Rattle.lkf_kernel.specs.declared.sequent.Sequent.{Sequent}
use Rattle.lkf_kernel.specs.declared.sequent.Sequent.TheVariants.{Up, Down}

-- the stored formulas without their indexes
abbrev pub formulas_in : List Stored → List Formula
formulas_in st = map (λ (i : Stored). i.formula) st

-- the sequent without indexes
abbrev pub plain_sequent : Sequent → plain.Sequent
plain_sequent (Up st g) = up (formulas_in st) g
plain_sequent (Down st f) = down (formulas_in st) f

-- a sequent, without indexes, with nothing over it
abbrev pub leaf : Sequent → Tree
leaf q = node (plain_sequent q) no_trees

-- a sequent, without indexes, with one derivation over it
abbrev pub over_one : Sequent → Tree → Tree
over_one q t = node (plain_sequent q) (tree t no_trees)

-- a sequent, without indexes, with two derivations over it
abbrev pub over_two : Sequent → Tree → Tree → Tree
over_two q t u = node (plain_sequent q) (tree t (tree u no_trees))

module _ {p : Program} where
  -- the tree of the derivation's sequents, without levels, certificates and indexes
  abbrev pub erased : {x : Term} {n : ℕ} {q : Sequent} {steps : List Step}
      → Guided p x n q steps → Tree
  erased {q = q} true_negative = leaf q
  erased {q = q} (false_negative says d) = over_one q (erased d)
  erased {q = q} (or_negative says d) = over_one q (erased d)
  erased {q = q} (and_negative says d e) = over_two q (erased d) (erased e)
  erased {q = q} (every says fresh d) = over_one q (erased d)
  erased {q = q} (store says storable d) = over_one q (erased d)
  erased {q = q} (decide says at positive d) = over_one q (erased d)
  erased {q = q} (cut_by declared ts says one scoped d e) = over_two q (erased d) (erased e)
  erased {q = q} (true_positive says) = leaf q
  erased {q = q} (and_positive says d e) = over_two q (erased d) (erased e)
  erased {q = q} (or_positive side says d) = over_one q (erased d)
  erased {q = q} (some says scoped d) = over_one q (erased d)
  erased {q = q} (release says negative d) = over_one q (erased d)
  erased {q = q} (initial says at) = leaf q

-- The steps of a guided derivation are the preorder of a certificate, which spells the derivation
-- without levels, certificates and indexes: each of its nodes is an instance of a rule of LKF.
abbrev pub GuidedIsSpelling : Type 0
GuidedIsSpelling =
    (p : Program) (goal : Formula) (steps : List Step) (h : IsGuided p goal steps) → IsOpenProgram p
    → p.logic ≡ Lkf
    → (s : IsSpelling goal steps) × (s.derivation.of ≡ erased h.guided)
