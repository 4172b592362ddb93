-- The outcome of a check depends on what is read alone, and on no number of a name.
use Rattle.std.specs.Prelude.{ℕ, List, Some}
use Rattle.fpc_base.specs.Lexeme.{Item}
use Rattle.fpc_terms.specs.Name.{AreDifferent}
use Rattle.polarised_formulas.specs.Formula.{Formula}
use Rattle.polarised_formulas.specs.ReadProblem.{ProblemIsRead}
use Rattle.polarised_formulas.specs.declared.logic.Logic.TheVariants.{Lkf}
use Rattle.clause_language.specs.Program.{HaveWords, IsJoined}
use Rattle.clause_language.specs.ReadFile.{DefinitionIsRead, CertificateIsRead, names_of}
use Rattle.clause_language.specs.declared.certificate.Certificate.{Certificate}
use Rattle.clause_language.specs.declared.definition.Definition.{Definition}
use Rattle.clause_language.specs.declared.program.Program.{Program}
use Rattle.search_model.specs.Checking.{IsOutcome}
use Rattle.search_model.specs.Same.{AreOneName, SameOutcome}
use Rattle.search_model.specs.declared.plain.Outcome.{Outcome}
use Rattle.lkf_kernel.specs.Guided.{lkf_table}

-- A problem of LKF, a definition and a certificate are read from items, by the numbers of names in
-- a table, and the check of the problem's goal within a budget, by the program of the two, has this
-- outcome.
pub record IsChecked (problem definition certificate : List Item) (budget : ℕ)
    (names : List (List ℕ)) (outcome : Outcome) : Type 0 where
  pub different : AreDifferent names
  pub goal : Formula
  pub goal_read : ProblemIsRead problem names Lkf goal
  pub meaning : Definition
  pub definition_read : DefinitionIsRead (Some Lkf) definition names meaning
  pub given : Certificate
  pub certificate_read : CertificateIsRead (Some Lkf) (names_of names meaning.declared) certificate
      names given
  pub program : Program
  pub joined : IsJoined meaning given program
  pub words : HaveWords names program.ids
  pub is_outcome : IsOutcome (lkf_table program) program goal budget outcome

-- What is checked twice, each time by a table of its own, has one outcome: of one kind, with the
-- same units, and with as many steps, which have the same names.
abbrev pub CheckedOnce : Type 0
CheckedOnce = (problem definition certificate : List Item) (budget : ℕ)
    (names others : List (List ℕ)) (r s : Outcome)
    → IsChecked problem definition certificate budget names r
    → IsChecked problem definition certificate budget others s
    → SameOutcome (AreOneName names others) r s
