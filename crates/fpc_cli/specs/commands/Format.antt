-- `format`: the printed form of a file.
use Rattle.std.specs.Prelude.{◌≡◌, ℕ, List, [], ◌∷◌, length, None}
use Rattle.fpc_base.specs.Lexeme.{items_of}
use Rattle.fpc_terms.specs.Name.{AreDifferent}
use Rattle.polarised_formulas.specs.declared.logic.Logic.{Logic}
use Rattle.polarised_formulas.specs.Formula.{Formula}
use Rattle.polarised_formulas.specs.Printing.{AllNamesBelow}
use Rattle.polarised_formulas.specs.ReadProblem.{ProblemIsRead}
use Rattle.polarised_formulas.specs.Text.{problem_text}
use Rattle.clause_language.specs.declared.certificate.Certificate as certificate
use Rattle.clause_language.specs.declared.definition.Definition as definition
use Rattle.clause_language.specs.Naming.{IsDefinitionNamedBelow, IsCertificateNamedBelow}
use Rattle.clause_language.specs.ReadFile.{DefinitionIsRead, CertificateIsRead}
use Rattle.clause_language.specs.Text.{definition_text, certificate_text}
use Rattle.fpc_base.specs.Outside.{Outside}
use Rattle.fpc_cli.specs.declared.answer.Answer.{Answer}
use Rattle.fpc_cli.specs.declared.answer.Answer.TheVariants.{Formatted, OutOfMemory}
use Rattle.fpc_cli.specs.declared.command.Form.{Form}
use Rattle.fpc_cli.specs.declared.command.Form.TheVariants.{Problem, Definition, Certificate}
use Rattle.fpc_cli.specs.Command.{role_of}
use Rattle.fpc_cli.specs.Grammars.{grammar_of}
use Rattle.fpc_cli.specs.Inputs.{source, Task}

-- the bytes are a problem of either logic, by the numbers of names in a table, and this is its
-- printed form
pub record IsProblemPrinted (bytes text : List ℕ) : Type 0 where
  pub names : List (List ℕ)
  pub different : AreDifferent names
  pub logic : Logic
  pub goal : Formula
  pub read : ProblemIsRead (items_of bytes) names logic goal
  pub named : AllNamesBelow (length names) goal
  pub printed : text ≡ problem_text names logic goal

-- the bytes are a definition of either logic, by the numbers of names in a table, and this is its
-- printed form
pub record IsDefinitionPrinted (bytes text : List ℕ) : Type 0 where
  pub names : List (List ℕ)
  pub different : AreDifferent names
  pub meaning : definition.Definition
  pub read : DefinitionIsRead None (items_of bytes) names meaning
  pub named : IsDefinitionNamedBelow (length names) meaning
  pub printed : text ≡ definition_text names meaning

-- the bytes are a certificate of either logic that stands alone, by the numbers of names in a
-- table, and this is its printed form
pub record IsCertificatePrinted (bytes text : List ℕ) : Type 0 where
  pub names : List (List ℕ)
  pub different : AreDifferent names
  pub meaning : certificate.Certificate
  pub read : CertificateIsRead None [] (items_of bytes) names meaning
  pub named : IsCertificateNamedBelow (length names) meaning
  pub printed : text ≡ certificate_text names meaning

-- the text is the printed form of the bytes
abbrev pub IsPrintedForm : Form → List ℕ → List ℕ → Type 0
IsPrintedForm Problem bytes text = IsProblemPrinted bytes text
IsPrintedForm Definition bytes text = IsDefinitionPrinted bytes text
IsPrintedForm Certificate bytes text = IsCertificatePrinted bytes text

-- the answer is the printed form of the bytes; or memory ran out
abbrev pub IsFormatted : Form → List ℕ → Answer → Type 0
IsFormatted form bytes (Formatted text) = IsPrintedForm form bytes text
IsFormatted form bytes OutOfMemory = Unit {0}
IsFormatted form bytes _ = ⊥

-- the result: nothing more is opened or taken, and the answer is the printed form
pub record FormatEnds (form : Form) (bytes : List ℕ) (old new : Outside) (answer : Answer)
    : Type 0 where
  pub still : new ≡ old
  pub formatted : IsFormatted form bytes answer

-- so, of the one input
abbrev pub EndsFormat : Form → List (List ℕ) → Outside → Outside → Answer → Type 0
EndsFormat form (bytes ∷ []) old new answer = FormatEnds form bytes old new answer
EndsFormat form _ old new answer = ⊥

-- the answer is the printed form of the bytes, and they have no other
pub record IsItsPrintedForm (form : Form) (bytes : List ℕ) (answer : Answer) : Type 0 where
  pub text : List ℕ
  pub told : answer ≡ Formatted text
  pub printed : IsPrintedForm form bytes text
  pub only : (other : List ℕ) → IsPrintedForm form bytes other → other ≡ text

-- so, of the one input
abbrev pub FormatIsDue : Form → List (List ℕ) → Answer → Type 0
FormatIsDue form (bytes ∷ []) answer = IsItsPrintedForm form bytes answer
FormatIsDue form _ answer = ⊥

-- `format` reads one file, by the grammar of its form
abbrev pub format_task : Form → List ℕ → Task
format_task form file = record {
  inputs = source (role_of form) file (λ earlier. grammar_of form) ∷ [];
  Ends = λ content. EndsFormat form;
  Due = λ content. FormatIsDue form;
}
