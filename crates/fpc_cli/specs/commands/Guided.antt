-- `check` and `elaborate`: the search for a derivation of a problem's goal, guided by a definition
-- and a certificate.
use Rattle.std.specs.Prelude.{◌≡◌, ◌⊎◌, ℕ, nat_le, if◌then◌else◌, List, [], ◌∷◌, length, Some}
use Rattle.fpc_base.specs.Lexeme.{Item, items_of}
use Rattle.fpc_base.specs.Outside.{Outside}
use Rattle.polarised_formulas.specs.Formula.{Formula, IsClosed, IsLkf}
use Rattle.polarised_formulas.specs.PlainLimits.{IsNumbering}
use Rattle.polarised_formulas.specs.declared.logic.Logic.TheVariants.{Lkf}
use Rattle.polarised_formulas.specs.declared.step.Step.{Step}
use Rattle.clause_language.specs.ReadFile.{DefinitionIsRead, CertificateIsRead, names_of}
use Rattle.clause_language.specs.declared.certificate.Certificate.{Certificate}
use Rattle.clause_language.specs.declared.definition.Definition.{Definition}
use Rattle.clause_language.specs.declared.program.Program.{Program}
use Rattle.search_model.specs.Checking.{IsOutcome, IsOutcomeWithin}
use Rattle.search_model.specs.declared.plain.Outcome.{Outcome}
use Rattle.search_model.specs.declared.plain.Outcome.TheVariants as search
use Rattle.explicit_form.specs.StepLimits.{most_bytes}
use Rattle.explicit_kernel.specs.Judgment.{accepted, judgment}
use Rattle.explicit_kernel.specs.Progress.{HasSpelling}
use Rattle.lkf_kernel.specs.Guided.{lkf_table}
use Rattle.lkf_rules.specs.Derivation.{IsDerivable}
use Rattle.elaborator.specs.Check.{IsRight}
use Rattle.elaborator.specs.Elaborate.{explicit_text}
use Rattle.elaborator.specs.OneOutcome.{IsChecked}
use Rattle.fpc_cli.specs.declared.answer.Answer.{Answer}
use Rattle.fpc_cli.specs.declared.answer.Answer.TheVariants.{Accepted, Formatted, NotProved, BudgetSpent, TooLong, OutOfMemory}
use Rattle.fpc_cli.specs.declared.answer.Role.TheVariants as role
use Rattle.fpc_cli.specs.Command.{Chosen}
use Rattle.fpc_cli.specs.declared.command.Wanted.{Wanted}
use Rattle.fpc_cli.specs.declared.command.Wanted.TheVariants.{Verdict, Explicit}
use Rattle.fpc_cli.specs.Grammars as grammar
use Rattle.fpc_cli.specs.Inputs.{Input, source, Task}
use Rattle.fpc_cli.specs.Origins.{definition_input}

-- the answer that a text is: the text, or that it is too long
abbrev pub as_text : List ℕ → Answer
as_text text = if nat_le (length text) most_bytes then Formatted text else TooLong

-- the answer to steps that were found: their number, or, where it is wanted, their explicit
-- certificate, by the names of a table
abbrev pub success_of : Wanted → List (List ℕ) → List Step → Answer
success_of Verdict names trace = Accepted (length trace)
success_of Explicit names trace = as_text (explicit_text names trace)

-- the answer that an outcome is
abbrev pub answer_of : Wanted → List (List ℕ) → Outcome → Answer
answer_of wanted names (search.Accepted trace units) = success_of wanted names trace
answer_of wanted names (search.Rejected units) = NotProved
answer_of wanted names search.Spent = BudgetSpent

-- an accepted goal has a spelling of so many steps, and is derivable
abbrev pub IsProvedBy : Formula → Outcome → Type 0
IsProvedBy goal (search.Accepted trace units) =
    HasSpelling goal (length trace) × IsDerivable goal
IsProvedBy goal (search.Rejected units) = Unit {0}
IsProvedBy goal search.Spent = Unit {0}

-- the explicit certificate that is the answer is judged accepted for the goal, with as many steps,
-- by each numbering that agrees with the table and gives each name back
abbrev pub IsAcceptedText : List (List ℕ) → Formula → Outcome → Answer → Type 0
IsAcceptedText names goal (search.Accepted trace units) (Formatted text) =
    (number : List ℕ → ℕ) → IsNumbering names number
    → judgment number goal text ≡ accepted (length trace)
IsAcceptedText names goal _ _ = Unit {0}

-- The search for a goal by a program has an outcome within the budget, which is right, and this is
-- the answer that it is.
pub record IsSearched (wanted : Wanted) (names : List (List ℕ)) (p : Program) (goal : Formula)
    (budget : ℕ) (answer : Answer) : Type 0 where
  pub outcome : Outcome
  pub is_outcome : IsOutcome (lkf_table p) p goal budget outcome
  pub within : IsOutcomeWithin budget outcome
  pub right : IsRight p goal outcome
  pub told : answer ≡ answer_of wanted names outcome
  pub verified : IsAcceptedText names goal outcome answer

-- a definition of LKF and a certificate of LKF after it were read, by the numbers of names in a
-- table
pub record AreRead (names : List (List ℕ)) (d : Definition) (c : Certificate) : Type 0 where
  pub items : List Item
  pub definition_read : DefinitionIsRead (Some Lkf) items names d
  pub others : List Item
  pub certificate_read : CertificateIsRead (Some Lkf) (names_of names d.declared) others names c

-- The bytes are a problem of LKF, a definition and a certificate, by the numbers of names in a
-- table, and this is the answer of the search for the problem's goal within a budget. An accepted
-- goal is derivable: its guided derivation is a derivation without what guides it, and the number
-- is that of its steps, or the text is their explicit certificate. Where the answer is that it is
-- not proved, it has no guided derivation.
pub record IsGuidedAnswer (wanted : Wanted) (budget : ℕ) (problem definition certificate : List ℕ) (answer : Answer)
    : Type 0 where
  pub names : List (List ℕ)
  pub outcome : Outcome
  pub checked : IsChecked (items_of problem) (items_of definition) (items_of certificate) budget
      names outcome
  pub closed : IsClosed checked.goal
  pub lkf : IsLkf checked.goal
  pub within : IsOutcomeWithin budget outcome
  pub right : IsRight checked.program checked.goal outcome
  pub proved : IsProvedBy checked.goal outcome
  pub told : answer ≡ answer_of wanted names outcome
  pub verified : IsAcceptedText names checked.goal outcome answer

-- the result: nothing more is opened or taken, and the answer is that of the search; or memory ran
-- out
pub record GuidedEnds (wanted : Wanted) (budget : ℕ) (problem definition certificate : List ℕ) (old new : Outside)
    (answer : Answer) : Type 0 where
  pub still : new ≡ old
  pub searched : (answer ≡ OutOfMemory) ⊎ IsGuidedAnswer wanted budget problem definition certificate answer

-- so, of the three inputs
abbrev pub EndsGuided : Wanted → ℕ → List (List ℕ) → Outside → Outside → Answer → Type 0
EndsGuided wanted budget (problem ∷ definition ∷ certificate ∷ []) old new answer =
    GuidedEnds wanted budget problem definition certificate old new answer
EndsGuided wanted budget _ old new answer = ⊥

-- the answer is that of the search, and of each search for the goal that the bytes have by the
-- numbers of names in a table
pub record IsItsAnswer (wanted : Wanted) (budget : ℕ) (problem definition certificate : List ℕ) (answer : Answer)
    : Type 0 where
  pub answered : IsGuidedAnswer wanted budget problem definition certificate answer
  pub only : (names : List (List ℕ)) (outcome : Outcome)
      → IsChecked (items_of problem) (items_of definition) (items_of certificate) budget names
      outcome
      → answer ≡ answer_of wanted names outcome

-- so, of the three inputs
abbrev pub GuidedIsDue : Wanted → ℕ → List (List ℕ) → Answer → Type 0
GuidedIsDue wanted budget (problem ∷ definition ∷ certificate ∷ []) answer =
    IsItsAnswer wanted budget problem definition certificate answer
GuidedIsDue wanted budget _ answer = ⊥

-- the bytes of the definition, which is the second input
abbrev pub definition_in : List (List ℕ) → List ℕ
definition_in (problem ∷ definition ∷ more) = definition
definition_in _ = []

-- the input that the certificate is, after the definition
abbrev pub certificate_input : List ℕ → Input
certificate_input name =
    source role.Certificate name (λ earlier. grammar.certificate_after (definition_in earlier))

-- Both read a problem of LKF, then a definition of LKF, and then a certificate of LKF, to which
-- the formulas that the definition declares are earlier ones
abbrev pub guided_task
    : Wanted → ℕ → (problem : List ℕ) → (definition : Chosen) → (certificate : List ℕ) → Task
guided_task wanted budget problem chosen certificate = record {
  inputs = source role.Problem problem (λ earlier. grammar.lkf_problem)
      ∷ definition_input chosen (λ earlier. grammar.definition (Some Lkf))
      ∷ certificate_input certificate ∷ [];
  Ends = λ content. EndsGuided wanted budget;
  Due = λ content. GuidedIsDue wanted budget;
}
