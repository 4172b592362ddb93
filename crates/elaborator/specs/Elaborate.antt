-- What the answer of `elaborate` means for a goal of LKF.
use Rattle.std.specs.Prelude.{◌≡◌, ℕ, ◌<◌, ◌≤◌, List, length, Option, Some, Result}
use Rattle.fpc_terms.specs.Name.{AreDifferent, Grows}
use Rattle.fpc_terms.specs.Text.{name_in}
use Rattle.polarised_formulas.specs.Formula.{Formula}
use Rattle.polarised_formulas.specs.PlainLimits.{IsNumbering}
use Rattle.polarised_formulas.specs.declared.logic.Logic.TheVariants.{Lkf}
use Rattle.polarised_formulas.specs.declared.step.Step.{Step}
use Rattle.clause_language.specs.declared.program.Program.{Program}
use Rattle.search_model.specs.Checking.{IsOutcome, IsOutcomeWithin}
use Rattle.search_model.specs.declared.plain.Outcome.{Outcome}
use Rattle.search_model.specs.declared.plain.Outcome.TheVariants as outcome
use Rattle.explicit_form.specs.StepLimits.{most_bytes}
use Rattle.explicit_form.specs.StepText.{certificate_text}
use Rattle.lkf_rules.specs.Derivation.{node_count}
use Rattle.explicit_kernel.specs.Judgment.{accepted, judgment}
use Rattle.explicit_kernel.specs.OwnText.{IsAcceptedOr}
use Rattle.explicit_kernel.specs.Verdict.{IsJudged}
use Rattle.explicit_kernel.specs.declared.verify.Verdict.{Verdict}
use Rattle.explicit_kernel.specs.declared.verify.VerifyRefusal.{VerifyRefusal}
use Rattle.lkf_kernel.specs.Guided.{lkf_table}
use Rattle.elaborator.specs.Check.{IsRight}
use Rattle.elaborator.specs.declared.elaborate.Elaborated.{Elaborated}
use Rattle.elaborator.specs.declared.elaborate.Elaborated.TheVariants.{Text, Rejected, Spent, TooLong}

-- the explicit certificate of LKF with these steps, with the names of a table
abbrev pub explicit_text : List (List ℕ) → List Step → List ℕ
explicit_text names steps = certificate_text (name_in names) Lkf steps

-- What an outcome of the search becomes: where it is accepted, the text of its steps, with their
-- number and the units, or that this text is too long; else what it is, with its units.
abbrev pub IsElaborated : List (List ℕ) → Outcome → Elaborated → Type 0
IsElaborated names (outcome.Accepted trace units) (Text bytes steps taken) =
    (bytes.items ≡ explicit_text names trace) × (length (explicit_text names trace) ≤ most_bytes)
    × (steps ≡ length trace) × (taken ≡ units)
IsElaborated names (outcome.Accepted trace units) TooLong =
    most_bytes < length (explicit_text names trace)
IsElaborated names (outcome.Rejected units) (Rejected taken) = taken ≡ units
IsElaborated names outcome.Spent Spent = Unit {0}
IsElaborated names _ _ = ⊥

-- the number that is told with a text is that of the nodes of the derivation that the steps spell
abbrev pub HasNodes
    : (p : Program) (goal : Formula) (o : Outcome) → IsRight p goal o → Elaborated → Type 0
HasNodes p goal (outcome.Accepted trace units) right (Text bytes steps taken) =
    node_count right.spelling.derivation.of ≡ steps
HasNodes p goal _ right _ = Unit {0}

-- The search within the budget has an outcome, which is right, and it was elaborated.
pub record IsElaboration (names : List (List ℕ)) (p : Program) (goal : Formula) (budget : ℕ)
    (elaborated : Elaborated) : Type 0 where
  pub outcome : Outcome
  pub is_outcome : IsOutcome (lkf_table p) p goal budget outcome
  pub within : IsOutcomeWithin budget outcome
  pub right : IsRight p goal outcome
  pub is_elaborated : IsElaborated names outcome elaborated
  pub nodes : HasNodes p goal outcome right elaborated

-- The bytes are accepted for the goal in so many steps: judged so by each numbering that agrees with
-- the table and gives each name back, and accepted so by `verify` where its source holds just them,
-- with a table that has grown since, unless it answers that a read failed (which comes only where
-- the count of faults rose: `HasReason` in the contract of `verify`) or that memory ran out.
pub record IsVerified (names : List (List ℕ)) (goal : Formula) (bytes : List ℕ) (steps : ℕ)
    : Type 0 where
  pub judged : (number : List ℕ → ℕ) → IsNumbering names number
      → judgment number goal bytes ≡ accepted steps
  pub verified : (new : List (List ℕ)) → AreDifferent new → Grows names new
      → (left : Option (List ℕ)) (before now : ℕ) (answer : Result Verdict VerifyRefusal)
      → IsJudged new goal (Some bytes) left before now answer
      → IsAcceptedOr steps left before now answer

-- the text that was made is accepted for the goal, with the number of steps that is told
abbrev pub IsTextVerified : List (List ℕ) → Formula → Elaborated → Type 0
IsTextVerified names goal (Text bytes steps units) = IsVerified names goal bytes.items steps
IsTextVerified names goal _ = Unit {0}
