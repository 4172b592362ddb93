-- Steps that play a goal out are accepted from their own text.
use Rattle.std.specs.Prelude.{◌≡◌, ◌⊎◌, ℕ, ◌+◌, ◌≤◌, List, [], length, Option, Some}
use Rattle.std.specs.Prelude.{Result, Ok, Err}
use Rattle.std.specs.List.{All}
use Rattle.fpc_terms.specs.Name.{AreNames, AreDifferent, Grows}
use Rattle.fpc_terms.specs.Text.{name_in}
use Rattle.polarised_formulas.specs.declared.step.Step.{Step}
use Rattle.polarised_formulas.specs.Calculus.Certificate.{IsSpelling}
use Rattle.polarised_formulas.specs.Calculus.Rules.{RuleCalculus}
use Rattle.polarised_formulas.specs.Formula.{Formula, IsClosed}
use Rattle.polarised_formulas.specs.PlainLimits.{IsNumbering}
use Rattle.polarised_formulas.specs.Size.{HasFewInStep, IsShallowStep}
use Rattle.explicit_form.specs.Sizes.{StepsNamedBelow}
use Rattle.explicit_form.specs.StepLimits.{most_bytes}
use Rattle.explicit_form.specs.StepText.{certificate_text}
use Rattle.explicit_kernel.specs.JudgmentIn.{accepted, judgment}
use Rattle.explicit_kernel.specs.VerdictIn.{IsJudged}
use Rattle.explicit_kernel.specs.declared.verify.Verdict.{Verdict}
use Rattle.explicit_kernel.specs.declared.verify.Verdict.TheVariants.{Accepted}
use Rattle.explicit_kernel.specs.declared.verify.VerifyRefusal.{VerifyRefusal}
use Rattle.explicit_kernel.specs.declared.verify.VerifyRefusal.TheVariants.{ReadFault, OutOfMemory}

-- A table of different names, each of which is a name by the grammar, of at most 255 bytes; steps
-- that spell a derivation of a closed goal, with names of the table, at most 255 arguments of each
-- name, and cut formulas nested at most 10,000 deep; and these bytes are their text, which is no
-- longer than a certificate may be. Nothing is asked of places and eigenvariables: they are below
-- the number of steps.
pub record IsOwnText (C : RuleCalculus) (names : List (List ℕ)) (goal : Formula)
    (steps : List Step) (bytes : List ℕ) : Type 0 where
  pub different : AreDifferent names
  pub proper : AreNames names
  pub closed : IsClosed goal
  pub spelling : IsSpelling C goal steps
  pub named : StepsNamedBelow (length names) steps
  pub few : All HasFewInStep steps
  pub shallow : All IsShallowStep steps
  pub text : bytes ≡ certificate_text (name_in names) C.logic steps
  pub short : length bytes ≤ most_bytes

-- the whole certificate was taken and accepted with so many steps, each a tick, or the answer is
-- that a read failed (which comes only where the count of faults rose: `HasReason` in `Verdict`), or
-- that memory ran out
abbrev pub IsAcceptedOr
    : ℕ → Option (List ℕ) → ℕ → ℕ → Result Verdict VerifyRefusal → Type 0
IsAcceptedOr n left before now answer =
    ((answer ≡ Ok (Accepted n)) × (left ≡ Some []) × (now ≡ before + n))
    ⊎ ((answer ≡ Err ReadFault) ⊎ (answer ≡ Err OutOfMemory))

module _ (C : RuleCalculus) where
  -- by each numbering that agrees with the table and gives each name back, the text of the steps is
  -- accepted with as many steps
  abbrev pub OwnTextIsAccepted : Type 0
  OwnTextIsAccepted =
      (names : List (List ℕ)) (goal : Formula) (steps : List Step) (bytes : List ℕ)
      → IsOwnText C names goal steps bytes → (number : List ℕ → ℕ) → IsNumbering names number
      → judgment C number goal bytes ≡ accepted (length steps)

  -- what the check answers where the source holds the text of the steps and no more, with a table
  -- that has grown since
  abbrev pub OwnTextIsVerified : Type 0
  OwnTextIsVerified =
      (names : List (List ℕ)) (goal : Formula) (steps : List Step) (bytes : List ℕ)
      → IsOwnText C names goal steps bytes
      → (new : List (List ℕ)) → AreDifferent new → Grows names new
      → (left : Option (List ℕ)) (before now : ℕ) (answer : Result Verdict VerifyRefusal)
      → IsJudged C new goal (Some bytes) left before now answer
      → IsAcceptedOr (length steps) left before now answer
