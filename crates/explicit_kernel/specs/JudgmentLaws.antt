-- Laws of the judgment of a certificate: what it says of the text and of the steps.
use Rattle.std.specs.Prelude.{◌≡◌, ◌≢◌, ◌↔◌, ℕ, suc, ◌≤◌, true, false, List, [], ◌∷◌, ◌++◌, length, Some}
use Rattle.fpc_base.specs.declared.refusal.Code.TheVariants.{Unexpected}
use Rattle.fpc_base.specs.declared.refusal.Refusal.{Refusal}
use Rattle.polarised_formulas.specs.declared.step.Step.{Step}
use Rattle.polarised_formulas.specs.Formula.{Formula, IsClosed}
use Rattle.polarised_formulas.specs.Written.{WrittenFormula, formula_meant}
use Rattle.polarised_formulas.specs.EachName.{EachNameIn}
use Rattle.polarised_formulas.specs.PlainForm.{begins_name, GivesBack}
use Rattle.polarised_formulas.specs.Calculus.Rules.{RuleCalculus, LevelledIn}
use Rattle.polarised_formulas.specs.Calculus.Derivation.{node_count}
use Rattle.polarised_formulas.specs.Calculus.Certificate.{IsSpelling}
use Rattle.polarised_formulas.specs.Calculus.Play.{PlaysOne, Plays, start_of}
use Rattle.explicit_form.specs.StepText.{BeginsCertificate, IsCertificate}
use Rattle.explicit_form.specs.StepReading.{State, start, go, run, steps_of}
use Rattle.explicit_form.specs.StepLimits.{most_bytes, fault, outcome, refused as outcome_refused, FitSteps, AreUntold}
use Rattle.explicit_form.specs.Feeding.{is_whole}
use Rattle.explicit_kernel.specs.JudgmentIn.{Judgment, accepted, rejected, refused, judged, course_of, judgment}

-- the bytes are the text of so many steps, which keep the limits and spell a derivation of the goal
pub record IsAccepted (C : RuleCalculus) (text : ℕ → List ℕ) (number : List ℕ → ℕ) (goal : Formula) (bytes : List ℕ) (n : ℕ) : Type 0 where
  pub steps : List Step
  pub is_text : IsCertificate text number C.logic steps bytes
  pub keeps_limits : FitSteps text steps
  pub small : length bytes ≤ most_bytes
  pub spelling : IsSpelling C goal steps
  pub count : length steps ≡ n

-- why a line is rejected that leads to a state, after steps that have played to these sequents
pub data WhyRejected (C : RuleCalculus) (st : State) (steps : List Step) (pending : List (LevelledIn C)) : Type 0 where
  -- it is the line of a step that does not fit
  unfit : (s : Step) → is_whole st ≡ false → steps_of st ≡ steps ++ s ∷ []
      → ((r : List (LevelledIn C)) → PlaysOne C pending s r → ⊥) → WhyRejected C st steps pending
  -- it is the last line, and a sequent is left
  unfinished : is_whole st ≡ true → steps_of st ≡ steps → pending ≢ [] → WhyRejected C st steps pending

-- The line that ends at this place is rejected. Nothing is reported of the bytes up to and with its
-- end, and the steps before it, one fewer than k, fit.
pub record IsRejectedAt (C : RuleCalculus) (number : List ℕ → ℕ) (goal : Formula) (bytes : List ℕ) (k place : ℕ) : Type 0 where
  pub front : List ℕ
  pub rest : List ℕ
  pub parts : front ++ 10 ∷ rest ≡ bytes
  pub ends_at : length front ≡ place
  pub untold : AreUntold number C.logic start 0 (front ++ 10 ∷ [])
  pub steps : List Step
  pub pending : List (LevelledIn C)
  pub plays_to : Plays C (start_of C goal) steps pending
  pub count : suc (length steps) ≡ k
  pub why : WhyRejected C (run number C.logic start (front ++ 10 ∷ [])) steps pending

-- why bytes are refused right after the first of them
pub data WhyRefusedBehind (C : RuleCalculus) (number : List ℕ → ℕ) (front : List ℕ) : List ℕ → Refusal → Type 0 where
  -- they end there
  at_their_end : WhyRefusedBehind C number front [] (record { code = Unexpected; at = length front })
  -- it is reported of the next byte
  at_byte : (b : ℕ) (more : List ℕ) (r : Refusal)
      → fault (length front) (run number C.logic start front) (go number C.logic (run number C.logic start front) b) ≡ Some r
      → WhyRefusedBehind C number front (b ∷ more) r

-- The bytes are refused so before a line is rejected: nothing is reported of the front, the steps
-- whose lines end in it are so many and fit, and where the front ends with the last line no sequent
-- is left.
pub record IsRefusedFirst (C : RuleCalculus) (number : List ℕ → ℕ) (goal : Formula) (bytes : List ℕ) (r : Refusal) (n : ℕ) : Type 0 where
  pub is_told : outcome number C.logic start 0 bytes ≡ outcome_refused r
  pub front : List ℕ
  pub rest : List ℕ
  pub parts : front ++ rest ≡ bytes
  pub untold : AreUntold number C.logic start 0 front
  pub why : WhyRefusedBehind C number front rest r
  pub pending : List (LevelledIn C)
  pub plays_to : Plays C (start_of C goal) (steps_of (run number C.logic start front)) pending
  pub count : length (steps_of (run number C.logic start front)) ≡ n
  pub closed : is_whole (run number C.logic start front) ≡ true → pending ≡ []

module _ (C : RuleCalculus) where
  -- a certificate for a closed goal is accepted exactly where it is the text of steps that spell a
  -- derivation of the goal
  abbrev pub AcceptedIsSpelled : Type 0
  AcceptedIsSpelled =
      (text : ℕ → List ℕ) (number : List ℕ → ℕ) → GivesBack text number
      → (goal : Formula) → IsClosed goal → (bytes : List ℕ) (n : ℕ)
      → (judgment C number goal bytes ≡ accepted n) ↔ IsAccepted C text number goal bytes n

  -- the derivation has as many nodes
  abbrev pub AcceptedHasNodes : Type 0
  AcceptedHasNodes =
      (text : ℕ → List ℕ) (number : List ℕ → ℕ) (goal : Formula) (bytes : List ℕ) (n : ℕ)
      (h : IsAccepted C text number goal bytes n) → node_count h.spelling.derivation.of ≡ n

  -- a certificate is rejected at a step and a place exactly where the line that ends there is
  -- rejected
  abbrev pub RejectedAtLine : Type 0
  RejectedAtLine =
      (number : List ℕ → ℕ) (goal : Formula) (bytes : List ℕ) (k place : ℕ)
      → (judgment C number goal bytes ≡ rejected k place) ↔ IsRejectedAt C number goal bytes k place

  -- the bytes up to and with the end of that line begin a certificate
  abbrev pub RejectedBegins : Type 0
  RejectedBegins =
      (text : ℕ → List ℕ) (number : List ℕ → ℕ) → GivesBack text number
      → (goal : Formula) (bytes : List ℕ) (k place : ℕ) (h : IsRejectedAt C number goal bytes k place)
      → BeginsCertificate text number C.logic (h.front ++ 10 ∷ [])

  -- a certificate is refused, with so many steps that fit, exactly where its bytes are refused
  -- before a line is rejected
  abbrev pub RefusedFirst : Type 0
  RefusedFirst =
      (number : List ℕ → ℕ) (goal : Formula) (bytes : List ℕ) (r : Refusal) (n : ℕ)
      → (judgment C number goal bytes ≡ refused r n) ↔ IsRefusedFirst C number goal bytes r n

  -- bytes that show a judgment keep it whatever comes after them
  abbrev pub JudgmentStays : Type 0
  JudgmentStays =
      (number : List ℕ → ℕ) (goal : Formula) (front more : List ℕ) (j : Judgment)
      → course_of C number goal front ≡ judged j → judgment C number goal (front ++ more) ≡ j

  -- A certificate has the same judgment by any two numberings that give the names back. The goal is
  -- what a written formula stands for by the same numbering.
  abbrev pub NumbersDontMatter : Type 0
  NumbersDontMatter =
      (text text' : ℕ → List ℕ) (number number' : List ℕ → ℕ)
      → GivesBack text number → GivesBack text' number'
      → (w : WrittenFormula) → EachNameIn (λ x. begins_name x ≡ true) w → (bytes : List ℕ)
      → judgment C number (formula_meant number [] [] w) bytes
      ≡ judgment C number' (formula_meant number' [] [] w) bytes
