-- What the check of a certificate in any calculus answers, by the bytes that it took.
use Rattle.std.specs.Prelude.{◌≡◌, ◌⊎◌, ℕ, ◌+◌, ◌≤◌, List, ◌++◌, length, Option, Result, Ok, Err}
use Rattle.fpc_base.specs.Outside.{TakesFront, IsAtEnd}
use Rattle.fpc_terms.specs.Name.{Agrees}
use Rattle.polarised_formulas.specs.Formula.{Formula}
use Rattle.polarised_formulas.specs.Calculus.Rules.{RuleCalculus, LevelledIn}
use Rattle.polarised_formulas.specs.Calculus.Derivation.{IsDerivable}
use Rattle.explicit_form.specs.StepReading.{State}
use Rattle.explicit_kernel.specs.Progress.{HasSpellingIn}
use Rattle.explicit_kernel.specs.JudgmentIn.{Course, going, judged, accepted, rejected, refused, course_of, at_end}
use Rattle.explicit_kernel.specs.declared.verify.Verdict.{Verdict}
use Rattle.explicit_kernel.specs.declared.verify.Verdict.TheVariants.{Accepted, Rejected}
use Rattle.explicit_kernel.specs.declared.verify.VerifyRefusal.{VerifyRefusal}
use Rattle.explicit_kernel.specs.declared.verify.VerifyRefusal.TheVariants.{Refused, ReadFault, OutOfMemory}

-- the most bytes that are taken after the one that decides
abbrev pub most_ahead : ℕ
most_ahead = 65536

-- What the bytes taken have shown, their number, what is left of the source, and the ticks of steps
-- before and now say the answer.
abbrev pub IsShown : {S : Type 0} → Course S → ℕ → Option (List ℕ) → ℕ → ℕ
    → Result Verdict VerifyRefusal → Type 0
IsShown c taken left before now (Ok (Accepted n)) =
    (at_end taken c ≡ accepted n) × IsAtEnd left × (now ≡ before + n)
IsShown c taken left before now (Ok (Rejected k)) =
    (place : ℕ)
    × ((c ≡ judged (rejected k place)) × (taken ≤ place + 1 + most_ahead) × (now + 1 ≡ before + k))
IsShown c taken left before now (Err (Refused r)) =
    (fitted : ℕ)
    × ((at_end taken c ≡ refused r fitted)
    × (IsAtEnd left ⊎ (c ≡ judged (refused r fitted)))
    × (taken ≤ r.at + 1 + most_ahead)
    × (now ≡ before + fitted))
IsShown {S} c taken left before now (Err ReadFault) =
    (st : State) × ((q : List (ℕ × S)) × ((n : ℕ) × ((c ≡ going st q n) × (now ≡ before + n))))
IsShown c taken left before now (Err OutOfMemory) = Unit {0}

-- a front of the bytes of a certificate for the goal shows nothing, and so many steps have fitted
-- in it
pub record HasFitted (C : RuleCalculus) (number : List ℕ → ℕ) (goal : Formula) (bytes : List ℕ) (n : ℕ) : Type 0 where
  pub front : List ℕ
  pub rest : List ℕ
  pub parts : front ++ rest ≡ bytes
  pub read : State
  pub pending : List (LevelledIn C)
  pub shows : course_of C number goal front ≡ going read pending n

-- Some bytes were taken from the front of a source, and they show the answer of a certificate for
-- the goal, by each numbering that agrees with the table of names. Where memory ran out, the ticks
-- are of the steps that have fitted. Of a source that doesn't tell what is left any bytes may have
-- been taken.
pub record IsJudged (C : RuleCalculus) (names : List (List ℕ)) (goal : Formula) (old new : Option (List ℕ)) (before now : ℕ) (answer : Result Verdict VerifyRefusal) : Type 0 where
  pub bytes : List ℕ
  pub taken : TakesFront old bytes new
  pub shown : (number : List ℕ → ℕ) → Agrees number names
      → IsShown (course_of C number goal bytes) (length bytes) new before now answer
  pub fitted : answer ≡ Err OutOfMemory → (number : List ℕ → ℕ) → Agrees number names
      → (n : ℕ) × (HasFitted C number goal bytes n × (now ≡ before + n))

-- a goal that is accepted in so many steps has a spelling of them, and is derivable
abbrev pub IsRight : RuleCalculus → Formula → Verdict → Type 0
IsRight C goal (Accepted n) = HasSpellingIn C goal n × IsDerivable C goal
IsRight C goal (Rejected k) = Unit {0}
