-- The judgment of an explicit certificate in any calculus, byte by byte: what its bytes show first.
use Rattle.std.specs.Prelude.{ℕ, suc, if◌then◌else◌, List, [], ◌∷◌, ◌++◌, length, Option, Some, None}
use Rattle.fpc_base.specs.declared.refusal.Code.TheVariants.{Unexpected}
use Rattle.fpc_base.specs.declared.refusal.Refusal.{Refusal}
use Rattle.polarised_formulas.specs.declared.step.Step.{Step}
use Rattle.polarised_formulas.specs.Formula.{Formula}
use Rattle.polarised_formulas.specs.Calculus.Rules.{RuleCalculus, LevelledIn}
use Rattle.polarised_formulas.specs.Calculus.Play.{start_of}
use Rattle.explicit_form.specs.StepReading.{State, start, go}
use Rattle.explicit_form.specs.StepLimits.{fault}
use Rattle.explicit_form.specs.Feeding.{step_with, is_whole}

-- what a certificate comes to
pub data Judgment : Type 0 where
  -- so many steps spell a derivation of the goal
  accepted : (steps : ℕ) → Judgment
  -- the step with this number, counted from 1, does not fit, is missing or is one too many; its
  -- line ends at this place
  rejected : (step place : ℕ) → Judgment
  -- the bytes are refused, and so many steps have fitted before
  refused : Refusal → (fitted : ℕ) → Judgment

-- how far the judgment has come, with sequents of S
pub data Course (S : Type 0) : Type 0 where
  -- Nothing is shown yet: what was read, the sequents still to be derived, each with its level, and
  -- how many steps have fitted.
  going : State → (pending : List (ℕ × S)) → (fitted : ℕ) → Course S
  judged : Judgment → Course S

module _ {S : Type 0} where
  -- the premises in front of the other sequents
  abbrev pub in_front : Option (List (ℕ × S)) → List (ℕ × S) → Option (List (ℕ × S))
  in_front None q = None
  in_front (Some ps) q = Some (ps ++ q)

  -- where the last line is read, no sequent may be left
  abbrev pub closing : ℕ → State → List (ℕ × S) → ℕ → Course S
  closing place st [] n = going st [] n
  closing place st (p ∷ q) n =
      if is_whole st then judged (rejected (suc n) place) else going st (p ∷ q) n

  -- a step that fits is counted
  abbrev pub playing : ℕ → State → Option (List (ℕ × S)) → ℕ → Course S
  playing place st None n = judged (rejected (suc n) place)
  playing place st (Some q) n = closing place st q (suc n)

  -- at the end of the bytes the last line must have come
  abbrev pub at_end : ℕ → Course S → Judgment
  at_end place (going st q n) =
      if is_whole st then accepted n else refused (record { code = Unexpected; at = place }) n
  at_end place (judged j) = j

module _ (C : RuleCalculus) where
  -- The step replaces the next sequent by the premises of the rule that it names there. Where it
  -- names none, or no sequent is left, it does not fit.
  abbrev pub played : Step → List (LevelledIn C) → Option (List (LevelledIn C))
  played step [] = None
  played step ((n, c) ∷ q) = in_front (C.premises_of step n c) q

  -- a byte at a place that leads to a state, with the step whose line it ends, if any
  abbrev pub fitting : ℕ → State → Option Step → List (LevelledIn C) → ℕ → Course C.SequentOf
  fitting place st None q n = closing place st q n
  fitting place st (Some step) q n = playing place st (played step q) n

  -- the same, where a refusal may be reported of the byte
  abbrev pub judging : Option Refusal → ℕ → State → Option Step → List (LevelledIn C) → ℕ → Course C.SequentOf
  judging None place st step q n = fitting place st step q n
  judging (Some r) place st step q n = judged (refused r n)

  -- a byte at a place
  abbrev pub advance : (List ℕ → ℕ) → ℕ → Course C.SequentOf → ℕ → Course C.SequentOf
  advance number place (going st q n) b =
      let next = go number C.logic st b in
      judging (fault place st next) place next (step_with number C.logic st b) q n
  advance number place (judged j) b = judged j

  -- bytes, the first of them at a place
  abbrev pub course : (List ℕ → ℕ) → ℕ → Course C.SequentOf → List ℕ → Course C.SequentOf
  course number place c [] = c
  course number place c (b ∷ bs) = course number (suc place) (advance number place c b) bs

  -- nothing is read, and the goal's root sequent is to be derived
  abbrev pub begin : Formula → Course C.SequentOf
  begin goal = going start (start_of C goal) 0

  -- what the bytes of a certificate for the goal have shown
  abbrev pub course_of : (List ℕ → ℕ) → Formula → List ℕ → Course C.SequentOf
  course_of number goal bytes = course number 0 (begin goal) bytes

  -- the judgment of a whole certificate for the goal
  abbrev pub judgment : (List ℕ → ℕ) → Formula → List ℕ → Judgment
  judgment number goal bytes = at_end (length bytes) (course_of number goal bytes)
