-- How a reader that stands at a state answers a byte.
use Rattle.std.proofs.Common.{◌≡◌, ℕ, Bool, true, false, if◌then◌else◌, ◌||◌, List, [], ◌∷◌, ◌++◌, Some, None, Result, refl, ◌∙◌, subst, nat_eq}
use Rattle.std.specs.List.{starts_with}
use Rattle.std.specs.Str.{bytes_eq}
use Rattle.polarised_formulas.specs.declared.logic.Logic.{Logic}
use Rattle.polarised_formulas.specs.declared.step.Step.{Step}
use Rattle.explicit_form.specs.StepText.{header_word, header_text}
use Rattle.explicit_form.specs.StepReading.{Line, Next, on, whole, last, wrong, next, State, heading, reading, ended, mistaken, stuck, other, next_heading, settle, go}
use Rattle.explicit_form.specs.StepLimits.{byte_fault}
use Rattle.explicit_form.specs.StepLaws.{EndsAt, IsGoing}
use Rattle.explicit_form.proofs.LineEnds.{line_ends}
use Rattle.explicit_form.specs.declared.step_reader.Phase as phase
use Rattle.explicit_form.specs.declared.step_reader.StepFault.{StepFault}
use Rattle.explicit_form.specs.declared.step_reader.StepReader.{StepReader}
use Rattle.explicit_form.specs.Feeding.{IsAt, IsTaken, step_of, step_with, done_of, pushed, is_whole}

-- where a reader stands hangs on its line and phase alone
pub IsAt-same : (logic : Logic) (st : State) (old new : StepReader) → new.phase ≡ old.phase → new.line ≡ old.line → IsAt logic st old → IsAt logic st new
IsAt-same logic (heading w) old new p l h = rw (p, l) h
IsAt-same logic (reading done k) old new p l h = rw (p, l) h
IsAt-same logic (ended done) old new p l h = p ∙ h
IsAt-same logic mistaken old new p l h = absurd h
IsAt-same logic stuck old new p l h = absurd h

module _ (number : List ℕ → ℕ) (logic : Logic) (b : ℕ) (old new : StepReader) (result : Result (Unit {0}) StepFault) where
  -- a byte in the first line
  pub takes-heading : old.phase ≡ phase.TheVariants.Heading
      → ((w : List ℕ) → IsAt logic (heading w) old → old.step ≡ None → IsTaken logic (byte_fault old.at (heading w) (next_heading logic (w ++ b ∷ []))) (next_heading logic (w ++ b ∷ [])) None result new)
      → (st : State) → IsAt logic st old → old.step ≡ None → IsTaken logic (byte_fault old.at st (go number logic st b)) (go number logic st b) (step_with number logic st b) result new
  takes-heading p taken (heading w) h none = taken w h none
  takes-heading p taken (reading done l) h none = let e = h.0 in let no : ⊥ = cc in absurd no
  takes-heading p taken (ended done) h none = let no : ⊥ = cc in absurd no
  takes-heading p taken mistaken h none = absurd h
  takes-heading p taken stuck h none = absurd h

  -- a byte in another line
  pub takes-line : old.phase ≡ phase.TheVariants.Lines
      → ((done : List Step) (l : Line) → IsAt logic (reading done l) old → old.step ≡ None
      → IsTaken logic (byte_fault old.at (reading done l) (settle done (next number logic l b))) (settle done (next number logic l b)) (step_of (next number logic l b)) result new)
      → (st : State) → IsAt logic st old → old.step ≡ None → IsTaken logic (byte_fault old.at st (go number logic st b)) (go number logic st b) (step_with number logic st b) result new
  takes-line p taken (reading done l) h none = taken done l h none
  takes-line p taken (heading w) h none = let e = h.0 in let no : ⊥ = cc in absurd no
  takes-line p taken (ended done) h none = let no : ⊥ = cc in absurd no
  takes-line p taken mistaken h none = absurd h
  takes-line p taken stuck h none = absurd h

-- the first line has no step
done_of-if : (c : Bool) (x y : State) → done_of x ≡ [] → done_of y ≡ [] → done_of (if c then x else y) ≡ []
done_of-if true x y h k = h
done_of-if false x y h k = k

done_of-heading : (logic : Logic) (w : List ℕ) → done_of (next_heading logic w) ≡ []
done_of-heading logic w =
    done_of-if (bytes_eq w (header_text logic)) _ _ refl
    (done_of-if (bytes_eq w (header_word (other logic))) mistaken _ refl
    (done_of-if (starts_with nat_eq (header_text logic) w || starts_with nat_eq (header_word (other logic)) w) (heading w) stuck refl refl))

-- a byte adds the step whose line it ends
pub done_of-going : (number : List ℕ → ℕ) (logic : Logic) (st : State) (b : ℕ) → IsGoing (go number logic st b) → done_of (go number logic st b) ≡ pushed (step_with number logic st b) (done_of st)
done_of-going number logic (heading w) b h = done_of-heading logic (w ++ b ∷ [])
done_of-going number logic (reading done l) b h = by (next number logic l b) h
  where
    by : (n : Next) → IsGoing (settle done n) → done_of (settle done n) ≡ pushed (step_of n) done
    by (on m) k = refl
    by (whole s) k = refl
    by last k = refl
    by wrong k = absurd k
done_of-going number logic (ended done) b h = absurd h
done_of-going number logic mistaken b h = absurd h
done_of-going number logic stuck b h = absurd h

-- a reader stands only where no byte was wrong
IsAt-going : (logic : Logic) (st : State) (r : StepReader) → IsAt logic st r → IsGoing st
IsAt-going logic (heading w) r h = tt
IsAt-going logic (reading done l) r h = tt
IsAt-going logic (ended done) r h = tt
IsAt-going logic mistaken r h = h
IsAt-going logic stuck r h = h

pub done_of-go : (number : List ℕ → ℕ) (logic : Logic) (st : State) (b : ℕ) (r : StepReader) → IsAt logic (go number logic st b) r
    → done_of (go number logic st b) ≡ pushed (step_with number logic st b) (done_of st)
done_of-go number logic st b r h = done_of-going number logic st b (IsAt-going logic (go number logic st b) r h)

-- a byte that ends no line ends that of no step
pub step_with-none : (number : List ℕ → ℕ) (logic : Logic) (st : State) (b : ℕ) → nat_eq b 10 ≡ false → step_with number logic st b ≡ None
step_with-none number logic (heading w) b h = refl
step_with-none number logic (reading done l) b h = by (next number logic l b) (line_ends number logic l b)
  where
    by : (n : Next) → EndsAt b n → step_of n ≡ None
    by (on m) e = refl
    by (whole s) e = let t : nat_eq 10 10 ≡ false = subst (λ c. nat_eq c 10 ≡ false) e h in let no : ⊥ = cc in absurd no
    by last e = refl
    by wrong e = refl
step_with-none number logic (ended done) b h = refl
step_with-none number logic mistaken b h = refl
step_with-none number logic stuck b h = refl

is_whole-if : (c : Bool) (x y : State) → is_whole x ≡ false → is_whole y ≡ false → is_whole (if c then x else y) ≡ false
is_whole-if true x y h k = h
is_whole-if false x y h k = k

-- the first line is not the last one
is_whole-heading : (logic : Logic) (w : List ℕ) → is_whole (next_heading logic w) ≡ false
is_whole-heading logic w =
    is_whole-if (bytes_eq w (header_text logic)) _ _ refl
    (is_whole-if (bytes_eq w (header_word (other logic))) mistaken _ refl
    (is_whole-if (starts_with nat_eq (header_text logic) w || starts_with nat_eq (header_word (other logic)) w) (heading w) stuck refl refl))

-- a byte that ends no line does not end the last one
pub is_whole-none : (number : List ℕ → ℕ) (logic : Logic) (st : State) (b : ℕ) → nat_eq b 10 ≡ false → is_whole (go number logic st b) ≡ false
is_whole-none number logic (heading w) b h = is_whole-heading logic (w ++ b ∷ [])
is_whole-none number logic (reading done l) b h = by (next number logic l b) (line_ends number logic l b)
  where
    by : (n : Next) → EndsAt b n → is_whole (settle done n) ≡ false
    by (on m) e = refl
    by (whole s) e = refl
    by last e = let t : nat_eq 10 10 ≡ false = subst (λ c. nat_eq c 10 ≡ false) e h in let no : ⊥ = cc in absurd no
    by wrong e = refl
is_whole-none number logic (ended done) b h = refl
is_whole-none number logic mistaken b h = refl
is_whole-none number logic stuck b h = refl

-- the line of a step is not the last one
pub is_whole-step : (number : List ℕ → ℕ) (logic : Logic) (st : State) (b : ℕ) (s : Step) → step_with number logic st b ≡ Some s → is_whole (go number logic st b) ≡ false
is_whole-step number logic (heading w) b s h = is_whole-heading logic (w ++ b ∷ [])
is_whole-step number logic (reading done l) b s h = by (next number logic l b) h
  where
    by : (n : Next) → step_of n ≡ Some s → is_whole (settle done n) ≡ false
    by (on m) e = refl
    by (whole t) e = refl
    by last e = cc
    by wrong e = refl
is_whole-step number logic (ended done) b s h = refl
is_whole-step number logic mistaken b s h = refl
is_whole-step number logic stuck b s h = refl
