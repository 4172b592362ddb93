-- Steps that spell a derivation are accepted from their own text.
use Rattle.std.proofs.Common.{◌≡◌, ℕ, suc, ◌+◌, ◌≤◌, List, [], ◌∷◌, ◌++◌, length, length-append, refl, sym, arith}
use Rattle.std.specs.List.{All, AllByRecursion}
use Rattle.std.proofs.lemmas.List.Elements.{All-head, All-tail}
use Rattle.fpc_terms.specs.Name.{AreNames, AreDifferent}
use Rattle.fpc_terms.specs.Text.{name_in}
use Rattle.polarised_formulas.specs.declared.logic.Logic.{Logic}
use Rattle.polarised_formulas.specs.declared.step.Step.{Step}
use Rattle.polarised_formulas.specs.Calculus.Lawful.{IsLawful}
use Rattle.polarised_formulas.specs.Calculus.Low.{HasLowSteps}
use Rattle.polarised_formulas.specs.Calculus.Play.{plays, Plays, plays_none, plays_more, start_of}
use Rattle.polarised_formulas.specs.Calculus.Rules.{RuleCalculus, LevelledIn}
use Rattle.polarised_formulas.specs.Numbering.{number_in}
use Rattle.polarised_formulas.specs.Size.{HasFewInStep, IsShallowStep}
use Rattle.polarised_formulas.proofs.Calculus.Spelling.{PlaysOut-spelling}
use Rattle.polarised_formulas.proofs.Elements.{AllByRecursion-append, AllByRecursion-weaker}
use Rattle.explicit_form.specs.declared.word.Word.{Word}
use Rattle.explicit_form.specs.declared.word.Word.TheVariants as word
use Rattle.explicit_form.specs.declared.word.Placed.TheVariants as placed
use Rattle.explicit_form.specs.declared.word.Written.TheVariants as written
use Rattle.explicit_form.specs.Sizes.{StepsNamedBelow, steps_size}
use Rattle.explicit_form.specs.StepLimits.{FitSteps}
use Rattle.explicit_form.specs.StepText.{word_text, bare_text, step_word, ArePlainSteps, certificate_text}
use Rattle.explicit_form.proofs.Outcomes.{certificate_outcome}
use Rattle.explicit_form.proofs.SizeFacts.{length-certificate}
use Rattle.explicit_form.proofs.SmallSteps.{small-step}
use Rattle.explicit_form.proofs.Tables.{steps_outcome}
use Rattle.explicit_kernel.specs.OwnText.{OwnTextIsAccepted}
use Rattle.explicit_kernel.proofs.JudgmentLaws.{accepted_is_spelled}

-- each word has a byte
word-long : (w : Word) → 1 ≤ length (word_text w)
word-long (word.Bare b) = omega (arith, length-append (bare_text b) (10 ∷ []))
word-long (word.Placed placed.Decide) = omega arith
word-long (word.Placed placed.Init) = omega arith
word-long (word.Placed placed.DecideL) = omega arith
word-long (word.Placed placed.FocRInit) = omega arith
word-long (word.Written written.Exists) = omega arith
word-long (word.Written written.FocLEvery) = omega arith
word-long (word.Written written.FocRExists) = omega arith
word-long (word.Written written.Cut) = omega arith
word-long word.End = omega arith

steps-long : (text : ℕ → List ℕ) (logic : Logic) (steps : List Step) → length steps ≤ steps_size text logic steps
steps-long text logic [] = omega arith
steps-long text logic (x ∷ xs) = let a = word-long (step_word x) in let b = steps-long text logic xs in omega arith

-- a text has more bytes than steps
text-long : (text : ℕ → List ℕ) (logic : Logic) (steps : List Step) → length steps ≤ length (certificate_text text logic steps)
text-long text logic steps = let a = length-certificate text logic steps in let b = steps-long text logic steps in omega arith

module _ (C : RuleCalculus) (low : HasLowSteps C) where
  -- the level and the number of stored formulas are at most m
  abbrev IsLow : ℕ → LevelledIn C → Type 0
  IsLow m p = (p.0 ≤ m) × (low.stored_in p.1 ≤ m)

  low-later : (m : ℕ) (q : List (LevelledIn C)) → AllByRecursion (IsLow m) q → AllByRecursion (IsLow (suc m)) q
  low-later m q h = AllByRecursion-weaker (IsLow m) (IsLow (suc m)) (λ p l. let a = l.0 in let b = l.1 in (omega arith, omega arith)) q h

  module _ (names : List (List ℕ)) (proper : AreNames names) (differ : AreDifferent names) where
    -- steps that are played behind m others, to at most 1,000,000,000 in all, are plain and keep the limits
    plain-steps : (m : ℕ) (q r : List (LevelledIn C)) (steps : List Step) → Plays C q steps r → AllByRecursion (IsLow m) q → m + length steps ≤ 1000000000
        → StepsNamedBelow (length names) steps → All HasFewInStep steps → All IsShallowStep steps
        → ArePlainSteps (name_in names) (number_in (length names) names) C.logic steps × FitSteps (name_in names) steps
    plain-steps m _ _ _ plays_none h l named few shallow = (tt, tt)
    plain-steps m _ r _ (plays_more {step = x} {steps = xs} (plays {n} {c} {ps = ps} {q = q} fits) more) h l named few shallow =
        let g = low.step_is_low m x n c ps h.0.0 h.0.1 fits in
        let one = small-step names proper differ m (omega arith) C.logic x g.0 g.1 named.0 (All-head HasFewInStep x xs few) (All-head IsShallowStep x xs shallow) in
        let rest = plain-steps (suc m) (ps ++ q) r xs more (AllByRecursion-append (IsLow (suc m)) ps q g.2 (low-later m q h.1)) (omega arith) named.1 (All-tail HasFewInStep x xs few) (All-tail IsShallowStep x xs shallow) in
        ((one.0, rest.0), (one.1, rest.1))

  pub own_text_is_accepted : IsLawful C → OwnTextIsAccepted C
  own_text_is_accepted lawful names goal steps bytes h number is =
      let long : length steps ≤ length bytes = rw h.text (text-long (name_in names) C.logic steps) in
      let short = h.short in
      let start : low.stored_in (C.root_of goal) ≡ 0 = low.root_is_low goal in
      let plain = plain-steps names h.proper h.different 0 (start_of C goal) [] steps (PlaysOut-spelling C lawful goal steps h.spelling) ((omega arith, omega (arith, start)), tt) (omega arith) h.named h.few h.shallow in
      let read = (steps_outcome names h.different C.logic bytes steps).1 ((plain.0, sym h.text), plain.1, short) number is in
      let text = is.1.0 in
      let back = is.1.1 in
      let c = (certificate_outcome text number back C.logic bytes steps).0 read in
      (accepted_is_spelled C lawful text number back goal h.closed bytes (length steps)).1 (record {
        steps = steps;
        is_text = c.0;
        keeps_limits = c.1;
        small = c.2;
        spelling = h.spelling;
        count = refl;
      })
