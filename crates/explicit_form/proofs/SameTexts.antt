-- Steps that are the same by their names have the same text, each by its own table, and their names stand in the tables.
use Rattle.std.proofs.Common.{◌≡◌, ℕ, ◌<◌, List, ◌∷◌, ◌++◌, refl, ap, ap₂}
use Rattle.std.specs.Fmt.{decimal}
use Rattle.fpc_terms.specs.Same.{SameList, same_nil, same_cons}
use Rattle.fpc_terms.proofs.SameTexts.{term_before-same, term_named}
use Rattle.polarised_formulas.specs.declared.logic.Logic.{Logic}
use Rattle.polarised_formulas.specs.declared.step.Step.{Step}
use Rattle.polarised_formulas.specs.declared.step.Step.TheVariants as step
use Rattle.polarised_formulas.specs.Same.{IsNameless, SameStep, same_exists_step, same_left_every, same_right_exists, same_cut, same_nameless}
use Rattle.polarised_formulas.proofs.SameTexts.{formula_before-same, formula_named}
use Rattle.explicit_form.specs.Sizes.{StepNamedBelow, StepsNamedBelow}
use Rattle.explicit_form.specs.StepText.{word_text, step_word, argument_before, lines_before, end_text, header_text, certificate_text}

word-same : {S : ℕ → ℕ → Type 0} {s t : Step} → SameStep S s t → step_word s ≡ step_word t
word-same (same_exists_step h) = refl
word-same (same_left_every h) = refl
word-same (same_right_exists h) = refl
word-same (same_cut h) = refl
word-same (same_nameless s n) = refl

-- related numbers have one text, each by its own numbering
module _ {S : ℕ → ℕ → Type 0} (text other : ℕ → List ℕ) (named : (m n : ℕ) → S m n → text m ≡ other n) (logic : Logic) where
  nameless_before-same : (s : Step) → IsNameless s → {rest more : List ℕ} → rest ≡ more → argument_before text logic s rest ≡ argument_before other logic s more
  nameless_before-same (step.Decide k) n e = ap (λ w. decimal k ++ 10 ∷ w) e
  nameless_before-same (step.Init k) n e = ap (λ w. decimal k ++ 10 ∷ w) e
  nameless_before-same (step.DecideL k) n e = ap (λ w. decimal k ++ 10 ∷ w) e
  nameless_before-same (step.FocRInit k) n e = ap (λ w. decimal k ++ 10 ∷ w) e
  nameless_before-same (step.Exists t) n e = absurd n
  nameless_before-same (step.FocLEvery t) n e = absurd n
  nameless_before-same (step.FocRExists t) n e = absurd n
  nameless_before-same (step.Cut f) n e = absurd n
  nameless_before-same _ n e = e

  argument_before-same : {s t : Step} {rest more : List ℕ} → SameStep S s t → rest ≡ more → argument_before text logic s rest ≡ argument_before other logic t more
  argument_before-same (same_exists_step h) e = term_before-same text other named h (ap (λ w. 10 ∷ w) e)
  argument_before-same (same_left_every h) e = term_before-same text other named h (ap (λ w. 10 ∷ w) e)
  argument_before-same (same_right_exists h) e = term_before-same text other named h (ap (λ w. 10 ∷ w) e)
  argument_before-same (same_cut h) e = formula_before-same text other named logic 0 h (ap (λ w. 10 ∷ w) e)
  argument_before-same (same_nameless s n) e = nameless_before-same s n e

  lines_before-same : {ss ts : List Step} → SameList (SameStep S) ss ts → (rest : List ℕ) → lines_before text logic ss rest ≡ lines_before other logic ts rest
  lines_before-same same_nil rest = refl
  lines_before-same (same_cons h hs) rest = ap₂ (λ x y. word_text x ++ y) (word-same h) (argument_before-same h (lines_before-same hs rest))

  -- the texts of the certificates
  pub certificate_text-same : {ss ts : List Step} → SameList (SameStep S) ss ts → certificate_text text logic ss ≡ certificate_text other logic ts
  certificate_text-same h = ap (λ w. header_text logic ++ w) (lines_before-same h end_text)

-- where what is related to any number is below n
module _ (S : ℕ → ℕ → Type 0) (n : ℕ) (below : (f g : ℕ) → S f g → f < n) where
  nameless-named : (s : Step) → IsNameless s → StepNamedBelow n s
  nameless-named (step.Exists t) h = absurd h
  nameless-named (step.FocLEvery t) h = absurd h
  nameless-named (step.FocRExists t) h = absurd h
  nameless-named (step.Cut f) h = absurd h
  nameless-named _ h = tt

  step-named : {s t : Step} → SameStep S s t → StepNamedBelow n s
  step-named (same_exists_step h) = term_named S n below h
  step-named (same_left_every h) = term_named S n below h
  step-named (same_right_exists h) = term_named S n below h
  step-named (same_cut h) = formula_named S n below h
  step-named (same_nameless s h) = nameless-named s h

  pub steps_named : {ss ts : List Step} → SameList (SameStep S) ss ts → StepsNamedBelow n ss
  steps_named same_nil = tt
  steps_named (same_cons h hs) = (step-named h, steps_named hs)
