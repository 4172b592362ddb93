-- The text of a certificate line by line.
use Rattle.std.proofs.Common.{◌≡◌, ℕ, List, [], ◌∷◌, ◌++◌, decimal, refl, sym, ap, ◌∙◌, append_assoc}
use Rattle.fpc_terms.specs.Term.{Term}
use Rattle.polarised_formulas.specs.Formula.{Formula}
use Rattle.fpc_terms.specs.Text.{name_in, term_text}
use Rattle.polarised_formulas.specs.declared.logic.Logic.{Logic}
use Rattle.polarised_formulas.specs.declared.step.Step.{Step}
use Rattle.polarised_formulas.specs.declared.step.Step.TheVariants as step
use Rattle.polarised_formulas.specs.Text.{plain_text}
use Rattle.polarised_formulas.specs.PlainForm.{plain_term, plain_formula}
use Rattle.polarised_formulas.proofs.Joins.{plain_term-append, plain_formula-append}
use Rattle.explicit_form.specs.StepText.{word_text, step_word, argument_before, line_before}

module _ (text : ℕ → List ℕ) (logic : Logic) where
  argument-behind : (s : Step) (rest : List ℕ) → argument_before text logic s [] ++ rest ≡ argument_before text logic s rest
  argument-behind (step.Decide k) rest = append_assoc (decimal k) (10 ∷ []) rest
  argument-behind (step.Init k) rest = append_assoc (decimal k) (10 ∷ []) rest
  argument-behind (step.DecideL k) rest = append_assoc (decimal k) (10 ∷ []) rest
  argument-behind (step.FocRInit k) rest = append_assoc (decimal k) (10 ∷ []) rest
  argument-behind (step.Exists t) rest = sym (plain_term-append text rest t (10 ∷ []))
  argument-behind (step.FocLEvery t) rest = sym (plain_term-append text rest t (10 ∷ []))
  argument-behind (step.FocRExists t) rest = sym (plain_term-append text rest t (10 ∷ []))
  argument-behind (step.Cut f) rest = sym (plain_formula-append text rest logic 0 f (10 ∷ []))
  argument-behind _ rest = refl

  pub line-behind : (s : Step) (rest : List ℕ) → line_before text logic s [] ++ rest ≡ line_before text logic s rest
  line-behind s rest = append_assoc (word_text (step_word s)) (argument_before text logic s []) rest ∙ ap (λ v. word_text (step_word s) ++ v) (argument-behind s rest)

-- a term, and then the end of its line
pub written-term : (names : List (List ℕ)) (t : Term) (old mid new : List ℕ) → mid ≡ old ++ term_text names t → new ≡ mid ++ 10 ∷ [] → new ≡ old ++ plain_term (name_in names) t (10 ∷ [])
written-term names t old mid new e f = f ∙ ap (λ v. v ++ 10 ∷ []) e ∙ append_assoc old (term_text names t) (10 ∷ []) ∙ ap (λ v. old ++ v) (sym (plain_term-append (name_in names) (10 ∷ []) t []))

pub written-formula : (names : List (List ℕ)) (logic : Logic) (f : Formula) (old mid new : List ℕ) → mid ≡ old ++ plain_text names logic f → new ≡ mid ++ 10 ∷ [] → new ≡ old ++ plain_formula (name_in names) logic 0 f (10 ∷ [])
written-formula names logic f old mid new e g = g ∙ ap (λ v. v ++ 10 ∷ []) e ∙ append_assoc old (plain_text names logic f) (10 ∷ []) ∙ ap (λ v. old ++ v) (sym (plain_formula-append (name_in names) (10 ∷ []) logic 0 f []))

-- one line more is written
pub step-written : (text : ℕ → List ℕ) (logic : Logic) (s : Step) (old new rest whole : List ℕ) → new ≡ old ++ line_before text logic s [] → old ++ line_before text logic s rest ≡ whole → new ++ rest ≡ whole
step-written text logic s old new rest whole e f = ap (λ v. v ++ rest) e ∙ append_assoc old (line_before text logic s []) rest ∙ ap (λ v. old ++ v) (line-behind text logic s rest) ∙ f

pub ruleset print_facts = (step-written, line-behind, append_assoc, written-term, written-formula)
