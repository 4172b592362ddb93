-- The words of a logic, and the steps that they begin.
use Rattle.std.proofs.Common.{◌≡◌, ℕ, inl, inr, List, [], ◌∷◌, ◌++◌, decimal, refl, sym, subst}
use Rattle.polarised_formulas.specs.declared.logic.Logic.{Logic}
use Rattle.polarised_formulas.proofs.Lookups.{EachOf}
use Rattle.explicit_form.specs.declared.word.Bare.{Bare}
use Rattle.explicit_form.specs.declared.word.Bare.TheVariants as bare
use Rattle.explicit_form.specs.declared.word.Placed.{Placed}
use Rattle.explicit_form.specs.declared.word.Placed.TheVariants as placed
use Rattle.explicit_form.specs.declared.word.Word.{Word}
use Rattle.explicit_form.specs.declared.word.Word.TheVariants as word
use Rattle.explicit_form.specs.StepText.{placed_text, word_text, words, line_before, IsOneOf, IsPlainStep}
use Rattle.explicit_form.specs.StepReading.{bare_step, placed_step}

each-weaker : (P Q : Word → Type 0) → ((x : Word) → P x → Q x) → (xs : List Word) → EachOf P xs → EachOf Q xs
each-weaker P Q weaker [] all = tt
each-weaker P Q weaker (x ∷ xs) all = (weaker x all.0, each-weaker P Q weaker xs all.1)

each_in : (xs : List Word) → EachOf (λ x. IsOneOf x xs) xs
each_in [] = tt
each_in (y ∷ ys) = (inl refl, each-weaker (λ x. IsOneOf x ys) (λ x. IsOneOf x (y ∷ ys)) (λ x h. inr h) ys (each_in ys))

pub all_words : (logic : Logic) → EachOf (λ x. IsOneOf x (words logic)) (words logic)
all_words logic = each_in (words logic)

-- what holds of each holds of one
pub IsOneOf-each : (P : Word → Type 0) (xs : List Word) → EachOf P xs → (x : Word) → IsOneOf x xs → P x
IsOneOf-each P [] all x h = absurd h
IsOneOf-each P (y ∷ ys) all x (inl e) = subst P (sym e) all.0
IsOneOf-each P (y ∷ ys) all x (inr h) = IsOneOf-each P ys all.1 x h

module _ (text : ℕ → List ℕ) (logic : Logic) where
  pub bare_line : (b : Bare) (rest : List ℕ) → line_before text logic (bare_step b) rest ≡ word_text (word.Bare b) ++ rest
  bare_line bare.TrueN rest = refl
  bare_line _ rest = refl

  pub placed_line : (p : Placed) (k : ℕ) (rest : List ℕ) → line_before text logic (placed_step p k) rest ≡ placed_text p ++ (decimal k ++ 10 ∷ rest)
  placed_line placed.Decide k rest = refl
  placed_line placed.Init k rest = refl
  placed_line placed.DecideL k rest = refl
  placed_line placed.FocRInit k rest = refl

  pub bare_plain : (number : List ℕ → ℕ) (b : Bare) → IsOneOf (word.Bare b) (words logic) → IsPlainStep text number logic (bare_step b)
  bare_plain number bare.TrueN h = (h, tt)
  bare_plain number _ h = (h, tt)
