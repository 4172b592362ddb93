-- Steps whose names stand in a table, with small numbers and sizes, are plain and keep the limits.
use Rattle.std.proofs.Common.{ℕ, suc, ◌+◌, ◌<◌, ◌≤◌, inl, inr, List, [], length, refl, arith}
use Rattle.std.proofs.lemmas.Option.{slice_get-get_or}
use Rattle.fpc_terms.specs.Arity.{HasFew, AllHaveFew}
use Rattle.fpc_terms.specs.Name.{IsName, AreNames, AreDifferent}
use Rattle.fpc_terms.specs.Printing.{HasNamesBelow, HaveNamesBelow}
use Rattle.fpc_terms.specs.Term.{Term, Args, eigen, bound, variable, app, no_args, arg, Never, InScope}
use Rattle.fpc_terms.specs.Text.{name_in}
use Rattle.polarised_formulas.specs.declared.logic.Logic.{Logic}
use Rattle.polarised_formulas.specs.declared.logic.Logic.TheVariants.{Lkf, Ljf}
use Rattle.polarised_formulas.specs.declared.logic.Side.TheVariants.{Left, Right}
use Rattle.polarised_formulas.specs.declared.step.Step.{Step}
use Rattle.polarised_formulas.specs.declared.step.Step.TheVariants as step
use Rattle.polarised_formulas.specs.Calculus.Low.{IsWithin}
use Rattle.polarised_formulas.specs.Formula.{Formula, truth, falsity, atom, conj, disj, implies, for_all, exists}
use Rattle.polarised_formulas.specs.PlainForm.{HasNineDigits}
use Rattle.polarised_formulas.specs.PlainLimits.{FitsTerm, FitArgs, FitsFormula}
use Rattle.polarised_formulas.specs.PlainTexts.{IsPlainTermIn}
use Rattle.polarised_formulas.specs.PlainPrinting.{IsNamed, IsNamedTerm, AreNamedTerms, IsNamedFormula}
use Rattle.polarised_formulas.specs.Printing.{AllNamesBelow}
use Rattle.polarised_formulas.specs.Size.{depth_of, HasFewArguments, HasFewInStep, IsShallowStep}
use Rattle.polarised_formulas.specs.Step.{IsStepOf}
use Rattle.polarised_formulas.proofs.Leaves.{Each-weaker, EachInside-weaker}
use Rattle.polarised_formulas.proofs.Printing.{term_is_plain, formula_is_plain}
use Rattle.explicit_form.specs.Sizes.{StepNamedBelow}
use Rattle.explicit_form.specs.StepLimits.{FitsStep}
use Rattle.explicit_form.specs.StepTables.{IsPlainStepIn}
use Rattle.explicit_form.specs.StepText.{IsOneOf, words, step_word}

-- a step of a logic has one of the words of the logic
word_of_step : (logic : Logic) (s : Step) → IsStepOf logic s → IsOneOf (step_word s) (words logic)
word_of_step Lkf step.TrueN h = inl refl
word_of_step Lkf step.FalseN h = inr (inl refl)
word_of_step Lkf step.OrN h = inr (inr (inl refl))
word_of_step Lkf step.AndN h = inr (inr (inr (inl refl)))
word_of_step Lkf step.Every h = inr (inr (inr (inr (inl refl))))
word_of_step Lkf step.Store h = inr (inr (inr (inr (inr (inl refl)))))
word_of_step Lkf (step.Decide k) h = inr (inr (inr (inr (inr (inr (inl refl))))))
word_of_step Lkf step.TrueP h = inr (inr (inr (inr (inr (inr (inr (inl refl)))))))
word_of_step Lkf step.AndP h = inr (inr (inr (inr (inr (inr (inr (inr (inl refl))))))))
word_of_step Lkf (step.OrP Left) h = inr (inr (inr (inr (inr (inr (inr (inr (inr (inl refl)))))))))
word_of_step Lkf (step.OrP Right) h = inr (inr (inr (inr (inr (inr (inr (inr (inr (inr (inl refl))))))))))
word_of_step Lkf (step.Exists t) h = inr (inr (inr (inr (inr (inr (inr (inr (inr (inr (inr (inl refl)))))))))))
word_of_step Lkf step.Release h = inr (inr (inr (inr (inr (inr (inr (inr (inr (inr (inr (inr (inl refl))))))))))))
word_of_step Lkf (step.Init k) h = inr (inr (inr (inr (inr (inr (inr (inr (inr (inr (inr (inr (inr (inl refl)))))))))))))
word_of_step Lkf (step.Cut f) h = inr (inr (inr (inr (inr (inr (inr (inr (inr (inr (inr (inr (inr (inr (inl refl))))))))))))))
word_of_step Lkf _ h = absurd h
word_of_step Ljf step.LTrue h = inl refl
word_of_step Ljf step.LFalse h = inr (inl refl)
word_of_step Ljf step.LAnd h = inr (inr (inl refl))
word_of_step Ljf step.LOr h = inr (inr (inr (inl refl)))
word_of_step Ljf step.LExists h = inr (inr (inr (inr (inl refl))))
word_of_step Ljf step.LStore h = inr (inr (inr (inr (inr (inl refl)))))
word_of_step Ljf step.RTrue h = inr (inr (inr (inr (inr (inr (inl refl))))))
word_of_step Ljf step.RAnd h = inr (inr (inr (inr (inr (inr (inr (inl refl)))))))
word_of_step Ljf step.RImp h = inr (inr (inr (inr (inr (inr (inr (inr (inl refl))))))))
word_of_step Ljf step.REvery h = inr (inr (inr (inr (inr (inr (inr (inr (inr (inl refl)))))))))
word_of_step Ljf step.RStore h = inr (inr (inr (inr (inr (inr (inr (inr (inr (inr (inl refl))))))))))
word_of_step Ljf (step.DecideL k) h = inr (inr (inr (inr (inr (inr (inr (inr (inr (inr (inr (inl refl)))))))))))
word_of_step Ljf step.DecideR h = inr (inr (inr (inr (inr (inr (inr (inr (inr (inr (inr (inr (inl refl))))))))))))
word_of_step Ljf (step.FocLAnd Left) h = inr (inr (inr (inr (inr (inr (inr (inr (inr (inr (inr (inr (inr (inl refl)))))))))))))
word_of_step Ljf (step.FocLAnd Right) h = inr (inr (inr (inr (inr (inr (inr (inr (inr (inr (inr (inr (inr (inr (inl refl))))))))))))))
word_of_step Ljf step.FocLImp h = inr (inr (inr (inr (inr (inr (inr (inr (inr (inr (inr (inr (inr (inr (inr (inl refl)))))))))))))))
word_of_step Ljf (step.FocLEvery t) h = inr (inr (inr (inr (inr (inr (inr (inr (inr (inr (inr (inr (inr (inr (inr (inr (inl refl))))))))))))))))
word_of_step Ljf step.FocLInit h = inr (inr (inr (inr (inr (inr (inr (inr (inr (inr (inr (inr (inr (inr (inr (inr (inr (inl refl)))))))))))))))))
word_of_step Ljf step.FocLRelease h = inr (inr (inr (inr (inr (inr (inr (inr (inr (inr (inr (inr (inr (inr (inr (inr (inr (inr (inl refl))))))))))))))))))
word_of_step Ljf step.FocRTrue h = inr (inr (inr (inr (inr (inr (inr (inr (inr (inr (inr (inr (inr (inr (inr (inr (inr (inr (inr (inl refl)))))))))))))))))))
word_of_step Ljf step.FocRAnd h = inr (inr (inr (inr (inr (inr (inr (inr (inr (inr (inr (inr (inr (inr (inr (inr (inr (inr (inr (inr (inl refl))))))))))))))))))))
word_of_step Ljf (step.FocROr Left) h = inr (inr (inr (inr (inr (inr (inr (inr (inr (inr (inr (inr (inr (inr (inr (inr (inr (inr (inr (inr (inr (inl refl)))))))))))))))))))))
word_of_step Ljf (step.FocROr Right) h = inr (inr (inr (inr (inr (inr (inr (inr (inr (inr (inr (inr (inr (inr (inr (inr (inr (inr (inr (inr (inr (inr (inl refl))))))))))))))))))))))
word_of_step Ljf (step.FocRExists t) h = inr (inr (inr (inr (inr (inr (inr (inr (inr (inr (inr (inr (inr (inr (inr (inr (inr (inr (inr (inr (inr (inr (inr (inl refl)))))))))))))))))))))))
word_of_step Ljf (step.FocRInit k) h = inr (inr (inr (inr (inr (inr (inr (inr (inr (inr (inr (inr (inr (inr (inr (inr (inr (inr (inr (inr (inr (inr (inr (inr (inl refl))))))))))))))))))))))))
word_of_step Ljf step.FocRRelease h = inr (inr (inr (inr (inr (inr (inr (inr (inr (inr (inr (inr (inr (inr (inr (inr (inr (inr (inr (inr (inr (inr (inr (inr (inr (inl refl)))))))))))))))))))))))))
word_of_step Ljf (step.Cut f) h = inr (inr (inr (inr (inr (inr (inr (inr (inr (inr (inr (inr (inr (inr (inr (inr (inr (inr (inr (inr (inr (inr (inr (inr (inr (inr (inl refl))))))))))))))))))))))))))
word_of_step Ljf _ h = absurd h

module _ (names : List (List ℕ)) (proper : AreNames names) where
  name-is : (f : ℕ) → f < length names → IsName (name_in names f)
  name-is f l = proper f (name_in names f) (slice_get-get_or names f [] l)

  is-named : (f : ℕ) → f < length names → IsNamed names f
  is-named f l = let n = name-is f l in (l, n.0, n.1)

  mutual
    named-term : (t : Term) → HasNamesBelow (length names) t → IsNamedTerm names t
    named-term (eigen k) h = tt
    named-term (bound k) h = tt
    named-term (variable v) h = tt
    named-term (app f ts) h = (is-named f h.0, named-args ts h.1)

    named-args : (ts : Args) → HaveNamesBelow (length names) ts → AreNamedTerms names ts
    named-args no_args h = tt
    named-args (arg t ts) h = (named-term t h.0, named-args ts h.1)

  named-formula : (f : Formula) → AllNamesBelow (length names) f → IsNamedFormula names f
  named-formula (truth p) h = tt
  named-formula (falsity p) h = tt
  named-formula (atom positive f ts) h = (is-named f h.0, named-args ts h.1)
  named-formula (conj p a b) h = (named-formula a h.0, named-formula b h.1)
  named-formula (disj p a b) h = (named-formula a h.0, named-formula b h.1)
  named-formula (implies a b) h = (named-formula a h.0, named-formula b h.1)
  named-formula (for_all a) h = named-formula a h
  named-formula (exists a) h = named-formula a h

  mutual
    fits-term : (t : Term) → HasNamesBelow (length names) t → HasFew t → FitsTerm (name_in names) t
    fits-term (eigen k) h few = tt
    fits-term (bound k) h few = tt
    fits-term (variable v) h few = tt
    fits-term (app f ts) h few = let n = name-is f h.0 in (n.2, few.0, fits-args ts h.1 few.1)

    fits-args : (ts : Args) → HaveNamesBelow (length names) ts → AllHaveFew ts → FitArgs (name_in names) ts
    fits-args no_args h few = tt
    fits-args (arg t ts) h few = (fits-term t h.0 few.0, fits-args ts h.1 few.1)

  -- inside n formulas
  fits-formula : (f : Formula) (n : ℕ) → n + depth_of f ≤ 10000 → AllNamesBelow (length names) f → HasFewArguments f → FitsFormula (name_in names) n f
  fits-formula (truth p) n l h few = omega arith
  fits-formula (falsity p) n l h few = omega arith
  fits-formula (atom positive f ts) n l h few = let k = name-is f h.0 in (omega arith, k.2, few.0, fits-args ts h.1 few.1)
  fits-formula (conj p a b) n l h few = (omega arith, fits-formula a (suc n) (omega arith) h.0 few.0, fits-formula b (suc n) (omega arith) h.1 few.1)
  fits-formula (disj p a b) n l h few = (omega arith, fits-formula a (suc n) (omega arith) h.0 few.0, fits-formula b (suc n) (omega arith) h.1 few.1)
  fits-formula (implies a b) n l h few = (omega arith, fits-formula a (suc n) (omega arith) h.0 few.0, fits-formula b (suc n) (omega arith) h.1 few.1)
  fits-formula (for_all a) n l h few = (omega arith, fits-formula a (suc n) (omega arith) h few)
  fits-formula (exists a) n l h few = (omega arith, fits-formula a (suc n) (omega arith) h few)

  module _ (differ : AreDifferent names) (m : ℕ) (low : m ≤ 1000000000) (logic : Logic) where
    below : (j : ℕ) → j < m → HasNineDigits j
    below j l = omega arith

    -- the term of a step is plain, and keeps the limits
    plain-term : (t : Term) → InScope m t → HasNamesBelow (length names) t → HasFew t → IsPlainTermIn names t × FitsTerm (name_in names) t
    plain-term t w h few = ((term_is_plain names differ t).1 (Each-weaker (λ j. j < m) HasNineDigits Never Never Never below (λ k x. x) t w, named-term t h), fits-term t h few)

    small-named : (s : Step) → IsOneOf (step_word s) (words logic) → IsWithin m logic s → StepNamedBelow (length names) s → HasFewInStep s → IsShallowStep s
        → IsPlainStepIn names logic s × FitsStep (name_in names) s
    small-named (step.Decide k) one w h few d = ((one, below k w), tt)
    small-named (step.Init k) one w h few d = ((one, below k w), tt)
    small-named (step.DecideL k) one w h few d = ((one, below k w), tt)
    small-named (step.FocRInit k) one w h few d = ((one, below k w), tt)
    small-named (step.Exists t) one w h few d = let p = plain-term t w h few in ((one, p.0), p.1)
    small-named (step.FocLEvery t) one w h few d = let p = plain-term t w h few in ((one, p.0), p.1)
    small-named (step.FocRExists t) one w h few d = let p = plain-term t w h few in ((one, p.0), p.1)
    small-named (step.Cut f) one w h few d =
        let fits = fits-formula f 0 (omega arith) h few in
        ((one, (formula_is_plain names differ logic f fits).1 (EachInside-weaker (λ j. j < m) HasNineDigits below 0 f w.0, w.1, named-formula f h)), fits)
    small-named _ one w h few d = ((one, tt), tt)

    -- a step of the logic that is small, and whose numbers are small, is plain and keeps the limits
    pub small-step : (s : Step) → IsStepOf logic s → IsWithin m logic s → StepNamedBelow (length names) s → HasFewInStep s → IsShallowStep s
        → IsPlainStepIn names logic s × FitsStep (name_in names) s
    small-step s one w h few d = small-named s (word_of_step logic s one) w h few d
