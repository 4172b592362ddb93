-- The limits let the machine of formulas pass the tokens of a formula exactly where it is nested at most 10,000 deep and each name has at
-- most 255 arguments.
use Rattle.std.proofs.Common.{◌≡◌, ℕ, suc, ◌+◌, ◌<◌, ◌≤◌, Bool, true, false, if◌then◌else◌, nat_eq, List, [], ◌∷◌, length, refl, ap, sym, subst, arith}
use Rattle.std.proofs.lemmas.Bool.Decides.{nat_tests}
use Rattle.fpc_base.specs.declared.tokens.lexeme.Sign.TheVariants as sign
use Rattle.fpc_base.specs.Lexeme.{Lexeme, a_name, a_variable, a_sign}
use Rattle.fpc_terms.specs.Written.{WrittenTerm, WrittenArgs, variable_word, application, no_words, words, term_tokens, args_tokens, more_tokens, IsKnown, AreKnown}
use Rattle.fpc_terms.specs.Spot.{Spot, in_arguments, in_term}
use Rattle.fpc_terms.specs.Machine as term
use Rattle.fpc_terms.proofs.TermLaws.{IsBehind, more-behind}
use Rattle.polarised_formulas.specs.declared.logic.Logic.{Logic}
use Rattle.polarised_formulas.specs.declared.logic.Logic.TheVariants.{Lkf, Ljf}
use Rattle.polarised_formulas.specs.declared.logic.Polarity.{Polarity}
use Rattle.polarised_formulas.specs.declared.logic.Polarity.TheVariants.{Positive, Negative}
use Rattle.polarised_formulas.specs.declared.connective.Joiner.{Joiner}
use Rattle.polarised_formulas.specs.declared.connective.Binder.{Binder}
use Rattle.polarised_formulas.specs.declared.connective.Binder.TheVariants.{ForAll, Exists}
use Rattle.polarised_formulas.specs.Written.{WrittenFormula, true_unit, false_unit, literal, pair, bind, formula_tokens, mark_tokens, joiner_sign, binder_sign, IsJoinerOf, IsFalseOf, IsBound, IsWrittenIn, is_known}
use Rattle.polarised_formulas.specs.Place.{Place, in_first, in_second, under, scope_at, nesting}
use Rattle.polarised_formulas.specs.Machine.{FormulaState, wants, named, in_atom, has, joined, joiner_of, within_atom, step, is_deep, is_full}
use Rattle.polarised_formulas.proofs.Complete.{joiner_of-joiner_sign, joiner-behind}
use Rattle.polarised_formulas.proofs.Small.{written_depth, words_count, IsSmall, AreSmall, HasSmall}

not-equal : (a b : ℕ) → (a ≡ b → ⊥) → nat_eq a b ≡ false
not-equal a b h = grind (arith, nat_tests)

pub less-than : (a b : ℕ) → nat_eq a b ≡ false → a ≤ b → a < b
less-than a b h le = grind (arith, nat_tests)

module _ (logic : Logic) (parameters : List (List ℕ)) where
  -- no limit forbids any of the tokens from the state on
  abbrev pub Fits : FormulaState → List Lexeme → Type 0
  Fits s [] = Unit {0}
  Fits s (c ∷ cs) = (is_deep s ≡ false) × (is_full (step logic parameters s c) ≡ false) × Fits (step logic parameters s c) cs

  -- within the arguments of an atom
  module _ (positive : Bool) (x : List ℕ) (p : Place) where
    abbrev FitsIn : term.TermState → List Lexeme → Type 0
    FitsIn t cs = Fits (in_atom positive x t p) cs

    abbrev known_here : List ℕ → Bool
    known_here = is_known parameters (scope_at p)

    fits-name : (y : List ℕ) (s : Spot) (rest : List Lexeme) → IsBehind rest → FitsIn (term.has (application y no_words) s) rest → FitsIn (term.named y s) rest
    fits-name y s [] b h = absurd b
    fits-name y s (a_sign sign.OpenParenthesis ∷ rest) b h = absurd b
    fits-name y s (c ∷ rest) b h = h

    fits-variable : (y : List ℕ) (s : Spot) (rest : List Lexeme) → known_here y ≡ true → FitsIn (term.has (variable_word y) s) rest
        → FitsIn (term.wants s) (a_variable y ∷ rest)
    fits-variable y s rest k h =
        let F : Bool → Type 0 = λ v.
        (is_full (within_atom positive x p (if v then term.has (variable_word y) s else term.stuck)) ≡ false)
        × Fits (within_atom positive x p (if v then term.has (variable_word y) s else term.stuck)) rest in
        let g : F (known_here y) = subst F (sym k) (refl, h) in
        (refl, g.0, g.1)

    mutual
      fits-term : (u : WrittenTerm) (s : Spot) (rest : List Lexeme) → IsKnown known_here u → IsBehind rest → IsSmall u → FitsIn (term.has u s) rest
          → FitsIn (term.wants s) (term_tokens u rest)
      fits-term (variable_word y) s rest k b small h = fits-variable y s rest k h
      fits-term (application y no_words) s rest k b small h = (refl, refl, fits-name y s rest b h)
      fits-term (application y (words t ts)) s rest k b small h = (
        refl,
        refl,
        (
          refl,
          refl,
          fits-term t (in_term y [] s) (more_tokens ts rest) k.0 (more-behind ts rest) small.1.0 (fits-more y [] t ts s rest k.1 small.1.1 (omega (arith, small.0)) h),
        ),
      )

      fits-more : (y : List ℕ) (ds : List WrittenTerm) (u : WrittenTerm) (ts : WrittenArgs) (s : Spot) (rest : List Lexeme) → AreKnown known_here ts → AreSmall ts
          → suc (length ds) + words_count ts ≤ 255 → FitsIn (term.has (application y (term.args_with ds (words u ts))) s) rest
          → FitsIn (term.has u (in_term y ds s)) (more_tokens ts rest)
      fits-more y ds u no_words s rest k small le h = (refl, refl, h)
      fits-more y ds u (words t ts) s rest k small le h = (
        refl,
        not-equal (suc (length ds)) 255 (λ e. omega (arith, le, e)),
        fits-term t (in_term y (u ∷ ds) s) (more_tokens ts rest) k.0 (more-behind ts rest) small.0
            (fits-more y (u ∷ ds) t ts s rest k.1 small.1 (omega (arith, le)) h),
      )

    fits-more_arguments : (ds : List WrittenTerm) (u : WrittenTerm) (ts : WrittenArgs) (rest : List Lexeme) → AreKnown known_here ts → AreSmall ts
        → suc (length ds) + words_count ts ≤ 255 → Fits (has (literal positive x (term.args_with ds (words u ts))) p) rest
        → FitsIn (term.has u (in_arguments ds)) (more_tokens ts rest)
    fits-more_arguments ds u no_words rest k small le h = (refl, refl, h)
    fits-more_arguments ds u (words t ts) rest k small le h = (
      refl,
      not-equal (suc (length ds)) 255 (λ e. omega (arith, le, e)),
      fits-term t (in_arguments (u ∷ ds)) (more_tokens ts rest) k.0 (more-behind ts rest) small.0
          (fits-more_arguments (u ∷ ds) t ts rest k.1 small.1 (omega (arith, le)) h),
    )

    fits-no_arguments : (rest : List Lexeme) → IsBehind rest → Fits (has (literal positive x no_words) p) rest → Fits (named positive x p) rest
    fits-no_arguments [] b h = absurd b
    fits-no_arguments (a_sign sign.OpenParenthesis ∷ rest) b h = absurd b
    fits-no_arguments (c ∷ rest) b h = h

    fits-named : (ts : WrittenArgs) (rest : List Lexeme) → AreKnown known_here ts → IsBehind rest → (words_count ts ≤ 255) → AreSmall ts
        → Fits (has (literal positive x ts) p) rest → Fits (named positive x p) (args_tokens ts rest)
    fits-named no_words rest k b le small h = fits-no_arguments rest b h
    fits-named (words t ts) rest k b le small h = (
      refl,
      refl,
      fits-term t (in_arguments []) (more_tokens ts rest) k.0 (more-behind ts rest) small.0
          (fits-more_arguments [] t ts rest k.1 small.1 (omega (arith, le)) h),
    )

  -- the first token of a formula that isn't too deep
  not-deep : (p : Place) → nesting p ≤ 10000 → is_deep (wants p) ≡ false
  not-deep p le = not-equal (nesting p) 10001 (λ e. omega (arith, le, e))

fits-mark : (logic : Logic) (parameters : List (List ℕ)) (positive : Bool) (x : List ℕ) (p : Place) (rest : List Lexeme) → nesting p ≤ 10000
    → Fits logic parameters (named positive x p) rest → Fits logic parameters (wants p) (mark_tokens logic positive (a_name x ∷ rest))
fits-mark Lkf parameters true x p rest le h = (not-deep Lkf parameters p le, refl, h)
fits-mark Lkf parameters false x p rest le h = (not-deep Lkf parameters p le, refl, (refl, refl, h))
fits-mark Ljf parameters true x p rest le h = (not-deep Ljf parameters p le, refl, (refl, refl, h))
fits-mark Ljf parameters false x p rest le h = (not-deep Ljf parameters p le, refl, (refl, refl, h))

fits-true : (logic : Logic) (parameters : List (List ℕ)) (k : Polarity) (p : Place) (rest : List Lexeme) → nesting p ≤ 10000
    → Fits logic parameters (has (true_unit k) p) rest → Fits logic parameters (wants p) (formula_tokens logic (true_unit k) rest)
fits-true logic parameters Positive p rest le h = (not-deep logic parameters p le, refl, h)
fits-true logic parameters Negative p rest le h = (not-deep logic parameters p le, refl, h)

fits-false : (logic : Logic) (parameters : List (List ℕ)) (k : Polarity) (p : Place) (rest : List Lexeme) → IsFalseOf logic k → nesting p ≤ 10000
    → Fits logic parameters (has (false_unit k) p) rest → Fits logic parameters (wants p) (formula_tokens logic (false_unit k) rest)
fits-false Lkf parameters Positive p rest l le h = (not-deep Lkf parameters p le, refl, h)
fits-false Lkf parameters Negative p rest l le h = (not-deep Lkf parameters p le, refl, h)
fits-false Ljf parameters Positive p rest l le h = (not-deep Ljf parameters p le, refl, h)
fits-false Ljf parameters Negative p rest l le h = absurd l

module _ (logic : Logic) (parameters : List (List ℕ)) where
  fits-join : (j : Joiner) (a : WrittenFormula) (p : Place) (rest : List Lexeme) → IsJoinerOf logic j → Fits logic parameters (wants (in_second j a p)) rest
      → Fits logic parameters (has a (in_first p)) (a_sign (joiner_sign logic j) ∷ rest)
  fits-join j a p rest l h =
      let F : FormulaState → Type 0 = λ s. (is_full s ≡ false) × Fits logic parameters s rest in
      let g : F (joined (joiner_of logic (joiner_sign logic j)) a p) =
      subst F (ap (λ o. joined o a p) (sym (joiner_of-joiner_sign logic j l))) (refl, h) in
      (refl, g.0, g.1)

  fits-binder : (q : Binder) (x : List ℕ) (p : Place) (rest : List Lexeme) → nesting p ≤ 10000 → Fits logic parameters (wants (under q x p)) rest
      → Fits logic parameters (wants p) (a_sign (binder_sign q) ∷ a_variable x ∷ a_sign sign.Colon ∷ rest)
  fits-binder ForAll x p rest le h = (not-deep logic parameters p le, refl, (refl, refl, (refl, refl, h)))
  fits-binder Exists x p rest le h = (not-deep logic parameters p le, refl, (refl, refl, (refl, refl, h)))

  fits-under : (q : Binder) (x : List ℕ) (w : WrittenFormula) (p : Place) (rest : List Lexeme) → IsBehind rest → Fits logic parameters (has (bind q x w) p) rest
      → Fits logic parameters (has w (under q x p)) rest
  fits-under q x w p [] b h = absurd b
  fits-under q x w p (c ∷ rest) b h = h

  -- what is within the limits passes
  pub fits-formula : (w : WrittenFormula) (p : Place) (rest : List Lexeme) → IsBound parameters (scope_at p) w → IsWrittenIn logic w → IsBehind rest
      → nesting p + written_depth w ≤ 10001 → HasSmall w → Fits logic parameters (has w p) rest → Fits logic parameters (wants p) (formula_tokens logic w rest)
  fits-formula (true_unit k) p rest known l b le small h = fits-true logic parameters k p rest (omega (arith, le)) h
  fits-formula (false_unit k) p rest known l b le small h = fits-false logic parameters k p rest l (omega (arith, le)) h
  fits-formula (literal positive x args) p rest known l b le small h =
      fits-mark logic parameters positive x p (args_tokens args rest) (omega (arith, le))
      (fits-named logic parameters positive x p args rest known b small.0 small.1 h)
  fits-formula (pair j a c) p rest known l b le small h =
      let last : List Lexeme = formula_tokens logic c (a_sign sign.CloseParenthesis ∷ rest) in (
        not-deep logic parameters p (omega (arith, le)),
        refl,
        fits-formula a (in_first p) (a_sign (joiner_sign logic j) ∷ last) known.0 l.1 (joiner-behind logic j last) (omega (arith, le)) small.0
            (fits-join j a p last l.0
            (fits-formula c (in_second j a p) (a_sign sign.CloseParenthesis ∷ rest) known.1 l.2 tt (omega (arith, le)) small.1 (refl, refl, h))),
      )
  fits-formula (bind q x a) p rest known l b le small h =
      fits-binder q x p (formula_tokens logic a rest) (omega (arith, le))
      (fits-formula a (under q x p) rest known l b (omega (arith, le)) small (fits-under q x a p rest b h))
