-- The machine of formulas reads the tokens of each formula whole.
use Rattle.std.proofs.Common.{◌≡◌, ℕ, Bool, true, false, List, [], ◌∷◌, ◌++◌, refl, ap, ◌∙◌, Some}
use Rattle.fpc_base.specs.declared.tokens.lexeme.Sign.TheVariants as sign
use Rattle.fpc_base.specs.Lexeme.{Lexeme, a_name, a_variable, a_sign}
use Rattle.fpc_terms.specs.Written.{WrittenTerm, WrittenArgs, no_words, words, term_tokens, args_tokens, more_tokens, AreKnown}
use Rattle.fpc_terms.specs.Spot.{Spot, in_arguments, tokens_to, IsSpotKnown}
use Rattle.fpc_terms.specs.Machine as term
use Rattle.fpc_terms.proofs.States as of_term
use Rattle.fpc_terms.proofs.TermLaws.{IsBehind}
use Rattle.fpc_terms.proofs.TermLaws as term_laws
use Rattle.polarised_formulas.specs.declared.logic.Logic.{Logic}
use Rattle.polarised_formulas.specs.declared.logic.Logic.TheVariants.{Lkf, Ljf}
use Rattle.polarised_formulas.specs.declared.logic.Polarity.{Polarity}
use Rattle.polarised_formulas.specs.declared.logic.Polarity.TheVariants.{Positive, Negative}
use Rattle.polarised_formulas.specs.declared.connective.Joiner.{Joiner}
use Rattle.polarised_formulas.specs.declared.connective.Joiner.TheVariants.{And, Or, Implies}
use Rattle.polarised_formulas.specs.declared.connective.Binder.{Binder}
use Rattle.polarised_formulas.specs.declared.connective.Binder.TheVariants.{ForAll, Exists}
use Rattle.polarised_formulas.specs.Written.{WrittenFormula, true_unit, false_unit, literal, pair, bind, formula_tokens, mark_tokens, joiner_sign, binder_sign, IsJoinerOf, IsFalseOf, IsBound, IsWrittenIn, is_known}
use Rattle.polarised_formulas.specs.Place.{Place, whole, in_first, in_second, under, scope_at, tokens_to_place}
use Rattle.polarised_formulas.specs.Machine.{wants, named, in_atom, has, joiner_of, joined, within_atom, run, ended_at, whole_of}
use Rattle.polarised_formulas.proofs.States.{IsPlaceOf}

pub joiner_of-joiner_sign : (logic : Logic) (j : Joiner) → IsJoinerOf logic j → joiner_of logic (joiner_sign logic j) ≡ Some j
joiner_of-joiner_sign logic (And Positive) h = refl
joiner_of-joiner_sign logic (And Negative) h = refl
joiner_of-joiner_sign Lkf (Or Positive) h = refl
joiner_of-joiner_sign Lkf (Or Negative) h = refl
joiner_of-joiner_sign Ljf (Or Positive) h = refl
joiner_of-joiner_sign Ljf Implies h = refl
joiner_of-joiner_sign _ _ h = absurd h

pub joiner-behind : (logic : Logic) (j : Joiner) (rest : List Lexeme) → IsBehind (a_sign (joiner_sign logic j) ∷ rest)
joiner-behind logic (And Positive) rest = tt
joiner-behind logic (And Negative) rest = tt
joiner-behind Lkf (Or Positive) rest = tt
joiner-behind Lkf (Or Negative) rest = tt
joiner-behind Ljf (Or Positive) rest = tt
joiner-behind Ljf (Or Negative) rest = tt
joiner-behind logic Implies rest = tt

run-mark : (logic : Logic) (parameters : List (List ℕ)) (positive : Bool) (x : List ℕ) (p : Place) (rest : List Lexeme)
    → run logic parameters (wants p) (mark_tokens logic positive (a_name x ∷ rest)) ≡ run logic parameters (named positive x p) rest
run-mark Lkf parameters true x p rest = refl
run-mark Lkf parameters false x p rest = refl
run-mark Ljf parameters true x p rest = refl
run-mark Ljf parameters false x p rest = refl

run-true : (logic : Logic) (parameters : List (List ℕ)) (k : Polarity) (p : Place) (rest : List Lexeme)
    → run logic parameters (wants p) (formula_tokens logic (true_unit k) rest) ≡ run logic parameters (has (true_unit k) p) rest
run-true logic parameters Positive p rest = refl
run-true logic parameters Negative p rest = refl

run-false : (logic : Logic) (parameters : List (List ℕ)) (k : Polarity) (p : Place) (rest : List Lexeme) → IsFalseOf logic k
    → run logic parameters (wants p) (formula_tokens logic (false_unit k) rest) ≡ run logic parameters (has (false_unit k) p) rest
run-false Lkf parameters Positive p rest h = refl
run-false Lkf parameters Negative p rest h = refl
run-false Ljf parameters Positive p rest h = refl
run-false Ljf parameters Negative p rest h = absurd h

module _ (logic : Logic) (parameters : List (List ℕ)) where
  -- the arguments of an atom are read as their own machine reads them
  pub run-within_atom : (positive : Bool) (x : List ℕ) (p : Place) (cs rest : List Lexeme) (t : term.TermState)
      → term.IsLive (term.run (is_known parameters (scope_at p)) t cs)
      → run logic parameters (within_atom positive x p t) (cs ++ rest)
      ≡ run logic parameters (within_atom positive x p (term.run (is_known parameters (scope_at p)) t cs)) rest
  run-within_atom positive x p [] rest t live = refl
  run-within_atom positive x p (c ∷ cs) rest (term.wants s) live =
      run-within_atom positive x p cs rest (term.step (is_known parameters (scope_at p)) (term.wants s) c) live
  run-within_atom positive x p (c ∷ cs) rest (term.named y s) live =
      run-within_atom positive x p cs rest (term.step (is_known parameters (scope_at p)) (term.named y s) c) live
  run-within_atom positive x p (c ∷ cs) rest (term.has u s) live =
      run-within_atom positive x p cs rest (term.step (is_known parameters (scope_at p)) (term.has u s) c) live
  run-within_atom positive x p (c ∷ cs) rest (term.ended args) live = absurd (term_laws.live-run (is_known parameters (scope_at p)) cs term.stuck live)
  run-within_atom positive x p (c ∷ cs) rest term.stuck live = absurd (term_laws.live-run (is_known parameters (scope_at p)) cs term.stuck live)

  -- the same, to a state that is known
  pub run-to_atom : (positive : Bool) (x : List ℕ) (p : Place) (cs rest : List Lexeme) (t u : term.TermState)
      → term.run (is_known parameters (scope_at p)) t cs ≡ u → term.IsLive u
      → run logic parameters (within_atom positive x p t) (cs ++ rest) ≡ run logic parameters (within_atom positive x p u) rest
  run-to_atom positive x p cs rest t u e live =
      run-within_atom positive x p cs rest t (rw e live) ∙ ap (λ v. run logic parameters (within_atom positive x p v) rest) e

  -- an atom's arguments behind its name
  run-arguments : (positive : Bool) (x : List ℕ) (t : WrittenTerm) (ts : WrittenArgs) (p : Place) (rest : List Lexeme)
      → AreKnown (is_known parameters (scope_at p)) (words t ts)
      → run logic parameters (named positive x p) (args_tokens (words t ts) rest) ≡ run logic parameters (has (literal positive x (words t ts)) p) rest
  run-arguments positive x t ts p rest h =
      ap (run logic parameters (in_atom positive x (term.wants (in_arguments [])) p)) (term_laws.arguments-append t ts rest)
      ∙ run-to_atom positive x p (term_tokens t (more_tokens ts [])) rest (term.wants (in_arguments [])) (term.ended (words t ts))
      (term_laws.run-arguments (is_known parameters (scope_at p)) t ts h.0 h.1) tt

  named-behind : (positive : Bool) (x : List ℕ) (p : Place) (rest : List Lexeme) → IsBehind rest
      → run logic parameters (named positive x p) rest ≡ run logic parameters (has (literal positive x no_words) p) rest
  named-behind positive x p [] b = absurd b
  named-behind positive x p (a_sign sign.OpenParenthesis ∷ rest) b = absurd b
  named-behind positive x p (c ∷ rest) b = refl

  run-named : (positive : Bool) (x : List ℕ) (ts : WrittenArgs) (p : Place) (rest : List Lexeme) → AreKnown (is_known parameters (scope_at p)) ts → IsBehind rest
      → run logic parameters (named positive x p) (args_tokens ts rest) ≡ run logic parameters (has (literal positive x ts) p) rest
  run-named positive x no_words p rest h b = named-behind positive x p rest b
  run-named positive x (words t ts) p rest h b = run-arguments positive x t ts p rest h

  run-binder : (q : Binder) (x : List ℕ) (p : Place) (rest : List Lexeme)
      → run logic parameters (wants p) (a_sign (binder_sign q) ∷ a_variable x ∷ a_sign sign.Colon ∷ rest) ≡ run logic parameters (wants (under q x p)) rest
  run-binder ForAll x p rest = refl
  run-binder Exists x p rest = refl

  run-under : (q : Binder) (x : List ℕ) (w : WrittenFormula) (p : Place) (rest : List Lexeme) → IsBehind rest
      → run logic parameters (has w (under q x p)) rest ≡ run logic parameters (has (bind q x w) p) rest
  run-under q x w p [] b = absurd b
  run-under q x w p (c ∷ rest) b = refl

  run-join : (j : Joiner) (a : WrittenFormula) (p : Place) (rest : List Lexeme) → IsJoinerOf logic j
      → run logic parameters (has a (in_first p)) (a_sign (joiner_sign logic j) ∷ rest) ≡ run logic parameters (wants (in_second j a p)) rest
  run-join j a p rest h = ap (λ o. run logic parameters (joined o a p) rest) (joiner_of-joiner_sign logic j h)

  -- COMPLETE: a formula before a token that is no open parenthesis
  pub run-formula : (w : WrittenFormula) (p : Place) (rest : List Lexeme) → IsBound parameters (scope_at p) w → IsWrittenIn logic w → IsBehind rest
      → run logic parameters (wants p) (formula_tokens logic w rest) ≡ run logic parameters (has w p) rest
  run-formula (true_unit k) p rest h l b = run-true logic parameters k p rest
  run-formula (false_unit k) p rest h l b = run-false logic parameters k p rest l
  run-formula (literal positive x args) p rest h l b =
      run-mark logic parameters positive x p (args_tokens args rest) ∙ run-named positive x args p rest h b
  run-formula (pair j a c) p rest h l b =
      run-formula a (in_first p) (a_sign (joiner_sign logic j) ∷ formula_tokens logic c (a_sign sign.CloseParenthesis ∷ rest)) h.0 l.1
      (joiner-behind logic j (formula_tokens logic c (a_sign sign.CloseParenthesis ∷ rest)))
      ∙ run-join j a p (formula_tokens logic c (a_sign sign.CloseParenthesis ∷ rest)) l.0
      ∙ run-formula c (in_second j a p) (a_sign sign.CloseParenthesis ∷ rest) h.1 l.2 tt
  run-formula (bind q x a) p rest h l b =
      run-binder q x p (formula_tokens logic a rest) ∙ run-formula a (under q x p) rest h l b ∙ run-under q x a p rest b

  ends-arguments : (positive : Bool) (x : List ℕ) (args : WrittenArgs) (p : Place) → AreKnown (is_known parameters (scope_at p)) args
      → whole_of (run logic parameters (named positive x p) (args_tokens args [])) ≡ ended_at (literal positive x args) p
  ends-arguments positive x no_words p h = refl
  ends-arguments positive x (words t ts) p h = ap whole_of (run-arguments positive x t ts p [] h)

  -- the same at the end of the tokens
  pub run-ends : (w : WrittenFormula) (p : Place) → IsBound parameters (scope_at p) w → IsWrittenIn logic w
      → whole_of (run logic parameters (wants p) (formula_tokens logic w [])) ≡ ended_at w p
  run-ends (true_unit k) p h l = ap whole_of (run-true logic parameters k p [])
  run-ends (false_unit k) p h l = ap whole_of (run-false logic parameters k p [] l)
  run-ends (literal positive x args) p h l =
      ap whole_of (run-mark logic parameters positive x p (args_tokens args [])) ∙ ends-arguments positive x args p h
  run-ends (pair j a c) p h l =
      ap whole_of
      (run-formula a (in_first p) (a_sign (joiner_sign logic j) ∷ formula_tokens logic c (a_sign sign.CloseParenthesis ∷ [])) h.0 l.1
      (joiner-behind logic j (formula_tokens logic c (a_sign sign.CloseParenthesis ∷ [])))
      ∙ run-join j a p (formula_tokens logic c (a_sign sign.CloseParenthesis ∷ [])) l.0
      ∙ run-formula c (in_second j a p) (a_sign sign.CloseParenthesis ∷ []) h.1 l.2 tt)
  run-ends (bind q x a) p h l = ap whole_of (run-binder q x p (formula_tokens logic a [])) ∙ run-ends a (under q x p) h l

  -- the tokens to a place lead there
  pub run-tokens_to_place : (p : Place) (rest : List Lexeme) → IsPlaceOf logic parameters p
      → run logic parameters (wants whole) (tokens_to_place logic p rest) ≡ run logic parameters (wants p) rest
  run-tokens_to_place whole rest h = refl
  run-tokens_to_place (in_first p) rest h = run-tokens_to_place p (a_sign sign.OpenParenthesis ∷ rest) h
  run-tokens_to_place (in_second j a p) rest h =
      run-tokens_to_place p (a_sign sign.OpenParenthesis ∷ formula_tokens logic a (a_sign (joiner_sign logic j) ∷ rest)) (h.0.1, h.1.2)
      ∙ run-formula a (in_first p) (a_sign (joiner_sign logic j) ∷ rest) h.0.0 h.1.1 (joiner-behind logic j rest)
      ∙ run-join j a p rest h.1.0
  run-tokens_to_place (under q x p) rest h =
      run-tokens_to_place p (a_sign (binder_sign q) ∷ a_variable x ∷ a_sign sign.Colon ∷ rest) h ∙ run-binder q x p rest

  -- the tokens to an argument of an atom lead there
  pub run-tokens_to : (positive : Bool) (x : List ℕ) (p : Place) (s : Spot) → of_term.IsArgumentSpot s
      → IsSpotKnown (is_known parameters (scope_at p)) s → IsPlaceOf logic parameters p
      → run logic parameters (wants whole) (tokens_to_place logic p (mark_tokens logic positive (a_name x ∷ tokens_to s [])))
      ≡ in_atom positive x (term.wants s) p
  run-tokens_to positive x p s a k h =
      run-tokens_to_place p (mark_tokens logic positive (a_name x ∷ tokens_to s [])) h
      ∙ run-mark logic parameters positive x p (tokens_to s [])
      ∙ ap (run logic parameters (named positive x p)) (term_laws.inner_tokens_to-open s a [])
      ∙ ap (run logic parameters (in_atom positive x (term.wants (in_arguments [])) p)) (term_laws.inner_tokens_to-append s [])
      ∙ run-to_atom positive x p (term_laws.inner_tokens_to s []) [] (term.wants (in_arguments [])) (term.wants s)
      (term_laws.run-inner_tokens_to (is_known parameters (scope_at p)) s a k) tt
