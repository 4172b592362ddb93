-- The formula that a bound written formula of a logic means is closed and of the logic, and its names are those of the written one.
use Rattle.std.proofs.Common.{◌≡◌, ℕ, suc, ◌<◌, Bool, true, false, if◌then◌else◌, ◌||◌, List, [], ◌∷◌, length, refl, ap, sym, subst, ◌∙◌, arith}
use Rattle.std.specs.Str.{bytes_eq}
use Rattle.std.proofs.lemmas.Option.{get_or_from_slice_get}
use Rattle.fpc_base.specs.declared.tokens.TokenKind.TheVariants.{Name}
use Rattle.fpc_base.specs.Tokens.{is_one_of, HasForm}
use Rattle.fpc_terms.specs.Term.{bound, variable, Each, EachArg, Never}
use Rattle.fpc_terms.specs.Text.{name_in}
use Rattle.fpc_terms.specs.Name.{HasName, Agrees}
use Rattle.fpc_terms.specs.Written.{WrittenTerm, WrittenArgs, variable_word, application, no_words, words, IsKnown, AreKnown, term_meant, args_meant}
use Rattle.polarised_formulas.specs.declared.logic.Logic.{Logic}
use Rattle.polarised_formulas.specs.declared.logic.Logic.TheVariants.{Lkf, Ljf}
use Rattle.polarised_formulas.specs.declared.logic.Polarity.TheVariants.{Positive, Negative}
use Rattle.polarised_formulas.specs.Formula.{Formula, EachInside, Tied, IsClosed, IsOfLogic}
use Rattle.polarised_formulas.specs.declared.connective.Joiner.{Joiner}
use Rattle.polarised_formulas.specs.declared.connective.Joiner.TheVariants.{And, Or, Implies}
use Rattle.polarised_formulas.specs.declared.connective.Binder.{Binder}
use Rattle.polarised_formulas.specs.declared.connective.Binder.TheVariants.{ForAll, Exists}
use Rattle.polarised_formulas.specs.Written.{WrittenFormula, true_unit, false_unit, literal, pair, bind, is_known, IsBound, IsWrittenIn, IsJoinerOf, index_in, variable_meant, formula_meant, joined_by, bound_by}
use Rattle.polarised_formulas.specs.WrittenOf.{IsNamed, AreNamed, HasNames}
use Rattle.polarised_formulas.specs.EachName.{EachName, EachNameOf, EachNameIn}

or-false : (a : Bool) → (a || false) ≡ true → a ≡ true
or-false true h = refl
or-false false h = h

-- a text stands below the list's length, where it stands there
index_in-below : (xs : List (List ℕ)) (x : List ℕ) → is_one_of xs x ≡ true → index_in xs x < length xs
index_in-below [] x h = cc
index_in-below (y ∷ ys) x h = by_test (bytes_eq x y) refl (index_in-below ys x) where
  by_test : (v : Bool) → bytes_eq x y ≡ v → (is_one_of ys x ≡ true → index_in ys x < length ys)
      → (if v then 0 else suc (index_in ys x)) < suc (length ys)
  by_test true e r = omega arith
  by_test false e r = let g : is_one_of ys x ≡ true = sym (ap (λ v. v || is_one_of ys x) e) ∙ h in let lt = r g in omega (arith, lt)

module _ (number : List ℕ → ℕ) where
  tied-variable : (scope : List (List ℕ)) (x : List ℕ) → is_known [] scope x ≡ true → Each Never (Tied (length scope)) Never (variable_meant [] scope x)
  tied-variable scope x h =
      let k : is_one_of scope x ≡ true = or-false (is_one_of scope x) h in
      subst (λ v. Each Never (Tied (length scope)) Never (if v then bound (index_in scope x) else variable (index_in [] x))) (sym k) (index_in-below scope x k)

  mutual
    tied-term : (scope : List (List ℕ)) (t : WrittenTerm) → IsKnown (is_known [] scope) t
        → Each Never (Tied (length scope)) Never (term_meant number (variable_meant [] scope) t)
    tied-term scope (variable_word x) h = tied-variable scope x h
    tied-term scope (application x ts) h = tied-args scope ts h

    tied-args : (scope : List (List ℕ)) (ts : WrittenArgs) → AreKnown (is_known [] scope) ts
        → EachArg Never (Tied (length scope)) Never (args_meant number (variable_meant [] scope) ts)
    tied-args scope no_words h = tt
    tied-args scope (words t ts) h = (tied-term scope t h.0, tied-args scope ts h.1)

  tied-joined : (d : ℕ) (j : Joiner) (a b : Formula) → EachInside Never Tied Never d a → EachInside Never Tied Never d b → EachInside Never Tied Never d (joined_by j a b)
  tied-joined d (And p) a b h k = (h, k)
  tied-joined d (Or p) a b h k = (h, k)
  tied-joined d Implies a b h k = (h, k)

  tied-bound : (d : ℕ) (q : Binder) (a : Formula) → EachInside Never Tied Never (suc d) a → EachInside Never Tied Never d (bound_by q a)
  tied-bound d ForAll a h = h
  tied-bound d Exists a h = h

  tied-formula : (scope : List (List ℕ)) (w : WrittenFormula) → IsBound [] scope w → EachInside Never Tied Never (length scope) (formula_meant number [] scope w)
  tied-formula scope (true_unit p) h = tt
  tied-formula scope (false_unit p) h = tt
  tied-formula scope (literal positive x args) h = tied-args scope args h
  tied-formula scope (pair j a b) h =
      tied-joined (length scope) j (formula_meant number [] scope a) (formula_meant number [] scope b) (tied-formula scope a h.0) (tied-formula scope b h.1)
  tied-formula scope (bind q x a) h = tied-bound (length scope) q (formula_meant number [] (x ∷ scope) a) (tied-formula (x ∷ scope) a h)

  pub IsClosed-formula_meant : (w : WrittenFormula) → IsBound [] [] w → IsClosed (formula_meant number [] [] w)
  IsClosed-formula_meant w h = tied-formula [] w h

  logic-joined : (logic : Logic) (j : Joiner) (a b : Formula) → IsJoinerOf logic j → IsOfLogic logic a → IsOfLogic logic b → IsOfLogic logic (joined_by j a b)
  logic-joined Lkf (And p) a b l h k = (h, k)
  logic-joined Ljf (And p) a b l h k = (h, k)
  logic-joined Lkf (Or p) a b l h k = (h, k)
  logic-joined Ljf (Or Positive) a b l h k = (h, k)
  logic-joined Ljf (Or Negative) a b l h k = absurd l
  logic-joined Lkf Implies a b l h k = absurd l
  logic-joined Ljf Implies a b l h k = (h, k)

  logic-bound : (logic : Logic) (q : Binder) (a : Formula) → IsOfLogic logic a → IsOfLogic logic (bound_by q a)
  logic-bound Lkf ForAll a h = h
  logic-bound Lkf Exists a h = h
  logic-bound Ljf ForAll a h = h
  logic-bound Ljf Exists a h = h

  pub IsOfLogic-formula_meant : (logic : Logic) (scope : List (List ℕ)) (w : WrittenFormula) → IsWrittenIn logic w → IsOfLogic logic (formula_meant number [] scope w)
  IsOfLogic-formula_meant Lkf scope (true_unit p) h = tt
  IsOfLogic-formula_meant Ljf scope (true_unit p) h = tt
  IsOfLogic-formula_meant Lkf scope (false_unit p) h = tt
  IsOfLogic-formula_meant Ljf scope (false_unit Positive) h = tt
  IsOfLogic-formula_meant Ljf scope (false_unit Negative) h = absurd h
  IsOfLogic-formula_meant Lkf scope (literal positive x args) h = tt
  IsOfLogic-formula_meant Ljf scope (literal positive x args) h = tt
  IsOfLogic-formula_meant logic scope (pair j a b) h =
      logic-joined logic j (formula_meant number [] scope a) (formula_meant number [] scope b) h.0
      (IsOfLogic-formula_meant logic scope a h.1) (IsOfLogic-formula_meant logic scope b h.2)
  IsOfLogic-formula_meant logic scope (bind q x a) h =
      logic-bound logic q (formula_meant number [] (x ∷ scope) a) (IsOfLogic-formula_meant logic (x ∷ scope) a h)

module _ (names : List (List ℕ)) (number : List ℕ → ℕ) (agrees : Agrees number names) where
  -- a name of the table, at the place that its number tells
  name_in-number : (x : List ℕ) → HasName names x → HasForm Name x → HasForm Name (name_in names (number x))
  name_in-number x h form =
      let at : number x ≡ h.0 = agrees h.0 x h.1 in
      let is : name_in names h.0 ≡ x = get_or_from_slice_get names h.0 x [] h.1 in
      subst (HasForm Name) (sym is ∙ ap (name_in names) (sym at)) form

  named-variable : (scope : List (List ℕ)) (x : List ℕ) → IsNamed names (variable_meant [] scope x)
  named-variable scope x = by_test (is_one_of scope x) where
    by_test : (v : Bool) → IsNamed names (if v then bound (index_in scope x) else variable (index_in [] x))
    by_test true = tt
    by_test false = tt

  mutual
    named-term : (scope : List (List ℕ)) (t : WrittenTerm) → EachName (HasName names) t → EachName (HasForm Name) t
        → IsNamed names (term_meant number (variable_meant [] scope) t)
    named-term scope (variable_word x) h f = named-variable scope x
    named-term scope (application x ts) h f = (name_in-number x h.0 f.0, named-args scope ts h.1 f.1)

    named-args : (scope : List (List ℕ)) (ts : WrittenArgs) → EachNameOf (HasName names) ts → EachNameOf (HasForm Name) ts
        → AreNamed names (args_meant number (variable_meant [] scope) ts)
    named-args scope no_words h f = tt
    named-args scope (words t ts) h f = (named-term scope t h.0 f.0, named-args scope ts h.1 f.1)

  named-joined : (j : Joiner) (a b : Formula) → HasNames names a → HasNames names b → HasNames names (joined_by j a b)
  named-joined (And p) a b h k = (h, k)
  named-joined (Or p) a b h k = (h, k)
  named-joined Implies a b h k = (h, k)

  named-bound : (q : Binder) (a : Formula) → HasNames names a → HasNames names (bound_by q a)
  named-bound ForAll a h = h
  named-bound Exists a h = h

  pub HasNames-formula_meant : (scope : List (List ℕ)) (w : WrittenFormula) → EachNameIn (HasName names) w → EachNameIn (HasForm Name) w
      → HasNames names (formula_meant number [] scope w)
  HasNames-formula_meant scope (true_unit p) h f = tt
  HasNames-formula_meant scope (false_unit p) h f = tt
  HasNames-formula_meant scope (literal positive x args) h f = (name_in-number x h.0 f.0, named-args scope args h.1 f.1)
  HasNames-formula_meant scope (pair j a b) h f =
      named-joined j (formula_meant number [] scope a) (formula_meant number [] scope b)
      (HasNames-formula_meant scope a h.0 f.0) (HasNames-formula_meant scope b h.1 f.1)
  HasNames-formula_meant scope (bind q x a) h f = named-bound q (formula_meant number [] (x ∷ scope) a) (HasNames-formula_meant (x ∷ scope) a h f)
