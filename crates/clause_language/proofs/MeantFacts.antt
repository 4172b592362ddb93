-- What a written formula with parameters means is in the scope of its parameters, and has its names; and so do terms.
use Rattle.std.proofs.Common.{◌≡◌, ℕ, suc, ◌<◌, Bool, true, false, if◌then◌else◌, ◌||◌, List, [], ◌∷◌, length, refl, ap, sym, subst, ◌∙◌}
use Rattle.std.proofs.lemmas.Option.{get_or_from_slice_get, slice_get_within}
use Rattle.fpc_base.specs.declared.tokens.TokenKind.TheVariants.{Name}
use Rattle.fpc_base.specs.Tokens.{is_one_of, HasForm}
use Rattle.fpc_terms.specs.Term.{Term, bound, variable, count, Each, EachArg, Never}
use Rattle.fpc_terms.specs.Text.{name_in}
use Rattle.fpc_terms.specs.Name.{HasName, Agrees, index_in}
use Rattle.fpc_terms.specs.Written.{WrittenTerm, WrittenArgs, variable_word, application, no_words, words, IsKnown, AreKnown, term_meant, args_meant}
use Rattle.fpc_terms.proofs.Places.{got-index_in}
use Rattle.polarised_formulas.specs.declared.logic.Logic.{Logic}
use Rattle.polarised_formulas.specs.declared.logic.Logic.TheVariants.{Lkf, Ljf}
use Rattle.polarised_formulas.specs.declared.logic.Polarity.TheVariants.{Positive, Negative}
use Rattle.polarised_formulas.specs.Formula.{Formula, EachInside, Tied, IsOfLogic}
use Rattle.polarised_formulas.specs.declared.connective.Joiner.{Joiner}
use Rattle.polarised_formulas.specs.declared.connective.Joiner.TheVariants.{And, Or, Implies}
use Rattle.polarised_formulas.specs.declared.connective.Binder.{Binder}
use Rattle.polarised_formulas.specs.declared.connective.Binder.TheVariants.{ForAll, Exists}
use Rattle.polarised_formulas.specs.Written.{WrittenFormula, true_unit, false_unit, literal, pair, bind, is_known, IsBound, IsWrittenIn, IsJoinerOf, variable_meant, formula_meant, joined_by, bound_by}
use Rattle.polarised_formulas.specs.WrittenOf.{IsNamed, AreNamed, HasNames}
use Rattle.polarised_formulas.specs.EachName.{EachName, EachNameOf, EachNameIn}
use Rattle.polarised_formulas.specs.Size.{HasFew, AllHaveFew}
use Rattle.polarised_formulas.proofs.Small.{words_count, IsSmall, AreSmall}
use Rattle.clause_language.specs.Printable.{Below}

-- a text stands below the list's length, where it stands there
index_in-below : (xs : List (List ℕ)) (x : List ℕ) → is_one_of xs x ≡ true → index_in xs x < length xs
index_in-below xs x h = slice_get_within xs (index_in xs x) x (got-index_in xs x h)

module _ (number : List ℕ → ℕ) (parameters : List (List ℕ)) where
  scoped-variable : (scope : List (List ℕ)) (x : List ℕ) → is_known parameters scope x ≡ true
      → Each Never (Tied (length scope)) (Below (length parameters)) (variable_meant parameters scope x)
  scoped-variable scope x h = by_test (is_one_of scope x) refl h where
    by_test : (b : Bool) → is_one_of scope x ≡ b → (b || is_one_of parameters x) ≡ true
        → Each Never (Tied (length scope)) (Below (length parameters)) (if b then bound (index_in scope x) else variable (index_in parameters x))
    by_test true e k = index_in-below scope x e
    by_test false e k = index_in-below parameters x k

  mutual
    scoped-term : (scope : List (List ℕ)) (t : WrittenTerm) → IsKnown (is_known parameters scope) t
        → Each Never (Tied (length scope)) (Below (length parameters)) (term_meant number (variable_meant parameters scope) t)
    scoped-term scope (variable_word x) h = scoped-variable scope x h
    scoped-term scope (application x ts) h = scoped-args scope ts h

    scoped-args : (scope : List (List ℕ)) (ts : WrittenArgs) → AreKnown (is_known parameters scope) ts
        → EachArg Never (Tied (length scope)) (Below (length parameters)) (args_meant number (variable_meant parameters scope) ts)
    scoped-args scope no_words h = tt
    scoped-args scope (words t ts) h = (scoped-term scope t h.0, scoped-args scope ts h.1)

  abbrev In : ℕ → Formula → Type 0
  In d f = EachInside Never Tied (Below (length parameters)) d f

  scoped-joined : (d : ℕ) (j : Joiner) (a b : Formula) → In d a → In d b → In d (joined_by j a b)
  scoped-joined d (And p) a b h k = (h, k)
  scoped-joined d (Or p) a b h k = (h, k)
  scoped-joined d Implies a b h k = (h, k)

  scoped-bound : (d : ℕ) (q : Binder) (a : Formula) → In (suc d) a → In d (bound_by q a)
  scoped-bound d ForAll a h = h
  scoped-bound d Exists a h = h

  -- its variables are parameters
  pub scoped-formula_meant : (scope : List (List ℕ)) (w : WrittenFormula) → IsBound parameters scope w → In (length scope) (formula_meant number parameters scope w)
  scoped-formula_meant scope (true_unit p) h = tt
  scoped-formula_meant scope (false_unit p) h = tt
  scoped-formula_meant scope (literal positive x args) h = scoped-args scope args h
  scoped-formula_meant scope (pair j a b) h =
      scoped-joined (length scope) j (formula_meant number parameters scope a) (formula_meant number parameters scope b) (scoped-formula_meant scope a h.0) (scoped-formula_meant scope b h.1)
  scoped-formula_meant scope (bind q x a) h = scoped-bound (length scope) q (formula_meant number parameters (x ∷ scope) a) (scoped-formula_meant (x ∷ scope) a h)

  logic-joined : (logic : Logic) (j : Joiner) (a b : Formula) → IsJoinerOf logic j → IsOfLogic logic a → IsOfLogic logic b → IsOfLogic logic (joined_by j a b)
  logic-joined Lkf (And p) a b l h k = (h, k)
  logic-joined Ljf (And p) a b l h k = (h, k)
  logic-joined Lkf (Or p) a b l h k = (h, k)
  logic-joined Ljf (Or Positive) a b l h k = (h, k)
  logic-joined Ljf (Or Negative) a b l h k = absurd l
  logic-joined Lkf Implies a b l h k = absurd l
  logic-joined Ljf Implies a b l h k = (h, k)

  logic-bound : (logic : Logic) (q : Binder) (a : Formula) → IsOfLogic logic a → IsOfLogic logic (bound_by q a)
  logic-bound Lkf ForAll a h = h
  logic-bound Lkf Exists a h = h
  logic-bound Ljf ForAll a h = h
  logic-bound Ljf Exists a h = h

  -- it is of the logic
  pub logic-formula_meant : (logic : Logic) (scope : List (List ℕ)) (w : WrittenFormula) → IsWrittenIn logic w → IsOfLogic logic (formula_meant number parameters scope w)
  logic-formula_meant Lkf scope (true_unit p) h = tt
  logic-formula_meant Ljf scope (true_unit p) h = tt
  logic-formula_meant Lkf scope (false_unit p) h = tt
  logic-formula_meant Ljf scope (false_unit Positive) h = tt
  logic-formula_meant Ljf scope (false_unit Negative) h = absurd h
  logic-formula_meant Lkf scope (literal positive x args) h = tt
  logic-formula_meant Ljf scope (literal positive x args) h = tt
  logic-formula_meant logic scope (pair j a b) h =
      logic-joined logic j (formula_meant number parameters scope a) (formula_meant number parameters scope b) h.0
      (logic-formula_meant logic scope a h.1) (logic-formula_meant logic scope b h.2)
  logic-formula_meant logic scope (bind q x a) h =
      logic-bound logic q (formula_meant number parameters (x ∷ scope) a) (logic-formula_meant logic (x ∷ scope) a h)

-- names of terms, whatever their variables mean
module _ (names : List (List ℕ)) (number : List ℕ → ℕ) (agrees : Agrees number names) where
  -- a name of the table, at the place that its number tells
  pub name_in-number : (x : List ℕ) → HasName names x → name_in names (number x) ≡ x
  name_in-number x h =
      let at : number x ≡ h.0 = agrees h.0 x h.1 in
      let is : name_in names h.0 ≡ x = get_or_from_slice_get names h.0 x [] h.1 in
      ap (name_in names) at ∙ is

  pub formed-number : (x : List ℕ) → HasName names x → HasForm Name x → HasForm Name (name_in names (number x))
  formed-number x h form = subst (HasForm Name) (sym (name_in-number x h)) form

  module _ (leaf : List ℕ → Term) (plain : (x : List ℕ) → IsNamed names (leaf x)) where
    mutual
      pub named-term_meant : (t : WrittenTerm) → EachName (HasName names) t → EachName (HasForm Name) t → IsNamed names (term_meant number leaf t)
      named-term_meant (variable_word x) h f = plain x
      named-term_meant (application x ts) h f = (formed-number x h.0 f.0, named-args_meant ts h.1 f.1)

      pub named-args_meant : (ts : WrittenArgs) → EachNameOf (HasName names) ts → EachNameOf (HasForm Name) ts → AreNamed names (args_meant number leaf ts)
      named-args_meant no_words h f = tt
      named-args_meant (words t ts) h f = (named-term_meant t h.0 f.0, named-args_meant ts h.1 f.1)

  plain-variable : (parameters scope : List (List ℕ)) (x : List ℕ) → IsNamed names (variable_meant parameters scope x)
  plain-variable parameters scope x = by_test (is_one_of scope x) where
    by_test : (b : Bool) → IsNamed names (if b then bound (index_in scope x) else variable (index_in parameters x))
    by_test true = tt
    by_test false = tt

  named-joined : (j : Joiner) (a b : Formula) → HasNames names a → HasNames names b → HasNames names (joined_by j a b)
  named-joined (And p) a b h k = (h, k)
  named-joined (Or p) a b h k = (h, k)
  named-joined Implies a b h k = (h, k)

  named-bound : (q : Binder) (a : Formula) → HasNames names a → HasNames names (bound_by q a)
  named-bound ForAll a h = h
  named-bound Exists a h = h

  pub named-formula_meant : (parameters scope : List (List ℕ)) (w : WrittenFormula) → EachNameIn (HasName names) w → EachNameIn (HasForm Name) w
      → HasNames names (formula_meant number parameters scope w)
  named-formula_meant parameters scope (true_unit p) h f = tt
  named-formula_meant parameters scope (false_unit p) h f = tt
  named-formula_meant parameters scope (literal positive x args) h f =
      (formed-number x h.0 f.0, named-args_meant (variable_meant parameters scope) (plain-variable parameters scope) args h.1 f.1)
  named-formula_meant parameters scope (pair j a b) h f =
      named-joined j (formula_meant number parameters scope a) (formula_meant number parameters scope b)
      (named-formula_meant parameters scope a h.0 f.0) (named-formula_meant parameters scope b h.1 f.1)
  named-formula_meant parameters scope (bind q x a) h f =
      named-bound q (formula_meant number parameters (x ∷ scope) a) (named-formula_meant parameters (x ∷ scope) a h f)

-- sizes of terms, whatever their variables mean
module _ (number : List ℕ → ℕ) (leaf : List ℕ → Term) (plain : (x : List ℕ) → HasFew (leaf x)) where
  count-args_meant : (ts : WrittenArgs) → count (args_meant number leaf ts) ≡ words_count ts
  count-args_meant no_words = refl
  count-args_meant (words t ts) = ap suc (count-args_meant ts)

  mutual
    pub few-term_meant : (t : WrittenTerm) → IsSmall t → HasFew (term_meant number leaf t)
    few-term_meant (variable_word x) h = plain x
    few-term_meant (application x ts) h = (rw (count-args_meant ts) h.0, few-args_meant ts h.1)

    pub few-args_meant : (ts : WrittenArgs) → AreSmall ts → AllHaveFew (args_meant number leaf ts)
    few-args_meant no_words h = tt
    few-args_meant (words t ts) h = (few-term_meant t h.0, few-args_meant ts h.1)
