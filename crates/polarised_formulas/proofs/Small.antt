-- How deep a written formula is nested and how many arguments its names have, as in the formula that it means.
use Rattle.std.proofs.Common.{◌≡◌, ℕ, suc, ◌≤◌, Bool, true, false, if◌then◌else◌, List, ◌∷◌, refl, ap, arith, max}
use Rattle.fpc_base.specs.Tokens.{is_one_of}
use Rattle.fpc_terms.specs.Term.{Term, Args, eigen, bound, variable, app, no_args, arg, count}
use Rattle.fpc_terms.specs.Written.{WrittenTerm, WrittenArgs, variable_word, application, no_words, words, term_meant, args_meant}
use Rattle.polarised_formulas.specs.Formula.{Formula, truth, falsity, atom, conj, disj, implies, for_all, exists}
use Rattle.polarised_formulas.specs.declared.connective.Joiner.{Joiner}
use Rattle.polarised_formulas.specs.declared.connective.Joiner.TheVariants.{And, Or, Implies}
use Rattle.polarised_formulas.specs.declared.connective.Binder.{Binder}
use Rattle.polarised_formulas.specs.declared.connective.Binder.TheVariants.{ForAll, Exists}
use Rattle.polarised_formulas.specs.Written.{WrittenFormula, true_unit, false_unit, literal, pair, bind, index_in, variable_meant, formula_meant, joined_by, bound_by}
use Rattle.polarised_formulas.specs.WrittenOf.{written_term, written_args, written_of}
use Rattle.polarised_formulas.specs.Size.{depth_of, HasFew, AllHaveFew, HasFewArguments}

-- how deep the written formula is nested
abbrev pub written_depth : WrittenFormula → ℕ
written_depth (true_unit p) = 1
written_depth (false_unit p) = 1
written_depth (literal positive x args) = 1
written_depth (pair j a b) = suc (max (written_depth a) (written_depth b))
written_depth (bind q x a) = suc (written_depth a)

abbrev pub words_count : WrittenArgs → ℕ
words_count no_words = 0
words_count (words t ts) = suc (words_count ts)

abbrev mutual
  -- each name of the written term has at most 255 arguments
  pub IsSmall : WrittenTerm → Type 0
  IsSmall (variable_word x) = Unit {0}
  IsSmall (application x args) = (words_count args ≤ 255) × AreSmall args

  pub AreSmall : WrittenArgs → Type 0
  AreSmall no_words = Unit {0}
  AreSmall (words t ts) = IsSmall t × AreSmall ts

-- each name of the written formula has at most 255 arguments
abbrev pub HasSmall : WrittenFormula → Type 0
HasSmall (true_unit p) = Unit {0}
HasSmall (false_unit p) = Unit {0}
HasSmall (literal positive x args) = (words_count args ≤ 255) × AreSmall args
HasSmall (pair j a b) = HasSmall a × HasSmall b
HasSmall (bind q x a) = HasSmall a

-- of a formula that is written
module _ (names : List (List ℕ)) where
  pub written_depth-written_of : (d : ℕ) (f : Formula) → written_depth (written_of names d f) ≡ depth_of f
  written_depth-written_of d (truth p) = refl
  written_depth-written_of d (falsity p) = refl
  written_depth-written_of d (atom positive f ts) = refl
  written_depth-written_of d (conj p a b) = rw (written_depth-written_of d a, written_depth-written_of d b) refl
  written_depth-written_of d (disj p a b) = rw (written_depth-written_of d a, written_depth-written_of d b) refl
  written_depth-written_of d (implies a b) = rw (written_depth-written_of d a, written_depth-written_of d b) refl
  written_depth-written_of d (for_all a) = ap suc (written_depth-written_of (suc d) a)
  written_depth-written_of d (exists a) = ap suc (written_depth-written_of (suc d) a)

  words_count-written_args : (d : ℕ) (ts : Args) → words_count (written_args names d ts) ≡ count ts
  words_count-written_args d no_args = refl
  words_count-written_args d (arg t ts) = ap suc (words_count-written_args d ts)

  mutual
    IsSmall-written_term : (d : ℕ) (t : Term) → HasFew t → IsSmall (written_term names d t)
    IsSmall-written_term d (eigen n) h = (omega arith, tt)
    IsSmall-written_term d (bound k) h = tt
    IsSmall-written_term d (variable v) h = tt
    IsSmall-written_term d (app f ts) h = (rw (words_count-written_args d ts) h.0, AreSmall-written_args d ts h.1)

    AreSmall-written_args : (d : ℕ) (ts : Args) → AllHaveFew ts → AreSmall (written_args names d ts)
    AreSmall-written_args d no_args h = tt
    AreSmall-written_args d (arg t ts) h = (IsSmall-written_term d t h.0, AreSmall-written_args d ts h.1)

  pub HasSmall-written_of : (d : ℕ) (f : Formula) → HasFewArguments f → HasSmall (written_of names d f)
  HasSmall-written_of d (truth p) h = tt
  HasSmall-written_of d (falsity p) h = tt
  HasSmall-written_of d (atom positive f ts) h = (rw (words_count-written_args d ts) h.0, AreSmall-written_args d ts h.1)
  HasSmall-written_of d (conj p a b) h = (HasSmall-written_of d a h.0, HasSmall-written_of d b h.1)
  HasSmall-written_of d (disj p a b) h = (HasSmall-written_of d a h.0, HasSmall-written_of d b h.1)
  HasSmall-written_of d (implies a b) h = (HasSmall-written_of d a h.0, HasSmall-written_of d b h.1)
  HasSmall-written_of d (for_all a) h = HasSmall-written_of (suc d) a h
  HasSmall-written_of d (exists a) h = HasSmall-written_of (suc d) a h

-- of a formula that is meant
depth_of-joined : (j : Joiner) (a b : Formula) → depth_of (joined_by j a b) ≡ suc (max (depth_of a) (depth_of b))
depth_of-joined (And p) a b = refl
depth_of-joined (Or p) a b = refl
depth_of-joined Implies a b = refl

depth_of-bound : (q : Binder) (a : Formula) → depth_of (bound_by q a) ≡ suc (depth_of a)
depth_of-bound ForAll a = refl
depth_of-bound Exists a = refl

few-joined : (j : Joiner) (a b : Formula) → HasFewArguments a → HasFewArguments b → HasFewArguments (joined_by j a b)
few-joined (And p) a b h k = (h, k)
few-joined (Or p) a b h k = (h, k)
few-joined Implies a b h k = (h, k)

few-bound : (q : Binder) (a : Formula) → HasFewArguments a → HasFewArguments (bound_by q a)
few-bound ForAll a h = h
few-bound Exists a h = h

module _ (number : List ℕ → ℕ) (parameters : List (List ℕ)) where
  pub depth_of-formula_meant : (scope : List (List ℕ)) (w : WrittenFormula) → depth_of (formula_meant number parameters scope w) ≡ written_depth w
  depth_of-formula_meant scope (true_unit p) = refl
  depth_of-formula_meant scope (false_unit p) = refl
  depth_of-formula_meant scope (literal positive x args) = refl
  depth_of-formula_meant scope (pair j a b) =
      rw (depth_of-joined j (formula_meant number parameters scope a) (formula_meant number parameters scope b))
      (rw (depth_of-formula_meant scope a, depth_of-formula_meant scope b) refl)
  depth_of-formula_meant scope (bind q x a) =
      rw (depth_of-bound q (formula_meant number parameters (x ∷ scope) a)) (ap suc (depth_of-formula_meant (x ∷ scope) a))

  few-variable : (scope : List (List ℕ)) (x : List ℕ) → HasFew (variable_meant parameters scope x)
  few-variable scope x = by_test (is_one_of scope x) where
    by_test : (v : Bool) → HasFew (if v then bound (index_in scope x) else variable (index_in parameters x))
    by_test true = tt
    by_test false = tt

  count-args_meant : (scope : List (List ℕ)) (ts : WrittenArgs) → count (args_meant number (variable_meant parameters scope) ts) ≡ words_count ts
  count-args_meant scope no_words = refl
  count-args_meant scope (words t ts) = ap suc (count-args_meant scope ts)

  mutual
    HasFew-term_meant : (scope : List (List ℕ)) (t : WrittenTerm) → IsSmall t → HasFew (term_meant number (variable_meant parameters scope) t)
    HasFew-term_meant scope (variable_word x) h = few-variable scope x
    HasFew-term_meant scope (application x ts) h = (rw (count-args_meant scope ts) h.0, AllHaveFew-args_meant scope ts h.1)

    AllHaveFew-args_meant : (scope : List (List ℕ)) (ts : WrittenArgs) → AreSmall ts → AllHaveFew (args_meant number (variable_meant parameters scope) ts)
    AllHaveFew-args_meant scope no_words h = tt
    AllHaveFew-args_meant scope (words t ts) h = (HasFew-term_meant scope t h.0, AllHaveFew-args_meant scope ts h.1)

  pub HasFewArguments-formula_meant : (scope : List (List ℕ)) (w : WrittenFormula) → HasSmall w → HasFewArguments (formula_meant number parameters scope w)
  HasFewArguments-formula_meant scope (true_unit p) h = tt
  HasFewArguments-formula_meant scope (false_unit p) h = tt
  HasFewArguments-formula_meant scope (literal positive x args) h = (rw (count-args_meant scope args) h.0, AllHaveFew-args_meant scope args h.1)
  HasFewArguments-formula_meant scope (pair j a b) h =
      few-joined j (formula_meant number parameters scope a) (formula_meant number parameters scope b)
      (HasFewArguments-formula_meant scope a h.0) (HasFewArguments-formula_meant scope b h.1)
  HasFewArguments-formula_meant scope (bind q x a) h =
      few-bound q (formula_meant number parameters (x ∷ scope) a) (HasFewArguments-formula_meant (x ∷ scope) a h)
