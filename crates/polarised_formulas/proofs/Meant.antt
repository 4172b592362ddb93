-- The written formula of a formula means the formula, is bound and is of its logic.
use Rattle.std.proofs.Common.{◌≡◌, ℕ, zero, suc, ◌+◌, ◌-◌, ◌^◌, ◌<◌, ◌≤◌, Bool, true, false, ◌||◌, List, [], ◌∷◌, refl, ap, sym, subst, ◌∙◌, arith, Option, Some, None}
use Rattle.std.specs.Prelude.{slice_get, unwrap_or}
use Rattle.std.specs.Str.{bytes_eq}
use Rattle.std.specs.Fmt.{decimal}
use Rattle.std.proofs.lemmas.Option.{unwrap_or-slice_get}
use Rattle.std.proofs.lemmas.Bool.{false≢true}
use Rattle.std.proofs.lemmas.Fmt.{decimal_injective}
use Rattle.std.proofs.lemmas.Slice.Eq.{bytes_eq-Decides}
use Rattle.fpc_base.specs.declared.tokens.TokenKind.TheVariants.{Name}
use Rattle.fpc_base.specs.declared.tokens.lexeme.Sign.TheVariants as sign
use Rattle.fpc_base.specs.Tokens.{is_one_of, HasForm}
use Rattle.fpc_base.specs.Lexeme.{a_sign}
use Rattle.fpc_terms.specs.Term.{Term, Args, eigen, bound, variable, app, no_args, arg, Each, EachArg, Never}
use Rattle.fpc_terms.specs.Text.{name_in}
use Rattle.fpc_terms.specs.Name.{Agrees, HasName}
use Rattle.fpc_terms.specs.Written.{IsKnown, AreKnown, term_meant, args_meant}
use Rattle.polarised_formulas.specs.declared.logic.Logic.{Logic}
use Rattle.polarised_formulas.specs.declared.logic.Logic.TheVariants.{Lkf, Ljf}
use Rattle.polarised_formulas.specs.declared.logic.Polarity.TheVariants.{Positive, Negative}
use Rattle.polarised_formulas.specs.Formula.{Formula, truth, falsity, atom, conj, disj, implies, for_all, exists, EachInside, Tied, IsClosed, IsOfLogic}
use Rattle.polarised_formulas.specs.Written.{formula_tokens, logic_word, is_known, IsBound, IsWrittenIn, index_in, variable_meant, formula_meant, IsProblem}
use Rattle.polarised_formulas.specs.WrittenOf.{bound_text, bound_scope, written_term, written_args, written_of, IsNamed, AreNamed, HasNames}
use Rattle.polarised_formulas.specs.EachName.{EachName, EachNameOf, EachNameIn}
use Rattle.polarised_formulas.specs.Size.{depth_of}

-- the variables bound at different depths are different
bound_text-differ : (j k : ℕ) → j < 2 ^ 64 → k < 2 ^ 64 → (j ≡ k → ⊥) → bytes_eq (bound_text j) (bound_text k) ≡ false
bound_text-differ j k lj lk n = by_test (bytes_eq (bound_text j) (bound_text k)) refl where
  by_test : (v : Bool) → bytes_eq (bound_text j) (bound_text k) ≡ v → v ≡ false
  by_test false e = refl
  by_test true e =
      let same : bound_text j ≡ bound_text k = (bytes_eq-Decides (bound_text j) (bound_text k)).0 e in
      let digits : decimal j ≡ decimal k = cc in
      absurd (n (decimal_injective j k lj lk digits))

bytes_eq-same : (x : List ℕ) → bytes_eq x x ≡ true
bytes_eq-same x = (bytes_eq-Decides x x).1 refl

-- the variable that is bound k quantifiers further in is found there
pub bound_scope-has : (d k : ℕ) → d ≤ 2 ^ 64 → k < d
    → (is_one_of (bound_scope d) (bound_text (d - 1 - k)) ≡ true) × (index_in (bound_scope d) (bound_text (d - 1 - k)) ≡ k)
bound_scope-has zero k le lt = absurd (omega (arith, lt))
bound_scope-has (suc d) zero le lt =
    let e : suc d - 1 - 0 ≡ d = omega arith in
    let F : ℕ → Type 0 = λ m. (is_one_of (bound_scope (suc d)) (bound_text m) ≡ true) × (index_in (bound_scope (suc d)) (bound_text m) ≡ zero) in
    subst F (sym e) (rw (bytes_eq-same (bound_text d)) (refl, refl))
bound_scope-has (suc d) (suc k) le lt =
    let e : suc d - 1 - suc k ≡ d - 1 - k = omega arith in
    let h = bound_scope-has d k (omega (arith, le)) (omega (arith, lt)) in
    let n : bytes_eq (bound_text (d - 1 - k)) (bound_text d) ≡ false =
    bound_text-differ (d - 1 - k) d (omega (arith, le)) (omega (arith, le)) (λ q. omega (arith, q, lt)) in
    let F : ℕ → Type 0 = λ m. (is_one_of (bound_scope (suc d)) (bound_text m) ≡ true) × (index_in (bound_scope (suc d)) (bound_text m) ≡ suc k) in
    subst F (sym e) (rw n (h.0, ap suc h.1))

or-true : (a b : Bool) → a ≡ true → (a || b) ≡ true
or-true a b h = rw h refl

-- a name of the table stands at its number
pub name_in-stands : (names : List (List ℕ)) (k : ℕ) → HasForm Name (name_in names k) → slice_get names k ≡ Some (name_in names k)
name_in-stands names k h = by_case (slice_get names k) refl where
  by_case : (o : Option (List ℕ)) → slice_get names k ≡ o → o ≡ Some (name_in names k)
  by_case (Some x) e = let u : x ≡ name_in names k = ap (λ r. unwrap_or r []) (sym e) ∙ unwrap_or-slice_get names k [] in ap Some u
  by_case None e =
      let u : [] ≡ name_in names k = ap (λ r. unwrap_or r []) (sym e) ∙ unwrap_or-slice_get names k [] in
      let f : HasForm Name [] = rw (← u) at h in absurd (false≢true f.0)

module _ (names : List (List ℕ)) where
  mutual
    known-term : (d : ℕ) (t : Term) → d ≤ 2 ^ 64 → Each Never (Tied d) Never t → IsKnown (is_known [] (bound_scope d)) (written_term names d t)
    known-term d (eigen n) le tied = absurd tied
    known-term d (bound k) le tied = or-true (is_one_of (bound_scope d) (bound_text (d - 1 - k))) false (bound_scope-has d k le tied).0
    known-term d (variable v) le tied = absurd tied
    known-term d (app f ts) le tied = known-args d ts le tied

    known-args : (d : ℕ) (ts : Args) → d ≤ 2 ^ 64 → EachArg Never (Tied d) Never ts → AreKnown (is_known [] (bound_scope d)) (written_args names d ts)
    known-args d no_args le tied = tt
    known-args d (arg t ts) le tied = (known-term d t le tied.0, known-args d ts le tied.1)

  pub IsBound-written_of : (d : ℕ) (f : Formula) → d + depth_of f ≤ 2 ^ 64 → EachInside Never Tied Never d f → IsBound [] (bound_scope d) (written_of names d f)
  IsBound-written_of d (truth p) le tied = tt
  IsBound-written_of d (falsity p) le tied = tt
  IsBound-written_of d (atom positive f ts) le tied = known-args d ts (omega (arith, le)) tied
  IsBound-written_of d (conj p a b) le tied = (IsBound-written_of d a (omega (arith, le)) tied.0, IsBound-written_of d b (omega (arith, le)) tied.1)
  IsBound-written_of d (disj p a b) le tied = (IsBound-written_of d a (omega (arith, le)) tied.0, IsBound-written_of d b (omega (arith, le)) tied.1)
  IsBound-written_of d (implies a b) le tied = (IsBound-written_of d a (omega (arith, le)) tied.0, IsBound-written_of d b (omega (arith, le)) tied.1)
  IsBound-written_of d (for_all a) le tied = IsBound-written_of (suc d) a (omega (arith, le)) tied
  IsBound-written_of d (exists a) le tied = IsBound-written_of (suc d) a (omega (arith, le)) tied

  pub IsWrittenIn-written_of : (logic : Logic) (d : ℕ) (f : Formula) → IsOfLogic logic f → IsWrittenIn logic (written_of names d f)
  IsWrittenIn-written_of logic d (truth p) l = tt
  IsWrittenIn-written_of Lkf d (falsity p) l = tt
  IsWrittenIn-written_of Ljf d (falsity Positive) l = tt
  IsWrittenIn-written_of Ljf d (falsity Negative) l = l
  IsWrittenIn-written_of logic d (atom positive f ts) l = tt
  IsWrittenIn-written_of Lkf d (conj p a b) l = (tt, IsWrittenIn-written_of Lkf d a l.0, IsWrittenIn-written_of Lkf d b l.1)
  IsWrittenIn-written_of Ljf d (conj p a b) l = (tt, IsWrittenIn-written_of Ljf d a l.0, IsWrittenIn-written_of Ljf d b l.1)
  IsWrittenIn-written_of Lkf d (disj p a b) l = (tt, IsWrittenIn-written_of Lkf d a l.0, IsWrittenIn-written_of Lkf d b l.1)
  IsWrittenIn-written_of Ljf d (disj Positive a b) l = (tt, IsWrittenIn-written_of Ljf d a l.0, IsWrittenIn-written_of Ljf d b l.1)
  IsWrittenIn-written_of Ljf d (disj Negative a b) l = absurd l
  IsWrittenIn-written_of Lkf d (implies a b) l = absurd l
  IsWrittenIn-written_of Ljf d (implies a b) l = (tt, IsWrittenIn-written_of Ljf d a l.0, IsWrittenIn-written_of Ljf d b l.1)
  IsWrittenIn-written_of Lkf d (for_all a) l = IsWrittenIn-written_of Lkf (suc d) a l
  IsWrittenIn-written_of Ljf d (for_all a) l = IsWrittenIn-written_of Ljf (suc d) a l
  IsWrittenIn-written_of Lkf d (exists a) l = IsWrittenIn-written_of Lkf (suc d) a l
  IsWrittenIn-written_of Ljf d (exists a) l = IsWrittenIn-written_of Ljf (suc d) a l

  mutual
    in_table-term : (d : ℕ) (t : Term) → Each Never (Tied d) Never t → IsNamed names t → EachName (HasName names) (written_term names d t)
    in_table-term d (eigen n) tied named = absurd tied
    in_table-term d (bound k) tied named = tt
    in_table-term d (variable v) tied named = tt
    in_table-term d (app f ts) tied named = ((f, name_in-stands names f named.0), in_table-args d ts tied named.1)

    in_table-args : (d : ℕ) (ts : Args) → EachArg Never (Tied d) Never ts → AreNamed names ts → EachNameOf (HasName names) (written_args names d ts)
    in_table-args d no_args tied named = tt
    in_table-args d (arg t ts) tied named = (in_table-term d t tied.0 named.0, in_table-args d ts tied.1 named.1)

  -- its names are in the table
  pub EachNameIn-written_of : (d : ℕ) (f : Formula) → EachInside Never Tied Never d f → HasNames names f → EachNameIn (HasName names) (written_of names d f)
  EachNameIn-written_of d (truth p) tied named = tt
  EachNameIn-written_of d (falsity p) tied named = tt
  EachNameIn-written_of d (atom positive f ts) tied named = ((f, name_in-stands names f named.0), in_table-args d ts tied named.1)
  EachNameIn-written_of d (conj p a b) tied named = (EachNameIn-written_of d a tied.0 named.0, EachNameIn-written_of d b tied.1 named.1)
  EachNameIn-written_of d (disj p a b) tied named = (EachNameIn-written_of d a tied.0 named.0, EachNameIn-written_of d b tied.1 named.1)
  EachNameIn-written_of d (implies a b) tied named = (EachNameIn-written_of d a tied.0 named.0, EachNameIn-written_of d b tied.1 named.1)
  EachNameIn-written_of d (for_all a) tied named = EachNameIn-written_of (suc d) a tied named
  EachNameIn-written_of d (exists a) tied named = EachNameIn-written_of (suc d) a tied named

  -- the tokens of the written formula are those of a problem
  pub IsProblem-written_of : (logic : Logic) (f : Formula) → depth_of f ≤ 2 ^ 64 → IsClosed f → IsOfLogic logic f
      → IsProblem (logic_word logic ∷ formula_tokens logic (written_of names 0 f) (a_sign sign.Dot ∷ [])) (record { logic = logic; formula = written_of names 0 f })
  IsProblem-written_of logic f le closed l = record {
    spelled = refl;
    is_bound = IsBound-written_of 0 f (omega (arith, le)) closed;
    in_logic = IsWrittenIn-written_of logic 0 f l;
  }

module _ (names : List (List ℕ)) (number : List ℕ → ℕ) (agrees : Agrees number names) where
  pub number-of : (k : ℕ) → HasForm Name (name_in names k) → number (name_in names k) ≡ k
  number-of k h = agrees k (name_in names k) (name_in-stands names k h)

  mutual
    term_meant-written : (d : ℕ) (t : Term) → d ≤ 2 ^ 64 → Each Never (Tied d) Never t → IsNamed names t
        → term_meant number (variable_meant [] (bound_scope d)) (written_term names d t) ≡ t
    term_meant-written d (eigen n) le tied named = absurd tied
    term_meant-written d (bound k) le tied named = let h = bound_scope-has d k le tied in rw (h.0, h.1) refl
    term_meant-written d (variable v) le tied named = absurd tied
    term_meant-written d (app f ts) le tied named = rw (number-of f named.0, args_meant-written d ts le tied named.1) refl

    args_meant-written : (d : ℕ) (ts : Args) → d ≤ 2 ^ 64 → EachArg Never (Tied d) Never ts → AreNamed names ts
        → args_meant number (variable_meant [] (bound_scope d)) (written_args names d ts) ≡ ts
    args_meant-written d no_args le tied named = refl
    args_meant-written d (arg t ts) le tied named = rw (term_meant-written d t le tied.0 named.0, args_meant-written d ts le tied.1 named.1) refl

  formula_meant-within : (d : ℕ) (f : Formula) → d + depth_of f ≤ 2 ^ 64 → EachInside Never Tied Never d f → HasNames names f
      → formula_meant number [] (bound_scope d) (written_of names d f) ≡ f
  formula_meant-within d (truth p) le tied named = refl
  formula_meant-within d (falsity p) le tied named = refl
  formula_meant-within d (atom positive f ts) le tied named = rw (number-of f named.0, args_meant-written d ts (omega (arith, le)) tied named.1) refl
  formula_meant-within d (conj p a b) le tied named =
      rw (formula_meant-within d a (omega (arith, le)) tied.0 named.0, formula_meant-within d b (omega (arith, le)) tied.1 named.1) refl
  formula_meant-within d (disj p a b) le tied named =
      rw (formula_meant-within d a (omega (arith, le)) tied.0 named.0, formula_meant-within d b (omega (arith, le)) tied.1 named.1) refl
  formula_meant-within d (implies a b) le tied named =
      rw (formula_meant-within d a (omega (arith, le)) tied.0 named.0, formula_meant-within d b (omega (arith, le)) tied.1 named.1) refl
  formula_meant-within d (for_all a) le tied named = ap for_all (formula_meant-within (suc d) a (omega (arith, le)) tied named)
  formula_meant-within d (exists a) le tied named = ap exists (formula_meant-within (suc d) a (omega (arith, le)) tied named)

  -- MEANT: the written formula of a closed formula means it
  pub formula_meant-written_of : (f : Formula) → depth_of f ≤ 2 ^ 64 → IsClosed f → HasNames names f → formula_meant number [] [] (written_of names 0 f) ≡ f
  formula_meant-written_of f le closed named = formula_meant-within 0 f (omega (arith, le)) closed named
