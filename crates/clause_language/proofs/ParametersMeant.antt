-- The written formula of a declared formula, whose parameters are variables, means the formula, is bound and has its names in the table.
use Rattle.std.proofs.Common.{◌≡◌, ℕ, zero, suc, ◌+◌, ◌-◌, ◌^◌, ◌<◌, ◌≤◌, Bool, true, false, ◌||◌, List, [], length, refl, ap, sym, ◌∙◌, arith, Some}
use Rattle.std.specs.List.{slice_get}
use Rattle.std.specs.Fmt.{decimal}
use Rattle.std.proofs.lemmas.Fmt.{decimal_injective}
use Rattle.std.proofs.lemmas.Option.{slice_get_within}
use Rattle.fpc_base.specs.Tokens.{is_one_of}
use Rattle.fpc_terms.specs.Term.{Term, Args, eigen, bound, variable, app, no_args, arg, Each, EachArg, Never}
use Rattle.fpc_terms.specs.Name.{Agrees, HasName, AreDifferent, index_in}
use Rattle.fpc_terms.specs.Written.{IsKnown, AreKnown, term_meant, args_meant}
use Rattle.fpc_terms.proofs.Places.{is_one_of-got, index_in-different}
use Rattle.polarised_formulas.specs.Formula.{Formula, truth, falsity, atom, conj, disj, implies, for_all, exists, EachInside, Tied}
use Rattle.polarised_formulas.specs.Written.{is_known, IsBound, variable_meant, formula_meant}
use Rattle.polarised_formulas.specs.WrittenOf.{bound_text, bound_scope, written_term, written_args, written_of, IsNamed, AreNamed, HasNames}
use Rattle.polarised_formulas.specs.EachName.{EachName, EachNameOf, EachNameIn}
use Rattle.polarised_formulas.specs.Size.{depth_of}
use Rattle.polarised_formulas.proofs.Meant.{bound_scope-has, name_in-stands, number-of}
use Rattle.clause_language.specs.Text.{parameter_text}
use Rattle.clause_language.specs.Spelled.{parameters_from}
use Rattle.clause_language.specs.Printable.{Below}

pub length-parameters_from : (k n : ℕ) → length (parameters_from k n) ≡ n
length-parameters_from k zero = refl
length-parameters_from k (suc n) = ap suc (length-parameters_from (suc k) n)

got-parameter : (k n i : ℕ) → i < n → slice_get (parameters_from k n) i ≡ Some (parameter_text (k + i))
got-parameter k zero i lt = absurd (omega (arith, lt))
got-parameter k (suc n) zero lt = let e : k + 0 ≡ k = omega arith in ap (λ m. Some (parameter_text m)) (sym e)
got-parameter k (suc n) (suc i) lt =
    let e : suc k + i ≡ k + suc i = omega arith in got-parameter (suc k) n i (omega (arith, lt)) ∙ ap (λ m. Some (parameter_text m)) e

got-first : (n i : ℕ) → i < n → slice_get (parameters_from 0 n) i ≡ Some (parameter_text i)
got-first n i lt = let e : 0 + i ≡ i = omega arith in got-parameter 0 n i lt ∙ ap (λ m. Some (parameter_text m)) e

first-got : (n i : ℕ) (x : List ℕ) → slice_get (parameters_from 0 n) i ≡ Some x → (i < n) × (x ≡ parameter_text i)
first-got n i x h =
    let within = slice_get_within (parameters_from 0 n) i x h in
    let lt : i < n = omega (arith, within, length-parameters_from 0 n) in
    let g = got-first n i lt in
    (lt, cc)

-- the parameters are different
pub AreDifferent-parameters_from : (n : ℕ) → n ≤ 2 ^ 64 → AreDifferent (parameters_from 0 n)
AreDifferent-parameters_from n le i j text hi hj =
    let a = first-got n i text hi in
    let b = first-got n j text hj in
    let same : parameter_text i ≡ parameter_text j = sym a.1 ∙ b.1 in
    let digits : decimal i ≡ decimal j = cc in
    decimal_injective i j (omega (arith, a.0, le)) (omega (arith, b.0, le)) digits

-- a parameter is no bound variable
not-bound : (d v : ℕ) → is_one_of (bound_scope d) (parameter_text v) ≡ false
not-bound zero v = refl
not-bound (suc d) v = not-bound d v

parameter-known : (n d v : ℕ) → v < n → is_known (parameters_from 0 n) (bound_scope d) (parameter_text v) ≡ true
parameter-known n d v lt =
    let one : is_one_of (parameters_from 0 n) (parameter_text v) ≡ true = is_one_of-got (parameters_from 0 n) v (parameter_text v) (got-first n v lt) in
    rw (not-bound d v, one) refl

parameter-meant : (n d v : ℕ) → n ≤ 2 ^ 64 → v < n → variable_meant (parameters_from 0 n) (bound_scope d) (parameter_text v) ≡ variable v
parameter-meant n d v le lt =
    let at : index_in (parameters_from 0 n) (parameter_text v) ≡ v =
    index_in-different (parameters_from 0 n) v (parameter_text v) (AreDifferent-parameters_from n le) (got-first n v lt) in
    rw (not-bound d v) (ap variable at)

or-true : (a b : Bool) → a ≡ true → (a || b) ≡ true
or-true a b h = rw h refl

module _ (names : List (List ℕ)) (n : ℕ) where
  abbrev Scoped : ℕ → Term → Type 0
  Scoped d t = Each Never (Tied d) (Below n) t

  abbrev AllScoped : ℕ → Args → Type 0
  AllScoped d ts = EachArg Never (Tied d) (Below n) ts

  mutual
    known-term : (d : ℕ) (t : Term) → d ≤ 2 ^ 64 → Scoped d t → IsKnown (is_known (parameters_from 0 n) (bound_scope d)) (written_term names d t)
    known-term d (eigen k) le h = absurd h
    known-term d (bound k) le h =
        or-true (is_one_of (bound_scope d) (bound_text (d - 1 - k))) (is_one_of (parameters_from 0 n) (bound_text (d - 1 - k))) (bound_scope-has d k le h).0
    known-term d (variable v) le h = parameter-known n d v h
    known-term d (app f ts) le h = known-args d ts le h

    known-args : (d : ℕ) (ts : Args) → d ≤ 2 ^ 64 → AllScoped d ts → AreKnown (is_known (parameters_from 0 n) (bound_scope d)) (written_args names d ts)
    known-args d no_args le h = tt
    known-args d (arg t ts) le h = (known-term d t le h.0, known-args d ts le h.1)

  -- the written formula is bound
  pub bound-written_of : (d : ℕ) (f : Formula) → d + depth_of f ≤ 2 ^ 64 → EachInside Never Tied (Below n) d f → IsBound (parameters_from 0 n) (bound_scope d) (written_of names d f)
  bound-written_of d (truth p) le h = tt
  bound-written_of d (falsity p) le h = tt
  bound-written_of d (atom positive f ts) le h = known-args d ts (omega (arith, le)) h
  bound-written_of d (conj p a b) le h = (bound-written_of d a (omega (arith, le)) h.0, bound-written_of d b (omega (arith, le)) h.1)
  bound-written_of d (disj p a b) le h = (bound-written_of d a (omega (arith, le)) h.0, bound-written_of d b (omega (arith, le)) h.1)
  bound-written_of d (implies a b) le h = (bound-written_of d a (omega (arith, le)) h.0, bound-written_of d b (omega (arith, le)) h.1)
  bound-written_of d (for_all a) le h = bound-written_of (suc d) a (omega (arith, le)) h
  bound-written_of d (exists a) le h = bound-written_of (suc d) a (omega (arith, le)) h

  mutual
    in_table-term : (d : ℕ) (t : Term) → Scoped d t → IsNamed names t → EachName (HasName names) (written_term names d t)
    in_table-term d (eigen k) h named = absurd h
    in_table-term d (bound k) h named = tt
    in_table-term d (variable v) h named = tt
    in_table-term d (app f ts) h named = ((f, name_in-stands names f named.0), in_table-args d ts h named.1)

    in_table-args : (d : ℕ) (ts : Args) → AllScoped d ts → AreNamed names ts → EachNameOf (HasName names) (written_args names d ts)
    in_table-args d no_args h named = tt
    in_table-args d (arg t ts) h named = (in_table-term d t h.0 named.0, in_table-args d ts h.1 named.1)

  -- its names are in the table
  pub in_table-written_of : (d : ℕ) (f : Formula) → EachInside Never Tied (Below n) d f → HasNames names f → EachNameIn (HasName names) (written_of names d f)
  in_table-written_of d (truth p) h named = tt
  in_table-written_of d (falsity p) h named = tt
  in_table-written_of d (atom positive f ts) h named = ((f, name_in-stands names f named.0), in_table-args d ts h named.1)
  in_table-written_of d (conj p a b) h named = (in_table-written_of d a h.0 named.0, in_table-written_of d b h.1 named.1)
  in_table-written_of d (disj p a b) h named = (in_table-written_of d a h.0 named.0, in_table-written_of d b h.1 named.1)
  in_table-written_of d (implies a b) h named = (in_table-written_of d a h.0 named.0, in_table-written_of d b h.1 named.1)
  in_table-written_of d (for_all a) h named = in_table-written_of (suc d) a h named
  in_table-written_of d (exists a) h named = in_table-written_of (suc d) a h named

  module _ (number : List ℕ → ℕ) (agrees : Agrees number names) (small : n ≤ 2 ^ 64) where
    mutual
      meant-term : (d : ℕ) (t : Term) → d ≤ 2 ^ 64 → Scoped d t → IsNamed names t
          → term_meant number (variable_meant (parameters_from 0 n) (bound_scope d)) (written_term names d t) ≡ t
      meant-term d (eigen k) le h named = absurd h
      meant-term d (bound k) le h named = let s = bound_scope-has d k le h in rw (s.0, s.1) refl
      meant-term d (variable v) le h named = parameter-meant n d v small h
      meant-term d (app f ts) le h named = rw (number-of names number agrees f named.0, meant-args d ts le h named.1) refl

      meant-args : (d : ℕ) (ts : Args) → d ≤ 2 ^ 64 → AllScoped d ts → AreNamed names ts
          → args_meant number (variable_meant (parameters_from 0 n) (bound_scope d)) (written_args names d ts) ≡ ts
      meant-args d no_args le h named = refl
      meant-args d (arg t ts) le h named = rw (meant-term d t le h.0 named.0, meant-args d ts le h.1 named.1) refl

    meant-within : (d : ℕ) (f : Formula) → d + depth_of f ≤ 2 ^ 64 → EachInside Never Tied (Below n) d f → HasNames names f
        → formula_meant number (parameters_from 0 n) (bound_scope d) (written_of names d f) ≡ f
    meant-within d (truth p) le h named = refl
    meant-within d (falsity p) le h named = refl
    meant-within d (atom positive f ts) le h named = rw (number-of names number agrees f named.0, meant-args d ts (omega (arith, le)) h named.1) refl
    meant-within d (conj p a b) le h named = rw (meant-within d a (omega (arith, le)) h.0 named.0, meant-within d b (omega (arith, le)) h.1 named.1) refl
    meant-within d (disj p a b) le h named = rw (meant-within d a (omega (arith, le)) h.0 named.0, meant-within d b (omega (arith, le)) h.1 named.1) refl
    meant-within d (implies a b) le h named = rw (meant-within d a (omega (arith, le)) h.0 named.0, meant-within d b (omega (arith, le)) h.1 named.1) refl
    meant-within d (for_all a) le h named = ap for_all (meant-within (suc d) a (omega (arith, le)) h named)
    meant-within d (exists a) le h named = ap exists (meant-within (suc d) a (omega (arith, le)) h named)

    -- MEANT: the written formula means the formula
    pub meant-written_of : (f : Formula) → depth_of f ≤ 2 ^ 64 → EachInside Never Tied (Below n) 0 f → HasNames names f
        → formula_meant number (parameters_from 0 n) [] (written_of names 0 f) ≡ f
    meant-written_of f le h named = meant-within 0 f (omega (arith, le)) h named
