-- The variables of what was read occur first in the order of their numbers, and printed ones are numbered back.
use Rattle.std.proofs.Common.{◌≡◌, ℕ, zero, suc, ◌^◌, ◌<◌, ◌≤◌, Bool, true, false, if◌then◌else◌, nat_eq, List, [], ◌∷◌, ◌++◌, length, refl, ap, sym, subst, ◌∙◌, arith, Some, inl, inr, length-append}
use Rattle.std.specs.List.{slice_get}
use Rattle.std.specs.Fmt.{decimal}
use Rattle.std.proofs.lemmas.Fmt.{decimal_injective}
use Rattle.std.proofs.lemmas.Option.{slice_get_within}
use Rattle.std.proofs.lemmas.Bool.Decides.{nat_tests}
use Rattle.std.proofs.lemmas.Bool.{cases_Bool}
use Rattle.fpc_base.specs.Tokens.{is_one_of}
use Rattle.fpc_base.specs.Lexeme.{Lexeme}
use Rattle.fpc_terms.specs.Term.{Term, Args, eigen, bound, variable, app, no_args, arg, Each, EachArg, Never}
use Rattle.fpc_terms.specs.Name.{AreDifferent, HasName, Agrees, Grows, index_in, with_text}
use Rattle.fpc_terms.specs.Written.{WrittenTerm, WrittenArgs, variable_word, application, no_words, words, term_tokens, args_tokens, more_tokens, term_meant, args_meant, variables_in}
use Rattle.fpc_terms.specs.ReadTerm.{numbered}
use Rattle.fpc_terms.proofs.Places.{got_before, got_last, is_one_of-got, got-index_in, index_in-push, is_one_of-absent, index_in-different, Grows-with_text, got-with_text}
use Rattle.polarised_formulas.specs.WrittenOf.{IsNamed, AreNamed}
use Rattle.polarised_formulas.proofs.Meant.{number-of}
use Rattle.clause_language.specs.Spelled.{variable_text, spelled_term, spelled_args}
use Rattle.clause_language.specs.Printable.{Below}
use Rattle.clause_language.specs.Order.{variables_to, variables_to_all, IsOrdered, AreOrdered}
use Rattle.clause_language.proofs.Parameters.{AreDifferent-none, AreDifferent-push}

-- the different variables up to the end of a written term, behind earlier ones
abbrev mutual
  pub texts_to : WrittenTerm → List (List ℕ) → List (List ℕ)
  texts_to (variable_word x) vs = with_text vs x
  texts_to (application x args) vs = texts_to_all args vs

  pub texts_to_all : WrittenArgs → List (List ℕ) → List (List ℕ)
  texts_to_all no_words vs = vs
  texts_to_all (words t ts) vs = texts_to_all ts (texts_to t vs)

mutual
  pub variables_in-term : (t : WrittenTerm) (rest : List Lexeme) (vs : List (List ℕ)) → variables_in (term_tokens t rest) vs ≡ variables_in rest (texts_to t vs)
  variables_in-term (variable_word x) rest vs = refl
  variables_in-term (application x args) rest vs = variables_in-args args rest vs

  pub variables_in-args : (ts : WrittenArgs) (rest : List Lexeme) (vs : List (List ℕ)) → variables_in (args_tokens ts rest) vs ≡ variables_in rest (texts_to_all ts vs)
  variables_in-args no_words rest vs = refl
  variables_in-args (words t ts) rest vs = variables_in-term t (more_tokens ts rest) vs ∙ variables_in-more ts rest (texts_to t vs)

  variables_in-more : (ts : WrittenArgs) (rest : List Lexeme) (vs : List (List ℕ)) → variables_in (more_tokens ts rest) vs ≡ variables_in rest (texts_to_all ts vs)
  variables_in-more no_words rest vs = refl
  variables_in-more (words t ts) rest vs = variables_in-term t (more_tokens ts rest) vs ∙ variables_in-more ts rest (texts_to t vs)

-- texts stay different
pub AreDifferent-with_text : (texts : List (List ℕ)) (x : List ℕ) → AreDifferent texts → AreDifferent (with_text texts x)
AreDifferent-with_text texts x h =
    elim (cases_Bool (is_one_of texts x)) [
      | inl e ↦ rw e h
      | inr e ↦ rw e (AreDifferent-push texts x h e)
    ]

mutual
  pub AreDifferent-texts_to : (t : WrittenTerm) (vs : List (List ℕ)) → AreDifferent vs → AreDifferent (texts_to t vs)
  AreDifferent-texts_to (variable_word x) vs h = AreDifferent-with_text vs x h
  AreDifferent-texts_to (application x args) vs h = AreDifferent-texts_to_all args vs h

  pub AreDifferent-texts_to_all : (ts : WrittenArgs) (vs : List (List ℕ)) → AreDifferent vs → AreDifferent (texts_to_all ts vs)
  AreDifferent-texts_to_all no_words vs h = h
  AreDifferent-texts_to_all (words t ts) vs h = AreDifferent-texts_to_all ts (texts_to t vs) (AreDifferent-texts_to t vs h)

Grows-same : (vs : List (List ℕ)) → Grows vs vs
Grows-same vs k text h = h

Grows-then : (us vs ws : List (List ℕ)) → Grows us vs → Grows vs ws → Grows us ws
Grows-then us vs ws f g k text h = g k text (f k text h)

mutual
  Grows-texts_to : (t : WrittenTerm) (vs : List (List ℕ)) → Grows vs (texts_to t vs)
  Grows-texts_to (variable_word x) vs = Grows-with_text vs x
  Grows-texts_to (application x args) vs = Grows-texts_to_all args vs

  Grows-texts_to_all : (ts : WrittenArgs) (vs : List (List ℕ)) → Grows vs (texts_to_all ts vs)
  Grows-texts_to_all no_words vs = Grows-same vs
  Grows-texts_to_all (words t ts) vs = Grows-then vs (texts_to t vs) (texts_to_all ts (texts_to t vs)) (Grows-texts_to t vs) (Grows-texts_to_all ts (texts_to t vs))

-- one variable
same-number : (n : ℕ) → nat_eq n n ≡ true
same-number n = grind (arith, nat_tests)

less-number : (v n : ℕ) → v < n → nat_eq v n ≡ false
less-number v n lt = grind (arith, nat_tests)

known-variable : (v n : ℕ) → v < n → (v ≤ n) × (variables_to (variable v) n ≡ n)
known-variable v n lt = (omega (arith, lt), let e : nat_eq v n ≡ false = less-number v n lt in rw e refl)

next-variable : (v n : ℕ) → v ≡ n → (v ≤ n) × (variables_to (variable v) n ≡ suc n)
next-variable v n e = let s : nat_eq v n ≡ true = grind (arith, nat_tests, e) in (omega (arith, e), rw s refl)

-- ORDERED: what was read is in order, where each variable is numbered among all of them
module _ (number : List ℕ → ℕ) (all : List (List ℕ)) (different : AreDifferent all) where
  index_in-all : (vs : List (List ℕ)) (x : List ℕ) → Grows (with_text vs x) all → index_in all x ≡ index_in (with_text vs x) x
  index_in-all vs x g = index_in-different all (index_in (with_text vs x) x) x different (g (index_in (with_text vs x) x) x (got-with_text vs x))

  ordered-variable : (vs : List (List ℕ)) (x : List ℕ) → Grows (with_text vs x) all
      → (index_in all x ≤ length vs) × (variables_to (variable (index_in all x)) (length vs) ≡ length (with_text vs x))
  ordered-variable vs x g =
      elim (cases_Bool (is_one_of vs x)) [
        | inl e ↦
            let same : with_text vs x ≡ vs = rw e refl in
            let at : index_in all x ≡ index_in vs x = index_in-all vs x g ∙ ap (λ us. index_in us x) same in
            let lt : index_in vs x < length vs = slice_get_within vs (index_in vs x) x (got-index_in vs x e) in
            let k = known-variable (index_in all x) (length vs) (omega (arith, at, lt)) in
            (k.0, k.1 ∙ ap length (sym same))
        | inr e ↦
            let more : with_text vs x ≡ vs ++ x ∷ [] = rw e refl in
            let at : index_in all x ≡ length vs = index_in-all vs x g ∙ ap (λ us. index_in us x) more ∙ index_in-push vs x e in
            let n = next-variable (index_in all x) (length vs) at in
            let size : length (vs ++ x ∷ []) ≡ suc (length vs) = omega (arith, length-append vs (x ∷ [])) in
            (n.0, n.1 ∙ sym size ∙ ap length (sym more))
      ]

  mutual
    pub ordered-term : (t : WrittenTerm) (vs : List (List ℕ)) → Grows (texts_to t vs) all
        → IsOrdered (term_meant number (numbered (index_in all)) t) (length vs)
        × (variables_to (term_meant number (numbered (index_in all)) t) (length vs) ≡ length (texts_to t vs))
    ordered-term (variable_word x) vs g = ordered-variable vs x g
    ordered-term (application x args) vs g = ordered-args args vs g

    pub ordered-args : (ts : WrittenArgs) (vs : List (List ℕ)) → Grows (texts_to_all ts vs) all
        → AreOrdered (args_meant number (numbered (index_in all)) ts) (length vs)
        × (variables_to_all (args_meant number (numbered (index_in all)) ts) (length vs) ≡ length (texts_to_all ts vs))
    ordered-args no_words vs g = (tt, refl)
    ordered-args (words t ts) vs g =
        let us : List (List ℕ) = texts_to t vs in
        let first = ordered-term t vs (Grows-then us (texts_to_all ts us) all (Grows-texts_to_all ts us) g) in
        let later = ordered-args ts us g in
        let them : Args = args_meant number (numbered (index_in all)) ts in (
          (first.0, subst (AreOrdered them) (sym first.1) later.0),
          ap (variables_to_all them) first.1 ∙ later.1,
        )

-- a term by itself
pub ordered-whole_term : (number : List ℕ → ℕ) (t : WrittenTerm) → IsOrdered (term_meant number (numbered (index_in (texts_to t []))) t) 0
    × (variables_to (term_meant number (numbered (index_in (texts_to t []))) t) 0 ≡ length (texts_to t []))
ordered-whole_term number t =
    ordered-term number (texts_to t []) (AreDifferent-texts_to t [] AreDifferent-none) t [] (Grows-same (texts_to t []))

pub ordered-whole_args : (number : List ℕ → ℕ) (ts : WrittenArgs) → AreOrdered (args_meant number (numbered (index_in (texts_to_all ts []))) ts) 0
    × (variables_to_all (args_meant number (numbered (index_in (texts_to_all ts []))) ts) 0 ≡ length (texts_to_all ts []))
ordered-whole_args number ts =
    ordered-args number (texts_to_all ts []) (AreDifferent-texts_to_all ts [] AreDifferent-none) ts [] (Grows-same (texts_to_all ts []))

-- the printed variables, in order
abbrev pub numbered_texts : ℕ → List (List ℕ)
numbered_texts zero = []
numbered_texts (suc n) = numbered_texts n ++ variable_text n ∷ []

pub length-numbered_texts : (n : ℕ) → length (numbered_texts n) ≡ n
length-numbered_texts zero = refl
length-numbered_texts (suc n) = let h = length-numbered_texts n in omega (arith, length-append (numbered_texts n) (variable_text n ∷ []), h)

got-numbered : (n k : ℕ) → k < n → slice_get (numbered_texts n) k ≡ Some (variable_text k)
got-numbered zero k lt = absurd (omega (arith, lt))
got-numbered (suc n) k lt = by_test (nat_eq k n) refl (λ l. got-numbered n k l) where
  by_test : (b : Bool) → nat_eq k n ≡ b → (k < n → slice_get (numbered_texts n) k ≡ Some (variable_text k))
      → slice_get (numbered_texts n ++ variable_text n ∷ []) k ≡ Some (variable_text k)
  by_test false e earlier = got_before (numbered_texts n) (variable_text n ∷ []) k (variable_text k) (earlier (grind (arith, nat_tests, e, lt)))
  by_test true e earlier =
      let same : k ≡ n = grind (arith, nat_tests, e) in
      let at : k ≡ length (numbered_texts n) = same ∙ sym (length-numbered_texts n) in
      rw at (got_last (numbered_texts n) (variable_text n)) ∙ ap (λ m. Some (variable_text m)) (sym same)

numbered-got : (n k : ℕ) (x : List ℕ) → slice_get (numbered_texts n) k ≡ Some x → (k < n) × (x ≡ variable_text k)
numbered-got n k x h =
    let within : k < length (numbered_texts n) = slice_get_within (numbered_texts n) k x h in
    let lt : k < n = omega (arith, within, length-numbered_texts n) in
    let g : slice_get (numbered_texts n) k ≡ Some (variable_text k) = got-numbered n k lt in
    (lt, cc)

variable_text-injective : (j k : ℕ) → j < 2 ^ 64 → k < 2 ^ 64 → variable_text j ≡ variable_text k → j ≡ k
variable_text-injective j k lj lk e = let digits : decimal j ≡ decimal k = cc in decimal_injective j k lj lk digits

AreDifferent-numbered : (n : ℕ) → n ≤ 2 ^ 64 → AreDifferent (numbered_texts n)
AreDifferent-numbered n le i j text hi hj =
    let a = numbered-got n i text hi in
    let b = numbered-got n j text hj in
    variable_text-injective i j (omega (arith, a.0, le)) (omega (arith, b.0, le)) (sym a.1 ∙ b.1)

index_in-numbered : (n k : ℕ) → n ≤ 2 ^ 64 → k < n → index_in (numbered_texts n) (variable_text k) ≡ k
index_in-numbered n k le lt = index_in-different (numbered_texts n) k (variable_text k) (AreDifferent-numbered n le) (got-numbered n k lt)

with_text-numbered : (n v : ℕ) → v ≤ n → variables_to (variable v) n ≤ 2 ^ 64 → with_text (numbered_texts n) (variable_text v) ≡ numbered_texts (variables_to (variable v) n)
with_text-numbered n v le small = by_test (nat_eq v n) refl where
  by_test : (b : Bool) → nat_eq v n ≡ b → with_text (numbered_texts n) (variable_text v) ≡ numbered_texts (variables_to (variable v) n)
  by_test false e =
      let lt : v < n = grind (arith, nat_tests, e, le) in
      let has : is_one_of (numbered_texts n) (variable_text v) ≡ true = is_one_of-got (numbered_texts n) v (variable_text v) (got-numbered n v lt) in
      let same : variables_to (variable v) n ≡ n = (known-variable v n lt).1 in
      rw same (rw has refl)
  by_test true e =
      let at : v ≡ n = grind (arith, nat_tests, e) in
      let next : variables_to (variable v) n ≡ suc n = (next-variable v n at).1 in
      let lt : n < 2 ^ 64 = omega (arith, small, next) in
      let no : is_one_of (numbered_texts n) (variable_text v) ≡ false = is_one_of-absent (numbered_texts n) (variable_text v) (absent at lt) in
      rw next (rw no (ap (λ m. numbered_texts n ++ variable_text m ∷ []) at))
    where
      absent : v ≡ n → n < 2 ^ 64 → HasName (numbered_texts n) (variable_text v) → ⊥
      absent at lt h =
          let g = numbered-got n h.0 (variable_text v) h.1 in
          let same : v ≡ h.0 = variable_text-injective v h.0 (omega (arith, at, lt)) (omega (arith, g.0, lt)) g.1 in
          omega (arith, same, g.0, at)

-- the count of variables never falls
mutual
  pub variables_to-grows : (t : Term) (n : ℕ) → n ≤ variables_to t n
  variables_to-grows (eigen k) n = omega arith
  variables_to-grows (bound k) n = omega arith
  variables_to-grows (variable v) n = by_test (nat_eq v n) where
    by_test : (b : Bool) → n ≤ (if b then suc n else n)
    by_test true = omega arith
    by_test false = omega arith
  variables_to-grows (app f ts) n = variables_to_all-grows ts n

  pub variables_to_all-grows : (ts : Args) (n : ℕ) → n ≤ variables_to_all ts n
  variables_to_all-grows no_args n = omega arith
  variables_to_all-grows (arg t ts) n = omega (arith, variables_to-grows t n, variables_to_all-grows ts (variables_to t n))

-- each variable is below the count
mutual
  pub below-term : (m : ℕ) (t : Term) (n : ℕ) → IsOrdered t n → variables_to t n ≤ m → Each Never Never (Below m) t
  below-term m (eigen k) n o le = absurd o
  below-term m (bound k) n o le = absurd o
  below-term m (variable v) n o le = by_test (nat_eq v n) refl where
    by_test : (b : Bool) → nat_eq v n ≡ b → v < m
    by_test false e = let lt : v < n = grind (arith, nat_tests, e, o) in let g = variables_to-grows (variable v) n in omega (arith, lt, le, g)
    by_test true e = let at : v ≡ n = grind (arith, nat_tests, e) in let next : variables_to (variable v) n ≡ suc n = (next-variable v n at).1 in omega (arith, at, le, next)
  below-term m (app f ts) n o le = below-args m ts n o le

  pub below-args : (m : ℕ) (ts : Args) (n : ℕ) → AreOrdered ts n → variables_to_all ts n ≤ m → EachArg Never Never (Below m) ts
  below-args m no_args n o le = tt
  below-args m (arg t ts) n o le =
      (below-term m t n o.0 (omega (arith, le, variables_to_all-grows ts (variables_to t n))), below-args m ts (variables_to t n) o.1 le)

-- PRINTED: printed variables occur in order
module _ (names : List (List ℕ)) where
  mutual
    pub texts_to-spelled : (t : Term) (n : ℕ) → IsOrdered t n → variables_to t n ≤ 2 ^ 64 → texts_to (spelled_term names t) (numbered_texts n) ≡ numbered_texts (variables_to t n)
    texts_to-spelled (eigen k) n o le = absurd o
    texts_to-spelled (bound k) n o le = absurd o
    texts_to-spelled (variable v) n o le = with_text-numbered n v o le
    texts_to-spelled (app f ts) n o le = texts_to_all-spelled ts n o le

    pub texts_to_all-spelled : (ts : Args) (n : ℕ) → AreOrdered ts n → variables_to_all ts n ≤ 2 ^ 64
        → texts_to_all (spelled_args names ts) (numbered_texts n) ≡ numbered_texts (variables_to_all ts n)
    texts_to_all-spelled no_args n o le = refl
    texts_to_all-spelled (arg t ts) n o le =
        let first = texts_to-spelled t n o.0 (omega (arith, le, variables_to_all-grows ts (variables_to t n))) in
        ap (texts_to_all (spelled_args names ts)) first ∙ texts_to_all-spelled ts (variables_to t n) o.1 le

  -- and are numbered back
  module _ (number : List ℕ → ℕ) (agrees : Agrees number names) where
    mutual
      pub term_meant-spelled : (m : ℕ) (t : Term) → m ≤ 2 ^ 64 → Each Never Never (Below m) t → IsNamed names t
          → term_meant number (numbered (index_in (numbered_texts m))) (spelled_term names t) ≡ t
      term_meant-spelled m (eigen k) le b named = absurd b
      term_meant-spelled m (bound k) le b named = absurd b
      term_meant-spelled m (variable v) le b named = ap variable (index_in-numbered m v le b)
      term_meant-spelled m (app f ts) le b named = rw (number-of names number agrees f named.0, args_meant-spelled m ts le b named.1) refl

      pub args_meant-spelled : (m : ℕ) (ts : Args) → m ≤ 2 ^ 64 → EachArg Never Never (Below m) ts → AreNamed names ts
          → args_meant number (numbered (index_in (numbered_texts m))) (spelled_args names ts) ≡ ts
      args_meant-spelled m no_args le b named = refl
      args_meant-spelled m (arg t ts) le b named = rw (term_meant-spelled m t le b.0 named.0, args_meant-spelled m ts le b.1 named.1) refl
