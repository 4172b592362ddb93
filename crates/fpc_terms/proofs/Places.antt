-- Where texts stand in a list.
use Rattle.std.proofs.Common.{◌≡◌, ℕ, true, false, Some, List, [], ◌∷◌, ◌++◌, ◌⊎◌, length, refl, sym, ap, subst, inl, inr, arith, zero, suc}
use Rattle.std.specs.List.{slice_get}
use Rattle.std.specs.Str.{bytes_eq}
use Rattle.std.specs.Cmp.Lexicographic.{bytes_decides}
use Rattle.std.proofs.lemmas.Bool.{cases_Bool}
use Rattle.fpc_base.specs.Tokens.{is_one_of}
use Rattle.fpc_terms.specs.Name.{IsName, HasName, AreNames, AreDifferent, IsInterned, Grows, index_in, with_text}

-- a place in a longer list
pub got_push : {X : Type 0} (xs : List X) (x y : X) (i : ℕ) → slice_get (xs ++ x ∷ []) i ≡ Some y → (slice_get xs i ≡ Some y) ⊎ ((i ≡ length xs) × (y ≡ x))
got_push [] x y zero h = inr (refl, cc)
got_push [] x y (suc i) h = cc
got_push (z ∷ zs) x y zero h = inl h
got_push (z ∷ zs) x y (suc i) h = elim (got_push zs x y i h) [ inl e ↦ inl e | inr e ↦ inr (omega (arith, e.0), e.1) ]

pub got_before : {X : Type 0} (xs ys : List X) (i : ℕ) (x : X) → slice_get xs i ≡ Some x → slice_get (xs ++ ys) i ≡ Some x
got_before [] ys i x h = cc
got_before (z ∷ zs) ys zero x h = h
got_before (z ∷ zs) ys (suc i) x h = got_before zs ys i x h

pub got_last : {X : Type 0} (xs : List X) (x : X) → slice_get (xs ++ x ∷ []) (length xs) ≡ Some x
got_last [] x = refl
got_last (z ∷ zs) x = got_last zs x

equal_bytes : (x : List ℕ) → bytes_eq x x ≡ true
equal_bytes x = (bytes_decides x x).1 refl

-- a text that stands somewhere is one of the texts
pub is_one_of-got : (texts : List (List ℕ)) (k : ℕ) (x : List ℕ) → slice_get texts k ≡ Some x → is_one_of texts x ≡ true
is_one_of-got [] k x h = cc
is_one_of-got (y ∷ ys) zero x h =
    let same : bytes_eq x y ≡ true = (bytes_decides x y).1 cc in
    rw same refl
is_one_of-got (y ∷ ys) (suc k) x h = grind (arith, is_one_of-got ys k x h)

-- one of the texts stands at its place
pub got-index_in : (texts : List (List ℕ)) (x : List ℕ) → is_one_of texts x ≡ true → slice_get texts (index_in texts x) ≡ Some x
got-index_in [] x h = cc
got-index_in (y ∷ ys) x h =
    elim (cases_Bool (bytes_eq x y)) [
      | inl e ↦ rw e (ap Some (sym ((bytes_decides x y).0 e)))
      | inr e ↦ let later : is_one_of ys x ≡ true = grind arith in rw e (got-index_in ys x later)
    ]

-- the new text stands at the end
pub index_in-push : (texts : List (List ℕ)) (x : List ℕ) → is_one_of texts x ≡ false → index_in (texts ++ x ∷ []) x ≡ length texts
index_in-push [] x h = rw (equal_bytes x) refl
index_in-push (y ∷ ys) x h =
    elim (cases_Bool (bytes_eq x y)) [
      | inl e ↦ grind arith
      | inr e ↦ let later : is_one_of ys x ≡ false = grind arith in rw e (ap suc (index_in-push ys x later))
    ]

pub absent-from_is_one_of : (texts : List (List ℕ)) (x : List ℕ) → is_one_of texts x ≡ false → ¬ (HasName texts x)
absent-from_is_one_of texts x h has = cc (h, is_one_of-got texts has.0 x has.1)

pub is_one_of-absent : (texts : List (List ℕ)) (x : List ℕ) → ¬ (HasName texts x) → is_one_of texts x ≡ false
is_one_of-absent texts x absent =
    elim (cases_Bool (is_one_of texts x)) [
      | inl e ↦ absurd (absent (index_in texts x, got-index_in texts x e))
      | inr e ↦ e
    ]

-- where texts are different, each stands at its place alone
pub index_in-different : (texts : List (List ℕ)) (k : ℕ) (x : List ℕ) → AreDifferent texts → slice_get texts k ≡ Some x → index_in texts x ≡ k
index_in-different texts k x different h = different _ _ x (got-index_in texts x (is_one_of-got texts k x h)) h

pub IsInterned-with_text : (texts : List (List ℕ)) (x : List ℕ) → IsInterned texts x (with_text texts x)
IsInterned-with_text texts x =
    elim (cases_Bool (is_one_of texts x)) [
      | inl e ↦ inl ((index_in texts x, got-index_in texts x e), rw e refl)
      | inr e ↦ inr (absent-from_is_one_of texts x e, rw e refl)
    ]

pub Grows-with_text : (texts : List (List ℕ)) (x : List ℕ) → Grows texts (with_text texts x)
Grows-with_text texts x k text h =
    elim (cases_Bool (is_one_of texts x)) [
      | inl e ↦ rw e h
      | inr e ↦ rw e (got_before texts (x ∷ []) k text h)
    ]

pub got-with_text : (texts : List (List ℕ)) (x : List ℕ) → slice_get (with_text texts x) (index_in (with_text texts x) x) ≡ Some x
got-with_text texts x =
    elim (cases_Bool (is_one_of texts x)) [
      | inl e ↦ rw e (got-index_in texts x e)
      | inr e ↦ rw (e, index_in-push texts x e) (got_last texts x)
    ]

pub AreNames-with_text : (texts : List (List ℕ)) (x : List ℕ) → IsName x → AreNames texts → AreNames (with_text texts x)
AreNames-with_text texts x is_name names k text =
    elim (cases_Bool (is_one_of texts x)) [
      | inl e ↦ rw e (names k text)
      | inr e ↦ rw e (λ h. elim (got_push texts x text k h) [
        | inl before ↦ names k text before
        | inr last ↦ subst IsName (sym last.1) is_name
      ])
    ]
