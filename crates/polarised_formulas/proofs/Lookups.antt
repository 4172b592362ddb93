-- What a look-up in a list of words tells, and names byte by byte.
use Rattle.std.proofs.Common.{◌≡◌, ℕ, Bool, true, false, if◌then◌else◌, ◌⊎◌, List, [], ◌∷◌, ◌++◌, Some, None, codes, drop, length, refl, sym, ap, subst, inl, inr, nat_eq}
use Rattle.std.specs.List.{list_all, starts_with}
use Rattle.std.specs.Str.{bytes_eq}
use Rattle.std.proofs.lemmas.Bool.{and_parts, and_from, or_cases, or_from, both_ways, false_from_ne_true, eqb-false}
use Rattle.std.proofs.lemmas.List.{same_from_push}
use Rattle.std.proofs.lemmas.Bool.Decides.{Decides-eqb}
use Rattle.std.proofs.lemmas.Slice.Eq.{bytes_eq-Decides, starts_is}
use Rattle.fpc_base.specs.Tokens.{is_one_of, keywords}
use Rattle.fpc_terms.specs.Name.{is_small_letter, is_name_byte}
use Rattle.polarised_formulas.specs.declared.logic.Logic.TheVariants.{Lkf}
use Rattle.polarised_formulas.specs.declared.logic.Polarity.TheVariants.{Positive, Negative}
use Rattle.polarised_formulas.specs.PlainReading.{first_with, begins_some, is_keyword, Word, true_unit, false_unit, binder, every, some, word_text, words}
use Rattle.polarised_formulas.specs.PlainForm.{begins_name}

abbrev pub EachOf : {X : Type 0} → (X → Type 0) → List X → Type 0
EachOf P [] = Unit {0}
EachOf P (x ∷ xs) = P x × EachOf P xs

pub first_with-some : {X : Type 0} (text : X → List ℕ) (w : List ℕ) (P : X → Type 0) (xs : List X) → EachOf P xs → (x : X) → first_with text w xs ≡ Some x → P x × (text x ≡ w)
first_with-some text w P [] all x e = cc
first_with-some text w P (y ∷ ys) all x e = by (bytes_eq (text y) w) refl e (first_with-some text w P ys all.1 x)
  where
    by : (t : Bool) → bytes_eq (text y) w ≡ t → (if t then Some y else first_with text w ys) ≡ Some x → (first_with text w ys ≡ Some x → P x × (text x ≡ w)) → P x × (text x ≡ w)
    by true h same rec = let s : y ≡ x = cc in subst (λ z. P z × (text z ≡ w)) s (all.0, (bytes_eq-Decides (text y) w).0 h)
    by false h same rec = rec same

pub first_with-none : {X : Type 0} (text : X → List ℕ) (w : List ℕ) (xs : List X) → EachOf (λ x. text x ≡ w → ⊥) xs → first_with text w xs ≡ None
first_with-none text w [] all = refl
first_with-none text w (y ∷ ys) all = by (bytes_eq (text y) w) refl (first_with-none text w ys all.1)
  where
    by : (t : Bool) → bytes_eq (text y) w ≡ t → first_with text w ys ≡ None → (if t then Some y else first_with text w ys) ≡ None
    by true h rec = absurd (all.0 ((bytes_eq-Decides (text y) w).0 h))
    by false h rec = rec

-- one of the words goes on with what was begun
pub record Continues {X : Type 0} (text : X → List ℕ) (P : X → Type 0) (w : List ℕ) : Type 0 where
  pub word : X
  pub more : List ℕ
  pub fits : P word
  pub same : text word ≡ w ++ more

pub begins_some-continues : {X : Type 0} (text : X → List ℕ) (w : List ℕ) (P : X → Type 0) (xs : List X) → EachOf P xs → begins_some text w xs ≡ true → Continues text P w
begins_some-continues text w P [] all e = cc
begins_some-continues text w P (y ∷ ys) all e = by (or_cases (starts_with nat_eq (text y) w) (begins_some text w ys) e) (begins_some-continues text w P ys all.1)
  where
    by : (starts_with nat_eq (text y) w ≡ true) ⊎ (begins_some text w ys ≡ true) → (begins_some text w ys ≡ true → Continues text P w) → Continues text P w
    by (inl h) rec = record { word = y; more = drop (length w) (text y); fits = all.0; same = (starts_is Decides-eqb (text y) w _ refl).0 h }
    by (inr h) rec = rec h

pub snoc_front : (xs ys : List ℕ) (x y : ℕ) → xs ++ x ∷ [] ≡ ys ++ y ∷ [] → xs ≡ ys
snoc_front xs ys x y e = (same_from_push xs ys x y e).0

list_all-snoc : (test : ℕ → Bool) (w : List ℕ) (b : ℕ) → list_all test w ≡ true → test b ≡ true → list_all test (w ++ b ∷ []) ≡ true
list_all-snoc test [] b all h = and_from (test b) true h refl
list_all-snoc test (c ∷ w) b all h = let p = and_parts (test c) (list_all test w) all in and_from (test c) (list_all test (w ++ b ∷ [])) p.0 (list_all-snoc test w b p.1 h)

pub begins_name-snoc : (w : List ℕ) (b : ℕ) → begins_name w ≡ true → is_name_byte b ≡ true → begins_name (w ++ b ∷ []) ≡ true
begins_name-snoc [] b e h = cc
begins_name-snoc (c ∷ w) b e h =
    let p = and_parts (is_small_letter c) (list_all is_name_byte w) e in and_from (is_small_letter c) (list_all is_name_byte (w ++ b ∷ [])) p.0 (list_all-snoc is_name_byte w b p.1 h)

pub begins_name-one : (b : ℕ) → is_small_letter b ≡ true → begins_name (b ∷ []) ≡ true
begins_name-one b h = and_from (is_small_letter b) true h refl

not_one_of : (texts : List (List ℕ)) (x : List ℕ) → EachOf (λ t. x ≡ t → ⊥) texts → is_one_of texts x ≡ false
not_one_of [] x all = refl
not_one_of (t ∷ ts) x all = or_from (bytes_eq x t) (is_one_of ts x) (false_from_ne_true (bytes_eq x t) (λ e. all.0 ((bytes_eq-Decides x t).0 e))) (not_one_of ts x all.1)

-- no keyword ends with `_`
pub not_keyword-underscore : (w : List ℕ) → is_keyword (w ++ 95 ∷ []) ≡ false
not_keyword-underscore w =
    not_one_of keywords (w ++ 95 ∷ []) (ends (codes "al") 108 refl, (ends (codes "som") 101 refl, (ends (codes "t") 116 refl, (ends (codes "f") 102 refl, (ends (codes "formul") 97 refl, (ends (codes "certificat") 101 refl, tt))))))
  where
    ends : (u : List ℕ) (c : ℕ) → nat_eq 95 c ≡ false → w ++ 95 ∷ [] ≡ u ++ c ∷ [] → ⊥
    ends u c h e = eqb-false 95 c h (same_from_push w u 95 c e).1

-- without their last bytes the words of LKF are keywords
word_is_keyword : (x : Word) (w : List ℕ) (b : ℕ) → word_text Lkf x ≡ w ++ b ∷ [] → is_keyword w ≡ true
word_is_keyword (true_unit Positive) w b e = ap is_keyword (sym (snoc_front (codes "tt") w 43 b e))
word_is_keyword (true_unit Negative) w b e = ap is_keyword (sym (snoc_front (codes "tt") w 45 b e))
word_is_keyword (false_unit Positive) w b e = ap is_keyword (sym (snoc_front (codes "ff") w 43 b e))
word_is_keyword (false_unit Negative) w b e = ap is_keyword (sym (snoc_front (codes "ff") w 45 b e))
word_is_keyword (binder every) w b e = ap is_keyword (sym (snoc_front (codes "all") w 32 b e))
word_is_keyword (binder some) w b e = ap is_keyword (sym (snoc_front (codes "some") w 32 b e))

pub no_word : (w : List ℕ) (b : ℕ) → is_keyword w ≡ false → first_with (word_text Lkf) (w ++ b ∷ []) (words Lkf) ≡ None
no_word w b h = first_with-none (word_text Lkf) (w ++ b ∷ []) (words Lkf) (n (true_unit Positive), (n (true_unit Negative), (n (false_unit Positive), (n (false_unit Negative), (n (binder every), (n (binder some), tt))))))
  where
    n : (x : Word) → word_text Lkf x ≡ w ++ b ∷ [] → ⊥
    n x e = both_ways (is_keyword w) h (word_is_keyword x w b e)
