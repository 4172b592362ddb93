-- The ids of texts, which are interned one after another, and the words as names.
use Rattle.std.proofs.Common.{◌≡◌, ℕ, suc, ◌+◌, ◌<◌, ◌≤◌, ◌≢◌, Bool, true, false, nat_eq, List, [], ◌∷◌, get_or, set, drop, length, map, refl, ap, sym, subst, ◌∙◌, arith, Some, inl, inr, length-set, get_or-set_same, get_or-set_other, drop-cons}
use Rattle.std.specs.Prelude.{not, nat_le, Contains, slice_get}
use Rattle.std.specs.List.{list_all}
use Rattle.std.proofs.lemmas.Bool.{cases_Bool}
use Rattle.std.proofs.lemmas.Bool.Decides.{nat_tests}
use Rattle.std.proofs.lemmas.List.{drop_all, get_or-map, length-map, same_lists}
use Rattle.std.proofs.lemmas.List.Elements.{Contains-get_or}
use Rattle.std.proofs.lemmas.List.Folds.{list_all_at}
use Rattle.std.proofs.lemmas.Option.{get_or_from_slice_get, slice_get-get_or}
use Rattle.fpc_terms.specs.Adding.{AddsOnly, IsText}
use Rattle.fpc_terms.specs.Name.{Grows, IsName, begins_name, is_keyword}
use Rattle.fpc_terms.specs.Text.{name_in}
use Rattle.fpc_terms.proofs.AddingFacts.{AddsOnly-then, AddsOnly-wider}
use Rattle.clause_language.specs.Program.{words}

-- NAMES: each word is one
passes-at : (p : List ℕ → Bool) (texts : List (List ℕ)) (k : ℕ) → list_all p texts ≡ true → k < length texts → p (get_or texts k []) ≡ true
passes-at p texts k h lt =
    elim (cases_Bool (p (get_or texts k []))) [
      | inl e ↦ e
      | inr e ↦ let no : list_all p texts ≡ false = list_all_at p texts k [] lt e in cc
    ]

abbrev is_no_keyword : List ℕ → Bool
is_no_keyword text = not (is_keyword text)

abbrev is_short : List ℕ → Bool
is_short text = nat_le (length text) 255

not-true : (b : Bool) → not b ≡ true → b ≡ false
not-true true h = cc
not-true false h = refl

short-true : (n : ℕ) → nat_le n 255 ≡ true → n ≤ 255
short-true n h = grind (arith, nat_tests)

pub name-at : (texts : List (List ℕ)) (k : ℕ) → list_all begins_name texts ≡ true → list_all is_no_keyword texts ≡ true → list_all is_short texts ≡ true → k < length texts
    → IsName (get_or texts k [])
name-at texts k begins free short lt = (
  passes-at begins_name texts k begins lt,
  not-true (is_keyword (get_or texts k [])) (passes-at is_no_keyword texts k free lt),
  short-true (length (get_or texts k [])) (passes-at is_short texts k short lt),
)

pub word-at : (k : ℕ) → k < 38 → IsName (get_or words k [])
word-at k lt = name-at words k refl refl refl lt

-- IDS of texts
-- the first k of the ids have the first k texts in the new table, which has the names of the old one and else only these texts
pub record HaveFirst (texts old new : List (List ℕ)) (ids : List ℕ) (k : ℕ) : Type 0 where
  pub count : length ids ≡ length texts
  pub each : (i : ℕ) → i < k → slice_get new (get_or ids i 0) ≡ Some (get_or texts i [])
  pub grows : Grows old new
  pub only : AddsOnly (Contains texts) old new

-- a table after one of the texts was interned adds only these texts
pub only-more : (texts old mid new : List (List ℕ)) (k : ℕ) (text : List ℕ) → k < length texts → text ≡ get_or texts k [] → AddsOnly (Contains texts) old mid
    → AddsOnly (IsText text) mid new → AddsOnly (Contains texts) old new
only-more texts old mid new k text lt is only added =
    let has : Contains texts text = subst (Contains texts) (sym is) (Contains-get_or texts k [] lt) in
    AddsOnly-then (Contains texts) old mid new only
    (AddsOnly-wider (IsText text) (Contains texts) mid new (λ other same. subst (Contains texts) (sym same) has) added)

-- none yet
pub first-none : (texts old new : List (List ℕ)) (ids : List ℕ) → length ids ≡ length texts → Grows old new → AddsOnly (Contains texts) old new
    → HaveFirst texts old new ids 0
first-none texts old new ids count grows only = record { count = count; each = λ i lt. absurd (omega (arith, lt)); grows = grows; only = only }

-- one more
pub first-more : (texts old mid new : List (List ℕ)) (ids : List ℕ) (k : ℕ) (text : List ℕ) (id : ℕ) → k < length texts → text ≡ get_or texts k [] → HaveFirst texts old mid ids k
    → slice_get new id ≡ Some text → Grows mid new → AddsOnly (IsText text) mid new → HaveFirst texts old new (set ids k id) (k + 1)
first-more texts old mid new ids k text id lt is h stands grows only = record {
  count = length-set ids k id ∙ h.count;
  each = each;
  grows = λ i t e. grows i t (h.grows i t e);
  only = only-more texts old mid new k text lt is h.only only;
}
  where
    within : k < length ids
    within = let e = h.count in omega (arith, e, lt)

    each : (i : ℕ) → i < k + 1 → slice_get new (get_or (set ids k id) i 0) ≡ Some (get_or texts i [])
    each i below = by_test (nat_eq i k) refl where
      by_test : (b : Bool) → nat_eq i k ≡ b → slice_get new (get_or (set ids k id) i 0) ≡ Some (get_or texts i [])
      by_test true e =
          let at : i ≡ k = grind (arith, nat_tests) in
          let got : get_or (set ids k id) k 0 ≡ id = get_or-set_same ids k id 0 within in
          rw (at, got) (stands ∙ ap Some is)
      by_test false e =
          let other : i ≢ k = grind (arith, nat_tests) in
          let got : get_or (set ids k id) i 0 ≡ get_or ids i 0 = get_or-set_other ids k i id 0 other in
          let lower : i < k = omega (arith, other, below) in
          rw got (grows (get_or ids i 0) (get_or texts i []) (h.each i lower))

-- all of them
pub first-all : (texts old new : List (List ℕ)) (ids : List ℕ) (k : ℕ) → length texts ≤ k → HaveFirst texts old new ids k → map (name_in new) ids ≡ texts
first-all texts old new ids k le h = same_lists (map (name_in new) ids) texts (length-map ids (name_in new) ∙ h.count) same
  where
    same : (i : ℕ) (d : List ℕ) → i < length (map (name_in new) ids) → get_or (map (name_in new) ids) i d ≡ get_or texts i d
    same i d lt =
        let count : length (map (name_in new) ids) ≡ length texts = length-map ids (name_in new) ∙ h.count in
        let within : i < length ids = omega (arith, lt, length-map ids (name_in new)) in
        let mapped : get_or (map (name_in new) ids) i d ≡ name_in new (get_or ids i 0) = get_or-map (name_in new) ids i 0 d within in
        let text : name_in new (get_or ids i 0) ≡ get_or texts i [] =
        get_or_from_slice_get new (get_or ids i 0) (get_or texts i []) [] (h.each i (omega (arith, lt, count, le))) in
        mapped ∙ text ∙ sym (get_or_from_slice_get texts i (get_or texts i []) d (slice_get-get_or texts i [] (omega (arith, lt, count))))

-- the text at a place of a list of references to texts
pub text-at : {X : Type 0} (read : X → List ℕ) (refs : List X) (texts : List (List ℕ)) (k : ℕ) (d : X) → map read refs ≡ texts → k < length texts
    → read (get_or refs k d) ≡ get_or texts k []
text-at read refs texts k d e lt =
    let count : length texts ≡ length refs = sym (ap length e) ∙ length-map refs read in
    sym (get_or-map read refs k d [] (omega (arith, lt, count))) ∙ ap (λ l. get_or l k []) e

-- PLACES of a list, each with some value for none there
abbrev pub at_places : (ℕ → List ℕ) → List ℕ → List ℕ → ℕ → List (List ℕ)
at_places f ids [] k = []
at_places f ids (d ∷ ds) k = f (get_or ids k d) ∷ at_places f ids ds (suc k)

pub all_places : (f : ℕ → List ℕ) (ids ds : List ℕ) (k : ℕ) → length ids ≡ k + length ds → at_places f ids ds k ≡ map f (drop k ids)
all_places f ids [] k e = let none : drop k ids ≡ [] = drop_all k ids (omega (arith, e)) in rw none refl
all_places f ids (d ∷ ds) k e =
    let next : drop k ids ≡ get_or ids k d ∷ drop (suc k) ids = drop-cons ids k d (omega (arith, e)) in
    let others : at_places f ids ds (suc k) ≡ map f (drop (suc k) ids) = all_places f ids ds (suc k) (omega (arith, e)) in
    rw (next, others) refl

-- all places of a list whose values are the texts
pub all_places-texts : (texts : List (List ℕ)) (f : ℕ → List ℕ) (ids ds : List ℕ) → map f ids ≡ texts → length ds ≡ length texts → at_places f ids ds 0 ≡ texts
all_places-texts texts f ids ds e count =
    let size : length ids ≡ length texts = sym (length-map ids f) ∙ ap length e in
    all_places f ids ds 0 (omega (arith, size, count)) ∙ e
