-- Names as texts, and tables of them.
use Rattle.std.specs.Prelude.{◌≡◌, ℕ, suc, zero, ◌<◌, ◌≤◌, ◌^◌, Bool, true, false, if◌then◌else◌, ◌&&◌, ◌||◌, nat_eq, nat_le, List, [], ◌∷◌, ◌++◌, length, slice_get, Option, Some, None, ◌⊎◌, ◌↔◌}
use Rattle.std.specs.List.{list_all}
use Rattle.std.specs.Str.{bytes_eq}
use Rattle.std.specs.BTreeMap.{BTreeMap, get_by}
use Rattle.std.specs.Cmp.Lexicographic.{slice_cmp}
use Rattle.std.specs.Ordering.{nat_cmp}
use Rattle.std.specs.Global.{Vec}
use Rattle.fpc_base.specs.Tokens.{is_one_of, keywords}

-- the byte lies from the first to the last
abbrev pub is_from_to : ℕ → ℕ → ℕ → Bool
is_from_to first last b = nat_le first b && nat_le b last

-- a small letter, a to z
abbrev pub is_small_letter : ℕ → Bool
is_small_letter b = is_from_to 97 122 b

-- a letter, a digit or `_`
abbrev pub is_name_byte : ℕ → Bool
is_name_byte b = is_small_letter b || is_from_to 65 90 b || is_from_to 48 57 b || nat_eq b 95

-- a small letter, and then letters, digits and `_`
abbrev pub begins_name : List ℕ → Bool
begins_name [] = false
begins_name (b ∷ bs) = is_small_letter b && list_all is_name_byte bs

-- a keyword of the tokens, which is no name
abbrev pub is_keyword : List ℕ → Bool
is_keyword text = is_one_of keywords text

-- what may be a name once it goes on: a keyword may stand here, and there are at most 255 bytes
abbrev pub IsNameBegun : List ℕ → Type 0
IsNameBegun text = (begins_name text ≡ true) × (length text ≤ 255)

-- a small letter, and then letters, digits and `_`: at most 255 bytes, and no keyword
abbrev pub IsName : List ℕ → Type 0
IsName text = (begins_name text ≡ true) × (is_keyword text ≡ false) × (length text ≤ 255)

-- the text is one of the names
abbrev pub HasName : List (List ℕ) → List ℕ → Type 0
HasName names text = (k : ℕ) × (slice_get names k ≡ Some text)

-- each of the texts is a name
abbrev pub AreNames : List (List ℕ) → Type 0
AreNames texts = (k : ℕ) (text : List ℕ) → slice_get texts k ≡ Some text → IsName text

-- no text stands at two places
abbrev pub AreDifferent : List (List ℕ) → Type 0
AreDifferent names = (i j : ℕ) (text : List ℕ) → slice_get names i ≡ Some text → slice_get names j ≡ Some text → i ≡ j

-- the names after a text was looked up: it stands at the end, where it was not there before
abbrev pub IsInterned : List (List ℕ) → List ℕ → List (List ℕ) → Type 0
IsInterned old text new = (HasName old text × (new ≡ old)) ⊎ (¬ (HasName old text) × (new ≡ old ++ text ∷ []))

-- the numbering gives each name of the table its place
abbrev pub Agrees : (List ℕ → ℕ) → List (List ℕ) → Type 0
Agrees number names = (k : ℕ) (text : List ℕ) → slice_get names k ≡ Some text → number text ≡ k

-- each name of the old table has the same place in the new one
abbrev pub Grows : List (List ℕ) → List (List ℕ) → Type 0
Grows old new = (k : ℕ) (text : List ℕ) → slice_get old k ≡ Some text → slice_get new k ≡ Some text

-- where a text first stands in a list
abbrev pub index_in : List (List ℕ) → List ℕ → ℕ
index_in [] x = zero
index_in (y ∷ ys) x = if bytes_eq x y then zero else suc (index_in ys x)

-- the texts with one more at the end, where it was not among them
abbrev pub with_text : List (List ℕ) → List ℕ → List (List ℕ)
with_text texts x = if is_one_of texts x then texts else texts ++ x ∷ []

-- the place of a text, where it stands in the list
abbrev pub place_in : List (List ℕ) → List ℕ → Option ℕ
place_in texts x = if is_one_of texts x then Some (index_in texts x) else None

-- the number that the map has for a text
abbrev pub number_of : BTreeMap (Vec ℕ) ℕ → List ℕ → Option ℕ
number_of numbers text = get_by (λ k. slice_cmp nat_cmp text k.items) numbers

-- what ties a map to the texts that it numbers
pub record Numbers (numbers : BTreeMap (Vec ℕ) ℕ) (texts : List (List ℕ)) : Type 0 where
  -- the map has for each text its place, and nothing else
  pub places : (place : ℕ) (text : List ℕ) → (number_of numbers text ≡ Some place) ↔ (slice_get texts place ≡ Some text)
  pub few : length texts < 2 ^ 32
