-- The numbering of a table of different names agrees with it, and each name has its text by its number.
use Rattle.std.proofs.Common.{◌≡◌, ℕ, zero, suc, ◌+◌, ◌-◌, ◌*◌, ◌/◌, ◌%◌, ◌<◌, ◌≤◌, Bool, true, false, List, [], ◌∷◌, length, get_or, Some, slice_get, refl, ap, ap₂, ◌∙◌, arith, nat_lt, nat_le}
use Rattle.std.specs.List.{list_all}
use Rattle.std.specs.Str.{bytes_eq}
use Rattle.std.proofs.lemmas.Bool.{and_parts, cond-true, cond-false}
use Rattle.std.proofs.lemmas.Bool.Decides.{nat_tests}
use Rattle.std.proofs.lemmas.Slice.Eq.{bytes_eq-Decides}
use Rattle.fpc_terms.specs.Name.{is_small_letter, is_name_byte, Agrees, AreDifferent}
use Rattle.polarised_formulas.specs.Numbering.{code, decode, number_from, number_in, text_in}
use Rattle.polarised_formulas.specs.PlainForm.{begins_name, GivesBack}

-- each byte is below 256
abbrev AreBytes : List ℕ → Type 0
AreBytes [] = Unit {0}
AreBytes (b ∷ bs) = (b < 256) × AreBytes bs

decode-code : (most : ℕ) (w : List ℕ) → AreBytes w → code w ≤ most → decode most (code w) ≡ w
decode-code zero [] h l = refl
decode-code zero (b ∷ bs) h l = absurd (omega arith)
decode-code (suc most) [] h l = refl
decode-code (suc most) (b ∷ bs) h l =
    let low = h.0 in
    let front : (b + 256 * code bs) % 256 ≡ b = omega arith in
    let rest : (b + 256 * code bs) / 256 ≡ code bs = omega arith in
    let fits : code bs ≤ most = omega arith in
    ap₂ (λ c n. c ∷ decode most n) front rest ∙ ap (λ v. b ∷ v) (decode-code most bs h.1 fits)

name_byte-small : (b : ℕ) → is_name_byte b ≡ true → b < 256
name_byte-small b h = grind (arith, nat_tests)

names-bytes : (w : List ℕ) → list_all is_name_byte w ≡ true → AreBytes w
names-bytes [] h = tt
names-bytes (b ∷ bs) h = let p = and_parts (is_name_byte b) (list_all is_name_byte bs) h in (name_byte-small b p.0, names-bytes bs p.1)

name-bytes : (w : List ℕ) → begins_name w ≡ true → AreBytes w
name-bytes [] h = tt
name-bytes (b ∷ bs) h =
    let p = and_parts (is_small_letter b) (list_all is_name_byte bs) h in
    let q = and_parts (nat_le 97 b) (nat_le b 122) p.0 in
    let low : b < 256 = grind (arith, nat_tests) in
    (low, names-bytes bs p.1)

-- the text stands at the place, or has a number from the least one on
data Found (least place : ℕ) (ts : List (List ℕ)) (w : List ℕ) : Type 0 where
  here : (i : ℕ) → number_from least place ts w ≡ place + i → get_or ts i [] ≡ w → i < length ts → Found least place ts w
  outside : number_from least place ts w ≡ least + code w → Found least place ts w

found : (least place : ℕ) (ts : List (List ℕ)) (w : List ℕ) → Found least place ts w
found least place [] w = outside refl
found least place (t ∷ ts) w = by (bytes_eq t w) refl (found least (suc place) ts w)
  where
    later : number_from least place (t ∷ ts) w ≡ number_from least (suc place) ts w → Found least (suc place) ts w → Found least place (t ∷ ts) w
    later e (here i at same below) = let s : suc place + i ≡ place + suc i = omega arith in here (suc i) (e ∙ at ∙ s) same (omega arith)
    later e (outside at) = outside (e ∙ at)

    by : (c : Bool) → bytes_eq t w ≡ c → Found least (suc place) ts w → Found least place (t ∷ ts) w
    by true h rec = let s : place ≡ place + 0 = omega arith in here 0 (cond-true (bytes_eq t w) _ _ h ∙ s) ((bytes_eq-Decides t w).0 h) (omega arith)
    by false h rec = later (cond-false (bytes_eq t w) _ _ h) rec

-- each name has its text by its number
pub GivesBack-number_in : (least : ℕ) (names : List (List ℕ)) → length names ≤ least → GivesBack (text_in least names) (number_in least names)
GivesBack-number_in least names fits w h = by (found least 0 names w)
  where
    by : Found least 0 names w → text_in least names (number_in least names w) ≡ w
    by (here i at same below) =
        let s : 0 + i ≡ i = omega arith in
        let l : nat_lt i least ≡ true = grind (arith, nat_tests) in
        ap (text_in least names) (at ∙ s) ∙ cond-true (nat_lt i least) _ _ l ∙ same
    by (outside at) =
        let l : nat_lt (least + code w) least ≡ false = grind (arith, nat_tests) in
        let s : least + code w - least ≡ code w = omega arith in
        ap (text_in least names) at ∙ cond-false (nat_lt (least + code w) least) _ _ l ∙ ap (λ n. decode n n) s ∙ decode-code (code w) w (name-bytes w h) (omega arith)

AreDifferent-later : (t : List ℕ) (ts : List (List ℕ)) → AreDifferent (t ∷ ts) → AreDifferent ts
AreDifferent-later t ts h i j text a b = let e = h (suc i) (suc j) text a b in omega arith

number_from-got : (least place : ℕ) (ts : List (List ℕ)) → AreDifferent ts → (k : ℕ) (text : List ℕ) → slice_get ts k ≡ Some text → number_from least place ts text ≡ place + k
number_from-got least place [] h k text got = cc
number_from-got least place (t ∷ ts) h zero text got =
    let same : t ≡ text = cc in
    let s : place ≡ place + 0 = omega arith in
    cond-true (bytes_eq t text) _ _ ((bytes_eq-Decides t text).1 same) ∙ s
number_from-got least place (t ∷ ts) h (suc k) text got = by (bytes_eq t text) refl (number_from-got least (suc place) ts (AreDifferent-later t ts h) k text got)
  where
    by : (c : Bool) → bytes_eq t text ≡ c → number_from least (suc place) ts text ≡ suc place + k → number_from least place (t ∷ ts) text ≡ place + suc k
    by true e rec = let same = (bytes_eq-Decides t text).0 e in let clash : 0 ≡ suc k = h 0 (suc k) text (ap Some same) got in absurd (omega arith)
    by false e rec = let s : suc place + k ≡ place + suc k = omega arith in cond-false (bytes_eq t text) _ _ e ∙ rec ∙ s

-- the numbering gives each name of the table its place
pub Agrees-number_in : (least : ℕ) (names : List (List ℕ)) → AreDifferent names → Agrees (number_in least names) names
Agrees-number_in least names h k text got = let s : 0 + k ≡ k = omega arith in number_from-got least 0 names h k text got ∙ s
