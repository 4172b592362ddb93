-- What stands at the front is the longest token there.
use Rattle.std.proofs.Common.{◌≡◌, ℕ, suc, zero, ◌+◌, ◌-◌, ◌<◌, ◌≤◌, Bool, true, false, cond, if◌then◌else◌, not, ◌&&◌, ◌||◌, nat_eq, nat_le, nat_lt, List, [], ◌∷◌, length, take, drop, codes, refl, ap, subst, arith, ◌∙◌, sym, ◌⊎◌, inl, inr}
use Rattle.std.specs.List.{list_all, prefix_len}
use Rattle.std.specs.Str.{bytes_eq}
use Rattle.std.proofs.lemmas.List.{length-take-le, take-append-drop, take_rest}
use Rattle.std.proofs.lemmas.List.Sums.{prefix_len-le-length}
use Rattle.std.proofs.lemmas.List.Folds.{length-prefix_len}
use Rattle.std.proofs.Math.Bool.{or-false, and-false}
use Rattle.std.proofs.lemmas.Bool.Decides.{nat_tests, leb_tells}
use Rattle.std.proofs.lemmas.Slice.Eq.{bytes_eq-Decides}
use Rattle.fpc_base.specs.Tokens.{is_small, is_capital, is_digit, is_word_byte, is_blank, is_in_line, is_name_from, is_one_of, symbols, unit_words, units, keywords, begins_with_sign, limited, word_of, short_symbol_of, symbol_of, is_word, is_variable, is_number, is_token, has_form, is_too_long, NoLonger, IsLongest, LongestIsTaken, HasForm, front_of}
use Rattle.fpc_base.proofs.TokenLemmas.{IsFront}
use Rattle.fpc_base.specs.declared.refusal.Code.TheVariants.{BadByte, LongName}
use Rattle.fpc_base.specs.declared.tokens.TokenKind.{TokenKind}
use Rattle.fpc_base.specs.declared.tokens.TokenKind.TheVariants.{Name, Variable, Number, Word, Symbol}
use Rattle.fpc_base.specs.declared.tokens.front.Front.{Front}
use Rattle.fpc_base.specs.declared.tokens.front.Front.TheVariants.{Gap, Piece, Fault}

not-equal : (a b : ℕ) → (a ≡ b → ⊥) → nat_eq a b ≡ false
not-equal a b h = grind (arith, nat_tests)

small-bounds : (b : ℕ) → is_small b ≡ true → (97 ≤ b) × (b ≤ 122)
small-bounds b h = grind (arith, nat_tests)

capital-bounds : (b : ℕ) → is_capital b ≡ true → (65 ≤ b) × (b ≤ 90)
capital-bounds b h = grind (arith, nat_tests)

digit-bounds : (b : ℕ) → is_digit b ≡ true → (48 ≤ b) × (b ≤ 57)
digit-bounds b h = grind (arith, nat_tests)

not-a-digit : (b : ℕ) → b ≡ 48 → is_digit b ≡ false → ⊥
not-a-digit b e h = let k : is_digit 48 ≡ false = rw e at h in cc

not-small : (b : ℕ) → b ≡ 116 → is_small b ≡ false → ⊥
not-small b e h = let k : is_small 116 ≡ false = rw e at h in cc

not-small-f : (b : ℕ) → b ≡ 102 → is_small b ≡ false → ⊥
not-small-f b e h = let k : is_small 102 ≡ false = rw e at h in cc

or-false-2 : (a : Bool) → (a || false || false) ≡ a
or-false-2 true = refl
or-false-2 false = refl

or-false-3 : (a : Bool) → (a || false || false || false) ≡ a
or-false-3 true = refl
or-false-3 false = refl

-- bytes that begin no symbol
symbols-none : (b : ℕ) (xs : List ℕ) → (b ≡ 40 → ⊥) → (b ≡ 41 → ⊥) → (b ≡ 44 → ⊥) → (b ≡ 46 → ⊥) → (b ≡ 58 → ⊥) → (b ≡ 124 → ⊥)
    → (b ≡ 38 → ⊥) → (b ≡ 61 → ⊥) → (b ≡ 126 → ⊥) → (b ≡ 43 → ⊥) → (b ≡ 45 → ⊥) → is_one_of symbols (b ∷ xs) ≡ false
symbols-none b xs n1 n2 n3 n4 n5 n6 n7 n8 n9 n10 n11 =
    simp (
      not-equal b 40 n1,
      not-equal b 41 n2,
      not-equal b 44 n3,
      not-equal b 46 n4,
      not-equal b 58 n5,
      not-equal b 124 n6,
      not-equal b 38 n7,
      not-equal b 61 n8,
      not-equal b 126 n9,
      not-equal b 43 n10,
      not-equal b 45 n11,
    )

units-none : (b : ℕ) (xs : List ℕ) → (b ≡ 116 → ⊥) → (b ≡ 102 → ⊥) → is_one_of units (b ∷ xs) ≡ false
units-none b xs n1 n2 = simp (not-equal b 116 n1, not-equal b 102 n2)

or-parts : (w u v n s w' u' v' n' s' : Bool) → w ≡ w' → u ≡ u' → v ≡ v' → n ≡ n' → s ≡ s' → (w || u || v || n || s) ≡ (w' || u' || v' || n' || s')
or-parts w u v n s w' u' v' n' s' e1 e2 e3 e4 e5 = cc

name_from-not : (begins : ℕ → Bool) (b : ℕ) (xs : List ℕ) → begins b ≡ false → is_name_from begins (b ∷ xs) ≡ false
name_from-not begins b xs h = ap (λ v. v && list_all is_word_byte xs) h

name_from-is : (begins : ℕ → Bool) (b : ℕ) (xs : List ℕ) → begins b ≡ true → is_name_from begins (b ∷ xs) ≡ list_all is_word_byte xs
name_from-is begins b xs h = ap (λ v. v && list_all is_word_byte xs) h

number-parts : (z d l t : Bool) → z ≡ false → d ≡ false → ((z && t) || (not z && d && l)) ≡ false
number-parts z d l t e1 e2 = rw (e1, e2) refl

number-not : (b : ℕ) (xs : List ℕ) → is_digit b ≡ false → is_number (b ∷ xs) ≡ false
number-not b xs h = number-parts (nat_eq b 48) (is_digit b) (list_all is_digit xs) (bytes_eq xs []) (not-equal b 48 (λ e. not-a-digit b e h)) h

-- a token by its first byte
token-small : (b : ℕ) (xs : List ℕ) → is_small b ≡ true → is_token (b ∷ xs) ≡ (list_all is_word_byte xs || is_one_of units (b ∷ xs))
token-small b xs h =
    let w = small-bounds b h in
    let c : is_capital b ≡ false = grind (arith, nat_tests) in
    let d : is_digit b ≡ false = grind (arith, nat_tests) in
    let s : is_one_of symbols (b ∷ xs) ≡ false =
    symbols-none b xs (λ e. omega arith) (λ e. omega arith) (λ e. omega arith) (λ e. omega arith) (λ e. omega arith) (λ e. omega arith)
    (λ e. omega arith) (λ e. omega arith) (λ e. omega arith) (λ e. omega arith) (λ e. omega arith) in
    or-parts (is_word (b ∷ xs)) (is_one_of units (b ∷ xs)) (is_variable (b ∷ xs)) (is_number (b ∷ xs)) (is_one_of symbols (b ∷ xs))
    (list_all is_word_byte xs) (is_one_of units (b ∷ xs)) false false false
    (name_from-is is_small b xs h) refl (name_from-not is_capital b xs c) (number-not b xs d) s
    ∙ or-false-3 (list_all is_word_byte xs || is_one_of units (b ∷ xs))

token-capital : (b : ℕ) (xs : List ℕ) → is_capital b ≡ true → is_token (b ∷ xs) ≡ list_all is_word_byte xs
token-capital b xs h =
    let w = capital-bounds b h in
    let c : is_small b ≡ false = grind (arith, nat_tests) in
    let d : is_digit b ≡ false = grind (arith, nat_tests) in
    let s : is_one_of symbols (b ∷ xs) ≡ false =
    symbols-none b xs (λ e. omega arith) (λ e. omega arith) (λ e. omega arith) (λ e. omega arith) (λ e. omega arith) (λ e. omega arith)
    (λ e. omega arith) (λ e. omega arith) (λ e. omega arith) (λ e. omega arith) (λ e. omega arith) in
    or-parts (is_word (b ∷ xs)) (is_one_of units (b ∷ xs)) (is_variable (b ∷ xs)) (is_number (b ∷ xs)) (is_one_of symbols (b ∷ xs))
    false false (list_all is_word_byte xs) false false
    (name_from-not is_small b xs c) (units-none b xs (λ e. omega arith) (λ e. omega arith)) (name_from-is is_capital b xs h) (number-not b xs d) s
    ∙ or-false-2 (list_all is_word_byte xs)

token-digit : (b : ℕ) (xs : List ℕ) → is_digit b ≡ true → is_token (b ∷ xs) ≡ is_number (b ∷ xs)
token-digit b xs h =
    let w = digit-bounds b h in
    let c : is_small b ≡ false = grind (arith, nat_tests) in
    let d : is_capital b ≡ false = grind (arith, nat_tests) in
    let s : is_one_of symbols (b ∷ xs) ≡ false =
    symbols-none b xs (λ e. omega arith) (λ e. omega arith) (λ e. omega arith) (λ e. omega arith) (λ e. omega arith) (λ e. omega arith)
    (λ e. omega arith) (λ e. omega arith) (λ e. omega arith) (λ e. omega arith) (λ e. omega arith) in
    or-parts (is_word (b ∷ xs)) (is_one_of units (b ∷ xs)) (is_variable (b ∷ xs)) (is_number (b ∷ xs)) (is_one_of symbols (b ∷ xs))
    false false false (is_number (b ∷ xs)) false
    (name_from-not is_small b xs c) (units-none b xs (λ e. omega arith) (λ e. omega arith)) (name_from-not is_capital b xs d) refl s
    ∙ or-false (is_number (b ∷ xs))

token-other : (b : ℕ) (xs : List ℕ) → is_small b ≡ false → is_capital b ≡ false → is_digit b ≡ false → is_token (b ∷ xs) ≡ is_one_of symbols (b ∷ xs)
token-other b xs h c d =
    or-parts (is_word (b ∷ xs)) (is_one_of units (b ∷ xs)) (is_variable (b ∷ xs)) (is_number (b ∷ xs)) (is_one_of symbols (b ∷ xs))
    false false false false (is_one_of symbols (b ∷ xs))
    (name_from-not is_small b xs h) (units-none b xs (λ e. not-small b e h) (λ e. not-small-f b e h)) (name_from-not is_capital b xs c) (number-not b xs d) refl

list_all-longer-step : (v : Bool) (p : ℕ → Bool) (xs : List ℕ) (k : ℕ) → (prefix_len p xs < k → k ≤ length xs → list_all p (take k xs) ≡ false)
    → cond v (1 + prefix_len p xs) 0 < suc k → suc k ≤ suc (length xs) → (v && list_all p (take k xs)) ≡ false
list_all-longer-step true p xs k h lt le = h (omega arith) (omega arith)
list_all-longer-step false p xs k h lt le = refl

list_all-longer : (p : ℕ → Bool) (xs : List ℕ) (k : ℕ) → prefix_len p xs < k → k ≤ length xs → list_all p (take k xs) ≡ false
list_all-longer p [] k lt le = absurd (omega arith)
list_all-longer p (x ∷ xs) zero lt le = absurd (omega arith)
list_all-longer p (x ∷ xs) (suc k) lt le = list_all-longer-step (p x) p xs k (list_all-longer p xs k) lt le

list_all-prefix-step : (v : Bool) (p : ℕ → Bool) (x : ℕ) (xs : List ℕ) → p x ≡ v → list_all p (take (prefix_len p xs) xs) ≡ true → list_all p (take (cond v (1 + prefix_len p xs) 0) (x ∷ xs)) ≡ true
list_all-prefix-step true p x xs e h =
    let n : 1 + prefix_len p xs ≡ suc (prefix_len p xs) = omega arith in rw n (ap (λ v. v && list_all p (take (prefix_len p xs) xs)) e ∙ h)
list_all-prefix-step false p x xs e h = refl

list_all-prefix : (p : ℕ → Bool) (xs : List ℕ) → list_all p (take (prefix_len p xs) xs) ≡ true
list_all-prefix p [] = refl
list_all-prefix p (x ∷ xs) = list_all-prefix-step (p x) p x xs refl (list_all-prefix p xs)

bytes_eq-shorter : (x t : List ℕ) → length t < length x → bytes_eq x t ≡ false
bytes_eq-shorter [] t lt = absurd (omega arith)
bytes_eq-shorter (a ∷ xs) [] lt = refl
bytes_eq-shorter (a ∷ xs) (b ∷ ts) lt = simp (bytes_eq-shorter xs ts (omega arith), and-false)

and-true-parts : (a b : Bool) → (a && b) ≡ true → (a ≡ true) × (b ≡ true)
and-true-parts true b h = (refl, h)
and-true-parts false b h = cc

le-of : (a b : ℕ) → nat_le a b ≡ true → a ≤ b
le-of a b h = grind (arith, nat_tests)

or-true : (a b : Bool) → (a || b) ≡ true → (a ≡ true) ⊎ (b ≡ true)
or-true true b h = inl refl
or-true false b h = inr h

one_of-longer : (n : ℕ) (texts : List (List ℕ)) (x : List ℕ) → list_all (λ t. nat_le (length t) n) texts ≡ true → n < length x → is_one_of texts x ≡ false
one_of-longer n [] x h lt = refl
one_of-longer n (t ∷ ts) x h lt =
    let w = and-true-parts (nat_le (length t) n) (list_all (λ u. nat_le (length u) n) ts) h in
    let l : length t ≤ n = le-of (length t) n w.0 in
    let e : bytes_eq x t ≡ false = bytes_eq-shorter x t (omega arith) in
    simp (e, one_of-longer n ts x w.1 lt)

-- by the outcome of a test
front-if : (c : Bool) (x y : Front) (bytes : List ℕ) → (c ≡ true → IsLongest x bytes) → (c ≡ false → IsLongest y bytes) → IsLongest (if c then x else y) bytes
front-if true x y bytes f g = f refl
front-if false x y bytes f g = g refl

no-longer : (n b : ℕ) (rest : List ℕ) → ((k : ℕ) → n ≤ k → k ≤ length rest → is_token (b ∷ take k rest) ≡ false)
    → (m : ℕ) → n < m → m ≤ length (b ∷ rest) → is_token (take m (b ∷ rest)) ≡ false
no-longer n b rest h zero lt le = absurd (omega arith)
no-longer n b rest h (suc k) lt le = h k (omega arith) (omega arith)

le-not-lt : (a b : ℕ) → nat_le a b ≡ true → nat_lt b a ≡ false
le-not-lt a b h = grind (arith, nat_tests)

not-le-lt : (a b : ℕ) → nat_le a b ≡ false → nat_lt b a ≡ true
not-le-lt a b h = grind (arith, nat_tests)

within-not-lt : (a b : ℕ) → a ≤ b → nat_lt b a ≡ false
within-not-lt a b h = grind (arith, nat_tests)

equal-of : (a b : ℕ) → nat_eq a b ≡ true → a ≡ b
equal-of a b h = grind (arith, nat_tests)

or-left : (a b : Bool) → a ≡ true → (a || b) ≡ true
or-left a b h = rw h refl

or-right : (a b : Bool) → b ≡ true → (a || b) ≡ true
or-right true b h = refl
or-right false b h = h

or-none : (a b : Bool) → a ≡ false → b ≡ false → (a || b) ≡ false
or-none a b h k = rw (h, k) refl

not-true : (v : Bool) → (v ≡ true → ⊥) → v ≡ false
not-true true h = absurd (h refl)
not-true false h = refl

first-long : (w l n m v : Bool) → w ≡ true → n ≡ false → l ≡ v → ((w && l) || (n && m)) ≡ v
first-long w l n m v e1 e2 e3 = rw (e1, e2, e3) (or-false v)

second-long : (w l n m v : Bool) → w ≡ false → n ≡ true → m ≡ v → ((w && l) || (n && m)) ≡ v
second-long w l n m v e1 e2 e3 = rw (e1, e2) e3

neither-long : (w l n m : Bool) → l ≡ false → m ≡ false → ((w && l) || (n && m)) ≡ false
neither-long w l n m e1 e2 = rw (e1, e2) (simp and-false)

too_long-name : (x : List ℕ) (v : Bool) → (is_word x || is_variable x) ≡ true → is_number x ≡ false → nat_lt 255 (length x) ≡ v → is_too_long x ≡ v
too_long-name x v h k e = first-long (is_word x || is_variable x) (nat_lt 255 (length x)) (is_number x) (nat_lt 9 (length x)) v h k e

too_long-number : (x : List ℕ) (v : Bool) → (is_word x || is_variable x) ≡ false → is_number x ≡ true → nat_lt 9 (length x) ≡ v → is_too_long x ≡ v
too_long-number x v h k e = second-long (is_word x || is_variable x) (nat_lt 255 (length x)) (is_number x) (nat_lt 9 (length x)) v h k e

too_long-short : (x : List ℕ) → length x ≤ 9 → is_too_long x ≡ false
too_long-short x le =
    neither-long (is_word x || is_variable x) (nat_lt 255 (length x)) (is_number x) (nat_lt 9 (length x))
    (within-not-lt (length x) 255 (omega arith)) (within-not-lt (length x) 9 le)

limited-longest : (most n : ℕ) (kind : TokenKind) (bytes : List ℕ) → n ≤ length bytes → has_form kind (take n bytes) ≡ true
    → ((v : Bool) → nat_lt most n ≡ v → is_too_long (take n bytes) ≡ v) → NoLonger n bytes → IsLongest (limited most kind n) bytes
limited-longest most n kind bytes le form long none =
    front-if (nat_le n most) (Piece kind n) (Fault LongName) bytes
    (λ e. (form, long false (le-not-lt n most e), none))
    (λ e. (n, le, long true (not-le-lt n most e), none))

-- a variable, and a number
variable-longest : (b : ℕ) (rest : List ℕ) → is_capital b ≡ true → IsLongest (limited 255 Variable (1 + prefix_len is_word_byte rest)) (b ∷ rest)
variable-longest b rest h =
    let p : ℕ = prefix_len is_word_byte rest in
    let x : List ℕ = b ∷ take p rest in
    let w = capital-bounds b h in
    let d : is_digit b ≡ false = grind (arith, nat_tests) in
    let n : 1 + p ≡ suc p = omega arith in
    let le : p ≤ length rest = prefix_len-le-length is_word_byte rest in
    let l : length (take p rest) ≡ p = length-prefix_len is_word_byte rest in
    let form : is_variable x ≡ true = name_from-is is_capital b (take p rest) h ∙ list_all-prefix is_word_byte rest in
    let F : ℕ → Type 0 = λ k. IsLongest (limited 255 Variable k) (b ∷ rest) in
    subst F (sym n)
    (limited-longest 255 (suc p) Variable (b ∷ rest) (omega arith) form
    (λ v e. too_long-name x v (or-right (is_word x) (is_variable x) form) (number-not b (take p rest) d) (ap (λ k. nat_lt 255 (suc k)) l ∙ e))
    (no-longer (suc p) b rest (λ k lo hi. token-capital b (take k rest) h ∙ list_all-longer is_word_byte rest k (omega arith) hi)))

number-is : (z d l t : Bool) → z ≡ false → d ≡ true → ((z && t) || (not z && d && l)) ≡ l
number-is z d l t e1 e2 = rw (e1, e2) refl

digits-longest : (b : ℕ) (rest : List ℕ) → is_digit b ≡ true → nat_eq b 48 ≡ false → IsLongest (limited 9 Number (1 + prefix_len is_digit rest)) (b ∷ rest)
digits-longest b rest h z =
    let p : ℕ = prefix_len is_digit rest in
    let x : List ℕ = b ∷ take p rest in
    let w = digit-bounds b h in
    let c : is_small b ≡ false = grind (arith, nat_tests) in
    let d : is_capital b ≡ false = grind (arith, nat_tests) in
    let n : 1 + p ≡ suc p = omega arith in
    let le : p ≤ length rest = prefix_len-le-length is_digit rest in
    let l : length (take p rest) ≡ p = length-prefix_len is_digit rest in
    let number : (xs : List ℕ) → is_number (b ∷ xs) ≡ list_all is_digit xs = λ xs. number-is (nat_eq b 48) (is_digit b) (list_all is_digit xs) (bytes_eq xs []) z h in
    let form : is_number x ≡ true = number (take p rest) ∙ list_all-prefix is_digit rest in
    let F : ℕ → Type 0 = λ k. IsLongest (limited 9 Number k) (b ∷ rest) in
    subst F (sym n)
    (limited-longest 9 (suc p) Number (b ∷ rest) (omega arith) form
    (λ v e. too_long-number x v (or-none (is_word x) (is_variable x) (name_from-not is_small b (take p rest) c) (name_from-not is_capital b (take p rest) d)) form
    (ap (λ k. nat_lt 9 (suc k)) l ∙ e))
    (no-longer (suc p) b rest (λ k lo hi. token-digit b (take k rest) h ∙ number (take k rest) ∙ list_all-longer is_digit rest k (omega arith) hi)))

zero-longer : (rest : List ℕ) (k : ℕ) → 1 ≤ k → k ≤ length rest → is_token (48 ∷ take k rest) ≡ false
zero-longer rest k lo hi =
    token-digit 48 (take k rest) refl
    ∙ ap (λ v. v || false) (bytes_eq-shorter (take k rest) [] (let l = length-take-le k rest hi in omega (arith, l)))

zero-longest : (b : ℕ) (rest : List ℕ) → nat_eq b 48 ≡ true → IsLongest (Piece Number 1) (b ∷ rest)
zero-longest b rest h =
    let F : ℕ → Type 0 = λ a. IsLongest (Piece Number 1) (a ∷ rest) in
    subst F (sym (equal-of b 48 h)) (refl, refl, no-longer 1 48 rest (zero-longer rest))

-- symbols
symbols-longer : (b : ℕ) (rest : List ℕ) (k : ℕ) → ((c : ℕ) (r : List ℕ) → rest ≡ c ∷ r → is_one_of symbols (b ∷ c ∷ []) ≡ false)
    → 1 ≤ k → k ≤ length rest → is_one_of symbols (b ∷ take k rest) ≡ false
symbols-longer b [] k h lo hi = absurd (omega arith)
symbols-longer b (c ∷ r) zero h lo hi = absurd (omega arith)
symbols-longer b (c ∷ r) (suc zero) h lo hi = h c r refl
symbols-longer b (c ∷ []) (suc (suc k)) h lo hi = absurd (omega arith)
symbols-longer b (c ∷ d ∷ r) (suc (suc k)) h lo hi = one_of-longer 2 symbols (b ∷ c ∷ d ∷ take k r) refl (omega arith)

symbols-any : (b : ℕ) (rest : List ℕ) (k : ℕ) → ((c : ℕ) (r : List ℕ) → rest ≡ c ∷ r → is_one_of symbols (b ∷ c ∷ []) ≡ false)
    → is_one_of symbols (b ∷ []) ≡ false → k ≤ length rest → is_one_of symbols (b ∷ take k rest) ≡ false
symbols-any b rest zero h e hi = e
symbols-any b rest (suc k) h e hi = symbols-longer b rest (suc k) h (omega arith) hi

short_symbol-longest : (b : ℕ) (rest : List ℕ) → ((xs : List ℕ) → is_token (b ∷ xs) ≡ is_one_of symbols (b ∷ xs))
    → ((c : ℕ) (r : List ℕ) → rest ≡ c ∷ r → is_one_of symbols (b ∷ c ∷ []) ≡ false) → IsLongest (short_symbol_of b) (b ∷ rest)
short_symbol-longest b rest t h =
    front-if (is_one_of symbols (b ∷ [])) (Piece Symbol 1) (Fault BadByte) (b ∷ rest)
    (λ e. (e, too_long-short (b ∷ []) (omega arith), no-longer 1 b rest (λ k lo hi. t (take k rest) ∙ symbols-longer b rest k h lo hi)))
    (λ e. no-longer 0 b rest (λ k lo hi. t (take k rest) ∙ symbols-any b rest k h e hi))

symbol-longest : (b : ℕ) (rest : List ℕ) → ((xs : List ℕ) → is_token (b ∷ xs) ≡ is_one_of symbols (b ∷ xs)) → IsLongest (symbol_of b rest) (b ∷ rest)
symbol-longest b [] t = short_symbol-longest b [] t (λ c r e. cc)
symbol-longest b (c ∷ r) t =
    front-if (is_one_of symbols (b ∷ c ∷ [])) (Piece Symbol 2) (short_symbol_of b) (b ∷ c ∷ r)
    (λ e. (
      e,
      too_long-short (b ∷ c ∷ []) (omega arith),
      no-longer 2 b (c ∷ r) (λ k lo hi.
          t (take k (c ∷ r)) ∙ one_of-longer 2 symbols (b ∷ take k (c ∷ r)) refl (let l = length-take-le k (c ∷ r) hi in omega (arith, l))),
    ))
    (λ e. short_symbol-longest b (c ∷ r) t (λ d s q. let i : d ≡ c = cc in rw i e))

-- words
unit-forms : (x : List ℕ) → is_one_of units x ≡ true → (x ≡ codes "tt+") ⊎ ((x ≡ codes "tt-") ⊎ ((x ≡ codes "ff+") ⊎ (x ≡ codes "ff-")))
unit-forms x h =
    elim (or-true (bytes_eq x (codes "tt+")) (is_one_of (codes "tt-" ∷ codes "ff+" ∷ codes "ff-" ∷ []) x) h) [
      | inl e ↦ inl ((bytes_eq-Decides x (codes "tt+")).0 e)
      | inr h2 ↦ inr (elim (or-true (bytes_eq x (codes "tt-")) (is_one_of (codes "ff+" ∷ codes "ff-" ∷ []) x) h2) [
        | inl e ↦ inl ((bytes_eq-Decides x (codes "tt-")).0 e)
        | inr h3 ↦ inr (elim (or-true (bytes_eq x (codes "ff+")) (is_one_of (codes "ff-" ∷ []) x) h3) [
          | inl e ↦ inl ((bytes_eq-Decides x (codes "ff+")).0 e)
          | inr h4 ↦ inr ((bytes_eq-Decides x (codes "ff-")).0 (sym (or-false (bytes_eq x (codes "ff-"))) ∙ h4))
        ])
      ])
    ]

unit_word-forms : (x : List ℕ) → is_one_of unit_words x ≡ true → (x ≡ codes "tt") ⊎ (x ≡ codes "ff")
unit_word-forms x h =
    elim (or-true (bytes_eq x (codes "tt")) (is_one_of (codes "ff" ∷ []) x) h) [
      | inl e ↦ inl ((bytes_eq-Decides x (codes "tt")).0 e)
      | inr k ↦ inr ((bytes_eq-Decides x (codes "ff")).0 (sym (or-false (bytes_eq x (codes "ff"))) ∙ k))
    ]

take-two : (k : ℕ) (rest : List ℕ) (c s : ℕ) → take k rest ≡ c ∷ s ∷ [] → (r : List ℕ) × (rest ≡ c ∷ s ∷ r)
take-two zero rest c s h = cc
take-two (suc k) [] c s h = cc
take-two (suc zero) (x ∷ xs) c s h = cc
take-two (suc (suc k)) (x ∷ []) c s h = cc
take-two (suc (suc k)) (x ∷ y ∷ ys) c s h = (ys, cc)

-- the word that the bytes begin with is a unit's, and a sign comes behind it
abbrev begins_with_unit : ℕ → List ℕ → Bool
begins_with_unit b rest = is_one_of unit_words (b ∷ take (prefix_len is_word_byte rest) rest) && begins_with_sign (drop (prefix_len is_word_byte rest) rest)

begins_with_unit-at : (b b' c s : ℕ) (rest : List ℕ) (k : ℕ) → b ∷ take k rest ≡ b' ∷ c ∷ s ∷ [] → ((r : List ℕ) → begins_with_unit b' (c ∷ s ∷ r) ≡ true) → begins_with_unit b rest ≡ true
begins_with_unit-at b b' c s rest k h u =
    let t : take k rest ≡ c ∷ s ∷ [] = cc in
    let e : b ≡ b' = cc in
    let w = take-two k rest c s t in
    let i : rest ≡ c ∷ s ∷ w.0 = w.1 in
    rw (e, i) (u w.0)

begins_with_unit-seen : (b : ℕ) (rest : List ℕ) (k : ℕ) → is_one_of units (b ∷ take k rest) ≡ true → begins_with_unit b rest ≡ true
begins_with_unit-seen b rest k h =
    elim (unit-forms (b ∷ take k rest) h) [
      | inl e ↦ begins_with_unit-at b 116 116 43 rest k e (λ r. refl)
      | inr h2 ↦ (elim h2 [
        | inl e ↦ begins_with_unit-at b 116 116 45 rest k e (λ r. refl)
        | inr h3 ↦ (elim h3 [
          | inl e ↦ begins_with_unit-at b 102 102 43 rest k e (λ r. refl)
          | inr e ↦ begins_with_unit-at b 102 102 45 rest k e (λ r. refl)
        ])
      ])
    ]

name-form : (w k : Bool) → w ≡ true → k ≡ false → (w && not k) ≡ true
name-form w k e f = rw (e, f) refl

-- a word at the front, and a unit
abbrev word_at : ℕ → List ℕ → List ℕ
word_at b rest = b ∷ take (prefix_len is_word_byte rest) rest

unit-longer : (b c s : ℕ) (r : List ℕ) → is_small b ≡ true → prefix_len is_word_byte (c ∷ s ∷ r) ≡ 1 → NoLonger 3 (b ∷ c ∷ s ∷ r)
unit-longer b c s r h p =
    no-longer 3 b (c ∷ s ∷ r) (λ k lo hi.
    token-small b (take k (c ∷ s ∷ r)) h
    ∙ or-none (list_all is_word_byte (take k (c ∷ s ∷ r))) (is_one_of units (b ∷ take k (c ∷ s ∷ r)))
    (list_all-longer is_word_byte (c ∷ s ∷ r) k (omega arith) hi)
    (one_of-longer 3 units (b ∷ take k (c ∷ s ∷ r)) refl (let l = length-take-le k (c ∷ s ∷ r) hi in omega (arith, l))))

sign-forms : (bytes : List ℕ) → begins_with_sign bytes ≡ true → (r : List ℕ) × ((bytes ≡ 43 ∷ r) ⊎ (bytes ≡ 45 ∷ r))
sign-forms [] h = cc
sign-forms (b ∷ bs) h = (bs, elim (or-true (nat_eq b 43) (nat_eq b 45) h) [ inl e ↦ inl (ap (λ a. a ∷ bs) (equal-of b 43 e)) | inr e ↦ inr (ap (λ a. a ∷ bs) (equal-of b 45 e)) ])

abbrev IsUnitLongest : ℕ → List ℕ → Type 0
IsUnitLongest b rest = IsLongest (Piece Word (length (word_at b rest) + 1)) (b ∷ rest)

unit-at : (b b' c s : ℕ) (rest r : List ℕ) → word_at b rest ≡ b' ∷ c ∷ [] → drop (prefix_len is_word_byte rest) rest ≡ s ∷ r → IsUnitLongest b' (c ∷ s ∷ r) → IsUnitLongest b rest
unit-at b b' c s rest r x d u =
    let e : b ≡ b' = cc in
    let t : take (prefix_len is_word_byte rest) rest ≡ c ∷ [] = cc in
    let i : rest ≡ c ∷ s ∷ r = sym (take-append-drop (prefix_len is_word_byte rest) rest) ∙ rw (t, d) refl in
    let F : ℕ → List ℕ → Type 0 = λ a l. IsUnitLongest a l in
    subst (λ (a : ℕ). F a rest) (sym e) (subst (λ (l : List ℕ). F b' l) (sym i) u)

unit-longest : (b : ℕ) (rest : List ℕ) → begins_with_unit b rest ≡ true → IsUnitLongest b rest
unit-longest b rest h =
    let p : ℕ = prefix_len is_word_byte rest in
    let w = and-true-parts (is_one_of unit_words (word_at b rest)) (begins_with_sign (drop p rest)) h in
    let g = sign-forms (drop p rest) w.1 in
    elim (unit_word-forms (word_at b rest) w.0) [
      | inl x ↦ (elim g.1 [
        | inl d ↦ unit-at b 116 116 43 rest g.0 x d (refl, refl, unit-longer 116 116 43 g.0 refl refl)
        | inr d ↦ unit-at b 116 116 45 rest g.0 x d (refl, refl, unit-longer 116 116 45 g.0 refl refl)
      ])
      | inr x ↦ (elim g.1 [
        | inl d ↦ unit-at b 102 102 43 rest g.0 x d (refl, refl, unit-longer 102 102 43 g.0 refl refl)
        | inr d ↦ unit-at b 102 102 45 rest g.0 x d (refl, refl, unit-longer 102 102 45 g.0 refl refl)
      ])
    ]

one_of-within : (n : ℕ) (texts : List (List ℕ)) (x : List ℕ) → list_all (λ t. nat_le (length t) n) texts ≡ true → is_one_of texts x ≡ true → length x ≤ n
one_of-within n texts x h e =
    elim (leb_tells (length x) n) [
      | inl w ↦ w.1
      | inr w ↦ (let f : is_one_of texts x ≡ false = one_of-longer n texts x h w.1 in cc)
    ]

word-longest : (b : ℕ) (rest : List ℕ) → is_small b ≡ true → IsLongest (word_of (word_at b rest) (drop (prefix_len is_word_byte rest) rest)) (b ∷ rest)
word-longest b rest h =
    let p : ℕ = prefix_len is_word_byte rest in
    let x : List ℕ = word_at b rest in
    let w = small-bounds b h in
    let d : is_digit b ≡ false = grind (arith, nat_tests) in
    let le : p ≤ length rest = prefix_len-le-length is_word_byte rest in
    let l : length x ≡ suc p = ap suc (length-prefix_len is_word_byte rest) in
    let is : is_word x ≡ true = name_from-is is_small b (take p rest) h ∙ list_all-prefix is_word_byte rest in
    let long : (v : Bool) → nat_lt 255 (length x) ≡ v → is_too_long x ≡ v =
    λ v e. too_long-name x v (or-left (is_word x) (is_variable x) is) (number-not b (take p rest) d) e in
    let none : begins_with_unit b rest ≡ false → NoLonger (suc p) (b ∷ rest) = λ e. no-longer (suc p) b rest (λ k lo hi.
    token-small b (take k rest) h
    ∙ or-none (list_all is_word_byte (take k rest)) (is_one_of units (b ∷ take k rest)) (list_all-longer is_word_byte rest k (omega arith) hi)
    (not-true (is_one_of units (b ∷ take k rest)) (λ u. let s = begins_with_unit-seen b rest k u in cc))) in
    front-if (begins_with_unit b rest) (Piece Word (length x + 1)) (if is_one_of keywords x then Piece Word (length x) else limited 255 Name (length x)) (b ∷ rest)
    (λ e. unit-longest b rest e)
    (λ e. front-if (is_one_of keywords x) (Piece Word (length x)) (limited 255 Name (length x)) (b ∷ rest)
    (λ f. let F : ℕ → Type 0 = λ n. IsLongest (Piece Word n) (b ∷ rest) in
    subst F (sym l)
    (or-left (is_one_of keywords x) (is_one_of units x) f, long false (within-not-lt (length x) 255 (let k = one_of-within 11 keywords x refl f in omega (arith, k))), none e))
    (λ f. let F : ℕ → Type 0 = λ n. IsLongest (limited 255 Name n) (b ∷ rest) in
    subst F (sym l)
    (limited-longest 255 (suc p) Name (b ∷ rest) (omega arith) (name-form (is_word x) (is_one_of keywords x) is f) (λ v q. long v (ap (λ n. nat_lt 255 n) l ∙ q)) (none e))))

-- blanks and comments
blank-bound : (b : ℕ) → is_blank b ≡ true → b ≤ 37
blank-bound b h = grind (arith, nat_tests)

token-none : (b : ℕ) (xs : List ℕ) → b ≤ 37 → is_token (b ∷ xs) ≡ false
token-none b xs le =
    let h : is_small b ≡ false = grind (arith, nat_tests) in
    let c : is_capital b ≡ false = grind (arith, nat_tests) in
    let d : is_digit b ≡ false = grind (arith, nat_tests) in
    token-other b xs h c d
    ∙ symbols-none b xs (λ e. omega arith) (λ e. omega arith) (λ e. omega arith) (λ e. omega arith) (λ e. omega arith) (λ e. omega arith)
    (λ e. omega arith) (λ e. omega arith) (λ e. omega arith) (λ e. omega arith) (λ e. omega arith)

gap-longest : (b : ℕ) (rest : List ℕ) → b ≤ 37 → NoLonger 0 (b ∷ rest)
gap-longest b rest le = no-longer 0 b rest (λ k lo hi. token-none b (take k rest) le)

pub IsLongest-front_of : LongestIsTaken
IsLongest-front_of b rest =
    front-if (is_blank b) (Gap 1) _ (b ∷ rest) (λ e. gap-longest b rest (blank-bound b e)) (λ e0.
    front-if (nat_eq b 37) (Gap (1 + prefix_len is_in_line rest)) _ (b ∷ rest) (λ e. gap-longest b rest (let q = equal-of b 37 e in omega (arith, q))) (λ e1.
    front-if (is_small b) (word_of (word_at b rest) (drop (prefix_len is_word_byte rest) rest)) _ (b ∷ rest) (word-longest b rest) (λ small.
    front-if (is_capital b) (limited 255 Variable (1 + prefix_len is_word_byte rest)) _ (b ∷ rest) (variable-longest b rest) (λ capital.
    front-if (nat_eq b 48) (Piece Number 1) _ (b ∷ rest) (zero-longest b rest) (λ zero'.
    front-if (is_digit b) (limited 9 Number (1 + prefix_len is_digit rest)) (symbol_of b rest) (b ∷ rest) (λ digit. digits-longest b rest digit zero') (λ digit.
    symbol-longest b rest (λ xs. token-other b xs small capital digit)))))))

longest-piece : (kind : TokenKind) (n : ℕ) (bytes : List ℕ) (f : Front) → f ≡ Piece kind n → IsLongest f bytes → HasForm kind (take n bytes)
longest-piece kind n bytes f e h = let g : IsLongest (Piece kind n) bytes = subst (λ x. IsLongest x bytes) e h in (g.0, g.1)

front-form : (kind : TokenKind) (n : ℕ) (bytes : List ℕ) → IsFront (Piece kind n) bytes → HasForm kind (take n bytes)
front-form kind n [] h = let s = h.some in let w = h.within in absurd (omega arith)
front-form kind n (b ∷ rest) h = longest-piece kind n (b ∷ rest) (front_of b rest) (sym (h.front b rest refl)) (IsLongest-front_of b rest)

-- the token at the front of what a slice tells has its form
pub piece-form : (at n : ℕ) (kind : TokenKind) (bytes : List ℕ) → IsFront (Piece kind n) (take (length bytes - at) (drop at bytes)) → HasForm kind (take (at + n - at) (drop at bytes))
piece-form at n kind bytes h =
    let e : at + n - at ≡ n = omega arith in
    rw e (front-form kind n (drop at bytes) (rw (take_rest bytes at) at h))
