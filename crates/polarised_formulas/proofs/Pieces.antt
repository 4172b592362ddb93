-- What a piece of printed text says, before other bytes.
use Rattle.std.proofs.Common.{◌≡◌, ℕ, suc, ◌+◌, ◌^◌, ◌%◌, ◌<◌, ◌≤◌, Bool, true, false, cond, not, ◌&&◌, ◌||◌, nat_eq, nat_le, nat_lt, List, [], ◌∷◌, ◌++◌, length, take, drop, map, codes, refl, ap, arith, ◌∙◌, sym, length-append}
use Rattle.std.specs.List.{list_all, prefix_len}
use Rattle.std.specs.Fmt.{decimal}
use Rattle.std.proofs.Math.Seq.{take-append_seam, drop-append_seam}
use Rattle.std.proofs.lemmas.Fmt.{decimal_by_steps, length-decimal-le}
use Rattle.std.proofs.lemmas.List.Folds.{list_all-append}
use Rattle.std.proofs.lemmas.Bool.{and_parts, false≢true}
use Rattle.std.proofs.Math.Bool.{and-false}
use Rattle.std.proofs.lemmas.Bool.Decides.{nat_tests}
use Rattle.fpc_base.specs.declared.tokens.TokenKind.{TokenKind}
use Rattle.fpc_base.specs.declared.tokens.TokenKind.TheVariants.{Name, Variable, Word, Symbol}
use Rattle.fpc_base.specs.declared.tokens.front.Front.TheVariants.{Piece}
use Rattle.fpc_base.specs.declared.tokens.lexeme.Sign.TheVariants as sign
use Rattle.fpc_base.specs.Tokens.{is_small, is_capital, is_digit, is_word_byte, is_blank, is_one_of, unit_words, keywords, begins_with_sign, word_of, front_of, tokens_behind, is_word, is_variable, is_number, HasForm}
use Rattle.fpc_base.specs.Lexeme.{Lexeme, a_name, a_variable, a_sign, lexeme_of, item_of}
use Rattle.fpc_base.proofs.TokenLemmas.{IsFront, tokens_behind-front}
use Rattle.polarised_formulas.specs.WrittenOf.{bound_text}
use Rattle.polarised_formulas.specs.Spoken.{Says}

-- the bytes, from any place on, say the tokens
abbrev pub Scans : List Lexeme → List ℕ → Type 0
Scans cs bytes = (at : ℕ) → Says cs (map item_of (tokens_behind 0 at bytes))

-- the bytes begin with none that goes on with a word, and with no sign
abbrev pub stops : List ℕ → Bool
stops [] = true
stops (b ∷ bs) = not (is_word_byte b) && not (nat_eq b 43 || nat_eq b 45)

-- a piece before other bytes
pub scans-piece : (kind : TokenKind) (b : ℕ) (bs rest : List ℕ) (cs : List Lexeme) → front_of b (bs ++ rest) ≡ Piece kind (suc (length bs)) → Scans cs rest
    → Scans (lexeme_of kind (b ∷ bs) ∷ cs) (b ∷ (bs ++ rest))
scans-piece kind b bs rest cs e h at =
    let n : ℕ = suc (length bs) in
    let f : IsFront (Piece kind n) (b ∷ (bs ++ rest)) = record {
      front = λ c r q. front-at c r q;
      some = omega arith;
      within = omega (arith, length-append bs rest);
    } in
    let t : take n (b ∷ (bs ++ rest)) ≡ b ∷ bs = ap (λ l. b ∷ l) (take-append_seam bs rest) in
    let d : drop n (b ∷ (bs ++ rest)) ≡ rest = drop-append_seam bs rest in
    rw (tokens_behind-front at (b ∷ (bs ++ rest)) (Piece kind n) f) (rw (t, d) (refl, h (at + n)))
  where
    front-at : (c : ℕ) (r : List ℕ) → b ∷ (bs ++ rest) ≡ c ∷ r → Piece kind (suc (length bs)) ≡ front_of c r
    front-at c r q = let i : b ≡ c = cc in let j : bs ++ rest ≡ r = cc in rw (← i, ← j) (sym e)

-- a blank
pub scans-blank : (rest : List ℕ) (cs : List Lexeme) → Scans cs rest → Scans cs (32 ∷ rest)
scans-blank rest cs h at = h (suc at)

pub scans-end : (rest : List ℕ) (cs : List Lexeme) → Scans cs rest → Scans cs (10 ∷ rest)
scans-end rest cs h at = h (suc at)

-- symbols that are a byte, and with which no longer one begins
pub scans-open : (rest : List ℕ) (cs : List Lexeme) → Scans cs rest → Scans (a_sign sign.OpenParenthesis ∷ cs) (40 ∷ rest)
scans-open [] cs h = scans-piece Symbol 40 [] [] cs refl h
scans-open (b ∷ rest) cs h = scans-piece Symbol 40 [] (b ∷ rest) cs refl h

pub scans-close : (rest : List ℕ) (cs : List Lexeme) → Scans cs rest → Scans (a_sign sign.CloseParenthesis ∷ cs) (41 ∷ rest)
scans-close [] cs h = scans-piece Symbol 41 [] [] cs refl h
scans-close (b ∷ rest) cs h = scans-piece Symbol 41 [] (b ∷ rest) cs refl h

pub scans-comma : (rest : List ℕ) (cs : List Lexeme) → Scans cs rest → Scans (a_sign sign.Comma ∷ cs) (44 ∷ rest)
scans-comma [] cs h = scans-piece Symbol 44 [] [] cs refl h
scans-comma (b ∷ rest) cs h = scans-piece Symbol 44 [] (b ∷ rest) cs refl h

pub scans-dot : (rest : List ℕ) (cs : List Lexeme) → Scans cs rest → Scans (a_sign sign.Dot ∷ cs) (46 ∷ rest)
scans-dot [] cs h = scans-piece Symbol 46 [] [] cs refl h
scans-dot (b ∷ rest) cs h = scans-piece Symbol 46 [] (b ∷ rest) cs refl h

pub scans-tilde : (rest : List ℕ) (cs : List Lexeme) → Scans cs rest → Scans (a_sign sign.Tilde ∷ cs) (126 ∷ rest)
scans-tilde [] cs h = scans-piece Symbol 126 [] [] cs refl h
scans-tilde (b ∷ rest) cs h = scans-piece Symbol 126 [] (b ∷ rest) cs refl h

pub scans-plus : (rest : List ℕ) (cs : List Lexeme) → Scans cs rest → Scans (a_sign sign.Plus ∷ cs) (43 ∷ rest)
scans-plus [] cs h = scans-piece Symbol 43 [] [] cs refl h
scans-plus (b ∷ rest) cs h = scans-piece Symbol 43 [] (b ∷ rest) cs refl h

pub scans-minus : (rest : List ℕ) (cs : List Lexeme) → Scans cs rest → Scans (a_sign sign.Minus ∷ cs) (45 ∷ rest)
scans-minus [] cs h = scans-piece Symbol 45 [] [] cs refl h
scans-minus (b ∷ rest) cs h = scans-piece Symbol 45 [] (b ∷ rest) cs refl h

-- a colon between blanks
pub scans-colon : (rest : List ℕ) (cs : List Lexeme) → Scans cs rest → Scans (a_sign sign.Colon ∷ cs) (codes " : " ++ rest)
scans-colon rest cs h =
    scans-blank (58 ∷ 32 ∷ rest) (a_sign sign.Colon ∷ cs) (scans-piece Symbol 58 [] (32 ∷ rest) cs refl (scans-blank rest cs h))

-- words and units
pub scans-all : (rest : List ℕ) (cs : List Lexeme) → Scans cs rest → Scans (a_sign sign.All ∷ cs) (codes "all " ++ rest)
scans-all rest cs h = scans-piece Word 97 (codes "ll") (32 ∷ rest) cs refl (scans-blank rest cs h)

pub scans-some : (rest : List ℕ) (cs : List Lexeme) → Scans cs rest → Scans (a_sign sign.Some ∷ cs) (codes "some " ++ rest)
scans-some rest cs h = scans-piece Word 115 (codes "ome") (32 ∷ rest) cs refl (scans-blank rest cs h)

pub scans-true_plus : (rest : List ℕ) (cs : List Lexeme) → Scans cs rest → Scans (a_sign sign.TruePlus ∷ cs) (codes "tt+" ++ rest)
scans-true_plus rest cs h = scans-piece Word 116 (codes "t+") rest cs refl h

pub scans-true_minus : (rest : List ℕ) (cs : List Lexeme) → Scans cs rest → Scans (a_sign sign.TrueMinus ∷ cs) (codes "tt-" ++ rest)
scans-true_minus rest cs h = scans-piece Word 116 (codes "t-") rest cs refl h

pub scans-false_plus : (rest : List ℕ) (cs : List Lexeme) → Scans cs rest → Scans (a_sign sign.FalsePlus ∷ cs) (codes "ff+" ++ rest)
scans-false_plus rest cs h = scans-piece Word 102 (codes "f+") rest cs refl h

pub scans-false_minus : (rest : List ℕ) (cs : List Lexeme) → Scans cs rest → Scans (a_sign sign.FalseMinus ∷ cs) (codes "ff-" ++ rest)
scans-false_minus rest cs h = scans-piece Word 102 (codes "f-") rest cs refl h

small-bounds : (b : ℕ) → is_small b ≡ true → (97 ≤ b) × (b ≤ 122)
small-bounds b h = grind (arith, nat_tests)

-- how far a word goes
pub prefix-stops : (xs rest : List ℕ) → list_all is_word_byte xs ≡ true → stops rest ≡ true → prefix_len is_word_byte (xs ++ rest) ≡ length xs
prefix-stops [] [] h s = refl
prefix-stops [] (b ∷ rest) h s = by_test (is_word_byte b) refl where
  by_test : (v : Bool) → is_word_byte b ≡ v → cond v (1 + prefix_len is_word_byte rest) 0 ≡ 0
  by_test false e = refl
  by_test true e = cc
prefix-stops (x ∷ xs) rest h s =
    let w = and_parts (is_word_byte x) (list_all is_word_byte xs) h in
    rw (w.0, prefix-stops xs rest w.1 s) (omega arith)

no-sign : (rest : List ℕ) → stops rest ≡ true → begins_with_sign rest ≡ false
no-sign [] s = refl
no-sign (b ∷ rest) s = not_true (nat_eq b 43 || nat_eq b 45) (and_parts (not (is_word_byte b)) (not (nat_eq b 43 || nat_eq b 45)) s).1 where
  not_true : (v : Bool) → not v ≡ true → v ≡ false
  not_true true e = cc
  not_true false e = refl

-- a name
front-word : (b : ℕ) (rest : List ℕ) → is_small b ≡ true
    → front_of b rest ≡ word_of (b ∷ take (prefix_len is_word_byte rest) rest) (drop (prefix_len is_word_byte rest) rest)
front-word b rest h =
    let w = small-bounds b h in
    let blank : is_blank b ≡ false = grind (arith, nat_tests) in
    let comment : nat_eq b 37 ≡ false = grind (arith, nat_tests) in
    rw (blank, comment, h) refl

word-name : (x rest : List ℕ) → is_one_of keywords x ≡ false → begins_with_sign rest ≡ false → nat_le (length x) 255 ≡ true → word_of x rest ≡ Piece Name (length x)
word-name x rest k s l = rw (s, k, l) (rw (and-false (is_one_of unit_words x)) refl)

is-within : (w v n l m : Bool) → w ≡ true → ((w || v) && l || n && m) ≡ false → l ≡ false
is-within true v n true m e h = cc
is-within w v n false m e h = refl
is-within false v n true m e h = cc

within-le : (a b : ℕ) → nat_lt a b ≡ false → nat_le b a ≡ true
within-le a b h = grind (arith, nat_tests)

no-keyword : (w k : Bool) → (w && not k) ≡ true → (w ≡ true) × (k ≡ false)
no-keyword true false h = (refl, refl)
no-keyword true true h = cc
no-keyword false k h = cc

pub scans-name : (x rest : List ℕ) (cs : List Lexeme) → HasForm Name x → stops rest ≡ true → Scans cs rest → Scans (a_name x ∷ cs) (x ++ rest)
scans-name [] rest cs f s h = absurd (false≢true f.0)
scans-name (b ∷ bs) rest cs f s h =
    let form = no-keyword (is_word (b ∷ bs)) (is_one_of keywords (b ∷ bs)) f.0 in
    let word = and_parts (is_small b) (list_all is_word_byte bs) form.0 in
    let short : nat_le (length (b ∷ bs)) 255 ≡ true =
    within-le 255 (length (b ∷ bs)) (is-within (is_word (b ∷ bs)) (is_variable (b ∷ bs)) (is_number (b ∷ bs)) (nat_lt 255 (length (b ∷ bs))) (nat_lt 9 (length (b ∷ bs))) form.0 f.1) in
    let p : prefix_len is_word_byte (bs ++ rest) ≡ length bs = prefix-stops bs rest word.1 s in
    let t : take (prefix_len is_word_byte (bs ++ rest)) (bs ++ rest) ≡ bs = rw p (take-append_seam bs rest) in
    let d : drop (prefix_len is_word_byte (bs ++ rest)) (bs ++ rest) ≡ rest = rw p (drop-append_seam bs rest) in
    let front : front_of b (bs ++ rest) ≡ Piece Name (suc (length bs)) =
    front-word b (bs ++ rest) word.0 ∙ rw (t, d) (word-name (b ∷ bs) rest form.1 (no-sign rest s) short) in
    scans-piece Name b bs rest cs front h

-- a variable by its number
pub digits-pass : (n : ℕ) → n < 2 ^ 64 → list_all is_word_byte (decimal n) ≡ true
digits-pass n lt = decimal_by_steps (λ m ds. list_all is_word_byte ds ≡ true) one more n lt where
  digit : (k : ℕ) → k < 10 → is_digit (48 + k) ≡ true
  digit k lt = grind (arith, nat_tests)

  word_digit : (b : ℕ) → is_digit b ≡ true → is_word_byte b ≡ true
  word_digit b h = parts (is_small b) (is_capital b) (is_digit b) (nat_eq b 95) h where
    parts : (s c d u : Bool) → d ≡ true → (s || c || d || u) ≡ true
    parts true c d u h = refl
    parts false true d u h = refl
    parts false false true u h = refl
    parts false false false u h = cc

  single : (k : ℕ) → k < 10 → list_all is_word_byte ((48 + k) ∷ []) ≡ true
  single k lt = let w : is_word_byte (48 + k) ≡ true = word_digit (48 + k) (digit k lt) in ap (λ v. v && true) w

  one : (m : ℕ) → m < 10 → list_all is_word_byte ((48 + m) ∷ []) ≡ true
  one m lt = single m lt

  more : (m : ℕ) (ds : List ℕ) → 10 ≤ m → list_all is_word_byte ds ≡ true → list_all is_word_byte (ds ++ (48 + m % 10) ∷ []) ≡ true
  more m ds le h = let s : list_all is_word_byte ((48 + m % 10) ∷ []) ≡ true = single (m % 10) (omega arith) in list_all-append is_word_byte ds ((48 + m % 10) ∷ []) ∙ rw (h, s) refl

pub scans-variable : (j : ℕ) (rest : List ℕ) (cs : List Lexeme) → j < 2 ^ 64 → stops rest ≡ true → Scans cs rest
    → Scans (a_variable (bound_text j) ∷ cs) (88 ∷ (decimal j ++ rest))
scans-variable j rest cs lt s h =
    let p : prefix_len is_word_byte (decimal j ++ rest) ≡ length (decimal j) = prefix-stops (decimal j) rest (digits-pass j lt) s in
    let short : length (decimal j) ≤ 20 = length-decimal-le 20 j (omega arith) (omega (arith, lt)) lt in
    let n : 1 + prefix_len is_word_byte (decimal j ++ rest) ≡ suc (length (decimal j)) = omega (arith, p) in
    let l : nat_le (suc (length (decimal j))) 255 ≡ true = grind (arith, nat_tests) in
    scans-piece Variable 88 (decimal j) rest cs (rw n (rw l refl)) h

-- the falsity of LJF
pub scans-false : (rest : List ℕ) (cs : List Lexeme) → stops rest ≡ true → Scans cs rest → Scans (a_sign sign.False ∷ cs) (codes "ff" ++ rest)
scans-false rest cs s h =
    let p : prefix_len is_word_byte (102 ∷ rest) ≡ 1 = prefix-stops (102 ∷ []) rest refl s in
    let t : take (prefix_len is_word_byte (102 ∷ rest)) (102 ∷ rest) ≡ 102 ∷ [] = rw p refl in
    let d : drop (prefix_len is_word_byte (102 ∷ rest)) (102 ∷ rest) ≡ rest = rw p refl in
    let q : begins_with_sign rest ≡ false = no-sign rest s in
    let front : front_of 102 (102 ∷ rest) ≡ Piece Word 2 = front-word 102 (102 ∷ rest) refl ∙ rw (t, d) (rw q refl) in
    scans-piece Word 102 (102 ∷ []) rest cs front h

-- a connective between blanks, before a byte
pub scans-and_plus : (rest : List ℕ) (cs : List Lexeme) → Scans cs rest → Scans (a_sign sign.AndPlus ∷ cs) (32 ∷ (codes "&+" ++ 32 ∷ rest))
scans-and_plus rest cs h = scans-blank (codes "&+ " ++ rest) (a_sign sign.AndPlus ∷ cs) (scans-piece Symbol 38 (43 ∷ []) (32 ∷ rest) cs refl (scans-blank rest cs h))

pub scans-and_minus : (rest : List ℕ) (cs : List Lexeme) → Scans cs rest → Scans (a_sign sign.AndMinus ∷ cs) (32 ∷ (codes "&-" ++ 32 ∷ rest))
scans-and_minus rest cs h = scans-blank (codes "&- " ++ rest) (a_sign sign.AndMinus ∷ cs) (scans-piece Symbol 38 (45 ∷ []) (32 ∷ rest) cs refl (scans-blank rest cs h))

pub scans-bar_plus : (rest : List ℕ) (cs : List Lexeme) → Scans cs rest → Scans (a_sign sign.BarPlus ∷ cs) (32 ∷ (codes "|+" ++ 32 ∷ rest))
scans-bar_plus rest cs h = scans-blank (codes "|+ " ++ rest) (a_sign sign.BarPlus ∷ cs) (scans-piece Symbol 124 (43 ∷ []) (32 ∷ rest) cs refl (scans-blank rest cs h))

pub scans-bar_minus : (rest : List ℕ) (cs : List Lexeme) → Scans cs rest → Scans (a_sign sign.BarMinus ∷ cs) (32 ∷ (codes "|-" ++ 32 ∷ rest))
scans-bar_minus rest cs h = scans-blank (codes "|- " ++ rest) (a_sign sign.BarMinus ∷ cs) (scans-piece Symbol 124 (45 ∷ []) (32 ∷ rest) cs refl (scans-blank rest cs h))

pub scans-bar : (rest : List ℕ) (cs : List Lexeme) → Scans cs rest → Scans (a_sign sign.Bar ∷ cs) (32 ∷ (codes "|" ++ 32 ∷ rest))
scans-bar rest cs h = scans-blank (codes "| " ++ rest) (a_sign sign.Bar ∷ cs) (scans-piece Symbol 124 [] (32 ∷ rest) cs refl (scans-blank rest cs h))

pub scans-arrow : (rest : List ℕ) (cs : List Lexeme) → Scans cs rest → Scans (a_sign sign.Arrow ∷ cs) (32 ∷ (codes "=>" ++ 32 ∷ rest))
scans-arrow rest cs h = scans-blank (codes "=> " ++ rest) (a_sign sign.Arrow ∷ cs) (scans-piece Symbol 61 (62 ∷ []) (32 ∷ rest) cs refl (scans-blank rest cs h))
