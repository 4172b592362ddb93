-- The tokens of a text, told by its bytes.
use Rattle.std.specs.Prelude.{◌≡◌, ℕ, suc, zero, ◌+◌, ◌-◌, ◌<◌, ◌≤◌, Bool, true, false, if◌then◌else◌, not, ◌&&◌, ◌||◌, nat_eq, nat_le, nat_lt, List, [], ◌∷◌, length, take, drop, slice_range, codes, Option, Some, None, Result, Ok, Err}
use Rattle.std.specs.List.{list_any, list_all, prefix_len}
use Rattle.std.specs.Str.{bytes_eq}
use Rattle.fpc_base.specs.declared.refusal.Code.TheVariants.{BadByte, LongName}
use Rattle.fpc_base.specs.declared.refusal.Refusal.{Refusal}
use Rattle.fpc_base.specs.declared.tokens.Token.{Token}
use Rattle.fpc_base.specs.declared.tokens.TokenKind.{TokenKind}
use Rattle.fpc_base.specs.declared.tokens.TokenKind.TheVariants.{Name, Variable, Number, Word, Symbol}
use Rattle.fpc_base.specs.declared.tokens.Tokens.{Tokens}
use Rattle.fpc_base.specs.declared.tokens.front.Front.{Front}
use Rattle.fpc_base.specs.declared.tokens.front.Front.TheVariants.{Gap, Piece, Fault}

-- `a` to `z`
abbrev pub is_small : ℕ → Bool
is_small b = nat_le 97 b && nat_le b 122

-- `A` to `Z`
abbrev pub is_capital : ℕ → Bool
is_capital b = nat_le 65 b && nat_le b 90

-- `0` to `9`
abbrev pub is_digit : ℕ → Bool
is_digit b = nat_le 48 b && nat_le b 57

-- a letter, a digit or `_`: what a word or a variable goes on with
abbrev pub is_word_byte : ℕ → Bool
is_word_byte b = is_small b || is_capital b || is_digit b || nat_eq b 95

-- a space, a tab, the end of a line or a carriage return
abbrev pub is_blank : ℕ → Bool
is_blank b = nat_eq b 32 || nat_eq b 9 || nat_eq b 10 || nat_eq b 13

-- what a comment goes on with
abbrev pub is_in_line : ℕ → Bool
is_in_line b = not (nat_eq b 10)

-- the text is one of those
abbrev pub is_one_of : List (List ℕ) → List ℕ → Bool
is_one_of texts x = list_any (bytes_eq x) texts

-- all symbols
abbrev pub symbols : List (List ℕ)
symbols =
    codes "(" ∷ codes ")" ∷ codes "," ∷ codes "." ∷ codes ":" ∷ codes ":-" ∷ codes ":=" ∷ codes "|" ∷ codes "|+" ∷ codes "|-"
    ∷ codes "&+" ∷ codes "&-" ∷ codes "=>" ∷ codes "~" ∷ codes "+" ∷ codes "-" ∷ []

-- the words that are a unit before a sign
abbrev pub unit_words : List (List ℕ)
unit_words = codes "tt" ∷ codes "ff" ∷ []

-- the words that are no names
abbrev pub keywords : List (List ℕ)
keywords = codes "all" ∷ codes "some" ∷ codes "tt" ∷ codes "ff" ∷ codes "formula" ∷ codes "certificate" ∷ []

-- `+` or `-` comes next
abbrev pub begins_with_sign : List ℕ → Bool
begins_with_sign [] = false
begins_with_sign (b ∷ bs) = nat_eq b 43 || nat_eq b 45

-- a token of so many bytes, unless they are more than it may have
abbrev pub limited : ℕ → TokenKind → ℕ → Front
limited most kind n = if nat_le n most then Piece kind n else Fault LongName

-- what a word is, before the bytes behind it
abbrev pub word_of : List ℕ → List ℕ → Front
word_of x rest =
    if is_one_of unit_words x && begins_with_sign rest then Piece Word (length x + 1)
    else (if is_one_of keywords x then Piece Word (length x)
    else limited 255 Name (length x))

-- the symbol that a byte is by itself
abbrev pub short_symbol_of : ℕ → Front
short_symbol_of b = if is_one_of symbols (b ∷ []) then Piece Symbol 1 else Fault BadByte

-- the longest symbol at the front
abbrev pub symbol_of : ℕ → List ℕ → Front
symbol_of b [] = short_symbol_of b
symbol_of b (c ∷ rest) = if is_one_of symbols (b ∷ c ∷ []) then Piece Symbol 2 else short_symbol_of b

-- what stands at the front, a byte and those behind it: a blank or a comment, the longest token, or a fault
abbrev pub front_of : ℕ → List ℕ → Front
front_of b rest =
    if is_blank b then Gap 1
    else (if nat_eq b 37 then Gap (1 + prefix_len is_in_line rest)
    else (if is_small b then word_of (b ∷ take (prefix_len is_word_byte rest) rest) (drop (prefix_len is_word_byte rest) rest)
    else (if is_capital b then limited 255 Variable (1 + prefix_len is_word_byte rest)
    else (if nat_eq b 48 then Piece Number 1
    else (if is_digit b then limited 9 Number (1 + prefix_len is_digit rest)
    else symbol_of b rest)))))

-- how many bytes it takes
abbrev pub size_of : Front → ℕ
size_of (Gap n) = n
size_of (Piece kind n) = n
size_of (Fault code) = 1

-- a token with its kind, text and place, or the refusal that stands in the place of one
pub data Scanned : Type 0 where
  token : (kind : TokenKind) → (text : List ℕ) → (at : ℕ) → Scanned
  refused : (refusal : Refusal) → Scanned

-- what stands at the front of the bytes, before the tokens behind it; nothing is told behind a fault
abbrev pub scanned : Front → List ℕ → ℕ → List Scanned → List Scanned
scanned (Gap n) bytes at rest = rest
scanned (Piece kind n) bytes at rest = token kind (take n bytes) at ∷ rest
scanned (Fault code) bytes at rest = refused (record { code = code; at = at }) ∷ []

-- the tokens of the bytes, whose first lies at a place, behind so many of them that are passed over
abbrev pub tokens_behind : ℕ → ℕ → List ℕ → List Scanned
tokens_behind skipped at [] = []
tokens_behind (suc n) at (b ∷ bs) = tokens_behind n (suc at) bs
tokens_behind zero at (b ∷ bs) = scanned (front_of b bs) (b ∷ bs) at (tokens_behind (size_of (front_of b bs) - 1) (suc at) bs)

-- the tokens of a text from a place on, up to the first fault
abbrev pub tokens_from : ℕ → List ℕ → List Scanned
tokens_from at bytes = tokens_behind 0 at (drop at bytes)

-- all the tokens of a text, up to the first fault
abbrev pub tokens_of : List ℕ → List Scanned
tokens_of bytes = tokens_from 0 bytes

-- the bytes that a scanner reads
abbrev pub source_of : Tokens → List ℕ
source_of t = t.bytes.now

-- how many of them were read
abbrev pub place_of : Tokens → ℕ
place_of t = t.at

-- the tokens to come
abbrev pub tokens_left : Tokens → List Scanned
tokens_left t = tokens_from t.at t.bytes.now

-- a token as the definition tells it
abbrev pub scanned_as : Token → Scanned
scanned_as t = token t.kind t.text.now t.at

-- the place behind a token
abbrev pub end_of : Token → ℕ
end_of t = t.at + length t.text.now

-- the answer is the first of the tokens from a place on
abbrev pub IsFirst : Result (Option Token) Refusal → List ℕ → ℕ → Type 0
IsFirst (Ok (Some t)) bytes start = tokens_from start bytes ≡ scanned_as t ∷ tokens_from (end_of t) bytes
IsFirst (Ok None) bytes start = tokens_from start bytes ≡ []
IsFirst (Err r) bytes start = tokens_from start bytes ≡ refused r ∷ []

-- the answer is the first of the tokens to come, and the others are left; a fault and the end stay
abbrev pub IsNext : Result (Option Token) Refusal → List Scanned → List Scanned → Type 0
IsNext (Ok (Some t)) old new = old ≡ scanned_as t ∷ new
IsNext (Ok None) old new = (old ≡ []) × (new ≡ [])
IsNext (Err r) old new = (old ≡ refused r ∷ []) × (new ≡ old)

-- the text is the part of the source from the token's place on, behind what was read before and up to what is read now
pub record IsSpan (source : List ℕ) (before now : ℕ) (t : Token) : Type 0 where
  pub rises : before ≤ t.at
  pub some : t.at < now
  pub within : now ≤ length source
  pub text : t.text.now ≡ slice_range source t.at now

-- The same tokens by their forms, without the order in which a front is looked at: for the law that the longest is taken.

-- what begins as the test says, and goes on with letters, digits and `_`
abbrev pub is_name_from : (ℕ → Bool) → List ℕ → Bool
is_name_from begins [] = false
is_name_from begins (b ∷ bs) = begins b && list_all is_word_byte bs

-- a word of any size
abbrev pub is_word : List ℕ → Bool
is_word x = is_name_from is_small x

-- a variable of any size
abbrev pub is_variable : List ℕ → Bool
is_variable x = is_name_from is_capital x

-- the units with their signs
abbrev pub units : List (List ℕ)
units = codes "tt+" ∷ codes "tt-" ∷ codes "ff+" ∷ codes "ff-" ∷ []

-- a digit 1 to 9, and digits
abbrev pub is_long_number : List ℕ → Bool
is_long_number [] = false
is_long_number (b ∷ bs) = not (nat_eq b 48) && is_digit b && list_all is_digit bs

-- a number of any size
abbrev pub is_number : List ℕ → Bool
is_number x = bytes_eq x (codes "0") || is_long_number x

-- a token of any kind and size
abbrev pub is_token : List ℕ → Bool
is_token x = is_word x || is_one_of units x || is_variable x || is_number x || is_one_of symbols x

-- a token of that kind, of any size
abbrev pub has_form : TokenKind → List ℕ → Bool
has_form Name x = is_word x && not (is_one_of keywords x)
has_form Variable x = is_variable x
has_form Number x = is_number x
has_form Word x = is_one_of keywords x || is_one_of units x
has_form Symbol x = is_one_of symbols x

-- a word, a variable or a number of more bytes than it may have
abbrev pub is_too_long : List ℕ → Bool
is_too_long x = ((is_word x || is_variable x) && nat_lt 255 (length x)) || (is_number x && nat_lt 9 (length x))

-- a token of its kind, within the limits
abbrev pub HasForm : TokenKind → List ℕ → Type 0
HasForm kind x = (has_form kind x ≡ true) × (is_too_long x ≡ false)

-- no more than the first n bytes are a token
abbrev pub NoLonger : ℕ → List ℕ → Type 0
NoLonger n bytes = (m : ℕ) → n < m → m ≤ length bytes → is_token (take m bytes) ≡ false

-- a token is the longest at the front, a bad byte begins none, and what is too long is the longest at the front too
abbrev pub IsLongest : Front → List ℕ → Type 0
IsLongest (Gap n) bytes = NoLonger 0 bytes
IsLongest (Piece kind n) bytes = (has_form kind (take n bytes) ≡ true) × (is_too_long (take n bytes) ≡ false) × NoLonger n bytes
IsLongest (Fault BadByte) bytes = NoLonger 0 bytes
IsLongest (Fault LongName) bytes = (n : ℕ) × (n ≤ length bytes) × (is_too_long (take n bytes) ≡ true) × NoLonger n bytes
IsLongest (Fault _) bytes = ⊥

abbrev pub LongestIsTaken : Type 0
LongestIsTaken = (b : ℕ) (rest : List ℕ) → IsLongest (front_of b rest) (b ∷ rest)
