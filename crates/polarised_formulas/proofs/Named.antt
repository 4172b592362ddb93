-- The names that the tokens of a text say are name tokens.
use Rattle.std.proofs.Common.{◌≡◌, ℕ, zero, suc, ◌-◌, Bool, true, false, List, [], ◌∷◌, map, Option, Some, None}
use Rattle.fpc_base.specs.declared.tokens.TokenKind.{TokenKind}
use Rattle.fpc_base.specs.declared.tokens.TokenKind.TheVariants.{Name, Variable, Number, Word, Symbol}
use Rattle.fpc_base.specs.declared.tokens.front.Front.{Front}
use Rattle.fpc_base.specs.declared.tokens.front.Front.TheVariants.{Gap, Piece, Fault}
use Rattle.fpc_base.specs.declared.tokens.lexeme.Sign.{Sign}
use Rattle.fpc_base.specs.declared.tokens.lexeme.Sign.TheVariants as sign
use Rattle.fpc_base.specs.Tokens.{Scanned, token, refused, scanned, size_of, front_of, tokens_behind, tokens_of, HasForm, IsLongest}
use Rattle.fpc_base.specs.Lexeme.{Lexeme, a_name, a_sign, said, lexeme_of, sign_of_word, sign_of_symbol, item_of, items_of}
use Rattle.fpc_base.proofs.LongestToken.{IsLongest-front_of}
use Rattle.fpc_terms.specs.Written.{WrittenTerm, WrittenArgs, variable_word, application, no_words, words, term_tokens, args_tokens, more_tokens}
use Rattle.polarised_formulas.specs.declared.logic.Logic.{Logic}
use Rattle.polarised_formulas.specs.declared.logic.Logic.TheVariants.{Lkf, Ljf}
use Rattle.polarised_formulas.specs.Written.{WrittenFormula, true_unit, false_unit, literal, pair, bind, formula_tokens, mark_tokens, joiner_sign, logic_word}
use Rattle.polarised_formulas.specs.EachName.{EachName, EachNameOf, EachNameIn}
use Rattle.polarised_formulas.specs.Spoken.{Says}

-- each token has its form
abbrev pub AreFormed : List Scanned → Type 0
AreFormed [] = Unit {0}
AreFormed (token kind text at ∷ ts) = HasForm kind text × AreFormed ts
AreFormed (refused r ∷ ts) = AreFormed ts

formed-front : (f : Front) (bytes : List ℕ) (at : ℕ) (rest : List Scanned) → IsLongest f bytes → AreFormed rest → AreFormed (scanned f bytes at rest)
formed-front (Gap n) bytes at rest l h = h
formed-front (Piece kind n) bytes at rest l h = ((l.0, l.1), h)
formed-front (Fault code) bytes at rest l h = tt

pub AreFormed-behind : (bytes : List ℕ) (skipped at : ℕ) → AreFormed (tokens_behind skipped at bytes)
AreFormed-behind [] skipped at = tt
AreFormed-behind (b ∷ bs) (suc n) at = AreFormed-behind bs n (suc at)
AreFormed-behind (b ∷ bs) zero at =
    formed-front (front_of b bs) (b ∷ bs) at (tokens_behind (size_of (front_of b bs) - 1) (suc at) bs) (IsLongest-front_of b bs)
    (AreFormed-behind bs (size_of (front_of b bs) - 1) (suc at))

-- the names among the tokens are name tokens
abbrev pub AreNames : List Lexeme → Type 0
AreNames [] = Unit {0}
AreNames (a_name x ∷ cs) = HasForm Name x × AreNames cs
AreNames (_ ∷ cs) = AreNames cs

no-name : (x : List ℕ) (o : Option Sign) → a_name x ≡ said o → ⊥
no-name x (Some s) e = cc
no-name x None e = cc

named-token : (x : List ℕ) (kind : TokenKind) (text : List ℕ) → a_name x ≡ lexeme_of kind text → HasForm kind text → HasForm Name x
named-token x Name text e h = let same : x ≡ text = cc in rw same h
named-token x Variable text e h = cc
named-token x Number text e h = cc
named-token x Word text e h = absurd (no-name x (sign_of_word text) e)
named-token x Symbol text e h = absurd (no-name x (sign_of_symbol text) e)

one-named : (c : Lexeme) (cs : List Lexeme) (kind : TokenKind) (text : List ℕ) → c ≡ lexeme_of kind text → HasForm kind text → AreNames cs → AreNames (c ∷ cs)
one-named (a_name x) cs kind text e f h = (named-token x kind text e f, h)
one-named _ cs kind text e f h = h

pub AreNames-said : (cs : List Lexeme) (ts : List Scanned) → AreFormed ts → Says cs (map item_of ts) → AreNames cs
AreNames-said [] ts f h = tt
AreNames-said (c ∷ cs) (token kind text at ∷ ts) f h = one-named c cs kind text h.0 f.0 (AreNames-said cs ts f.1 h.1)
AreNames-said (c ∷ cs) (refused r ∷ ts) f h = absurd h
AreNames-said (c ∷ cs) [] f h = absurd h

-- the names of a formula are among its tokens
mutual
  pub named-term : (t : WrittenTerm) (rest : List Lexeme) → AreNames (term_tokens t rest) → EachName (HasForm Name) t × AreNames rest
  named-term (variable_word x) rest h = (tt, h)
  named-term (application x ts) rest h = let s = named-args ts rest h.1 in ((h.0, s.0), s.1)

  pub named-args : (ts : WrittenArgs) (rest : List Lexeme) → AreNames (args_tokens ts rest) → EachNameOf (HasForm Name) ts × AreNames rest
  named-args no_words rest h = (tt, h)
  named-args (words t ts) rest h =
      let first = named-term t (more_tokens ts rest) h in let later = named-more ts rest first.1 in ((first.0, later.0), later.1)

  named-more : (ts : WrittenArgs) (rest : List Lexeme) → AreNames (more_tokens ts rest) → EachNameOf (HasForm Name) ts × AreNames rest
  named-more no_words rest h = (tt, h)
  named-more (words t ts) rest h =
      let first = named-term t (more_tokens ts rest) h in let later = named-more ts rest first.1 in ((first.0, later.0), later.1)

named-mark : (logic : Logic) (positive : Bool) (rest : List Lexeme) → AreNames (mark_tokens logic positive rest) → AreNames rest
named-mark Lkf true rest h = h
named-mark Lkf false rest h = h
named-mark Ljf true rest h = h
named-mark Ljf false rest h = h

pub named-formula : (logic : Logic) (w : WrittenFormula) (rest : List Lexeme) → AreNames (formula_tokens logic w rest) → EachNameIn (HasForm Name) w × AreNames rest
named-formula logic (true_unit p) rest h = (tt, h)
named-formula logic (false_unit p) rest h = (tt, h)
named-formula logic (literal positive x args) rest h =
    let m = named-mark logic positive (a_name x ∷ args_tokens args rest) h in
    let s = named-args args rest m.1 in ((m.0, s.0), s.1)
named-formula logic (pair j a b) rest h =
    let first = named-formula logic a (a_sign (joiner_sign logic j) ∷ formula_tokens logic b (a_sign sign.CloseParenthesis ∷ rest)) h in
    let second = named-formula logic b (a_sign sign.CloseParenthesis ∷ rest) first.1 in
    ((first.0, second.0), second.1)
named-formula logic (bind q x a) rest h = named-formula logic a rest h

named-problem : (logic : Logic) (w : WrittenFormula) → AreNames (logic_word logic ∷ formula_tokens logic w (a_sign sign.Dot ∷ [])) → EachNameIn (HasForm Name) w
named-problem Lkf w h = (named-formula Lkf w (a_sign sign.Dot ∷ []) h.1).0
named-problem Ljf w h = (named-formula Ljf w (a_sign sign.Dot ∷ []) h.1).0

-- the names of a problem that is said by a text are name tokens
pub EachName-said : (bytes : List ℕ) (logic : Logic) (w : WrittenFormula) → Says (logic_word logic ∷ formula_tokens logic w (a_sign sign.Dot ∷ [])) (items_of bytes)
    → EachNameIn (HasForm Name) w
EachName-said bytes logic w h =
    named-problem logic w
    (AreNames-said (logic_word logic ∷ formula_tokens logic w (a_sign sign.Dot ∷ [])) (tokens_of bytes) (AreFormed-behind bytes 0 0) h)
