-- What tokens say, apart from the bytes between them.
use Rattle.std.specs.Prelude.{ℕ, if◌then◌else◌, List, map, codes, Option, Some, None}
use Rattle.std.specs.Str.{bytes_eq}
use Rattle.fpc_base.specs.declared.refusal.Refusal.{Refusal}
use Rattle.fpc_base.specs.declared.tokens.TokenKind.{TokenKind}
use Rattle.fpc_base.specs.declared.tokens.TokenKind.TheVariants.{Name, Variable, Number, Word, Symbol}
use Rattle.fpc_base.specs.declared.tokens.Tokens.{Tokens}
use Rattle.fpc_base.specs.declared.tokens.lexeme.Sign.{Sign}
use Rattle.fpc_base.specs.declared.tokens.lexeme.Sign.TheVariants as sign
use Rattle.fpc_base.specs.declared.tokens.lexeme.Lexeme as lexeme
use Rattle.fpc_base.specs.Tokens.{Scanned, token, refused, tokens_of, tokens_left}

-- a name, a variable or a number with its text, a sign, or the keyword `tt` alone
pub data Lexeme : Type 0 where
  a_name : (text : List ℕ) → Lexeme
  a_variable : (text : List ℕ) → Lexeme
  a_number : (text : List ℕ) → Lexeme
  a_sign : (sign : Sign) → Lexeme
  unused : Lexeme

-- the sign of a symbol
abbrev pub sign_of_symbol : List ℕ → Option Sign
sign_of_symbol x =
    if bytes_eq x (codes "(") then Some sign.OpenParenthesis
    else (if bytes_eq x (codes ")") then Some sign.CloseParenthesis
    else (if bytes_eq x (codes ",") then Some sign.Comma
    else (if bytes_eq x (codes ".") then Some sign.Dot
    else (if bytes_eq x (codes ":") then Some sign.Colon
    else (if bytes_eq x (codes ":-") then Some sign.If
    else (if bytes_eq x (codes ":=") then Some sign.Defined
    else (if bytes_eq x (codes "|") then Some sign.Bar
    else (if bytes_eq x (codes "|+") then Some sign.BarPlus
    else (if bytes_eq x (codes "|-") then Some sign.BarMinus
    else (if bytes_eq x (codes "&+") then Some sign.AndPlus
    else (if bytes_eq x (codes "&-") then Some sign.AndMinus
    else (if bytes_eq x (codes "=>") then Some sign.Arrow
    else (if bytes_eq x (codes "~") then Some sign.Tilde
    else (if bytes_eq x (codes "+") then Some sign.Plus
    else (if bytes_eq x (codes "-") then Some sign.Minus
    else None)))))))))))))))

-- the sign of a keyword or a unit
abbrev pub sign_of_word : List ℕ → Option Sign
sign_of_word x =
    if bytes_eq x (codes "all") then Some sign.All
    else (if bytes_eq x (codes "some") then Some sign.Some
    else (if bytes_eq x (codes "tt+") then Some sign.TruePlus
    else (if bytes_eq x (codes "tt-") then Some sign.TrueMinus
    else (if bytes_eq x (codes "ff+") then Some sign.FalsePlus
    else (if bytes_eq x (codes "ff-") then Some sign.FalseMinus
    else (if bytes_eq x (codes "ff") then Some sign.False
    else (if bytes_eq x (codes "formula") then Some sign.Formula
    else (if bytes_eq x (codes "certificate") then Some sign.Certificate
    else None))))))))

-- a sign as what a token says
abbrev pub said : Option Sign → Lexeme
said (Some s) = a_sign s
said None = unused

-- what a token of a kind says
abbrev pub lexeme_of : TokenKind → List ℕ → Lexeme
lexeme_of Name x = a_name x
lexeme_of Variable x = a_variable x
lexeme_of Number x = a_number x
lexeme_of Symbol x = said (sign_of_symbol x)
lexeme_of Word x = said (sign_of_word x)

-- the code's lexeme as the definition's
abbrev pub lexeme_as : lexeme.Lexeme → Lexeme
lexeme_as (lexeme.TheVariants.Name x) = a_name x.now
lexeme_as (lexeme.TheVariants.Variable x) = a_variable x.now
lexeme_as (lexeme.TheVariants.Number x) = a_number x.now
lexeme_as (lexeme.TheVariants.Sign s) = a_sign s
lexeme_as lexeme.TheVariants.Unused = unused

-- what a token says with its place, or the refusal that stands in the place of one
pub data Item : Type 0 where
  says : (lexeme : Lexeme) → (at : ℕ) → Item
  fault : (refusal : Refusal) → Item

-- what a token or a fault says
abbrev pub item_of : Scanned → Item
item_of (token kind text at) = says (lexeme_of kind text) at
item_of (refused r) = fault r

-- what the tokens of a text say
abbrev pub items_of : List ℕ → List Item
items_of bytes = map item_of (tokens_of bytes)

-- what the tokens to come say
abbrev pub items_left : Tokens → List Item
items_left t = map item_of (tokens_left t)
