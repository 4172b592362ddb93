-- The names that a scanner gives are names.
use Rattle.std.specs.Prelude.{◌≡◌, ℕ, Bool, true, false, not, ◌&&◌, ◌||◌, List, [], ◌∷◌, length, Option, Some, None, nat_lt, refl}
use Rattle.std.proofs.Common.{arith, sym}
use Rattle.std.proofs.lemmas.Bool.{and_parts}
use Rattle.std.proofs.lemmas.Bool.Decides.{nat_tests}
use Rattle.fpc_base.specs.declared.tokens.TokenKind.{TokenKind}
use Rattle.fpc_base.specs.declared.tokens.TokenKind.TheVariants as kind
use Rattle.fpc_base.specs.declared.tokens.lexeme.Sign.{Sign}
use Rattle.fpc_base.specs.declared.tokens.lexeme.Lexeme as code
use Rattle.fpc_base.specs.Tokens.{is_word, is_variable, is_number, is_one_of, keywords, HasForm}
use Rattle.fpc_base.specs.Lexeme.{a_name, said, lexeme_of, lexeme_as, sign_of_symbol, sign_of_word}
use Rattle.fpc_terms.specs.Name.{IsName}
use Rattle.fpc_terms.specs.Holding.{IsNamed}

or-false-left : (a b : Bool) → (a || b) ≡ false → a ≡ false
or-false-left true b e = e
or-false-left false b e = refl

true-and : (a b c : Bool) → a ≡ true → ((a || b) && c) ≡ false → c ≡ false
true-and true b c e f = f
true-and false b c e f = let n : ⊥ = cc in absurd n

not-true : (b : Bool) → not b ≡ true → b ≡ false
not-true true e = let n : ⊥ = cc in absurd n
not-true false e = refl

name-from-form : (x : List ℕ) → HasForm kind.Name x → IsName x
name-from-form [] h = let n : ⊥ = cc in absurd n
name-from-form (b ∷ bs) h =
    let w : (is_word (b ∷ bs) ≡ true) × (not (is_one_of keywords (b ∷ bs)) ≡ true) = and_parts (is_word (b ∷ bs)) (not (is_one_of keywords (b ∷ bs))) h.0 in
    let l : nat_lt 255 (length (b ∷ bs)) ≡ false =
    true-and (is_word (b ∷ bs)) (is_variable (b ∷ bs)) (nat_lt 255 (length (b ∷ bs))) w.0 (or-false-left ((is_word (b ∷ bs) || is_variable (b ∷ bs)) && nat_lt 255 (length (b ∷ bs))) (is_number (b ∷ bs) && nat_lt 9 (length (b ∷ bs))) h.1) in
    (w.0, not-true (is_one_of keywords (b ∷ bs)) w.1, (grind (arith, nat_tests)))

said-no_name : (o : Option Sign) (x : List ℕ) → a_name x ≡ said o → ⊥
said-no_name (Some s) x e = cc
said-no_name None x e = cc

-- what a token says as a name is one
pub named-from-form : (k : TokenKind) (text : List ℕ) (l : code.Lexeme) → lexeme_as l ≡ lexeme_of k text → HasForm k text → IsNamed l
named-from-form kind.Name text (code.TheVariants.Name x) e h = let d : text ≡ x.now = cc in rw (sym d) (name-from-form text h)
named-from-form kind.Variable text (code.TheVariants.Name x) e h = let n : ⊥ = cc in absurd n
named-from-form kind.Number text (code.TheVariants.Name x) e h = let n : ⊥ = cc in absurd n
named-from-form kind.Word text (code.TheVariants.Name x) e h = absurd (said-no_name (sign_of_word text) x.now e)
named-from-form kind.Symbol text (code.TheVariants.Name x) e h = absurd (said-no_name (sign_of_symbol text) x.now e)
named-from-form k text (code.TheVariants.Variable x) e h = tt
named-from-form k text (code.TheVariants.Number x) e h = tt
named-from-form k text (code.TheVariants.Sign x) e h = tt
named-from-form k text code.TheVariants.Unused e h = tt
