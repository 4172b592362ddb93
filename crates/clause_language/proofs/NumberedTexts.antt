-- The texts of parameters and variables say variables.
use Rattle.std.proofs.Common.{◌≡◌, ℕ, suc, ◌+◌, ◌^◌, ◌<◌, ◌≤◌, true, nat_le, List, ◌∷◌, ◌++◌, length, refl, arith}
use Rattle.std.specs.List.{prefix_len}
use Rattle.std.specs.Fmt.{decimal}
use Rattle.std.proofs.lemmas.Fmt.{length-decimal-le}
use Rattle.std.proofs.lemmas.Bool.Decides.{nat_tests}
use Rattle.fpc_base.specs.declared.tokens.TokenKind.TheVariants.{Variable}
use Rattle.fpc_base.specs.Lexeme.{Lexeme, a_variable}
use Rattle.fpc_base.specs.Tokens.{is_word_byte}
use Rattle.polarised_formulas.proofs.Pieces.{Scans, stops, scans-piece}
use Rattle.polarised_formulas.proofs.Pieces.{prefix-stops, digits-pass}
use Rattle.clause_language.specs.Text.{parameter_text}
use Rattle.clause_language.specs.Spelled.{variable_text}

-- how far the digits go
digits-length : (j : ℕ) (rest : List ℕ) → j < 2 ^ 64 → stops rest ≡ true → 1 + prefix_len is_word_byte (decimal j ++ rest) ≡ suc (length (decimal j))
digits-length j rest lt s =
    let p : prefix_len is_word_byte (decimal j ++ rest) ≡ length (decimal j) = prefix-stops (decimal j) rest (digits-pass j lt) s in omega (arith, p)

digits-short : (j : ℕ) → j < 2 ^ 64 → nat_le (suc (length (decimal j))) 255 ≡ true
digits-short j lt = let short : length (decimal j) ≤ 20 = length-decimal-le 20 j (omega arith) (omega (arith, lt)) lt in grind (arith, nat_tests)

pub scans-parameter : (j : ℕ) (rest : List ℕ) (cs : List Lexeme) → j < 2 ^ 64 → stops rest ≡ true → Scans cs rest
    → Scans (a_variable (parameter_text j) ∷ cs) (80 ∷ (decimal j ++ rest))
scans-parameter j rest cs lt s h = scans-piece Variable 80 (decimal j) rest cs (rw (digits-length j rest lt s) (rw (digits-short j lt) refl)) h

pub scans-numbered : (j : ℕ) (rest : List ℕ) (cs : List Lexeme) → j < 2 ^ 64 → stops rest ≡ true → Scans cs rest
    → Scans (a_variable (variable_text j) ∷ cs) (86 ∷ (decimal j ++ rest))
scans-numbered j rest cs lt s h = scans-piece Variable 86 (decimal j) rest cs (rw (digits-length j rest lt s) (rw (digits-short j lt) refl)) h
