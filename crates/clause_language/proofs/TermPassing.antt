-- The limits let a machine that embeds the machine of terms pass the tokens of a term exactly where each name has at most 255 arguments
-- and there are no more different variables than may be.
use Rattle.std.proofs.Common.{◌≡◌, ℕ, suc, ◌+◌, ◌<◌, ◌≤◌, Bool, true, false, not, ◌&&◌, if◌then◌else◌, nat_eq, nat_le, List, [], ◌∷◌, ◌++◌, length, refl, arith, Option, Some, None, length-append}
use Rattle.std.proofs.lemmas.Bool.Decides.{nat_tests}
use Rattle.fpc_base.specs.declared.tokens.lexeme.Sign.{Sign}
use Rattle.fpc_base.specs.declared.tokens.lexeme.Sign.TheVariants as sign
use Rattle.fpc_base.specs.Lexeme.{Lexeme, a_name, a_variable, a_sign}
use Rattle.fpc_base.specs.Tokens.{is_one_of}
use Rattle.fpc_terms.specs.Name.{with_text}
use Rattle.fpc_terms.specs.Written.{WrittenTerm, WrittenArgs, variable_word, application, no_words, words, term_tokens, args_tokens, more_tokens, variables_in}
use Rattle.fpc_terms.specs.Spot.{Spot, in_term}
use Rattle.fpc_terms.specs.ReadTerm.{any_variable}
use Rattle.fpc_terms.specs.Machine.{TermState, wants, named, has, step, args_with, is_full, is_too_many, IsLive}
use Rattle.fpc_terms.proofs.TermLaws.{IsBehind, more-behind}
use Rattle.polarised_formulas.proofs.Small.{words_count, IsSmall, AreSmall}
use Rattle.polarised_formulas.proofs.Fits.{less-than}
use Rattle.clause_language.proofs.VariableOrder.{texts_to, texts_to_all}

pub not-equal : (a b : ℕ) → (a ≡ b → ⊥) → nat_eq a b ≡ false
not-equal a b h = grind (arith, nat_tests)

-- no more than may be
abbrev pub IsAtMost : Option ℕ → ℕ → Type 0
IsAtMost (Some most) n = n ≤ most
IsAtMost None n = Unit {0}

pub IsAtMost-less : (most : Option ℕ) (m n : ℕ) → m ≤ n → IsAtMost most n → IsAtMost most m
IsAtMost-less (Some most) m n le h = omega (arith, le, h)
IsAtMost-less None m n le h = tt

-- the variables never get fewer
with_text-longer : (vs : List (List ℕ)) (x : List ℕ) → length vs ≤ length (with_text vs x)
with_text-longer vs x = by_test (is_one_of vs x) where
  by_test : (b : Bool) → length vs ≤ length (if b then vs else vs ++ x ∷ [])
  by_test true = omega arith
  by_test false = omega (arith, length-append vs (x ∷ []))

mutual
  pub texts_to-longer : (t : WrittenTerm) (vs : List (List ℕ)) → length vs ≤ length (texts_to t vs)
  texts_to-longer (variable_word x) vs = with_text-longer vs x
  texts_to-longer (application x args) vs = texts_to_all-longer args vs

  pub texts_to_all-longer : (ts : WrittenArgs) (vs : List (List ℕ)) → length vs ≤ length (texts_to_all ts vs)
  texts_to_all-longer no_words vs = omega arith
  texts_to_all-longer (words t ts) vs = omega (arith, texts_to-longer t vs, texts_to_all-longer ts (texts_to t vs))

-- names and signs are no variables
few-name : (most : Option ℕ) (vs : List (List ℕ)) (x : List ℕ) → is_too_many most vs (a_name x) ≡ false
few-name (Some most) vs x = refl
few-name None vs x = refl

few-sign : (most : Option ℕ) (vs : List (List ℕ)) (s : Sign) → is_too_many most vs (a_sign s) ≡ false
few-sign (Some most) vs s = refl
few-sign None vs s = refl

few-variable : (most : Option ℕ) (vs : List (List ℕ)) (x : List ℕ) → IsAtMost most (length (with_text vs x)) → is_too_many most vs (a_variable x) ≡ false
few-variable None vs x h = refl
few-variable (Some most) vs x h = by_test (is_one_of vs x) h where
  by_test : (b : Bool) → length (if b then vs else vs ++ x ∷ []) ≤ most → (not b && nat_le most (length vs)) ≡ false
  by_test true h = refl
  by_test false h = let e = length-append vs (x ∷ []) in let lt : length vs < most = omega (arith, h, e) in grind (arith, nat_tests, lt)

variable-few : (most : Option ℕ) (vs : List (List ℕ)) (x : List ℕ) → IsAtMost most (length vs) → is_too_many most vs (a_variable x) ≡ false → IsAtMost most (length (with_text vs x))
variable-few None vs x le h = tt
variable-few (Some most) vs x le h = by_test (is_one_of vs x) h where
  by_test : (b : Bool) → (not b && nat_le most (length vs)) ≡ false → length (if b then vs else vs ++ x ∷ []) ≤ most
  by_test true h = le
  by_test false h = let e = length-append vs (x ∷ []) in let lt : length vs < most = grind (arith, nat_tests, h) in omega (arith, lt, e)

-- A machine that embeds the machine of terms: what holds of its state with so many variables, a term's state and tokens to come.
pub record Embeds (most : Option ℕ) (P : List (List ℕ) → TermState → List Lexeme → Type 0) : Type 0 where
  pub go : (vs : List (List ℕ)) (t : TermState) (c : Lexeme) (cs : List Lexeme) → IsLive (step any_variable t c) → is_full (step any_variable t c) ≡ false
      → is_too_many most vs c ≡ false → P (variables_in (c ∷ []) vs) (step any_variable t c) cs → P vs t (c ∷ cs)
  pub gone : (vs : List (List ℕ)) (t : TermState) (c : Lexeme) (cs : List Lexeme) → IsLive (step any_variable t c) → P vs t (c ∷ cs)
      → (is_full (step any_variable t c) ≡ false) × (is_too_many most vs c ≡ false) × P (variables_in (c ∷ []) vs) (step any_variable t c) cs
  pub name_on : (vs : List (List ℕ)) (y : List ℕ) (s : Spot) (rest : List Lexeme) → IsBehind rest → P vs (has (application y no_words) s) rest → P vs (named y s) rest
  pub name_gone : (vs : List (List ℕ)) (y : List ℕ) (s : Spot) (rest : List Lexeme) → IsBehind rest → P vs (named y s) rest → P vs (has (application y no_words) s) rest

module _ (most : Option ℕ) (P : List (List ℕ) → TermState → List Lexeme → Type 0) (embeds : Embeds most P) where
  mutual
    pub pass-term : (u : WrittenTerm) (s : Spot) (vs : List (List ℕ)) (rest : List Lexeme) → IsBehind rest → IsSmall u → IsAtMost most (length (texts_to u vs))
        → P (texts_to u vs) (has u s) rest → P vs (wants s) (term_tokens u rest)
    pass-term (variable_word y) s vs rest b small le h = embeds.go vs (wants s) (a_variable y) rest tt refl (few-variable most vs y le) h
    pass-term (application y args) s vs rest b small le h =
        embeds.go vs (wants s) (a_name y) (args_tokens args rest) tt refl (few-name most vs y) (pass-named y args s vs rest b small.0 small.1 le h)

    -- the arguments of a name, where there are any
    pub pass-named : (y : List ℕ) (args : WrittenArgs) (s : Spot) (vs : List (List ℕ)) (rest : List Lexeme) → IsBehind rest → (words_count args ≤ 255) → AreSmall args
        → IsAtMost most (length (texts_to_all args vs)) → P (texts_to_all args vs) (has (application y args) s) rest → P vs (named y s) (args_tokens args rest)
    pass-named y no_words s vs rest b few small le h = embeds.name_on vs y s rest b h
    pass-named y (words t ts) s vs rest b few small le h =
        embeds.go vs (named y s) (a_sign sign.OpenParenthesis) (term_tokens t (more_tokens ts rest)) tt refl (few-sign most vs sign.OpenParenthesis)
        (pass-term t (in_term y [] s) vs (more_tokens ts rest) (more-behind ts rest) small.0
        (IsAtMost-less most (length (texts_to t vs)) (length (texts_to_all ts (texts_to t vs))) (texts_to_all-longer ts (texts_to t vs)) le)
        (pass-more y [] t ts s (texts_to t vs) rest small.1 (omega (arith, few)) le h))

    pass-more : (y : List ℕ) (ds : List WrittenTerm) (u : WrittenTerm) (ts : WrittenArgs) (s : Spot) (vs : List (List ℕ)) (rest : List Lexeme) → AreSmall ts
        → suc (length ds) + words_count ts ≤ 255 → IsAtMost most (length (texts_to_all ts vs))
        → P (texts_to_all ts vs) (has (application y (args_with ds (words u ts))) s) rest → P vs (has u (in_term y ds s)) (more_tokens ts rest)
    pass-more y ds u no_words s vs rest small few le h =
        embeds.go vs (has u (in_term y ds s)) (a_sign sign.CloseParenthesis) rest tt refl (few-sign most vs sign.CloseParenthesis) h
    pass-more y ds u (words t ts) s vs rest small few le h =
        embeds.go vs (has u (in_term y ds s)) (a_sign sign.Comma) (term_tokens t (more_tokens ts rest)) tt
        (not-equal (suc (length ds)) 255 (λ e. omega (arith, few, e))) (few-sign most vs sign.Comma)
        (pass-term t (in_term y (u ∷ ds) s) vs (more_tokens ts rest) (more-behind ts rest) small.0
        (IsAtMost-less most (length (texts_to t vs)) (length (texts_to_all ts (texts_to t vs))) (texts_to_all-longer ts (texts_to t vs)) le)
        (pass-more y (u ∷ ds) t ts s (texts_to t vs) rest small.1 (omega (arith, few)) le h))

  mutual
    pub passed-term : (u : WrittenTerm) (s : Spot) (vs : List (List ℕ)) (rest : List Lexeme) → IsBehind rest → IsAtMost most (length vs)
        → P vs (wants s) (term_tokens u rest) → IsSmall u × IsAtMost most (length (texts_to u vs)) × P (texts_to u vs) (has u s) rest
    passed-term (variable_word y) s vs rest b le h =
        let g = embeds.gone vs (wants s) (a_variable y) rest tt h in
        (tt, variable-few most vs y le g.1, g.2)
    passed-term (application y args) s vs rest b le h =
        let g = embeds.gone vs (wants s) (a_name y) (args_tokens args rest) tt h in
        let a = passed-named y args s vs rest b le g.2 in
        ((a.0, a.1), a.2, a.3)

    pub passed-named : (y : List ℕ) (args : WrittenArgs) (s : Spot) (vs : List (List ℕ)) (rest : List Lexeme) → IsBehind rest → IsAtMost most (length vs)
        → P vs (named y s) (args_tokens args rest)
        → (words_count args ≤ 255) × AreSmall args × IsAtMost most (length (texts_to_all args vs)) × P (texts_to_all args vs) (has (application y args) s) rest
    passed-named y no_words s vs rest b le h = (omega arith, tt, le, embeds.name_gone vs y s rest b h)
    passed-named y (words t ts) s vs rest b le h =
        let g = embeds.gone vs (named y s) (a_sign sign.OpenParenthesis) (term_tokens t (more_tokens ts rest)) tt h in
        let first = passed-term t (in_term y [] s) vs (more_tokens ts rest) (more-behind ts rest) le g.2 in
        let later = passed-more y [] t ts s (texts_to t vs) rest (omega arith) first.1 first.2 in
        (omega (arith, later.1), (first.0, later.0), later.2, later.3)

    pub passed-more : (y : List ℕ) (ds : List WrittenTerm) (u : WrittenTerm) (ts : WrittenArgs) (s : Spot) (vs : List (List ℕ)) (rest : List Lexeme)
        → length ds < 255 → IsAtMost most (length vs) → P vs (has u (in_term y ds s)) (more_tokens ts rest)
        → AreSmall ts × (suc (length ds) + words_count ts ≤ 255) × IsAtMost most (length (texts_to_all ts vs))
        × P (texts_to_all ts vs) (has (application y (args_with ds (words u ts))) s) rest
    passed-more y ds u no_words s vs rest lt le h =
        let g = embeds.gone vs (has u (in_term y ds s)) (a_sign sign.CloseParenthesis) rest tt h in
        (tt, omega (arith, lt), le, g.2)
    passed-more y ds u (words t ts) s vs rest lt le h =
        let g = embeds.gone vs (has u (in_term y ds s)) (a_sign sign.Comma) (term_tokens t (more_tokens ts rest)) tt h in
        let less : suc (length ds) < 255 = less-than (suc (length ds)) 255 g.0 (omega (arith, lt)) in
        let first = passed-term t (in_term y (u ∷ ds) s) vs (more_tokens ts rest) (more-behind ts rest) le g.2 in
        let later = passed-more y (u ∷ ds) t ts s (texts_to t vs) rest less first.1 first.2 in
        ((first.0, later.0), omega (arith, later.1), later.2, later.3)
