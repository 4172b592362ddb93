-- The parameters of a declaration: their tokens, and that they are different.
use Rattle.std.proofs.Common.{◌≡◌, ◌≤◌, ◌<◌, ◌+◌, ℕ, false, List, [], ◌∷◌, ◌++◌, ◌⊎◌, inl, inr, refl, ap, sym, subst, ◌∙◌, append_assoc, length, arith, zero, suc, Some}
use Rattle.std.specs.List.{slice_get}
use Rattle.std.proofs.lemmas.List.{length-append}
use Rattle.std.proofs.lemmas.Option.{slice_get_within}
use Rattle.fpc_base.specs.declared.tokens.lexeme.Sign.TheVariants as sign
use Rattle.fpc_base.specs.Lexeme.{Lexeme, a_name, a_variable, a_sign}
use Rattle.fpc_base.specs.Tokens.{is_one_of}
use Rattle.fpc_terms.specs.Name.{HasName, AreDifferent}
use Rattle.fpc_terms.proofs.Places.{got_push, got_before, got_last, absent-from_is_one_of, is_one_of-absent}
use Rattle.clause_language.specs.Written.{more_parameter_tokens, parameter_tokens, declared_tokens}
use Rattle.clause_language.specs.Limits.{done_parameter_tokens}

-- one more parameter, with its comma
pub done-push : (ps : List (List ℕ)) (y : List ℕ) (rest : List Lexeme)
    → done_parameter_tokens (ps ++ y ∷ []) rest ≡ done_parameter_tokens ps (a_variable y ∷ a_sign sign.Comma ∷ rest)
done-push [] y rest = refl
done-push (x ∷ xs) y rest = ap (λ l. a_variable x ∷ a_sign sign.Comma ∷ l) (done-push xs y rest)

pub done-append : (ps : List (List ℕ)) (xs rest : List Lexeme) → done_parameter_tokens ps (xs ++ rest) ≡ done_parameter_tokens ps xs ++ rest
done-append [] xs rest = refl
done-append (p ∷ ps) xs rest = ap (λ l. a_variable p ∷ a_sign sign.Comma ∷ l) (done-append ps xs rest)

-- the last parameter, with the parenthesis behind it
last-more : (ps : List (List ℕ)) (x y : List ℕ) (rest : List Lexeme)
    → done_parameter_tokens (x ∷ ps) (a_variable y ∷ a_sign sign.CloseParenthesis ∷ rest) ≡ a_variable x ∷ more_parameter_tokens (ps ++ y ∷ []) rest
last-more [] x y rest = refl
last-more (p ∷ ps) x y rest = ap (λ l. a_variable x ∷ a_sign sign.Comma ∷ l) (last-more ps p y rest)

pub done-close : (ps : List (List ℕ)) (y : List ℕ) (rest : List Lexeme)
    → a_sign sign.OpenParenthesis ∷ done_parameter_tokens ps (a_variable y ∷ a_sign sign.CloseParenthesis ∷ rest) ≡ parameter_tokens (ps ++ y ∷ []) rest
done-close [] y rest = refl
done-close (p ∷ ps) y rest = ap (λ l. a_sign sign.OpenParenthesis ∷ l) (last-more ps p y rest)

-- the tokens of a declaration before others are these tokens and the others behind them
more-append : (ps : List (List ℕ)) (xs rest : List Lexeme) → more_parameter_tokens ps (xs ++ rest) ≡ more_parameter_tokens ps xs ++ rest
more-append [] xs rest = refl
more-append (p ∷ ps) xs rest = ap (λ l. a_sign sign.Comma ∷ a_variable p ∷ l) (more-append ps xs rest)

pub parameter-append : (ps : List (List ℕ)) (xs rest : List Lexeme) → parameter_tokens ps (xs ++ rest) ≡ parameter_tokens ps xs ++ rest
parameter-append [] xs rest = refl
parameter-append (p ∷ ps) xs rest = ap (λ l. a_sign sign.OpenParenthesis ∷ a_variable p ∷ l) (more-append ps xs rest)

pub declared-append : (x : List ℕ) (ps : List (List ℕ)) (xs rest : List Lexeme) → declared_tokens x ps (xs ++ rest) ≡ declared_tokens x ps xs ++ rest
declared-append x ps xs rest = ap (λ l. a_sign sign.Formula ∷ a_name x ∷ l) (parameter-append ps (a_sign sign.Defined ∷ xs) rest)

-- what stands behind the parameters
more-same : (ps : List (List ℕ)) (xs ys : List Lexeme) → more_parameter_tokens ps xs ≡ more_parameter_tokens ps ys → xs ≡ ys
more-same [] xs ys e = cc
more-same (p ∷ ps) xs ys e = more-same ps xs ys cc

pub declared-same : (x y : List ℕ) (ps : List (List ℕ)) (xs ys : List Lexeme) → declared_tokens x ps xs ≡ declared_tokens y ps ys → xs ≡ ys
declared-same x y [] xs ys e = cc
declared-same x y (p ∷ ps) xs ys e =
    let m : more_parameter_tokens ps (a_sign sign.Defined ∷ xs) ≡ more_parameter_tokens ps (a_sign sign.Defined ∷ ys) = cc in
    let d : a_sign sign.Defined ∷ xs ≡ a_sign sign.Defined ∷ ys = more-same ps (a_sign sign.Defined ∷ xs) (a_sign sign.Defined ∷ ys) m in cc

-- no parameters are different
pub AreDifferent-none : AreDifferent []
AreDifferent-none i j text a b = cc

-- a parameter that is none of those before it
pub AreDifferent-push : (ps : List (List ℕ)) (y : List ℕ) → AreDifferent ps → is_one_of ps y ≡ false → AreDifferent (ps ++ y ∷ [])
AreDifferent-push ps y different absent i j text a b = by (got_push ps y text i a) (got_push ps y text j b)
  where
    by : (slice_get ps i ≡ Some text) ⊎ ((i ≡ length ps) × (text ≡ y)) → (slice_get ps j ≡ Some text) ⊎ ((j ≡ length ps) × (text ≡ y)) → i ≡ j
    by (inl k) (inl l) = different i j text k l
    by (inl k) (inr l) = absurd (absent-from_is_one_of ps y absent (i, subst (λ (t : List ℕ). slice_get ps i ≡ Some t) l.1 k))
    by (inr k) (inl l) = absurd (absent-from_is_one_of ps y absent (j, subst (λ (t : List ℕ). slice_get ps j ≡ Some t) k.1 l))
    by (inr k) (inr l) = k.0 ∙ sym l.0

-- among different parameters each is none of those before it
pub absent-before : (ps more : List (List ℕ)) (y : List ℕ) → AreDifferent (ps ++ y ∷ more) → is_one_of ps y ≡ false
absent-before ps more y different = is_one_of-absent ps y (λ h. clash h)
  where
    clash : HasName ps y → ⊥
    clash h =
        let seam : slice_get (ps ++ y ∷ more) (length ps) ≡ Some y =
        subst (λ l. slice_get l (length ps) ≡ Some y) (append_assoc ps (y ∷ []) more) (got_before (ps ++ y ∷ []) more (length ps) y (got_last ps y)) in
        let same : h.0 ≡ length ps = different h.0 (length ps) y (got_before ps (y ∷ more) h.0 y h.1) seam in
        let below : h.0 < length ps = slice_get_within ps h.0 y h.1 in omega arith

-- all texts, one behind another
abbrev all_of : List (List ℕ) → List ℕ
all_of [] = []
all_of (x ∷ xs) = x ++ all_of xs

length-all_of : (xs : List (List ℕ)) (k : ℕ) (x : List ℕ) → slice_get xs k ≡ Some x → length x ≤ length (all_of xs)
length-all_of [] k x h = cc
length-all_of (y ∷ ys) zero x h =
    let same : y ≡ x = cc in
    let n : length (all_of (y ∷ ys)) ≡ length y + length (all_of ys) = length-append y (all_of ys) in
    let m : length y ≡ length x = ap length same in omega arith
length-all_of (y ∷ ys) (suc k) x h =
    let r : length x ≤ length (all_of ys) = length-all_of ys k x h in
    let n : length (all_of (y ∷ ys)) ≡ length y + length (all_of ys) = length-append y (all_of ys) in omega arith

-- a text that is none of these
abbrev pub fresh : List (List ℕ) → List ℕ
fresh xs = 88 ∷ all_of xs

pub fresh-absent : (xs : List (List ℕ)) → is_one_of xs (fresh xs) ≡ false
fresh-absent xs = is_one_of-absent xs (fresh xs) (λ h. clash h)
  where
    clash : HasName xs (fresh xs) → ⊥
    clash h = let n : suc (length (all_of xs)) ≤ length (all_of xs) = length-all_of xs h.0 (fresh xs) h.1 in omega arith
