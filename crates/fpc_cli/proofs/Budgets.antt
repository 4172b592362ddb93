-- A budget is said by its decimal digits, and by nothing else.
use Rattle.std.proofs.Common.{◌≡◌, ◌≢◌, ℕ, ◌+◌, ◌-◌, ◌*◌, ◌/◌, ◌%◌, ◌^◌, ◌<◌, ◌≤◌, nat_eq, nat_le, Bool, true, false, if◌then◌else◌, List, [], ◌∷◌, ◌++◌, length, get_or, Option, Some, None, refl, sym, ap, ◌∙◌, append-nil, append_assoc, arith}
use Rattle.std.specs.Prelude.{decimal, ◌&&◌}
use Rattle.std.proofs.lemmas.Bool.{and_parts, and_from}
use Rattle.std.proofs.lemmas.Bool.Decides.{nat_tests}
use Rattle.std.proofs.lemmas.Fmt.{decimal_by_steps, decimal_step, decimal_digit, decimal_nonempty, first_decimal}
use Rattle.fpc_base.specs.Tokens.{is_digit}
use Rattle.fpc_cli.specs.Command.{most_budget, with_digit, with_digits, budget_said, BudgetIsDecimal}

le-true : (a b : ℕ) → a ≤ b → nat_le a b ≡ true
le-true a b h = grind (arith, nat_tests)

true-le : (a b : ℕ) → nat_le a b ≡ true → a ≤ b
true-le a b h = grind (arith, nat_tests)

other-number : (a b : ℕ) → nat_eq a b ≡ false → a ≢ b
other-number a b h = grind (arith, nat_tests)

if-true : {A : Type 0} (b : Bool) (x y : A) → b ≡ true → (if b then x else y) ≡ x
if-true true x y e = refl
if-true false x y e = let never : ⊥ = cc in absurd never

if-false : {A : Type 0} (b : Bool) (x y : A) → b ≡ false → (if b then x else y) ≡ y
if-false false x y e = refl
if-false true x y e = let never : ⊥ = cc in absurd never

module _ (most : ℕ) where
  -- a digit behind a number
  digit-goes : (m d : ℕ) → d < 10 → 10 * m + d ≤ most
      → (if is_digit (48 + d) && nat_le (10 * m + (48 + d - 48)) most then Some (10 * m + (48 + d - 48)) else None) ≡ Some (10 * m + d)
  digit-goes m d low fits =
      let value : 10 * m + (48 + d - 48) ≡ 10 * m + d = omega arith in
      let first : 48 ≤ 48 + d = omega arith in
      let last : 48 + d ≤ 57 = omega (arith, low) in
      let within : 10 * m + (48 + d - 48) ≤ most = omega (arith, value, fits) in
      if-true (is_digit (48 + d) && nat_le (10 * m + (48 + d - 48)) most) (Some (10 * m + (48 + d - 48))) None
      (and_from (is_digit (48 + d)) (nat_le (10 * m + (48 + d - 48)) most) (and_from (nat_le 48 (48 + d)) (nat_le (48 + d) 57) (le-true 48 (48 + d) first) (le-true (48 + d) 57 last))
      (le-true (10 * m + (48 + d - 48)) most within))
      ∙ ap Some value

  digit-came : (m b n : ℕ) (t : Bool) → (is_digit b && nat_le (10 * m + (b - 48)) most) ≡ t → (if t then Some (10 * m + (b - 48)) else None) ≡ Some n
      → (48 ≤ b) × (b ≤ 57) × (n ≡ 10 * m + (b - 48)) × (n ≤ most)
  digit-came m b n true t e =
      let both = and_parts (is_digit b) (nat_le (10 * m + (b - 48)) most) t in
      let ends = and_parts (nat_le 48 b) (nat_le b 57) both.0 in
      let same : 10 * m + (b - 48) ≡ n = cc in
      let within = true-le (10 * m + (b - 48)) most both.1 in
      (true-le 48 b ends.0, true-le b 57 ends.1, sym same, omega (arith, same, within))
  digit-came m b n false t e = let never : ⊥ = cc in absurd never

digit-of : (m d : ℕ) → d < 10 → 10 * m + d ≤ most_budget → with_digit m (48 + d) ≡ Some (10 * m + d)
digit-of m d low fits = digit-goes most_budget m d low fits

digit-back : (m b n : ℕ) → with_digit m b ≡ Some n → (48 ≤ b) × (b ≤ 57) × (n ≡ 10 * m + (b - 48)) × (n ≤ most_budget)
digit-back m b n e = digit-came most_budget m b n (is_digit b && nat_le (10 * m + (b - 48)) most_budget) refl e

-- one digit more at the end
digits-append : (ds : List ℕ) (m k b n : ℕ) → with_digits m ds ≡ Some k → with_digit k b ≡ Some n → with_digits m (ds ++ b ∷ []) ≡ Some n
digits-append [] m k b n e f =
    let same : m ≡ k = cc in
    ap (λ x. with_digits x (b ∷ [])) same ∙ ap (λ (o : Option ℕ). elim o [ Some x ↦ with_digits x [] | None ↦ None ]) f
digits-append (d ∷ ds) m k b n e f = by (with_digit m d) (λ x h. digits-append ds x k b n h f) e
  where
    by : (o : Option ℕ) → ((x : ℕ) → with_digits x ds ≡ Some k → with_digits x (ds ++ b ∷ []) ≡ Some n)
        → elim o [ Some x ↦ with_digits x ds | None ↦ None ] ≡ Some k → elim o [ Some x ↦ with_digits x (ds ++ b ∷ []) | None ↦ None ] ≡ Some n
    by (Some x) rest h = rest x h
    by None rest h = let never : ⊥ = cc in absurd never

-- the decimal digits say the number
digits-decimal : (n : ℕ) → n < 2 ^ 64 → n ≤ most_budget → with_digits 0 (decimal n) ≡ Some n
digits-decimal n fits = decimal_by_steps (λ k ds. k ≤ most_budget → with_digits 0 ds ≡ Some k)
    (λ k low most. ap (λ (o : Option ℕ). elim o [ Some x ↦ with_digits x [] | None ↦ None ]) (digit-of 0 k low (let same : 10 * 0 + k ≡ k = omega arith in omega (arith, same, most)) ∙ ap Some (omega arith)))
    (λ k ds big front most.
    let whole : 10 * (k / 10) + k % 10 ≡ k = omega arith in
    let low : k % 10 < 10 = omega arith in
    digits-append ds 0 (k / 10) (48 + k % 10) k (front (omega (arith, most))) (digit-of (k / 10) (k % 10) low (omega (arith, whole, most)) ∙ ap Some whole))
    n fits

not_zero : (ds : List ℕ) → 0 < length ds → 48 < get_or ds 0 0 → budget_said ds ≡ with_digits 0 ds
not_zero [] h first = absurd (omega (arith, h))
not_zero (b ∷ bs) h first = if-false (nat_eq b 48) None (with_digits 0 (b ∷ bs)) (let above : 48 < b = first in grind (arith, nat_tests))

-- digits behind a number are its last decimal digits
digits-back : (bs : List ℕ) (m n : ℕ) → 1 ≤ m → m ≤ most_budget → with_digits m bs ≡ Some n → (decimal n ≡ decimal m ++ bs) × (1 ≤ n) × (n ≤ most_budget)
digits-back [] m n one most e =
    let same : m ≡ n = cc in
    (ap decimal (sym same) ∙ sym (append-nil (decimal m)), omega (arith, same, one), omega (arith, same, most))
digits-back (b ∷ bs) m n one most e = by (with_digit m b) refl (λ x low high h. digits-back bs x n low high h) e
  where
    step : (x : ℕ) → (48 ≤ b) × (b ≤ 57) × (x ≡ 10 * m + (b - 48)) × (x ≤ most_budget) → decimal x ≡ decimal m ++ b ∷ []
    step x h =
        let low = h.0 in let high = h.1 in let is = h.2 in let within = h.3 in
        let big : 10 ≤ x = omega (arith, is, one) in
        let front : x / 10 ≡ m = omega (arith, is, low, high) in
        let last : 48 + x % 10 ≡ b = omega (arith, is, low, high) in
        decimal_step x big (omega (arith, within)) ∙ ap (λ k. decimal k ++ (48 + x % 10) ∷ []) front ∙ ap (λ d. decimal m ++ d ∷ []) last

    by : (o : Option ℕ) → with_digit m b ≡ o → ((x : ℕ) → 1 ≤ x → x ≤ most_budget → with_digits x bs ≡ Some n → (decimal n ≡ decimal x ++ bs) × (1 ≤ n) × (n ≤ most_budget))
        → elim o [ Some x ↦ with_digits x bs | None ↦ None ] ≡ Some n → (decimal n ≡ decimal m ++ b ∷ bs) × (1 ≤ n) × (n ≤ most_budget)
    by (Some x) is rest h =
        let d = digit-back m b x is in
        let value = d.2 in
        let r = rest x (omega (arith, value, one)) d.3 h in
        (r.0 ∙ ap (λ ds. ds ++ bs) (step x d) ∙ append_assoc (decimal m) (b ∷ []) bs, r.1, r.2)
    by None is rest h = let never : ⊥ = cc in absurd never

said-back : (word : List ℕ) (n : ℕ) → budget_said word ≡ Some n → (word ≡ decimal n) × (1 ≤ n) × (n ≤ most_budget)
said-back [] n e = let never : ⊥ = cc in absurd never
said-back (b ∷ bs) n e = by (nat_eq b 48) refl e
  where
    first : (o : Option ℕ) → with_digit 0 b ≡ o → b ≢ 48 → elim o [ Some x ↦ with_digits x bs | None ↦ None ] ≡ Some n → (b ∷ bs ≡ decimal n) × (1 ≤ n) × (n ≤ most_budget)
    first (Some x) is other h =
        let d = digit-back 0 b x is in
        let low = d.0 in let high = d.1 in let value = d.2 in
        let small : x < 10 = omega (arith, low, high, value) in
        let one : 1 ≤ x = omega (arith, low, value, other) in
        let same : 48 + x ≡ b = omega (arith, low, value) in
        let r = digits-back bs x n one d.3 h in
        (sym (r.0 ∙ ap (λ ds. ds ++ bs) (decimal_digit x small ∙ ap (λ k. k ∷ []) same)), r.1, r.2)
    first None is other h = let never : ⊥ = cc in absurd never

    by : (t : Bool) → nat_eq b 48 ≡ t → (if t then None else with_digits 0 (b ∷ bs)) ≡ Some n → (b ∷ bs ≡ decimal n) × (1 ≤ n) × (n ≤ most_budget)
    by true t h = let never : ⊥ = cc in absurd never
    by false t h = first (with_digit 0 b) refl (other-number b 48 t) h

pub budget-is-decimal : BudgetIsDecimal
budget-is-decimal word n = (
  said-back word n,
  λ h.
      let fits : n < 2 ^ 64 = omega (arith, h.2) in
      ap budget_said h.0 ∙ not_zero (decimal n) (decimal_nonempty n fits) (first_decimal n h.1 fits) ∙ digits-decimal n fits h.2,
)
