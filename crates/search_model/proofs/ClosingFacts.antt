-- A closing, and another one of the variables after its own.
use Rattle.std.specs.Prelude.{◌≡◌, ℕ, ◌+◌, ◌-◌, ◌<◌, ◌≤◌, nat_lt}
use Rattle.std.specs.Prelude.{None, List, ◌++◌, length, replicate}
use Rattle.std.proofs.Common.{refl, sym, ap, ◌∙◌, subst, ⊎_elim, arith}
use Rattle.std.proofs.lemmas.Bool.{cases_lt, lt-ltb, le-ltb, cond-true, cond-false, cond_both}
use Rattle.std.proofs.lemmas.List.{get_or_append_left, get_or-append_right}
use Rattle.fpc_terms.specs.Term.{Term}
use Rattle.fpc_terms.specs.Open.{IsGround, Level, level_of, IsScopedAt, IsClosing}
use Rattle.fpc_terms.proofs.LevelFacts.{level_of-none}
use Rattle.search_model.specs.Lawful.{both}

-- of two substitutions the first one below k, and the second one from k on
pub both_below : (k : ℕ) (s r : ℕ → Term) (n : ℕ) → n < k → s n ≡ both k s r n
both_below k s r n h = sym (cond-true (nat_lt n k) (s n) (r (n - k)) (lt-ltb n k h))

pub both_past : (k : ℕ) (s r : ℕ → Term) (n : ℕ) → k ≤ n → r (n - k) ≡ both k s r n
both_past k s r n h = sym (cond-false (nat_lt n k) (s n) (r (n - k)) (le-ltb n k h))

pub both_later : (k : ℕ) (s r : ℕ → Term) (n : ℕ) → both k s r (k + n) ≡ r n
both_later k s r n =
    let past : k ≤ k + n = omega arith in
    let back : k + n - k ≡ n = omega arith in
    sym (both_past k s r (k + n) past) ∙ ap r back

-- they are a closing of the levels of both
pub closing_both : (levels new : List Level) (s r : ℕ → Term) → IsClosing levels s → IsClosing new r
    → IsClosing (levels ++ new) (both (length levels) s r)
closing_both levels new s r first second =
    record {
      ground = ground_at;
      in_scope = λ n. ⊎_elim (within n) (past n) (cases_lt n (length levels));
    }
  where
    ground_at : (n : ℕ) → IsGround (both (length levels) s r n)
    ground_at n =
        cond_both (nat_lt n (length levels)) (s n) (r (n - length levels)) IsGround (λ _. first.ground n)
        (λ _. second.ground (n - length levels))

    within : (n : ℕ) → n < length levels
        → IsScopedAt (level_of (levels ++ new) n) (both (length levels) s r n)
    within n l =
        rw (get_or_append_left levels new None n l)
        (subst (IsScopedAt (level_of levels n)) (both_below (length levels) s r n l) (first.in_scope n))

    past : (n : ℕ) → length levels ≤ n
        → IsScopedAt (level_of (levels ++ new) n) (both (length levels) s r n)
    past n l =
        rw (get_or-append_right levels new (length levels) n None refl l)
        (subst (IsScopedAt (level_of new (n - length levels))) (both_past (length levels) s r n l)
        (second.in_scope (n - length levels)))

-- any ground terms close variables without level
pub closing_free : (variables : ℕ) (s : ℕ → Term) → ((n : ℕ) → IsGround (s n))
    → IsClosing (replicate variables None) s
closing_free variables s ground_at = record {
  ground = ground_at;
  in_scope = λ n. subst (λ l. IsScopedAt l (s n)) (sym (level_of-none variables n)) tt;
}
