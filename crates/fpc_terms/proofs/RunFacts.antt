-- The law of the budget, for any machine.
use Rattle.std.proofs.Common.{◌≡◌, ℕ, zero, suc, ◌+◌, ◌<◌, ◌≤◌, Option, Some, None, refl, ap, sym, ◌∙◌, arith}
use Rattle.fpc_terms.specs.Run.{Ending, ended, spent, one_more, raise, run}

-- one unit more was taken
one_more_ended : {R : Type 0} (o : Ending R) (r : R) (u : ℕ) → one_more o ≡ ended r u → (w : ℕ) × (u ≡ suc w) × (o ≡ ended r w)
one_more_ended (ended q w) r u e = (w, (cc), (cc))
one_more_ended spent r u e = cc

pub raise-one : {R : Type 0} → (e : Ending R) → raise 1 e ≡ one_more e
raise-one (ended r u) = ap (ended r) (omega arith)
raise-one spent = refl

-- no units more
pub raise-none : {R : Type 0} → (e : Ending R) → raise 0 e ≡ e
raise-none (ended r u) = ap (ended r) (omega arith)
raise-none spent = refl

-- so many units more, and one
pub raise-more : {R : Type 0} → (k : ℕ) (e : Ending R) → one_more (raise k e) ≡ raise (suc k) e
raise-more k (ended r u) = ap (ended r) (omega arith)
raise-more k spent = refl

-- one unit more, and so many
pub raise-one-more : {R : Type 0} → (k : ℕ) (e : Ending R) → raise k (one_more e) ≡ raise (suc k) e
raise-one-more k (ended r u) = ap (ended r) (omega arith)
raise-one-more k spent = refl

-- some units more, and some more
pub raise-raise : {R : Type 0} → (j k : ℕ) (e : Ending R) → raise j (raise k e) ≡ raise (j + k) e
raise-raise j k (ended r u) = ap (ended r) (omega arith)
raise-raise j k spent = refl

module _ (S R : Type 0) (answer : S → Option R) (step : S → S) where
  -- the run from s ends with r and u units: within each budget that has them, and within no smaller one
  pub record IsSettled (n : ℕ) (s : S) (r : R) (u : ℕ) : Type 0 where
    pub within : u ≤ n
    pub same : (m : ℕ) → u ≤ m → run answer step m s ≡ ended r u
    pub below : (m : ℕ) → m < u → run answer step m s ≡ spent

  -- a run from a state with an answer, and from one without
  pub run_answered : (m : ℕ) (s : S) (r : R) → answer s ≡ Some r → run answer step m s ≡ ended r 0
  run_answered zero s r e = rw (e, run)
  run_answered (suc m) s r e = rw (e, run)

  pub run_spent : (s : S) → answer s ≡ None → run answer step 0 s ≡ spent
  run_spent s e = rw (e, run)

  pub run_going : (m : ℕ) (s : S) → answer s ≡ None → run answer step (suc m) s ≡ one_more (run answer step m (step s))
  run_going m s e = rw (e, run)

  settled_now : (n : ℕ) (s : S) (q r : R) (u : ℕ) → answer s ≡ Some q → run answer step n s ≡ ended r u → IsSettled n s r u
  settled_now n s q r u a e =
      let f : ended q 0 ≡ ended r u = sym (run_answered n s q a) ∙ e in
      let none : u ≡ 0 = cc in
      record {
        within = omega (arith, none);
        same = λ m l. run_answered m s q a ∙ f;
        below = λ m l. absurd (omega (arith, none, l));
      }

  settled_later : (n : ℕ) (s : S) (r : R) (u w : ℕ) → answer s ≡ None → u ≡ suc w → IsSettled n (step s) r w → IsSettled (suc n) s r u
  settled_later n s r u w a e h = record { within = omega (arith, h.within, e); same = same; below = below } where
    same : (m : ℕ) → u ≤ m → run answer step m s ≡ ended r u
    same zero l = absurd (omega (arith, e, l))
    same (suc m) l = run_going m s a ∙ ap one_more (h.same m (omega (arith, e, l))) ∙ ap (ended r) (sym e)

    below : (m : ℕ) → m < u → run answer step m s ≡ spent
    below zero l = run_spent s a
    below (suc m) l = run_going m s a ∙ ap one_more (h.below m (omega (arith, e, l)))

  -- A run that ends takes the same units within each budget that has them, and is spent within each smaller one.
  pub settled : (n : ℕ) (s : S) (r : R) (u : ℕ) → run answer step n s ≡ ended r u → IsSettled n s r u
  settled zero s r u e = by_answer (answer s) refl where
    by_answer : (q : Option R) → answer s ≡ q → IsSettled 0 s r u
    by_answer (Some q) a = settled_now 0 s q r u a e
    by_answer None a = let f : spent ≡ ended r u = sym (run_spent s a) ∙ e in cc
  settled (suc n) s r u e = by_answer (answer s) refl (settled n (step s)) where
    by_answer : (q : Option R) → answer s ≡ q → ((r : R) (u : ℕ) → run answer step n (step s) ≡ ended r u → IsSettled n (step s) r u)
        → IsSettled (suc n) s r u
    by_answer (Some q) a h = settled_now (suc n) s q r u a e
    by_answer None a h =
        let p = one_more_ended (run answer step n (step s)) r u (sym (run_going n s a) ∙ e) in
        settled_later n s r u p.0 a p.1 (h r p.0 p.2)

  -- a run from a state with an answer ends there
  kept_here : (P : S → Type 0) (n : ℕ) (s : S) (q r : R) (u : ℕ) → answer s ≡ Some q → P s → run answer step n s ≡ ended r u
      → (t : S) × P t × (answer t ≡ Some r)
  kept_here P n s q r u a p e =
      let f : ended q 0 ≡ ended r u = sym (run_answered n s q a) ∙ e in
      let same : q ≡ r = cc in
      (s, p, a ∙ ap Some same)

  -- what each step keeps holds where the run ends
  pub kept : (P : S → Type 0) → ((s : S) → answer s ≡ None → P s → P (step s)) → (n : ℕ) (s : S) (r : R) (u : ℕ) → P s
      → run answer step n s ≡ ended r u → (t : S) × P t × (answer t ≡ Some r)
  kept P keeps zero s r u p e = by_answer (answer s) refl where
    by_answer : (q : Option R) → answer s ≡ q → (t : S) × P t × (answer t ≡ Some r)
    by_answer (Some q) a = kept_here P 0 s q r u a p e
    by_answer None a = let f : spent ≡ ended r u = sym (run_spent s a) ∙ e in cc
  kept P keeps (suc n) s r u p e = by_answer (answer s) refl (kept P keeps n (step s) r) where
    by_answer : (q : Option R) → answer s ≡ q → ((u : ℕ) → P (step s) → run answer step n (step s) ≡ ended r u → (t : S) × P t × (answer t ≡ Some r))
        → (t : S) × P t × (answer t ≡ Some r)
    by_answer (Some q) a h = kept_here P (suc n) s q r u a p e
    by_answer None a h =
        let o = one_more_ended (run answer step n (step s)) r u (sym (run_going n s a) ∙ e) in
        h o.0 (keeps s a p) o.2
