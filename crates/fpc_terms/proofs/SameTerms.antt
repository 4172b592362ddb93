-- Terms that are the same but for the numbers of their names.
use Rattle.std.proofs.Common.{◌≡◌, ℕ, zero, suc, Bool, true, false, if◌then◌else◌, ◌&&◌, nat_eq, List, ◌++◌, length, slice_get, refl, ap, ap₂}
use Rattle.fpc_terms.specs.Term.{Term, Args, same_term, same_args, open_term, open_args}
use Rattle.fpc_terms.specs.Same.{SameTerm, SameArgs, same_eigen, same_bound, same_variable, same_app, same_no_args, same_arg}
use Rattle.fpc_terms.specs.Same.{SameList, SameOption, same_nil, same_cons, same_none, same_some}

-- the same test chooses on both sides
pub if-same : {X : Type 0} (R : X → X → Type 0) (c : Bool) {x y z w : X} → (c ≡ true → R x z) → (c ≡ false → R y w) → R (if c then x else y) (if c then z else w)
if-same R true h k = h refl
if-same R false h k = k refl

-- the lists are as long
pub length-same : {X : Type 0} {R : X → X → Type 0} {xs ys : List X} → SameList R xs ys → length xs ≡ length ys
length-same same_nil = refl
length-same (same_cons h hs) = ap suc (length-same hs)

-- lists behind others
pub append-same : {X : Type 0} {R : X → X → Type 0} {xs ys us vs : List X} → SameList R xs ys → SameList R us vs → SameList R (xs ++ us) (ys ++ vs)
append-same same_nil k = k
append-same (same_cons h hs) k = same_cons h (append-same hs k)

-- the items at a place
pub slice_get-same : {X : Type 0} {R : X → X → Type 0} {xs ys : List X} → SameList R xs ys → (k : ℕ) → SameOption R (slice_get xs k) (slice_get ys k)
slice_get-same same_nil k = same_none
slice_get-same (same_cons h hs) zero = same_some h
slice_get-same (same_cons h hs) (suc k) = slice_get-same hs k

module _ (S : ℕ → ℕ → Type 0) where
  mutual
    -- the term in the place of an index
    pub open_term-same : (k : ℕ) {s r t u : Term} → SameTerm S s r → SameTerm S t u → SameTerm S (open_term k s t) (open_term k r u)
    open_term-same k h (same_eigen n) = same_eigen n
    open_term-same k h (same_bound j) = if-same (SameTerm S) (nat_eq j k) (λ _. h) (λ _. same_bound j)
    open_term-same k h (same_variable n) = same_variable n
    open_term-same k h (same_app s hs) = same_app s (open_args-same k h hs)

    pub open_args-same : (k : ℕ) {s r : Term} {ts us : Args} → SameTerm S s r → SameArgs S ts us → SameArgs S (open_args k s ts) (open_args k r us)
    open_args-same k h same_no_args = same_no_args
    open_args-same k h (same_arg t ts) = same_arg (open_term-same k h t) (open_args-same k h ts)

  -- the test of equality tells the same, where the relation is one to one
  module _ (one : (f g m n : ℕ) → S f m → S g n → nat_eq f g ≡ nat_eq m n) where
    mutual
      pub same_term-same : {t u s r : Term} → SameTerm S t s → SameTerm S u r → same_term t u ≡ same_term s r
      same_term-same (same_eigen m) (same_eigen n) = refl
      same_term-same (same_bound m) (same_bound n) = refl
      same_term-same (same_variable m) (same_variable n) = refl
      same_term-same (same_app {f = f} {g = m} s hs) (same_app {f = g} {g = n} r ks) = ap₂ (λ a b. a && b) (one f g m n s r) (same_args-same hs ks)
      same_term-same _ _ = refl

      pub same_args-same : {ts us ss rs : Args} → SameArgs S ts ss → SameArgs S us rs → same_args ts us ≡ same_args ss rs
      same_args-same same_no_args same_no_args = refl
      same_args-same (same_arg t ts) (same_arg u us) = ap₂ (λ a b. a && b) (same_term-same t u) (same_args-same ts us)
      same_args-same _ _ = refl
