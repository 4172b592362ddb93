-- The leaves of terms and formulas under opening, under the dual and under the tests of scope.
use Rattle.std.proofs.Common.{◌≡◌, ℕ, suc, ◌<◌, Bool, true, false, nat_eq, ◌&&◌, if◌then◌else◌, refl, arith}
use Rattle.std.proofs.lemmas.Bool.Decides.{nat_tests}
use Rattle.std.proofs.lemmas.Bool.{and_parts}
use Rattle.fpc_terms.specs.Term.{Term, eigen, bound, variable, app, Args, no_args, arg, Each, EachArg, Never, IsProperTerm, InScope, open_term, open_args, same_term, same_args}
use Rattle.polarised_formulas.specs.Formula.{Formula, truth, falsity, atom, conj, disj, implies, for_all, exists, dual_of, open_at, EachInside, Tied, IsLkf, IsLjf, IsOfLogic}
use Rattle.polarised_formulas.specs.declared.logic.Logic.{Logic}
use Rattle.polarised_formulas.specs.declared.logic.Logic.TheVariants.{Lkf, Ljf}
use Rattle.polarised_formulas.specs.declared.logic.Polarity.TheVariants.{Positive, Negative}
use Rattle.polarised_formulas.specs.Scope.{is_scoped, are_scoped, has_implication, has_disjunction, may_be_cut}

-- what follows of each leaf of a term
module _ (e f b c v : ℕ → Type 0) (he : (n : ℕ) → e n → f n) (hb : (n : ℕ) → b n → c n) where
  mutual
    pub Each-weaker : (t : Term) → Each e b v t → Each f c v t
    Each-weaker (eigen n) h = he n h
    Each-weaker (bound k) h = hb k h
    Each-weaker (variable n) h = h
    Each-weaker (app g ts) h = EachArg-weaker ts h

    pub EachArg-weaker : (ts : Args) → EachArg e b v ts → EachArg f c v ts
    EachArg-weaker no_args h = tt
    EachArg-weaker (arg t ts) h = (Each-weaker t h.0, EachArg-weaker ts h.1)

-- what follows of each eigenvariable of a formula
module _ (e f : ℕ → Type 0) (he : (n : ℕ) → e n → f n) where
  pub EachInside-weaker : (d : ℕ) (a : Formula) → EachInside e Tied Never d a → EachInside f Tied Never d a
  EachInside-weaker d (truth p) h = tt
  EachInside-weaker d (falsity p) h = tt
  EachInside-weaker d (atom positive name ts) h = EachArg-weaker e f (Tied d) (Tied d) Never he (λ k x. x) ts h
  EachInside-weaker d (conj p a b) h = (EachInside-weaker d a h.0, EachInside-weaker d b h.1)
  EachInside-weaker d (disj p a b) h = (EachInside-weaker d a h.0, EachInside-weaker d b h.1)
  EachInside-weaker d (implies a b) h = (EachInside-weaker d a h.0, EachInside-weaker d b h.1)
  EachInside-weaker d (for_all a) h = EachInside-weaker (suc d) a h
  EachInside-weaker d (exists a) h = EachInside-weaker (suc d) a h

-- a term in the place of the outermost index
module _ (e : ℕ → Type 0) (s : Term) (hs : IsProperTerm e s) where
  -- an index, where the term is put in for the outermost one
  Each-chosen : (k j : ℕ) → j < suc k → (b : Bool) → nat_eq j k ≡ b → Each e (Tied k) Never (if b then s else bound j)
  Each-chosen k j h true same = Each-weaker e e Never (Tied k) Never (λ n x. x) (λ n x. absurd x) s hs
  Each-chosen k j h false other = grind (arith, nat_tests)

  mutual
    pub Each-open_term : (k : ℕ) (t : Term) → Each e (Tied (suc k)) Never t → Each e (Tied k) Never (open_term k s t)
    Each-open_term k (eigen n) h = h
    Each-open_term k (bound j) h = Each-chosen k j h (nat_eq j k) refl
    Each-open_term k (variable n) h = h
    Each-open_term k (app f ts) h = EachArg-open_args k ts h

    pub EachArg-open_args : (k : ℕ) (ts : Args) → EachArg e (Tied (suc k)) Never ts → EachArg e (Tied k) Never (open_args k s ts)
    EachArg-open_args k no_args h = tt
    EachArg-open_args k (arg t ts) h = (Each-open_term k t h.0, EachArg-open_args k ts h.1)

  pub EachInside-open_at : (k : ℕ) (a : Formula) → EachInside e Tied Never (suc k) a → EachInside e Tied Never k (open_at k s a)
  EachInside-open_at k (truth p) h = tt
  EachInside-open_at k (falsity p) h = tt
  EachInside-open_at k (atom positive name ts) h = EachArg-open_args k ts h
  EachInside-open_at k (conj p a b) h = (EachInside-open_at k a h.0, EachInside-open_at k b h.1)
  EachInside-open_at k (disj p a b) h = (EachInside-open_at k a h.0, EachInside-open_at k b h.1)
  EachInside-open_at k (implies a b) h = (EachInside-open_at k a h.0, EachInside-open_at k b h.1)
  EachInside-open_at k (for_all a) h = EachInside-open_at (suc k) a h
  EachInside-open_at k (exists a) h = EachInside-open_at (suc k) a h

-- the dual has the leaves of the formula
module _ (e : ℕ → Type 0) where
  pub EachInside-dual_of : (d : ℕ) (a : Formula) → EachInside e Tied Never d a → EachInside e Tied Never d (dual_of a)
  EachInside-dual_of d (truth p) h = tt
  EachInside-dual_of d (falsity p) h = tt
  EachInside-dual_of d (atom positive name ts) h = h
  EachInside-dual_of d (conj p a b) h = (EachInside-dual_of d a h.0, EachInside-dual_of d b h.1)
  EachInside-dual_of d (disj p a b) h = (EachInside-dual_of d a h.0, EachInside-dual_of d b h.1)
  EachInside-dual_of d (implies a b) h = (EachInside-dual_of d a h.0, EachInside-dual_of d b h.1)
  EachInside-dual_of d (for_all a) h = EachInside-dual_of (suc d) a h
  EachInside-dual_of d (exists a) h = EachInside-dual_of (suc d) a h

-- the tests of scope, both ways
module _ (n : ℕ) where
  mutual
    -- what passes the test is in scope
    pub Each-is_scoped : (d : ℕ) (t : Term) → is_scoped n d t ≡ true → Each (λ m. m < n) (Tied d) Never t
    Each-is_scoped d (eigen m) passes = grind (arith, nat_tests)
    Each-is_scoped d (bound k) passes = grind (arith, nat_tests)
    Each-is_scoped d (variable v) passes = cc
    Each-is_scoped d (app f ts) passes = EachArg-are_scoped d ts passes

    pub EachArg-are_scoped : (d : ℕ) (ts : Args) → are_scoped n d ts ≡ true → EachArg (λ m. m < n) (Tied d) Never ts
    EachArg-are_scoped d no_args passes = tt
    EachArg-are_scoped d (arg t ts) passes =
        let parts = and_parts (is_scoped n d t) (are_scoped n d ts) passes in (Each-is_scoped d t parts.0, EachArg-are_scoped d ts parts.1)

  mutual
    -- what is in scope passes the test
    pub is_scoped-each : (d : ℕ) (t : Term) → Each (λ m. m < n) (Tied d) Never t → is_scoped n d t ≡ true
    is_scoped-each d (eigen m) h = grind (arith, nat_tests)
    is_scoped-each d (bound k) h = grind (arith, nat_tests)
    is_scoped-each d (variable v) h = absurd h
    is_scoped-each d (app f ts) h = are_scoped-each d ts h

    pub are_scoped-each : (d : ℕ) (ts : Args) → EachArg (λ m. m < n) (Tied d) Never ts → are_scoped n d ts ≡ true
    are_scoped-each d no_args h = refl
    are_scoped-each d (arg t ts) h = rw (is_scoped-each d t h.0, are_scoped-each d ts h.1)

  -- a term that passes the test is in scope
  pub InScope-is_scoped : (t : Term) → is_scoped n 0 t ≡ true → InScope n t
  InScope-is_scoped t passes =
      Each-weaker (λ m. m < n) (λ m. m < n) (Tied 0) Never Never (λ m x. x) (λ k (x : k < 0). omega arith) t (Each-is_scoped 0 t passes)

  -- a term in scope passes the test
  pub is_scoped-in_scope : (t : Term) → InScope n t → is_scoped n 0 t ≡ true
  is_scoped-in_scope t h = is_scoped-each 0 t (Each-weaker (λ m. m < n) (λ m. m < n) Never (Tied 0) Never (λ m x. x) (λ k x. absurd x) t h)

  -- a formula that passes the test has its leaves in scope
  pub EachInside-may_be_cut : (l : Logic) (d : ℕ) (a : Formula) → may_be_cut l n d a ≡ true → EachInside (λ m. m < n) Tied Never d a
  EachInside-may_be_cut l d (truth p) passes = tt
  EachInside-may_be_cut l d (falsity p) passes = tt
  EachInside-may_be_cut l d (atom positive name ts) passes = EachArg-are_scoped d ts passes
  EachInside-may_be_cut l d (conj p a b) passes =
      let parts = and_parts (may_be_cut l n d a) (may_be_cut l n d b) passes in (EachInside-may_be_cut l d a parts.0, EachInside-may_be_cut l d b parts.1)
  EachInside-may_be_cut l d (disj p a b) passes =
      let both = and_parts (has_disjunction l p) (may_be_cut l n d a && may_be_cut l n d b) passes in
      let parts = and_parts (may_be_cut l n d a) (may_be_cut l n d b) both.1 in (EachInside-may_be_cut l d a parts.0, EachInside-may_be_cut l d b parts.1)
  EachInside-may_be_cut l d (implies a b) passes =
      let both = and_parts (has_implication l) (may_be_cut l n d a && may_be_cut l n d b) passes in
      let parts = and_parts (may_be_cut l n d a) (may_be_cut l n d b) both.1 in (EachInside-may_be_cut l d a parts.0, EachInside-may_be_cut l d b parts.1)
  EachInside-may_be_cut l d (for_all a) passes = EachInside-may_be_cut l (suc d) a passes
  EachInside-may_be_cut l d (exists a) passes = EachInside-may_be_cut l (suc d) a passes

  IsLkf-may_be_cut : (d : ℕ) (a : Formula) → may_be_cut Lkf n d a ≡ true → IsLkf a
  IsLkf-may_be_cut d (truth p) passes = tt
  IsLkf-may_be_cut d (falsity p) passes = tt
  IsLkf-may_be_cut d (atom positive name ts) passes = tt
  IsLkf-may_be_cut d (conj p a b) passes =
      let parts = and_parts (may_be_cut Lkf n d a) (may_be_cut Lkf n d b) passes in (IsLkf-may_be_cut d a parts.0, IsLkf-may_be_cut d b parts.1)
  IsLkf-may_be_cut d (disj p a b) passes =
      let parts = and_parts (may_be_cut Lkf n d a) (may_be_cut Lkf n d b) passes in (IsLkf-may_be_cut d a parts.0, IsLkf-may_be_cut d b parts.1)
  IsLkf-may_be_cut d (implies a b) passes = cc
  IsLkf-may_be_cut d (for_all a) passes = IsLkf-may_be_cut (suc d) a passes
  IsLkf-may_be_cut d (exists a) passes = IsLkf-may_be_cut (suc d) a passes

  IsLjf-may_be_cut : (d : ℕ) (a : Formula) → may_be_cut Ljf n d a ≡ true → IsLjf a
  IsLjf-may_be_cut d (truth p) passes = tt
  IsLjf-may_be_cut d (falsity Positive) passes = tt
  IsLjf-may_be_cut d (falsity Negative) passes = cc
  IsLjf-may_be_cut d (atom positive name ts) passes = tt
  IsLjf-may_be_cut d (conj p a b) passes =
      let parts = and_parts (may_be_cut Ljf n d a) (may_be_cut Ljf n d b) passes in (IsLjf-may_be_cut d a parts.0, IsLjf-may_be_cut d b parts.1)
  IsLjf-may_be_cut d (disj Positive a b) passes =
      let parts = and_parts (may_be_cut Ljf n d a) (may_be_cut Ljf n d b) passes in (IsLjf-may_be_cut d a parts.0, IsLjf-may_be_cut d b parts.1)
  IsLjf-may_be_cut d (disj Negative a b) passes = cc
  IsLjf-may_be_cut d (implies a b) passes =
      let parts = and_parts (may_be_cut Ljf n d a) (may_be_cut Ljf n d b) passes in (IsLjf-may_be_cut d a parts.0, IsLjf-may_be_cut d b parts.1)
  IsLjf-may_be_cut d (for_all a) passes = IsLjf-may_be_cut (suc d) a passes
  IsLjf-may_be_cut d (exists a) passes = IsLjf-may_be_cut (suc d) a passes

  -- and it is of the logic
  pub IsOfLogic-may_be_cut : (l : Logic) (d : ℕ) (a : Formula) → may_be_cut l n d a ≡ true → IsOfLogic l a
  IsOfLogic-may_be_cut Lkf d a passes = IsLkf-may_be_cut d a passes
  IsOfLogic-may_be_cut Ljf d a passes = IsLjf-may_be_cut d a passes

  may_be_cut-lkf : (d : ℕ) (a : Formula) → EachInside (λ m. m < n) Tied Never d a → IsLkf a → may_be_cut Lkf n d a ≡ true
  may_be_cut-lkf d (truth p) h of = refl
  may_be_cut-lkf d (falsity p) h of = refl
  may_be_cut-lkf d (atom positive name ts) h of = are_scoped-each d ts h
  may_be_cut-lkf d (conj p a b) h of = rw (may_be_cut-lkf d a h.0 of.0, may_be_cut-lkf d b h.1 of.1)
  may_be_cut-lkf d (disj p a b) h of = rw (may_be_cut-lkf d a h.0 of.0, may_be_cut-lkf d b h.1 of.1)
  may_be_cut-lkf d (implies a b) h of = absurd of
  may_be_cut-lkf d (for_all a) h of = may_be_cut-lkf (suc d) a h of
  may_be_cut-lkf d (exists a) h of = may_be_cut-lkf (suc d) a h of

  may_be_cut-ljf : (d : ℕ) (a : Formula) → EachInside (λ m. m < n) Tied Never d a → IsLjf a → may_be_cut Ljf n d a ≡ true
  may_be_cut-ljf d (truth p) h of = refl
  may_be_cut-ljf d (falsity Positive) h of = refl
  may_be_cut-ljf d (falsity Negative) h of = absurd of
  may_be_cut-ljf d (atom positive name ts) h of = are_scoped-each d ts h
  may_be_cut-ljf d (conj p a b) h of = rw (may_be_cut-ljf d a h.0 of.0, may_be_cut-ljf d b h.1 of.1)
  may_be_cut-ljf d (disj Positive a b) h of = rw (may_be_cut-ljf d a h.0 of.0, may_be_cut-ljf d b h.1 of.1)
  may_be_cut-ljf d (disj Negative a b) h of = absurd of
  may_be_cut-ljf d (implies a b) h of = rw (may_be_cut-ljf d a h.0 of.0, may_be_cut-ljf d b h.1 of.1)
  may_be_cut-ljf d (for_all a) h of = may_be_cut-ljf (suc d) a h of
  may_be_cut-ljf d (exists a) h of = may_be_cut-ljf (suc d) a h of

  -- a formula of the logic with its leaves in scope passes the test
  pub may_be_cut-each : (l : Logic) (d : ℕ) (a : Formula) → EachInside (λ m. m < n) Tied Never d a → IsOfLogic l a → may_be_cut l n d a ≡ true
  may_be_cut-each Lkf d a h of = may_be_cut-lkf d a h of
  may_be_cut-each Ljf d a h of = may_be_cut-ljf d a h of

-- opening keeps a formula of LKF
pub IsLkf-open_at : (k : ℕ) (t : Term) (a : Formula) → IsLkf a → IsLkf (open_at k t a)
IsLkf-open_at k t (truth p) h = tt
IsLkf-open_at k t (falsity p) h = tt
IsLkf-open_at k t (atom positive name ts) h = tt
IsLkf-open_at k t (conj p a b) h = (IsLkf-open_at k t a h.0, IsLkf-open_at k t b h.1)
IsLkf-open_at k t (disj p a b) h = (IsLkf-open_at k t a h.0, IsLkf-open_at k t b h.1)
IsLkf-open_at k t (implies a b) h = absurd h
IsLkf-open_at k t (for_all a) h = IsLkf-open_at (suc k) t a h
IsLkf-open_at k t (exists a) h = IsLkf-open_at (suc k) t a h

-- the dual of a formula of LKF is one
pub IsLkf-dual_of : (a : Formula) → IsLkf a → IsLkf (dual_of a)
IsLkf-dual_of (truth p) h = tt
IsLkf-dual_of (falsity p) h = tt
IsLkf-dual_of (atom positive name ts) h = tt
IsLkf-dual_of (conj p a b) h = (IsLkf-dual_of a h.0, IsLkf-dual_of b h.1)
IsLkf-dual_of (disj p a b) h = (IsLkf-dual_of a h.0, IsLkf-dual_of b h.1)
IsLkf-dual_of (implies a b) h = absurd h
IsLkf-dual_of (for_all a) h = IsLkf-dual_of a h
IsLkf-dual_of (exists a) h = IsLkf-dual_of a h

-- terms that pass the test for equality are equal
mutual
  pub same_term-equal : (t u : Term) → same_term t u ≡ true → t ≡ u
  same_term-equal (eigen m) (eigen n) h = grind arith
  same_term-equal (bound m) (bound n) h = grind arith
  same_term-equal (variable m) (variable n) h = grind arith
  same_term-equal (app f ts) (app g us) h = grind (arith, same_args-equal ts us)
  same_term-equal _ _ h = grind arith

  pub same_args-equal : (ts us : Args) → same_args ts us ≡ true → ts ≡ us
  same_args-equal no_args no_args h = refl
  same_args-equal (arg t ts) (arg u us) h = grind (arith, same_term-equal t u, same_args-equal ts us)
  same_args-equal _ _ h = grind arith

-- a term passes the test with itself
mutual
  pub same_term-reflexive : (t : Term) → same_term t t ≡ true
  same_term-reflexive (eigen n) = grind arith
  same_term-reflexive (bound n) = grind arith
  same_term-reflexive (variable n) = grind arith
  same_term-reflexive (app f ts) = grind (arith, same_args-reflexive ts)

  pub same_args-reflexive : (ts : Args) → same_args ts ts ≡ true
  same_args-reflexive no_args = refl
  same_args-reflexive (arg t ts) = grind (arith, same_term-reflexive t, same_args-reflexive ts)
