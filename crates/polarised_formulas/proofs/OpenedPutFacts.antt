-- Formulas with terms for variables, where an index is opened, and their duals and polarities.
use Rattle.std.proofs.Common.{if◌then◌else◌, ◌<◌, ◌≡◌, ◌≢◌, ℕ, suc, max, Bool, true, false, nat_eq, List}
use Rattle.std.proofs.Common.{Some, refl, ap, ap₂, sym, arith}
use Rattle.std.proofs.lemmas.Bool.Decides.{nat_tests}
use Rattle.fpc_terms.specs.Term.{Term, Args, eigen, bound, variable, app, no_args, arg, put}
use Rattle.fpc_terms.specs.Term.{put_all, Each, EachArg, Never, Always, open_term, open_args}
use Rattle.fpc_terms.specs.Open.{IsOpen, Level, level_of, IsAtMost}
use Rattle.fpc_terms.proofs.LevelFacts.{at_most_trans}
use Rattle.fpc_terms.proofs.PutFacts.{each_more}
use Rattle.polarised_formulas.specs.Formula.{Formula, truth, falsity, atom, conj, disj, implies}
use Rattle.polarised_formulas.specs.Formula.{for_all, exists, polarity_of, other_polarity, dual_of}
use Rattle.polarised_formulas.specs.Formula.{open_at, EachInside, Tied}
use Rattle.polarised_formulas.specs.Size.{depth_of}
use Rattle.polarised_formulas.specs.OpenFormula.{put_formula, AnyBound, IsOpenFormula, IsScopedFormula}
use Rattle.fpc_terms.specs.Open.{IsOpenAt}
use Rattle.polarised_formulas.proofs.OpenFormulaFacts.{inside_more}

-- a term without bound indexes stays as it is when an index is opened
mutual
  open_none : (k : ℕ) (t u : Term) → Each Always Never Always u → open_term k t u ≡ u
  open_none k t (eigen n) h = refl
  open_none k t (bound j) h = absurd h
  open_none k t (variable n) h = refl
  open_none k t (app f ts) h = ap (app f) (open_args_none k t ts h)

  open_args_none : (k : ℕ) (t : Term) (ts : Args) → EachArg Always Never Always ts
      → open_args k t ts ≡ ts
  open_args_none k t no_args h = refl
  open_args_none k t (arg u ts) h = ap₂ arg (open_none k t u h.0) (open_args_none k t ts h.1)

-- terms without bound indexes for the variables, and an index opened, in either order
module _ (e b v : ℕ → Type 0) (s : ℕ → Term)
    (unbound : (n : ℕ) → v n → Each Always Never Always (s n))
    (t : Term) where
  mutual
    put-open_term : (k : ℕ) (u : Term) → Each e b v u
        → put s (open_term k t u) ≡ open_term k (put s t) (put s u)
    put-open_term k (eigen n) h = refl
    put-open_term k (bound j) h = by_test (nat_eq j k)
      where
        by_test : (c : Bool) → put s (if c then t else bound j) ≡ (if c then put s t else bound j)
        by_test true = refl
        by_test false = refl
    put-open_term k (variable n) h = sym (open_none k (put s t) (s n) (unbound n h))
    put-open_term k (app f ts) h = ap (app f) (put-open_args k ts h)

    put-open_args : (k : ℕ) (ts : Args) → EachArg e b v ts
        → put_all s (open_args k t ts) ≡ open_args k (put s t) (put_all s ts)
    put-open_args k no_args h = refl
    put-open_args k (arg u ts) h = ap₂ arg (put-open_term k u h.0) (put-open_args k ts h.1)

module _ (e : ℕ → Type 0) (b : ℕ → ℕ → Type 0) (v : ℕ → Type 0) (s : ℕ → Term)
    (unbound : (n : ℕ) → v n → Each Always Never Always (s n)) (t : Term) where
  pub put-open_at : (d k : ℕ) (f : Formula) → EachInside e b v d f
      → put_formula s (open_at k t f) ≡ open_at k (put s t) (put_formula s f)
  put-open_at d k (truth p) h = refl
  put-open_at d k (falsity p) h = refl
  put-open_at d k (atom q f ts) h = ap (atom q f) (put-open_args e (b d) v s unbound t k ts h)
  put-open_at d k (conj p x y) h = ap₂ (conj p) (put-open_at d k x h.0) (put-open_at d k y h.1)
  put-open_at d k (disj p x y) h = ap₂ (disj p) (put-open_at d k x h.0) (put-open_at d k y h.1)
  put-open_at d k (implies x y) h = ap₂ implies (put-open_at d k x h.0) (put-open_at d k y h.1)
  put-open_at d k (for_all x) h = ap for_all (put-open_at (suc d) (suc k) x h)
  put-open_at d k (exists x) h = ap exists (put-open_at (suc d) (suc k) x h)

pub put-dual : (s : ℕ → Term) (f : Formula) → put_formula s (dual_of f) ≡ dual_of (put_formula s f)
put-dual s (truth p) = refl
put-dual s (falsity p) = refl
put-dual s (atom q f ts) = refl
put-dual s (conj p x y) = ap₂ (disj (other_polarity p)) (put-dual s x) (put-dual s y)
put-dual s (disj p x y) = ap₂ (conj (other_polarity p)) (put-dual s x) (put-dual s y)
put-dual s (implies x y) = ap₂ implies (put-dual s x) (put-dual s y)
put-dual s (for_all x) = ap exists (put-dual s x)
put-dual s (exists x) = ap for_all (put-dual s x)

pub put-polarity : (s : ℕ → Term) (f : Formula) → polarity_of (put_formula s f) ≡ polarity_of f
put-polarity s (truth p) = refl
put-polarity s (falsity p) = refl
put-polarity s (atom q f ts) = refl
put-polarity s (conj p x y) = refl
put-polarity s (disj p x y) = refl
put-polarity s (implies x y) = refl
put-polarity s (for_all x) = refl
put-polarity s (exists x) = refl

-- the leaves where an index is opened
module _ (e b b' v : ℕ → Type 0) (k : ℕ) (t : Term) (ht : Each e b' v t)
    (hb : (m : ℕ) → m ≢ k → b m → b' m) where
  mutual
    each_open : (u : Term) → Each e b v u → Each e b' v (open_term k t u)
    each_open (eigen n) h = h
    each_open (bound m) h = by_test (nat_eq m k) refl
      where
        by_test : (c : Bool) → nat_eq m k ≡ c → Each e b' v (if c then t else bound m)
        by_test true q = ht
        by_test false q = hb m (λ same. grind (arith, nat_tests, q, same)) h
    each_open (variable n) h = h
    each_open (app f ts) h = each_arg_open ts h

    each_arg_open : (ts : Args) → EachArg e b v ts → EachArg e b' v (open_args k t ts)
    each_arg_open no_args h = tt
    each_arg_open (arg u us) h = (each_open u h.0, each_arg_open us h.1)

module _ (e : ℕ → Type 0) (b b' : ℕ → ℕ → Type 0) (v : ℕ → Type 0) (t : Term)
    (ht : (d : ℕ) → Each e (b' d) v t) (hb : (d m : ℕ) → m ≢ d → b (suc d) m → b' d m) where
  inside_open : (d : ℕ) (f : Formula) → EachInside e b v (suc d) f
      → EachInside e b' v d (open_at d t f)
  inside_open d (truth p) h = tt
  inside_open d (falsity p) h = tt
  inside_open d (atom q f ts) h = each_arg_open e (b (suc d)) (b' d) v d t (ht d) (hb d) ts h
  inside_open d (conj p x y) h = (inside_open d x h.0, inside_open d y h.1)
  inside_open d (disj p x y) h = (inside_open d x h.0, inside_open d y h.1)
  inside_open d (implies x y) h = (inside_open d x h.0, inside_open d y h.1)
  inside_open d (for_all x) h = inside_open (suc d) x h
  inside_open d (exists x) h = inside_open (suc d) x h

-- a quantifier's body opened is open, and in scope
pub open_opened : (m : ℕ) (t : Term) (a : Formula) → IsOpen m t
    → EachInside Always AnyBound (λ v. v < m) 1 a → IsOpenFormula m (open_at 0 t a)
open_opened m t a ht h =
    inside_open Always AnyBound AnyBound (λ v. v < m) t
    (λ d. each_more Always Never (λ v. v < m) Always (AnyBound d) (λ v. v < m) (λ j q. q)
    (λ j q. tt)
    (λ j q. q) t ht) (λ d j ne y. tt) 0 a h

pub scoped_opened : (levels : List Level) (n : ℕ) (t : Term) (a : Formula)
    → IsOpenAt levels (Some n) t
    → EachInside (λ m. m < n) Tied (λ v. IsAtMost (level_of levels v) (Some n)) 1 a
    → IsScopedFormula levels n (open_at 0 t a)
scoped_opened levels n t a ht h =
    inside_open (λ m. m < n) Tied Tied (λ v. IsAtMost (level_of levels v) (Some n)) t
    (λ d. each_more (λ m. m < n) Never (λ v. IsAtMost (level_of levels v) (Some n)) (λ m. m < n)
    (Tied d)
    (λ v. IsAtMost (level_of levels v) (Some n)) (λ j q. q) (λ j q. absurd q) (λ j q. q) t ht)
    (λ d j ne y. omega (arith, ne, y)) 0 a h

-- the leaves of the dual are those of the formula
module _ (e : ℕ → Type 0) (b : ℕ → ℕ → Type 0) (v : ℕ → Type 0) where
  pub inside_dual : (d : ℕ) (f : Formula) → EachInside e b v d f → EachInside e b v d (dual_of f)
  inside_dual d (truth p) h = tt
  inside_dual d (falsity p) h = tt
  inside_dual d (atom q f ts) h = h
  inside_dual d (conj p x y) h = (inside_dual d x h.0, inside_dual d y h.1)
  inside_dual d (disj p x y) h = (inside_dual d x h.0, inside_dual d y h.1)
  inside_dual d (implies x y) h = (inside_dual d x h.0, inside_dual d y h.1)
  inside_dual d (for_all x) h = inside_dual (suc d) x h
  inside_dual d (exists x) h = inside_dual (suc d) x h

-- what is in scope at a level is so at the next one
pub scoped_up : (levels : List Level) (n d : ℕ) (f : Formula)
    → EachInside (λ m. m < n) Tied (λ v. IsAtMost (level_of levels v) (Some n)) d f
    → EachInside (λ m. m < suc n) Tied (λ v. IsAtMost (level_of levels v) (Some (suc n))) d f
scoped_up levels n d f h =
    inside_more (λ m. m < n) Tied (λ v. IsAtMost (level_of levels v) (Some n)) (λ m. m < suc n) Tied
    (λ v. IsAtMost (level_of levels v) (Some (suc n))) (λ m l. omega (arith, l)) (λ k m a. a)
    (λ v q. at_most_trans (level_of levels v) (Some n) (Some (suc n)) q (omega arith)) d f h

-- terms for variables leave a formula as deep as it is
pub depth-put : (s : ℕ → Term) (f : Formula) → depth_of (put_formula s f) ≡ depth_of f
depth-put s (truth p) = refl
depth-put s (falsity p) = refl
depth-put s (atom b f ts) = refl
depth-put s (conj p x y) = ap₂ (λ m n. suc (max m n)) (depth-put s x) (depth-put s y)
depth-put s (disj p x y) = ap₂ (λ m n. suc (max m n)) (depth-put s x) (depth-put s y)
depth-put s (implies x y) = ap₂ (λ m n. suc (max m n)) (depth-put s x) (depth-put s y)
depth-put s (for_all x) = ap suc (depth-put s x)
depth-put s (exists x) = ap suc (depth-put s x)
