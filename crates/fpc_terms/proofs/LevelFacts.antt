-- Facts of levels: what a walk passed is in scope, what is bound lowers levels, and what closes them.
use Rattle.std.proofs.Common.{◌≡◌, ◌≢◌, ℕ, suc, ◌+◌, ◌<◌, Bool, true, false, nat_eq, List, ◌++◌, length, replicate, set, Some, None, refl, sym, ap, subst, ◌∙◌, arith, inl, inr}
use Rattle.std.proofs.Math.Nat.{min-le_left, min-le_right}
use Rattle.std.proofs.lemmas.Bool.{cases_Bool, cases_lt, eqb-true, eqb-false, ne_eqb, leb-false, lt-leb}
use Rattle.std.proofs.lemmas.List.{length-set, length-replicate, get_or-set_same, get_or-set_other, get_or-replicate, get_or_append_left, get_or_past}
use Rattle.fpc_terms.specs.Term.{Term, Args, eigen, bound, variable, app, no_args, arg, put, put_all, Each, EachArg, Always, Never, InScope}
use Rattle.fpc_terms.specs.Open.{IsOpen, constant, Level, level_of, lower, IsAtMost, lower_in, lower_in_args, IsScopedAt, IsClosing}
use Rattle.fpc_terms.specs.Equality.{walk, is_out_of_scope, has_level, unless, walked_node}
use Rattle.fpc_terms.proofs.PutFacts.{each_more}
use Rattle.fpc_terms.proofs.EqualityFacts.{WalksNoVariable}

-- a walk for the variable v of level l passed the term
abbrev pub IsPassed : ℕ → Level → Term → Type 0
IsPassed v l t = Each (λ m. is_out_of_scope l m ≡ false) (λ k. has_level l ≡ false) (λ n. n ≢ v) t

abbrev pub ArePassed : ℕ → Level → Args → Type 0
ArePassed v l ts = EachArg (λ m. is_out_of_scope l m ≡ false) (λ k. has_level l ≡ false) (λ n. n ≢ v) ts

unless_some : (b : Bool) (ts ys : Args) → unless b ts ≡ Some ys → b ≡ false
unless_some true ts ys h = absurd (cc)
unless_some false ts ys h = refl

-- a node is passed, if its arguments are
pub passed_node : (v : ℕ) (l : Level) (x : Term) (ys : Args) → walked_node v l x ≡ Some ys → ArePassed v l ys → IsPassed v l x
passed_node v l (eigen m) ys is h = unless_some (is_out_of_scope l m) no_args ys is
passed_node v l (bound k) ys is h = unless_some (has_level l) no_args ys is
passed_node v l (variable n) ys is h = eqb-false n v (unless_some (nat_eq n v) no_args ys is)
passed_node v l (app f ts) ys is h = let e : ts ≡ ys = cc in subst (ArePassed v l) (sym e) h

-- the walk goes on from a node that is passed to arguments that are
pub node_passed : (v : ℕ) (l : Level) (x : Term) → IsPassed v l x → (ys : Args) × (walked_node v l x ≡ Some ys) × ArePassed v l ys
node_passed v l (eigen m) h = (no_args, ap (λ b. unless b no_args) h, tt)
node_passed v l (bound k) h = (no_args, ap (λ b. unless b no_args) h, tt)
node_passed v l (variable n) h = (no_args, ap (λ b. unless b no_args) (ne_eqb n v h), tt)
node_passed v l (app f ts) h = (ts, refl, h)

-- the order of levels
pub at_most_itself : (a : Level) → IsAtMost a a
at_most_itself None = tt
at_most_itself (Some k) = omega arith

pub at_most_trans : (a b c : Level) → IsAtMost a b → IsAtMost b c → IsAtMost a c
at_most_trans None b None h k = tt
at_most_trans (Some i) b None h k = tt
at_most_trans a None (Some j) h k = absurd k
at_most_trans None (Some i) (Some j) h k = absurd h
at_most_trans (Some g) (Some i) (Some j) h k = omega arith

lower_first : (a b : Level) → IsAtMost (lower a b) a
lower_first None None = tt
lower_first None (Some b) = tt
lower_first (Some a) None = omega arith
lower_first (Some a) (Some b) = min-le_left a b

lower_second : (a b : Level) → IsAtMost (lower a b) b
lower_second None b = at_most_itself b
lower_second (Some a) None = tt
lower_second (Some a) (Some b) = min-le_right a b

-- what is in scope at a level is in scope at a level above
pub scoped_more : (a b : Level) (t : Term) → IsAtMost a b → IsScopedAt a t → IsScopedAt b t
scoped_more a None t le h = tt
scoped_more None (Some k) t le h = absurd le
scoped_more (Some j) (Some k) t le h = each_more (λ m. m < j) Never Never (λ m. m < k) Never Never (λ m lt. omega arith) (λ n a. a) (λ n a. a) t h

-- lowering keeps the number of levels
mutual
  pub length-lower_in : (l : Level) (t : Term) (levels : List Level) → length (lower_in l t levels) ≡ length levels
  length-lower_in l (eigen m) levels = refl
  length-lower_in l (bound k) levels = refl
  length-lower_in l (variable n) levels = length-set levels n (lower l (level_of levels n))
  length-lower_in l (app f ts) levels = length-lower_in_args l ts levels

  pub length-lower_in_args : (l : Level) (ts : Args) (levels : List Level) → length (lower_in_args l ts levels) ≡ length levels
  length-lower_in_args l no_args levels = refl
  length-lower_in_args l (arg t ts) levels = length-lower_in_args l ts (lower_in l t levels) ∙ length-lower_in l t levels

-- open arguments
abbrev AreOpenArgs : ℕ → Args → Type 0
AreOpenArgs k ts = EachArg Always Never (λ n. n < k) ts

still_open : (l : Level) (t : Term) (ts : Args) (levels : List Level) → AreOpenArgs (length levels) ts → AreOpenArgs (length (lower_in l t levels)) ts
still_open l t ts levels h = subst (λ k. AreOpenArgs k ts) (sym (length-lower_in l t levels)) h

set_at_most : (l : Level) (v : ℕ) (levels : List Level) → v < length levels
    → (n : ℕ) → IsAtMost (level_of (set levels v (lower l (level_of levels v))) n) (level_of levels n)
set_at_most l v levels within n =
    elim (cases_Bool (nat_eq n v)) [
      | inl here ↦ subst (λ k. IsAtMost (level_of (set levels v (lower l (level_of levels v))) k) (level_of levels k)) (sym (eqb-true n v here))
          (subst (λ a. IsAtMost a (level_of levels v)) (sym (get_or-set_same levels v (lower l (level_of levels v)) None within)) (lower_second l (level_of levels v)))
      | inr elsewhere ↦ subst (λ a. IsAtMost a (level_of levels n)) (sym (get_or-set_other levels v n (lower l (level_of levels v)) None (eqb-false n v elsewhere)))
          (at_most_itself (level_of levels n))
    ]

-- lowering raises no level
mutual
  pub lowered_at_most : (l : Level) (t : Term) (levels : List Level) → IsOpen (length levels) t → (n : ℕ) → IsAtMost (level_of (lower_in l t levels) n) (level_of levels n)
  lowered_at_most l (eigen m) levels h n = at_most_itself (level_of levels n)
  lowered_at_most l (bound k) levels h n = at_most_itself (level_of levels n)
  lowered_at_most l (variable v) levels h n = set_at_most l v levels h n
  lowered_at_most l (app f ts) levels h n = lowered_args_at_most l ts levels h n

  pub lowered_args_at_most : (l : Level) (ts : Args) (levels : List Level) → AreOpenArgs (length levels) ts
      → (n : ℕ) → IsAtMost (level_of (lower_in_args l ts levels) n) (level_of levels n)
  lowered_args_at_most l no_args levels h n = at_most_itself (level_of levels n)
  lowered_args_at_most l (arg t ts) levels h n =
      at_most_trans (level_of (lower_in_args l ts (lower_in l t levels)) n) (level_of (lower_in l t levels) n) (level_of levels n)
      (lowered_args_at_most l ts (lower_in l t levels) (still_open l t ts levels h.1) n) (lowered_at_most l t levels h.0 n)

-- and leaves the variables of the term at most at the level
mutual
  pub lowered_below : (l : Level) (t : Term) (levels : List Level) → IsOpen (length levels) t → Each Always Never (λ n. IsAtMost (level_of (lower_in l t levels) n) l) t
  lowered_below l (eigen m) levels h = tt
  lowered_below l (bound k) levels h = h
  lowered_below l (variable v) levels h =
      subst (λ a. IsAtMost a l) (sym (get_or-set_same levels v (lower l (level_of levels v)) None h)) (lower_first l (level_of levels v))
  lowered_below l (app f ts) levels h = lowered_args_below l ts levels h

  pub lowered_args_below : (l : Level) (ts : Args) (levels : List Level) → AreOpenArgs (length levels) ts
      → EachArg Always Never (λ n. IsAtMost (level_of (lower_in_args l ts levels) n) l) ts
  lowered_args_below l no_args levels h = tt
  lowered_args_below l (arg t ts) levels h =
      let after : List Level = lower_in l t levels in
      let are_open : AreOpenArgs (length after) ts = still_open l t ts levels h.1 in (
        each_more Always Never (λ n. IsAtMost (level_of after n) l) Always Never (λ n. IsAtMost (level_of (lower_in_args l ts after) n) l) (λ n a. a) (λ n a. a)
            (λ n le. at_most_trans (level_of (lower_in_args l ts after) n) (level_of after n) l (lowered_args_at_most l ts after are_open n) le) t (lowered_below l t levels h.0),
        lowered_args_below l ts after are_open,
      )

-- what a walk passed is in scope, where its variables are
module _ (v l : ℕ) (s : ℕ → Term) where
  mutual
    passed_in_scope : (t : Term) → IsPassed v (Some l) t → Each Always Never (λ n. InScope l (s n)) t → InScope l (put s t)
    passed_in_scope (eigen m) h k = leb-false l m h
    passed_in_scope (bound j) h k = k
    passed_in_scope (variable n) h k = k
    passed_in_scope (app f ts) h k = passed_args_in_scope ts h k

    passed_args_in_scope : (ts : Args) → ArePassed v (Some l) ts → EachArg Always Never (λ n. InScope l (s n)) ts → EachArg (λ m. m < l) Never Never (put_all s ts)
    passed_args_in_scope no_args h k = tt
    passed_args_in_scope (arg t ts) h k = (passed_in_scope t h.0 k.0, passed_args_in_scope ts h.1 k.1)

pub passed_scoped : (v : ℕ) (l : Level) (s : ℕ → Term) (t : Term) → IsPassed v l t → Each Always Never (λ n. IsScopedAt l (s n)) t → IsScopedAt l (put s t)
passed_scoped v None s t h k = tt
passed_scoped v (Some l) s t h k = passed_in_scope v l s t h k

-- new variables have no level
pub level_of-none : (m n : ℕ) → level_of (replicate m None) n ≡ None
level_of-none m n =
    elim (cases_lt n m) [
      | inl within ↦ get_or-replicate m n None None within
      | inr past ↦ get_or_past (replicate m None) n None (omega (arith, length-replicate {A = Level} m None))
    ]

-- a constant for each variable closes all levels
pub closing_constant : (name : ℕ) (levels : List Level) → IsClosing levels (constant name)
closing_constant name levels = record { ground = λ n. tt; in_scope = λ n. at_level n (level_of levels n) }
  where
    at_level : (n : ℕ) (l : Level) → IsScopedAt l (constant name n)
    at_level n None = tt
    at_level n (Some k) = tt

-- what closes levels closes the first of them
pub closing_fewer : (levels more : List Level) (s : ℕ → Term) → IsClosing (levels ++ more) s → IsClosing levels s
closing_fewer levels more s h = record { ground = h.ground; in_scope = in_scope_at }
  where
    in_scope_at : (n : ℕ) → IsScopedAt (level_of levels n) (s n)
    in_scope_at n =
        elim (cases_lt n (length levels)) [
          | inl within ↦ subst (λ l. IsScopedAt l (s n)) (get_or_append_left levels more None n within) (h.in_scope n)
          | inr past ↦ subst (λ l. IsScopedAt l (s n)) (sym (get_or_past levels n None past)) tt
        ]

abbrev mutual
  -- how many leaves and names the term has
  pub term_size : Term → ℕ
  term_size (eigen m) = 1
  term_size (bound k) = 1
  term_size (variable n) = 1
  term_size (app f ts) = suc (args_size ts)

  pub args_size : Args → ℕ
  args_size no_args = 0
  args_size (arg t ts) = term_size t + args_size ts

-- the leaves of the term are in scope at the level
abbrev IsNotOut : Level → Term → Type 0
IsNotOut l t = Each (λ m. is_out_of_scope l m ≡ false) (λ k. has_level l ≡ false) Always t

abbrev AreNotOut : Level → Args → Type 0
AreNotOut l ts = EachArg (λ m. is_out_of_scope l m ≡ false) (λ k. has_level l ≡ false) Always ts

mutual
  none_out : (t : Term) → IsNotOut None t
  none_out (eigen m) = refl
  none_out (bound k) = refl
  none_out (variable n) = tt
  none_out (app f ts) = none_out_args ts

  none_out_args : (ts : Args) → AreNotOut None ts
  none_out_args no_args = tt
  none_out_args (arg t ts) = (none_out t, none_out_args ts)

scoped_not_out : (l : Level) (t : Term) → IsScopedAt l t → IsNotOut l t
scoped_not_out None t h = none_out t
scoped_not_out (Some l) t h =
    each_more (λ m. m < l) Never Never (λ m. is_out_of_scope (Some l) m ≡ false) (λ k. has_level (Some l) ≡ false) Always
    (λ m lt. lt-leb l m lt) (λ k never. absurd never) (λ n never. tt) t h

-- A walk passes what the substitution puts into something in scope that is smaller than what it puts for v.
module _ (v : ℕ) (l : Level) (s : ℕ → Term) where
  mutual
    smaller_passed : (t : Term) → IsNotOut l (put s t) → term_size (put s t) < term_size (s v) → IsPassed v l t
    smaller_passed (eigen m) h lt = h
    smaller_passed (bound k) h lt = h
    smaller_passed (variable n) h lt = λ e. let longer : term_size (s n) ≡ term_size (s v) = ap (λ k. term_size (s k)) e in omega (arith, longer)
    smaller_passed (app f ts) h lt = smaller_args_passed ts h (omega arith)

    smaller_args_passed : (ts : Args) → AreNotOut l (put_all s ts) → args_size (put_all s ts) < term_size (s v) → ArePassed v l ts
    smaller_args_passed no_args h lt = tt
    smaller_args_passed (arg t ts) h lt = (smaller_passed t h.0 (omega arith), smaller_args_passed ts h.1 (omega arith))

-- a walk passes a term other than a variable that a substitution makes equal to the variable, where that is in scope
pub walk_passed : (v : ℕ) (l : Level) (s : ℕ → Term) (t : Term) → s v ≡ put s t → WalksNoVariable (walk v t) → IsScopedAt l (s v) → IsPassed v l t
walk_passed v l s t equal walks h = by t equal walks (subst (IsNotOut l) equal (scoped_not_out l (s v) h))
  where
    by : (t : Term) → s v ≡ put s t → WalksNoVariable (walk v t) → IsNotOut l (put s t) → IsPassed v l t
    by (eigen m) e w k = k
    by (bound j) e w k = k
    by (variable n) e w k = absurd w
    by (app f ts) e w k = let size : term_size (s v) ≡ suc (args_size (put_all s ts)) = ap term_size e in smaller_args_passed v l s ts k (omega (arith, size))
