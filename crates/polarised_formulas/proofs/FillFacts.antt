-- Filling commutes with duals, parts and opening.
use Rattle.std.proofs.lemmas.Bool.{lt-ltb, le-ltb, eq-eqb}
use Rattle.std.proofs.lemmas.Bool.Decides.{nat_tests}
use Rattle.std.proofs.Common.{◌≡◌, ℕ, ◌<◌, ◌≤◌, ◌+◌, ◌-◌, List, [], ◌∷◌, get_or, refl, ap, sym, arith, map, ◌⊎◌, ⊎_elim, subst}
use Rattle.std.specs.Prelude.{Bool, true, false, not, suc, zero, nat_eq, nat_lt, if◌then◌else◌, Some}
use Rattle.fpc_terms.specs.Term.{Term, Args, eigen, bound, variable, app, no_args, arg, count, open_term, open_args, Each, EachArg, Always, Never}
use Rattle.polarised_formulas.specs.Formula.{Formula, truth, falsity, atom, conj, disj, implies, for_all, exists, root_node, dual_of, open_at, opened, EachInside, Tied}
use Rattle.polarised_formulas.specs.Nodes.{node_dual}
use Rattle.polarised_formulas.specs.Closure.{fill_term, fill_args, fill, marked, marked_node, Closure, stands_for, NoneBound, dual_closure, opened_by, at_part, IsReached}
use Rattle.polarised_formulas.specs.Parts.{left_of, right_of, body_of, IsQuantified}
use Rattle.polarised_formulas.specs.Held.{AreUnbound}
use Rattle.polarised_formulas.proofs.DualFacts.{dual_of-twice}

pub count-fill : (os ps : List Term) (d : ℕ) (ts : Args) → count (fill_args os ps d ts) ≡ count ts
count-fill os ps d no_args = refl
count-fill os ps d (arg t ts) = ap suc (count-fill os ps d ts)

pub root-fill : (os ps : List Term) (d : ℕ) (f : Formula) → root_node (fill os ps d f) ≡ root_node f
root-fill os ps d (truth p) = refl
root-fill os ps d (falsity p) = refl
root-fill os ps d (atom positive name ts) = rw (count-fill os ps d ts)
root-fill os ps d (conj p a b) = refl
root-fill os ps d (disj p a b) = refl
root-fill os ps d (implies a b) = refl
root-fill os ps d (for_all a) = refl
root-fill os ps d (exists a) = refl

pub root-dual : (f : Formula) → root_node (dual_of f) ≡ node_dual (root_node f)
root-dual (truth p) = refl
root-dual (falsity p) = refl
root-dual (atom positive name ts) = refl
root-dual (conj p a b) = refl
root-dual (disj p a b) = refl
root-dual (implies a b) = refl
root-dual (for_all a) = refl
root-dual (exists a) = refl

pub root-marked : (b : Bool) (f : Formula) → root_node (marked b f) ≡ marked_node b (root_node f)
root-marked true f = root-dual f
root-marked false f = refl

pub open-dual : (k : ℕ) (t : Term) (f : Formula) → open_at k t (dual_of f) ≡ dual_of (open_at k t f)
open-dual k t (truth p) = refl
open-dual k t (falsity p) = refl
open-dual k t (atom positive name ts) = refl
open-dual k t (conj p a b) = rw (open-dual k t a, open-dual k t b)
open-dual k t (disj p a b) = rw (open-dual k t a, open-dual k t b)
open-dual k t (implies a b) = rw (open-dual k t a, open-dual k t b)
open-dual k t (for_all a) = rw (open-dual (suc k) t a)
open-dual k t (exists a) = rw (open-dual (suc k) t a)

-- a term without bound indexes stays
mutual
  pub open-none : (k : ℕ) (t s : Term) → Each Always Never Always s → open_term k t s ≡ s
  open-none k t (eigen n) h = refl
  open-none k t (bound j) h = absurd h
  open-none k t (variable n) h = refl
  open-none k t (app f ts) h = rw (opens-none k t ts h)

  pub opens-none : (k : ℕ) (t : Term) (ts : Args) → EachArg Always Never Always ts → open_args k t ts ≡ ts
  opens-none k t no_args h = refl
  opens-none k t (arg s ts) h = rw (open-none k t s h.0, opens-none k t ts h.1)

pub unbound-get : (ts : List Term) (i : ℕ) → AreUnbound ts → Each Always Never Always (get_or ts i (eigen 0))
unbound-get [] i h = tt
unbound-get (t ∷ ts) zero h = h.0
unbound-get (t ∷ ts) (suc i) h = unbound-get ts i h.1

three : (k d : ℕ) → (k < d) ⊎ ((k ≡ d) ⊎ (d < k))
three k d = grind (arith, nat_tests)

below-eqb : (k d : ℕ) → k < d → nat_eq k d ≡ false
below-eqb k d h = grind (arith, nat_tests)

-- what an index becomes under d quantifiers
abbrev pub index : List Term → ℕ → ℕ → Term
index os d k = if nat_lt k d then bound k else get_or os (k - d) (eigen 0)

index-low : (os : List Term) (d k : ℕ) → k < d → index os d k ≡ bound k
index-low os d k h = rw (lt-ltb k d h)

index-high : (os : List Term) (d k : ℕ) → d ≤ k → index os d k ≡ get_or os (k - d) (eigen 0)
index-high os d k h = rw (le-ltb k d h)

open-low : (os : List Term) (t : Term) (d k : ℕ) → k < d → open_term d t (index os (suc d) k) ≡ index (t ∷ os) d k
open-low os t d k h = rw (index-low os (suc d) k (omega arith), index-low (t ∷ os) d k h, below-eqb k d h)

open-same : (os : List Term) (t : Term) (d : ℕ) → open_term d t (index os (suc d) d) ≡ index (t ∷ os) d d
open-same os t d =
    let z : d - d ≡ 0 = omega arith in rw (index-low os (suc d) d (omega arith), index-high (t ∷ os) d d (omega arith), eq-eqb d d refl, z)

open-high : (os : List Term) (t : Term) (d k : ℕ) → AreUnbound os → d < k → open_term d t (index os (suc d) k) ≡ index (t ∷ os) d k
open-high os t d k u h =
    let z : k - d ≡ suc (k - suc d) = omega arith in
    rw (index-high os (suc d) k h, index-high (t ∷ os) d k (omega arith), z) (open-none d t (get_or os (k - suc d) (eigen 0)) (unbound-get os (k - suc d) u))

pub open-index : (os : List Term) (t : Term) (d k : ℕ) → AreUnbound os → open_term d t (index os (suc d) k) ≡ index (t ∷ os) d k
open-index os t d k u =
    ⊎_elim (λ (h : k < d). open-low os t d k h)
    (⊎_elim (λ (e : k ≡ d). subst (λ (j : ℕ). open_term d t (index os (suc d) j) ≡ index (t ∷ os) d j) (sym e) (open-same os t d)) (λ (h : d < k). open-high os t d k u h))
    (three k d)

-- the terms of the parameters have no bound index
mutual
  pub open-fill_term : (os ps : List Term) (t : Term) (d : ℕ) (s : Term) → AreUnbound os → AreUnbound ps → open_term d t (fill_term os ps (suc d) s) ≡ fill_term (t ∷ os) ps d s
  open-fill_term os ps t d (eigen n) u v = refl
  open-fill_term os ps t d (bound k) u v = open-index os t d k u
  open-fill_term os ps t d (variable n) u v = open-none d t (get_or ps n (eigen 0)) (unbound-get ps n v)
  open-fill_term os ps t d (app f ts) u v = rw (open-fill_args os ps t d ts u v)

  pub open-fill_args : (os ps : List Term) (t : Term) (d : ℕ) (ts : Args) → AreUnbound os → AreUnbound ps → open_args d t (fill_args os ps (suc d) ts) ≡ fill_args (t ∷ os) ps d ts
  open-fill_args os ps t d no_args u v = refl
  open-fill_args os ps t d (arg s ts) u v = rw (open-fill_term os ps t d s u v, open-fill_args os ps t d ts u v)

pub open-fill : (os ps : List Term) (t : Term) (d : ℕ) (f : Formula) → AreUnbound os → AreUnbound ps → open_at d t (fill os ps (suc d) f) ≡ fill (t ∷ os) ps d f
open-fill os ps t d (truth p) u v = refl
open-fill os ps t d (falsity p) u v = refl
open-fill os ps t d (atom positive name ts) u v = rw (open-fill_args os ps t d ts u v)
open-fill os ps t d (conj p a b) u v = rw (open-fill os ps t d a u v, open-fill os ps t d b u v)
open-fill os ps t d (disj p a b) u v = rw (open-fill os ps t d a u v, open-fill os ps t d b u v)
open-fill os ps t d (implies a b) u v = rw (open-fill os ps t d a u v, open-fill os ps t d b u v)
open-fill os ps t d (for_all a) u v = rw (open-fill os ps t (suc d) a u v)
open-fill os ps t d (exists a) u v = rw (open-fill os ps t (suc d) a u v)

pub dual-marked : (b : Bool) (f : Formula) → marked (not b) f ≡ dual_of (marked b f)
dual-marked true f = sym (dual_of-twice f)
dual-marked false f = refl

left-dual : (f : Formula) → left_of (dual_of f) ≡ dual_of (left_of f)
left-dual (truth p) = refl
left-dual (falsity p) = refl
left-dual (atom positive name ts) = refl
left-dual (conj p a b) = refl
left-dual (disj p a b) = refl
left-dual (implies a b) = refl
left-dual (for_all a) = refl
left-dual (exists a) = refl

left-marked : (b : Bool) (f : Formula) → left_of (marked b f) ≡ marked b (left_of f)
left-marked true f = left-dual f
left-marked false f = refl

left-fill : (os ps : List Term) (f : Formula) → left_of (fill os ps 0 f) ≡ fill os ps 0 (left_of f)
left-fill os ps (truth p) = refl
left-fill os ps (falsity p) = refl
left-fill os ps (atom positive name ts) = refl
left-fill os ps (conj p a b) = refl
left-fill os ps (disj p a b) = refl
left-fill os ps (implies a b) = refl
left-fill os ps (for_all a) = refl
left-fill os ps (exists a) = refl

right-dual : (f : Formula) → right_of (dual_of f) ≡ dual_of (right_of f)
right-dual (truth p) = refl
right-dual (falsity p) = refl
right-dual (atom positive name ts) = refl
right-dual (conj p a b) = refl
right-dual (disj p a b) = refl
right-dual (implies a b) = refl
right-dual (for_all a) = refl
right-dual (exists a) = refl

right-marked : (b : Bool) (f : Formula) → right_of (marked b f) ≡ marked b (right_of f)
right-marked true f = right-dual f
right-marked false f = refl

right-fill : (os ps : List Term) (f : Formula) → right_of (fill os ps 0 f) ≡ fill os ps 0 (right_of f)
right-fill os ps (truth p) = refl
right-fill os ps (falsity p) = refl
right-fill os ps (atom positive name ts) = refl
right-fill os ps (conj p a b) = refl
right-fill os ps (disj p a b) = refl
right-fill os ps (implies a b) = refl
right-fill os ps (for_all a) = refl
right-fill os ps (exists a) = refl

-- opening through the mark
open-marked-all : (b : Bool) (t : Term) (f : Formula) → opened t (marked b (for_all f)) ≡ Some (marked b (open_at 0 t f))
open-marked-all true t f = rw (open-dual 0 t f)
open-marked-all false t f = refl

open-marked-some : (b : Bool) (t : Term) (f : Formula) → opened t (marked b (exists f)) ≡ Some (marked b (open_at 0 t f))
open-marked-some true t f = rw (open-dual 0 t f)
open-marked-some false t f = refl

open-body : (b : Bool) (os ps : List Term) (t : Term) (f : Formula) → AreUnbound os → AreUnbound ps → IsQuantified f →
    opened t (marked b (fill os ps 0 f)) ≡ Some (marked b (fill (t ∷ os) ps 0 (body_of f)))
open-body b os ps t (truth p) u v h = absurd h
open-body b os ps t (falsity p) u v h = absurd h
open-body b os ps t (atom positive name ts) u v h = absurd h
open-body b os ps t (conj p x y) u v h = absurd h
open-body b os ps t (disj p x y) u v h = absurd h
open-body b os ps t (implies x y) u v h = absurd h
open-body b os ps t (for_all a) u v h = rw (open-marked-all b t (fill os ps 1 a), open-fill os ps t 0 a u v)
open-body b os ps t (exists a) u v h = rw (open-marked-some b t (fill os ps 1 a), open-fill os ps t 0 a u v)

module _ {R : Type 0} where
  pub map-unbound : (ref : R → Term) (rs : List R) → NoneBound ref → AreUnbound (map ref rs)
  map-unbound ref [] h = tt
  map-unbound ref (r ∷ rs) h = (h r, map-unbound ref rs h)

  pub stands-root : (ref : R → Term) (c : Closure R) → root_node (stands_for ref c) ≡ marked_node c.is_dual (root_node c.part)
  stands-root ref c = rw (root-marked c.is_dual (fill (map ref c.opened) (map ref c.parameters) 0 c.part), root-fill (map ref c.opened) (map ref c.parameters) 0 c.part)

  pub stands-left : (ref : R → Term) (c : Closure R) → stands_for ref (at_part c (left_of c.part)) ≡ left_of (stands_for ref c)
  stands-left ref c = rw (left-marked c.is_dual (fill (map ref c.opened) (map ref c.parameters) 0 c.part), left-fill (map ref c.opened) (map ref c.parameters) c.part)

  pub stands-right : (ref : R → Term) (c : Closure R) → stands_for ref (at_part c (right_of c.part)) ≡ right_of (stands_for ref c)
  stands-right ref c = rw (right-marked c.is_dual (fill (map ref c.opened) (map ref c.parameters) 0 c.part), right-fill (map ref c.opened) (map ref c.parameters) c.part)

  pub stands-dual : (ref : R → Term) (c : Closure R) → stands_for ref (dual_closure c) ≡ dual_of (stands_for ref c)
  stands-dual ref c = dual-marked c.is_dual (fill (map ref c.opened) (map ref c.parameters) 0 c.part)

  pub stands-opened : (ref : R → Term) (r : R) (c : Closure R) → NoneBound ref → IsQuantified c.part →
      opened (ref r) (stands_for ref c) ≡ Some (stands_for ref (opened_by r c (body_of c.part)))
  stands-opened ref r c h q = open-body c.is_dual (map ref c.opened) (map ref c.parameters) (ref r) c.part (map-unbound ref c.opened h) (map-unbound ref c.parameters h) q

-- a formula without variables and free bound indexes stays
mutual
  closed-term : (e : ℕ → Type 0) (os ps : List Term) (d : ℕ) (t : Term) → Each e (Tied d) Never t → fill_term os ps d t ≡ t
  closed-term e os ps d (eigen n) h = refl
  closed-term e os ps d (bound k) h = index-low os d k h
  closed-term e os ps d (variable v) h = absurd h
  closed-term e os ps d (app f ts) h = rw (closed-args e os ps d ts h)

  closed-args : (e : ℕ → Type 0) (os ps : List Term) (d : ℕ) (ts : Args) → EachArg e (Tied d) Never ts → fill_args os ps d ts ≡ ts
  closed-args e os ps d no_args h = refl
  closed-args e os ps d (arg t ts) h = rw (closed-term e os ps d t h.0, closed-args e os ps d ts h.1)

pub fill-closed : (e : ℕ → Type 0) (os ps : List Term) (d : ℕ) (f : Formula) → EachInside e Tied Never d f → fill os ps d f ≡ f
fill-closed e os ps d (truth p) h = refl
fill-closed e os ps d (falsity p) h = refl
fill-closed e os ps d (atom positive name ts) h = rw (closed-args e os ps d ts h)
fill-closed e os ps d (conj p a b) h = rw (fill-closed e os ps d a h.0, fill-closed e os ps d b h.1)
fill-closed e os ps d (disj p a b) h = rw (fill-closed e os ps d a h.0, fill-closed e os ps d b h.1)
fill-closed e os ps d (implies a b) h = rw (fill-closed e os ps d a h.0, fill-closed e os ps d b h.1)
fill-closed e os ps d (for_all a) h = rw (fill-closed e os ps (suc d) a h)
fill-closed e os ps d (exists a) h = rw (fill-closed e os ps (suc d) a h)

-- and may be made a closure without parameters
mutual
  reached-term : (e : ℕ → Type 0) (p d : ℕ) (t : Term) → Each e (Tied d) Never t → Each Always (λ k. k < d + 0) (λ v. v < p) t
  reached-term e p d (eigen n) h = tt
  reached-term e p d (bound k) h = omega arith
  reached-term e p d (variable v) h = absurd h
  reached-term e p d (app f ts) h = reached-args e p d ts h

  reached-args : (e : ℕ → Type 0) (p d : ℕ) (ts : Args) → EachArg e (Tied d) Never ts → EachArg Always (λ k. k < d + 0) (λ v. v < p) ts
  reached-args e p d no_args h = tt
  reached-args e p d (arg t ts) h = (reached-term e p d t h.0, reached-args e p d ts h.1)

pub closed-reached : (e : ℕ → Type 0) (p d : ℕ) (f : Formula) → EachInside e Tied Never d f → IsReached 0 p d f
closed-reached e p d (truth q) h = tt
closed-reached e p d (falsity q) h = tt
closed-reached e p d (atom positive name ts) h = reached-args e p d ts h
closed-reached e p d (conj q a b) h = (closed-reached e p d a h.0, closed-reached e p d b h.1)
closed-reached e p d (disj q a b) h = (closed-reached e p d a h.0, closed-reached e p d b h.1)
closed-reached e p d (implies a b) h = (closed-reached e p d a h.0, closed-reached e p d b h.1)
closed-reached e p d (for_all a) h = closed-reached e p (suc d) a h
closed-reached e p d (exists a) h = closed-reached e p (suc d) a h
