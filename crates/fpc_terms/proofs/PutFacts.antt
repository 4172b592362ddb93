-- Terms for variables: one substitution after another, substitutions that agree, and what holds of the leaves.
use Rattle.std.proofs.Common.{◌≡◌, ◌≢◌, ℕ, suc, ◌<◌, ◌≤◌, Bool, true, false, if◌then◌else◌, nat_eq, List, [], ◌∷◌, map, length, refl, ap, ap₂, arith, eq-eqb, inl, inr}
use Rattle.std.specs.List.{All}
use Rattle.std.proofs.lemmas.Bool.{cases_Bool, eqb-true}
use Rattle.std.proofs.lemmas.List.Elements.{All-map, All-weaker, All-nil, All-cons, All-head, All-tail}
use Rattle.fpc_terms.specs.Term.{Term, Args, eigen, bound, variable, app, no_args, arg, count, terms_in, joined, put, put_all, Each, EachArg, Never, Always}
use Rattle.fpc_terms.specs.Open.{IsGround, IsOpen, AreOpen, at_one}
use Rattle.fpc_terms.proofs.ScopeFacts.{Each-weaker, EachArg-weaker}

module _ (s r : ℕ → Term) where
  mutual
    -- one substitution after another is one substitution
    pub put-put : (t : Term) → put s (put r t) ≡ put (λ n. put s (r n)) t
    put-put (eigen n) = refl
    put-put (bound k) = refl
    put-put (variable n) = refl
    put-put (app f ts) = ap (app f) (put_all-put_all ts)

    pub put_all-put_all : (ts : Args) → put_all s (put_all r ts) ≡ put_all (λ n. put s (r n)) ts
    put_all-put_all no_args = refl
    put_all-put_all (arg t ts) = ap₂ arg (put-put t) (put_all-put_all ts)

  pub puts-puts : (ts : List Term) → map (put s) (map (put r) ts) ≡ map (put (λ n. put s (r n))) ts
  puts-puts [] = refl
  puts-puts (t ∷ ts) = ap₂ (λ u us. u ∷ us) (put-put t) (puts-puts ts)

-- substitutions that agree at the variables of a term agree at the term
module _ (e b v : ℕ → Type 0) (s r : ℕ → Term) (agree : (n : ℕ) → v n → s n ≡ r n) where
  mutual
    pub put_agrees : (t : Term) → Each e b v t → put s t ≡ put r t
    put_agrees (eigen n) h = refl
    put_agrees (bound k) h = refl
    put_agrees (variable n) h = agree n h
    put_agrees (app f ts) h = ap (app f) (put_all_agrees ts h)

    pub put_all_agrees : (ts : Args) → EachArg e b v ts → put_all s ts ≡ put_all r ts
    put_all_agrees no_args h = refl
    put_all_agrees (arg t ts) h = ap₂ arg (put_agrees t h.0) (put_all_agrees ts h.1)

  pub puts_agree : (ts : List Term) → All (Each e b v) ts → map (put s) ts ≡ map (put r) ts
  puts_agree [] h = refl
  puts_agree (t ∷ ts) h = ap₂ (λ u us. u ∷ us) (put_agrees t (All-head (Each e b v) t ts h)) (puts_agree ts (All-tail (Each e b v) t ts h))

module _ (e b v e' b' v' : ℕ → Type 0) (he : (n : ℕ) → e n → e' n) (hb : (n : ℕ) → b n → b' n) where
  -- what is weaker holds of each leaf too
  pub each_more : ((n : ℕ) → v n → v' n) → (t : Term) → Each e b v t → Each e' b' v' t
  each_more hv t h = Each-weaker he hb hv t h

  pub each_arg_more : ((n : ℕ) → v n → v' n) → (ts : Args) → EachArg e b v ts → EachArg e' b' v' ts
  each_arg_more hv ts h = EachArg-weaker he hb hv ts h

  -- what holds of the leaves of the terms that are put holds of each leaf of the result
  module _ (s : ℕ → Term) (hv : (n : ℕ) → v n → Each e' b' v' (s n)) where
    mutual
      pub each_put : (t : Term) → Each e b v t → Each e' b' v' (put s t)
      each_put (eigen n) h = he n h
      each_put (bound k) h = hb k h
      each_put (variable n) h = hv n h
      each_put (app f ts) h = each_arg_put ts h

      pub each_arg_put : (ts : Args) → EachArg e b v ts → EachArg e' b' v' (put_all s ts)
      each_arg_put no_args h = tt
      each_arg_put (arg t ts) h = (each_put t h.0, each_arg_put ts h.1)

-- arguments as a list of terms
pub terms_in-put_all : (s : ℕ → Term) (ts : Args) → terms_in (put_all s ts) ≡ map (put s) (terms_in ts)
terms_in-put_all s no_args = refl
terms_in-put_all s (arg t ts) = ap (λ us. put s t ∷ us) (terms_in-put_all s ts)

pub length-terms_in : (ts : Args) → length (terms_in ts) ≡ count ts
length-terms_in no_args = refl
length-terms_in (arg t ts) = ap suc (length-terms_in ts)

pub count-put_all : (s : ℕ → Term) (ts : Args) → count (put_all s ts) ≡ count ts
count-put_all s no_args = refl
count-put_all s (arg t ts) = ap suc (count-put_all s ts)

pub terms_in_same : (ts us : Args) → terms_in ts ≡ terms_in us → ts ≡ us
terms_in_same no_args no_args same = refl
terms_in_same no_args (arg u us) same = absurd (cc)
terms_in_same (arg t ts) no_args same = absurd (cc)
terms_in_same (arg t ts) (arg u us) same =
    let first : t ≡ u = cc in
    let rest : terms_in ts ≡ terms_in us = cc in
    ap₂ arg first (terms_in_same ts us rest)

module _ (e b v : ℕ → Type 0) where
  pub each_terms_in : (ts : Args) → EachArg e b v ts → All (Each e b v) (terms_in ts)
  each_terms_in no_args h = All-nil (Each e b v)
  each_terms_in (arg t ts) h = All-cons (Each e b v) t (terms_in ts) h.0 (each_terms_in ts h.1)

  pub each_from_terms_in : (ts : Args) → All (Each e b v) (terms_in ts) → EachArg e b v ts
  each_from_terms_in no_args h = tt
  each_from_terms_in (arg t ts) h = (All-head (Each e b v) t (terms_in ts) h, each_from_terms_in ts (All-tail (Each e b v) t (terms_in ts) h))

  -- joined arguments
  pub each_joined : (ts us : Args) → EachArg e b v (joined ts us) → EachArg e b v ts × EachArg e b v us
  each_joined no_args us h = (tt, h)
  each_joined (arg t ts) us h = let both = each_joined ts us h.1 in ((h.0, both.0), both.1)

  pub joined_each : (ts us : Args) → EachArg e b v ts → EachArg e b v us → EachArg e b v (joined ts us)
  joined_each no_args us h k = k
  joined_each (arg t ts) us h k = (h.0, joined_each ts us h.1 k)

-- ground terms for the variables of an open term make it ground
pub ground_put : (k : ℕ) (s : ℕ → Term) → ((n : ℕ) → n < k → IsGround (s n)) → (t : Term) → IsOpen k t → IsGround (put s t)
ground_put k s ground t h = each_put Always Never (λ n. n < k) Always Never Never (λ n a. a) (λ n a. a) s ground t h

-- open terms for them make it open
pub open_put : (j k : ℕ) (r : ℕ → Term) → ((n : ℕ) → n < j → IsOpen k (r n)) → (t : Term) → IsOpen j t → IsOpen k (put r t)
open_put j k r are_open t h = each_put Always Never (λ n. n < j) Always Never (λ n. n < k) (λ n a. a) (λ n a. a) r are_open t h

pub opens_put : (j k : ℕ) (r : ℕ → Term) → ((n : ℕ) → n < j → IsOpen k (r n)) → (ts : List Term) → AreOpen j ts → AreOpen k (map (put r) ts)
opens_put j k r are_open ts h =
    All-map (IsOpen k) (put r) ts (All-weaker (IsOpen j) (λ t. IsOpen k (put r t)) (open_put j k r are_open) ts h)

-- an open term stays open where there are more variables
pub open_more : (j k : ℕ) → j ≤ k → (t : Term) → IsOpen j t → IsOpen k t
open_more j k le t h = each_more Always Never (λ n. n < j) Always Never (λ n. n < k) (λ n a. a) (λ n a. a) (λ n lt. omega arith) t h

pub opens_more : (j k : ℕ) → j ≤ k → (ts : List Term) → AreOpen j ts → AreOpen k ts
opens_more j k le ts h = All-weaker (IsOpen j) (IsOpen k) (open_more j k le) ts h

-- one variable replaced
pub at_one_same : (v : ℕ) (t : Term) → at_one v t v ≡ t
at_one_same v t = ap (λ (b : Bool). if b then t else variable v) (eq-eqb v v refl)

pub at_one_other : (v : ℕ) (t : Term) (n : ℕ) → n ≢ v → at_one v t n ≡ variable n
at_one_other v t n differ =
    elim (cases_Bool (nat_eq n v)) [
      | inl same ↦ absurd (differ (eqb-true n v same))
      | inr other ↦ ap (λ (b : Bool). if b then t else variable n) other
    ]

pub at_one_open : (k v : ℕ) (t : Term) → IsOpen k t → (n : ℕ) → n < k → IsOpen k (at_one v t n)
at_one_open k v t h n lt = by_case (nat_eq n v)
  where
    by_case : (b : Bool) → IsOpen k (if b then t else variable n)
    by_case true = h
    by_case false = lt
