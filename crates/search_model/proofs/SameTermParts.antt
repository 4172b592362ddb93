-- What becomes of terms that are the same but for the numbers of their names.
use Rattle.std.proofs.Common.{◌≡◌, ℕ, suc, ◌+◌, Bool, true, false, ◌&&◌, nat_eq, nat_lt, List, ◌++◌, map, Some, refl, ap, ap₂, ◌∙◌, subst}
use Rattle.fpc_terms.specs.Term.{Term, Args, count, terms_in, joined, put, put_all}
use Rattle.fpc_terms.specs.Open.{Level, at_one, later, constant, lower_in, lower_in_args}
use Rattle.fpc_terms.specs.Equality.{Equality, same, parts, older, walk, clash, only_if, equality_of_variables, equality, is_out_of_scope, has_level, unless, walked_node}
use Rattle.fpc_terms.specs.Same.{SameTerm, SameArgs, same_eigen, same_bound, same_variable, same_app, same_no_args, same_arg, SameList, same_nil, same_cons, SameOption, same_none, same_some}
use Rattle.fpc_terms.proofs.SameTerms.{if-same}
use Rattle.search_model.specs.Same.{IsOneToOne, AreRelated, related_nil, related_cons}

-- the two equalities are the same but for their names, which are related
pub data SameEquality (S : ℕ → ℕ → Type 0) : Equality → Equality → Type 0 where
  same_same : SameEquality S same same
  same_parts : {ts us ss rs : Args} → SameArgs S ts ss → SameArgs S us rs → SameEquality S (parts ts us) (parts ss rs)
  same_older : (young old : ℕ) → SameEquality S (older young old) (older young old)
  same_walk : (v : ℕ) → {t u : Term} → SameTerm S t u → SameEquality S (walk v t) (walk v u)
  same_clash : SameEquality S clash clash

-- lists of what functions make of related items
pub map-same : {X Y : Type 0} {R : X → X → Type 0} {Q : Y → Y → Type 0} (f g : X → Y) → ((x y : X) → R x y → Q (f x) (g y)) → {xs ys : List X} → SameList R xs ys
    → SameList Q (map f xs) (map g ys)
map-same f g h same_nil = same_nil
map-same f g h (same_cons {x = x} {y = y} k ks) = same_cons (h x y k) (map-same f g h ks)

-- lists after others
pub append-related : {X Y : Type 0} {R : X → Y → Type 0} {xs us : List X} {ys vs : List Y} → AreRelated R xs ys → AreRelated R us vs → AreRelated R (xs ++ us) (ys ++ vs)
append-related related_nil k = k
append-related (related_cons h hs) k = related_cons h (append-related hs k)

-- so are lists of what functions make of related items
pub map-related : {X Y Z W : Type 0} {R : X → Y → Type 0} {Q : Z → W → Type 0} (f : X → Z) (g : Y → W) → ((x : X) (y : Y) → R x y → Q (f x) (g y)) → {xs : List X} {ys : List Y} → AreRelated R xs ys
    → AreRelated Q (map f xs) (map g ys)
map-related f g h related_nil = related_nil
map-related f g h (related_cons {x = x} {y = y} k ks) = related_cons (h x y k) (map-related f g h ks)

pub map-to_related : {X Z W : Type 0} {R : X → X → Type 0} {Q : Z → W → Type 0} (f : X → Z) (g : X → W) → ((x y : X) → R x y → Q (f x) (g y)) → {xs ys : List X} → SameList R xs ys
    → AreRelated Q (map f xs) (map g ys)
map-to_related f g h same_nil = related_nil
map-to_related f g h (same_cons {x = x} {y = y} k ks) = related_cons (h x y k) (map-to_related f g h ks)

-- related items of one type
pub listed : {X : Type 0} {R : X → X → Type 0} {xs ys : List X} → AreRelated R xs ys → SameList R xs ys
listed related_nil = same_nil
listed (related_cons h hs) = same_cons h (listed hs)

-- what is there on both sides is related
pub some-same : {X : Type 0} (R : X → X → Type 0) {x y : X} → SameOption R (Some x) (Some y) → R x y
some-same R (same_some h) = h

module _ {S : ℕ → ℕ → Type 0} where
  mutual
    -- the terms in the place of variables
    pub put-same : (s r : ℕ → Term) → ((n : ℕ) → SameTerm S (s n) (r n)) → {t u : Term} → SameTerm S t u → SameTerm S (put s t) (put r u)
    put-same s r h (same_eigen n) = same_eigen n
    put-same s r h (same_bound k) = same_bound k
    put-same s r h (same_variable n) = h n
    put-same s r h (same_app f hs) = same_app f (put_all-same s r h hs)

    pub put_all-same : (s r : ℕ → Term) → ((n : ℕ) → SameTerm S (s n) (r n)) → {ts us : Args} → SameArgs S ts us → SameArgs S (put_all s ts) (put_all r us)
    put_all-same s r h same_no_args = same_no_args
    put_all-same s r h (same_arg t ts) = same_arg (put-same s r h t) (put_all-same s r h ts)

  -- and in the terms of a list
  pub map_put-same : (s r : ℕ → Term) → ((n : ℕ) → SameTerm S (s n) (r n)) → {ts us : List Term} → SameList (SameTerm S) ts us → SameList (SameTerm S) (map (put s) ts) (map (put r) us)
  map_put-same s r h ts = map-same (put s) (put r) (λ t u k. put-same s r h k) ts

  -- a term for one variable
  pub at_one-same : (v : ℕ) {t u : Term} → SameTerm S t u → (n : ℕ) → SameTerm S (at_one v t n) (at_one v u n)
  at_one-same v h n = if-same (SameTerm S) (nat_eq n v) (λ _. h) (λ _. same_variable n)

  -- variables that are numbered later
  pub later-same : (k n : ℕ) → SameTerm S (later k n) (later k n)
  later-same k n = same_variable (k + n)

  -- a constant for each variable
  pub constant-same : {f g : ℕ} → S f g → (n : ℕ) → SameTerm S (constant f n) (constant g n)
  constant-same h n = same_app h same_no_args

  mutual
    -- the levels hang on no name
    pub lower_in-same : (l : Level) {t u : Term} → SameTerm S t u → (levels : List Level) → lower_in l t levels ≡ lower_in l u levels
    lower_in-same l (same_eigen n) levels = refl
    lower_in-same l (same_bound k) levels = refl
    lower_in-same l (same_variable n) levels = refl
    lower_in-same l (same_app f hs) levels = lower_in_args-same l hs levels

    pub lower_in_args-same : (l : Level) {ts us : Args} → SameArgs S ts us → (levels : List Level) → lower_in_args l ts levels ≡ lower_in_args l us levels
    lower_in_args-same l same_no_args levels = refl
    lower_in_args-same l (same_arg {t = t} {us = us} h hs) levels = lower_in_args-same l hs (lower_in l t levels) ∙ ap (lower_in_args l us) (lower_in-same l h levels)

  -- there are as many arguments
  pub count-same : {ts us : Args} → SameArgs S ts us → count ts ≡ count us
  count-same same_no_args = refl
  count-same (same_arg h hs) = ap suc (count-same hs)

  -- arguments as a list
  pub terms_in-same : {ts us : Args} → SameArgs S ts us → SameList (SameTerm S) (terms_in ts) (terms_in us)
  terms_in-same same_no_args = same_nil
  terms_in-same (same_arg h hs) = same_cons h (terms_in-same hs)

  -- arguments before others
  pub joined-same : {ts us ss rs : Args} → SameArgs S ts us → SameArgs S ss rs → SameArgs S (joined ts ss) (joined us rs)
  joined-same same_no_args k = k
  joined-same (same_arg h hs) k = same_arg h (joined-same hs k)

  unless-same : (c : Bool) {ts us : Args} → SameArgs S ts us → SameOption (SameArgs S) (unless c ts) (unless c us)
  unless-same true h = same_none
  unless-same false h = same_some h

  -- a walk goes on to related arguments, or to none on both sides
  pub walked_node-same : (v : ℕ) (l : Level) {t u : Term} → SameTerm S t u → SameOption (SameArgs S) (walked_node v l t) (walked_node v l u)
  walked_node-same v l (same_eigen n) = unless-same (is_out_of_scope l n) same_no_args
  walked_node-same v l (same_bound k) = unless-same (has_level l) same_no_args
  walked_node-same v l (same_variable n) = unless-same (nat_eq n v) same_no_args
  walked_node-same v l (same_app f hs) = same_some hs

  only_if-same : (c : Bool) {e d : Equality} → SameEquality S e d → SameEquality S (only_if c e) (only_if c d)
  only_if-same true h = h
  only_if-same false h = same_clash

  variables-same : (m n : ℕ) → SameEquality S (equality_of_variables m n) (equality_of_variables m n)
  variables-same m n =
      if-same (SameEquality S) (nat_eq m n) (λ _. same_same) (λ _. if-same (SameEquality S) (nat_lt m n) (λ _. same_older n m) (λ _. same_older m n))

  -- what an equality comes to, where the relation is one to one
  module _ (one : IsOneToOne S) where
    pub equality-same : {t u s r : Term} → SameTerm S t s → SameTerm S u r → SameEquality S (equality t u) (equality s r)
    equality-same (same_variable m) (same_variable n) = variables-same m n
    equality-same (same_variable m) (same_eigen n) = same_walk m (same_eigen n)
    equality-same (same_variable m) (same_bound k) = same_walk m (same_bound k)
    equality-same (same_variable m) (same_app f hs) = same_walk m (same_app f hs)
    equality-same (same_eigen m) (same_variable n) = same_walk n (same_eigen m)
    equality-same (same_bound k) (same_variable n) = same_walk n (same_bound k)
    equality-same (same_app f hs) (same_variable n) = same_walk n (same_app f hs)
    equality-same (same_eigen m) (same_eigen n) = only_if-same (nat_eq m n) same_same
    equality-same (same_bound m) (same_bound n) = only_if-same (nat_eq m n) same_same
    equality-same (same_app {f = f} {g = m} {ts = ts} {us = ss} s hs) (same_app {f = g} {g = n} {ts = us} {us = rs} r ks) =
        subst (λ c. SameEquality S (only_if (nat_eq f g && nat_eq (count ts) (count us)) (parts ts us)) (only_if c (parts ss rs)))
        (ap₂ (λ a b. a && b) (one f g m n s r) (ap₂ (λ a b. nat_eq a b) (count-same hs) (count-same ks)))
        (only_if-same (nat_eq f g && nat_eq (count ts) (count us)) (same_parts hs ks))
    equality-same (same_eigen m) (same_bound n) = same_clash
    equality-same (same_eigen m) (same_app f hs) = same_clash
    equality-same (same_bound m) (same_eigen n) = same_clash
    equality-same (same_bound m) (same_app f hs) = same_clash
    equality-same (same_app f hs) (same_eigen n) = same_clash
    equality-same (same_app f hs) (same_bound n) = same_clash
