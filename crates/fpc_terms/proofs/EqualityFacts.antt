-- What one step of equality says of the substitutions that make two terms equal, and of the terms that it leaves.
use Rattle.std.proofs.Common.{◌≡◌, ℕ, ◌<◌, Bool, true, false, ◌&&◌, if◌then◌else◌, nat_eq, nat_lt, length, refl, sym, ap, ap₂, ◌∙◌, arith, eq-eqb}
use Rattle.std.proofs.lemmas.Bool.{eqb-true, eqb-false, ltb-true, ltb-false}
use Rattle.std.specs.Cmp.Derive.{both_true}
use Rattle.fpc_terms.specs.Term.{Term, eigen, bound, variable, app, count, terms_in, put, put_all, Each, EachArg}
use Rattle.fpc_terms.specs.Equality.{Equality, same, parts, older, walk, clash, only_if, equality_of_variables, equality}
use Rattle.fpc_terms.proofs.PutFacts.{length-terms_in, count-put_all}

-- what holds of each case of the equality of two variables holds of it
by_variables : (P : Equality → Type 0) (m n : ℕ) → (m ≡ n → P same) → (m < n → P (older n m)) → (n < m → P (older m n)) → P (equality_of_variables m n)
by_variables P m n equal less greater = by (nat_eq m n) (nat_lt m n) refl refl
  where
    by : (b c : Bool) → nat_eq m n ≡ b → nat_lt m n ≡ c → P (if b then same else if c then older n m else older m n)
    by true c is is_less = equal (eqb-true m n is)
    by false true is is_less = less (ltb-true m n is_less)
    by false false is is_less = greater (omega (arith, ltb-false m n is_less, eqb-false m n is))

-- what holds of an equality if the test passes, and of a clash if not, holds under the test
by_test : (P : Equality → Type 0) (b : Bool) (e : Equality) → (b ≡ true → P e) → (b ≡ false → P clash) → P (only_if b e)
by_test P true e passes fails = passes refl
by_test P false e passes fails = fails refl

both : (a b : Bool) → (a && b) ≡ true → (a ≡ true) × (b ≡ true)
both true b h = (refl, h)
both false b h = absurd (cc)

-- the substitution makes equal what is left
abbrev pub Means : (ℕ → Term) → Equality → Type 0
Means s same = Unit {0}
Means s (parts ts us) = put_all s ts ≡ put_all s us
Means s (older m n) = s m ≡ s n
Means s (walk v t) = s v ≡ put s t
Means s clash = ⊥

-- then it makes the terms equal
pub equality_means : (s : ℕ → Term) (t u : Term) → Means s (equality t u) → put s t ≡ put s u
equality_means s (variable m) (variable n) h = by_variables (λ e. Means s e → s m ≡ s n) m n (λ e k. ap s e) (λ less k. sym k) (λ less k. k) h
equality_means s (variable m) (eigen n) h = h
equality_means s (variable m) (bound n) h = h
equality_means s (variable m) (app g us) h = h
equality_means s (eigen m) (variable n) h = sym h
equality_means s (bound m) (variable n) h = sym h
equality_means s (app f ts) (variable n) h = sym h
equality_means s (eigen m) (eigen n) h = by_test (λ e. Means s e → eigen m ≡ eigen n) (nat_eq m n) same (λ passes k. ap eigen (eqb-true m n passes)) (λ fails k. absurd k) h
equality_means s (bound m) (bound n) h = by_test (λ e. Means s e → bound m ≡ bound n) (nat_eq m n) same (λ passes k. ap bound (eqb-true m n passes)) (λ fails k. absurd k) h
equality_means s (app f ts) (app g us) h =
    by_test (λ e. Means s e → app f (put_all s ts) ≡ app g (put_all s us)) (nat_eq f g && nat_eq (count ts) (count us)) (parts ts us)
    (λ passes k. ap₂ app (eqb-true f g ((both (nat_eq f g) (nat_eq (count ts) (count us)) passes).0)) k) (λ fails k. absurd k) h
equality_means s _ _ h = absurd h

-- a substitution that makes the terms equal makes equal what is left
pub means_equality : (s : ℕ → Term) (t u : Term) → put s t ≡ put s u → Means s (equality t u)
means_equality s (variable m) (variable n) h = by_variables (Means s) m n (λ e. tt) (λ less. sym h) (λ less. h)
means_equality s (variable m) (eigen n) h = h
means_equality s (variable m) (bound n) h = h
means_equality s (variable m) (app g us) h = h
means_equality s (eigen m) (variable n) h = sym h
means_equality s (bound m) (variable n) h = sym h
means_equality s (app f ts) (variable n) h = sym h
means_equality s (eigen m) (eigen n) h =
    let e : m ≡ n = cc in
    by_test (Means s) (nat_eq m n) same (λ passes. tt) (λ fails. eqb-false m n fails e)
means_equality s (bound m) (bound n) h =
    let e : m ≡ n = cc in
    by_test (Means s) (nat_eq m n) same (λ passes. tt) (λ fails. eqb-false m n fails e)
means_equality s (app f ts) (app g us) h =
    let names : f ≡ g = cc in
    let inside : put_all s ts ≡ put_all s us = cc in
    let counts : count ts ≡ count us = sym (count-put_all s ts) ∙ ap count inside ∙ count-put_all s us in
    let pass : (nat_eq f g && nat_eq (count ts) (count us)) ≡ true = both_true (eq-eqb f g names) (eq-eqb (count ts) (count us) counts) in
    by_test (Means s) (nat_eq f g && nat_eq (count ts) (count us)) (parts ts us) (λ passes. inside) (λ fails. absurd (cc))
means_equality s _ _ h = absurd (cc)

-- what holds of the leaves of the terms in an equality
abbrev pub HasTerms : (ℕ → Type 0) → (ℕ → Type 0) → (ℕ → Type 0) → Equality → Type 0
HasTerms e b v (parts ts us) = EachArg e b v ts × EachArg e b v us
HasTerms e b v (older m n) = v m × v n
HasTerms e b v (walk x t) = v x × Each e b v t
HasTerms e b v same = Unit {0}
HasTerms e b v clash = Unit {0}

pub equality_has : (e b v : ℕ → Type 0) (t u : Term) → Each e b v t → Each e b v u → HasTerms e b v (equality t u)
equality_has e b v (variable m) (variable n) h k = by_variables (HasTerms e b v) m n (λ is. tt) (λ less. (k, h)) (λ less. (h, k))
equality_has e b v (variable m) (eigen n) h k = (h, k)
equality_has e b v (variable m) (bound n) h k = (h, k)
equality_has e b v (variable m) (app g us) h k = (h, k)
equality_has e b v (eigen m) (variable n) h k = (k, h)
equality_has e b v (bound m) (variable n) h k = (k, h)
equality_has e b v (app f ts) (variable n) h k = (k, h)
equality_has e b v (eigen m) (eigen n) h k = by_test (HasTerms e b v) (nat_eq m n) same (λ passes. tt) (λ fails. tt)
equality_has e b v (bound m) (bound n) h k = by_test (HasTerms e b v) (nat_eq m n) same (λ passes. tt) (λ fails. tt)
equality_has e b v (app f ts) (app g us) h k =
    by_test (HasTerms e b v) (nat_eq f g && nat_eq (count ts) (count us)) (parts ts us) (λ passes. (h, k)) (λ fails. tt)
equality_has e b v _ _ h k = tt

-- as many arguments on both sides
abbrev pub AreAsMany : Equality → Type 0
AreAsMany (parts ts us) = length (terms_in ts) ≡ length (terms_in us)
AreAsMany _ = Unit {0}

pub equality_as_many : (t u : Term) → AreAsMany (equality t u)
equality_as_many (variable m) (variable n) = by_variables AreAsMany m n (λ is. tt) (λ less. tt) (λ less. tt)
equality_as_many (eigen m) (eigen n) = by_test AreAsMany (nat_eq m n) same (λ passes. tt) (λ fails. tt)
equality_as_many (bound m) (bound n) = by_test AreAsMany (nat_eq m n) same (λ passes. tt) (λ fails. tt)
equality_as_many (app f ts) (app g us) =
    by_test AreAsMany (nat_eq f g && nat_eq (count ts) (count us)) (parts ts us)
    (λ passes. length-terms_in ts ∙ eqb-true (count ts) (count us) ((both (nat_eq f g) (nat_eq (count ts) (count us)) passes).1) ∙ sym (length-terms_in us)) (λ fails. tt)
equality_as_many _ _ = tt

-- the term that is walked is no variable
abbrev pub WalksNoVariable : Equality → Type 0
WalksNoVariable (walk v (variable n)) = ⊥
WalksNoVariable _ = Unit {0}

pub equality_walks : (t u : Term) → WalksNoVariable (equality t u)
equality_walks (variable m) (variable n) = by_variables WalksNoVariable m n (λ is. tt) (λ less. tt) (λ less. tt)
equality_walks (eigen m) (eigen n) = by_test WalksNoVariable (nat_eq m n) same (λ passes. tt) (λ fails. tt)
equality_walks (bound m) (bound n) = by_test WalksNoVariable (nat_eq m n) same (λ passes. tt) (λ fails. tt)
equality_walks (app f ts) (app g us) = by_test WalksNoVariable (nat_eq f g && nat_eq (count ts) (count us)) (parts ts us) (λ passes. tt) (λ fails. tt)
equality_walks _ _ = tt

-- the older of two variables has the lesser number
abbrev pub OlderDiffer : Equality → Type 0
OlderDiffer (older m n) = n < m
OlderDiffer _ = Unit {0}

pub equality_older : (t u : Term) → OlderDiffer (equality t u)
equality_older (variable m) (variable n) = by_variables OlderDiffer m n (λ is. tt) (λ less. less) (λ less. less)
equality_older (eigen m) (eigen n) = by_test OlderDiffer (nat_eq m n) same (λ passes. tt) (λ fails. tt)
equality_older (bound m) (bound n) = by_test OlderDiffer (nat_eq m n) same (λ passes. tt) (λ fails. tt)
equality_older (app f ts) (app g us) = by_test OlderDiffer (nat_eq f g && nat_eq (count ts) (count us)) (parts ts us) (λ passes. tt) (λ fails. tt)
equality_older _ _ = tt
