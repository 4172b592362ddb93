-- How a reader that stands at a reading answers a byte.
use Rattle.std.proofs.Common.{◌≡◌, ℕ, suc, Bool, true, false, if◌then◌else◌, List, [], ◌∷◌, length, Some, None, Result, Ok, Err, refl, sym, ap, subst, arith, nat_eq}
use Rattle.fpc_base.specs.declared.refusal.Code.TheVariants.{Unexpected}
use Rattle.fpc_base.specs.declared.refusal.TokenRefusal.{TokenRefusal}
use Rattle.fpc_base.specs.declared.refusal.TokenRefusal.TheVariants.{Refused, OutOfMemory}
use Rattle.fpc_terms.specs.Term.{Term, Args, arg, no_args}
use Rattle.fpc_terms.specs.Partial as parts
use Rattle.polarised_formulas.specs.declared.logic.Logic.{Logic}
use Rattle.polarised_formulas.specs.declared.connective.Joiner as joiner
use Rattle.polarised_formulas.specs.Formula.{Formula, atom}
use Rattle.polarised_formulas.specs.Unfinished as built
use Rattle.polarised_formulas.specs.PlainReading.{Operator, conjunction, disjunction, implication, Quantifier, every, some, binary, quantified, Hole, first_of, second_of, under, depth_of, Around, alone, in_term, in_atom, depth_around, Reading, behind_formula, in_operator, behind_term, Next, on, whole_formula, wrong, args_onto, end_formula, end_term}
use Rattle.polarised_formulas.specs.declared.plain.reader.Mode as mode
use Rattle.polarised_formulas.specs.declared.plain.reader.Outside as outside
use Rattle.polarised_formulas.specs.declared.plain.reader.Progress as progress
use Rattle.polarised_formulas.specs.declared.plain.reader.PlainReader.{PlainReader}
use Rattle.polarised_formulas.specs.PlainStanding.{joiner_of, operator_of, binder_of, built_holes, formula_around, Stands, IsLiteral, IsNext, IsOn, IsNamed}

pub joiner_of-operator_of : (j : joiner.Joiner) → joiner_of (operator_of j) ≡ j
joiner_of-operator_of (joiner.TheVariants.And p) = refl
joiner_of-operator_of (joiner.TheVariants.Or p) = refl
joiner_of-operator_of joiner.TheVariants.Implies = refl

join-joiner_of : (o : Operator) (a b : Formula) → built.join (joiner_of o) a b ≡ binary o a b
join-joiner_of (conjunction p) a b = refl
join-joiner_of (disjunction p) a b = refl
join-joiner_of implication a b = refl

bind-binder_of : (q : Quantifier) (a : Formula) → built.bind (binder_of q) a ≡ quantified q a
bind-binder_of every a = refl
bind-binder_of some a = refl

pub length-built_holes : (hs : List Hole) → length (built_holes hs) ≡ length hs
length-built_holes [] = refl
length-built_holes (first_of ∷ hs) = ap suc (length-built_holes hs)
length-built_holes (second_of o a ∷ hs) = ap suc (length-built_holes hs)
length-built_holes (under q ∷ hs) = ap suc (length-built_holes hs)

quantifiers-built_holes : (hs : List Hole) → built.quantifiers_in (built_holes hs) ≡ depth_of hs
quantifiers-built_holes [] = refl
quantifiers-built_holes (first_of ∷ hs) = quantifiers-built_holes hs
quantifiers-built_holes (second_of o a ∷ hs) = quantifiers-built_holes hs
quantifiers-built_holes (under q ∷ hs) = ap suc (quantifiers-built_holes hs)

pub quantifiers-around : (up : Around) → built.quantifiers_in (built.holes_in (formula_around up)) ≡ depth_around up
quantifiers-around alone = refl
quantifiers-around (in_term f ts up) = quantifiers-around up
quantifiers-around (in_atom hs positive f ts) = quantifiers-built_holes hs

pub args_onto-same : (ts : List Term) (us : Args) → parts.args_onto ts us ≡ args_onto ts us
args_onto-same [] us = refl
args_onto-same (t ∷ ts) us = args_onto-same ts (arg t us)

-- a whole formula in front of the end of a pair
data Closing (u : built.Unfinished) (n : Next) : Type 0 where
  closes : (hs : List Hole) → (f : Formula) → built.takes_close u ≡ true → built.closed u ≡ built.has f (built_holes hs) → n ≡ on (behind_formula hs f) → Closing u n
  stays : built.takes_close u ≡ false → n ≡ wrong → Closing u n

closing : (hs : List Hole) (f : Formula) → Closing (built.left_of f (built_holes hs)) (end_formula hs f 41)
closing [] f = stays refl refl
closing (first_of ∷ hs) f = stays refl refl
closing (second_of o a ∷ hs) f = closes hs (binary o a f) refl (ap (λ g. built.has g (built_holes hs)) (join-joiner_of o a f)) refl
closing (under q ∷ hs) f = subst (λ g. Closing (built.left_of g (built_holes hs)) (end_formula hs (quantified q f) 41)) (sym (bind-binder_of q f)) (closing hs (quantified q f))

-- a whole formula in front of a blank
data Parting (u : built.Unfinished) (n : Next) : Type 0 where
  parts_in : (hs : List Hole) → (f : Formula) → built.takes_close u ≡ false → u ≡ built.has f (built.first_of ∷ built_holes hs) → n ≡ on (in_operator hs f []) → Parting u n
  closes_in : built.takes_close u ≡ true → n ≡ wrong → Parting u n
  bare : (f : Formula) → u ≡ built.has f [] → n ≡ wrong → Parting u n

parting : (hs : List Hole) (f : Formula) → Parting (built.left_of f (built_holes hs)) (end_formula hs f 32)
parting [] f = bare f refl refl
parting (first_of ∷ hs) f = parts_in hs f refl refl refl
parting (second_of o a ∷ hs) f = closes_in refl refl
parting (under q ∷ hs) f = subst (λ g. Parting (built.left_of g (built_holes hs)) (end_formula hs (quantified q f) 32)) (sym (bind-binder_of q f)) (parting hs (quantified q f))

-- no formula is the first and the second part of a pair
not-both : (u : built.Unfinished) → built.takes_joiner u ≡ true → built.takes_close u ≡ true → ⊥
not-both (built.wants gs) t c = cc
not-both (built.has g []) t c = cc
not-both (built.has g (built.first_of ∷ gs)) t c = cc
not-both (built.has g (built.second_of j a ∷ gs)) t c = cc
not-both (built.has g (built.under q ∷ gs)) t c = cc

-- a whole formula in front of the end of a line
data Ending (u : built.Unfinished) (n : Next) : Type 0 where
  ends : (f : Formula) → built.whole u ≡ Some f → n ≡ whole_formula f → Ending u n
  goes_on : built.whole u ≡ None → n ≡ wrong → Ending u n

ending : (hs : List Hole) (f : Formula) → Ending (built.left_of f (built_holes hs)) (end_formula hs f 10)
ending [] f = ends f refl refl
ending (first_of ∷ hs) f = goes_on refl refl
ending (second_of o a ∷ hs) f = goes_on refl refl
ending (under q ∷ hs) f = subst (λ g. Ending (built.left_of g (built_holes hs)) (end_formula hs (quantified q f) 10)) (sym (bind-binder_of q f)) (ending hs (quantified q f))

-- other bytes behind a formula
pub end_formula-wrong : (hs : List Hole) (f : Formula) (b : ℕ) → nat_eq b 32 ≡ false → nat_eq b 41 ≡ false → nat_eq b 10 ≡ false → end_formula hs f b ≡ wrong
end_formula-wrong [] f b x y z = ap (λ c. if c then whole_formula f else wrong) z
end_formula-wrong (first_of ∷ hs) f b x y z = ap (λ c. if c then on (in_operator hs f []) else wrong) x
end_formula-wrong (second_of o a ∷ hs) f b x y z = ap (λ c. if c then on (behind_formula hs (binary o a f)) else wrong) y
end_formula-wrong (under q ∷ hs) f b x y z = end_formula-wrong hs (quantified q f) b x y z

module _ (logic : Logic) (hs : List Hole) (f : Formula) (old : PlainReader) (h : Stands logic (behind_formula hs f) old) where
  here : built.left old.formula ≡ built.left_of f (built_holes hs)
  here = ap built.left h.formula

  pub closes-pair : (new : PlainReader) → built.takes_close (built.left old.formula) ≡ true → new ≡ record old { formula = built.closed (built.left old.formula) } → IsNext logic 0 (Ok progress.TheVariants.Going) new (end_formula hs f 41)
  closes-pair new t e = by (subst (λ u. Closing u (end_formula hs f 41)) (sym here) (closing hs f))
    where
      by : Closing (built.left old.formula) (end_formula hs f 41) → IsNext logic 0 (Ok progress.TheVariants.Going) new (end_formula hs f 41)
      by (closes gs g c u n) = rw (n, e) (record { logic_is = h.logic_is; mode = h.mode; word = h.word; outside = h.outside; terms = h.terms; formula = u; kept = tt }, refl)
      by (stays c n) = let no : ⊥ = cc in absurd no

  pub closes-none : (new : PlainReader) → built.takes_close (built.left old.formula) ≡ false → IsNext logic 0 (Err (Refused Unexpected)) new (end_formula hs f 41)
  closes-none new t = by (subst (λ u. Closing u (end_formula hs f 41)) (sym here) (closing hs f))
    where
      by : Closing (built.left old.formula) (end_formula hs f 41) → IsNext logic 0 (Err (Refused Unexpected)) new (end_formula hs f 41)
      by (closes gs g c u n) = let no : ⊥ = cc in absurd no
      by (stays c n) = rw n refl

  pub parts-pair : (new : PlainReader) → built.takes_close (built.left old.formula) ≡ false → (length (built.holes_in (built.closed (built.left old.formula))) ≡ 0 → ⊥)
      → new ≡ record old { mode = mode.TheVariants.InOperator; formula = built.closed (built.left old.formula) } → IsNext logic 0 (Ok progress.TheVariants.Going) new (end_formula hs f 32)
  parts-pair new t d e = by (subst (λ u. Parting u (end_formula hs f 32)) (sym here) (parting hs f))
    where
      by : Parting (built.left old.formula) (end_formula hs f 32) → IsNext logic 0 (Ok progress.TheVariants.Going) new (end_formula hs f 32)
      by (parts_in gs g c u n) = rw (n, e) (record { logic_is = h.logic_is; mode = refl; word = h.word; outside = h.outside; terms = h.terms; formula = rw u refl; kept = tt }, refl)
      by (closes_in c n) = let no : ⊥ = cc in absurd no
      by (bare g u n) = absurd (d (rw u refl))

  pub parts-none : (new : PlainReader) → built.takes_close (built.left old.formula) ≡ true → IsNext logic 0 (Err (Refused Unexpected)) new (end_formula hs f 32)
  parts-none new t = by (subst (λ u. Parting u (end_formula hs f 32)) (sym here) (parting hs f))
    where
      by : Parting (built.left old.formula) (end_formula hs f 32) → IsNext logic 0 (Err (Refused Unexpected)) new (end_formula hs f 32)
      by (parts_in gs g c u n) = let no : ⊥ = cc in absurd no
      by (closes_in c n) = rw n refl
      by (bare g u n) = rw n refl

  closed-none : (u : built.Unfinished) → built.takes_close u ≡ false → built.closed u ≡ u
  closed-none (built.wants gs) t = refl
  closed-none (built.has g []) t = refl
  closed-none (built.has g (built.first_of ∷ gs)) t = refl
  closed-none (built.has g (built.second_of j a ∷ gs)) t = let no : ⊥ = cc in absurd no
  closed-none (built.has g (built.under q ∷ gs)) t = refl

  pub parts-bare : (new : PlainReader) → built.takes_close (built.left old.formula) ≡ false → length (built.holes_in (built.closed (built.left old.formula))) ≡ 0 → IsNext logic 0 (Err (Refused Unexpected)) new (end_formula hs f 32)
  parts-bare new t d = by (subst (λ u. Parting u (end_formula hs f 32)) (sym here) (parting hs f))
    where
      by : Parting (built.left old.formula) (end_formula hs f 32) → IsNext logic 0 (Err (Refused Unexpected)) new (end_formula hs f 32)
      by (parts_in gs g c u n) = let no : suc (length (built_holes gs)) ≡ 0 = rw u at d in absurd (let z : ⊥ = omega arith in z)
      by (closes_in c n) = rw n refl
      by (bare g u n) = rw n refl

  pub links-pair : built.takes_joiner (built.left old.formula) ≡ true → (gs : List Hole) × (g : Formula) × (built.left old.formula ≡ built.has g (built.first_of ∷ built_holes gs)) × (end_formula hs f 32 ≡ on (in_operator gs g []))
  links-pair t = by (subst (λ u. Parting u (end_formula hs f 32)) (sym here) (parting hs f))
    where
      by : Parting (built.left old.formula) (end_formula hs f 32) → (gs : List Hole) × (g : Formula) × (built.left old.formula ≡ built.has g (built.first_of ∷ built_holes gs)) × (end_formula hs f 32 ≡ on (in_operator gs g []))
      by (parts_in gs g c u n) = (gs, g, u, n)
      by (closes_in c n) = absurd (not-both (built.left old.formula) t c)
      by (bare g u n) = let no : ⊥ = cc in absurd no

  pub links-none : built.takes_joiner (built.left old.formula) ≡ false → end_formula hs f 32 ≡ wrong
  links-none t = by (subst (λ u. Parting u (end_formula hs f 32)) (sym here) (parting hs f))
    where
      by : Parting (built.left old.formula) (end_formula hs f 32) → end_formula hs f 32 ≡ wrong
      by (parts_in gs g c u n) = let no : ⊥ = cc in absurd no
      by (closes_in c n) = n
      by (bare g u n) = n

  pub ends-line : (g : Formula) (new : PlainReader) → Some g ≡ built.whole (built.left old.formula) → IsNext logic 0 (Ok (progress.TheVariants.Formula g)) new (end_formula hs f 10)
  ends-line g new w = by (subst (λ u. Ending u (end_formula hs f 10)) (sym here) (ending hs f))
    where
      by : Ending (built.left old.formula) (end_formula hs f 10) → IsNext logic 0 (Ok (progress.TheVariants.Formula g)) new (end_formula hs f 10)
      by (ends k c n) = rw n cc
      by (goes_on c n) = let no : ⊥ = cc in absurd no

  pub ends-none : (new : PlainReader) → None ≡ built.whole (built.left old.formula) → IsNext logic 0 (Err (Refused Unexpected)) new (end_formula hs f 10)
  ends-none new w = by (subst (λ u. Ending u (end_formula hs f 10)) (sym here) (ending hs f))
    where
      by : Ending (built.left old.formula) (end_formula hs f 10) → IsNext logic 0 (Err (Refused Unexpected)) new (end_formula hs f 10)
      by (ends k c n) = let no : ⊥ = cc in absurd no
      by (goes_on c n) = rw n refl

-- only memory ran out
pub memory-only : (logic : Logic) (q : Reading) (e : TokenRefusal) (r : PlainReader) (n : Next) → IsOn logic q (Err e) r → IsNext logic 0 (Err e) r n
memory-only logic q (Refused code) r n h = absurd h
memory-only logic q OutOfMemory r n h = tt

pub named-ok : (number : List ℕ → ℕ) (c : Bool) (w : List ℕ) (name : ℕ) → IsNamed number c w (Ok name) → (c ≡ false) × (number w ≡ name)
named-ok number true w name h = absurd h
named-ok number false w name h = (refl, h)

pub named-err : (number : List ℕ → ℕ) (c : Bool) (w : List ℕ) (e : TokenRefusal) (logic : Logic) (r : PlainReader) (n : Next) → IsNamed number c w (Err e) → IsNext logic 0 (Err e) r (if c then wrong else n)
named-err number true w (Refused code) logic r n h = h
named-err number true w OutOfMemory logic r n h = tt
named-err number false w (Refused code) logic r n h = absurd h
named-err number false w OutOfMemory logic r n h = tt

-- the arguments of a literal are whole
pub closes-literal : (logic : Logic) (up : Around) (t : Term) (old new : PlainReader) (positive : Bool) (name : ℕ) (result : Result progress.Progress TokenRefusal) → Stands logic (behind_term up t) old → old.terms.frames ≡ []
    → old.outside ≡ outside.TheVariants.Literal positive name → ((hs : List Hole) (ts : List Term) → IsLiteral logic hs ts old → IsNext logic 0 result new (on (behind_formula hs (atom positive name (args_onto ts no_args)))))
    → IsNext logic 0 result new (end_term up t 41)
closes-literal logic alone t old new positive name result h e o by = let no : ⊥ = cc in absurd no
closes-literal logic (in_term f ts up) t old new positive name result h e o by = absurd (not-open _ _ (rw h.terms at e))
  where
    not-open : {A : Type 0} (x : A) (xs : List A) → x ∷ xs ≡ [] → ⊥
    not-open x xs e = cc
closes-literal logic (in_atom hs p f ts) t old new positive name result h e o by =
    let same : outside.TheVariants.Literal p f ≡ outside.TheVariants.Literal positive name = cc in
    let a : p ≡ positive = cc in
    let b : f ≡ name = cc in
    rw (a, b) (by hs (t ∷ ts) (record { logic_is = h.logic_is; word = h.word; terms = h.terms; formula = h.formula }))

pub ruleset answering = (joiner_of-operator_of, length-built_holes, quantifiers-around, args_onto-same, end_formula-wrong)
