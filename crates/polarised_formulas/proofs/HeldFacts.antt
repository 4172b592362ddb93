-- What holds of closures by tables of terms: their shapes, and how many terms they need.
use Rattle.std.proofs.Common.{◌≡◌, List, [], map, refl}
use Rattle.std.specs.Prelude.{Bool, true, false, Some}
use Rattle.fpc_terms.specs.Term.{Term, Always}
use Rattle.polarised_formulas.specs.declared.held.Given.TheVariants as given_by
use Rattle.polarised_formulas.specs.Formula.{Formula, truth, falsity, atom, conj, disj, implies, for_all, exists, opened, open_at, IsProper}
use Rattle.polarised_formulas.specs.Parts.{IsPair, IsQuantified, body_of}
use Rattle.polarised_formulas.specs.Closure.{fill, marked, Closure, stands_for, root_closure, opened_by, IsReached, NoneBound}
use Rattle.polarised_formulas.proofs.FillFacts.{unbound-get, stands-opened, fill-closed, closed-reached}
use Rattle.polarised_formulas.specs.Held.{given, AreUnbound}

pub pair-marked : (b : Bool) (os ps : List Term) (f : Formula) → IsPair (marked b (fill os ps 0 f)) → IsPair f
pair-marked b os ps (conj p x y) h = tt
pair-marked b os ps (disj p x y) h = tt
pair-marked b os ps (implies x y) h = tt
pair-marked true os ps (truth p) h = absurd h
pair-marked false os ps (truth p) h = absurd h
pair-marked true os ps (falsity p) h = absurd h
pair-marked false os ps (falsity p) h = absurd h
pair-marked true os ps (atom positive name ts) h = absurd h
pair-marked false os ps (atom positive name ts) h = absurd h
pair-marked true os ps (for_all x) h = absurd h
pair-marked false os ps (for_all x) h = absurd h
pair-marked true os ps (exists x) h = absurd h
pair-marked false os ps (exists x) h = absurd h

pub quantified-marked : (b : Bool) (os ps : List Term) (f : Formula) → IsQuantified (marked b (fill os ps 0 f)) → IsQuantified f
quantified-marked b os ps (for_all x) h = tt
quantified-marked b os ps (exists x) h = tt
quantified-marked true os ps (truth p) h = absurd h
quantified-marked false os ps (truth p) h = absurd h
quantified-marked true os ps (falsity p) h = absurd h
quantified-marked false os ps (falsity p) h = absurd h
quantified-marked true os ps (atom positive name ts) h = absurd h
quantified-marked false os ps (atom positive name ts) h = absurd h
quantified-marked true os ps (conj p x y) h = absurd h
quantified-marked false os ps (conj p x y) h = absurd h
quantified-marked true os ps (disj p x y) h = absurd h
quantified-marked false os ps (disj p x y) h = absurd h
quantified-marked true os ps (implies x y) h = absurd h
quantified-marked false os ps (implies x y) h = absurd h

-- what a quantified formula is opened to
pub opened_quantified : (t : Term) (f : Formula) → IsQuantified f → opened t f ≡ Some (open_at 0 t (body_of f))
opened_quantified t (truth p) h = absurd h
opened_quantified t (falsity p) h = absurd h
opened_quantified t (atom positive name ts) h = absurd h
opened_quantified t (conj p x y) h = absurd h
opened_quantified t (disj p x y) h = absurd h
opened_quantified t (implies x y) h = absurd h
opened_quantified t (for_all x) h = refl
opened_quantified t (exists x) h = refl

module _ {R : Type 0} where
  -- a closure that stands for a pair is of a pair
  pub pair_part : (ref : R → Term) (c : Closure R) → IsPair (stands_for ref c) → IsPair c.part
  pair_part ref c h = pair-marked c.is_dual (map ref c.opened) (map ref c.parameters) c.part h

  -- and one that stands for a quantified formula is of one
  pub quantified_part : (ref : R → Term) (c : Closure R) → IsQuantified (stands_for ref c) → IsQuantified c.part
  quantified_part ref c h = quantified-marked c.is_dual (map ref c.opened) (map ref c.parameters) c.part h

  -- the body with a term is what the opened closure stands for
  pub stands_body : (ref : R → Term) (r : R) (c : Closure R) → NoneBound ref → IsQuantified (stands_for ref c) →
      open_at 0 (ref r) (body_of (stands_for ref c)) ≡ stands_for ref (opened_by r c (body_of c.part))
  stands_body ref r c h q =
      let e : opened (ref r) (stands_for ref c) ≡ Some (open_at 0 (ref r) (body_of (stands_for ref c))) =
      opened_quantified (ref r) (stands_for ref c) q in
      let f : opened (ref r) (stands_for ref c) ≡ Some (stands_for ref (opened_by r c (body_of c.part))) =
      stands-opened ref r c h (quantified_part ref c q) in
      cc

  -- a formula without variables and free bound indexes is what its closure stands for
  pub stands_root : (ref : R → Term) (f : Formula) → IsProper Always f → stands_for ref (root_closure f []) ≡ f
  stands_root ref f h = fill-closed Always [] [] 0 f h

-- and may be made a closure
pub may_be_held : (f : Formula) → IsProper Always f → IsReached 0 0 0 f
may_be_held f h = closed-reached Always 0 0 f h

-- by a table without bound indexes no reference has one
pub none_bound : (ts : List Term) → AreUnbound ts → NoneBound (given ts)
none_bound ts h (given_by.Eigen n) = tt
none_bound ts h (given_by.Term k) = unbound-get ts k h
