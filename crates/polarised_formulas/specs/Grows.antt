-- Terms that are put behind a table change no closure that it serves.
use Rattle.std.proofs.Common.{◌≡◌, ℕ, ◌<◌, ◌≤◌, ◌++◌, List, [], ◌∷◌, length, map, get_or, refl, arith}
use Rattle.std.proofs.lemmas.Grind.{common_steps}
use Rattle.fpc_terms.specs.Term.{Term, eigen}
use Rattle.polarised_formulas.specs.declared.held.Given.{Given}
use Rattle.polarised_formulas.specs.declared.held.Given.TheVariants as given_by
use Rattle.polarised_formulas.specs.Closure.{Closure, Agree, stands_for}
use Rattle.polarised_formulas.specs.Held.{given, given_reach, givens_reach, closure_reach}

module _ {R : Type 0} where
  -- references with the same terms give the same list
  map-same : (f g : R → Term) (rs : List R) → Agree f g rs → map f rs ≡ map g rs
  map-same f g [] h = refl
  map-same f g (r ∷ rs) h = rw (h.0, map-same f g rs h.1)

  -- a closure's formula depends on its own references alone
  pub stands-same : (f g : R → Term) (c : Closure R) → Agree f g c.opened → Agree f g c.parameters → stands_for f c ≡ stands_for g c
  stands-same f g c h k = rw (map-same f g c.opened h, map-same f g c.parameters k)

-- a term of the table stays
get_or-grown : (ts us : List Term) (k : ℕ) → k < length ts → get_or (ts ++ us) k (eigen 0) ≡ get_or ts k (eigen 0)
get_or-grown ts us k h = grind (arith, common_steps)

-- the term of a reference stays
given-grown : (ts us : List Term) (r : Given) → given_reach r ≤ length ts → given (ts ++ us) r ≡ given ts r
given-grown ts us (given_by.Eigen n) h = refl
given-grown ts us (given_by.Term k) h = get_or-grown ts us k (omega arith)

-- the terms of some references stay
givens-grown : (ts us : List Term) (rs : List Given) → givens_reach rs ≤ length ts → Agree (given (ts ++ us)) (given ts) rs
givens-grown ts us [] h = tt
givens-grown ts us (r ∷ rs) h = (given-grown ts us r (omega arith), givens-grown ts us rs (omega arith))

-- the formula that a closure stands for stays
pub stands-grown : (ts us : List Term) (c : Closure Given) → closure_reach c ≤ length ts → stands_for (given (ts ++ us)) c ≡ stands_for (given ts) c
stands-grown ts us c h = stands-same (given (ts ++ us)) (given ts) c (givens-grown ts us c.opened (omega arith)) (givens-grown ts us c.parameters (omega arith))
