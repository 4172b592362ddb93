-- A table that grows is no shorter, and names stay in it.
use Rattle.std.proofs.Common.{ℕ, ◌<◌, ◌≤◌, List, [], ◌∷◌, length, arith}
use Rattle.std.proofs.lemmas.Option.{slice_get-get_or, slice_get_within}
use Rattle.fpc_terms.specs.Name.{Grows}
use Rattle.fpc_terms.specs.Printing.{HasNamesBelow, HaveNamesBelow}
use Rattle.fpc_terms.specs.Term.{Term, Args, eigen, bound, variable, app, no_args, arg}
use Rattle.polarised_formulas.specs.Formula.{Formula, truth, falsity, atom, conj, disj, implies, for_all, exists}
use Rattle.polarised_formulas.specs.Printing.{AllNamesBelow}

-- a table that grows keeps its length at least
pub length-grown : (old new : List (List ℕ)) → Grows old new → length old ≤ length new
length-grown [] new grows = omega arith
length-grown (x ∷ xs) new grows =
    let last : length xs < length (x ∷ xs) = omega arith in
    let within : length xs < length new = slice_get_within new (length xs) _ (grows (length xs) _ (slice_get-get_or (x ∷ xs) (length xs) [] last)) in
    omega (arith, within)

-- numbers below one number are below a larger one
module _ (m n : ℕ) (le : m ≤ n) where
  mutual
    pub term-named-more : (t : Term) → HasNamesBelow m t → HasNamesBelow n t
    term-named-more (eigen k) h = tt
    term-named-more (bound k) h = tt
    term-named-more (variable k) h = tt
    term-named-more (app f ts) h = let l = h.0 in (omega arith, args-named-more ts h.1)

    args-named-more : (ts : Args) → HaveNamesBelow m ts → HaveNamesBelow n ts
    args-named-more no_args h = tt
    args-named-more (arg t ts) h = (term-named-more t h.0, args-named-more ts h.1)

  formula-named-more : (f : Formula) → AllNamesBelow m f → AllNamesBelow n f
  formula-named-more (truth p) h = tt
  formula-named-more (falsity p) h = tt
  formula-named-more (atom positive f ts) h = let l = h.0 in (omega arith, args-named-more ts h.1)
  formula-named-more (conj p a b) h = (formula-named-more a h.0, formula-named-more b h.1)
  formula-named-more (disj p a b) h = (formula-named-more a h.0, formula-named-more b h.1)
  formula-named-more (implies a b) h = (formula-named-more a h.0, formula-named-more b h.1)
  formula-named-more (for_all a) h = formula-named-more a h
  formula-named-more (exists a) h = formula-named-more a h

-- the names of a formula stay in a table that grows
pub formula-grown : (old new : List (List ℕ)) → Grows old new → (f : Formula) → AllNamesBelow (length old) f → AllNamesBelow (length new) f
formula-grown old new grows f h = formula-named-more (length old) (length new) (length-grown old new grows) f h
