-- Terms put for variables, cell by cell.
use Rattle.std.proofs.Common.{◌≡◌, ℕ, List, [], refl, ap}
use Rattle.std.specs.List.{flat_map}
use Rattle.std.specs.Prelude.{suc}
use Rattle.fpc_terms.specs.declared.cell.Cell.{Cell}
use Rattle.fpc_terms.specs.Term.{Term, Args, eigen, bound, variable, app, no_args, arg, count, cells_before, all_before, cells_of, term_of, put, put_all, IsOneTerm, term_of-cells_of}
use Rattle.fpc_terms.specs.Substitution.{cell_put}
use Rattle.fpc_terms.proofs.ArgumentFacts.{cells_before-append}

count-put_all : (s : ℕ → Term) (ts : Args) → count (put_all s ts) ≡ count ts
count-put_all s no_args = refl
count-put_all s (arg t ts) = ap suc (count-put_all s ts)

mutual
  put-cells_before : (s : ℕ → Term) (t : Term) (cs : List Cell) → flat_map (cell_put s) (cells_before t cs) ≡ cells_before (put s t) (flat_map (cell_put s) cs)
  put-cells_before s (eigen n) cs = refl
  put-cells_before s (bound k) cs = refl
  put-cells_before s (variable n) cs = cells_before-append (s n) [] (flat_map (cell_put s) cs)
  put-cells_before s (app f ts) cs = rw (put-all_before s ts cs, count-put_all s ts)

  put-all_before : (s : ℕ → Term) (ts : Args) (cs : List Cell) → flat_map (cell_put s) (all_before ts cs) ≡ all_before (put_all s ts) (flat_map (cell_put s) cs)
  put-all_before s no_args cs = refl
  put-all_before s (arg t ts) cs = rw (put-cells_before s t (all_before ts cs), put-all_before s ts cs)

-- the cells that stand for those of a term are those of the term with terms for its variables
pub put-cells_of : (s : ℕ → Term) (t : Term) → flat_map (cell_put s) (cells_of t) ≡ cells_of (put s t)
put-cells_of s t = put-cells_before s t []

pub IsOneTerm-put : (s : ℕ → Term) (t : Term) → IsOneTerm (flat_map (cell_put s) (cells_of t))
IsOneTerm-put s t = rw (put-cells_of s t, term_of-cells_of (put s t))

pub term_of-put : (s : ℕ → Term) (t : Term) → term_of (flat_map (cell_put s) (cells_of t)) ≡ put s t
term_of-put s t = rw (put-cells_of s t, term_of-cells_of (put s t))

pub ruleset substitution_facts = (term_of-put)
