-- Where terms stand among the cells of several.
use Rattle.std.proofs.Common.{◌≡◌, ℕ, ◌<◌, ◌≤◌, ◌+◌, List, [], ◌∷◌, ◌++◌, length, take, drop, refl, arith, ◌∙◌, ap}
use Rattle.std.proofs.Math.Nat.{add-zero, add-suc}
use Rattle.std.proofs.Math.Seq.{take-append_seam, drop-append_seam}
use Rattle.std.proofs.lemmas.List.Sums.{sum_by-cons}
use Rattle.std.specs.List.{sum_by}
use Rattle.std.specs.Prelude.{suc}
use Rattle.fpc_terms.specs.declared.cell.Cell.{Cell}
use Rattle.fpc_terms.specs.Term.{Term, Args, eigen, bound, variable, app, no_args, arg, count, cells_before, all_before, cells_of, term_of, terms_from, joined, terms_in, arguments_in, IsOneTerm, terms_from-all_before, term_of-cells_of}
use Rattle.fpc_terms.specs.Cells.{arity, front_length, AreTerms}

abbrev mutual
  pub cell_count : Term → ℕ
  cell_count (eigen n) = 1
  cell_count (bound k) = 1
  cell_count (variable n) = 1
  cell_count (app f ts) = suc (cells_count ts)

  pub cells_count : Args → ℕ
  cells_count no_args = 0
  cells_count (arg t ts) = cell_count t + cells_count ts

mutual
  front-cells_before : (t : Term) (k : ℕ) (cs : List Cell) → front_length (suc k) (cells_before t cs) ≡ cell_count t + front_length k cs
  front-cells_before (eigen n) k cs = simp add-zero (omega arith)
  front-cells_before (bound n) k cs = simp add-zero (omega arith)
  front-cells_before (variable n) k cs = simp add-zero (omega arith)
  front-cells_before (app f ts) k cs = omega (arith, front-all_before ts k cs)

  front-all_before : (ts : Args) (k : ℕ) (cs : List Cell) → front_length (k + count ts) (all_before ts cs) ≡ cells_count ts + front_length k cs
  front-all_before no_args k cs = simp add-zero (omega arith)
  front-all_before (arg t ts) k cs = simp add-suc (omega (arith, front-cells_before t (k + count ts) (all_before ts cs), front-all_before ts k cs))

mutual
  length-cells_before : (t : Term) (cs : List Cell) → length (cells_before t cs) ≡ cell_count t + length cs
  length-cells_before (eigen n) cs = omega arith
  length-cells_before (bound n) cs = omega arith
  length-cells_before (variable n) cs = omega arith
  length-cells_before (app f ts) cs = omega (arith, length-all_before ts cs)

  length-all_before : (ts : Args) (cs : List Cell) → length (all_before ts cs) ≡ cells_count ts + length cs
  length-all_before no_args cs = omega arith
  length-all_before (arg t ts) cs = omega (arith, length-cells_before t (all_before ts cs), length-all_before ts cs)

mutual
  sum-cells_before : (t : Term) (cs : List Cell) → sum_by arity (cells_before t cs) + 1 ≡ cell_count t + sum_by arity cs
  sum-cells_before (eigen n) cs = simp sum_by-cons (omega arith)
  sum-cells_before (bound n) cs = simp sum_by-cons (omega arith)
  sum-cells_before (variable n) cs = simp sum_by-cons (omega arith)
  sum-cells_before (app f ts) cs = simp sum_by-cons (omega (arith, sum-all_before ts cs))

  sum-all_before : (ts : Args) (cs : List Cell) → sum_by arity (all_before ts cs) + count ts ≡ cells_count ts + sum_by arity cs
  sum-all_before no_args cs = omega arith
  sum-all_before (arg t ts) cs = omega (arith, sum-cells_before t (all_before ts cs), sum-all_before ts cs)

mutual
  pub cells_before-append : (t : Term) (cs ds : List Cell) → cells_before t cs ++ ds ≡ cells_before t (cs ++ ds)
  cells_before-append (eigen n) cs ds = refl
  cells_before-append (bound k) cs ds = refl
  cells_before-append (variable n) cs ds = refl
  cells_before-append (app f ts) cs ds = rw (all_before-append ts cs ds)

  all_before-append : (ts : Args) (cs ds : List Cell) → all_before ts cs ++ ds ≡ all_before ts (cs ++ ds)
  all_before-append no_args cs ds = refl
  all_before-append (arg t ts) cs ds = rw (cells_before-append t (all_before ts cs) ds, all_before-append ts cs ds)

-- where the first term ends
first_ends : (t : Term) (cs : List Cell) → front_length 1 (cells_before t cs) ≡ length (cells_of t)
first_ends t cs = omega (arith, front-cells_before t 0 cs, length-cells_before t [])

take-first : (t : Term) (cs : List Cell) → take (front_length 1 (cells_before t cs)) (cells_before t cs) ≡ cells_of t
take-first t cs = rw (first_ends t cs, ← cells_before-append t [] cs) (take-append_seam (cells_of t) cs)

drop-first : (t : Term) (cs : List Cell) → drop (front_length 1 (cells_before t cs)) (cells_before t cs) ≡ cs
drop-first t cs = rw (first_ends t cs, ← cells_before-append t [] cs) (drop-append_seam (cells_of t) cs)

some_cells : (t : Term) → 0 < cell_count t
some_cells (eigen n) = omega arith
some_cells (bound k) = omega arith
some_cells (variable n) = omega arith
some_cells (app f ts) = omega arith

joined-no_args : (ts : Args) → joined ts no_args ≡ ts
joined-no_args no_args = refl
joined-no_args (arg t ts) = ap (arg t) (joined-no_args ts)

-- terms one after another are spelled by their cells
terms_from-all : (ts : Args) → terms_from (all_before ts []) no_args ≡ ts
terms_from-all ts = terms_from-all_before ts [] no_args ∙ joined-no_args ts

AreTerms-all : (ts : Args) → AreTerms (all_before ts [])
AreTerms-all ts = rw (terms_from-all ts)

-- cells of terms come apart into those of the first and those of the later ones
pub record SplitsFirst (cs : List Cell) : Type 0 where
  pub few : sum_by arity cs ≤ length cs
  pub within : front_length 1 cs ≤ length cs
  pub some : 0 < front_length 1 cs
  pub first : IsOneTerm (take (front_length 1 cs) cs)
  pub later : AreTerms (drop (front_length 1 cs) cs)
  pub both : terms_in (terms_from cs no_args) ≡ term_of (take (front_length 1 cs) cs) ∷ terms_in (terms_from (drop (front_length 1 cs) cs) no_args)

splits_all : (ts : Args) → 0 < length (all_before ts []) → SplitsFirst (all_before ts [])
splits_all no_args h = let no : ⊥ = omega (arith, h) in absurd no
splits_all (arg t ts) h = record {
  few = omega (arith, sum-all_before (arg t ts) [], length-all_before (arg t ts) []);
  within = omega (arith, first_ends t (all_before ts []), length-cells_before t (all_before ts []), length-cells_before t []);
  some = omega (arith, first_ends t (all_before ts []), length-cells_before t [], some_cells t);
  first = rw (take-first t (all_before ts []), term_of-cells_of t);
  later = rw (drop-first t (all_before ts [])) (AreTerms-all ts);
  both = rw (take-first t (all_before ts []), drop-first t (all_before ts []), term_of-cells_of t, terms_from-all (arg t ts), terms_from-all ts);
}

pub splits_first : (cs : List Cell) → AreTerms cs → 0 < length cs → SplitsFirst cs
splits_first cs whole h = rw whole at (splits_all (terms_from cs no_args) (rw whole h))

-- behind the head of a term stand its arguments
pub record HoldsArguments (t : Term) : Type 0 where
  pub some : 1 ≤ length (cells_of t)
  pub whole : AreTerms (drop 1 (cells_of t))
  pub arguments : terms_in (terms_from (drop 1 (cells_of t)) no_args) ≡ arguments_in t

pub holds_arguments : (t : Term) → HoldsArguments t
holds_arguments (eigen n) = record { some = omega arith; whole = refl; arguments = refl }
holds_arguments (bound k) = record { some = omega arith; whole = refl; arguments = refl }
holds_arguments (variable n) = record { some = omega arith; whole = refl; arguments = refl }
holds_arguments (app f ts) = record { some = omega arith; whole = AreTerms-all ts; arguments = ap terms_in (terms_from-all ts) }
