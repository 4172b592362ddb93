-- Where the parts of a formula stand among its nodes.
use Rattle.std.proofs.Common.{◌≡◌, ℕ, ◌≤◌, ◌+◌, List, [], ◌∷◌, ◌++◌, length, take, drop, refl, arith}
use Rattle.std.proofs.Math.Nat.{add-zero, add-suc}
use Rattle.std.proofs.Math.Numerals.{add-one, add-two}
use Rattle.std.proofs.Math.Seq.{take-append_seam, drop-append_seam}
use Rattle.std.proofs.lemmas.List.Sums.{sum_by-cons}
use Rattle.std.specs.List.{sum_by}
use Rattle.std.specs.Prelude.{suc, Some}
use Rattle.std.specs.Option.{IsSome}
use Rattle.fpc_terms.specs.declared.cell.Cell.{Cell}
use Rattle.fpc_terms.specs.Term.{Term, Args, eigen, bound, variable, app, no_args, arg, count, cells_before, all_before}
use Rattle.polarised_formulas.specs.declared.node.Node.{Node}
use Rattle.polarised_formulas.specs.Formula.{Formula, truth, falsity, atom, conj, disj, implies, for_all, exists, nodes_before, nodes_of, formula_of, formula_of-nodes_of, inside_before, parts_of, IsOneFormula}
use Rattle.polarised_formulas.specs.Nodes.{arity, front_length}

abbrev mutual
  pub cell_count : Term → ℕ
  cell_count (eigen n) = 1
  cell_count (bound k) = 1
  cell_count (variable n) = 1
  cell_count (app f ts) = suc (cells_count ts)

  pub cells_count : Args → ℕ
  cells_count no_args = 0
  cells_count (arg t ts) = cell_count t + cells_count ts

abbrev pub node_count : Formula → ℕ
node_count (truth p) = 1
node_count (falsity p) = 1
node_count (atom positive name ts) = suc (cells_count ts)
node_count (conj p a b) = suc (node_count a + node_count b)
node_count (disj p a b) = suc (node_count a + node_count b)
node_count (implies a b) = suc (node_count a + node_count b)
node_count (for_all a) = suc (node_count a)
node_count (exists a) = suc (node_count a)

mutual
  front-cells_before : (t : Term) (k : ℕ) (cs : List Cell) (ns : List Node) →
      front_length (suc k) (inside_before (cells_before t cs) ns) ≡ cell_count t + front_length k (inside_before cs ns)
  front-cells_before (eigen n) k cs ns = simp add-zero (omega arith)
  front-cells_before (bound n) k cs ns = simp add-zero (omega arith)
  front-cells_before (variable n) k cs ns = simp add-zero (omega arith)
  front-cells_before (app f ts) k cs ns = omega (arith, front-all_before ts k cs ns)

  front-all_before : (ts : Args) (k : ℕ) (cs : List Cell) (ns : List Node) →
      front_length (k + count ts) (inside_before (all_before ts cs) ns) ≡ cells_count ts + front_length k (inside_before cs ns)
  front-all_before no_args k cs ns = simp add-zero (omega arith)
  front-all_before (arg t ts) k cs ns = simp add-suc (omega (arith, front-cells_before t (k + count ts) (all_before ts cs) ns, front-all_before ts k cs ns))

pub front-nodes_before : (f : Formula) (k : ℕ) (ns : List Node) → front_length (suc k) (nodes_before f ns) ≡ node_count f + front_length k ns
front-nodes_before (truth p) k ns = simp add-zero (omega arith)
front-nodes_before (falsity p) k ns = simp add-zero (omega arith)
front-nodes_before (atom positive name ts) k ns = omega (arith, front-all_before ts k [] ns)
front-nodes_before (conj p a b) k ns = simp add-two (omega (arith, front-nodes_before a (suc k) (nodes_before b ns), front-nodes_before b k ns))
front-nodes_before (disj p a b) k ns = simp add-two (omega (arith, front-nodes_before a (suc k) (nodes_before b ns), front-nodes_before b k ns))
front-nodes_before (implies a b) k ns = simp add-two (omega (arith, front-nodes_before a (suc k) (nodes_before b ns), front-nodes_before b k ns))
front-nodes_before (for_all a) k ns = simp add-one (omega (arith, front-nodes_before a k ns))
front-nodes_before (exists a) k ns = simp add-one (omega (arith, front-nodes_before a k ns))

mutual
  length-cells_before : (t : Term) (cs : List Cell) (ns : List Node) → length (inside_before (cells_before t cs) ns) ≡ cell_count t + length (inside_before cs ns)
  length-cells_before (eigen n) cs ns = omega arith
  length-cells_before (bound n) cs ns = omega arith
  length-cells_before (variable n) cs ns = omega arith
  length-cells_before (app f ts) cs ns = omega (arith, length-all_before ts cs ns)

  length-all_before : (ts : Args) (cs : List Cell) (ns : List Node) → length (inside_before (all_before ts cs) ns) ≡ cells_count ts + length (inside_before cs ns)
  length-all_before no_args cs ns = omega arith
  length-all_before (arg t ts) cs ns = omega (arith, length-cells_before t (all_before ts cs) ns, length-all_before ts cs ns)

pub length-nodes_before : (f : Formula) (ns : List Node) → length (nodes_before f ns) ≡ node_count f + length ns
length-nodes_before (truth p) ns = omega arith
length-nodes_before (falsity p) ns = omega arith
length-nodes_before (atom positive name ts) ns = omega (arith, length-all_before ts [] ns)
length-nodes_before (conj p a b) ns = omega (arith, length-nodes_before a (nodes_before b ns), length-nodes_before b ns)
length-nodes_before (disj p a b) ns = omega (arith, length-nodes_before a (nodes_before b ns), length-nodes_before b ns)
length-nodes_before (implies a b) ns = omega (arith, length-nodes_before a (nodes_before b ns), length-nodes_before b ns)
length-nodes_before (for_all a) ns = omega (arith, length-nodes_before a ns)
length-nodes_before (exists a) ns = omega (arith, length-nodes_before a ns)

mutual
  sum-cells_before : (t : Term) (cs : List Cell) (ns : List Node) →
      sum_by arity (inside_before (cells_before t cs) ns) + 1 ≡ cell_count t + sum_by arity (inside_before cs ns)
  sum-cells_before (eigen n) cs ns = simp sum_by-cons (omega arith)
  sum-cells_before (bound n) cs ns = simp sum_by-cons (omega arith)
  sum-cells_before (variable n) cs ns = simp sum_by-cons (omega arith)
  sum-cells_before (app f ts) cs ns = simp sum_by-cons (omega (arith, sum-all_before ts cs ns))

  sum-all_before : (ts : Args) (cs : List Cell) (ns : List Node) →
      sum_by arity (inside_before (all_before ts cs) ns) + count ts ≡ cells_count ts + sum_by arity (inside_before cs ns)
  sum-all_before no_args cs ns = omega arith
  sum-all_before (arg t ts) cs ns = omega (arith, sum-cells_before t (all_before ts cs) ns, sum-all_before ts cs ns)

sum-nodes_before : (f : Formula) (ns : List Node) → sum_by arity (nodes_before f ns) + 1 ≡ node_count f + sum_by arity ns
sum-nodes_before (truth p) ns = simp sum_by-cons (omega arith)
sum-nodes_before (falsity p) ns = simp sum_by-cons (omega arith)
sum-nodes_before (atom positive name ts) ns = simp sum_by-cons (omega (arith, sum-all_before ts [] ns))
sum-nodes_before (conj p a b) ns = simp sum_by-cons (omega (arith, sum-nodes_before a (nodes_before b ns), sum-nodes_before b ns))
sum-nodes_before (disj p a b) ns = simp sum_by-cons (omega (arith, sum-nodes_before a (nodes_before b ns), sum-nodes_before b ns))
sum-nodes_before (implies a b) ns = simp sum_by-cons (omega (arith, sum-nodes_before a (nodes_before b ns), sum-nodes_before b ns))
sum-nodes_before (for_all a) ns = simp sum_by-cons (omega (arith, sum-nodes_before a ns))
sum-nodes_before (exists a) ns = simp sum_by-cons (omega (arith, sum-nodes_before a ns))

pub inside_before-append : (cs : List Cell) (ns ms : List Node) → inside_before cs ns ++ ms ≡ inside_before cs (ns ++ ms)
inside_before-append [] ns ms = refl
inside_before-append (c ∷ cs) ns ms = rw (inside_before-append cs ns ms)

pub nodes_before-append : (f : Formula) (ns ms : List Node) → nodes_before f ns ++ ms ≡ nodes_before f (ns ++ ms)
nodes_before-append (truth p) ns ms = refl
nodes_before-append (falsity p) ns ms = refl
nodes_before-append (atom positive name ts) ns ms = rw (inside_before-append (all_before ts []) ns ms)
nodes_before-append (conj p a b) ns ms = rw (nodes_before-append a (nodes_before b ns) ms, nodes_before-append b ns ms)
nodes_before-append (disj p a b) ns ms = rw (nodes_before-append a (nodes_before b ns) ms, nodes_before-append b ns ms)
nodes_before-append (implies a b) ns ms = rw (nodes_before-append a (nodes_before b ns) ms, nodes_before-append b ns ms)
nodes_before-append (for_all a) ns ms = rw (nodes_before-append a ns ms)
nodes_before-append (exists a) ns ms = rw (nodes_before-append a ns ms)

-- where the first formula ends
pub first_ends : (f : Formula) (ns : List Node) → front_length 1 (nodes_before f ns) ≡ length (nodes_of f)
first_ends f ns = omega (arith, front-nodes_before f 0 ns, length-nodes_before f [])

pub take-first : (f : Formula) (ns : List Node) → take (front_length 1 (nodes_before f ns)) (nodes_before f ns) ≡ nodes_of f
take-first f ns = rw (first_ends f ns, ← nodes_before-append f [] ns) (take-append_seam (nodes_of f) ns)

pub drop-first : (f : Formula) (ns : List Node) → drop (front_length 1 (nodes_before f ns)) (nodes_before f ns) ≡ ns
drop-first f ns = rw (first_ends f ns, ← nodes_before-append f [] ns) (drop-append_seam (nodes_of f) ns)

-- nodes that are those of a formula's two parts
pub record HoldsParts (f : Formula) (ns : List Node) : Type 0 where
  pub few : sum_by arity ns ≤ length ns + 1
  pub within : front_length 1 ns ≤ length ns
  pub first : IsOneFormula (take (front_length 1 ns) ns)
  pub second : IsOneFormula (drop (front_length 1 ns) ns)
  pub both : parts_of f ≡ Some (formula_of (take (front_length 1 ns) ns), formula_of (drop (front_length 1 ns) ns))

holds_two : (f a b : Formula) → parts_of f ≡ Some (a, b) → HoldsParts f (nodes_before a (nodes_of b))
holds_two f a b is_made = record {
  few = omega (arith, sum-nodes_before a (nodes_of b), sum-nodes_before b [], length-nodes_before a (nodes_of b), length-nodes_before b []);
  within = omega (arith, first_ends a (nodes_of b), length-nodes_before a (nodes_of b), length-nodes_before a []);
  first = rw (take-first a (nodes_of b), formula_of-nodes_of a);
  second = rw (drop-first a (nodes_of b), formula_of-nodes_of b);
  both = rw (take-first a (nodes_of b), drop-first a (nodes_of b), formula_of-nodes_of a, formula_of-nodes_of b) is_made;
}

-- behind the outermost node stand the two parts
pub holds_parts : (f : Formula) → IsSome (parts_of f) → HoldsParts f (drop 1 (nodes_of f))
holds_parts (truth p) h = cc
holds_parts (falsity p) h = cc
holds_parts (atom positive name ts) h = cc
holds_parts (conj p a b) h = holds_two (conj p a b) a b refl
holds_parts (disj p a b) h = holds_two (disj p a b) a b refl
holds_parts (implies a b) h = holds_two (implies a b) a b refl
holds_parts (for_all a) h = cc
holds_parts (exists a) h = cc
