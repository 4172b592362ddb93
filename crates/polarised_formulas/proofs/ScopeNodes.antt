-- The tests of scope, node by node.
use Rattle.std.proofs.Common.{◌≡◌, ℕ, ◌≤◌, ◌+◌, List, [], ◌∷◌, ◌<◌, length, drop, get_or, refl, ◌∙◌, arith}
use Rattle.std.proofs.lemmas.List.{drop_all}
use Rattle.std.proofs.Math.Seq.{drop-cons}
use Rattle.std.specs.Prelude.{suc, Bool, true, false, ◌&&◌}
use Rattle.std.specs.List.{list_all}
use Rattle.std.proofs.Math.Bool.{and_assoc}
use Rattle.std.proofs.Math.Nat.{min-eq_left}
use Rattle.fpc_terms.specs.declared.cell.Cell.{Cell}
use Rattle.fpc_terms.specs.Term.{Term, Args, eigen, bound, variable, app, no_args, arg, cells_before, all_before, cells_of}
use Rattle.polarised_formulas.specs.declared.node.Node.{Node}
use Rattle.polarised_formulas.specs.Formula.{Formula, truth, falsity, atom, conj, disj, implies, for_all, exists, nodes_before, nodes_of, inside_before}
use Rattle.polarised_formulas.specs.Opened.{deeper}
use Rattle.polarised_formulas.proofs.PartFacts.{node_count, length-nodes_before}
use Rattle.polarised_formulas.specs.declared.logic.Logic.{Logic}
use Rattle.polarised_formulas.specs.Scope.{is_scoped, are_scoped, may_be_cut, is_scoped_cell, is_cut_node, are_cut_nodes}

-- a test and one that passes
and_passed : (b : Bool) → (b && true) ≡ b
and_passed true = refl
and_passed false = refl

module _ (n d : ℕ) where
  mutual
    all-cells_before : (t : Term) (cs : List Cell) → list_all (is_scoped_cell n d) (cells_before t cs) ≡ (is_scoped n d t && list_all (is_scoped_cell n d) cs)
    all-cells_before (eigen m) cs = refl
    all-cells_before (bound k) cs = refl
    all-cells_before (variable v) cs = refl
    all-cells_before (app f ts) cs = all-all_before ts cs

    all-all_before : (ts : Args) (cs : List Cell) → list_all (is_scoped_cell n d) (all_before ts cs) ≡ (are_scoped n d ts && list_all (is_scoped_cell n d) cs)
    all-all_before no_args cs = refl
    all-all_before (arg t ts) cs = rw (all-cells_before t (all_before ts cs), all-all_before ts cs, and_assoc)

-- the cells of a term pass one by one exactly where the term does
pub all-cells_of : (n : ℕ) (t : Term) → list_all (is_scoped_cell n 0) (cells_of t) ≡ is_scoped n 0 t
all-cells_of n t = rw (all-cells_before n 0 t [], and_passed (is_scoped n 0 t))

-- cells before other nodes
are_cut-inside_before : (l : Logic) (n d : ℕ) (s : List ℕ) (cs : List Cell) (ns : List Node) →
    are_cut_nodes l n d s (inside_before cs ns) ≡ (list_all (is_scoped_cell n d) cs && are_cut_nodes l n d s ns)
are_cut-inside_before l n d s [] ns = refl
are_cut-inside_before l n d s (c ∷ cs) ns = rw (are_cut-inside_before l n d s cs ns, and_assoc)

-- the depth of the last literal or unit of a formula at depth e
abbrev last_depth : ℕ → Formula → ℕ
last_depth e (truth p) = e
last_depth e (falsity p) = e
last_depth e (atom positive name ts) = e
last_depth e (conj p a b) = last_depth e b
last_depth e (disj p a b) = last_depth e b
last_depth e (implies a b) = last_depth e b
last_depth e (for_all a) = last_depth (suc e) a
last_depth e (exists a) = last_depth (suc e) a

-- a depth that is not at the end of its type
deeper-low : (e : ℕ) → suc e ≤ 18446744073709551615 → deeper e ≡ suc e
deeper-low e h = min-eq_left h

-- the nodes of a formula before others
are_cut-nodes_before : (l : Logic) (n : ℕ) (f : Formula) (d e : ℕ) (s : List ℕ) (ns : List Node) → e + node_count f ≤ 18446744073709551615 →
    are_cut_nodes l n d (e ∷ s) (nodes_before f ns) ≡ (may_be_cut l n e f && are_cut_nodes l n (last_depth e f) s ns)
are_cut-nodes_before l n (truth p) d e s ns h = refl
are_cut-nodes_before l n (falsity p) d e s ns h = refl
are_cut-nodes_before l n (atom positive name ts) d e s ns h =
    rw (are_cut-inside_before l n e s (all_before ts []) ns, all-all_before n e ts [], and_passed (are_scoped n e ts))
are_cut-nodes_before l n (conj p a b) d e s ns h =
    rw (are_cut-nodes_before l n a e e (e ∷ s) (nodes_before b ns) (omega arith), are_cut-nodes_before l n b (last_depth e a) e s ns (omega arith), and_assoc)
are_cut-nodes_before l n (disj p a b) d e s ns h =
    rw (are_cut-nodes_before l n a e e (e ∷ s) (nodes_before b ns) (omega arith), are_cut-nodes_before l n b (last_depth e a) e s ns (omega arith), and_assoc, and_assoc)
are_cut-nodes_before l n (implies a b) d e s ns h =
    rw (are_cut-nodes_before l n a e e (e ∷ s) (nodes_before b ns) (omega arith), are_cut-nodes_before l n b (last_depth e a) e s ns (omega arith), and_assoc, and_assoc)
are_cut-nodes_before l n (for_all a) d e s ns h = rw (deeper-low e (omega arith), are_cut-nodes_before l n a e (suc e) s ns (omega arith))
are_cut-nodes_before l n (exists a) d e s ns h = rw (deeper-low e (omega arith), are_cut-nodes_before l n a e (suc e) s ns (omega arith))

-- the first formula is under no quantifier, whether that is told or not
are_cut-first : (l : Logic) (n : ℕ) (f : Formula) (ns : List Node) → are_cut_nodes l n 0 [] (nodes_before f ns) ≡ are_cut_nodes l n 0 (0 ∷ []) (nodes_before f ns)
are_cut-first l n (truth p) ns = refl
are_cut-first l n (falsity p) ns = refl
are_cut-first l n (atom positive name ts) ns = refl
are_cut-first l n (conj p a b) ns = refl
are_cut-first l n (disj p a b) ns = refl
are_cut-first l n (implies a b) ns = refl
are_cut-first l n (for_all a) ns = refl
are_cut-first l n (exists a) ns = refl

-- the nodes of a formula pass one by one exactly where the formula does
pub are_cut-nodes_of : (l : Logic) (n : ℕ) (f : Formula) → length (nodes_of f) ≤ 18446744073709551615 → are_cut_nodes l n 0 [] (nodes_of f) ≡ may_be_cut l n 0 f
are_cut-nodes_of l n f small =
    rw (are_cut-first l n f [], are_cut-nodes_before l n f 0 0 [] [] (omega (arith, length-nodes_before f [])), and_passed (may_be_cut l n 0 f))

-- when no node is left, all of them passed
pub may_be_cut-passed : (l : Logic) (n : ℕ) (f : Formula) (ns : List Node) (d : ℕ) (s : List ℕ) (i : ℕ) → ns ≡ nodes_of f → length ns ≤ 18446744073709551615 → length ns ≤ i →
    are_cut_nodes l n d s (drop i ns) ≡ are_cut_nodes l n 0 [] ns → true ≡ may_be_cut l n 0 f
may_be_cut-passed l n f ns d s i is_all small over so_far =
    let e : true ≡ are_cut_nodes l n 0 [] ns = rw (drop_all i ns over) at so_far in
    e ∙ (rw is_all (are_cut-nodes_of l n f (rw is_all at small)))

-- a node does not pass
pub may_be_cut-stopped : (l : Logic) (n : ℕ) (f : Formula) (ns : List Node) (d : ℕ) (s : List ℕ) (i : ℕ) (x : Node) → ns ≡ nodes_of f → length ns ≤ 18446744073709551615 → i < length ns →
    x ≡ get_or ns i x → is_cut_node l n d x ≡ false → are_cut_nodes l n d s (drop i ns) ≡ are_cut_nodes l n 0 [] ns → false ≡ may_be_cut l n 0 f
may_be_cut-stopped l n f ns d s i x is_all small within item stops so_far =
    let here : drop i ns ≡ x ∷ drop (suc i) ns = rw (← item) at (drop-cons ns i x within) in
    let e : false ≡ are_cut_nodes l n 0 [] ns = rw (here, stops) at so_far in
    e ∙ (rw is_all (are_cut-nodes_of l n f (rw is_all at small)))

pub ruleset scope_facts = (all-cells_of, are_cut-nodes_of)
