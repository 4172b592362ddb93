-- Opening a formula node by node.
use Rattle.std.proofs.Common.{◌≡◌, ℕ, ◌≤◌, ◌+◌, List, [], ◌∷◌, ◌++◌, length, drop, refl, ap, sym, ◌∙◌, append-nil, arith}
use Rattle.std.proofs.lemmas.List.{drop_all}
use Rattle.std.proofs.Math.Nat.{min-eq_left}
use Rattle.std.specs.Prelude.{Bool, true, false, suc, nat_eq, if◌then◌else◌, Some}
use Rattle.std.specs.Option.{IsSome}
use Rattle.fpc_terms.specs.declared.cell.Cell.{Cell}
use Rattle.fpc_terms.specs.declared.cell.Cell.TheVariants.{Bound}
use Rattle.fpc_terms.specs.Term.{Term, Args, eigen, bound, variable, app, no_args, arg, count, cells_of, cells_before, all_before, open_term, open_args}
use Rattle.polarised_formulas.specs.declared.node.Node.{Node}
use Rattle.polarised_formulas.specs.Formula.{Formula, truth, falsity, atom, conj, disj, implies, for_all, exists, nodes_before, nodes_of, formula_of, formula_of-nodes_of, IsOneFormula, inside_before, open_at, opened}
use Rattle.polarised_formulas.specs.Opened.{opened_nodes, deeper}
use Rattle.polarised_formulas.proofs.PartFacts.{node_count, inside_before-append, length-nodes_before}

mutual
  cells_before-append : (t : Term) (cs ds : List Cell) → cells_before t cs ++ ds ≡ cells_before t (cs ++ ds)
  cells_before-append (eigen n) cs ds = refl
  cells_before-append (bound n) cs ds = refl
  cells_before-append (variable n) cs ds = refl
  cells_before-append (app f ts) cs ds = rw (all_before-append ts cs ds)

  all_before-append : (ts : Args) (cs ds : List Cell) → all_before ts cs ++ ds ≡ all_before ts (cs ++ ds)
  all_before-append no_args cs ds = refl
  all_before-append (arg t ts) cs ds = rw (cells_before-append t (all_before ts cs) ds, all_before-append ts cs ds)

inside_before-joined : (cs ds : List Cell) (ns : List Node) → inside_before (cs ++ ds) ns ≡ inside_before cs (inside_before ds ns)
inside_before-joined [] ds ns = refl
inside_before-joined (c ∷ cs) ds ns = rw (inside_before-joined cs ds ns)

-- the cells of the first argument stand before those of the others
first_inside : (t : Term) (cs : List Cell) (ns : List Node) → inside_before (cells_before t cs) ns ≡ inside_before (cells_of t) (inside_before cs ns)
first_inside t cs ns = rw (← inside_before-joined (cells_of t) cs ns, cells_before-append t [] cs)

count-open_args : (d : ℕ) (t : Term) (us : Args) → count (open_args d t us) ≡ count us
count-open_args d t no_args = refl
count-open_args d t (arg u us) = ap suc (count-open_args d t us)

bound_opened : (t : Term) (j : ℕ) (b : Bool) (ns : List Node) →
    inside_before (if b then cells_of t else (Bound j ∷ [])) [] ++ ns ≡ inside_before (cells_of (if b then t else bound j)) ns
bound_opened t j true ns = inside_before-append (cells_of t) [] ns
bound_opened t j false ns = refl

module _ (t : Term) (d : ℕ) (s : List ℕ) where
  mutual
    opened-cells_before : (u : Term) (cs : List Cell) (ns : List Node) →
        opened_nodes t d s (inside_before (cells_before u cs) ns) ≡ inside_before (cells_of (open_term d t u)) (opened_nodes t d s (inside_before cs ns))
    opened-cells_before (eigen n) cs ns = refl
    opened-cells_before (bound j) cs ns = bound_opened t j (nat_eq j d) (opened_nodes t d s (inside_before cs ns))
    opened-cells_before (variable n) cs ns = refl
    opened-cells_before (app f us) cs ns = rw (opened-all_before us cs ns, count-open_args d t us)

    opened-all_before : (us : Args) (cs : List Cell) (ns : List Node) →
        opened_nodes t d s (inside_before (all_before us cs) ns) ≡ inside_before (all_before (open_args d t us) []) (opened_nodes t d s (inside_before cs ns))
    opened-all_before no_args cs ns = refl
    opened-all_before (arg u us) cs ns =
        rw (opened-cells_before u (all_before us cs) ns, opened-all_before us cs ns, first_inside (open_term d t u) (all_before (open_args d t us) []) (opened_nodes t d s (inside_before cs ns)))

-- the depth of the last literal or unit of a formula at depth e
abbrev pub last_depth : ℕ → Formula → ℕ
last_depth e (truth p) = e
last_depth e (falsity p) = e
last_depth e (atom positive name ts) = e
last_depth e (conj p a b) = last_depth e b
last_depth e (disj p a b) = last_depth e b
last_depth e (implies a b) = last_depth e b
last_depth e (for_all a) = last_depth (suc e) a
last_depth e (exists a) = last_depth (suc e) a

pub deeper-low : (e : ℕ) → suc e ≤ 18446744073709551615 → deeper e ≡ suc e
deeper-low e h = min-eq_left h

opened-nodes_before : (t : Term) (f : Formula) (d e : ℕ) (s : List ℕ) (ns : List Node) → e + node_count f ≤ 18446744073709551615 →
    opened_nodes t d (e ∷ s) (nodes_before f ns) ≡ nodes_before (open_at e t f) (opened_nodes t (last_depth e f) s ns)
opened-nodes_before t (truth p) d e s ns h = refl
opened-nodes_before t (falsity p) d e s ns h = refl
opened-nodes_before t (atom positive name us) d e s ns h = rw (opened-all_before t e s us [] ns, count-open_args e t us)
opened-nodes_before t (conj p a b) d e s ns h =
    rw (opened-nodes_before t a e e (e ∷ s) (nodes_before b ns) (omega arith), opened-nodes_before t b (last_depth e a) e s ns (omega arith))
opened-nodes_before t (disj p a b) d e s ns h =
    rw (opened-nodes_before t a e e (e ∷ s) (nodes_before b ns) (omega arith), opened-nodes_before t b (last_depth e a) e s ns (omega arith))
opened-nodes_before t (implies a b) d e s ns h =
    rw (opened-nodes_before t a e e (e ∷ s) (nodes_before b ns) (omega arith), opened-nodes_before t b (last_depth e a) e s ns (omega arith))
opened-nodes_before t (for_all a) d e s ns h = rw (deeper-low e (omega arith), opened-nodes_before t a e (suc e) s ns (omega arith))
opened-nodes_before t (exists a) d e s ns h = rw (deeper-low e (omega arith), opened-nodes_before t a e (suc e) s ns (omega arith))

-- nodes that are those of a quantified formula's body with the term put in
pub record AreOpened (t : Term) (f : Formula) (ns : List Node) : Type 0 where
  pub one : IsOneFormula ns
  pub value : opened t f ≡ Some (formula_of ns)

opened_body : (t : Term) (f a : Formula) → opened t f ≡ Some (open_at 0 t a) → length (nodes_of a) ≤ 18446744073709551615 → AreOpened t f (opened_nodes t 0 (0 ∷ []) (nodes_of a))
opened_body t f a is_made small =
    let e = opened-nodes_before t a 0 0 [] [] (omega (arith, length-nodes_before a [])) in
    record { one = rw (e, formula_of-nodes_of (open_at 0 t a)); value = rw (e, formula_of-nodes_of (open_at 0 t a)) is_made }

-- behind the outermost node stands the body
pub are_opened : (t : Term) (f : Formula) → IsSome (opened t f) → length (drop 1 (nodes_of f)) ≤ 18446744073709551615 →
    AreOpened t f (opened_nodes t 0 (0 ∷ []) (drop 1 (nodes_of f)))
are_opened t (truth p) h small = cc
are_opened t (falsity p) h small = cc
are_opened t (atom positive name ts) h small = cc
are_opened t (conj p a b) h small = cc
are_opened t (disj p a b) h small = cc
are_opened t (implies a b) h small = cc
are_opened t (for_all a) h small = opened_body t (for_all a) a refl small
are_opened t (exists a) h small = opened_body t (exists a) a refl small

-- when no node is left, the nodes that were put out are the opened ones
pub are_finished : (t : Term) (f : Formula) (out ns : List Node) (d : ℕ) (s : List ℕ) (i : ℕ) →
    IsSome (opened t f) → ns ≡ drop 1 (nodes_of f) → length ns ≤ 18446744073709551615 → length ns ≤ i →
    out ++ opened_nodes t d s (drop i ns) ≡ opened_nodes t 0 (0 ∷ []) ns → AreOpened t f out
are_finished t f out ns d s i quantified is_body small over so_far =
    let e : out ≡ opened_nodes t 0 (0 ∷ []) ns = sym (append-nil out) ∙ (rw (drop_all i ns over) at so_far) in
    rw (e, is_body) (are_opened t f quantified (rw is_body at small))
