-- Parts of a formula among its nodes, and the sizes of the nodes' formulas and terms.
use Rattle.std.proofs.Common.{◌≡◌, ℕ, ◌<◌, ◌≤◌, ◌+◌, List, [], ◌∷◌, length, take, drop, get_or, refl, ap, sym, arith, subst, length-drop}
use Rattle.std.proofs.lemmas.List.{drop-drop, drop-take, drop-set, drop_more}
use Rattle.std.specs.Prelude.{suc, zero, set}
use Rattle.fpc_terms.specs.Term.{Term, Args, eigen, bound, variable, app, no_args, arg, Each, EachArg, Always}
use Rattle.polarised_formulas.specs.declared.node.Node.{Node}
use Rattle.polarised_formulas.specs.Formula.{Formula, truth, falsity, atom, conj, disj, implies, for_all, exists, nodes_before, nodes_of, formula_of, formulas_of-nodes_before}
use Rattle.polarised_formulas.specs.Nodes.{arity, front_length}
use Rattle.polarised_formulas.specs.Closure.{IsReached, IsAt}
use Rattle.polarised_formulas.specs.Parts.{left_of, right_of, body_of, IsPair, IsQuantified}
use Rattle.polarised_formulas.specs.Sizes.{sizes_of, kept_sizes}
use Rattle.polarised_formulas.proofs.PartFacts.{take-first, drop-first, length-nodes_before, node_count}

pub formula-first : (f : Formula) (ns : List Node) → formula_of (nodes_before f ns) ≡ f
formula-first f ns = rw (formulas_of-nodes_before f ns)

-- the nodes begin with those of the formula
pub record Begins (ns : List Node) (m p : ℕ) (f : Formula) : Type 0 where
  pub at : IsAt ns m p
  pub is : formula_of ns ≡ f

pub begins : (f : Formula) (ns : List Node) (m p : ℕ) → IsReached m p 0 f → Begins (nodes_before f ns) m p f
begins f ns m p h = record {
  at = record { whole = rw (formula-first f ns, drop-first f ns); reach = rw (formula-first f ns) h };
  is = formula-first f ns;
}

pub begins_root : (f : Formula) (m p : ℕ) → IsReached m p 0 f → Begins (nodes_of f) m p f
begins_root f m p h = begins f [] m p h

mutual
  shift-term : (m p d : ℕ) (t : Term) → Each Always (λ k. k < suc d + m) (λ v. v < p) t → Each Always (λ k. k < d + suc m) (λ v. v < p) t
  shift-term m p d (eigen n) h = tt
  shift-term m p d (bound k) h = omega arith
  shift-term m p d (variable v) h = h
  shift-term m p d (app f ts) h = shift-args m p d ts h

  shift-args : (m p d : ℕ) (ts : Args) → EachArg Always (λ k. k < suc d + m) (λ v. v < p) ts → EachArg Always (λ k. k < d + suc m) (λ v. v < p) ts
  shift-args m p d no_args h = tt
  shift-args m p d (arg t ts) h = (shift-term m p d t h.0, shift-args m p d ts h.1)

shift : (m p d : ℕ) (f : Formula) → IsReached m p (suc d) f → IsReached (suc m) p d f
shift m p d (truth q) h = tt
shift m p d (falsity q) h = tt
shift m p d (atom positive name ts) h = shift-args m p d ts h
shift m p d (conj q a b) h = (shift m p d a h.0, shift m p d b h.1)
shift m p d (disj q a b) h = (shift m p d a h.0, shift m p d b h.1)
shift m p d (implies a b) h = (shift m p d a h.0, shift m p d b h.1)
shift m p d (for_all a) h = shift m p (suc d) a h
shift m p d (exists a) h = shift m p (suc d) a h

-- the same by the two parts
left_two : (a b f : Formula) (ns : List Node) (m p : ℕ) → left_of f ≡ a → IsReached m p 0 a → Begins (nodes_before a (nodes_before b ns)) m p (left_of f)
left_two a b f ns m p e h = rw e (begins a (nodes_before b ns) m p h)

right_two : (a b f : Formula) (ns : List Node) (m p : ℕ) → right_of f ≡ b → IsReached m p 0 b →
    Begins (drop (front_length 1 (nodes_before a (nodes_before b ns))) (nodes_before a (nodes_before b ns))) m p (right_of f)
right_two a b f ns m p e h = rw (e, drop-first a (nodes_before b ns)) (begins b ns m p h)

left_begins : (f : Formula) (ns : List Node) (m p : ℕ) → IsReached m p 0 f → IsPair f → Begins (drop 1 (nodes_before f ns)) m p (left_of f)
left_begins (truth q) ns m p h i = absurd i
left_begins (falsity q) ns m p h i = absurd i
left_begins (atom positive name ts) ns m p h i = absurd i
left_begins (conj q a b) ns m p h i = left_two a b (conj q a b) ns m p refl h.0
left_begins (disj q a b) ns m p h i = left_two a b (disj q a b) ns m p refl h.0
left_begins (implies a b) ns m p h i = left_two a b (implies a b) ns m p refl h.0
left_begins (for_all a) ns m p h i = absurd i
left_begins (exists a) ns m p h i = absurd i

right_begins : (f : Formula) (ns : List Node) (m p : ℕ) → IsReached m p 0 f → IsPair f →
    Begins (drop (front_length 1 (drop 1 (nodes_before f ns))) (drop 1 (nodes_before f ns))) m p (right_of f)
right_begins (truth q) ns m p h i = absurd i
right_begins (falsity q) ns m p h i = absurd i
right_begins (atom positive name ts) ns m p h i = absurd i
right_begins (conj q a b) ns m p h i = right_two a b (conj q a b) ns m p refl h.1
right_begins (disj q a b) ns m p h i = right_two a b (disj q a b) ns m p refl h.1
right_begins (implies a b) ns m p h i = right_two a b (implies a b) ns m p refl h.1
right_begins (for_all a) ns m p h i = absurd i
right_begins (exists a) ns m p h i = absurd i

body_begins : (f : Formula) (ns : List Node) (m p : ℕ) → IsReached m p 0 f → IsQuantified f → Begins (drop 1 (nodes_before f ns)) (suc m) p (body_of f)
body_begins (truth q) ns m p h i = absurd i
body_begins (falsity q) ns m p h i = absurd i
body_begins (atom positive name ts) ns m p h i = absurd i
body_begins (conj q a b) ns m p h i = absurd i
body_begins (disj q a b) ns m p h i = absurd i
body_begins (implies a b) ns m p h i = absurd i
body_begins (for_all a) ns m p h i = begins a ns (suc m) p (shift m p 0 a h)
body_begins (exists a) ns m p h i = begins a ns (suc m) p (shift m p 0 a h)

-- the same of nodes that begin with a formula's
pub left_at : (ns : List Node) (m p : ℕ) → IsAt ns m p → IsPair (formula_of ns) → Begins (drop 1 ns) m p (left_of (formula_of ns))
left_at ns m p h i =
    subst (λ (ms : List Node). Begins (drop 1 ms) m p (left_of (formula_of ns))) h.whole (left_begins (formula_of ns) (drop (front_length 1 ns) ns) m p h.reach i)

pub right_at : (ns : List Node) (m p : ℕ) → IsAt ns m p → IsPair (formula_of ns) →
    Begins (drop (front_length 1 (drop 1 ns)) (drop 1 ns)) m p (right_of (formula_of ns))
right_at ns m p h i =
    subst (λ (ms : List Node). Begins (drop (front_length 1 (drop 1 ms)) (drop 1 ms)) m p (right_of (formula_of ns))) h.whole
    (right_begins (formula_of ns) (drop (front_length 1 ns) ns) m p h.reach i)

pub body_at : (ns : List Node) (m p : ℕ) → IsAt ns m p → IsQuantified (formula_of ns) → Begins (drop 1 ns) (suc m) p (body_of (formula_of ns))
body_at ns m p h i =
    subst (λ (ms : List Node). Begins (drop 1 ms) (suc m) p (body_of (formula_of ns))) h.whole (body_begins (formula_of ns) (drop (front_length 1 ns) ns) m p h.reach i)

-- how long the nodes of a part are, and which they are
pub nodes_at : (ns : List Node) (m p : ℕ) → IsAt ns m p → take (front_length 1 ns) ns ≡ nodes_of (formula_of ns)
nodes_at ns m p h =
    subst (λ (ms : List Node). take (front_length 1 ms) ms ≡ nodes_of (formula_of ns)) h.whole (take-first (formula_of ns) (drop (front_length 1 ns) ns))

pub node_count_positive : (f : Formula) → 0 < node_count f
node_count_positive (truth p) = omega arith
node_count_positive (falsity p) = omega arith
node_count_positive (atom positive name ts) = omega arith
node_count_positive (conj p a b) = omega arith
node_count_positive (disj p a b) = omega arith
node_count_positive (implies a b) = omega arith
node_count_positive (for_all a) = omega arith
node_count_positive (exists a) = omega arith

-- sizes
front-nil : (w : ℕ) → front_length w [] ≡ 0
front-nil zero = refl
front-nil (suc w) = refl

pub front_le : (ns : List Node) (w : ℕ) → front_length w ns ≤ length ns
front_le [] w = rw (front-nil w) (omega arith)
front_le (n ∷ ns) zero = omega arith
front_le (n ∷ ns) (suc w) = omega (arith, front_le ns (w + arity n))

pub front-split : (ns : List Node) (a b : ℕ) → front_length (a + b) ns ≡ front_length a ns + front_length b (drop (front_length a ns) ns)
front-split [] a b = rw (front-nil (a + b), front-nil a, front-nil b)
front-split (n ∷ ns) zero b = let e : 0 + b ≡ b = omega arith in rw e (omega arith)
front-split (n ∷ ns) (suc a) b =
    let e : suc a + b ≡ suc (a + b) = omega arith in
    let k : (a + b) + arity n ≡ (a + arity n) + b = omega arith in
    rw (e, k) (omega (arith, front-split ns (a + arity n) b))

pub sizes-get : (ns : List Node) (i : ℕ) → get_or (sizes_of ns) i 0 ≡ front_length 1 (drop i ns)
sizes-get [] zero = refl
sizes-get [] (suc i) = refl
sizes-get (n ∷ ns) zero = let e : 0 + arity n ≡ arity n = omega arith in rw e
sizes-get (n ∷ ns) (suc i) = sizes-get ns i

pub length-sizes : (ns : List Node) → length (sizes_of ns) ≡ length ns
length-sizes [] = refl
length-sizes (n ∷ ns) = ap suc (length-sizes ns)

-- the size at a place, and the places behind it
pub sizes-step : (ns : List Node) (total i : ℕ) → total ≡ front_length i ns → total + get_or (sizes_of ns) total 0 ≡ front_length (i + 1) ns
sizes-step ns total i h = rw (h, sizes-get ns (front_length i ns)) (sym (front-split ns i 1))

pub sizes-room : (ns : List Node) (total i : ℕ) → total ≡ front_length i ns → total + get_or (sizes_of ns) total 0 ≤ length ns
sizes-room ns total i h = rw (sizes-step ns total i h) (front_le ns (i + 1))

pub sizes-cons : (n : Node) (ns : List Node) → sizes_of (n ∷ ns) ≡ (1 + front_length (arity n) ns) ∷ sizes_of ns
sizes-cons n ns = let e : 1 + front_length (arity n) ns ≡ suc (front_length (arity n) ns) = omega arith in rw e

pub begins_not_empty : (ns : List Node) (m p : ℕ) → IsAt ns m p → 0 < length ns
begins_not_empty ns m p h = subst (λ (ms : List Node). 0 < length ms) h.whole (omega (arith, length-nodes_before (formula_of ns) (drop (front_length 1 ns) ns), node_count_positive (formula_of ns)))

-- the size at a place of the nodes, whatever is taken where there is none
sizes-at : (ns : List Node) (i d : ℕ) → i < length ns → get_or (sizes_of ns) i d ≡ front_length 1 (drop i ns)
sizes-at [] i d h = let none : ⊥ = omega arith in absurd none
sizes-at (n ∷ ns) zero d h = let e : 0 + arity n ≡ arity n = omega arith in rw e
sizes-at (n ∷ ns) (suc i) d h = sizes-at ns i d (omega arith)

-- the same of the sizes that are kept: one node is a part of size 1
kept-at : (ns : List Node) (i : ℕ) → i < length ns → get_or (kept_sizes ns) i 1 ≡ front_length 1 (drop i ns)
kept-at [] i h = let none : ⊥ = omega arith in absurd none
kept-at (n ∷ []) zero h = rw (front-nil (0 + arity n))
kept-at (n ∷ []) (suc i) h = let none : ⊥ = omega arith in absurd none
kept-at (n ∷ m ∷ ns) i h = sizes-at (n ∷ m ∷ ns) i 1 h

-- the part at a place ends within the nodes
pub end_within : (ns : List Node) (place : ℕ) → place < length ns → place + front_length 1 (drop place ns) ≤ length ns
end_within ns place h = omega (arith, front_le (drop place ns) 1, length-drop place ns)

pub end_value : (ns : List Node) (place : ℕ) → place < length ns → place + get_or (kept_sizes ns) place 1 ≡ place + front_length 1 (drop place ns)
end_value ns place h = rw (kept-at ns place h)

-- one more size, from the end
pub sizes-fill : (ns : List Node) (ss : List ℕ) (i : ℕ) (d : Node) → i < length ns → length ss ≡ length ns → drop (i + 1) ss ≡ sizes_of (drop (i + 1) ns) →
    drop i (set ss i (suc (front_length (arity (get_or ns i d)) (drop (i + 1) ns)))) ≡ sizes_of (drop i ns)
sizes-fill ns ss i d h l e =
    let k : i < length ss = omega arith in
    rw (drop-set ss i (suc (front_length (arity (get_or ns i d)) (drop (i + 1) ns))) k, drop_more ns i d h, e)

-- the parts of the part at a place
pub left_made : (nodes : List Node) (from m p : ℕ) → IsAt (drop from nodes) m p → IsPair (formula_of (drop from nodes)) →
    Begins (drop (from + 1) nodes) m p (left_of (formula_of (drop from nodes)))
left_made nodes from m p h i = rw (← drop-drop 1 from nodes) (left_at (drop from nodes) m p h i)

pub right_made : (nodes : List Node) (from m p : ℕ) → IsAt (drop from nodes) m p → IsPair (formula_of (drop from nodes)) →
    Begins (drop (from + 1 + front_length 1 (drop (from + 1) nodes)) nodes) m p (right_of (formula_of (drop from nodes)))
right_made nodes from m p h i =
    rw (← drop-drop (front_length 1 (drop (from + 1) nodes)) (from + 1) nodes, ← drop-drop 1 from nodes) (right_at (drop from nodes) m p h i)

pub body_made : (nodes : List Node) (from m p : ℕ) → IsAt (drop from nodes) m p → IsQuantified (formula_of (drop from nodes)) →
    Begins (drop (from + 1) nodes) (suc m) p (body_of (formula_of (drop from nodes)))
body_made nodes from m p h i = rw (← drop-drop 1 from nodes) (body_at (drop from nodes) m p h i)

pub nodes_made : (nodes : List Node) (from m p : ℕ) → IsAt (drop from nodes) m p →
    drop from (take (from + front_length 1 (drop from nodes)) nodes) ≡ nodes_of (formula_of (drop from nodes))
nodes_made nodes from m p h = rw (drop-take from (front_length 1 (drop from nodes)) nodes) (nodes_at (drop from nodes) m p h)
