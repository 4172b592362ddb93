-- What the nodes of an unfinished formula are like.
use Rattle.std.proofs.Common.{◌≡◌, ℕ, suc, ◌<◌, ◌≤◌, ◌-◌, List, [], ◌∷◌, ◌++◌, length, take, drop, get_or, reverse, refl, sym, ap, ◌∙◌, subst, arith, length-append}
use Rattle.std.specs.Prelude.{Bool, true, false, not, Some, None, slice_set, slice_get}
use Rattle.std.proofs.Math.Seq.{take-append_seam, drop-append_seam, set-append_seam, drop-cons}
use Rattle.std.proofs.lemmas.List.{take-append-drop, length-take-le, reverse-append, drop_all}
use Rattle.std.proofs.lemmas.Option.{slice_get_within, get_or_from_slice_get}
use Rattle.fpc_terms.specs.declared.cell.Cell.{Cell}
use Rattle.fpc_terms.specs.Term.{count, all_before}
use Rattle.polarised_formulas.specs.declared.node.Node.{Node}
use Rattle.polarised_formulas.specs.declared.node.Node.TheVariants.{Atom, And, Or, Implies, ForAll, Exists, Inside}
use Rattle.polarised_formulas.specs.Formula.{Formula, truth, falsity, atom, conj, disj, implies, for_all, exists, inside_before, nodes_before, nodes_of, formula_of, formulas_of, first_formula, later_formulas, formulas_of-nodes_before, formula_of-nodes_of, IsOneFormula}
use Rattle.polarised_formulas.specs.declared.connective.Joiner as joiner
use Rattle.polarised_formulas.specs.declared.connective.Binder as binder
use Rattle.polarised_formulas.specs.declared.builder.Around.{Around}
use Rattle.polarised_formulas.specs.declared.builder.Around.TheVariants.{First, Second, Under}
use Rattle.polarised_formulas.specs.Unfinished.{join, bind, joiner_node, binder_node, Hole, first_of, second_of, under, Unfinished, wants, has, hole_from, holes_in, quantifiers_in, is_wanting, placed, opened, quantified, left_of, left, takes_joiner, joined, takes_close, closed, whole, nodes_to, around_of, holes_of, formula_in, unfinished_of, Holds, IsOf, unders_left, count_unders, first_slot, first_turned, begins_second, second_left}

pub inside_before-append : (cs : List Cell) (xs ys : List Node) → inside_before cs xs ++ ys ≡ inside_before cs (xs ++ ys)
inside_before-append [] xs ys = refl
inside_before-append (c ∷ cs) xs ys = ap (λ ns. Inside c ∷ ns) (inside_before-append cs xs ys)

pub nodes_before-append : (f : Formula) (xs ys : List Node) → nodes_before f xs ++ ys ≡ nodes_before f (xs ++ ys)
nodes_before-append (truth p) xs ys = refl
nodes_before-append (falsity p) xs ys = refl
nodes_before-append (atom positive name ts) xs ys = ap (λ ns. Atom positive name (count ts) ∷ ns) (inside_before-append (all_before ts []) xs ys)
nodes_before-append (conj p a b) xs ys = ap (λ ns. And p ∷ ns) (nodes_before-append a (nodes_before b xs) ys ∙ ap (nodes_before a) (nodes_before-append b xs ys))
nodes_before-append (disj p a b) xs ys = ap (λ ns. Or p ∷ ns) (nodes_before-append a (nodes_before b xs) ys ∙ ap (nodes_before a) (nodes_before-append b xs ys))
nodes_before-append (implies a b) xs ys = ap (λ ns. Implies ∷ ns) (nodes_before-append a (nodes_before b xs) ys ∙ ap (nodes_before a) (nodes_before-append b xs ys))
nodes_before-append (for_all a) xs ys = ap (λ ns. ForAll ∷ ns) (nodes_before-append a xs ys)
nodes_before-append (exists a) xs ys = ap (λ ns. Exists ∷ ns) (nodes_before-append a xs ys)

pub nodes_to-append : (hs : List Hole) (xs ys : List Node) → nodes_to hs xs ++ ys ≡ nodes_to hs (xs ++ ys)
nodes_to-append [] xs ys = refl
nodes_to-append (first_of ∷ hs) xs ys = nodes_to-append hs (Implies ∷ xs) ys
nodes_to-append (second_of j a ∷ hs) xs ys = nodes_to-append hs (joiner_node j ∷ nodes_before a xs) ys ∙ ap (λ ns. nodes_to hs (joiner_node j ∷ ns)) (nodes_before-append a xs ys)
nodes_to-append (under q ∷ hs) xs ys = nodes_to-append hs (binder_node q ∷ xs) ys

-- the nodes so far, and others behind them
pub nodes_to-split : (hs : List Hole) (ns : List Node) → nodes_to hs ns ≡ nodes_to hs [] ++ ns
nodes_to-split hs ns = sym (nodes_to-append hs [] ns)

pub take-nodes_to : (hs : List Hole) (ns : List Node) → take (length (nodes_to hs [])) (nodes_to hs ns) ≡ nodes_to hs []
take-nodes_to hs ns = ap (take (length (nodes_to hs []))) (nodes_to-split hs ns) ∙ take-append_seam (nodes_to hs []) ns

pub drop-nodes_to : (hs : List Hole) (ns : List Node) → drop (length (nodes_to hs [])) (nodes_to hs ns) ≡ ns
drop-nodes_to hs ns = ap (drop (length (nodes_to hs []))) (nodes_to-split hs ns) ∙ drop-append_seam (nodes_to hs []) ns

pub nodes_before-join : (j : joiner.Joiner) (a b : Formula) (ns : List Node) → nodes_before (join j a b) ns ≡ joiner_node j ∷ nodes_before a (nodes_before b ns)
nodes_before-join (joiner.TheVariants.And p) a b ns = refl
nodes_before-join (joiner.TheVariants.Or p) a b ns = refl
nodes_before-join joiner.TheVariants.Implies a b ns = refl

pub nodes_before-bind : (q : binder.Binder) (a : Formula) (ns : List Node) → nodes_before (bind q a) ns ≡ binder_node q ∷ nodes_before a ns
nodes_before-bind binder.TheVariants.ForAll a ns = refl
nodes_before-bind binder.TheVariants.Exists a ns = refl

pub formula_of-nodes_before : (a : Formula) (ns : List Node) → formula_of (nodes_before a ns) ≡ a
formula_of-nodes_before a ns = ap first_formula (formulas_of-nodes_before a ns)

pub hole_from-second : (j : joiner.Joiner) (a : Formula) (ns : List Node) → hole_from (joiner_node j ∷ nodes_before a ns) ≡ second_of j a
hole_from-second (joiner.TheVariants.And p) a ns = ap (second_of (joiner.TheVariants.And p)) (formula_of-nodes_before a ns)
hole_from-second (joiner.TheVariants.Or p) a ns = ap (second_of (joiner.TheVariants.Or p)) (formula_of-nodes_before a ns)
hole_from-second joiner.TheVariants.Implies a ns = ap (second_of joiner.TheVariants.Implies) (formula_of-nodes_before a ns)

pub hole_from-under : (q : binder.Binder) (ns : List Node) → hole_from (binder_node q ∷ ns) ≡ under q
hole_from-under binder.TheVariants.ForAll ns = refl
hole_from-under binder.TheVariants.Exists ns = refl

pub holes_of-nodes_to : (hs : List Hole) (rest : List Node) → holes_of (nodes_to hs rest) (around_of hs) ≡ hs
holes_of-nodes_to [] rest = refl
holes_of-nodes_to (first_of ∷ hs) rest =
    let others = ap (λ ns. holes_of ns (around_of hs)) (take-nodes_to hs (Implies ∷ rest)) ∙ holes_of-nodes_to hs [] in ap (λ gs. first_of ∷ gs) others
holes_of-nodes_to (second_of j a ∷ hs) rest =
    let others = ap (λ ns. holes_of ns (around_of hs)) (take-nodes_to hs (joiner_node j ∷ nodes_before a rest)) ∙ holes_of-nodes_to hs [] in
    let first = ap hole_from (drop-nodes_to hs (joiner_node j ∷ nodes_before a rest)) ∙ hole_from-second j a rest in
    cc
holes_of-nodes_to (under q ∷ hs) rest =
    let others = ap (λ ns. holes_of ns (around_of hs)) (take-nodes_to hs (binder_node q ∷ rest)) ∙ holes_of-nodes_to hs [] in
    let first = ap hole_from (drop-nodes_to hs (binder_node q ∷ rest)) ∙ hole_from-under q rest in
    cc

pub second-formula : (a f : Formula) (ns : List Node) → first_formula (later_formulas (formulas_of (nodes_before a (nodes_before f ns)))) ≡ f
second-formula a f ns = ap (λ fs. first_formula (later_formulas fs)) (formulas_of-nodes_before a (nodes_before f ns)) ∙ formula_of-nodes_before f ns

pub formula_in-nodes_to : (hs : List Hole) (f : Formula) → formula_in (nodes_to hs (nodes_of f)) (around_of hs) ≡ f
formula_in-nodes_to [] f = formula_of-nodes_of f
formula_in-nodes_to (first_of ∷ hs) f = ap (λ ns. formula_of (drop 1 ns)) (drop-nodes_to hs (Implies ∷ nodes_of f)) ∙ formula_of-nodes_of f
formula_in-nodes_to (second_of j a ∷ hs) f =
    ap (λ ns. first_formula (later_formulas (formulas_of (drop 1 ns)))) (drop-nodes_to hs (joiner_node j ∷ nodes_before a (nodes_of f))) ∙ second-formula a f []
formula_in-nodes_to (under q ∷ hs) f = ap (λ ns. formula_of (drop 1 ns)) (drop-nodes_to hs (binder_node q ∷ nodes_of f)) ∙ formula_of-nodes_of f

pub holes-from_Holds : (ns : List Node) (places : List Around) (hs : List Hole) (rest : List Node) → Holds ns places hs rest → holes_of ns places ≡ hs
holes-from_Holds ns places hs rest h = rw (h.nodes, h.around) (holes_of-nodes_to hs rest)

pub formula-from_Holds : (ns : List Node) (places : List Around) (hs : List Hole) (f : Formula) → Holds ns places hs (nodes_of f) → formula_in ns places ≡ f
formula-from_Holds ns places hs f h = rw (h.nodes, h.around) (formula_in-nodes_to hs f)

-- the value of the fields
pub value-from_IsOf : (ns : List Node) (places : List Around) (b : Bool) (u : Unfinished) → IsOf ns places b u → unfinished_of ns places b ≡ u
value-from_IsOf ns places false (wants hs) h = ap wants (holes-from_Holds ns places hs [] h)
value-from_IsOf ns places true (has f hs) h = let e = formula-from_Holds ns places hs f h in let e' = holes-from_Holds ns places hs (nodes_of f) h in cc
value-from_IsOf ns places false (has f hs) h = absurd h
value-from_IsOf ns places true (wants hs) h = absurd h

pub IsOf-at : (ns : List Node) (places : List Around) (b : Bool) (u v : Unfinished) → IsOf ns places b u → u ≡ v → IsOf ns places b v
IsOf-at ns places b u v h e = subst (λ (w : Unfinished). IsOf ns places b w) e h

-- the fields are those of their value
pub invariant-from_IsOf : (ns : List Node) (places : List Around) (b : Bool) (u : Unfinished) → IsOf ns places b u → IsOf ns places b (unfinished_of ns places b)
invariant-from_IsOf ns places b u h = IsOf-at ns places b u (unfinished_of ns places b) h (sym (value-from_IsOf ns places b u h))

pub length-around_of : (hs : List Hole) → length (around_of hs) ≡ length hs
length-around_of [] = refl
length-around_of (first_of ∷ hs) = ap suc (length-around_of hs)
length-around_of (second_of j a ∷ hs) = ap suc (length-around_of hs)
length-around_of (under q ∷ hs) = ap suc (length-around_of hs)

pub count_unders-around_of : (hs : List Hole) → count_unders (around_of hs) ≡ quantifiers_in hs
count_unders-around_of [] = refl
count_unders-around_of (first_of ∷ hs) = count_unders-around_of hs
count_unders-around_of (second_of j a ∷ hs) = count_unders-around_of hs
count_unders-around_of (under q ∷ hs) = ap suc (count_unders-around_of hs)

pub count_unders-few : (places : List Around) → count_unders places ≤ length places
count_unders-few [] = omega arith
count_unders-few (First i ∷ places) = let h = count_unders-few places in omega arith
count_unders-few (Second i ∷ places) = let h = count_unders-few places in omega arith
count_unders-few (Under i ∷ places) = let h = count_unders-few places in omega arith

pub around-from_IsOf : (ns : List Node) (places : List Around) (b : Bool) (u : Unfinished) → IsOf ns places b u → places ≡ around_of (holes_in u)
around-from_IsOf ns places false (wants hs) h = h.around
around-from_IsOf ns places true (has f hs) h = h.around
around-from_IsOf ns places false (has f hs) h = absurd h
around-from_IsOf ns places true (wants hs) h = absurd h

pub wanting-from_IsOf : (ns : List Node) (places : List Around) (b : Bool) (u : Unfinished) → IsOf ns places b u → is_wanting u ≡ not b
wanting-from_IsOf ns places false (wants hs) h = refl
wanting-from_IsOf ns places true (has f hs) h = refl
wanting-from_IsOf ns places false (has f hs) h = absurd h
wanting-from_IsOf ns places true (wants hs) h = absurd h

-- a formula that was to come
pub IsOf-placed : (f : Formula) (ns : List Node) (places : List Around) (u : Unfinished) → IsOf ns places false u → IsOf (ns ++ nodes_of f) places true (placed f u)
IsOf-placed f ns places (wants hs) h = record {
  nodes = ap (λ xs. xs ++ nodes_of f) h.nodes ∙ sym (nodes_to-split hs (nodes_of f));
  around = h.around;
}
IsOf-placed f ns places (has g hs) h = absurd h

pub IsOf-opened : (ns : List Node) (places : List Around) (u : Unfinished) → IsOf ns places false u → IsOf (ns ++ Implies ∷ []) (First (length ns) ∷ places) false (opened u)
IsOf-opened ns places (wants hs) h = record {
  nodes = ap (λ xs. xs ++ Implies ∷ []) h.nodes ∙ sym (nodes_to-split hs (Implies ∷ []));
  around = let place = ap length h.nodes in let others = h.around in cc;
}
IsOf-opened ns places (has g hs) h = absurd h

pub IsOf-quantified : (q : binder.Binder) (ns : List Node) (places : List Around) (u : Unfinished) → IsOf ns places false u →
    IsOf (ns ++ binder_node q ∷ []) (Under (length ns) ∷ places) false (quantified q u)
IsOf-quantified q ns places (wants hs) h = record {
  nodes = ap (λ xs. xs ++ binder_node q ∷ []) h.nodes ∙ sym (nodes_to-split hs (binder_node q ∷ []));
  around = let place = ap length h.nodes in let others = h.around in cc;
}
IsOf-quantified q ns places (has g hs) h = absurd h

-- the quantifiers right around a whole formula are left
pub Holds-left : (ns : List Node) (places : List Around) (f : Formula) (hs : List Hole) → Holds ns places hs (nodes_of f) → IsOf ns (unders_left places) true (left_of f hs)
Holds-left ns places f [] h = record { nodes = h.nodes; around = ap unders_left h.around }
Holds-left ns places f (first_of ∷ hs) h = record { nodes = h.nodes; around = ap unders_left h.around }
Holds-left ns places f (second_of j a ∷ hs) h = record { nodes = h.nodes; around = ap unders_left h.around }
Holds-left ns places f (under q ∷ hs) h =
    let inner : Holds ns (around_of hs) hs (nodes_of (bind q f)) = record { nodes = h.nodes ∙ sym (ap (nodes_to hs) (nodes_before-bind q f [])); around = refl } in
    rw (h.around) (Holds-left ns (around_of hs) (bind q f) hs inner)

pub IsOf-left : (ns : List Node) (places : List Around) (u : Unfinished) → IsOf ns places true u → IsOf ns (unders_left places) true (left u)
IsOf-left ns places (has f hs) h = Holds-left ns places f hs h
IsOf-left ns places (wants hs) h = absurd h

-- a connective is put
pub IsOf-joined : (j : joiner.Joiner) (ns new : List Node) (places : List Around) (i : ℕ) (u : Unfinished) → IsOf ns places true u → first_slot places ≡ Some i →
    (i < length ns → new ≡ slice_set ns i (joiner_node j)) → IsOf new (first_turned places) false (joined j u) × (takes_joiner u ≡ true)
IsOf-joined j ns new places i (has f []) h e put = let none : first_slot places ≡ None = ap first_slot h.around in cc
IsOf-joined j ns new places i (has f (first_of ∷ hs)) h e put =
    let place : i ≡ length (nodes_to hs []) = let found = sym e ∙ ap first_slot h.around in cc in
    let split : ns ≡ nodes_to hs [] ++ Implies ∷ nodes_of f = h.nodes ∙ nodes_to-split hs (Implies ∷ nodes_of f) in
    let within : i < length ns = omega (arith, place, ap length split, length-append (nodes_to hs []) (Implies ∷ nodes_of f)) in
    let set : new ≡ nodes_to hs [] ++ joiner_node j ∷ nodes_of f = put within ∙ rw (place, split) (set-append_seam (nodes_to hs []) Implies (nodes_of f) (joiner_node j)) in (
      record {
        nodes = set ∙ sym (nodes_to-split hs (joiner_node j ∷ nodes_of f));
        around = ap first_turned h.around;
      },
      refl,
    )
IsOf-joined j ns new places i (has f (second_of k a ∷ hs)) h e put = let none : first_slot places ≡ None = ap first_slot h.around in cc
IsOf-joined j ns new places i (has f (under q ∷ hs)) h e put = let none : first_slot places ≡ None = ap first_slot h.around in cc
IsOf-joined j ns new places i (wants hs) h e put = absurd h

-- no connective stands here
pub IsOf-not_joined : (j : joiner.Joiner) (ns : List Node) (places : List Around) (u : Unfinished) → IsOf ns places true u → first_slot places ≡ None →
    IsOf ns (first_turned places) true (joined j u) × (takes_joiner u ≡ false)
IsOf-not_joined j ns places (has f []) h e = (record { nodes = h.nodes; around = ap first_turned h.around }, refl)
IsOf-not_joined j ns places (has f (first_of ∷ hs)) h e = let some : first_slot places ≡ Some (length (nodes_to hs [])) = ap first_slot h.around in cc
IsOf-not_joined j ns places (has f (second_of k a ∷ hs)) h e = (record { nodes = h.nodes; around = ap first_turned h.around }, refl)
IsOf-not_joined j ns places (has f (under q ∷ hs)) h e = (record { nodes = h.nodes; around = ap first_turned h.around }, refl)
IsOf-not_joined j ns places (wants hs) h e = absurd h

-- the innermost pair ends, where its second part is whole
pub IsOf-closed : (ns : List Node) (places : List Around) (u : Unfinished) → IsOf ns places true u → IsOf ns (second_left places) true (closed u) × (begins_second places ≡ takes_close u)
IsOf-closed ns places (has f []) h = (record { nodes = h.nodes; around = ap second_left h.around }, ap begins_second h.around)
IsOf-closed ns places (has f (first_of ∷ hs)) h = (record { nodes = h.nodes; around = ap second_left h.around }, ap begins_second h.around)
IsOf-closed ns places (has f (second_of j a ∷ hs)) h =
    (record { nodes = h.nodes ∙ sym (ap (nodes_to hs) (nodes_before-join j a f [])); around = ap second_left h.around }, ap begins_second h.around)
IsOf-closed ns places (has f (under q ∷ hs)) h = (record { nodes = h.nodes; around = ap second_left h.around }, ap begins_second h.around)
IsOf-closed ns places (wants hs) h = absurd h

pub quantifiers_in-few : (hs : List Hole) → quantifiers_in hs ≤ length hs
quantifiers_in-few [] = omega arith
quantifiers_in-few (first_of ∷ hs) = let h = quantifiers_in-few hs in omega arith
quantifiers_in-few (second_of j a ∷ hs) = let h = quantifiers_in-few hs in omega arith
quantifiers_in-few (under q ∷ hs) = let h = quantifiers_in-few hs in omega arith

-- where quantifiers alone stand around a whole formula, the nodes are those of one formula
pub Holds-whole : (ns : List Node) (f : Formula) (hs : List Hole) → ns ≡ nodes_to hs (nodes_of f) → length hs ≡ quantifiers_in hs →
    (g : Formula) × (ns ≡ nodes_of g) × (whole (left_of f hs) ≡ Some g)
Holds-whole ns f [] nodes e = (f, nodes, refl)
Holds-whole ns f (first_of ∷ hs) nodes e = let few = quantifiers_in-few hs in absurd (omega arith)
Holds-whole ns f (second_of j a ∷ hs) nodes e = let few = quantifiers_in-few hs in absurd (omega arith)
Holds-whole ns f (under q ∷ hs) nodes e = Holds-whole ns (bind q f) hs (nodes ∙ sym (ap (nodes_to hs) (nodes_before-bind q f []))) (omega arith)

-- where more stands around it, no formula is whole
pub left_of-not_whole : (f : Formula) (hs : List Hole) → (length hs ≡ quantifiers_in hs → ⊥) → whole (left_of f hs) ≡ None
left_of-not_whole f [] h = absurd (h refl)
left_of-not_whole f (first_of ∷ hs) h = refl
left_of-not_whole f (second_of j a ∷ hs) h = refl
left_of-not_whole f (under q ∷ hs) h = left_of-not_whole (bind q f) hs (λ e. h (omega arith))

pub whole-from_IsOf : (ns : List Node) (places : List Around) (u : Unfinished) → IsOf ns places true u → length places ≡ count_unders places →
    IsOneFormula ns × (whole (left u) ≡ Some (formula_of ns))
whole-from_IsOf ns places (has f hs) h e =
    let all : length hs ≡ quantifiers_in hs = sym (length-around_of hs) ∙ sym (ap length h.around) ∙ e ∙ ap count_unders h.around ∙ count_unders-around_of hs in
    let (g, nodes, found) = Holds-whole ns f hs h.nodes all in
    let value : formula_of ns ≡ g = ap formula_of nodes ∙ formula_of-nodes_of g in
    (ap nodes_of value ∙ sym nodes, found ∙ sym (ap Some value))
whole-from_IsOf ns places (wants hs) h e = absurd h

pub not_whole-from_IsOf : (ns : List Node) (places : List Around) (b : Bool) (u : Unfinished) → IsOf ns places b u → (length places ≡ count_unders places → ⊥) → whole (left u) ≡ None
not_whole-from_IsOf ns places true (has f hs) h e =
    left_of-not_whole f hs (λ all. e (ap length h.around ∙ length-around_of hs ∙ all ∙ sym (count_unders-around_of hs) ∙ sym (ap count_unders h.around)))
not_whole-from_IsOf ns places false (wants hs) h e = refl
not_whole-from_IsOf ns places false (has f hs) h e = absurd h
not_whole-from_IsOf ns places true (wants hs) h e = absurd h

-- nothing is whole where a formula is to come
pub wants-not_whole : (ns : List Node) (places : List Around) (u : Unfinished) → IsOf ns places false u → whole (left u) ≡ None
wants-not_whole ns places (wants hs) h = refl
wants-not_whole ns places (has f hs) h = absurd h

-- what the fields are now
pub IsOf-now : (ns : List Node) (places : List Around) (b c : Bool) (u : Unfinished) → IsOf ns places b (unfinished_of ns places b) → unfinished_of ns places b ≡ u → b ≡ c → IsOf ns places c u
IsOf-now ns places b c u h e same = subst (λ (d : Bool). IsOf ns places d u) same (IsOf-at ns places b (unfinished_of ns places b) u h e)

-- the last item by itself
pub last-split : (xs : List Around) (i : ℕ) (x : Around) → slice_get xs (length xs - 1) ≡ Some x → i ≡ length xs - 1 → xs ≡ take i xs ++ x ∷ []
last-split xs i x e at =
    let here : slice_get xs i ≡ Some x = rw at e in
    let within : i < length xs = slice_get_within xs i x here in
    let item : get_or xs i x ≡ x = get_or_from_slice_get xs i x x here in
    let behind : drop (suc i) xs ≡ [] = drop_all (suc i) xs (omega arith) in
    let cut : drop i xs ≡ x ∷ [] = drop-cons xs i x within ∙ ap (λ y. y ∷ drop (suc i) xs) item ∙ ap (λ ys. x ∷ ys) behind in
    sym (take-append-drop i xs) ∙ ap (λ ys. take i xs ++ ys) cut

-- the last item is changed
pub last-turned : (xs : List Around) (i k : ℕ) → slice_get xs (length xs - 1) ≡ Some (First k) → i ≡ length xs - 1 → reverse (slice_set xs i (Second k)) ≡ first_turned (reverse xs)
last-turned xs i k e at =
    let split : xs ≡ take i xs ++ First k ∷ [] = last-split xs i (First k) e at in
    let here : slice_get xs i ≡ Some (First k) = rw at e in
    let within : i < length xs = slice_get_within xs i (First k) here in
    let long : length (take i xs) ≡ i = length-take-le i xs (omega arith) in
    let set : slice_set (take i xs ++ First k ∷ []) (length (take i xs)) (Second k) ≡ take i xs ++ Second k ∷ [] = set-append_seam (take i xs) (First k) [] (Second k) in
    let new : slice_set xs i (Second k) ≡ take i xs ++ Second k ∷ [] = ap (λ ys. slice_set ys i (Second k)) split ∙ ap (λ n. slice_set (take i xs ++ First k ∷ []) n (Second k)) (sym long) ∙ set in
    ap reverse new ∙ reverse-append (take i xs) (Second k ∷ []) ∙ sym (ap first_turned (ap reverse split ∙ reverse-append (take i xs) (First k ∷ [])))

pub count_unders-turned : (places : List Around) → count_unders (first_turned places) ≡ count_unders places
count_unders-turned [] = refl
count_unders-turned (First i ∷ places) = refl
count_unders-turned (Second i ∷ places) = refl
count_unders-turned (Under i ∷ places) = refl
