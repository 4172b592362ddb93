-- Formulas that are being built, as zippers, and the nodes that stand for them.
use Rattle.std.specs.Prelude.{◌≡◌, ℕ, suc, Bool, true, false, List, [], ◌∷◌, length, take, drop, Option, Some, None, refl}
use Rattle.std.specs.Coded.{Coded, code_by, coded_list, coded×, coded_option}
use Rattle.std.proofs.Common.{ap}
use Rattle.polarised_formulas.specs.declared.node.Node.{Node}
use Rattle.polarised_formulas.specs.declared.node.Node.TheVariants.{And, Or, Implies, ForAll, Exists}
use Rattle.polarised_formulas.specs.contracts.node.Node as node
use Rattle.polarised_formulas.specs.Formula.{Formula, conj, disj, implies, for_all, exists, nodes_before, nodes_of, formula_of, formulas_of, first_formula, later_formulas, formula_code, formula_of-nodes_of}
use Rattle.polarised_formulas.specs.declared.connective.Joiner as joiner
use Rattle.polarised_formulas.specs.declared.connective.Binder as binder
use Rattle.polarised_formulas.specs.declared.builder.Around.{Around}
use Rattle.polarised_formulas.specs.declared.builder.Around.TheVariants.{First, Second, Under}

-- the formula that a connective makes of two
abbrev pub join : joiner.Joiner → Formula → Formula → Formula
join (joiner.TheVariants.And p) a b = conj p a b
join (joiner.TheVariants.Or p) a b = disj p a b
join joiner.TheVariants.Implies a b = implies a b

-- the formula that a quantifier makes of its body
abbrev pub bind : binder.Binder → Formula → Formula
bind binder.TheVariants.ForAll a = for_all a
bind binder.TheVariants.Exists a = exists a

-- the outermost node of the formula that a connective makes
abbrev pub joiner_node : joiner.Joiner → Node
joiner_node (joiner.TheVariants.And p) = And p
joiner_node (joiner.TheVariants.Or p) = Or p
joiner_node joiner.TheVariants.Implies = Implies

-- the outermost node of the formula that a quantifier makes
abbrev pub binder_node : binder.Binder → Node
binder_node binder.TheVariants.ForAll = ForAll
binder_node binder.TheVariants.Exists = Exists

-- what stands around a formula that is being built
pub data Hole : Type 0 where
  first_of : Hole
  second_of : (joiner : joiner.Joiner) → (first : Formula) → Hole
  under : (binder : binder.Binder) → Hole

-- a formula is to come, or is whole, and what stands around it, the innermost first
pub data Unfinished : Type 0 where
  wants : (holes : List Hole) → Unfinished
  has : (formula : Formula) → (holes : List Hole) → Unfinished

-- the nodes of a hole by itself
abbrev pub hole_nodes : Hole → List Node
hole_nodes first_of = []
hole_nodes (second_of j a) = joiner_node j ∷ nodes_of a
hole_nodes (under q) = binder_node q ∷ []

-- the hole that nodes begin with
abbrev pub hole_from : List Node → Hole
hole_from (And p ∷ ns) = second_of (joiner.TheVariants.And p) (formula_of ns)
hole_from (Or p ∷ ns) = second_of (joiner.TheVariants.Or p) (formula_of ns)
hole_from (Implies ∷ ns) = second_of joiner.TheVariants.Implies (formula_of ns)
hole_from (ForAll ∷ ns) = under binder.TheVariants.ForAll
hole_from (Exists ∷ ns) = under binder.TheVariants.Exists
hole_from _ = first_of

pub hole_from-hole_nodes : (h : Hole) → hole_from (hole_nodes h) ≡ h
hole_from-hole_nodes first_of = refl
hole_from-hole_nodes (second_of (joiner.TheVariants.And p) a) = ap (second_of (joiner.TheVariants.And p)) (formula_of-nodes_of a)
hole_from-hole_nodes (second_of (joiner.TheVariants.Or p) a) = ap (second_of (joiner.TheVariants.Or p)) (formula_of-nodes_of a)
hole_from-hole_nodes (second_of joiner.TheVariants.Implies a) = ap (second_of joiner.TheVariants.Implies) (formula_of-nodes_of a)
hole_from-hole_nodes (under binder.TheVariants.ForAll) = refl
hole_from-hole_nodes (under binder.TheVariants.Exists) = refl

-- a hole is stored as its nodes
abbrev pub hole_code : Coded Hole
hole_code = code_by (List Node) (coded_list node.the_row.coded) hole_nodes hole_from hole_from-hole_nodes

abbrev pub unfinished_parts : Unfinished → List Hole × Option Formula
unfinished_parts (wants hs) = (hs, None)
unfinished_parts (has f hs) = (hs, Some f)

abbrev pub unfinished_with : List Hole → Option Formula → Unfinished
unfinished_with hs None = wants hs
unfinished_with hs (Some f) = has f hs

pub unfinished_with-parts : (u : Unfinished) → unfinished_with (unfinished_parts u).0 (unfinished_parts u).1 ≡ u
unfinished_with-parts (wants hs) = refl
unfinished_with-parts (has f hs) = refl

-- an unfinished formula is stored as its holes and the formula in them
abbrev pub unfinished_code : Coded Unfinished
unfinished_code =
    code_by (List Hole × Option Formula) (coded× (coded_list hole_code) (coded_option formula_code)) unfinished_parts (λ p. unfinished_with p.0 p.1) unfinished_with-parts

-- nothing is built yet
abbrev pub nothing : Unfinished
nothing = wants []

-- what stands around
abbrev pub holes_in : Unfinished → List Hole
holes_in (wants hs) = hs
holes_in (has f hs) = hs

-- how many of the holes are those of quantifiers
abbrev pub quantifiers_in : List Hole → ℕ
quantifiers_in [] = 0
quantifiers_in (first_of ∷ hs) = quantifiers_in hs
quantifiers_in (second_of j a ∷ hs) = quantifiers_in hs
quantifiers_in (under q ∷ hs) = suc (quantifiers_in hs)

-- whether a formula is to come
abbrev pub is_wanting : Unfinished → Bool
is_wanting (wants hs) = true
is_wanting (has f hs) = false

-- the formula that was to come
abbrev pub placed : Formula → Unfinished → Unfinished
placed f (wants hs) = has f hs
placed f (has g hs) = has g hs

-- the pair that was to come begins
abbrev pub opened : Unfinished → Unfinished
opened (wants hs) = wants (first_of ∷ hs)
opened (has f hs) = has f hs

-- the quantified formula that was to come begins
abbrev pub quantified : binder.Binder → Unfinished → Unfinished
quantified q (wants hs) = wants (under q ∷ hs)
quantified q (has f hs) = has f hs

-- a whole formula is the body of the quantifiers right around it, and makes them whole
abbrev pub left_of : Formula → List Hole → Unfinished
left_of f [] = has f []
left_of f (first_of ∷ hs) = has f (first_of ∷ hs)
left_of f (second_of j a ∷ hs) = has f (second_of j a ∷ hs)
left_of f (under q ∷ hs) = left_of (bind q f) hs

abbrev pub left : Unfinished → Unfinished
left (wants hs) = wants hs
left (has f hs) = left_of f hs

-- whether the first part of a pair is whole
abbrev pub takes_joiner : Unfinished → Bool
takes_joiner (has f (first_of ∷ hs)) = true
takes_joiner _ = false

-- the second part of the pair is to come
abbrev pub joined : joiner.Joiner → Unfinished → Unfinished
joined j (has f (first_of ∷ hs)) = wants (second_of j f ∷ hs)
joined j u = u

-- whether the second part of a pair is whole
abbrev pub takes_close : Unfinished → Bool
takes_close (has f (second_of j a ∷ hs)) = true
takes_close _ = false

-- the pair is whole
abbrev pub closed : Unfinished → Unfinished
closed (has f (second_of j a ∷ hs)) = has (join j a f) hs
closed u = u

-- the whole formula, where nothing stands around it
abbrev pub whole : Unfinished → Option Formula
whole (has f []) = Some f
whole _ = None

-- the nodes in front of a formula, before other nodes; where a connective is still to come stands that of `=>`
abbrev pub nodes_to : List Hole → List Node → List Node
nodes_to [] rest = rest
nodes_to (first_of ∷ hs) rest = nodes_to hs (Implies ∷ rest)
nodes_to (second_of j a ∷ hs) rest = nodes_to hs (joiner_node j ∷ nodes_before a rest)
nodes_to (under q ∷ hs) rest = nodes_to hs (binder_node q ∷ rest)

-- what stands around, each with the place of its outermost node
abbrev pub around_of : List Hole → List Around
around_of [] = []
around_of (first_of ∷ hs) = First (length (nodes_to hs [])) ∷ around_of hs
around_of (second_of j a ∷ hs) = Second (length (nodes_to hs [])) ∷ around_of hs
around_of (under q ∷ hs) = Under (length (nodes_to hs [])) ∷ around_of hs

-- the holes of nodes, whose outermost nodes stand at these places
abbrev pub holes_of : List Node → List Around → List Hole
holes_of ns [] = []
holes_of ns (First i ∷ places) = first_of ∷ holes_of (take i ns) places
holes_of ns (Second i ∷ places) = hole_from (drop i ns) ∷ holes_of (take i ns) places
holes_of ns (Under i ∷ places) = hole_from (drop i ns) ∷ holes_of (take i ns) places

-- the whole formula inside the innermost hole
abbrev pub formula_in : List Node → List Around → Formula
formula_in ns [] = formula_of ns
formula_in ns (First i ∷ places) = formula_of (drop 1 (drop i ns))
formula_in ns (Second i ∷ places) = first_formula (later_formulas (formulas_of (drop 1 (drop i ns))))
formula_in ns (Under i ∷ places) = formula_of (drop 1 (drop i ns))

-- the unfinished formula of nodes and places; the truth value says whether a formula is whole
abbrev pub unfinished_of : List Node → List Around → Bool → Unfinished
unfinished_of ns places false = wants (holes_of ns places)
unfinished_of ns places true = has (formula_in ns places) (holes_of ns places)

-- the nodes and the places are those of these holes, with other nodes behind them
pub record Holds (ns : List Node) (places : List Around) (hs : List Hole) (rest : List Node) : Type 0 where
  pub nodes : ns ≡ nodes_to hs rest
  pub around : places ≡ around_of hs

-- the fields are those of this unfinished formula
abbrev pub IsOf : List Node → List Around → Bool → Unfinished → Type 0
IsOf ns places false (wants hs) = Holds ns places hs []
IsOf ns places true (has f hs) = Holds ns places hs (nodes_of f)
IsOf _ _ _ _ = ⊥

-- whether the innermost is a quantifier
abbrev pub begins_under : List Around → Bool
begins_under (Under i ∷ places) = true
begins_under _ = false

-- what is around the innermost, where that is a quantifier
abbrev pub under_left : List Around → List Around
under_left (Under i ∷ places) = places
under_left places = places

-- what is around the innermost quantifiers
abbrev pub unders_left : List Around → List Around
unders_left (Under i ∷ places) = unders_left places
unders_left places = places

-- how many quantifiers there are
abbrev pub count_unders : List Around → ℕ
count_unders [] = 0
count_unders (First i ∷ places) = count_unders places
count_unders (Second i ∷ places) = count_unders places
count_unders (Under i ∷ places) = suc (count_unders places)

-- the place of the innermost, where its first part stands inside
abbrev pub first_slot : List Around → Option ℕ
first_slot (First i ∷ places) = Some i
first_slot _ = None

-- the second part stands inside in the place of the first
abbrev pub first_turned : List Around → List Around
first_turned (First i ∷ places) = Second i ∷ places
first_turned places = places

-- whether the second part of the innermost stands inside
abbrev pub begins_second : List Around → Bool
begins_second (Second i ∷ places) = true
begins_second _ = false

-- what is around the innermost, where its second part stands inside
abbrev pub second_left : List Around → List Around
second_left (Second i ∷ places) = places
second_left places = places
