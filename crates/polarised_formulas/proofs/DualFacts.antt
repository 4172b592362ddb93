-- Duals node by node.
use Rattle.std.proofs.Common.{◌≡◌, List, [], ◌∷◌, map, refl, ap, sym, ◌∙◌}
use Rattle.std.specs.Prelude.{Bool, true, false, not}
use Rattle.fpc_terms.specs.declared.cell.Cell.{Cell}
use Rattle.fpc_terms.specs.Term.{all_before}
use Rattle.polarised_formulas.specs.declared.logic.Polarity.{Polarity}
use Rattle.polarised_formulas.specs.declared.logic.Polarity.TheVariants.{Positive, Negative}
use Rattle.polarised_formulas.specs.declared.node.Node.{Node}
use Rattle.polarised_formulas.specs.declared.node.Node.TheVariants.{Inside}
use Rattle.polarised_formulas.specs.Formula.{Formula, truth, falsity, atom, conj, disj, implies, for_all, exists, nodes_before, nodes_of, formula_of, formula_of-nodes_of, inside_before, polarity_of, other_polarity, sign_polarity, dual_of, IsLkf}
use Rattle.polarised_formulas.specs.Nodes.{node_dual}

map-inside_before : (cs : List Cell) (ns : List Node) → map node_dual (inside_before cs ns) ≡ inside_before cs (map node_dual ns)
map-inside_before [] ns = refl
map-inside_before (c ∷ cs) ns = ap (λ (ms : List Node). Inside c ∷ ms) (map-inside_before cs ns)

map-nodes_before : (f : Formula) (ns : List Node) → map node_dual (nodes_before f ns) ≡ nodes_before (dual_of f) (map node_dual ns)
map-nodes_before (truth p) ns = refl
map-nodes_before (falsity p) ns = refl
map-nodes_before (atom positive name ts) ns = rw (map-inside_before (all_before ts []) ns)
map-nodes_before (conj p a b) ns = rw (map-nodes_before a (nodes_before b ns), map-nodes_before b ns)
map-nodes_before (disj p a b) ns = rw (map-nodes_before a (nodes_before b ns), map-nodes_before b ns)
map-nodes_before (implies a b) ns = rw (map-nodes_before a (nodes_before b ns), map-nodes_before b ns)
map-nodes_before (for_all a) ns = rw (map-nodes_before a ns)
map-nodes_before (exists a) ns = rw (map-nodes_before a ns)

pub map-nodes_of : (f : Formula) → map node_dual (nodes_of f) ≡ nodes_of (dual_of f)
map-nodes_of f = map-nodes_before f []

-- different formulas have different nodes
pub nodes_of-injective : (f g : Formula) → nodes_of f ≡ nodes_of g → f ≡ g
nodes_of-injective f g e = sym (formula_of-nodes_of f) ∙ ap formula_of e ∙ formula_of-nodes_of g

pub formula_of-found : (f : Formula) → formula_of (nodes_of f) ≡ f
formula_of-found f = formula_of-nodes_of f

other-other : (p : Polarity) → other_polarity (other_polarity p) ≡ p
other-other Positive = refl
other-other Negative = refl

not-twice : (b : Bool) → not (not b) ≡ b
not-twice true = refl
not-twice false = refl

pub dual_of-twice : (f : Formula) → dual_of (dual_of f) ≡ f
dual_of-twice (truth p) = rw (other-other p)
dual_of-twice (falsity p) = rw (other-other p)
dual_of-twice (atom positive name ts) = rw (not-twice positive)
dual_of-twice (conj p a b) = rw (other-other p, dual_of-twice a, dual_of-twice b)
dual_of-twice (disj p a b) = rw (other-other p, dual_of-twice a, dual_of-twice b)
dual_of-twice (implies a b) = rw (dual_of-twice a, dual_of-twice b)
dual_of-twice (for_all a) = rw (dual_of-twice a)
dual_of-twice (exists a) = rw (dual_of-twice a)

sign-not : (b : Bool) → sign_polarity (not b) ≡ other_polarity (sign_polarity b)
sign-not true = refl
sign-not false = refl

pub polarity_of-dual_of : (f : Formula) → IsLkf f → polarity_of (dual_of f) ≡ other_polarity (polarity_of f)
polarity_of-dual_of (truth p) h = refl
polarity_of-dual_of (falsity p) h = refl
polarity_of-dual_of (atom positive name ts) h = sign-not positive
polarity_of-dual_of (conj p a b) h = refl
polarity_of-dual_of (disj p a b) h = refl
polarity_of-dual_of (implies a b) h = absurd h
polarity_of-dual_of (for_all a) h = refl
polarity_of-dual_of (exists a) h = refl

pub ruleset dual_facts = (map-nodes_of, nodes_of-injective, formula_of-found, dual_of-twice, polarity_of-dual_of)
