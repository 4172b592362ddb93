-- The atom of a literal as a term.
use Rattle.std.proofs.Common.{◌≡◌, ℕ, List, [], ◌∷◌, map, refl, ap, sym, ◌∙◌, subst}
use Rattle.std.specs.Prelude.{Bool, true, false}
use Rattle.fpc_terms.specs.declared.cell.Cell.{Cell}
use Rattle.fpc_terms.specs.declared.cell.Cell.TheVariants.{App}
use Rattle.fpc_terms.specs.Term.{Term, Args, app, count, all_before, cells_of, term_of, IsOneTerm, term_of-cells_of}
use Rattle.polarised_formulas.specs.declared.node.Node.{Node}
use Rattle.polarised_formulas.specs.declared.node.Node.TheVariants.{Atom}
use Rattle.polarised_formulas.specs.Formula.{Formula, truth, falsity, atom, conj, disj, implies, for_all, exists, nodes_of, inside_before, root_node}
use Rattle.search_model.specs.Lines.{atom_term, is_literal}
use Rattle.lkf_kernel.specs.Nodes.{IsLiteral, atom_cell, is_negative_node}

cells_inside : (cs : List Cell) → map atom_cell (inside_before cs []) ≡ cs
cells_inside [] = refl
cells_inside (c ∷ cs) = ap (λ (ds : List Cell). c ∷ ds) (cells_inside cs)

-- the nodes of a literal stand for the cells of its atom
pub literal_cells : (f : Formula) → IsLiteral f → map atom_cell (nodes_of f) ≡ cells_of (atom_term f)
literal_cells (atom b f ts) h = ap (λ (cs : List Cell). App f (count ts) ∷ cs) (cells_inside (all_before ts []))
literal_cells _ h = absurd h

pub literal_is_term : (f : Formula) → IsLiteral f → IsOneTerm (map atom_cell (nodes_of f))
literal_is_term f h = subst IsOneTerm (sym (literal_cells f h)) (ap cells_of (term_of-cells_of (atom_term f)))

pub literal_term : (f : Formula) → IsLiteral f → term_of (map atom_cell (nodes_of f)) ≡ atom_term f
literal_term f h = ap term_of (literal_cells f h) ∙ term_of-cells_of (atom_term f)

-- a formula that passes the test is a literal
pub passed_literal : (f c : ℕ) (a : Formula) → is_literal false f c a ≡ true → IsLiteral a
passed_literal f c (atom positive g us) h = tt
passed_literal f c _ h = absurd (cc)

-- a formula whose outermost node is an atom's is a literal
pub rooted_literal : (b : Bool) (f c : ℕ) (a : Formula) → root_node a ≡ Atom b f c → IsLiteral a
rooted_literal b f c (atom positive g us) h = tt
rooted_literal b f c _ h = absurd (cc)

-- a negative literal is seen at its outermost node
pub negative_node : (f c : ℕ) (a : Formula) → is_negative_node f c (root_node a) ≡ is_literal false f c a
negative_node f c (truth p) = refl
negative_node f c (falsity p) = refl
negative_node f c (atom true g us) = refl
negative_node f c (atom false g us) = refl
negative_node f c (conj p a b) = refl
negative_node f c (disj p a b) = refl
negative_node f c (implies a b) = refl
negative_node f c (for_all a) = refl
negative_node f c (exists a) = refl

pub ruleset literal_facts = (literal_is_term, literal_term)
