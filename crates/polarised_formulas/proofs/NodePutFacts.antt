-- Formulas with terms for variables are substituted node by node.
use Rattle.std.proofs.Common.{◌≡◌, ◌≢◌, ℕ, suc, List, [], ◌∷◌, ◌++◌, drop, refl, ap}
use Rattle.std.specs.List.{flat_map}
use Rattle.fpc_terms.specs.declared.cell.Cell.{Cell}
use Rattle.fpc_terms.specs.Term.{Term, Args, no_args, arg, app, count, all_before, put_all}
use Rattle.fpc_terms.specs.Substitution.{cell_put}
use Rattle.fpc_terms.proofs.SubstitutionFacts.{put-cells_of}
use Rattle.polarised_formulas.specs.declared.node.Node.{Node}
use Rattle.polarised_formulas.specs.declared.step.Step.{Step}
use Rattle.polarised_formulas.specs.declared.step.Step.TheVariants.{Exists, Cut, FocLEvery, FocRExists}
use Rattle.polarised_formulas.specs.Formula.{Formula, truth, falsity, atom, conj, disj, implies, for_all, exists}
use Rattle.polarised_formulas.specs.Formula.{inside_before, nodes_before, nodes_of, formula_of, formula_of-nodes_of, IsOneFormula}
use Rattle.polarised_formulas.specs.NodePut.{node_put}
use Rattle.polarised_formulas.specs.OpenFormula.{put_formula, put_step}

inside-append : (cs ds : List Cell) (ns : List Node) → inside_before (cs ++ ds) ns ≡ inside_before cs (inside_before ds ns)
inside-append [] ds ns = refl
inside-append (c ∷ cs) ds ns = rw (inside-append cs ds ns)

inside-before : (cs : List Cell) (ns : List Node) → inside_before cs [] ++ ns ≡ inside_before cs ns
inside-before [] ns = refl
inside-before (c ∷ cs) ns = rw (inside-before cs ns)

count-put : (s : ℕ → Term) (ts : Args) → count (put_all s ts) ≡ count ts
count-put s no_args = refl
count-put s (arg t ts) = ap suc (count-put s ts)

put-inside : (s : ℕ → Term) (cs : List Cell) (ns : List Node)
    → flat_map (node_put s) (inside_before cs ns) ≡ inside_before (flat_map (cell_put s) cs) (flat_map (node_put s) ns)
put-inside s [] ns = refl
put-inside s (c ∷ cs) ns =
    rw (put-inside s cs ns, inside-append (cell_put s c) (flat_map (cell_put s) cs) (flat_map (node_put s) ns), inside-before (cell_put s c) (inside_before (flat_map (cell_put s) cs) (flat_map (node_put s) ns)))

put-arguments : (s : ℕ → Term) (ts : Args) → flat_map (cell_put s) (all_before ts []) ≡ all_before (put_all s ts) []
put-arguments s ts = ap (drop 1) (put-cells_of s (app 0 ts))

put-nodes_before : (s : ℕ → Term) (f : Formula) (ns : List Node)
    → flat_map (node_put s) (nodes_before f ns) ≡ nodes_before (put_formula s f) (flat_map (node_put s) ns)
put-nodes_before s (truth p) ns = refl
put-nodes_before s (falsity p) ns = refl
put-nodes_before s (atom b f ts) ns = rw (put-inside s (all_before ts []) ns, put-arguments s ts, count-put s ts)
put-nodes_before s (conj p a b) ns = rw (put-nodes_before s a (nodes_before b ns), put-nodes_before s b ns)
put-nodes_before s (disj p a b) ns = rw (put-nodes_before s a (nodes_before b ns), put-nodes_before s b ns)
put-nodes_before s (implies a b) ns = rw (put-nodes_before s a (nodes_before b ns), put-nodes_before s b ns)
put-nodes_before s (for_all a) ns = rw (put-nodes_before s a ns)
put-nodes_before s (exists a) ns = rw (put-nodes_before s a ns)

-- the nodes of a formula with terms for its variables
pub put-nodes_of : (s : ℕ → Term) (f : Formula) → flat_map (node_put s) (nodes_of f) ≡ nodes_of (put_formula s f)
put-nodes_of s f = put-nodes_before s f []

pub one-formula : (s : ℕ → Term) (f : Formula) → IsOneFormula (flat_map (node_put s) (nodes_of f))
one-formula s f = rw (put-nodes_of s f, formula_of-nodes_of (put_formula s f))

pub formula_of-put : (s : ℕ → Term) (f : Formula) → formula_of (flat_map (node_put s) (nodes_of f)) ≡ put_formula s f
formula_of-put s f = rw (put-nodes_of s f, formula_of-nodes_of (put_formula s f))

-- a step that names no term and no formula stays as it is
pub put_bare : (s : ℕ → Term) (e : Step) → ((t : Term) → e ≢ Exists t) → ((f : Formula) → e ≢ Cut f)
    → ((t : Term) → e ≢ FocLEvery t) → ((t : Term) → e ≢ FocRExists t) → put_step s e ≡ e
put_bare s (Exists t) h i j k = absurd (h t refl)
put_bare s (Cut f) h i j k = absurd (i f refl)
put_bare s (FocLEvery t) h i j k = absurd (j t refl)
put_bare s (FocRExists t) h i j k = absurd (k t refl)
put_bare s e h i j k = refl
