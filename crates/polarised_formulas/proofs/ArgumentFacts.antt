-- The cells that the arguments of a closure stand for.
use Rattle.std.proofs.Common.{◌≡◌, ℕ, ◌<◌, ◌≤◌, ◌+◌, ◌-◌, List, [], ◌∷◌, ◌++◌, length, take, drop, map, get_or, refl, ap, sym, ◌∙◌, arith}
use Rattle.std.proofs.lemmas.Bool.{le-ltb}
use Rattle.std.proofs.lemmas.List.{append_cancel_left, drop_more}
use Rattle.std.proofs.Math.ListN.{get_or-map}
use Rattle.std.specs.Prelude.{suc, zero, Bool, true, false}
use Rattle.fpc_terms.specs.declared.cell.Cell.{Cell}
use Rattle.fpc_terms.specs.Term.{Term, Args, eigen, bound, variable, app, no_args, arg, cells_of, cells_before, all_before, terms_from, terms_from-all_before, joined}
use Rattle.polarised_formulas.specs.declared.node.Node.{Node}
use Rattle.polarised_formulas.specs.declared.node.Node.TheVariants.{Inside}
use Rattle.polarised_formulas.specs.declared.held.Given.{Given}
use Rattle.polarised_formulas.specs.declared.held.Given.TheVariants as given_by
use Rattle.polarised_formulas.specs.Formula.{Formula, truth, falsity, atom, conj, disj, implies, for_all, exists, nodes_of, inside_before, dual_of, args_of, args_of-inside_before}
use Rattle.polarised_formulas.specs.Closure.{Closure, fill_term, fill_args, fill, marked, stands_for}
use Rattle.polarised_formulas.specs.Held.{given, given_reach, givens_reach, closure_reach, literal_arguments}
use Rattle.polarised_formulas.specs.ArgumentCells.{argument_nodes, given_piece, piece_of, piece_reach, piece_cells, filled_cells}
use Rattle.polarised_formulas.proofs.FillFacts.{count-fill}

-- a term has a cell
pub has_cell : (t : Term) → 0 < length (cells_of t)
has_cell (eigen n) = omega arith
has_cell (bound k) = omega arith
has_cell (variable v) = omega arith
has_cell (app f ts) = omega arith

-- what a reference stands for is within reach
reach-given : (r : Given) → piece_reach (given_piece r) ≤ given_reach r
reach-given (given_by.Eigen n) = omega arith
reach-given (given_by.Term k) = omega arith

reach-givens : (rs : List Given) (k : ℕ) → given_reach (get_or rs k (given_by.Eigen 0)) ≤ givens_reach rs
reach-givens [] k = omega arith
reach-givens (r ∷ rs) zero = omega arith
reach-givens (r ∷ rs) (suc k) = omega (arith, reach-givens rs k)

pub reach-opened : (c : Closure Given) (k : ℕ) → piece_reach (given_piece (get_or c.opened k (given_by.Eigen 0))) ≤ closure_reach c
reach-opened c k = omega (arith, reach-given (get_or c.opened k (given_by.Eigen 0)), reach-givens c.opened k)

pub reach-parameter : (c : Closure Given) (k : ℕ) → piece_reach (given_piece (get_or c.parameters k (given_by.Eigen 0))) ≤ closure_reach c
reach-parameter c k = omega (arith, reach-given (get_or c.parameters k (given_by.Eigen 0)), reach-givens c.parameters k)

-- where cells begin with others, each is the other's at its place
pub alike : (cells : List Cell) (i : ℕ) (rest later : List Cell) (own d : Cell) → i < length cells → take i cells ++ (own ∷ later) ≡ cells ++ rest → own ≡ get_or cells i d
alike [] i rest later own d h e = let none : ⊥ = omega arith in absurd none
alike (c ∷ cs) zero rest later own d h e = cc
alike (c ∷ cs) (suc i) rest later own d h e =
    let t : take i cs ++ (own ∷ later) ≡ cs ++ rest = cc in alike cs i rest later own d (omega arith) t

-- two lists of cells after one and the same
pub same_after : (a b c d front : List Cell) → a ≡ front ++ c → b ≡ front ++ d → (c ≡ d → a ≡ b) × (a ≡ b → c ≡ d)
same_after a b c d front e f = ((λ h. e ∙ (ap (λ x. front ++ x) h ∙ sym f)), (λ h. append_cancel_left front c d (sym e ∙ (h ∙ f))))

-- one node along the arguments of a closure
pub along : (ts : List Term) (c : Closure Given) (ns : List Node) (i : ℕ) (cell : Cell) (n : Node) → i < length ns → n ≡ get_or ns i n → n ≡ Inside cell →
    filled_cells ts c (drop i ns) ≡ piece_cells ts (piece_of c cell) ++ filled_cells ts c (drop (i + 1) ns)
along ts c ns i cell n h e is = let f : get_or ns i n ≡ Inside cell = sym e ∙ is in rw (drop_more ns i n h, f)

mutual
  before-append : (t : Term) (cs ds : List Cell) → cells_before t cs ++ ds ≡ cells_before t (cs ++ ds)
  before-append (eigen n) cs ds = refl
  before-append (bound n) cs ds = refl
  before-append (variable n) cs ds = refl
  before-append (app f ts) cs ds = rw (all-append ts cs ds)

  all-append : (ts : Args) (cs ds : List Cell) → all_before ts cs ++ ds ≡ all_before ts (cs ++ ds)
  all-append no_args cs ds = refl
  all-append (arg t ts) cs ds = rw (before-append t (all_before ts cs) ds, all-append ts cs ds)

module _ (ts : List Term) where
  piece-given : (r : Given) → piece_cells ts (given_piece r) ≡ cells_of (given ts r)
  piece-given (given_by.Eigen n) = refl
  piece-given (given_by.Term k) = refl

  given-get : (rs : List Given) (k : ℕ) → get_or (map (given ts) rs) k (eigen 0) ≡ given ts (get_or rs k (given_by.Eigen 0))
  given-get rs k = get_or-map (given ts) rs k (given_by.Eigen 0)

  -- the cells of the k-th of some references, before others
  piece-get : (rs : List Given) (k : ℕ) (cs : List Cell) →
      piece_cells ts (given_piece (get_or rs k (given_by.Eigen 0))) ++ cs ≡ cells_before (get_or (map (given ts) rs) k (eigen 0)) cs
  piece-get rs k cs =
      rw (given-get rs k, piece-given (get_or rs k (given_by.Eigen 0))) (before-append (given ts (get_or rs k (given_by.Eigen 0))) [] cs)

  module _ (c : Closure Given) where
    mutual
      filled-term : (t : Term) (cs : List Cell) → filled_cells ts c (inside_before (cells_before t cs) [])
          ≡ cells_before (fill_term (map (given ts) c.opened) (map (given ts) c.parameters) 0 t) (filled_cells ts c (inside_before cs []))
      filled-term (eigen n) cs = refl
      filled-term (bound k) cs = let z : k - 0 ≡ k = omega arith in rw (le-ltb k 0 (omega arith), z) (piece-get c.opened k (filled_cells ts c (inside_before cs [])))
      filled-term (variable v) cs = piece-get c.parameters v (filled_cells ts c (inside_before cs []))
      filled-term (app f us) cs = rw (filled-args us cs, count-fill (map (given ts) c.opened) (map (given ts) c.parameters) 0 us)

      filled-args : (us : Args) (cs : List Cell) → filled_cells ts c (inside_before (all_before us cs) [])
          ≡ all_before (fill_args (map (given ts) c.opened) (map (given ts) c.parameters) 0 us) (filled_cells ts c (inside_before cs []))
      filled-args no_args cs = refl
      filled-args (arg t us) cs = rw (filled-term t (all_before us cs), filled-args us cs)

pub argument_nodes-nodes_of : (f : Formula) → argument_nodes (nodes_of f) ≡ inside_before (all_before (literal_arguments f) []) []
argument_nodes-nodes_of (truth p) = refl
argument_nodes-nodes_of (falsity p) = refl
argument_nodes-nodes_of (atom positive name ts) = refl
argument_nodes-nodes_of (conj p a b) = refl
argument_nodes-nodes_of (disj p a b) = refl
argument_nodes-nodes_of (implies a b) = refl
argument_nodes-nodes_of (for_all a) = refl
argument_nodes-nodes_of (exists a) = refl

arguments-fill : (os ps : List Term) (f : Formula) → literal_arguments (fill os ps 0 f) ≡ fill_args os ps 0 (literal_arguments f)
arguments-fill os ps (truth p) = refl
arguments-fill os ps (falsity p) = refl
arguments-fill os ps (atom positive name ts) = refl
arguments-fill os ps (conj p a b) = refl
arguments-fill os ps (disj p a b) = refl
arguments-fill os ps (implies a b) = refl
arguments-fill os ps (for_all a) = refl
arguments-fill os ps (exists a) = refl

arguments-dual : (f : Formula) → literal_arguments (dual_of f) ≡ literal_arguments f
arguments-dual (truth p) = refl
arguments-dual (falsity p) = refl
arguments-dual (atom positive name ts) = refl
arguments-dual (conj p a b) = refl
arguments-dual (disj p a b) = refl
arguments-dual (implies a b) = refl
arguments-dual (for_all a) = refl
arguments-dual (exists a) = refl

arguments-marked : (b : Bool) (f : Formula) → literal_arguments (marked b f) ≡ literal_arguments f
arguments-marked true f = arguments-dual f
arguments-marked false f = refl

-- the cells of a closure's arguments are those of the formula that it stands for
pub filled-arguments : (ts : List Term) (c : Closure Given) →
    filled_cells ts c (argument_nodes (nodes_of c.part)) ≡ all_before (literal_arguments (stands_for (given ts) c)) []
filled-arguments ts c =
    rw (
      argument_nodes-nodes_of c.part,
      arguments-marked c.is_dual (fill (map (given ts) c.opened) (map (given ts) c.parameters) 0 c.part),
      arguments-fill (map (given ts) c.opened) (map (given ts) c.parameters) c.part,
    )
    (filled-args ts c (literal_arguments c.part) [])

joined-none : (ts : Args) → joined ts no_args ≡ ts
joined-none no_args = refl
joined-none (arg t ts) = ap (arg t) (joined-none ts)

-- arguments with the same cells are the same
all_before-injective : (ts us : Args) → all_before ts [] ≡ all_before us [] → ts ≡ us
all_before-injective ts us e =
    sym (joined-none ts) ∙ (sym (terms_from-all_before ts [] no_args) ∙ (ap (λ (cs : List Cell). terms_from cs no_args) e ∙ (terms_from-all_before us [] no_args ∙ joined-none us)))

pub same_cells : (ts : List Term) (c d : Closure Given) → filled_cells ts c (argument_nodes (nodes_of c.part)) ≡ filled_cells ts d (argument_nodes (nodes_of d.part)) →
    literal_arguments (stands_for (given ts) c) ≡ literal_arguments (stands_for (given ts) d)
same_cells ts c d e = all_before-injective _ _ (sym (filled-arguments ts c) ∙ (e ∙ filled-arguments ts d))

pub same_arguments : (ts : List Term) (c d : Closure Given) → literal_arguments (stands_for (given ts) c) ≡ literal_arguments (stands_for (given ts) d) →
    filled_cells ts c (argument_nodes (nodes_of c.part)) ≡ filled_cells ts d (argument_nodes (nodes_of d.part))
same_arguments ts c d e = rw (filled-arguments ts c, filled-arguments ts d, e)

args_of-arguments : (f : Formula) → args_of (argument_nodes (nodes_of f)) ≡ literal_arguments f
args_of-arguments f =
    rw (argument_nodes-nodes_of f, args_of-inside_before (all_before (literal_arguments f) []) [], terms_from-all_before (literal_arguments f) [] no_args) (joined-none (literal_arguments f))

-- and so are those of formulas with the same nodes of arguments
pub same_nodes : (f g : Formula) → argument_nodes (nodes_of f) ≡ argument_nodes (nodes_of g) → literal_arguments f ≡ literal_arguments g
same_nodes f g e =
    sym (args_of-arguments f) ∙ (ap args_of e ∙ args_of-arguments g)

pub nodes_same : (f g : Formula) → literal_arguments f ≡ literal_arguments g → argument_nodes (nodes_of f) ≡ argument_nodes (nodes_of g)
nodes_same f g e = rw (argument_nodes-nodes_of f, argument_nodes-nodes_of g, e)
