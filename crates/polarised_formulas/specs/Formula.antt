-- Formulas as trees, their nodes in prefix order, and their meaning: polarity, dual, opening, closedness.
use Rattle.std.specs.Prelude.{◌≡◌, ℕ, suc, ◌<◌, Bool, true, false, not, ◌||◌, List, [], ◌∷◌, Option, Some, None, refl}
use Rattle.std.specs.Coded.{Coded, code_by, coded_list}
use Rattle.std.proofs.Common.{ap}
use Rattle.fpc_terms.specs.declared.cell.Cell.{Cell}
use Rattle.fpc_terms.specs.Term.{Term, Args, no_args, count, all_before, first_args, cell_on, terms_from, terms_from-all_before, first_args-joined, open_args, any_has_eigen_from, EachArg, Never}
use Rattle.polarised_formulas.specs.declared.logic.Logic.{Logic}
use Rattle.polarised_formulas.specs.declared.logic.Logic.TheVariants.{Lkf, Ljf}
use Rattle.polarised_formulas.specs.declared.logic.Polarity.{Polarity}
use Rattle.polarised_formulas.specs.declared.logic.Polarity.TheVariants.{Positive, Negative}
use Rattle.polarised_formulas.specs.declared.node.Node.{Node}
use Rattle.polarised_formulas.specs.declared.node.Node.TheVariants.{True, False, Atom, And, Or, Implies, ForAll, Exists, Inside}
use Rattle.polarised_formulas.specs.contracts.node.Node as node

-- A formula of either logic. In LKF a positive atom is `p(..)` and a negative one `~p(..)`; in LJF they are `+p(..)` and `-p(..)`.
pub data Formula : Type 0 where
  truth : (polarity : Polarity) → Formula
  falsity : (polarity : Polarity) → Formula
  atom : (positive : Bool) → (name : ℕ) → (args : Args) → Formula
  conj : (polarity : Polarity) → (first second : Formula) → Formula
  disj : (polarity : Polarity) → (first second : Formula) → Formula
  implies : (first second : Formula) → Formula
  for_all : (body : Formula) → Formula
  exists : (body : Formula) → Formula

-- cells as nodes, before other nodes
abbrev pub inside_before : List Cell → List Node → List Node
inside_before [] ns = ns
inside_before (c ∷ cs) ns = Inside c ∷ inside_before cs ns

-- the nodes of a formula in prefix order, before other nodes
abbrev pub nodes_before : Formula → List Node → List Node
nodes_before (truth p) ns = True p ∷ ns
nodes_before (falsity p) ns = False p ∷ ns
nodes_before (atom positive name ts) ns = Atom positive name (count ts) ∷ inside_before (all_before ts []) ns
nodes_before (conj p a b) ns = And p ∷ nodes_before a (nodes_before b ns)
nodes_before (disj p a b) ns = Or p ∷ nodes_before a (nodes_before b ns)
nodes_before (implies a b) ns = Implies ∷ nodes_before a (nodes_before b ns)
nodes_before (for_all a) ns = ForAll ∷ nodes_before a ns
nodes_before (exists a) ns = Exists ∷ nodes_before a ns

-- the nodes of a formula
abbrev pub nodes_of : Formula → List Node
nodes_of f = nodes_before f []

-- the nodes of some formulas, one after another
abbrev pub all_nodes_of : List Formula → List Node
all_nodes_of [] = []
all_nodes_of (f ∷ fs) = nodes_before f (all_nodes_of fs)

-- the terms that the nodes begin with
abbrev pub args_of : List Node → Args
args_of [] = no_args
args_of (Inside c ∷ ns) = cell_on c (args_of ns)
args_of (_ ∷ ns) = no_args

-- the first of some formulas, and the others
abbrev pub first_formula : List Formula → Formula
first_formula [] = falsity Positive
first_formula (f ∷ fs) = f

-- the formulas behind the first
abbrev pub later_formulas : List Formula → List Formula
later_formulas [] = []
later_formulas (f ∷ fs) = fs

-- a node before formulas of which it takes one
abbrev pub on_one : (Formula → Formula) → List Formula → List Formula
on_one make fs = make (first_formula fs) ∷ later_formulas fs

-- a node before formulas of which it takes two
abbrev pub on_two : (Formula → Formula → Formula) → List Formula → List Formula
on_two make fs = make (first_formula fs) (first_formula (later_formulas fs)) ∷ later_formulas (later_formulas fs)

-- the formulas that nodes spell, one after another
abbrev pub formulas_of : List Node → List Formula
formulas_of [] = []
formulas_of (True p ∷ ns) = truth p ∷ formulas_of ns
formulas_of (False p ∷ ns) = falsity p ∷ formulas_of ns
formulas_of (Atom positive name n ∷ ns) = atom positive name (first_args n (args_of ns)) ∷ formulas_of ns
formulas_of (And p ∷ ns) = on_two (conj p) (formulas_of ns)
formulas_of (Or p ∷ ns) = on_two (disj p) (formulas_of ns)
formulas_of (Implies ∷ ns) = on_two implies (formulas_of ns)
formulas_of (ForAll ∷ ns) = on_one for_all (formulas_of ns)
formulas_of (Exists ∷ ns) = on_one exists (formulas_of ns)
formulas_of (Inside c ∷ ns) = formulas_of ns

-- the formula that nodes spell
abbrev pub formula_of : List Node → Formula
formula_of ns = first_formula (formulas_of ns)

-- the nodes of exactly one formula
abbrev pub IsOneFormula : List Node → Type 0
IsOneFormula ns = nodes_of (formula_of ns) ≡ ns

-- the terms that a literal's cells spell
pub args_of-inside_before : (cs : List Cell) (ns : List Node) → args_of (inside_before cs ns) ≡ terms_from cs (args_of ns)
args_of-inside_before [] ns = refl
args_of-inside_before (c ∷ cs) ns = ap (cell_on c) (args_of-inside_before cs ns)

-- cells of a literal spell no formula
pub formulas_of-inside_before : (cs : List Cell) (ns : List Node) → formulas_of (inside_before cs ns) ≡ formulas_of ns
formulas_of-inside_before [] ns = refl
formulas_of-inside_before (c ∷ cs) ns = formulas_of-inside_before cs ns

-- the nodes of a formula spell it, before those that follow
pub formulas_of-nodes_before : (f : Formula) (ns : List Node) → formulas_of (nodes_before f ns) ≡ f ∷ formulas_of ns
formulas_of-nodes_before (truth p) ns = refl
formulas_of-nodes_before (falsity p) ns = refl
formulas_of-nodes_before (atom positive name ts) ns =
    rw (args_of-inside_before (all_before ts []) ns, terms_from-all_before ts [] (args_of ns), first_args-joined, formulas_of-inside_before (all_before ts []) ns)
formulas_of-nodes_before (conj p a b) ns = rw (formulas_of-nodes_before a (nodes_before b ns), formulas_of-nodes_before b ns)
formulas_of-nodes_before (disj p a b) ns = rw (formulas_of-nodes_before a (nodes_before b ns), formulas_of-nodes_before b ns)
formulas_of-nodes_before (implies a b) ns = rw (formulas_of-nodes_before a (nodes_before b ns), formulas_of-nodes_before b ns)
formulas_of-nodes_before (for_all a) ns = rw (formulas_of-nodes_before a ns)
formulas_of-nodes_before (exists a) ns = rw (formulas_of-nodes_before a ns)

-- a formula is spelled by its nodes
pub formula_of-nodes_of : (f : Formula) → formula_of (nodes_of f) ≡ f
formula_of-nodes_of f = rw (formulas_of-nodes_before f [])

-- a formula is stored as its nodes
abbrev pub formula_code : Coded Formula
formula_code = code_by (List Node) (coded_list node.the_row.coded) nodes_of formula_of formula_of-nodes_of

-- the formula's outermost node
abbrev pub root_node : Formula → Node
root_node (truth p) = True p
root_node (falsity p) = False p
root_node (atom positive name ts) = Atom positive name (count ts)
root_node (conj p a b) = And p
root_node (disj p a b) = Or p
root_node (implies a b) = Implies
root_node (for_all a) = ForAll
root_node (exists a) = Exists

-- the two parts of a formula whose outermost node is a binary connective
abbrev pub parts_of : Formula → Option (Formula × Formula)
parts_of (conj p a b) = Some (a, b)
parts_of (disj p a b) = Some (a, b)
parts_of (implies a b) = Some (a, b)
parts_of _ = None

-- the polarity of a literal by its sign
abbrev pub sign_polarity : Bool → Polarity
sign_polarity true = Positive
sign_polarity false = Negative

-- whether a formula is worked on in the positive or in the negative phase
abbrev pub polarity_of : Formula → Polarity
polarity_of (truth p) = p
polarity_of (falsity p) = p
polarity_of (atom positive name ts) = sign_polarity positive
polarity_of (conj p a b) = p
polarity_of (disj p a b) = p
polarity_of (implies a b) = Negative
polarity_of (for_all a) = Negative
polarity_of (exists a) = Positive

-- the other of the two
abbrev pub other_polarity : Polarity → Polarity
other_polarity Positive = Negative
other_polarity Negative = Positive

-- The De Morgan dual in LKF. LJF has no dual: its connective `=>`, which no formula of LKF has, stays as it is.
abbrev pub dual_of : Formula → Formula
dual_of (truth p) = falsity (other_polarity p)
dual_of (falsity p) = truth (other_polarity p)
dual_of (atom positive name ts) = atom (not positive) name ts
dual_of (conj p a b) = disj (other_polarity p) (dual_of a) (dual_of b)
dual_of (disj p a b) = conj (other_polarity p) (dual_of a) (dual_of b)
dual_of (implies a b) = implies (dual_of a) (dual_of b)
dual_of (for_all a) = exists (dual_of a)
dual_of (exists a) = for_all (dual_of a)

-- the term t, which has no bound index, in the place of the index that counts k quantifiers outwards from the outermost node
abbrev pub open_at : ℕ → Term → Formula → Formula
open_at k t (truth p) = truth p
open_at k t (falsity p) = falsity p
open_at k t (atom positive name ts) = atom positive name (open_args k t ts)
open_at k t (conj p a b) = conj p (open_at k t a) (open_at k t b)
open_at k t (disj p a b) = disj p (open_at k t a) (open_at k t b)
open_at k t (implies a b) = implies (open_at k t a) (open_at k t b)
open_at k t (for_all a) = for_all (open_at (suc k) t a)
open_at k t (exists a) = exists (open_at (suc k) t a)

-- the body of a quantified formula with the term in the place of the index that the quantifier binds
abbrev pub opened : Term → Formula → Option Formula
opened t (for_all a) = Some (open_at 0 t a)
opened t (exists a) = Some (open_at 0 t a)
opened t _ = None

-- some eigenvariable of the formula has a number of at least n
abbrev pub has_eigen_in : ℕ → Formula → Bool
has_eigen_in n (truth p) = false
has_eigen_in n (falsity p) = false
has_eigen_in n (atom positive name ts) = any_has_eigen_from n ts
has_eigen_in n (conj p a b) = has_eigen_in n a || has_eigen_in n b
has_eigen_in n (disj p a b) = has_eigen_in n a || has_eigen_in n b
has_eigen_in n (implies a b) = has_eigen_in n a || has_eigen_in n b
has_eigen_in n (for_all a) = has_eigen_in n a
has_eigen_in n (exists a) = has_eigen_in n a

-- What holds of each leaf of a formula under d quantifiers: e of eigenvariables, b of bound indexes by depth, v of variables.
abbrev pub EachInside : (ℕ → Type 0) → (ℕ → ℕ → Type 0) → (ℕ → Type 0) → ℕ → Formula → Type 0
EachInside e b v d (truth p) = Unit {0}
EachInside e b v d (falsity p) = Unit {0}
EachInside e b v d (atom positive name ts) = EachArg e (b d) v ts
EachInside e b v d (conj p x y) = EachInside e b v d x × EachInside e b v d y
EachInside e b v d (disj p x y) = EachInside e b v d x × EachInside e b v d y
EachInside e b v d (implies x y) = EachInside e b v d x × EachInside e b v d y
EachInside e b v d (for_all x) = EachInside e b v (suc d) x
EachInside e b v d (exists x) = EachInside e b v (suc d) x

-- an index that one of d quantifiers binds
abbrev pub Tied : ℕ → ℕ → Type 0
Tied d j = j < d

-- without variables and free bound indexes, and its eigenvariables are as e says
abbrev pub IsProper : (ℕ → Type 0) → Formula → Type 0
IsProper e f = EachInside e Tied Never 0 f

-- without variables, eigenvariables and free bound indexes
abbrev pub IsClosed : Formula → Type 0
IsClosed f = IsProper Never f

-- a formula of LKF
abbrev pub IsLkf : Formula → Type 0
IsLkf (truth p) = Unit {0}
IsLkf (falsity p) = Unit {0}
IsLkf (atom positive name ts) = Unit {0}
IsLkf (conj p a b) = IsLkf a × IsLkf b
IsLkf (disj p a b) = IsLkf a × IsLkf b
IsLkf (implies a b) = ⊥
IsLkf (for_all a) = IsLkf a
IsLkf (exists a) = IsLkf a

-- a formula of LJF: its `ff` and its disjunction are positive
abbrev pub IsLjf : Formula → Type 0
IsLjf (truth p) = Unit {0}
IsLjf (falsity Positive) = Unit {0}
IsLjf (falsity Negative) = ⊥
IsLjf (atom positive name ts) = Unit {0}
IsLjf (conj p a b) = IsLjf a × IsLjf b
IsLjf (disj Positive a b) = IsLjf a × IsLjf b
IsLjf (disj Negative a b) = ⊥
IsLjf (implies a b) = IsLjf a × IsLjf b
IsLjf (for_all a) = IsLjf a
IsLjf (exists a) = IsLjf a

-- a formula of a logic
abbrev pub IsOfLogic : Logic → Formula → Type 0
IsOfLogic Lkf f = IsLkf f
IsOfLogic Ljf f = IsLjf f
