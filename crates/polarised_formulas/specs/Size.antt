-- How deep a formula is nested, and how many arguments its names have.
use Rattle.std.specs.Prelude.{ℕ, suc, ◌≤◌, max}
use Rattle.fpc_terms.specs.Term.{count}
pub use Rattle.fpc_terms.specs.Arity.{HasFew, AllHaveFew, IsFewCell}
use Rattle.polarised_formulas.specs.declared.node.Node.{Node}
use Rattle.polarised_formulas.specs.declared.node.Node.TheVariants.{Atom, Inside}
use Rattle.polarised_formulas.specs.declared.step.Step.{Step}
use Rattle.polarised_formulas.specs.declared.step.Step.TheVariants as step
use Rattle.polarised_formulas.specs.Formula.{Formula, truth, falsity, atom, conj, disj, implies, for_all, exists}

-- how deep the formula is nested; a unit or an atom counts 1
abbrev pub depth_of : Formula → ℕ
depth_of (truth p) = 1
depth_of (falsity p) = 1
depth_of (atom positive f ts) = 1
depth_of (conj p a b) = suc (max (depth_of a) (depth_of b))
depth_of (disj p a b) = suc (max (depth_of a) (depth_of b))
depth_of (implies a b) = suc (max (depth_of a) (depth_of b))
depth_of (for_all a) = suc (depth_of a)
depth_of (exists a) = suc (depth_of a)

-- each name of the formula has at most 255 arguments
abbrev pub HasFewArguments : Formula → Type 0
HasFewArguments (truth p) = Unit {0}
HasFewArguments (falsity p) = Unit {0}
HasFewArguments (atom positive f ts) = (count ts ≤ 255) × AllHaveFew ts
HasFewArguments (conj p a b) = HasFewArguments a × HasFewArguments b
HasFewArguments (disj p a b) = HasFewArguments a × HasFewArguments b
HasFewArguments (implies a b) = HasFewArguments a × HasFewArguments b
HasFewArguments (for_all a) = HasFewArguments a
HasFewArguments (exists a) = HasFewArguments a

-- the node has at most 255 arguments
abbrev pub IsFewNode : Node → Type 0
IsFewNode (Atom positive f n) = n ≤ 255
IsFewNode (Inside c) = IsFewCell c
IsFewNode _ = Unit {0}

-- each name in the step has at most 255 arguments
abbrev pub HasFewInStep : Step → Type 0
HasFewInStep (step.Exists t) = HasFew t
HasFewInStep (step.FocLEvery t) = HasFew t
HasFewInStep (step.FocRExists t) = HasFew t
HasFewInStep (step.Cut f) = HasFewArguments f
HasFewInStep _ = Unit {0}

-- a cut formula in the step is nested at most 10,000 deep
abbrev pub IsShallowStep : Step → Type 0
IsShallowStep (step.Cut f) = depth_of f ≤ 10000
IsShallowStep _ = Unit {0}
