-- How many bytes the text of a certificate has, counted without making it.
use Rattle.std.specs.Prelude.{ℕ, zero, suc, ◌+◌, min, List, [], ◌∷◌, length}
use Rattle.std.specs.Fmt.{decimal}
use Rattle.fpc_terms.specs.declared.cell.Cell.{Cell}
use Rattle.fpc_terms.specs.declared.cell.Cell.TheVariants.{Eigen, Bound, Var, App}
use Rattle.fpc_terms.specs.Term.{cells_of}
use Rattle.fpc_terms.specs.Printing.{HasNamesBelow}
use Rattle.polarised_formulas.specs.declared.logic.Logic.{Logic}
use Rattle.polarised_formulas.specs.declared.node.Node.{Node}
use Rattle.polarised_formulas.specs.declared.node.Node.TheVariants.{True, False, Atom, And, Or, Implies, ForAll, Exists, Inside}
use Rattle.polarised_formulas.specs.declared.step.Step.{Step}
use Rattle.polarised_formulas.specs.declared.step.Step.TheVariants as step
use Rattle.polarised_formulas.specs.Formula.{nodes_of}
use Rattle.polarised_formulas.specs.Printing.{AllNamesBelow}
use Rattle.polarised_formulas.specs.Text.{mark_text, truth_text, falsity_text, conj_text, disj_text}
use Rattle.explicit_form.specs.StepText.{word_text, step_word}

-- a count in a `u64`, which stays at its greatest value
abbrev pub counted : ℕ → ℕ
counted n = min n 18446744073709551615

-- the parentheses and commas around so many arguments
abbrev pub around_arguments : ℕ → ℕ
around_arguments zero = 0
around_arguments (suc n) = n + 2

-- the bytes of a leaf, or of a name with the signs around its arguments
abbrev pub cell_size : (ℕ → List ℕ) → Cell → ℕ
cell_size text (Eigen n) = 1 + length (decimal n)
cell_size text (Bound k) = 1 + length (decimal k)
cell_size text (Var v) = 1 + length (decimal v)
cell_size text (App f n) = length (text f) + around_arguments n

abbrev pub cells_size : (ℕ → List ℕ) → List Cell → ℕ
cells_size text [] = 0
cells_size text (c ∷ cs) = cell_size text c + cells_size text cs

-- the bytes of a node with the signs around its parts
abbrev pub node_size : (ℕ → List ℕ) → Logic → Node → ℕ
node_size text logic (True p) = length (truth_text p)
node_size text logic (False p) = length (falsity_text logic p)
node_size text logic (Atom positive f n) = length (mark_text logic positive) + (length (text f) + around_arguments n)
node_size text logic (And p) = 4 + length (conj_text p)
node_size text logic (Or p) = 4 + length (disj_text logic p)
node_size text logic Implies = 6
node_size text logic ForAll = 4
node_size text logic Exists = 5
node_size text logic (Inside c) = cell_size text c

abbrev pub nodes_size : (ℕ → List ℕ) → Logic → List Node → ℕ
nodes_size text logic [] = 0
nodes_size text logic (n ∷ ns) = node_size text logic n + nodes_size text logic ns

-- the bytes behind the word of a step
abbrev pub argument_size : (ℕ → List ℕ) → Logic → Step → ℕ
argument_size text logic (step.Decide k) = length (decimal k) + 1
argument_size text logic (step.Init k) = length (decimal k) + 1
argument_size text logic (step.DecideL k) = length (decimal k) + 1
argument_size text logic (step.FocRInit k) = length (decimal k) + 1
argument_size text logic (step.Exists t) = cells_size text (cells_of t) + 1
argument_size text logic (step.FocLEvery t) = cells_size text (cells_of t) + 1
argument_size text logic (step.FocRExists t) = cells_size text (cells_of t) + 1
argument_size text logic (step.Cut f) = nodes_size text logic (nodes_of f) + 1
argument_size text logic _ = 0

abbrev pub step_size : (ℕ → List ℕ) → Logic → Step → ℕ
step_size text logic s = length (word_text (step_word s)) + argument_size text logic s

abbrev pub steps_size : (ℕ → List ℕ) → Logic → List Step → ℕ
steps_size text logic [] = 0
steps_size text logic (s ∷ ss) = step_size text logic s + steps_size text logic ss

-- the names in the step have numbers below n
abbrev pub StepNamedBelow : ℕ → Step → Type 0
StepNamedBelow n (step.Exists t) = HasNamesBelow n t
StepNamedBelow n (step.FocLEvery t) = HasNamesBelow n t
StepNamedBelow n (step.FocRExists t) = HasNamesBelow n t
StepNamedBelow n (step.Cut f) = AllNamesBelow n f
StepNamedBelow n _ = Unit {0}

-- so do those in each step
abbrev pub StepsNamedBelow : ℕ → List Step → Type 0
StepsNamedBelow n [] = Unit {0}
StepsNamedBelow n (s ∷ ss) = StepNamedBelow n s × StepsNamedBelow n ss
