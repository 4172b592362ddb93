-- Terms put for variables, cell by cell.
use Rattle.std.specs.Prelude.{ℕ, List, [], ◌∷◌}
use Rattle.fpc_terms.specs.declared.cell.Cell.{Cell}
use Rattle.fpc_terms.specs.declared.cell.Cell.TheVariants.{Eigen, Bound, Var, App}
use Rattle.fpc_terms.specs.Term.{Term, cells_of}

-- the cells that stand for a cell: those of its term for a variable, and the cell itself for another
abbrev pub cell_put : (ℕ → Term) → Cell → List Cell
cell_put s (Eigen n) = Eigen n ∷ []
cell_put s (Bound k) = Bound k ∷ []
cell_put s (Var n) = cells_of (s n)
cell_put s (App f n) = App f n ∷ []
