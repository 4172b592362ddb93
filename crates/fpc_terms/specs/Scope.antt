-- Which cells are eigenvariables of at least a number.
use Rattle.std.specs.Prelude.{ℕ, Bool, false, nat_le}
use Rattle.fpc_terms.specs.declared.cell.Cell.{Cell}
use Rattle.fpc_terms.specs.declared.cell.Cell.TheVariants.{Eigen, Bound, Var, App}

-- the cell is an eigenvariable with a number of at least n
abbrev pub is_eigen_from : ℕ → Cell → Bool
is_eigen_from n (Eigen m) = nat_le n m
is_eigen_from n (Bound k) = false
is_eigen_from n (Var v) = false
is_eigen_from n (App f k) = false
