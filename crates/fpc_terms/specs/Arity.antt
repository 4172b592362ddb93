-- How many arguments names have.
use Rattle.std.specs.Prelude.{◌≤◌}
use Rattle.fpc_terms.specs.declared.cell.Cell.{Cell}
use Rattle.fpc_terms.specs.declared.cell.Cell.TheVariants.{Eigen, Bound, Var, App}
use Rattle.fpc_terms.specs.Term.{Term, Args, eigen, bound, variable, app, no_args, arg, count}

abbrev mutual
  -- each name of the term has at most 255 arguments
  pub HasFew : Term → Type 0
  HasFew (eigen n) = Unit {0}
  HasFew (bound k) = Unit {0}
  HasFew (variable v) = Unit {0}
  HasFew (app f ts) = (count ts ≤ 255) × AllHaveFew ts

  pub AllHaveFew : Args → Type 0
  AllHaveFew no_args = Unit {0}
  AllHaveFew (arg t ts) = HasFew t × AllHaveFew ts

-- the cell has at most 255 arguments
abbrev pub IsFewCell : Cell → Type 0
IsFewCell (Eigen n) = Unit {0}
IsFewCell (Bound k) = Unit {0}
IsFewCell (Var v) = Unit {0}
IsFewCell (App f n) = n ≤ 255
