-- What is read off the cells of terms that stand one after another.
use Rattle.std.specs.Prelude.{◌≡◌, ℕ, zero, suc, ◌+◌, List, [], ◌∷◌}
use Rattle.fpc_terms.specs.declared.cell.Cell.{Cell}
use Rattle.fpc_terms.specs.declared.cell.Cell.TheVariants.{Eigen, Bound, Var, App}
use Rattle.fpc_terms.specs.Term.{no_args, all_before, terms_from}

-- how many terms stand behind a cell as its arguments
abbrev pub arity : Cell → ℕ
arity (Eigen n) = 0
arity (Bound k) = 0
arity (Var n) = 0
arity (App f n) = n

-- how many cells the first of the terms have, as many of these as wanted
abbrev pub front_length : ℕ → List Cell → ℕ
front_length zero cs = 0
front_length (suc wanted) [] = 0
front_length (suc wanted) (c ∷ cs) = suc (front_length (wanted + arity c) cs)

-- the cells of terms, one after another
abbrev pub AreTerms : List Cell → Type 0
AreTerms cs = all_before (terms_from cs no_args) [] ≡ cs
