-- Terms by reference, how many terms of a table they need, and the arguments of literals.
use Rattle.std.specs.Prelude.{ℕ, suc, max, List, [], ◌∷◌, get_or}
use Rattle.std.specs.List.{AllByRecursion}
use Rattle.fpc_terms.specs.Term.{Term, Args, eigen, no_args, Each, Always, Never}
use Rattle.polarised_formulas.specs.declared.held.Given.{Given}
use Rattle.polarised_formulas.specs.declared.held.Given.TheVariants as given_by
use Rattle.polarised_formulas.specs.Formula.{Formula, atom}
use Rattle.polarised_formulas.specs.Closure.{Closure}

-- the term of a reference by a table of terms
abbrev pub given : List Term → Given → Term
given ts (given_by.Eigen n) = eigen n
given ts (given_by.Term k) = get_or ts k (eigen 0)

-- no term of the table has a bound index
abbrev pub AreUnbound : List Term → Type 0
AreUnbound ts = AllByRecursion (Each Always Never Always) ts

-- how many terms of the table a reference needs
abbrev pub given_reach : Given → ℕ
given_reach (given_by.Eigen n) = 0
given_reach (given_by.Term k) = suc k

-- how many terms of the table some references need
abbrev pub givens_reach : List Given → ℕ
givens_reach [] = 0
givens_reach (r ∷ rs) = max (given_reach r) (givens_reach rs)

-- how many terms of the table a closure needs
abbrev pub closure_reach : Closure Given → ℕ
closure_reach c = max (givens_reach c.opened) (givens_reach c.parameters)

-- the arguments of a literal; none of other formulas
abbrev pub literal_arguments : Formula → Args
literal_arguments (atom positive name ts) = ts
literal_arguments f = no_args
