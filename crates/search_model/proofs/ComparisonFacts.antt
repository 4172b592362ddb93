-- Facts of the first cells of terms.
use Rattle.std.specs.Prelude.{◌≡◌, List, refl, get_or, length, ◌<◌}
use Rattle.fpc_terms.specs.declared.cell.Cell.{Cell}
use Rattle.fpc_terms.specs.Equality.{equality, parts}
use Rattle.fpc_terms.proofs.EqualityFacts.{AreAsMany, equality_as_many}
use Rattle.fpc_terms.specs.Term.{Term, eigen, bound, variable, app, cells_of, terms_in, arguments_in}
use Rattle.search_model.specs.States.{args_in, first_cell}
use Rattle.std.proofs.Common.{arith, ap, sym, subst, ◌∙◌}

-- a term's cells begin with the first one
pub first-cells_of : (t : Term) (d : Cell) → get_or (cells_of t) 0 d ≡ first_cell t
first-cells_of (eigen n) d = refl
first-cells_of (bound k) d = refl
first-cells_of (variable n) d = refl
first-cells_of (app f ts) d = refl

-- a term has a cell
pub some-cells_of : (t : Term) → 0 < length (cells_of t)
some-cells_of (eigen n) = omega arith
some-cells_of (bound k) = omega arith
some-cells_of (variable n) = omega arith
some-cells_of (app f ts) = omega arith

-- what is read at the front of a term's cells is the first one
pub first-read : (t : Term) (cells : List Cell) (c : Cell) → cells ≡ cells_of t → c ≡ get_or cells 0 c → first_cell t ≡ c
first-read t cells c are is = sym (first-cells_of t c) ∙ ap (λ cs. get_or cs 0 c) (sym are) ∙ sym is

-- the arguments of a term, as a list
pub terms-args_in : (t : Term) → terms_in (args_in t) ≡ arguments_in t
terms-args_in (eigen n) = refl
terms-args_in (bound k) = refl
terms-args_in (variable n) = refl
terms-args_in (app f ts) = refl

-- terms whose equality comes to that of their arguments have as many
pub parts-as_many : (t u : Term) → parts (args_in t) (args_in u) ≡ equality t u → length (arguments_in t) ≡ length (arguments_in u)
parts-as_many t u is = ap length (sym (terms-args_in t)) ∙ subst AreAsMany (sym is) (equality_as_many t u) ∙ ap length (terms-args_in u)
