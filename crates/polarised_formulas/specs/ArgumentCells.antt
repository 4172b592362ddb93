-- The cells of a literal's arguments, with the cells of terms in the place of references.
use Rattle.std.specs.Prelude.{ℕ, suc, List, [], ◌∷◌, ◌++◌, get_or}
use Rattle.fpc_terms.specs.declared.cell.Cell.{Cell}
use Rattle.fpc_terms.specs.declared.cell.Cell.TheVariants.{Eigen, Bound, Var}
use Rattle.fpc_terms.specs.Term.{Term, eigen, cells_of}
use Rattle.polarised_formulas.specs.declared.node.Node.{Node}
use Rattle.polarised_formulas.specs.declared.node.Node.TheVariants.{Atom, Inside}
use Rattle.polarised_formulas.specs.declared.held.Given.{Given}
use Rattle.polarised_formulas.specs.declared.held.Given.TheVariants as given_by
use Rattle.polarised_formulas.specs.declared.argument_cells.Piece.{Piece}
use Rattle.polarised_formulas.specs.declared.argument_cells.Piece.TheVariants as piece
use Rattle.polarised_formulas.specs.Closure.{Closure}

-- the nodes of a literal's arguments; none of another formula's nodes
abbrev pub argument_nodes : List Node → List Node
argument_nodes (Atom positive name n ∷ ns) = ns
argument_nodes _ = []

-- what a reference stands for
abbrev pub given_piece : Given → Piece
given_piece (given_by.Eigen n) = piece.Own (Eigen n)
given_piece (given_by.Term k) = piece.Term k

-- what a cell of a closure stands for
abbrev pub piece_of : Closure Given → Cell → Piece
piece_of c (Bound k) = given_piece (get_or c.opened k (given_by.Eigen 0))
piece_of c (Var v) = given_piece (get_or c.parameters v (given_by.Eigen 0))
piece_of c cell = piece.Own cell

-- how many terms of the table a piece needs
abbrev pub piece_reach : Piece → ℕ
piece_reach (piece.Own cell) = 0
piece_reach (piece.Term k) = suc k

-- the cells of a piece, by a table of terms
abbrev pub piece_cells : List Term → Piece → List Cell
piece_cells ts (piece.Own cell) = cell ∷ []
piece_cells ts (piece.Term k) = cells_of (get_or ts k (eigen 0))

-- the cells that a closure's nodes of arguments stand for, by a table of terms
abbrev pub filled_cells : List Term → Closure Given → List Node → List Cell
filled_cells ts c [] = []
filled_cells ts c (Inside cell ∷ ns) = piece_cells ts (piece_of c cell) ++ filled_cells ts c ns
filled_cells ts c (_ ∷ ns) = []

-- the cells from a place on, which is before cells of a term and nodes of arguments
abbrev pub cells_from : List Term → Closure Given → List Cell → List Node → List Cell
cells_from ts c cells ns = cells ++ filled_cells ts c ns
