-- How large the items of a file are.
use Rattle.std.proofs.Common.{ℕ, ◌≤◌, List, [], ◌∷◌, length}
use Rattle.fpc_terms.specs.Written.{WrittenArgs, application, no_words, words}
use Rattle.polarised_formulas.proofs.Small.{written_depth, AreSmall, HasSmall}
use Rattle.clause_language.specs.Written.{WrittenAtom, WrittenClause, WrittenItem, declaration, a_clause}
use Rattle.clause_language.proofs.VariableOrder.{texts_to_all}

-- the atoms of a clause, one after another, as arguments
abbrev pub atoms_as_words : List WrittenAtom → WrittenArgs
atoms_as_words [] = no_words
atoms_as_words (a ∷ more) = words (application a.text a.args) (atoms_as_words more)

-- the head and the body of a clause
abbrev pub written_atoms : WrittenClause → WrittenArgs
written_atoms c = atoms_as_words (c.head ∷ c.body)

-- the different variables of a clause, by their first occurrence
abbrev pub texts_of_clause : WrittenClause → List (List ℕ)
texts_of_clause c = texts_to_all (written_atoms c) []

-- the item is within the limits: 255 arguments, 255 parameters, 255 variables and nesting of 10,000
abbrev pub IsItemSmall : WrittenItem → Type 0
IsItemSmall (declaration x parameters w) = (length parameters ≤ 255) × (written_depth w ≤ 10000) × HasSmall w
IsItemSmall (a_clause c) = AreSmall (written_atoms c) × (length (texts_of_clause c) ≤ 255)

-- each item is
abbrev pub AreItemsSmall : List WrittenItem → Type 0
AreItemsSmall [] = Unit {0}
AreItemsSmall (i ∷ is) = IsItemSmall i × AreItemsSmall is
