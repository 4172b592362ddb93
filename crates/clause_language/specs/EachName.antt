-- What holds of each name of written items.
use Rattle.std.specs.Prelude.{ℕ, List, [], ◌∷◌}
use Rattle.polarised_formulas.specs.EachName.{EachNameOf, EachNameIn}
use Rattle.clause_language.specs.Written.{WrittenAtom, WrittenItem, declaration, a_clause}

-- each name of the atom is as the predicate says
abbrev pub EachNameOfAtom : (List ℕ → Type 0) → WrittenAtom → Type 0
EachNameOfAtom P a = P a.text × EachNameOf P a.args

-- each name of the atoms is
abbrev pub EachNameOfAtoms : (List ℕ → Type 0) → List WrittenAtom → Type 0
EachNameOfAtoms P [] = Unit {0}
EachNameOfAtoms P (a ∷ more) = EachNameOfAtom P a × EachNameOfAtoms P more

-- each name of the item is
abbrev pub EachNameOfItem : (List ℕ → Type 0) → WrittenItem → Type 0
EachNameOfItem P (declaration x parameters f) = P x × EachNameIn P f
EachNameOfItem P (a_clause c) = EachNameOfAtom P c.head × EachNameOfAtoms P c.body

-- each name of the items is
abbrev pub EachNameOfItems : (List ℕ → Type 0) → List WrittenItem → Type 0
EachNameOfItems P [] = Unit {0}
EachNameOfItems P (i ∷ is) = EachNameOfItem P i × EachNameOfItems P is
