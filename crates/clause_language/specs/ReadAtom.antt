-- What is read of an atom by itself, and how it is refused.
use Rattle.std.specs.Prelude.{◌≡◌, ℕ, List, [], length, None}
use Rattle.fpc_base.specs.declared.refusal.Code.{Code}
use Rattle.fpc_base.specs.declared.refusal.ParseRefusal.{ParseRefusal}
use Rattle.fpc_base.specs.declared.refusal.ParseRefusal.TheVariants as parse
use Rattle.fpc_base.specs.Lexeme.{Lexeme, Item}
use Rattle.fpc_base.specs.Reading.{ReadsAll, RefusesAll}
use Rattle.fpc_terms.specs.Name.{Agrees, index_in}
use Rattle.fpc_terms.specs.ReadTerm.{any_variable}
use Rattle.fpc_terms.specs.Spot.{TermLimits}
use Rattle.fpc_terms.specs.Written.{variables_in}
use Rattle.clause_language.specs.declared.atom.Atom.{Atom}
use Rattle.clause_language.specs.Meant.{atom_meant}
use Rattle.clause_language.specs.Written.{WrittenAtom, atom_tokens}

-- the tokens are those of this atom
abbrev pub IsAtom : List Lexeme → WrittenAtom → Type 0
IsAtom tokens a = tokens ≡ atom_tokens a []

-- as in a term: the comma behind the 255th argument is forbidden; there may be any number of variables
abbrev pub AtomLimits : List Lexeme → Lexeme → Code → Type 0
AtomLimits before c code = TermLimits any_variable None [] before c code

-- the different variables of an atom, by their first occurrence
abbrev pub atom_variables : WrittenAtom → List (List ℕ)
atom_variables a = variables_in (atom_tokens a []) []

-- The items are those of an atom, to the end, that means this one, with so many variables, numbered by their first occurrence.
pub record AtomIsRead (items : List Item) (names : List (List ℕ)) (read : Atom × ℕ) : Type 0 where
  pub written : WrittenAtom
  pub reads : ReadsAll IsAtom AtomLimits [] items written
  pub meant : (number : List ℕ → ℕ) → Agrees number names → read.0 ≡ atom_meant number (index_in (atom_variables written)) written
  pub counted : read.1 ≡ length (atom_variables written)

-- a refusal of the atom in a text of n bytes; or memory ran out
abbrev pub IsAtomRefusal : List Item → ℕ → ParseRefusal → Type 0
IsAtomRefusal items n (parse.Refused r) = RefusesAll IsAtom AtomLimits n [] items r
IsAtomRefusal items n parse.OutOfMemory = Unit {0}
