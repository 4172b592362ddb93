-- How the fields of a reader stand for the tokens of an atom that it took.
use Rattle.std.specs.Prelude.{◌≡◌, ℕ, Bool, true, false, List, [], ◌∷◌, ◌++◌, length, Result, Ok, Err}
use Rattle.fpc_base.specs.declared.refusal.Code.TheVariants.{Unexpected}
use Rattle.fpc_base.specs.declared.refusal.ParseRefusal.{ParseRefusal}
use Rattle.fpc_base.specs.declared.refusal.ParseRefusal.TheVariants as parse
use Rattle.fpc_base.specs.declared.refusal.Refusal.{Refusal}
use Rattle.fpc_base.specs.declared.refusal.TokenRefusal.{TokenRefusal}
use Rattle.fpc_base.specs.declared.refusal.TokenRefusal.TheVariants.{Refused, OutOfMemory}
use Rattle.fpc_base.specs.Lexeme.{Lexeme, Item, a_name}
use Rattle.fpc_base.specs.Reading.{IsTaken, IsRefused, ReadsAll, RefusesAll}
use Rattle.fpc_terms.specs.Name.{Agrees, index_in}
use Rattle.fpc_terms.specs.Written.{variables_in}
use Rattle.fpc_terms.specs.Spot.{alone}
use Rattle.fpc_terms.specs.Machine.{wants, run}
use Rattle.fpc_terms.specs.ReadTerm.{any_variable, HoldsFor}
use Rattle.clause_language.specs.declared.atom.Atom.{Atom}
use Rattle.clause_language.specs.declared.single_atom.AtomReader.{AtomReader}
use Rattle.clause_language.specs.Written.{WrittenAtom}
use Rattle.clause_language.specs.Meant.{atom_meant}
use Rattle.clause_language.specs.ReadAtom.{IsAtom, AtomLimits, atom_variables}

-- tokens at the front of a text
abbrev pub Front : Type 0
Front = List Lexeme

-- an atom that was begun begins with a name
abbrev pub IsFront : (begun : Bool) → Front → Type 0
IsFront false [] = Unit {0}
IsFront true (a_name x ∷ tokens) = Unit {0}
IsFront _ _ = ⊥

-- the reader took these tokens
pub record HoldsAtom (names : List (List ℕ)) (before : List Lexeme) (r : AtomReader) : Type 0 where
  pub front : IsFront r.is_begun before
  pub variables : r.variables ≡ variables_in before []
  pub holds : HoldsFor names r.variables (run any_variable (wants alone) before) r.terms

-- a token was taken or refused behind others, or memory ran out
abbrev pub TakesAtom : Result (Unit {0}) TokenRefusal → List (List ℕ) → (before : List Lexeme) → Lexeme → AtomReader → Type 0
TakesAtom (Ok u) names before c r = IsTaken IsAtom AtomLimits before c × HoldsAtom names (before ++ c ∷ []) r
TakesAtom (Err (Refused code)) names before c r = IsRefused IsAtom AtomLimits before c code
TakesAtom (Err OutOfMemory) names before c r = Unit {0}

-- the tokens are those of an atom that means this one, for all numberings that agree with the table
pub record AtomOf (names : List (List ℕ)) (tokens : List Lexeme) (read : Atom × ℕ) : Type 0 where
  pub written : WrittenAtom
  pub whole : IsAtom tokens written
  pub meant : (number : List ℕ → ℕ) → Agrees number names → read.0 ≡ atom_meant number (index_in (atom_variables written)) written
  pub counted : read.1 ≡ length (atom_variables written)

-- what tokens are at their end, in a text of n bytes
abbrev pub IsAtomEnd : List (List ℕ) → ℕ → List Lexeme → Result (Atom × ℕ) ParseRefusal → Type 0
IsAtomEnd names n tokens (Ok read) = AtomOf names tokens read
IsAtomEnd names n tokens (Err (parse.Refused r)) = (r ≡ record { code = Unexpected; at = n }) × ((w : WrittenAtom) → IsAtom tokens w → ⊥)
IsAtomEnd names n tokens (Err parse.OutOfMemory) = Unit {0}

-- The reader took tokens of a text of n bytes, behind which the rest of its items stands. What is read or refused behind them is read or refused in all.
pub record AtomIsTaken (n : ℕ) (items rest : List Item) (names : List (List ℕ)) (r : AtomReader) : Type 0 where
  pub before : List Lexeme
  pub holds : HoldsAtom names before r
  pub read : (w : WrittenAtom) → ReadsAll IsAtom AtomLimits before rest w → ReadsAll IsAtom AtomLimits [] items w
  pub refused : (refusal : Refusal) → RefusesAll IsAtom AtomLimits n before rest refusal → RefusesAll IsAtom AtomLimits n [] items refusal
