-- How the fields of a reader stand for a state of the machine of clauses.
use Rattle.std.specs.Prelude.{◌≡◌, ℕ, Bool, true, false, ◌&&◌, List, [], map, Option, Some, None, is_some, Result, Ok, Err}
use Rattle.fpc_base.specs.declared.refusal.Code.{Code}
use Rattle.fpc_base.specs.declared.refusal.TokenRefusal.{TokenRefusal}
use Rattle.fpc_base.specs.declared.refusal.TokenRefusal.TheVariants.{Refused, OutOfMemory}
use Rattle.fpc_base.specs.declared.tokens.lexeme.Sign.TheVariants as sign
use Rattle.fpc_base.specs.Lexeme.{Lexeme, a_sign}
use Rattle.fpc_terms.specs.Name.{Agrees}
use Rattle.fpc_terms.specs.Machine as term
use Rattle.fpc_terms.specs.Holding.{Holds}
use Rattle.fpc_terms.specs.ReadTerm.{numbered, HoldsFor}
use Rattle.fpc_terms.specs.declared.reader.TermReader.{TermReader}
use Rattle.clause_language.specs.declared.atom.Atom.{Atom}
use Rattle.clause_language.specs.declared.clause_reader.Mode.{Mode}
use Rattle.clause_language.specs.declared.clause_reader.Mode.TheVariants as mode
use Rattle.clause_language.specs.declared.clause_reader.ClauseReader.{ClauseReader}
use Rattle.clause_language.specs.Written.{WrittenAtom}
use Rattle.clause_language.specs.Limits.{AtomPlace, at_head, in_body}
use Rattle.clause_language.specs.Meant.{atom_meant, clause_variables}
use Rattle.clause_language.specs.ClauseMachine.{ClauseState, at_atom, in_atom, ended, stuck, whole_atom, run, clause_start}

-- a comma, `:-` or a dot
abbrev pub is_separator : Lexeme → Bool
is_separator (a_sign sign.If) = true
is_separator (a_sign sign.Comma) = true
is_separator (a_sign sign.Dot) = true
is_separator _ = false

-- the token stands behind an atom that is whole
abbrev pub stands_behind : ClauseState → Lexeme → Bool
stands_behind (in_atom p variables t) c = is_separator c && is_some (term.whole_of t)
stands_behind _ _ = false

-- the atom that the reader of terms holds, for each state in which it is whole
abbrev pub IsAtomOf : TermReader → Atom → Type 0
IsAtomOf r a = (number numbers : List ℕ → ℕ) (t : term.TermState) (w : WrittenAtom) → Holds number (numbered numbers) t r → whole_atom t ≡ Some w → a ≡ atom_meant number numbers w

-- the head, where the place lies in the body
abbrev pub head_at : (number numbers : List ℕ → ℕ) → AtomPlace → Option Atom
head_at number numbers at_head = None
head_at number numbers (in_body head done) = Some (atom_meant number numbers head)

-- the whole atoms of the body before the place
abbrev pub body_at : (number numbers : List ℕ → ℕ) → AtomPlace → List Atom
body_at number numbers at_head = []
body_at number numbers (in_body head done) = map (atom_meant number numbers) done

-- the reader holds the variables so far and the atoms before a place, for all numberings that agree with the tables
pub record HoldsPlace (names : List (List ℕ)) (m : Mode) (vs : List (List ℕ)) (p : AtomPlace) (r : ClauseReader) : Type 0 where
  pub mode : r.mode ≡ m
  pub variables : r.variables ≡ vs
  pub head : (number numbers : List ℕ → ℕ) → Agrees number names → Agrees numbers vs → r.head ≡ head_at number numbers p
  pub body : (number numbers : List ℕ → ℕ) → Agrees number names → Agrees numbers vs → r.body ≡ body_at number numbers p

-- what the reader holds in a state
abbrev pub HoldsParts : List (List ℕ) → ClauseState → ClauseReader → Type 0
HoldsParts names (at_atom p variables) r = HoldsPlace names mode.AtAtom variables p r
HoldsParts names (in_atom p variables t) r = HoldsPlace names mode.InAtom variables p r × HoldsFor names variables t r.terms
HoldsParts names (ended c) r = HoldsPlace names mode.Ended (clause_variables c) (in_body c.head c.body) r
HoldsParts names stuck r = ⊥

-- tokens lead to the state
abbrev pub IsReached : ClauseState → Type 0
IsReached s = (tokens : List Lexeme) × (run clause_start tokens ≡ s)

-- the reader holds the state, which some tokens lead to
pub record HoldsClause (names : List (List ℕ)) (s : ClauseState) (r : ClauseReader) : Type 0 where
  pub reached : IsReached s
  pub parts : HoldsParts names s r

-- a token was taken or refused as the machine does, or memory ran out
abbrev pub TakesClause : Result (Unit {0}) TokenRefusal → List (List ℕ) → Result ClauseState Code → ClauseReader → Type 0
TakesClause (Ok u) names next r = (t : ClauseState) × ((next ≡ Ok t) × HoldsClause names t r)
TakesClause (Err (Refused code)) names next r = next ≡ Err code
TakesClause (Err OutOfMemory) names next r = Unit {0}
