-- What is read of a term, and how it is refused.
use Rattle.std.specs.Prelude.{◌≡◌, ℕ, Bool, true, List, [], Option, Some, Result, Ok, Err}
use Rattle.fpc_base.specs.declared.refusal.Code.{Code}
use Rattle.fpc_base.specs.declared.refusal.ParseRefusal.{ParseRefusal}
use Rattle.fpc_base.specs.declared.refusal.ParseRefusal.TheVariants as parse
use Rattle.fpc_base.specs.declared.refusal.TokenRefusal.{TokenRefusal}
use Rattle.fpc_base.specs.declared.refusal.TokenRefusal.TheVariants as token
use Rattle.fpc_base.specs.Lexeme.{Item}
use Rattle.fpc_base.specs.Reading.{ReadsFront, RefusesFront}
use Rattle.fpc_terms.specs.Name.{Agrees, index_in}
use Rattle.fpc_terms.specs.Term.{Term, variable}
use Rattle.fpc_terms.specs.Written.{WrittenTerm, IsTerm, term_tokens, term_meant, variables_in}
use Rattle.fpc_terms.specs.Spot.{TermLimits}
use Rattle.fpc_terms.specs.Machine.{TermState, whole_of}
use Rattle.fpc_terms.specs.declared.reader.TermReader.{TermReader}
use Rattle.fpc_terms.specs.Holding.{Holds}

-- each variable may stand in the term
abbrev pub any_variable : List ℕ → Bool
any_variable x = true

-- a variable is kept by its number
abbrev pub numbered : (List ℕ → ℕ) → List ℕ → Term
numbered numbers x = variable (numbers x)

-- The items begin with this term, and the rest of them is left. Variables that were not among the old ones are numbered behind them.
pub record TermIsRead (most : Option ℕ) (items rest : List Item) (names old new : List (List ℕ)) (t : Term) : Type 0 where
  pub written : WrittenTerm
  pub reads : ReadsFront (IsTerm any_variable) (TermLimits any_variable most old) [] items written rest
  pub variables : new ≡ variables_in (term_tokens written []) old
  pub meant : (number : List ℕ → ℕ) → Agrees number names → t ≡ term_meant number (numbered (index_in new)) written

-- a refusal of the term at the front of the items, in a source of n bytes; or memory ran out
abbrev pub IsTermRefusal : Option ℕ → List Item → List (List ℕ) → ℕ → ParseRefusal → Type 0
IsTermRefusal most items old n (parse.Refused r) = RefusesFront (IsTerm any_variable) (TermLimits any_variable most old) n [] items r
IsTermRefusal most items old n parse.OutOfMemory = Unit {0}

-- the reader holds the state, for all numberings that agree with the tables
abbrev pub HoldsFor : List (List ℕ) → List (List ℕ) → TermState → TermReader → Type 0
HoldsFor names variables s r = (number numbers : List ℕ → ℕ) → Agrees number names → Agrees numbers variables → Holds number (numbered numbers) s r

-- a token was taken or refused as the machine does, or memory ran out
abbrev pub TakesFor : Result (Unit {0}) TokenRefusal → List (List ℕ) → List (List ℕ) → Result TermState Code → TermReader → Type 0
TakesFor (Ok u) names variables next r = (t : TermState) × ((next ≡ Ok t) × HoldsFor names variables t r)
TakesFor (Err (token.Refused code)) names variables next r = next ≡ Err code
TakesFor (Err token.OutOfMemory) names variables next r = Unit {0}

-- A term was read whole from the front of the items, and the reader holds it.
pub record Leads (most : Option ℕ) (items rest : List Item) (names old new : List (List ℕ)) (r : TermReader) : Type 0 where
  pub written : WrittenTerm
  pub state : TermState
  pub whole : whole_of state ≡ Some written
  pub reads : ReadsFront (IsTerm any_variable) (TermLimits any_variable most old) [] items written rest
  pub variables : new ≡ variables_in (term_tokens written []) old
  pub holds : HoldsFor names new state r
