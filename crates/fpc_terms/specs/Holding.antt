-- How the fields of a reader stand for a state of the machine of terms.
use Rattle.std.specs.Prelude.{◌≡◌, ℕ, ◌<◌, Bool, true, false, List, [], ◌∷◌, map, length, Result, Ok, Err}
use Rattle.fpc_base.specs.declared.refusal.Code.{Code}
use Rattle.fpc_base.specs.declared.refusal.TokenRefusal.{TokenRefusal}
use Rattle.fpc_base.specs.declared.refusal.TokenRefusal.TheVariants.{Refused, OutOfMemory}
use Rattle.fpc_base.specs.declared.tokens.lexeme.Lexeme as code
use Rattle.fpc_terms.specs.Name.{IsName}
use Rattle.fpc_terms.specs.Term.{Term}
use Rattle.fpc_terms.specs.Partial.{Frame, Partial, nothing, with_term, turned}
use Rattle.fpc_terms.specs.Written.{term_meant, args_meant}
use Rattle.fpc_terms.specs.Spot.{Spot, alone, in_arguments, in_term}
use Rattle.fpc_terms.specs.Machine.{TermState, wants, named, has, ended, stuck}
use Rattle.fpc_terms.specs.declared.reader.Mode.{Mode}
use Rattle.fpc_terms.specs.declared.reader.Mode.TheVariants as mode
use Rattle.fpc_terms.specs.declared.reader.TermReader.{TermReader}

-- the whole terms at a spot that stand in no application, the last one first
abbrev pub base_at : (List ℕ → ℕ) → (List ℕ → Term) → Spot → List Term
base_at number leaf alone = []
base_at number leaf (in_arguments done) = map (term_meant number leaf) done
base_at number leaf (in_term x done spot) = base_at number leaf spot

-- the applications that are open at a spot
abbrev pub frames_at : (List ℕ → ℕ) → (List ℕ → Term) → Spot → List Frame
frames_at number leaf alone = []
frames_at number leaf (in_arguments done) = []
frames_at number leaf (in_term x done spot) = record { name = number x; args = map (term_meant number leaf) done } ∷ frames_at number leaf spot

-- what is built in a state
abbrev pub built : (List ℕ → ℕ) → (List ℕ → Term) → TermState → Partial
built number leaf (wants s) = record { base = base_at number leaf s; frames = frames_at number leaf s }
built number leaf (named x s) = record { base = base_at number leaf s; frames = frames_at number leaf s }
built number leaf (has u s) = with_term (term_meant number leaf u) (base_at number leaf s) (frames_at number leaf s)
built number leaf (ended args) = record { base = turned (args_meant number leaf args) []; frames = [] }
built number leaf stuck = nothing

-- what comes next in a state, as the reader keeps it
abbrev pub mode_of : (List ℕ → ℕ) → TermState → Mode
mode_of number (wants s) = mode.Wants
mode_of number (named x s) = mode.Named (number x)
mode_of number (has u s) = mode.Has
mode_of number _ = mode.Ended

-- a term by itself stands at the bottom
abbrev pub is_alone_at : Spot → Bool
is_alone_at alone = true
is_alone_at (in_arguments done) = false
is_alone_at (in_term x done spot) = is_alone_at spot

-- the state is that of a term by itself
abbrev pub is_alone_in : TermState → Bool
is_alone_in (wants s) = is_alone_at s
is_alone_in (named x s) = is_alone_at s
is_alone_in (has u s) = is_alone_at s
is_alone_in _ = false

-- one more argument may stand at the spot and at each around it
abbrev pub HasRoomAt : Spot → Type 0
HasRoomAt alone = Unit {0}
HasRoomAt (in_arguments done) = length done < 255
HasRoomAt (in_term x done spot) = (length done < 255) × HasRoomAt spot

-- one more argument may come in the state
abbrev pub HasRoomIn : TermState → Type 0
HasRoomIn (wants s) = HasRoomAt s
HasRoomIn (named x s) = HasRoomAt s
HasRoomIn (has u s) = HasRoomAt s
HasRoomIn (ended args) = Unit {0}
HasRoomIn stuck = ⊥

-- The reader holds the state: names stand for their numbers, variables for what the leaf says.
pub record Holds (number : List ℕ → ℕ) (leaf : List ℕ → Term) (s : TermState) (r : TermReader) : Type 0 where
  pub mode : r.mode ≡ mode_of number s
  pub is_alone : r.is_alone ≡ is_alone_in s
  pub terms : r.terms ≡ built number leaf s
  pub room : HasRoomIn s

-- a token was taken or refused as the machine does, or memory ran out
abbrev pub Takes : Result (Unit {0}) TokenRefusal → (List ℕ → ℕ) → (List ℕ → Term) → Result TermState Code → TermReader → Type 0
Takes (Ok u) number leaf next r = (t : TermState) × ((next ≡ Ok t) × Holds number leaf t r)
Takes (Err (Refused code)) number leaf next r = next ≡ Err code
Takes (Err OutOfMemory) number leaf next r = Unit {0}

-- the text of a name is one, as each scanner gives it
abbrev pub IsNamed : code.Lexeme → Type 0
IsNamed (code.TheVariants.Name x) = IsName x.now
IsNamed _ = Unit {0}

-- it is a variable
abbrev pub is_variable : code.Lexeme → Bool
is_variable (code.TheVariants.Variable x) = true
is_variable _ = false
