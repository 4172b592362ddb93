-- A machine that reads the tokens of a clause, one after another, and keeps all that it read.
use Rattle.std.specs.Prelude.{ℕ, List, [], ◌∷◌, ◌++◌, Option, Some, None, Result, Ok, Err}
use Rattle.fpc_base.specs.declared.refusal.Code.{Code}
use Rattle.fpc_base.specs.declared.refusal.Code.TheVariants.{Unexpected}
use Rattle.fpc_base.specs.declared.tokens.lexeme.Sign.TheVariants as sign
use Rattle.fpc_base.specs.Lexeme.{Lexeme, a_name, a_sign}
use Rattle.fpc_terms.specs.Written.{WrittenTerm, application, variables_in}
use Rattle.fpc_terms.specs.Spot.{alone}
use Rattle.fpc_terms.specs.Machine as term
use Rattle.fpc_terms.specs.ReadTerm.{any_variable}
use Rattle.clause_language.specs.Written.{WrittenAtom, WrittenClause}
use Rattle.clause_language.specs.Limits.{AtomPlace, at_head, in_body}

-- Where the reading of a clause stands: the name of an atom is to come (`at_atom`); an atom was begun, which is read as a term (`in_atom`); the
-- clause ended with its dot (`ended`); or no clause begins with the tokens (`stuck`). The variables so far are kept.
pub data ClauseState : Type 0 where
  at_atom : AtomPlace → (variables : List (List ℕ)) → ClauseState
  in_atom : AtomPlace → (variables : List (List ℕ)) → term.TermState → ClauseState
  ended : WrittenClause → ClauseState
  stuck : ClauseState

-- the atom, where a term that begins with a name is whole
abbrev pub atom_of : WrittenTerm → Option WrittenAtom
atom_of (application x args) = let a : WrittenAtom = record { text = x; args = args } in Some a
atom_of _ = None

-- the atom of a term, where there is one
abbrev pub whole_in : Option WrittenTerm → Option WrittenAtom
whole_in (Some w) = atom_of w
whole_in None = None

-- the atom that is being read, where the tokens so far are one
abbrev pub whole_atom : term.TermState → Option WrittenAtom
whole_atom t = whole_in (term.whole_of t)

-- a clause of a head and a body
abbrev pub clause_of : WrittenAtom → List WrittenAtom → WrittenClause
clause_of head body = record { head = head; body = body }

-- a token behind a whole atom
abbrev pub behind_atom : AtomPlace → List (List ℕ) → WrittenAtom → Lexeme → ClauseState
behind_atom at_head variables a (a_sign sign.If) = at_atom (in_body a []) variables
behind_atom at_head variables a (a_sign sign.Dot) = ended (clause_of a [])
behind_atom (in_body head done) variables a (a_sign sign.Comma) = at_atom (in_body head (done ++ a ∷ [])) variables
behind_atom (in_body head done) variables a (a_sign sign.Dot) = ended (clause_of head (done ++ a ∷ []))
behind_atom _ _ _ _ = stuck

-- the same, where the atom is whole
abbrev pub behind : AtomPlace → List (List ℕ) → Option WrittenAtom → Lexeme → ClauseState
behind p variables (Some a) c = behind_atom p variables a c
behind p variables None c = stuck

-- the term of an atom goes on with the token, or else the token stands behind the atom
abbrev pub gone_on : AtomPlace → List (List ℕ) → Option WrittenAtom → Lexeme → term.TermState → ClauseState
gone_on p variables whole c term.stuck = behind p variables whole c
gone_on p variables whole c t = in_atom p (variables_in (c ∷ []) variables) t

-- one token
abbrev pub step : ClauseState → Lexeme → ClauseState
step (at_atom p variables) (a_name x) = in_atom p variables (term.named x alone)
step (in_atom p variables t) c = gone_on p variables (whole_atom t) c (term.step any_variable t c)
step _ _ = stuck

-- tokens, one after another
abbrev pub run : ClauseState → List Lexeme → ClauseState
run s [] = s
run s (c ∷ cs) = run (step s c) cs

-- a clause is to come
abbrev pub clause_start : ClauseState
clause_start = at_atom at_head []

-- the next state, or Unexpected where there is none
abbrev pub within : ClauseState → Result ClauseState Code
within stuck = Err Unexpected
within s = Ok s

-- the same with the limits of the term
abbrev pub gone_on_within : AtomPlace → List (List ℕ) → Option WrittenAtom → Lexeme → Result term.TermState Code → Result ClauseState Code
gone_on_within p variables whole c (Ok t) = Ok (in_atom p (variables_in (c ∷ []) variables) t)
gone_on_within p variables whole c (Err Unexpected) = within (behind p variables whole c)
gone_on_within p variables whole c (Err code) = Err code

-- one token, with the limits: a clause has at most 255 variables
abbrev pub limited : ClauseState → Lexeme → Result ClauseState Code
limited (in_atom p variables t) c = gone_on_within p variables (whole_atom t) c (term.limited any_variable (Some 255) variables t c)
limited s c = within (step s c)
