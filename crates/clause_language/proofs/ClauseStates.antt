-- What a state of the machine of clauses has read.
use Rattle.std.specs.Prelude.{◌≡◌, ℕ, List, ◌∷◌, ◌++◌}
use Rattle.fpc_base.specs.declared.tokens.lexeme.Sign.TheVariants as sign
use Rattle.fpc_base.specs.Lexeme.{Lexeme, a_name, a_variable, a_sign}
use Rattle.fpc_terms.specs.Written.{WrittenTerm, WrittenArgs, variable_word, application, no_words, words}
use Rattle.fpc_terms.specs.Spot.{Spot, alone, in_arguments, in_term, IsAlone}
use Rattle.fpc_terms.specs.Machine as term
use Rattle.fpc_terms.specs.ReadTerm.{any_variable}
use Rattle.fpc_terms.proofs.States as of_term
use Rattle.clause_language.specs.Written.{clause_tokens}
use Rattle.clause_language.specs.Limits.{tokens_to_atom, IsInside}
use Rattle.clause_language.specs.ClauseMachine.{ClauseState, at_atom, in_atom, ended, stuck}

-- a clause begins with the tokens so far
abbrev pub IsLiveClause : ClauseState → Type 0
IsLiveClause stuck = ⊥
IsLiveClause _ = Unit {0}

-- a clause begins with them, and is not whole
abbrev pub IsGoingClause : ClauseState → Type 0
IsGoingClause (ended w) = ⊥
IsGoingClause stuck = ⊥
IsGoingClause _ = Unit {0}

-- the tokens that led to the state, before other tokens
abbrev pub clause_tokens_before : ClauseState → List Lexeme → List Lexeme
clause_tokens_before (at_atom p vs) rest = tokens_to_atom p rest
clause_tokens_before (in_atom p vs t) rest = tokens_to_atom p (of_term.tokens_before t rest)
clause_tokens_before (ended w) rest = clause_tokens w rest
clause_tokens_before stuck rest = rest

-- a term that begins with a name
abbrev pub IsApplication : WrittenTerm → Type 0
IsApplication (variable_word x) = ⊥
IsApplication (application x args) = Unit {0}

-- a term was read at the spot, and by itself it begins with a name
abbrev pub IsReadAt : Spot → WrittenTerm → Type 0
IsReadAt alone u = IsApplication u
IsReadAt (in_arguments done) u = ⊥
IsReadAt (in_term x done spot) u = IsAlone spot

-- the state is that of a term by itself, which begins with a name
abbrev pub IsAtomState : term.TermState → Type 0
IsAtomState (term.wants s) = IsInside s
IsAtomState (term.named x s) = IsAlone s
IsAtomState (term.has u s) = IsReadAt s u
IsAtomState (term.ended args) = ⊥
IsAtomState term.stuck = ⊥

-- the term of an atom begins with a name
abbrev pub IsClauseState : ClauseState → Type 0
IsClauseState (in_atom p vs t) = IsAtomState t
IsClauseState _ = Unit {0}

-- the state keeps the variables
abbrev pub KeepsVariables : List (List ℕ) → ClauseState → Type 0
KeepsVariables us (at_atom p vs) = vs ≡ us
KeepsVariables us (in_atom p vs t) = vs ≡ us
KeepsVariables us _ = Unit {0}

-- what a live step keeps
pub record ClauseFollows (s : ClauseState) (c : Lexeme) (t : ClauseState) : Type 0 where
  pub tokens : (rest : List Lexeme) → clause_tokens_before t rest ≡ clause_tokens_before s (c ∷ rest)
  pub is_state : IsClauseState t

-- what live tokens keep
pub record ClauseLeads (cs : List Lexeme) (s t : ClauseState) : Type 0 where
  pub tokens : (rest : List Lexeme) → clause_tokens_before t rest ≡ clause_tokens_before s (cs ++ rest)
  pub is_state : IsClauseState t

-- a spot inside a term lies in a term by itself
pub inside-alone : (s : Spot) → IsInside s → IsAlone s
inside-alone alone h = absurd h
inside-alone (in_arguments ds) h = absurd h
inside-alone (in_term x ds s) h = h

pub inside-read : (s : Spot) (u : WrittenTerm) → IsInside s → IsReadAt s u
inside-read alone u h = absurd h
inside-read (in_arguments ds) u h = absurd h
inside-read (in_term x ds s) u h = h

pub alone-read : (s : Spot) (x : List ℕ) (args : WrittenArgs) → IsAlone s → IsReadAt s (application x args)
alone-read alone x args h = tt
alone-read (in_arguments ds) x args h = absurd h
alone-read (in_term y ds s) x args h = h

pub read-alone : (s : Spot) (u : WrittenTerm) → IsReadAt s u → IsAlone s
read-alone alone u h = tt
read-alone (in_arguments ds) u h = absurd h
read-alone (in_term x ds s) u h = h

pub atom-alone : (t : term.TermState) → IsAtomState t → of_term.IsAloneState t
atom-alone (term.wants s) h = inside-alone s h
atom-alone (term.named x s) h = h
atom-alone (term.has u s) h = read-alone s u h
atom-alone (term.ended args) h = absurd h
atom-alone term.stuck h = absurd h

pub atom-live : (t : term.TermState) → IsAtomState t → term.IsLive t
atom-live term.stuck h = absurd h
atom-live _ h = tt

behind-atom : (u : WrittenTerm) (s : Spot) (c : Lexeme) → IsReadAt s u → term.IsLive (term.behind u s c) → IsAtomState (term.behind u s c)
behind-atom u (in_arguments ds) c h live = absurd h
behind-atom u (in_term x ds s) (a_sign sign.Comma) h live = h
behind-atom u (in_term x ds s) (a_sign sign.CloseParenthesis) h live = alone-read s x (term.args_with ds (words u no_words)) h
behind-atom _ _ _ h live = absurd live

-- a live step stays in the term of the atom
pub step-atom : (t : term.TermState) (c : Lexeme) → IsAtomState t → term.IsLive (term.step any_variable t c) → IsAtomState (term.step any_variable t c)
step-atom (term.wants s) (a_variable x) h live = inside-read s (variable_word x) h
step-atom (term.wants s) (a_name x) h live = inside-alone s h
step-atom (term.named x s) (a_sign sign.OpenParenthesis) h live = h
step-atom (term.named x s) c h live = behind-atom (application x no_words) s c (alone-read s x no_words h) live
step-atom (term.has u s) c h live = behind-atom u s c h live
step-atom _ _ h live = absurd live
