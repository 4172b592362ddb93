-- What a state of the machine has read.
use Rattle.std.specs.Prelude.{◌≡◌, ℕ, Bool, List, ◌∷◌}
use Rattle.fpc_base.specs.Lexeme.{Lexeme, a_name}
use Rattle.fpc_terms.specs.Written.{WrittenArgs, no_words, words, term_tokens, args_tokens, IsKnown, AreKnown}
use Rattle.fpc_terms.specs.Spot.{Spot, alone, in_arguments, in_term, tokens_to, IsSpotKnown, IsAlone}
use Rattle.fpc_terms.specs.Machine.{TermState, wants, named, has, ended, stuck}

-- the tokens that led to the state, before other tokens
abbrev pub tokens_before : TermState → List Lexeme → List Lexeme
tokens_before (wants s) rest = tokens_to s rest
tokens_before (named x s) rest = tokens_to s (a_name x ∷ rest)
tokens_before (has u s) rest = tokens_to s (term_tokens u rest)
tokens_before (ended args) rest = args_tokens args rest
tokens_before stuck rest = rest

-- the variables read so far are known
abbrev pub IsStateKnown : (List ℕ → Bool) → TermState → Type 0
IsStateKnown known (wants s) = IsSpotKnown known s
IsStateKnown known (named x s) = IsSpotKnown known s
IsStateKnown known (has u s) = IsKnown known u × IsSpotKnown known s
IsStateKnown known (ended args) = AreKnown known args
IsStateKnown known stuck = Unit {0}

-- an atom's arguments are read, and there is one at least
abbrev pub AreSome : WrittenArgs → Type 0
AreSome no_words = ⊥
AreSome (words t ts) = Unit {0}

abbrev pub IsArgumentSpot : Spot → Type 0
IsArgumentSpot alone = ⊥
IsArgumentSpot (in_arguments done) = Unit {0}
IsArgumentSpot (in_term x done s) = IsArgumentSpot s

-- the state is that of an atom's arguments
abbrev pub IsArgumentState : TermState → Type 0
IsArgumentState (wants s) = IsArgumentSpot s
IsArgumentState (named x s) = IsArgumentSpot s
IsArgumentState (has u s) = IsArgumentSpot s
IsArgumentState (ended args) = AreSome args
IsArgumentState stuck = Unit {0}

-- the state is that of a term by itself
abbrev pub IsAloneState : TermState → Type 0
IsAloneState (wants s) = IsAlone s
IsAloneState (named x s) = IsAlone s
IsAloneState (has u s) = IsAlone s
IsAloneState (ended args) = ⊥
IsAloneState stuck = Unit {0}

-- what a live step keeps
pub record Follows (known : List ℕ → Bool) (s : TermState) (c : Lexeme) (t : TermState) : Type 0 where
  pub tokens : (rest : List Lexeme) → tokens_before t rest ≡ tokens_before s (c ∷ rest)
  pub known_all : IsStateKnown known t
  pub argument : IsArgumentState s → IsArgumentState t
  pub is_alone : IsAloneState s → IsAloneState t
