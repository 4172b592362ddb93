-- A machine that reads the tokens of a term, one after another, and keeps all that it read.
use Rattle.std.specs.Prelude.{ℕ, Bool, true, false, not, ◌&&◌, if◌then◌else◌, List, [], ◌∷◌, length, Option, Some, None, Result, Ok, Err, nat_eq, nat_le, is_some}
use Rattle.fpc_base.specs.declared.refusal.Code.{Code}
use Rattle.fpc_base.specs.declared.refusal.Code.TheVariants.{Unexpected, ManyArguments, ManyVariables}
use Rattle.fpc_base.specs.Tokens.{is_one_of}
use Rattle.fpc_base.specs.declared.tokens.lexeme.Sign.TheVariants.{OpenParenthesis, CloseParenthesis, Comma}
use Rattle.fpc_base.specs.Lexeme.{Lexeme, a_name, a_variable, a_sign}
use Rattle.fpc_terms.specs.Written.{WrittenTerm, WrittenArgs, variable_word, application, no_words, words}
use Rattle.fpc_terms.specs.Spot.{Spot, alone, in_arguments, in_term, done_at}

-- Where the reading stands: a term is to come (`wants`); its name was read (`named`); it was read, and what stands behind it is to come (`has`);
-- the arguments of the atom are whole (`ended`); or no term begins with the tokens (`stuck`).
pub data TermState : Type 0 where
  wants : Spot → TermState
  named : (text : List ℕ) → Spot → TermState
  has : WrittenTerm → Spot → TermState
  ended : WrittenArgs → TermState
  stuck : TermState

-- arguments, the last one first, before arguments in order
abbrev pub args_with : List WrittenTerm → WrittenArgs → WrittenArgs
args_with [] ts = ts
args_with (d ∷ ds) ts = args_with ds (words d ts)

-- a token behind a term
abbrev pub behind : WrittenTerm → Spot → Lexeme → TermState
behind u (in_arguments ds) (a_sign Comma) = wants (in_arguments (u ∷ ds))
behind u (in_arguments ds) (a_sign CloseParenthesis) = ended (args_with ds (words u no_words))
behind u (in_term x ds s) (a_sign Comma) = wants (in_term x (u ∷ ds) s)
behind u (in_term x ds s) (a_sign CloseParenthesis) = has (application x (args_with ds (words u no_words))) s
behind u _ _ = stuck

-- one token, where the variables are known that may stand in the term
abbrev pub step : (List ℕ → Bool) → TermState → Lexeme → TermState
step known (wants s) (a_variable x) = if known x then has (variable_word x) s else stuck
step known (wants s) (a_name x) = named x s
step known (named x s) (a_sign OpenParenthesis) = wants (in_term x [] s)
step known (named x s) c = behind (application x no_words) s c
step known (has u s) c = behind u s c
step known _ _ = stuck

-- tokens, one after another
abbrev pub run : (List ℕ → Bool) → TermState → List Lexeme → TermState
run known s [] = s
run known s (c ∷ cs) = run known (step known s c) cs

-- an argument behind 255 others is to come
abbrev pub is_full : TermState → Bool
is_full (wants s) = nat_eq (length (done_at s)) 255
is_full _ = false

-- a term begins with the tokens so far
abbrev pub IsLive : TermState → Type 0
IsLive stuck = ⊥
IsLive _ = Unit {0}

-- the whole term, where the tokens so far are one by itself
abbrev pub whole_of : TermState → Option WrittenTerm
whole_of (has u alone) = Some u
whole_of (named x alone) = Some (application x no_words)
whole_of _ = None

-- a variable that is none of those, where there are as many as may be
abbrev pub is_too_many : Option ℕ → List (List ℕ) → Lexeme → Bool
is_too_many (Some most) variables (a_variable x) = not (is_one_of variables x) && nat_le most (length variables)
is_too_many _ _ _ = false

-- the next state, within the limits
abbrev pub within : (full many : Bool) → TermState → Result TermState Code
within full many stuck = Err Unexpected
within true many s = Err ManyArguments
within false true s = Err ManyVariables
within false false s = Ok s

-- one token, with the limits, behind so many variables
abbrev pub limited : (List ℕ → Bool) → Option ℕ → List (List ℕ) → TermState → Lexeme → Result TermState Code
limited known most variables s c = within (is_full (step known s c)) (is_too_many most variables c) (step known s c)

-- a term by itself is whole, and nothing goes on behind it
abbrev pub is_final : TermState → Bool
is_final (has u alone) = true
is_final _ = false

-- it is an open parenthesis
abbrev pub is_open : Lexeme → Bool
is_open (a_sign OpenParenthesis) = true
is_open _ = false

-- a whole term doesn't go on with the token
abbrev pub ends_before : TermState → Lexeme → Bool
ends_before s c = is_some (whole_of s) && not (is_open c)
