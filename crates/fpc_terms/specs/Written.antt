-- Terms as they are written, their tokens, and the terms that they stand for.
use Rattle.std.specs.Prelude.{◌≡◌, ℕ, Bool, true, if◌then◌else◌, List, [], ◌∷◌, ◌++◌}
use Rattle.fpc_base.specs.declared.tokens.lexeme.Sign.TheVariants.{OpenParenthesis, CloseParenthesis, Comma}
use Rattle.fpc_base.specs.Lexeme.{Lexeme, a_name, a_variable, a_sign}
use Rattle.fpc_base.specs.Tokens.{is_one_of}
use Rattle.fpc_terms.specs.Term.{Term, Args, app, no_args, arg}

mutual
  -- a variable, or a name with its arguments; names and variables are their texts
  pub data WrittenTerm : Type 0 where
    variable_word : (text : List ℕ) → WrittenTerm
    application : (text : List ℕ) → (args : WrittenArgs) → WrittenTerm

  -- the arguments of a name, in order
  pub data WrittenArgs : Type 0 where
    no_words : WrittenArgs
    words : (first : WrittenTerm) → (rest : WrittenArgs) → WrittenArgs

abbrev mutual
  -- the tokens of a term, before other tokens
  pub term_tokens : WrittenTerm → List Lexeme → List Lexeme
  term_tokens (variable_word x) rest = a_variable x ∷ rest
  term_tokens (application x args) rest = a_name x ∷ args_tokens args rest

  -- the arguments in parentheses, where there are any
  pub args_tokens : WrittenArgs → List Lexeme → List Lexeme
  args_tokens no_words rest = rest
  args_tokens (words t ts) rest = a_sign OpenParenthesis ∷ term_tokens t (more_tokens ts rest)

  -- the arguments behind one
  pub more_tokens : WrittenArgs → List Lexeme → List Lexeme
  more_tokens no_words rest = a_sign CloseParenthesis ∷ rest
  more_tokens (words t ts) rest = a_sign Comma ∷ term_tokens t (more_tokens ts rest)

abbrev mutual
  -- each variable of the term is known
  pub IsKnown : (List ℕ → Bool) → WrittenTerm → Type 0
  IsKnown known (variable_word x) = known x ≡ true
  IsKnown known (application x args) = AreKnown known args

  pub AreKnown : (List ℕ → Bool) → WrittenArgs → Type 0
  AreKnown known no_words = Unit {0}
  AreKnown known (words t ts) = IsKnown known t × AreKnown known ts

abbrev mutual
  -- the term that a written one stands for: names by their numbers, variables as the leaf says
  pub term_meant : (List ℕ → ℕ) → (List ℕ → Term) → WrittenTerm → Term
  term_meant number leaf (variable_word x) = leaf x
  term_meant number leaf (application x args) = app (number x) (args_meant number leaf args)

  pub args_meant : (List ℕ → ℕ) → (List ℕ → Term) → WrittenArgs → Args
  args_meant number leaf no_words = no_args
  args_meant number leaf (words t ts) = arg (term_meant number leaf t) (args_meant number leaf ts)

-- the tokens are those of this term
pub record IsTerm (known : List ℕ → Bool) (tokens : List Lexeme) (w : WrittenTerm) : Type 0 where
  pub spelled : tokens ≡ term_tokens w []
  pub known_all : IsKnown known w

-- different variables by their first occurrence, behind earlier ones
abbrev pub variables_in : List Lexeme → List (List ℕ) → List (List ℕ)
variables_in [] earlier = earlier
variables_in (a_variable x ∷ tokens) earlier = variables_in tokens (if is_one_of earlier x then earlier else earlier ++ x ∷ [])
variables_in (_ ∷ tokens) earlier = variables_in tokens earlier
