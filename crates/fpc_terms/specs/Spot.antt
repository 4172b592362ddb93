-- The way into a term: what stands before an argument that is still to come.
use Rattle.std.specs.Prelude.{◌≡◌, ℕ, ◌≤◌, Bool, false, List, [], ◌∷◌, ◌++◌, length, Option, Some}
use Rattle.fpc_base.specs.declared.refusal.Code.{Code}
use Rattle.fpc_base.specs.declared.refusal.Code.TheVariants.{ManyArguments, ManyVariables}
use Rattle.fpc_base.specs.declared.tokens.lexeme.Sign.TheVariants.{OpenParenthesis, Comma}
use Rattle.fpc_base.specs.Lexeme.{Lexeme, a_name, a_variable, a_sign}
use Rattle.fpc_base.specs.Tokens.{is_one_of}
use Rattle.fpc_terms.specs.Written.{WrittenTerm, term_tokens, IsKnown, variables_in}

-- Where a term stands: by itself, as an argument of an atom, or as an argument of a name in a term.
-- The arguments before it are kept with the last one first.
pub data Spot : Type 0 where
  alone : Spot
  in_arguments : (done : List WrittenTerm) → Spot
  in_term : (text : List ℕ) → (done : List WrittenTerm) → (spot : Spot) → Spot

-- an open parenthesis and arguments, each with its comma, before other tokens
abbrev pub done_tokens : List WrittenTerm → List Lexeme → List Lexeme
done_tokens [] rest = a_sign OpenParenthesis ∷ rest
done_tokens (t ∷ ts) rest = done_tokens ts (term_tokens t (a_sign Comma ∷ rest))

-- the tokens before the term, before other tokens
abbrev pub tokens_to : Spot → List Lexeme → List Lexeme
tokens_to alone rest = rest
tokens_to (in_arguments done) rest = done_tokens done rest
tokens_to (in_term x done spot) rest = tokens_to spot (a_name x ∷ done_tokens done rest)

-- the arguments before it, the last one first
abbrev pub done_at : Spot → List WrittenTerm
done_at alone = []
done_at (in_arguments done) = done
done_at (in_term x done spot) = done

-- each variable of the terms is known
abbrev pub AllKnown : (List ℕ → Bool) → List WrittenTerm → Type 0
AllKnown known [] = Unit {0}
AllKnown known (t ∷ ts) = IsKnown known t × AllKnown known ts

-- each variable of the arguments before it is known
abbrev pub IsSpotKnown : (List ℕ → Bool) → Spot → Type 0
IsSpotKnown known alone = Unit {0}
IsSpotKnown known (in_arguments done) = AllKnown known done
IsSpotKnown known (in_term x done spot) = AllKnown known done × IsSpotKnown known spot

-- a term stands by itself at the bottom, not an atom's argument
abbrev pub IsAlone : Spot → Type 0
IsAlone alone = Unit {0}
IsAlone (in_arguments done) = ⊥
IsAlone (in_term x done spot) = IsAlone spot

-- the tokens lead to an argument of a term, behind n other arguments
pub record LeadsBehind (known : List ℕ → Bool) (n : ℕ) (tokens : List Lexeme) : Type 0 where
  pub spot : Spot
  pub is_alone : IsAlone spot
  pub known_all : IsSpotKnown known spot
  pub spelled : tokens ≡ tokens_to spot []
  pub behind : length (done_at spot) ≡ n

-- What forbids a token of a term behind others: the comma behind the 255th argument, and a new variable where there are as many as may be.
pub data TermLimits (known : List ℕ → Bool) (most : Option ℕ) (earlier : List (List ℕ)) (before : List Lexeme) : Lexeme → Code → Type 0 where
  many_arguments : {c : Lexeme} → LeadsBehind known 255 (before ++ c ∷ []) → TermLimits known most earlier before c ManyArguments
  many_variables : {x : List ℕ} {n : ℕ} → is_one_of (variables_in before earlier) x ≡ false → most ≡ Some n
      → n ≤ length (variables_in before earlier) → TermLimits known most earlier before (a_variable x) ManyVariables
