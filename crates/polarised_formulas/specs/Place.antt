-- The way into a formula: what stands before a part that is still to come; and what the limits forbid.
use Rattle.std.specs.Prelude.{◌≡◌, ℕ, suc, Bool, List, [], ◌∷◌, ◌++◌, length}
use Rattle.fpc_base.specs.declared.refusal.Code.{Code}
use Rattle.fpc_base.specs.declared.refusal.Code.TheVariants.{TooDeep, ManyArguments}
use Rattle.fpc_base.specs.declared.tokens.lexeme.Sign.TheVariants as sign
use Rattle.fpc_base.specs.Lexeme.{Lexeme, a_name, a_variable, a_sign}
use Rattle.fpc_terms.specs.Spot.{Spot, alone, in_arguments, in_term, tokens_to, done_at, IsSpotKnown}
use Rattle.polarised_formulas.specs.declared.logic.Logic.{Logic}
use Rattle.polarised_formulas.specs.declared.connective.Joiner.{Joiner}
use Rattle.polarised_formulas.specs.declared.connective.Binder.{Binder}
use Rattle.polarised_formulas.specs.Written.{WrittenFormula, formula_tokens, mark_tokens, joiner_sign, binder_sign, logic_word, IsWrittenIn, IsJoinerOf, IsBound, is_known}

-- Where a formula stands: by itself, as the first or the second part of a pair, or under a quantifier.
pub data Place : Type 0 where
  whole : Place
  in_first : (place : Place) → Place
  in_second : (joiner : Joiner) → (first : WrittenFormula) → (place : Place) → Place
  under : (binder : Binder) → (text : List ℕ) → (place : Place) → Place

-- the tokens before the formula, before other tokens
abbrev pub tokens_to_place : Logic → Place → List Lexeme → List Lexeme
tokens_to_place logic whole rest = rest
tokens_to_place logic (in_first p) rest = tokens_to_place logic p (a_sign sign.OpenParenthesis ∷ rest)
tokens_to_place logic (in_second j a p) rest = tokens_to_place logic p (a_sign sign.OpenParenthesis ∷ formula_tokens logic a (a_sign (joiner_sign logic j) ∷ rest))
tokens_to_place logic (under q x p) rest = tokens_to_place logic p (a_sign (binder_sign q) ∷ a_variable x ∷ a_sign sign.Colon ∷ rest)

-- the variables that are bound around it, the innermost first
abbrev pub scope_at : Place → List (List ℕ)
scope_at whole = []
scope_at (in_first p) = scope_at p
scope_at (in_second j a p) = scope_at p
scope_at (under q x p) = x ∷ scope_at p

-- how deep the formula is nested; the outermost counts 1
abbrev pub nesting : Place → ℕ
nesting whole = 1
nesting (in_first p) = suc (nesting p)
nesting (in_second j a p) = suc (nesting p)
nesting (under q x p) = suc (nesting p)

-- the formulas before it have their variables bound
abbrev pub IsPlaceBound : List (List ℕ) → Place → Type 0
IsPlaceBound parameters whole = Unit {0}
IsPlaceBound parameters (in_first p) = IsPlaceBound parameters p
IsPlaceBound parameters (in_second j a p) = IsBound parameters (scope_at p) a × IsPlaceBound parameters p
IsPlaceBound parameters (under q x p) = IsPlaceBound parameters p

-- the formulas and connectives before it are of the logic
abbrev pub IsPlaceIn : Logic → Place → Type 0
IsPlaceIn logic whole = Unit {0}
IsPlaceIn logic (in_first p) = IsPlaceIn logic p
IsPlaceIn logic (in_second j a p) = IsJoinerOf logic j × IsWrittenIn logic a × IsPlaceIn logic p
IsPlaceIn logic (under q x p) = IsPlaceIn logic p

-- the tokens lead to a formula that is nested n deep
pub record LeadsTo (logic : Logic) (parameters : List (List ℕ)) (n : ℕ) (tokens : List Lexeme) : Type 0 where
  pub place : Place
  pub is_bound : IsPlaceBound parameters place
  pub in_logic : IsPlaceIn logic place
  pub spelled : tokens ≡ tokens_to_place logic place []
  pub deep : nesting place ≡ n

-- an argument of an atom stands at the bottom
abbrev pub IsArgument : Spot → Type 0
IsArgument alone = ⊥
IsArgument (in_arguments done) = Unit {0}
IsArgument (in_term x done spot) = IsArgument spot

-- the tokens lead to an argument of an atom, or of a term in it, behind n other arguments
pub record LeadsInto (logic : Logic) (parameters : List (List ℕ)) (n : ℕ) (tokens : List Lexeme) : Type 0 where
  pub place : Place
  pub positive : Bool
  pub text : List ℕ
  pub spot : Spot
  pub is_argument : IsArgument spot
  pub known_all : IsSpotKnown (is_known parameters (scope_at place)) spot
  pub is_bound : IsPlaceBound parameters place
  pub in_logic : IsPlaceIn logic place
  pub spelled : tokens ≡ tokens_to_place logic place (mark_tokens logic positive (a_name text ∷ tokens_to spot []))
  pub behind : length (done_at spot) ≡ n

-- What forbids a token of a formula behind others: the first token of a formula that is nested 10,001 deep, else the comma behind the
-- 255th argument.
pub data FormulaLimits (logic : Logic) (parameters : List (List ℕ)) (before : List Lexeme) (c : Lexeme) : Code → Type 0 where
  too_deep : LeadsTo logic parameters 10001 before → FormulaLimits logic parameters before c TooDeep
  many_arguments : (LeadsTo logic parameters 10001 before → ⊥) → LeadsInto logic parameters 255 (before ++ c ∷ []) → FormulaLimits logic parameters before c ManyArguments

-- What forbids a token of a problem behind others: the limits of its formula.
pub data ProblemLimits : (before : List Lexeme) → Lexeme → Code → Type 0 where
  in_formula : {logic : Logic} {before : List Lexeme} {c : Lexeme} {code : Code}
      → FormulaLimits logic [] before c code → ProblemLimits (logic_word logic ∷ before) c code
