-- The way into an item, and what the limits forbid in definition and certificate files.
use Rattle.std.specs.Prelude.{◌≡◌, ℕ, ◌≤◌, true, false, List, [], ◌∷◌, ◌++◌, length, Option, Some, None}
use Rattle.fpc_base.specs.declared.refusal.Code.{Code}
use Rattle.fpc_base.specs.declared.refusal.Code.TheVariants.{ManyArguments, ManyVariables, DuplicateFormula, WrongCalculus}
use Rattle.fpc_base.specs.declared.tokens.lexeme.Sign.TheVariants as sign
use Rattle.fpc_base.specs.Lexeme.{Lexeme, a_name, a_variable, a_sign}
use Rattle.fpc_base.specs.Tokens.{is_one_of}
use Rattle.fpc_terms.specs.Name.{AreDifferent}
use Rattle.fpc_terms.specs.Written.{variables_in}
use Rattle.fpc_terms.specs.Spot.{Spot, alone, in_arguments, in_term as in_a_term, tokens_to, done_at, IsAlone, TermLimits}
use Rattle.fpc_terms.specs.ReadTerm.{any_variable}
use Rattle.polarised_formulas.specs.declared.logic.Logic.{Logic}
use Rattle.polarised_formulas.specs.declared.logic.Logic.TheVariants.{Lkf, Ljf}
use Rattle.polarised_formulas.specs.Written.{logic_word}
use Rattle.polarised_formulas.specs.Place.{FormulaLimits}
use Rattle.clause_language.specs.Written.{WrittenAtom, WrittenItem, declaration, a_clause, atom_tokens, declared_tokens, items_tokens, AreItemsOf}

-- Where an atom of a clause stands: at the head, or in the body behind other atoms.
pub data AtomPlace : Type 0 where
  at_head : AtomPlace
  in_body : (head : WrittenAtom) → (done : List WrittenAtom) → AtomPlace

-- atoms of a body, each with the comma behind it, before other tokens
abbrev pub done_atom_tokens : List WrittenAtom → List Lexeme → List Lexeme
done_atom_tokens [] rest = rest
done_atom_tokens (a ∷ more) rest = atom_tokens a (a_sign sign.Comma ∷ done_atom_tokens more rest)

-- the tokens of a clause before the atom, before other tokens
abbrev pub tokens_to_atom : AtomPlace → List Lexeme → List Lexeme
tokens_to_atom at_head rest = rest
tokens_to_atom (in_body head done) rest = atom_tokens head (a_sign sign.If ∷ done_atom_tokens done rest)

-- the spot lies inside a term that stands by itself
abbrev pub IsInside : Spot → Type 0
IsInside alone = ⊥
IsInside (in_arguments done) = ⊥
IsInside (in_a_term x done spot) = IsAlone spot

-- the tokens of a clause lead to an argument of an atom, or of a term in it, behind n other arguments
pub record LeadsIntoAtom (n : ℕ) (tokens : List Lexeme) : Type 0 where
  pub place : AtomPlace
  pub spot : Spot
  pub is_inside : IsInside spot
  pub spelled : tokens ≡ tokens_to_atom place (tokens_to spot [])
  pub behind : length (done_at spot) ≡ n

-- What forbids a token of a clause behind others: the comma behind the 255th argument, and the 256th variable.
pub data ClauseLimits (before : List Lexeme) : Lexeme → Code → Type 0 where
  many_arguments : {c : Lexeme} → LeadsIntoAtom 255 (before ++ c ∷ []) → ClauseLimits before c ManyArguments
  many_variables : {n : ℕ} {x : List ℕ} → LeadsIntoAtom n before → is_one_of (variables_in before []) x ≡ false
      → 255 ≤ length (variables_in before []) → ClauseLimits before (a_variable x) ManyVariables

-- parameters, each with the comma behind it, before other tokens
abbrev pub done_parameter_tokens : List (List ℕ) → List Lexeme → List Lexeme
done_parameter_tokens [] rest = rest
done_parameter_tokens (x ∷ xs) rest = a_variable x ∷ a_sign sign.Comma ∷ done_parameter_tokens xs rest

-- the tokens of a declaration lead to a parameter behind n others
pub record LeadsToParameter (n : ℕ) (tokens : List Lexeme) : Type 0 where
  pub text : List ℕ
  pub done : List (List ℕ)
  pub different : AreDifferent done
  pub spelled : tokens ≡ a_sign sign.Formula ∷ a_name text ∷ a_sign sign.OpenParenthesis ∷ done_parameter_tokens done []
  pub behind : length done ≡ n

-- What forbids a token of a declaration behind others, where formulas of some names are declared: such a name that comes again, the comma
-- behind the 255th parameter, and what forbids a token of the formula.
pub data DeclarationLimits (logic : Logic) (names : List (List ℕ)) (before : List Lexeme) : Lexeme → Code → Type 0 where
  duplicate : {x : List ℕ} → before ≡ a_sign sign.Formula ∷ [] → is_one_of names x ≡ true → DeclarationLimits logic names before (a_name x) DuplicateFormula
  many_parameters : {c : Lexeme} → LeadsToParameter 255 (before ++ c ∷ []) → DeclarationLimits logic names before c ManyArguments
  in_formula : {x : List ℕ} {parameters : List (List ℕ)} {tokens : List Lexeme} {c : Lexeme} {code : Code}
      → AreDifferent parameters → before ≡ declared_tokens x parameters tokens → FormulaLimits logic parameters tokens c code → DeclarationLimits logic names before c code

-- the names of the declared formulas among items
abbrev pub declared_names : List WrittenItem → List (List ℕ)
declared_names [] = []
declared_names (declaration x parameters f ∷ is) = x ∷ declared_names is
declared_names (a_clause c ∷ is) = declared_names is

-- a logic is expected, and it is the other one
abbrev pub IsOther : Option Logic → Logic → Type 0
IsOther (Some Lkf) Ljf = Unit {0}
IsOther (Some Ljf) Lkf = Unit {0}
IsOther _ _ = ⊥

-- What forbids a token in a file up to the end of its items, behind others: the word of a logic that is not expected, and what forbids a
-- token of a declaration or of a clause behind whole items. The formulas of the earlier names and those of the items before are declared.
pub data FileLimits (expected : Option Logic) (earlier : List (List ℕ)) (before : List Lexeme) : Lexeme → Code → Type 0 where
  wrong_calculus : (logic : Logic) → before ≡ [] → IsOther expected logic → FileLimits expected earlier before (logic_word logic) WrongCalculus
  in_declaration : (logic : Logic) (items : List WrittenItem) {tokens : List Lexeme} {c : Lexeme} {code : Code}
      → AreItemsOf logic items → before ≡ logic_word logic ∷ items_tokens logic items tokens
      → DeclarationLimits logic (earlier ++ declared_names items) tokens c code → FileLimits expected earlier before c code
  in_clause : (logic : Logic) (items : List WrittenItem) {tokens : List Lexeme} {c : Lexeme} {code : Code}
      → AreItemsOf logic items → before ≡ logic_word logic ∷ items_tokens logic items tokens
      → ClauseLimits tokens c code → FileLimits expected earlier before c code

-- what forbids a token of a definition behind others
abbrev pub DefinitionLimits : Option Logic → List Lexeme → Lexeme → Code → Type 0
DefinitionLimits expected = FileLimits expected []

-- What forbids a token of a certificate behind others, where the definition declares formulas of the earlier names. Its term may have any
-- number of variables.
pub data CertificateLimits (expected : Option Logic) (earlier : List (List ℕ)) (before : List Lexeme) : Lexeme → Code → Type 0 where
  in_file : {c : Lexeme} {code : Code} → FileLimits expected earlier before c code → CertificateLimits expected earlier before c code
  in_term : (logic : Logic) (items : List WrittenItem) {tokens : List Lexeme} {c : Lexeme} {code : Code}
      → AreItemsOf logic items → before ≡ logic_word logic ∷ items_tokens logic items (a_sign sign.Certificate ∷ tokens)
      → TermLimits any_variable None [] tokens c code → CertificateLimits expected earlier before c code
