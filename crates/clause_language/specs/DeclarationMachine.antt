-- A machine that reads the tokens of a declared formula, one after another, and keeps all that it read.
use Rattle.std.specs.Prelude.{ℕ, Bool, if◌then◌else◌, nat_eq, List, [], ◌∷◌, ◌++◌, length, Option, Some, None, Result, Ok, Err}
use Rattle.fpc_base.specs.declared.refusal.Code.{Code}
use Rattle.fpc_base.specs.declared.refusal.Code.TheVariants.{Unexpected, ManyArguments, DuplicateFormula}
use Rattle.fpc_base.specs.declared.tokens.lexeme.Sign.TheVariants as sign
use Rattle.fpc_base.specs.Lexeme.{Lexeme, a_name, a_variable, a_sign}
use Rattle.fpc_base.specs.Tokens.{is_one_of}
use Rattle.polarised_formulas.specs.declared.logic.Logic.{Logic}
use Rattle.polarised_formulas.specs.Written.{WrittenFormula}
use Rattle.polarised_formulas.specs.Place.{whole}
use Rattle.polarised_formulas.specs.Machine as formula

-- Where the reading of a declared formula stands: at the word `formula` (`at_word`); at the name (`at_name`) or behind it (`behind_name`); at a
-- parameter (`at_parameter`) or behind it (`behind_parameter`); at the sign behind all parameters (`at_defined`); in the formula (`in_formula`);
-- behind its dot (`ended`); or no declared formula begins with the tokens (`stuck`).
pub data DeclarationState : Type 0 where
  at_word : DeclarationState
  at_name : DeclarationState
  behind_name : (text : List ℕ) → DeclarationState
  at_parameter : (text : List ℕ) → (parameters : List (List ℕ)) → DeclarationState
  behind_parameter : (text : List ℕ) → (parameters : List (List ℕ)) → DeclarationState
  at_defined : (text : List ℕ) → (parameters : List (List ℕ)) → DeclarationState
  in_formula : (text : List ℕ) → (parameters : List (List ℕ)) → formula.FormulaState → DeclarationState
  ended : (text : List ℕ) → (parameters : List (List ℕ)) → WrittenFormula → DeclarationState
  stuck : DeclarationState

-- a parameter that is different from those before it
abbrev pub with_parameter : Bool → List ℕ → List (List ℕ) → List ℕ → DeclarationState
with_parameter known x parameters y = if known then stuck else behind_parameter x (parameters ++ y ∷ [])

-- behind the dot, where the formula is whole
abbrev pub dotted : List ℕ → List (List ℕ) → Option WrittenFormula → DeclarationState
dotted x parameters (Some w) = ended x parameters w
dotted x parameters None = stuck

-- a formula's state as the declaration's
abbrev pub read_on : List ℕ → List (List ℕ) → formula.FormulaState → DeclarationState
read_on x parameters formula.stuck = stuck
read_on x parameters s = in_formula x parameters s

-- one token
abbrev pub step : Logic → DeclarationState → Lexeme → DeclarationState
step logic at_word (a_sign sign.Formula) = at_name
step logic at_name (a_name x) = behind_name x
step logic (behind_name x) (a_sign sign.OpenParenthesis) = at_parameter x []
step logic (behind_name x) (a_sign sign.Defined) = in_formula x [] (formula.wants whole)
step logic (at_parameter x parameters) (a_variable y) = with_parameter (is_one_of parameters y) x parameters y
step logic (behind_parameter x parameters) (a_sign sign.Comma) = at_parameter x parameters
step logic (behind_parameter x parameters) (a_sign sign.CloseParenthesis) = at_defined x parameters
step logic (at_defined x parameters) (a_sign sign.Defined) = in_formula x parameters (formula.wants whole)
step logic (in_formula x parameters s) (a_sign sign.Dot) = dotted x parameters (formula.whole_of s)
step logic (in_formula x parameters s) c = read_on x parameters (formula.step logic parameters s c)
step _ _ _ = stuck

-- tokens, one after another
abbrev pub run : Logic → DeclarationState → List Lexeme → DeclarationState
run logic s [] = s
run logic s (c ∷ cs) = run logic (step logic s c) cs

-- the next state, or Unexpected where there is none
abbrev pub within : DeclarationState → Result DeclarationState Code
within stuck = Err Unexpected
within s = Ok s

-- a name, where no formula of that name is declared
abbrev pub named_within : Bool → List ℕ → Result DeclarationState Code
named_within taken x = if taken then Err DuplicateFormula else Ok (behind_name x)

-- a comma behind a parameter, where one more may stand
abbrev pub comma_within : List ℕ → List (List ℕ) → Result DeclarationState Code
comma_within x parameters = if nat_eq (length parameters) 255 then Err ManyArguments else Ok (at_parameter x parameters)

-- a formula's answer as the declaration's
abbrev pub read_within : List ℕ → List (List ℕ) → Result formula.FormulaState Code → Result DeclarationState Code
read_within x parameters (Ok s) = Ok (in_formula x parameters s)
read_within x parameters (Err code) = Err code

-- one token, with the limits, where formulas of some names are declared
abbrev pub limited : Logic → List (List ℕ) → DeclarationState → Lexeme → Result DeclarationState Code
limited logic names at_name (a_name x) = named_within (is_one_of names x) x
limited logic names (behind_parameter x parameters) (a_sign sign.Comma) = comma_within x parameters
limited logic names (in_formula x parameters s) (a_sign sign.Dot) = within (dotted x parameters (formula.whole_of s))
limited logic names (in_formula x parameters s) c = read_within x parameters (formula.limited logic parameters s c)
limited logic names s c = within (step logic s c)
