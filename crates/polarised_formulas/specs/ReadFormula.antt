-- What is read of a formula, and how it is refused.
use Rattle.std.specs.Prelude.{◌≡◌, ℕ, Bool, ◌&&◌, not, is_some, List, [], Some, Result, Ok, Err}
use Rattle.fpc_base.specs.declared.refusal.Code.{Code}
use Rattle.fpc_base.specs.declared.refusal.ParseRefusal.{ParseRefusal}
use Rattle.fpc_base.specs.declared.refusal.ParseRefusal.TheVariants as parse
use Rattle.fpc_base.specs.declared.refusal.TokenRefusal.{TokenRefusal}
use Rattle.fpc_base.specs.declared.refusal.TokenRefusal.TheVariants as token
use Rattle.fpc_base.specs.Lexeme.{Lexeme, Item}
use Rattle.fpc_base.specs.Reading.{ReadsFront, RefusesFront}
use Rattle.fpc_terms.specs.Machine.{is_open}
use Rattle.fpc_terms.specs.Name.{Agrees}
use Rattle.polarised_formulas.specs.declared.logic.Logic.{Logic}
use Rattle.polarised_formulas.specs.declared.reader.FormulaReader.{FormulaReader}
use Rattle.polarised_formulas.specs.Formula.{Formula}
use Rattle.polarised_formulas.specs.Written.{WrittenFormula, IsFormula, formula_meant}
use Rattle.polarised_formulas.specs.Place.{FormulaLimits}
use Rattle.polarised_formulas.specs.Machine.{FormulaState, whole_of}
use Rattle.polarised_formulas.specs.Holding.{Holds}

-- the items begin with this formula, and the rest of them is left
pub record FormulaIsRead (logic : Logic) (parameters : List (List ℕ)) (items rest : List Item) (names : List (List ℕ)) (f : Formula) : Type 0 where
  pub written : WrittenFormula
  pub reads : ReadsFront (IsFormula logic parameters) (FormulaLimits logic parameters) [] items written rest
  pub meant : (number : List ℕ → ℕ) → Agrees number names → f ≡ formula_meant number parameters [] written

-- a refusal of the formula at the front of the items, in a source of n bytes; or memory ran out
abbrev pub IsFormulaRefusal : Logic → List (List ℕ) → List Item → ℕ → ParseRefusal → Type 0
IsFormulaRefusal logic parameters items n (parse.Refused r) = RefusesFront (IsFormula logic parameters) (FormulaLimits logic parameters) n [] items r
IsFormulaRefusal logic parameters items n parse.OutOfMemory = Unit {0}

-- the formula is whole, and the token doesn't begin the arguments of an atom at its end
abbrev pub ends_before : FormulaState → Lexeme → Bool
ends_before s c = is_some (whole_of s) && not (is_open c)

-- the reader holds the state, for all numberings that agree with the table
abbrev pub HoldsFor : List (List ℕ) → Logic → List (List ℕ) → FormulaState → FormulaReader → Type 0
HoldsFor names logic parameters s r = (number : List ℕ → ℕ) → Agrees number names → Holds number logic parameters s r

-- a token was taken or refused as the machine does, or memory ran out
abbrev pub TakesFor : Result (Unit {0}) TokenRefusal → List (List ℕ) → Logic → List (List ℕ) → Result FormulaState Code → FormulaReader → Type 0
TakesFor (Ok u) names logic parameters next r = (t : FormulaState) × ((next ≡ Ok t) × HoldsFor names logic parameters t r)
TakesFor (Err (token.Refused code)) names logic parameters next r = next ≡ Err code
TakesFor (Err token.OutOfMemory) names logic parameters next r = Unit {0}

-- A formula was read whole from the front of the items, and the reader holds it.
pub record Leads (logic : Logic) (parameters : List (List ℕ)) (items rest : List Item) (names : List (List ℕ)) (r : FormulaReader) : Type 0 where
  pub written : WrittenFormula
  pub state : FormulaState
  pub whole : whole_of state ≡ Some written
  pub reads : ReadsFront (IsFormula logic parameters) (FormulaLimits logic parameters) [] items written rest
  pub holds : HoldsFor names logic parameters state r
