-- How the fields of a reader stand for a state of the machine of declared formulas.
use Rattle.std.specs.Prelude.{◌≡◌, ℕ, ◌<◌, ◌≤◌, List, [], length, Some, Result, Ok, Err}
use Rattle.fpc_base.specs.declared.refusal.Code.{Code}
use Rattle.fpc_base.specs.declared.refusal.TokenRefusal.{TokenRefusal}
use Rattle.fpc_base.specs.declared.refusal.TokenRefusal.TheVariants.{Refused, OutOfMemory}
use Rattle.fpc_terms.specs.Name.{Agrees}
use Rattle.polarised_formulas.specs.declared.logic.Logic.{Logic}
use Rattle.polarised_formulas.specs.declared.reader.FormulaReader.{FormulaReader}
use Rattle.polarised_formulas.specs.Place.{whole}
use Rattle.polarised_formulas.specs.Machine.{FormulaState, wants, whole_of}
use Rattle.polarised_formulas.specs.Holding.{Holds}
use Rattle.polarised_formulas.specs.ReadFormula.{HoldsFor}
use Rattle.clause_language.specs.declared.declaration_reader.Mode.{Mode}
use Rattle.clause_language.specs.declared.declaration_reader.Mode.TheVariants as mode
use Rattle.clause_language.specs.declared.declaration_reader.DeclarationReader.{DeclarationReader}
use Rattle.clause_language.specs.DeclarationMachine.{DeclarationState, at_word, at_name, behind_name, at_parameter, behind_parameter, at_defined, in_formula, ended, stuck}

-- nothing was read of the formula
abbrev pub IsFresh : Logic → FormulaReader → Type 0
IsFresh logic r = (number : List ℕ → ℕ) (parameters : List (List ℕ)) → Holds number logic parameters (wants whole) r

-- the reader holds the name, for all numberings that agree with the table, and the parameters, of which there are at most 255
pub record HoldsHead (names : List (List ℕ)) (m : Mode) (x : List ℕ) (ps : List (List ℕ)) (r : DeclarationReader) : Type 0 where
  pub mode : r.mode ≡ m
  pub name : (number : List ℕ → ℕ) → Agrees number names → r.name ≡ Some (number x)
  pub parameters : r.parameters ≡ ps
  pub few : length ps ≤ 255

-- the reader holds the state
abbrev pub HoldsDeclaration : List (List ℕ) → Logic → DeclarationState → DeclarationReader → Type 0
HoldsDeclaration names logic at_word r = ⊥
HoldsDeclaration names logic at_name r = (r.mode ≡ mode.AtName) × (r.parameters ≡ []) × IsFresh logic r.formula
HoldsDeclaration names logic (behind_name x) r = HoldsHead names mode.BehindName x [] r × IsFresh logic r.formula
HoldsDeclaration names logic (at_parameter x parameters) r = HoldsHead names mode.AtParameter x parameters r × (length parameters < 255) × IsFresh logic r.formula
HoldsDeclaration names logic (behind_parameter x parameters) r = HoldsHead names mode.BehindParameter x parameters r × IsFresh logic r.formula
HoldsDeclaration names logic (at_defined x parameters) r = HoldsHead names mode.AtDefined x parameters r × IsFresh logic r.formula
HoldsDeclaration names logic (in_formula x parameters s) r = HoldsHead names mode.InFormula x parameters r × HoldsFor names logic parameters s r.formula
HoldsDeclaration names logic (ended x parameters w) r =
    HoldsHead names mode.Ended x parameters r × ((s : FormulaState) × ((whole_of s ≡ Some w) × HoldsFor names logic parameters s r.formula))
HoldsDeclaration names logic stuck r = ⊥

-- a token was taken or refused as the machine does, or memory ran out
abbrev pub TakesDeclaration : Result (Unit {0}) TokenRefusal → List (List ℕ) → Logic → Result DeclarationState Code → DeclarationReader → Type 0
TakesDeclaration (Ok u) names logic next r = (t : DeclarationState) × ((next ≡ Ok t) × HoldsDeclaration names logic t r)
TakesDeclaration (Err (Refused code)) names logic next r = next ≡ Err code
TakesDeclaration (Err OutOfMemory) names logic next r = Unit {0}
