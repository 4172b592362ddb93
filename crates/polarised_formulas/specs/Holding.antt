-- How the fields of a reader stand for a state of the machine of formulas.
use Rattle.std.specs.Prelude.{◌≡◌, ℕ, Bool, true, false, List, [], ◌∷◌, Option, Some, None, Result, Ok, Err, nat_eq, if◌then◌else◌}
use Rattle.fpc_base.specs.declared.refusal.Code.{Code}
use Rattle.fpc_base.specs.declared.refusal.Code.TheVariants.{Unexpected, TooDeep}
use Rattle.fpc_base.specs.declared.refusal.TokenRefusal.{TokenRefusal}
use Rattle.fpc_base.specs.declared.refusal.TokenRefusal.TheVariants.{Refused, OutOfMemory}
use Rattle.fpc_base.specs.declared.tokens.lexeme.Sign.{Sign}
use Rattle.fpc_base.specs.declared.tokens.lexeme.Sign.TheVariants as sign
use Rattle.fpc_terms.specs.Holding as term
use Rattle.fpc_terms.specs.declared.reader.TermReader.{TermReader}
use Rattle.polarised_formulas.specs.declared.logic.Logic.{Logic}
use Rattle.polarised_formulas.specs.declared.logic.Logic.TheVariants.{Lkf, Ljf}
use Rattle.polarised_formulas.specs.declared.logic.Polarity.TheVariants.{Positive, Negative}
use Rattle.polarised_formulas.specs.declared.connective.Binder.TheVariants.{ForAll, Exists}
use Rattle.polarised_formulas.specs.Written.{true_unit, false_unit, formula_meant, variable_meant}
use Rattle.polarised_formulas.specs.Place.{Place, whole, in_first, in_second, under, scope_at, nesting}
use Rattle.polarised_formulas.specs.Machine.{FormulaState, wants, marked, binding, bound_to, named, in_atom, has, stuck}
use Rattle.polarised_formulas.specs.Unfinished as building
use Rattle.polarised_formulas.specs.declared.reader.Beginning.{Beginning}
use Rattle.polarised_formulas.specs.declared.reader.Beginning.TheVariants as begin
use Rattle.polarised_formulas.specs.declared.reader.Mode.{Mode}
use Rattle.polarised_formulas.specs.declared.reader.Mode.TheVariants as mode
use Rattle.polarised_formulas.specs.declared.reader.FormulaReader.{FormulaReader}

-- what a formula begins with, by its first sign
abbrev pub beginning_of : Logic → Sign → Option Beginning
beginning_of logic sign.TruePlus = Some (begin.Truth Positive)
beginning_of logic sign.TrueMinus = Some (begin.Truth Negative)
beginning_of Lkf sign.FalsePlus = Some (begin.Falsity Positive)
beginning_of Lkf sign.FalseMinus = Some (begin.Falsity Negative)
beginning_of Ljf sign.False = Some (begin.Falsity Positive)
beginning_of Lkf sign.Tilde = Some (begin.Mark false)
beginning_of Ljf sign.Plus = Some (begin.Mark true)
beginning_of Ljf sign.Minus = Some (begin.Mark false)
beginning_of logic sign.OpenParenthesis = Some begin.Pair
beginning_of logic sign.All = Some (begin.Quantifier ForAll)
beginning_of logic sign.Some = Some (begin.Quantifier Exists)
beginning_of _ _ = None

-- the state behind the first sign
abbrev pub begun_by : Beginning → Place → FormulaState
begun_by (begin.Truth q) p = has (true_unit q) p
begun_by (begin.Falsity q) p = has (false_unit q) p
begun_by (begin.Mark positive) p = marked positive p
begun_by begin.Pair p = wants (in_first p)
begun_by (begin.Quantifier q) p = binding q p

-- the same, within the limits
abbrev pub begins_within : Beginning → FormulaState → Result FormulaState Code
begins_within b (wants p) = if nat_eq (nesting p) 10001 then Err TooDeep else Ok (begun_by b p)
begins_within b _ = Err Unexpected

-- what stands around a place, the innermost first
abbrev pub holes_at : (List ℕ → ℕ) → List (List ℕ) → Place → List building.Hole
holes_at number parameters whole = []
holes_at number parameters (in_first p) = building.first_of ∷ holes_at number parameters p
holes_at number parameters (in_second j a p) = building.second_of j (formula_meant number parameters (scope_at p) a) ∷ holes_at number parameters p
holes_at number parameters (under q x p) = building.under q ∷ holes_at number parameters p

-- where the formula that is being read stands
abbrev pub place_of : FormulaState → Place
place_of (wants p) = p
place_of (marked positive p) = p
place_of (binding q p) = p
place_of (bound_to q x p) = p
place_of (named positive x p) = p
place_of (in_atom positive x t p) = p
place_of (has w p) = p
place_of stuck = whole

-- what is built in a state
abbrev pub built : (List ℕ → ℕ) → List (List ℕ) → FormulaState → building.Unfinished
built number parameters (has w p) = building.has (formula_meant number parameters (scope_at p) w) (holes_at number parameters p)
built number parameters s = building.wants (holes_at number parameters (place_of s))

abbrev pub mode_of : (List ℕ → ℕ) → FormulaState → Mode
mode_of number (wants p) = mode.Wants
mode_of number (marked positive p) = mode.Marked positive
mode_of number (binding q p) = mode.Binding q
mode_of number (bound_to q x p) = mode.BoundTo q
mode_of number (named positive x p) = mode.Named positive (number x)
mode_of number (in_atom positive x t p) = mode.InAtom positive (number x)
mode_of number (has w p) = mode.Has
mode_of number stuck = mode.Has

-- a formula was read, or an atom that may still get arguments
abbrev pub is_standing : Mode → Bool
is_standing (mode.Named positive x) = true
is_standing mode.Has = true
is_standing _ = false

-- the variables that are bound around the state; one whose quantifier is being read is among them
abbrev pub bound_in : FormulaState → List (List ℕ)
bound_in (bound_to q x p) = x ∷ scope_at p
bound_in s = scope_at (place_of s)

-- the reader of terms holds the arguments
abbrev pub HoldsArguments : (List ℕ → ℕ) → List (List ℕ) → FormulaState → TermReader → Type 0
HoldsArguments number parameters (in_atom positive x t p) r = term.Holds number (variable_meant parameters (scope_at p)) t r
HoldsArguments number parameters _ r = Unit {0}

abbrev pub IsLive : FormulaState → Type 0
IsLive stuck = ⊥
IsLive _ = Unit {0}

-- The reader holds the state: names stand for their numbers, bound variables for their distance, parameters for their numbers.
pub record Holds (number : List ℕ → ℕ) (logic : Logic) (parameters : List (List ℕ)) (s : FormulaState) (r : FormulaReader) : Type 0 where
  pub in_logic : r.logic ≡ logic
  pub mode : r.mode ≡ mode_of number s
  pub builder : r.builder ≡ built number parameters s
  pub bound : r.bound ≡ bound_in s
  pub arguments : HoldsArguments number parameters s r.terms
  pub live : IsLive s

-- a token was taken or refused as the machine does, or memory ran out
abbrev pub Takes : Result (Unit {0}) TokenRefusal → (List ℕ → ℕ) → Logic → List (List ℕ) → Result FormulaState Code → FormulaReader → Type 0
Takes (Ok u) number logic parameters next r = (t : FormulaState) × ((next ≡ Ok t) × Holds number logic parameters t r)
Takes (Err (Refused code)) number logic parameters next r = next ≡ Err code
Takes (Err OutOfMemory) number logic parameters next r = Unit {0}
