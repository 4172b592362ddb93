-- What is read of a problem, and how it is refused.
use Rattle.std.specs.Prelude.{◌≡◌, ℕ, Bool, true, false, List, [], Some, None, Result, Ok, Err}
use Rattle.fpc_base.specs.declared.refusal.Code.{Code}
use Rattle.fpc_base.specs.declared.refusal.Code.TheVariants.{TooLarge, Unexpected}
use Rattle.fpc_base.specs.declared.refusal.ParseRefusal.{ParseRefusal}
use Rattle.fpc_base.specs.declared.refusal.ParseRefusal.TheVariants as parse
use Rattle.fpc_base.specs.declared.refusal.TokenRefusal.{TokenRefusal}
use Rattle.fpc_base.specs.declared.refusal.TokenRefusal.TheVariants as token
use Rattle.fpc_base.specs.declared.tokens.lexeme.Sign.TheVariants as sign
use Rattle.fpc_base.specs.Lexeme.{Lexeme, a_sign, Item}
use Rattle.fpc_base.specs.Reading.{ReadsAll, RefusesAll}
use Rattle.fpc_terms.specs.Name.{Agrees}
use Rattle.polarised_formulas.specs.declared.logic.Logic.{Logic}
use Rattle.polarised_formulas.specs.declared.logic.Logic.TheVariants.{Lkf}
use Rattle.polarised_formulas.specs.declared.problem.Phase.TheVariants as phase
use Rattle.polarised_formulas.specs.declared.problem.ProblemReader.{ProblemReader}
use Rattle.polarised_formulas.specs.Formula.{Formula}
use Rattle.polarised_formulas.specs.Written.{WrittenProblem, IsProblem, formula_meant}
use Rattle.polarised_formulas.specs.Place.{whole, ProblemLimits}
use Rattle.polarised_formulas.specs.Machine.{FormulaState, wants, whole_of, ProblemState, start, reading, finished, lost, problem_of}
use Rattle.polarised_formulas.specs.ReadFormula.{HoldsFor}

-- refused for its size, at the greatest size
abbrev pub IsTooLarge : {T : Type 0} → Result T ParseRefusal → Type 0
IsTooLarge result = result ≡ Err (parse.Refused (record { code = TooLarge; at = 16777216 }))

-- The items are those of a problem of this logic, to the end, whose formula means this goal.
pub record ProblemIsRead (items : List Item) (names : List (List ℕ)) (logic : Logic) (goal : Formula) : Type 0 where
  pub written : WrittenProblem
  pub reads : ReadsAll IsProblem ProblemLimits [] items written
  pub in_logic : logic ≡ written.logic
  pub meant : (number : List ℕ → ℕ) → Agrees number names → goal ≡ formula_meant number [] [] written.formula

-- a refusal of the problem in a file of n bytes; or memory ran out
abbrev pub IsProblemRefusal : List Item → ℕ → ParseRefusal → Type 0
IsProblemRefusal items n (parse.Refused r) = RefusesAll IsProblem ProblemLimits n [] items r
IsProblemRefusal items n parse.OutOfMemory = Unit {0}

-- the reader holds the state, for all numberings that agree with the table
abbrev pub HoldsProblem : List (List ℕ) → ProblemState → ProblemReader → Type 0
HoldsProblem names start r = (r.phase ≡ phase.Start) × HoldsFor names Lkf [] (wants whole) r.formula
HoldsProblem names (reading logic s) r = (r.phase ≡ phase.Reading logic) × HoldsFor names logic [] s r.formula
HoldsProblem names (finished logic w) r = (r.phase ≡ phase.Finished logic) × ((s : FormulaState) × ((whole_of s ≡ Some w) × HoldsFor names logic [] s r.formula))
HoldsProblem names lost r = ⊥

-- a token was taken or refused as the machine does, or memory ran out
abbrev pub TakesProblem : Result (Unit {0}) TokenRefusal → List (List ℕ) → Result ProblemState Code → ProblemReader → Type 0
TakesProblem (Ok u) names next r = (t : ProblemState) × ((next ≡ Ok t) × HoldsProblem names t r)
TakesProblem (Err (token.Refused code)) names next r = next ≡ Err code
TakesProblem (Err token.OutOfMemory) names next r = Unit {0}

-- the dot behind a formula
abbrev pub is_dot : Lexeme → Bool
is_dot (a_sign sign.Dot) = true
is_dot _ = false

-- the logic and the goal of the problem that the state is
pub record GoalOf (names : List (List ℕ)) (s : ProblemState) (logic : Logic) (goal : Formula) : Type 0 where
  pub written : WrittenProblem
  pub whole_problem : problem_of s ≡ Some written
  pub in_logic : logic ≡ written.logic
  pub meant : (number : List ℕ → ℕ) → Agrees number names → goal ≡ formula_meant number [] [] written.formula

-- refused at the end, since the state is no whole problem; or memory ran out
abbrev pub IsUnfinished : ℕ → ProblemState → ParseRefusal → Type 0
IsUnfinished n s (parse.Refused r) = (r ≡ record { code = Unexpected; at = n }) × (problem_of s ≡ None)
IsUnfinished n s parse.OutOfMemory = Unit {0}
