-- A machine that reads the tokens of a formula or a problem, one after another, and keeps all that it read.
use Rattle.std.specs.Prelude.{ℕ, Bool, true, false, if◌then◌else◌, List, [], ◌∷◌, Option, Some, None, is_some, Result, Ok, Err, nat_eq, codes}
use Rattle.std.specs.Str.{bytes_eq}
use Rattle.fpc_base.specs.declared.refusal.Code.{Code}
use Rattle.fpc_base.specs.declared.refusal.Code.TheVariants.{Unexpected, TooDeep, ManyArguments}
use Rattle.fpc_base.specs.declared.tokens.lexeme.Sign.{Sign}
use Rattle.fpc_base.specs.declared.tokens.lexeme.Sign.TheVariants as sign
use Rattle.fpc_base.specs.Lexeme.{Lexeme, a_name, a_variable, a_sign}
use Rattle.fpc_terms.specs.Written.{no_words}
use Rattle.fpc_terms.specs.Spot.{in_arguments}
use Rattle.fpc_terms.specs.Machine as term
use Rattle.polarised_formulas.specs.declared.logic.Logic.{Logic}
use Rattle.polarised_formulas.specs.declared.logic.Logic.TheVariants.{Lkf, Ljf}
use Rattle.polarised_formulas.specs.declared.logic.Polarity.TheVariants.{Positive, Negative}
use Rattle.polarised_formulas.specs.declared.connective.Joiner.{Joiner}
use Rattle.polarised_formulas.specs.declared.connective.Joiner.TheVariants.{And, Or, Implies}
use Rattle.polarised_formulas.specs.declared.connective.Binder.{Binder}
use Rattle.polarised_formulas.specs.declared.connective.Binder.TheVariants.{ForAll, Exists}
use Rattle.polarised_formulas.specs.Written.{WrittenFormula, true_unit, false_unit, literal, pair, bind, WrittenProblem, is_known}
use Rattle.polarised_formulas.specs.Place.{Place, whole, in_first, in_second, under, scope_at, nesting}

-- Where the reading of a formula stands: a formula is to come (`wants`); an atom's name, behind its mark (`marked`); a quantifier's variable
-- (`binding`); the colon behind it (`bound_to`); an atom's arguments or what stands behind it (`named`); something in an atom's arguments
-- (`in_atom`); what stands behind a formula (`has`); or no formula begins with the tokens (`stuck`).
pub data FormulaState : Type 0 where
  wants : Place → FormulaState
  marked : (positive : Bool) → Place → FormulaState
  binding : Binder → Place → FormulaState
  bound_to : Binder → (text : List ℕ) → Place → FormulaState
  named : (positive : Bool) → (text : List ℕ) → Place → FormulaState
  in_atom : (positive : Bool) → (text : List ℕ) → term.TermState → Place → FormulaState
  has : WrittenFormula → Place → FormulaState
  stuck : FormulaState

-- the first token of a formula, if it is a sign
abbrev pub begun : Logic → Sign → Place → FormulaState
begun logic sign.TruePlus p = has (true_unit Positive) p
begun logic sign.TrueMinus p = has (true_unit Negative) p
begun Lkf sign.FalsePlus p = has (false_unit Positive) p
begun Lkf sign.FalseMinus p = has (false_unit Negative) p
begun Ljf sign.False p = has (false_unit Positive) p
begun Lkf sign.Tilde p = marked false p
begun Ljf sign.Plus p = marked true p
begun Ljf sign.Minus p = marked false p
begun logic sign.OpenParenthesis p = wants (in_first p)
begun logic sign.All p = binding ForAll p
begun logic sign.Some p = binding Exists p
begun _ _ _ = stuck

-- the connective of a sign
abbrev pub joiner_of : Logic → Sign → Option Joiner
joiner_of logic sign.AndPlus = Some (And Positive)
joiner_of logic sign.AndMinus = Some (And Negative)
joiner_of Lkf sign.BarPlus = Some (Or Positive)
joiner_of Lkf sign.BarMinus = Some (Or Negative)
joiner_of Ljf sign.Bar = Some (Or Positive)
joiner_of Ljf sign.Arrow = Some Implies
joiner_of _ _ = None

-- behind a connective, if it is one
abbrev pub joined : Option Joiner → WrittenFormula → Place → FormulaState
joined (Some j) w p = wants (in_second j w p)
joined None w p = stuck

-- a token behind a formula; the quantifiers around it end with it
abbrev pub after : Logic → WrittenFormula → Place → Lexeme → FormulaState
after logic w (in_first p) (a_sign s) = joined (joiner_of logic s) w p
after logic w (in_second j a p) (a_sign sign.CloseParenthesis) = has (pair j a w) p
after logic w (under q x p) c = after logic (bind q x w) p c
after _ _ _ _ = stuck

-- the state of an atom's arguments as the formula's
abbrev pub within_atom : Bool → List ℕ → Place → term.TermState → FormulaState
within_atom positive x p (term.ended args) = has (literal positive x args) p
within_atom positive x p term.stuck = stuck
within_atom positive x p t = in_atom positive x t p

-- one token
abbrev pub step : Logic → List (List ℕ) → FormulaState → Lexeme → FormulaState
step logic parameters (wants p) (a_sign s) = begun logic s p
step Lkf parameters (wants p) (a_name x) = named true x p
step logic parameters (marked positive p) (a_name x) = named positive x p
step logic parameters (binding q p) (a_variable x) = bound_to q x p
step logic parameters (bound_to q x p) (a_sign sign.Colon) = wants (under q x p)
step logic parameters (named positive x p) (a_sign sign.OpenParenthesis) = in_atom positive x (term.wants (in_arguments [])) p
step logic parameters (named positive x p) c = after logic (literal positive x no_words) p c
step logic parameters (in_atom positive x t p) c = within_atom positive x p (term.step (is_known parameters (scope_at p)) t c)
step logic parameters (has w p) c = after logic w p c
step _ _ _ _ = stuck

-- tokens, one after another
abbrev pub run : Logic → List (List ℕ) → FormulaState → List Lexeme → FormulaState
run logic parameters s [] = s
run logic parameters s (c ∷ cs) = run logic parameters (step logic parameters s c) cs

-- the formula that stands by itself, where the quantifiers around it end
abbrev pub ended_at : WrittenFormula → Place → Option WrittenFormula
ended_at w whole = Some w
ended_at w (under q x p) = ended_at (bind q x w) p
ended_at w _ = None

-- the whole formula, where the tokens so far are one
abbrev pub whole_of : FormulaState → Option WrittenFormula
whole_of (has w p) = ended_at w p
whole_of (named positive x p) = ended_at (literal positive x no_words) p
whole_of _ = None

-- the formula is whole, and no token goes on behind it
abbrev pub is_ended : FormulaState → Bool
is_ended (has w p) = is_some (ended_at w p)
is_ended _ = false

-- a formula that is nested 10,001 deep is to come
abbrev pub is_deep : FormulaState → Bool
is_deep (wants p) = nat_eq (nesting p) 10001
is_deep _ = false

-- an argument behind 255 others is to come
abbrev pub is_full : FormulaState → Bool
is_full (in_atom positive x t p) = term.is_full t
is_full _ = false

-- the next state, within the limits
abbrev pub within : Bool → Bool → FormulaState → Result FormulaState Code
within deep full stuck = Err Unexpected
within true full s = Err TooDeep
within false true s = Err ManyArguments
within false false s = Ok s

-- one token, with the limits
abbrev pub limited : Logic → List (List ℕ) → FormulaState → Lexeme → Result FormulaState Code
limited logic parameters s c = within (is_deep s) (is_full (step logic parameters s c)) (step logic parameters s c)

-- Where the reading of a problem stands: at its word (`start`), in its formula (`reading`), behind its dot (`finished`), or no problem begins so (`lost`).
pub data ProblemState : Type 0 where
  start : ProblemState
  reading : Logic → FormulaState → ProblemState
  finished : Logic → WrittenFormula → ProblemState
  lost : ProblemState

-- the logic of a word
abbrev pub logic_of : List ℕ → Option Logic
logic_of x = if bytes_eq x (codes "lkf") then Some Lkf else (if bytes_eq x (codes "ljf") then Some Ljf else None)

-- a problem's formula is to come, behind the word of a logic
abbrev pub begun_in : Option Logic → ProblemState
begun_in (Some logic) = reading logic (wants whole)
begun_in None = lost

-- a formula's state as the problem's
abbrev pub read_on : Logic → FormulaState → ProblemState
read_on logic stuck = lost
read_on logic s = reading logic s

-- behind the dot, where the formula is whole
abbrev pub dotted : Logic → Option WrittenFormula → ProblemState
dotted logic (Some w) = finished logic w
dotted logic None = lost

-- one token of a problem
abbrev pub problem_step : ProblemState → Lexeme → ProblemState
problem_step start (a_name x) = begun_in (logic_of x)
problem_step (reading logic s) (a_sign sign.Dot) = dotted logic (whole_of s)
problem_step (reading logic s) c = read_on logic (step logic [] s c)
problem_step _ _ = lost

-- tokens of a problem, one after another
abbrev pub problem_run : ProblemState → List Lexeme → ProblemState
problem_run s [] = s
problem_run s (c ∷ cs) = problem_run (problem_step s c) cs

-- the problem, where the tokens so far are one
abbrev pub problem_of : ProblemState → Option WrittenProblem
problem_of (finished logic w) = let problem : WrittenProblem = record { logic = logic; formula = w } in Some problem
problem_of _ = None

-- the word of the logic, within the limits
abbrev pub begun_within : Option Logic → Result ProblemState Code
begun_within (Some logic) = Ok (reading logic (wants whole))
begun_within None = Err Unexpected

-- behind the dot, or Unexpected where the formula isn't whole
abbrev pub dotted_within : Logic → Option WrittenFormula → Result ProblemState Code
dotted_within logic (Some w) = Ok (finished logic w)
dotted_within logic None = Err Unexpected

-- a formula's answer as the problem's
abbrev pub read_within : Logic → Result FormulaState Code → Result ProblemState Code
read_within logic (Ok s) = Ok (reading logic s)
read_within logic (Err code) = Err code

-- one token of a problem, with the limits
abbrev pub limited_problem : ProblemState → Lexeme → Result ProblemState Code
limited_problem start (a_name x) = begun_within (logic_of x)
limited_problem (reading logic s) (a_sign sign.Dot) = dotted_within logic (whole_of s)
limited_problem (reading logic s) c = read_within logic (limited logic [] s c)
limited_problem _ _ = Err Unexpected
