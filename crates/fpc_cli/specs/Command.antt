-- What the program's words ask for.
use Rattle.std.specs.Prelude.{◌≡◌, ◌↔◌, ◌≤◌, ℕ, ◌+◌, ◌-◌, ◌*◌, nat_eq, nat_le, Bool, false, not, ◌==◌, ◌&&◌, if◌then◌else◌, List, [], ◌∷◌, codes, decimal, bytes_eq, Option, Some, None}
use Rattle.std.specs.List.{starts_with}
use Rattle.fpc_base.specs.Tokens.{is_digit}
use Rattle.fpc_cli.specs.declared.answer.Role.{Role}
use Rattle.fpc_cli.specs.declared.answer.Role.TheVariants as role
use Rattle.fpc_cli.specs.declared.built_in.BuiltIn.{BuiltIn}
use Rattle.fpc_cli.specs.declared.built_in.BuiltIn.TheVariants.{Cnf}
use Rattle.fpc_cli.specs.declared.command.Command.{Command}
use Rattle.fpc_cli.specs.declared.command.Command.TheVariants.{Verify, Check, Elaborate, Format, Solve, Usage}
use Rattle.fpc_cli.specs.declared.command.Origin.{Origin}
use Rattle.fpc_cli.specs.declared.command.Origin.TheVariants as origin
use Rattle.fpc_cli.specs.declared.command.Form.{Form}
use Rattle.fpc_cli.specs.declared.command.Form.TheVariants.{Problem, Definition, Certificate}
use Rattle.fpc_cli.specs.declared.command.Wanted.{Wanted}
use Rattle.fpc_cli.specs.declared.command.Wanted.TheVariants.{Verdict, Explicit}

-- a definition that was chosen: the one in a file, or one that is built in
pub data Chosen : Type 0 where
  in_file : (name : List ℕ) → Chosen
  built_in : BuiltIn → Chosen

-- what the program is asked to do: to verify the explicit certificate in one file against the
-- problem in another, to check a problem by a definition and the certificate in a file, within a
-- budget of units, to do so and write the explicit certificate, to print the printed form of a file
-- that is read as a problem, a definition or a certificate, to search for an instance of an atom
-- that holds by a definition, within a budget of units, or nothing that it knows
pub data Asked : Type 0 where
  verify : (problem explicit : List ℕ) → Asked
  check : (budget : ℕ) → (problem : List ℕ) → (definition : Chosen) → (certificate : List ℕ) → Asked
  elaborate : (budget : ℕ) → (problem : List ℕ) → (definition : Chosen) → (certificate : List ℕ)
      → Asked
  format : (form : Form) → (file : List ℕ) → Asked
  solve : (budget : ℕ) → (definition : Chosen) → (atom : List ℕ) → Asked
  usage : Asked

-- a word that can name a file: it is not empty and does not begin with `-`
abbrev pub is_file_word : List ℕ → Bool
is_file_word [] = false
is_file_word (first ∷ rest) = not (first == 45)

-- the form that a word says: `problem`, `definition` or `certificate`
abbrev pub form_said : List ℕ → Option Form
form_said word =
    if bytes_eq word (codes "problem") then Some Problem
    else (if bytes_eq word (codes "definition") then Some Definition
    else (if bytes_eq word (codes "certificate") then Some Certificate
    else None))

-- after `verify`: a problem's file and an explicit certificate's file
abbrev pub verify_by : List ℕ → List ℕ → Asked
verify_by problem explicit =
    if is_file_word problem && is_file_word explicit then verify problem explicit else usage

-- a file to be printed, where a form was said
abbrev pub format_as : Option Form → List ℕ → Asked
format_as None file = usage
format_as (Some form) file = format form file

-- after `format`: a form and a file
abbrev pub format_by : List ℕ → List ℕ → Asked
format_by form file = if is_file_word file then format_as (form_said form) file else usage

-- the most units of a budget
abbrev pub most_budget : ℕ
most_budget = 4611686018427387904

-- the budget of a search without one of its own
abbrev pub usual_budget : ℕ
usual_budget = 10000000

-- a number with one more digit, where the byte is a digit and the number is at most the most units
abbrev pub with_digit : ℕ → ℕ → Option ℕ
with_digit n b =
    if is_digit b && nat_le (10 * n + (b - 48)) most_budget
    then Some (10 * n + (b - 48))
    else None

-- a number with more digits
abbrev pub with_digits : ℕ → List ℕ → Option ℕ
with_digits n [] = Some n
with_digits n (b ∷ bs) = elim (with_digit n b) [ Some m ↦ with_digits m bs | None ↦ None ]

-- the budget that a word says: digits alone, the first one not 0, and at most the most units
abbrev pub budget_said : List ℕ → Option ℕ
budget_said [] = None
budget_said (b ∷ bs) = if nat_eq b 48 then None else with_digits 0 (b ∷ bs)

-- a word says a budget exactly where it has the decimal digits of a number from 1 to the most units
abbrev pub BudgetIsDecimal : Type 0
BudgetIsDecimal =
    (word : List ℕ) (n : ℕ)
    → budget_said word ≡ Some n ↔ ((word ≡ decimal n) × (1 ≤ n) × (n ≤ most_budget))

-- a word that can name a definition's file: it can name a file, and does not begin as the name of a
-- definition that is built in
abbrev pub is_definition_word : List ℕ → Bool
is_definition_word word = is_file_word word && not (starts_with nat_eq word (codes "builtin:"))

-- the definition that a word chooses
abbrev pub definition_said : List ℕ → Option Chosen
definition_said word =
    if bytes_eq word (codes "builtin:cnf") then Some (built_in Cnf)
    else (if is_definition_word word then Some (in_file word)
    else None)

-- a search, where a definition was chosen
abbrev pub solve_over : ℕ → Option Chosen → List ℕ → Asked
solve_over budget None atom = usage
solve_over budget (Some definition) atom = solve budget definition atom

-- after `solve` and its budget: a definition, and any word as an atom
abbrev pub solve_by : ℕ → List ℕ → List ℕ → Asked
solve_by budget definition atom = solve_over budget (definition_said definition) atom

-- a search, where a budget was said
abbrev pub solve_within : Option ℕ → List ℕ → List ℕ → Asked
solve_within None definition atom = usage
solve_within (Some budget) definition atom = solve_by budget definition atom

-- what is wanted of a guided search, as the command's name says
abbrev pub wanted_said : List ℕ → Option Wanted
wanted_said name =
    if bytes_eq name (codes "check") then Some Verdict
    else (if bytes_eq name (codes "elaborate") then Some Explicit
    else None)

-- the guided search that is asked for where this is wanted
abbrev pub guided : Wanted → ℕ → List ℕ → Chosen → List ℕ → Asked
guided Verdict budget problem definition certificate = check budget problem definition certificate
guided Explicit budget problem definition certificate =
    elaborate budget problem definition certificate

-- a guided search, where a definition was chosen
abbrev pub guided_over : Wanted → ℕ → List ℕ → Option Chosen → List ℕ → Asked
guided_over wanted budget problem None certificate = usage
guided_over wanted budget problem (Some definition) certificate =
    guided wanted budget problem definition certificate

-- after `check` or `elaborate` and its budget: a problem's file, a definition, and a certificate's
-- file
abbrev pub guided_by : Wanted → ℕ → List ℕ → List ℕ → List ℕ → Asked
guided_by wanted budget problem definition certificate =
    if is_file_word problem && is_file_word certificate
    then guided_over wanted budget problem (definition_said definition) certificate
    else usage

-- a guided search, where what is wanted and a budget were said
abbrev pub guided_within : Option Wanted → Option ℕ → List ℕ → List ℕ → List ℕ → Asked
guided_within None budget problem definition certificate = usage
guided_within (Some wanted) None problem definition certificate = usage
guided_within (Some wanted) (Some budget) problem definition certificate =
    guided_by wanted budget problem definition certificate

-- a command and two words after it
abbrev pub short_asked : List ℕ → List ℕ → List ℕ → Asked
short_asked name second third =
    if bytes_eq name (codes "verify") then verify_by second third
    else (if bytes_eq name (codes "format") then format_by second third
    else (if bytes_eq name (codes "solve") then solve_by usual_budget second third
    else usage))

-- `check` or `elaborate`, and three words after it
abbrev pub guided_asked : List ℕ → List ℕ → List ℕ → List ℕ → Asked
guided_asked name problem definition certificate =
    guided_within (wanted_said name) (Some usual_budget) problem definition certificate

-- `solve` with `--budget`, a budget and two words after it
abbrev pub long_asked : List ℕ → List ℕ → List ℕ → List ℕ → List ℕ → Asked
long_asked name flag budget definition atom =
    if bytes_eq name (codes "solve") && bytes_eq flag (codes "--budget")
    then solve_within (budget_said budget) definition atom
    else usage

-- `check` or `elaborate` with `--budget`, a budget and three words after it
abbrev pub long_guided_asked : List ℕ → List ℕ → List ℕ → List ℕ → List ℕ → List ℕ → Asked
long_guided_asked name flag budget problem definition certificate =
    if bytes_eq flag (codes "--budget")
    then guided_within (wanted_said name) (budget_said budget) problem definition certificate
    else usage

-- The words are exactly a command and as many more as it has, where those that search may have
-- `--budget` and a budget directly after their name. Any others are an error of usage.
abbrev pub asked_by : List (List ℕ) → Asked
asked_by (name ∷ second ∷ third ∷ []) = short_asked name second third
asked_by (name ∷ problem ∷ definition ∷ certificate ∷ []) =
    guided_asked name problem definition certificate
asked_by (name ∷ flag ∷ budget ∷ definition ∷ atom ∷ []) =
    long_asked name flag budget definition atom
asked_by (name ∷ flag ∷ budget ∷ problem ∷ definition ∷ certificate ∷ []) =
    long_guided_asked name flag budget problem definition certificate
asked_by _ = usage

-- the definition that comes from there
abbrev pub chosen_of : Origin → Chosen
chosen_of (origin.File name) = in_file name.now
chosen_of (origin.BuiltIn definition) = built_in definition

-- where a definition comes from, if a word said so, is what was chosen
abbrev pub IsSaid : Option Origin → Option Chosen → Type 0
IsSaid None chosen = chosen ≡ None
IsSaid (Some definition) chosen = chosen ≡ Some (chosen_of definition)

-- what a command stands for
abbrev pub asked_of : Command → Asked
asked_of (Verify problem explicit) = verify problem.now explicit.now
asked_of (Check budget problem definition certificate) =
    check budget problem.now (chosen_of definition) certificate.now
asked_of (Elaborate budget problem definition certificate) =
    elaborate budget problem.now (chosen_of definition) certificate.now
asked_of (Format form file) = format form file.now
asked_of (Solve budget definition atom) = solve budget (chosen_of definition) atom.now
asked_of Usage = usage

-- the role of a file of a form
abbrev pub role_of : Form → Role
role_of Problem = role.Problem
role_of Definition = role.Definition
role_of Certificate = role.Certificate
