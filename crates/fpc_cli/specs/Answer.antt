-- The text and the status of each of the program's answers.
use Rattle.std.specs.Prelude.{ℕ, List, [], ◌∷◌, ◌++◌, codes, decimal}
use Rattle.fpc_base.specs.declared.refusal.Refusal.{Refusal}
use Rattle.fpc_base.specs.Refusal.{code_number, code_name}
use Rattle.fpc_cli.specs.declared.answer.Role.{Role}
use Rattle.fpc_cli.specs.declared.answer.Role.TheVariants.{Problem, Definition, Certificate, Explicit, Atom, Native}
use Rattle.fpc_cli.specs.declared.answer.Answer.{Answer}
use Rattle.fpc_cli.specs.declared.answer.Answer.TheVariants.{Accepted, Rejected, Formatted, Holds, NotProved, BudgetSpent, TooLong, Refused, Usage, ReadFault, OutOfMemory}

-- the name of a role
abbrev pub role_name : Role → List ℕ
role_name Problem = codes "problem"
role_name Definition = codes "definition"
role_name Certificate = codes "certificate"
role_name Explicit = codes "explicit"
role_name Atom = codes "atom"
role_name Native = codes "native"

-- the exit status of an answer
abbrev pub status_of : Answer → ℕ
status_of (Accepted steps) = 0
status_of (Rejected at) = 1
status_of (Formatted text) = 0
status_of (Holds atom) = 0
status_of NotProved = 1
status_of BudgetSpent = 2
status_of TooLong = 7
status_of (Refused role refusal) = 3
status_of Usage = 4
status_of ReadFault = 5
status_of OutOfMemory = 8

-- a refusal as its number, its name and its place in the file, as `2 Unexpected at 34`
abbrev pub refusal_text : Refusal → List ℕ
refusal_text refusal =
    decimal (code_number refusal.code) ++ codes " " ++ code_name refusal.code ++ codes " at "
    ++ decimal refusal.at

-- the words of an answer, as a line
abbrev pub line_of : List ℕ → List ℕ
line_of words = words ++ 10 ∷ []

-- the text of an answer: a file's printed form as it is, else a line, after which an atom that
-- holds stands on a line of its own
abbrev pub answer_text : Answer → List ℕ
answer_text (Accepted steps) = line_of (codes "accepted, " ++ decimal steps ++ codes " steps")
answer_text (Rejected at) = line_of (codes "rejected at step " ++ decimal at)
answer_text (Formatted text) = text
answer_text (Holds atom) = line_of (codes "accepted") ++ line_of atom
answer_text NotProved = line_of (codes "rejected")
answer_text BudgetSpent = line_of (codes "budget spent")
answer_text TooLong = line_of (codes "too long")
answer_text (Refused role refusal) =
    line_of (codes "refused " ++ role_name role ++ codes " " ++ refusal_text refusal)
answer_text Usage = line_of (codes "usage")
answer_text ReadFault = line_of (codes "read fault")
answer_text OutOfMemory = line_of (codes "want of memory")
