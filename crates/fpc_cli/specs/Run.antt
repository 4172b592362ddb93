-- Why the program answers as it does, and what it writes.
use Rattle.std.specs.Prelude.{◌≡◌, ◌⊎◌, ℕ, List, Option}
use Rattle.fpc_base.specs.Outside.{Outside, Content, Rose, Adds, AddsPrefix}
use Rattle.fpc_cli.specs.declared.answer.Answer.{Answer}
use Rattle.fpc_cli.specs.declared.answer.Answer.TheVariants.{OutOfMemory}
use Rattle.fpc_cli.specs.declared.command.Wanted.TheVariants.{Verdict, Explicit}
use Rattle.fpc_cli.specs.Answer.{answer_text, status_of}
use Rattle.fpc_cli.specs.Command.{Asked, verify, check, elaborate, format, solve, usage}
use Rattle.fpc_cli.specs.Inputs.{Task, ComesOf}
use Rattle.fpc_cli.specs.commands.Guided.{guided_task}
use Rattle.fpc_cli.specs.commands.Format.{format_task}
use Rattle.fpc_cli.specs.commands.Solve.{solve_task}
use Rattle.fpc_cli.specs.commands.Usage.{usage_task}
use Rattle.fpc_cli.specs.commands.Verify.{verify_task}

-- what each command does
abbrev pub task_of : Asked → Task
task_of (verify problem explicit) = verify_task problem explicit
task_of (check budget problem definition certificate) =
    guided_task Verdict budget problem definition certificate
task_of (elaborate budget problem definition certificate) =
    guided_task Explicit budget problem definition certificate
task_of (format form file) = format_task form file
task_of (solve budget definition atom) = solve_task budget definition atom
task_of usage = usage_task

-- An answer's cause, in what was asked, what is told of the files, and what had come of them before
-- and has now.
abbrev pub IsCaused : Asked → (List ℕ → Content) → Outside → Outside → Answer → Type 0
IsCaused asked content old new answer = ComesOf content (task_of asked) old new answer

-- the answer that was found is told; or memory ran out for its text
abbrev pub IsTold : (found told : Answer) → Type 0
IsTold found told = (told ≡ found) ⊎ (told ≡ OutOfMemory)

-- a text was written under a status, or the sink's count rose and it took a part from the front
abbrev pub IsPut : ℕ → List ℕ → ℕ → ℕ → ℕ → Option (List ℕ) → Option (List ℕ) → Type 0
IsPut status text code before now old new =
    ((code ≡ status) × (now ≡ before) × Adds old text new)
    ⊎ ((code ≡ 6) × Rose before now × AddsPrefix old text new)

-- the text of the answer was written so under its status
abbrev pub IsWritten : Answer → ℕ → ℕ → ℕ → Option (List ℕ) → Option (List ℕ) → Type 0
IsWritten answer code before now old new =
    IsPut (status_of answer) (answer_text answer) code before now old new

-- an answer with its cause was found, told and written, and the status is that of what was told
pub record IsAnswered (asked : Asked) (content : List ℕ → Content) (before now : Outside) (code : ℕ)
    (faults faults' : ℕ) (old new : Option (List ℕ)) : Type 0 where
  pub found : Answer
  pub caused : IsCaused asked content before now found
  pub told : Answer
  pub is_told : IsTold found told
  pub written : IsWritten told code faults faults' old new
