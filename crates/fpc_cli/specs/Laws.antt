-- The words and the contents of the files have one answer, which is the one that they call for.
use Rattle.std.specs.Prelude.{◌≡◌, ℕ, List, []}
use Rattle.fpc_base.specs.Outside.{Outside, Content, Rose}
use Rattle.fpc_cli.specs.declared.answer.Answer.{Answer}
use Rattle.fpc_cli.specs.declared.answer.Answer.TheVariants.{OutOfMemory}
use Rattle.fpc_cli.specs.Command.{Asked}
use Rattle.fpc_cli.specs.Inputs.{AreKnown, IsDue}
use Rattle.fpc_cli.specs.Run.{task_of, IsCaused}

-- memory sufficed for the answer
abbrev pub IsFound : Answer → Type 0
IsFound OutOfMemory = ⊥
IsFound _ = Unit {0}

-- the command's files are told, no count of faults rose, memory sufficed, and the answer has its
-- cause
pub record IsGiven (asked : Asked) (content : List ℕ → Content) (answer : Answer) : Type 0 where
  pub known : AreKnown content (task_of asked).inputs
  pub old : Outside
  pub new : Outside
  pub calm : Rose old.faults new.faults → ⊥
  pub found : IsFound answer
  pub caused : IsCaused asked content old new answer

-- Where the files tell their contents and no count of faults rose, two answers with a cause are the
-- same, but for want of memory.
abbrev pub HasOneAnswer : Type 0
HasOneAnswer =
    (asked : Asked) (content : List ℕ → Content) (answer other : Answer)
    → IsGiven asked content answer → IsGiven asked content other → answer ≡ other

-- Then the answer is the one that the contents of the files call for.
abbrev pub AnswerIsDue : Type 0
AnswerIsDue =
    (asked : Asked) (content : List ℕ → Content) (answer : Answer) → IsGiven asked content answer
    → IsDue content ((task_of asked).Due content) [] (task_of asked).inputs answer
