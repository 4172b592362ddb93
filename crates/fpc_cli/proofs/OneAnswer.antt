-- The words and the contents of the files have one answer, and it is the one that they call for.
use Rattle.std.proofs.Common.{ℕ, List, []}
use Rattle.fpc_base.specs.Outside.{Content}
use Rattle.search_model.specs.Renaming.{AnsweredOnce}
use Rattle.elaborator.specs.OneOutcome.{CheckedOnce}
use Rattle.fpc_cli.specs.declared.command.Wanted.TheVariants.{Verdict, Explicit}
use Rattle.fpc_cli.specs.Command.{Asked, verify, check, elaborate, format, solve, usage}
use Rattle.fpc_cli.specs.Laws.{HasOneAnswer, AnswerIsDue}
use Rattle.fpc_cli.specs.Run.{task_of}
use Rattle.fpc_cli.proofs.InputLaws.{IsLawfulTask, due, fits}
use Rattle.fpc_cli.proofs.commands.FormatLaws.{format-lawful}
use Rattle.fpc_cli.proofs.commands.GuidedLaws.{guided-lawful}
use Rattle.fpc_cli.proofs.commands.SolveLaws.{solve-lawful}
use Rattle.fpc_cli.proofs.commands.UsageLaws.{usage-lawful}
use Rattle.fpc_cli.proofs.commands.VerifyLaws.{NumbersDontMatter, verify-lawful}

module _ (numbers : NumbersDontMatter) (answered : AnsweredOnce) (outcomes : CheckedOnce) where
  -- each command owes what it owes
  task-lawful : (content : List ℕ → Content) (asked : Asked) → IsLawfulTask content (task_of asked)
  task-lawful content (verify problem explicit) = verify-lawful numbers content problem explicit
  task-lawful content (check budget problem definition certificate) = guided-lawful outcomes content Verdict budget problem definition certificate
  task-lawful content (elaborate budget problem definition certificate) = guided-lawful outcomes content Explicit budget problem definition certificate
  task-lawful content (format form file) = format-lawful content form file
  task-lawful content (solve budget definition atom) = solve-lawful answered content budget definition atom
  task-lawful content usage = usage-lawful content

  pub answer-is-due : AnswerIsDue
  answer-is-due asked content a h =
      let l = task-lawful content asked in
      due content ((task_of asked).Ends content) ((task_of asked).Due content) l.due (task_of asked).inputs l.lawful h.known [] h.old h.new h.calm a h.found h.caused

  pub one-answer : HasOneAnswer
  one-answer asked content a b h k =
      let l = task-lawful content asked in
      fits content ((task_of asked).Ends content) ((task_of asked).Due content) a b h.found
      (λ bytes old new calm ends due. l.fits h.known bytes old new calm a b h.found ends due) (task_of asked).inputs h.known [] h.old h.new h.calm h.caused
      (answer-is-due asked content b k)
