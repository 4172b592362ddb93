-- Words that are no command.
use Rattle.std.specs.Prelude.{◌≡◌, []}
use Rattle.fpc_cli.specs.declared.answer.Answer.TheVariants.{Usage}
use Rattle.fpc_cli.specs.Inputs.{Task}

-- there is no input, nothing is opened, and the answer says so
abbrev pub usage_task : Task
usage_task = record {
  inputs = [];
  Ends = λ content inputs old new answer. (new ≡ old) × (answer ≡ Usage);
  Due = λ content inputs answer. answer ≡ Usage;
}
