-- The answer to words that are no command.
use Rattle.std.proofs.Common.{ℕ, List, sym, ◌∙◌}
use Rattle.fpc_base.specs.Outside.{Content}
use Rattle.fpc_cli.specs.commands.Usage.{usage_task}
use Rattle.fpc_cli.proofs.InputLaws.{IsLawfulTask}

pub usage-lawful : (content : List ℕ → Content) → IsLawfulTask content usage_task
usage-lawful content = record {
  lawful = tt;
  due = λ bytes old new calm a found h. h.1;
  fits = λ known bytes old new calm a b found h due. h.1 ∙ sym due;
}
