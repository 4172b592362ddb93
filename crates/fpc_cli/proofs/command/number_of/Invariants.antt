use Rattle.std.proofs.Common.{◌≡◌, drop}
use Rattle.fpc_cli.specs.Command.{with_digits}
use Rattle.fpc_cli.proofs.command.number_of.Given as goal

abbrev pub invariant-loop-byte : goal.invariant-loop-byte
invariant-loop-byte l = with_digits l.number (drop l.byte-index l.digits) ≡ with_digits 0 l.digits
