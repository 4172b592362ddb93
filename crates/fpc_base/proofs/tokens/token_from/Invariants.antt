use Rattle.std.proofs.Common.{◌≡◌, ◌≤◌, ◌-◌, length}
use Rattle.fpc_base.specs.Tokens.{tokens_from}
use Rattle.fpc_base.proofs.tokens.token_from.Given as goal

abbrev pub invariant-loop-at : goal.invariant-loop-at
invariant-loop-at l = record { rises : l.start ≤ l.at; same : tokens_from l.at l.bytes ≡ tokens_from l.start l.bytes }

abbrev pub decreases-loop-at : goal.decreases-loop-at
decreases-loop-at l = length l.initial.bytes - l.at
