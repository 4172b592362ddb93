use Rattle.std.proofs.Common.{◌≡◌, drop}
use Rattle.fpc_base.specs.Memory.{content_in, named_files}
use Rattle.fpc_base.proofs.memory.position_of.Given as goal

abbrev pub invariant-loop-i : goal.invariant-loop-i
invariant-loop-i l = content_in (named_files l.files) l.name ≡ content_in (named_files (drop l.i l.files)) l.name
