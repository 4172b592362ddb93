use Rattle.fpc_base.specs.Memory.{named_files, open_bytes}
use Rattle.fpc_base.proofs.Pieces.{take-from}
use Rattle.fpc_base.proofs.memory.MemFilesSource.read.Goals as goal

pub returns-clause-taken : goal.returns-clause-taken
returns-clause-taken c =
    let front = rw (c.bytes_of.ensures, c.deref.ensures.value) at c.copy_front-n.ensures.bytes in
    rw (← c.self.view_is) (take-from (open_bytes (named_files c.self.inside.files.items) c.self.inside.opened) _ c.self.inside.at c.copy_front-n.result front)
