use Rattle.fpc_base.proofs.Pieces.{take-from}
use Rattle.fpc_base.proofs.memory.MemSourceSource.read.Goals as goal

pub returns-clause-taken : goal.returns-clause-taken
returns-clause-taken c =
    let front = rw c.deref.ensures.value at c.copy_front-n.ensures.bytes in
    rw (← c.self.view_is) (take-from c.self.inside.bytes.items _ c.self.inside.at c.copy_front-n.result front)
