use Rattle.fpc_terms.proofs.Interning.{AreDifferent-from_numbers}
use Rattle.fpc_terms.proofs.texts.TextTable.distinct.Goals as goal

pub returns : goal.returns
returns c = rw (← c.self.view_is) (AreDifferent-from_numbers _ _ c.self.invariant)
