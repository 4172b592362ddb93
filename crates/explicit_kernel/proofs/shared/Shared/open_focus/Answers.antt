use Rattle.std.proofs.Common.{ap, ◌∙◌, ◌∷◌}
use Rattle.explicit_kernel.proofs.Sharing.{chain-end}
use Rattle.explicit_kernel.proofs.shared.Shared.open_focus.Goals as goal

pub open_task-requires-clause-served : goal.open_task-requires-clause-served
open_task-requires-clause-served c = (
  c.args.formula,
  c.in_ok-place.ensures.chain ∙ ap (λ l. c.args.formula ∷ l) (chain-end c.args.self.now.cells),
  rw c.put_before.ensures.grows.terms c.requires.served,
)
