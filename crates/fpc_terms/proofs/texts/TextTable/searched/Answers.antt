use Rattle.std.proofs.Common.{◌∙◌}
use Rattle.fpc_terms.proofs.Interning.{number_of-place_in}
use Rattle.fpc_terms.proofs.texts.TextTable.searched.Goals as goal

pub returns : goal.returns
returns c = rw (← c.self.view_is) (c.copied.ensures ∙ c.get.ensures.value ∙ number_of-place_in c.self.inside.numbers _ c.self.invariant c.args.text.now)
