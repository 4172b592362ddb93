use Rattle.search_model.proofs.UnificationFacts.{equality_unified}
use Rattle.search_model.proofs.laws.equality_is_unified.Goals as goal

pub returns : goal.returns
returns c = equality_unified
