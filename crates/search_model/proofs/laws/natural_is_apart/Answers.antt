use Rattle.search_model.proofs.OddFacts.{natural_apart}
use Rattle.search_model.proofs.laws.natural_is_apart.Goals as goal

pub returns : goal.returns
returns c = natural_apart
