use Rattle.search_model.proofs.OneReading.{answered_once}
use Rattle.search_model.proofs.laws.one_solution.Goals as goal

pub returns : goal.returns
returns c = answered_once
