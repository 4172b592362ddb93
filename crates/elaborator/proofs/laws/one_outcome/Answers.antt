use Rattle.elaborator.proofs.OneOutcome.{checked_once}
use Rattle.elaborator.proofs.laws.one_outcome.Goals as goal

pub returns : goal.returns
returns c = checked_once
