use Rattle.fpc_base.proofs.LongestToken.{IsLongest-front_of}
use Rattle.fpc_base.proofs.tokens.longest_is_taken.Goals as goal

pub returns : goal.returns
returns c = IsLongest-front_of
