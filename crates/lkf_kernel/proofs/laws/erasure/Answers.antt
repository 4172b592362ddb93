use Rattle.lkf_kernel.proofs.ErasureFacts.{guided_is_spelling}
use Rattle.lkf_kernel.proofs.laws.erasure.Goals as goal

pub returns : goal.returns
returns c = guided_is_spelling
