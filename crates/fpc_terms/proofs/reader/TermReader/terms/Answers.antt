use Rattle.std.proofs.Common.{refl, []}
use Rattle.fpc_terms.specs.Written.{args_meant}
use Rattle.fpc_terms.proofs.HoldingFacts.{built-arguments}
use Rattle.fpc_terms.proofs.reader.TermReader.terms.Goals as goal

pub returns : goal.returns
returns c = λ number leaf args h. rw h.terms (refl, built-arguments (args_meant number leaf args) [])
