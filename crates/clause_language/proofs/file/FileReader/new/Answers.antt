use Rattle.std.proofs.Common.{refl, []}
use Rattle.fpc_terms.specs.ReadTerm.{numbered}
use Rattle.clause_language.proofs.FileHolding.{new-taken}
use Rattle.clause_language.proofs.file.FileReader.new.Goals as goal

pub returns : goal.returns
returns c = λ names earlier h. (
  (refl, refl, refl, record { taken = new-taken earlier c.args.taken h; declared = λ number a. c.new.ensures; clauses = λ number a. c.new-2.ensures }),
  record { tokens = []; reached = refl; variables = c.new-6.ensures; holds = λ number numbers a b. c.new-5.ensures number (numbered numbers) },
)
