use Rattle.std.proofs.Common.{ap, Some}
use Rattle.clause_language.proofs.ClauseReading.{clause-held, clause-headed}
use Rattle.clause_language.proofs.clause_reader.ClauseReader.finish.Goals as goal

pub returns-in-Some : goal.returns-in-Some
returns-in-Some c = λ names w number h a. rw c.count.ensures (ap Some (clause-held names w c.args.self c.in-Some.head number h c.distinct.ensures a c.in-Some.is))

pub returns : goal.returns
returns c = λ names w number h a. absurd (clause-headed names w c.args.self number h c.distinct.ensures a c.in-None.is)
