use Rattle.clause_language.proofs.Joined.{joined-program, definition-program}
use Rattle.clause_language.proofs.laws.joined_files_are_programs.Goals as goal

pub returns-clause-joined : goal.returns-clause-joined
returns-clause-joined c = joined-program

pub returns-clause-alone : goal.returns-clause-alone
returns-clause-alone c = definition-program
