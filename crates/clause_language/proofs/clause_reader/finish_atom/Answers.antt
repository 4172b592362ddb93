use Rattle.clause_language.proofs.ClauseReading.{atom-read}
use Rattle.clause_language.proofs.clause_reader.finish_atom.Goals as goal

pub returns-in-Some : goal.returns-in-Some
returns-in-Some c = atom-read c.atom_of.result c.in_ok-term.field-0 c.in-Some.term c.args.terms.now c.in_ok-term.ensures.whole c.in-Some.is c.atom_of.ensures
