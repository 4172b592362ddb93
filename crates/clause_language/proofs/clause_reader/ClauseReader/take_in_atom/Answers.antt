use Rattle.std.proofs.Common.{refl}
use Rattle.clause_language.proofs.ClauseReading.{takes-in_atom}
use Rattle.clause_language.proofs.clause_reader.ClauseReader.take_in_atom.Goals as goal

pub returns-clause-taken : goal.returns-clause-taken
returns-clause-taken c = λ s h m n.
    let t = c.take_token.ensures in takes-in_atom c.take_token.result _ _ _ _ c.args.self.now _ s h m n t.names t.variables t.counted t.taken m refl refl refl
