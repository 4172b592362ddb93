use Rattle.std.proofs.Common.{refl}
use Rattle.clause_language.proofs.ClauseReading.{takes-name}
use Rattle.clause_language.proofs.clause_reader.ClauseReader.begin_atom.Goals as goal

pub returns-in-Name-clause-taken : goal.returns-in-Name-clause-taken
returns-in-Name-clause-taken c = λ s h m.
    let t = c.take_token.ensures in
    rw c.in-Name.is (takes-name c.take_token.result _ _ _ _ c.args.self.now _ c.new.result s h m t.names t.variables (rw c.in-Name.is at t.counted) c.new.ensures (rw c.in-Name.is at t.taken) refl refl refl refl)
