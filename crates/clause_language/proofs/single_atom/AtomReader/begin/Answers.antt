use Rattle.std.proofs.Common.{refl}
use Rattle.clause_language.proofs.AtomReading.{takes-first, refuses-first}
use Rattle.clause_language.proofs.single_atom.AtomReader.begin.Goals as goal

pub returns-in-Name-clause-taken : goal.returns-in-Name-clause-taken
returns-in-Name-clause-taken c = λ before h b.
    let t = c.take_token.ensures in
    rw c.in-Name.is (takes-first c.take_token.result _ _ before _ c.args.self.now _ h b refl (rw c.in-Name.is at t.counted) (rw c.in-Name.is at t.taken))

pub returns-in_default-clause-taken : goal.returns-in_default-clause-taken
returns-in_default-clause-taken c = λ before h b. refuses-first c.args.names.now before c.args.lexeme c.args.self.now h b c.in_default.not-Name
