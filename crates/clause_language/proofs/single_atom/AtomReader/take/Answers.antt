use Rattle.clause_language.proofs.AtomReading.{takes-behind}
use Rattle.clause_language.proofs.single_atom.AtomReader.take.Goals as goal

pub returns-clause-taken : goal.returns-clause-taken
returns-clause-taken c = λ before h.
    let t = c.take_token.ensures in
    takes-behind c.take_token.result _ _ before _ c.args.self.now _ h c.if-not-self.false c.if-not-self.false t.counted t.taken
