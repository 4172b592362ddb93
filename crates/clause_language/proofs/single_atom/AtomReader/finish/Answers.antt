use Rattle.std.proofs.Common.{refl}
use Rattle.clause_language.proofs.AtomReading.{no-atom, atom-of}
use Rattle.clause_language.proofs.single_atom.AtomReader.finish.Goals as goal

pub returns-then-not-is_whole : goal.returns-then-not-is_whole
returns-then-not-is_whole c = λ names before d h.
    rw c.unfinished.ensures (refl, no-atom names before c.args.self d c.distinct.ensures h c.is_whole.result c.if-not-is_whole.true c.is_whole.ensures)

pub returns-in-Ok : goal.returns-in-Ok
returns-in-Ok c = λ names before d h.
    atom-of names before c.args.self d c.distinct.ensures h c.in-Ok.atom c.count.result c.is_whole.result c.if-not-is_whole.false c.is_whole.ensures c.in-Ok.ensures c.count.ensures
