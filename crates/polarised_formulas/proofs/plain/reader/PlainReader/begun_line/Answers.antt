use Rattle.polarised_formulas.proofs.PlainPieces.{unit-run}
use Rattle.polarised_formulas.proofs.plain.reader.PlainReader.begun_line.Goals as goal

pub returns-in-Some-clause-run : goal.returns-in-Some-clause-run
returns-in-Some-clause-run c = λ number logic q a h.
    rw c.stopped.ensures (unit-run number logic c.args.bytes.now c.in-Some.unit c.in-Some.n _ c.args.self.now (c.one_unit.ensures logic c.args.self.now) q h c.requires.mode c.requires.alone (rw (c.in-Some.unit-is, c.in-Some.n-is) c.in-Some.ensures))
