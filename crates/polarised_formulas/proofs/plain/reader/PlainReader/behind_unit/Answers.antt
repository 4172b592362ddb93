use Rattle.polarised_formulas.proofs.PlainPieces.{behind-stop}
use Rattle.polarised_formulas.proofs.plain.reader.PlainReader.behind_unit.Goals as goal

pub returns-clause-stop : goal.returns-clause-stop
returns-clause-stop c = λ number logic q t.
    let b = rw c.split_at.ensures.back at c.behind_piece-passed.ensures.stop in
    rw c.stopped.ensures (behind-stop number logic q c.args.bytes.now c.args.n c.behind_piece-passed.result.passed c.args.self.now c.behind_piece-passed.new.self c.behind_piece-passed.result.last c.requires.some c.requires.within t c.requires.mode (λ hs f h. b number logic hs f h))
