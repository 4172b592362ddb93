use Rattle.std.proofs.Common.{[]}
use Rattle.fpc_terms.specs.Term.{no_args}
use Rattle.polarised_formulas.specs.Formula.{atom}
use Rattle.polarised_formulas.specs.PlainReading.{behind_formula}
use Rattle.polarised_formulas.proofs.Answering.{memory-only}
use Rattle.polarised_formulas.proofs.PlainPieces.{name-stop, literal-stop}
use Rattle.polarised_formulas.proofs.plain.reader.PlainReader.behind_name.Goals as goal

pub returns-then-bytes-eq40-clause-stop : goal.returns-then-bytes-eq40-clause-stop
returns-then-bytes-eq40-clause-stop c = λ number logic hs q l h. rw c.stopped.ensures (name-stop number logic hs c.args.positive c.args.name c.args.bytes.now q _ _ h c.requires (c.end_named_literal.ensures logic hs l))

pub returns-in-Ok-clause-stop : goal.returns-in-Ok-clause-stop
returns-in-Ok-clause-stop c = λ number logic hs q l h.
    literal-stop number logic hs c.args.positive c.args.name c.args.bytes.now q _ _ h _ c.if-bytes-eq40.false (c.behind_piece.ensures.stop number logic hs (atom c.args.positive c.args.name no_args) (c.in-Ok.ensures logic hs [] l))

pub returns-in-Err-clause-stop : goal.returns-in-Err-clause-stop
returns-in-Err-clause-stop c = λ number logic hs q l h.
    rw c.stopped-in-Err.ensures (name-stop number logic hs c.args.positive c.args.name c.args.bytes.now q _ _ h c.requires
    (memory-only logic (behind_formula hs (atom c.args.positive c.args.name no_args)) c.in-Err.refusal _ _ (c.in-Err.ensures logic hs [] l)))
