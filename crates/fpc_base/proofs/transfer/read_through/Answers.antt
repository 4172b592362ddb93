use Rattle.std.proofs.Common.{arith}
use Rattle.fpc_base.proofs.Moves.{TakesFront-most}
use Rattle.fpc_base.proofs.transfer.read_through.Goals as goal

pub returns-then-is_err-clause-taken : goal.returns-then-is_err-clause-taken
returns-then-is_err-clause-taken g c =
    TakesFront-most (g.S.Source.outside c.args.src.now).left (g.S.Source.outside c.loop-bytes.src).left (g.S.Source.outside c.read_piece.new.src).left c.loop-bytes.bytes.items c.loop-bytes.bytes.len c.args.limit c.in-Ok.n c.read_piece.new.buffer c.loop-bytes.invariant.0 c.in-Ok.ensures.taken
    (let h = c.in-Ok.ensures.within in omega arith)
