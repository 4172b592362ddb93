use Rattle.std.proofs.Common.{arith, ◌∙◌, sym}
use Rattle.fpc_base.specs.declared.tokens.front.Front.TheVariants.{Gap, Fault}
use Rattle.fpc_base.proofs.TokenLemmas.{tokens_from-slice, tokens_from-piece}
use Rattle.fpc_base.proofs.LongestToken.{piece-form}
use Rattle.fpc_base.proofs.tokens.token_from.Goals as goal

pub loop-at-preserved : goal.loop-at-preserved
loop-at-preserved c = record {
  rises = (let h = c.loop-at.invariant.rises in omega arith);
  same = (let h = c.in-Gap.ensures in sym (tokens_from-slice c.loop-at.at c.args.bytes.now (Gap c.in-Gap.size) (record { front = h.front; some = h.some; within = h.within })) ∙ c.loop-at.invariant.same);
}

pub returns-in-Fault-clause-first : goal.returns-in-Fault-clause-first
returns-in-Fault-clause-first c =
    let h = c.in-Fault.ensures in
    sym c.loop-at.invariant.same
    ∙ tokens_from-slice c.loop-at.at c.args.bytes.now (Fault c.in-Fault.code) (record { front = h.front; some = h.some; within = h.within })

pub returns-in-Piece-clause-first : goal.returns-in-Piece-clause-first
returns-in-Piece-clause-first c =
    let h = c.in-Piece.ensures in
    sym c.loop-at.invariant.same
    ∙ tokens_from-piece c.loop-at.at c.in-Piece.size c.in-Piece.kind c.args.bytes.now (record { front = h.front; some = h.some; within = h.within })

pub returns-in-Piece-clause-form : goal.returns-in-Piece-clause-form
returns-in-Piece-clause-form c =
    let h = c.in-Piece.ensures in
    piece-form c.loop-at.at c.in-Piece.size c.in-Piece.kind c.args.bytes.now (record { front = h.front; some = h.some; within = h.within })
