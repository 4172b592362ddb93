use Rattle.std.proofs.Common.{◌≡◌, ◌+◌, ◌<◌, ◌∷◌, drop, length, ap, sym, ◌∙◌, arith, rules}
use Rattle.std.proofs.lemmas.List.{drop_more}
use Rattle.clause_language.proofs.AtomRoom.{room-argument, room-spent}
use Rattle.clause_language.proofs.print.room_behind_arguments.Goals as goal

pub loop-term-preserved : goal.loop-term-preserved
loop-term-preserved c =
    let low : c.loop-term.term-index < length c.args.arguments.now = search rules in
    let parts : drop c.loop-term.term-index c.args.arguments.now ≡ c.term-item.result ∷ drop (c.loop-term.term-index + 1) c.args.arguments.now =
    drop_more c.args.arguments.now c.loop-term.term-index c.term-item.result low ∙ ap (λ one. one ∷ drop (c.loop-term.term-index + 1) c.args.arguments.now) (sym c.term-item.is) in
    record {
      room = room-argument c.args.names.now c.args.arguments.now c.loop-term.term-index c.term-item.result c.loop-term.left c.args.room parts c.loop-term.invariant.room
          c.in_ok-left.left c.in_ok-left.ensures;
      named = (rw parts at c.loop-term.invariant.named).1;
    }

pub returns-in_err-left : goal.returns-in_err-left
returns-in_err-left c =
    let low : c.loop-term.term-index < length c.args.arguments.now = search rules in
    let parts : drop c.loop-term.term-index c.args.arguments.now ≡ c.term-item.result ∷ drop (c.loop-term.term-index + 1) c.args.arguments.now =
    drop_more c.args.arguments.now c.loop-term.term-index c.term-item.result low ∙ ap (λ one. one ∷ drop (c.loop-term.term-index + 1) c.args.arguments.now) (sym c.term-item.is) in
    c.from_residual.ensures ∙ room-spent c.args.names.now c.args.arguments.now c.loop-term.term-index c.term-item.result c.loop-term.left c.args.room parts
    c.loop-term.invariant.room (omega (arith, low)) c.in_err-left.ensures
