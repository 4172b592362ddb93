use Rattle.std.proofs.Common.{arith}
use Rattle.fpc_terms.specs.Open.{later}
use Rattle.clause_language.specs.LeastModel.{put_atom}
use Rattle.search_model.specs.Search.{call}
use Rattle.search_model.specs.States.{goals_of}
use Rattle.search_model.proofs.StateFacts.{mapped-before}
use Rattle.search_model.proofs.calls.push_calls.Goals as goal

pub loop-n-preserved : goal.loop-n-preserved
loop-n-preserved g c = (
  (λ p. rw (c.in_ok-push_call.ensures p, c.loop-n.invariant.0 p)
      (mapped-before (λ b. call (put_atom (later c.args.offset) b)) c.args.body.now c.loop-n.n c.index-body-n.result
      (goals_of (g.C.Calculus.sequent_of p) c.args.goals.now.items) (let t = c.loop-n-test.true in omega arith) c.loop-n.invariant.1 c.index-body-n.is)),
  let t = c.loop-n.invariant.1 in omega arith,
)
