use Rattle.std.proofs.lemmas.Result.{on_ok_weaker}
use Rattle.explicit_kernel.proofs.NamingFacts.{some-premise}
use Rattle.explicit_kernel.proofs.shared.Shared.open_body.Goals as goal

pub returns-clause-pending : goal.returns-clause-pending
returns-clause-pending c =
    let told = c.in_ok-keep_term.ensures in
    on_ok_weaker c.open_focus.result
    (λ is. some-premise c.args.self.now c.keep_term.new.self c.args.floor c.args.level c.in_ok-keep_term.field-0 c.args.t c.args.formula c.in_ok-body.body _
    told.grows told.last told.place c.requires.ready c.requires.served c.requires.quantified c.in_ok-body.ensures.value is) c.open_focus.ensures.pending
