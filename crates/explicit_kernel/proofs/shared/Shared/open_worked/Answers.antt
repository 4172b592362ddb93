use Rattle.std.proofs.lemmas.Result.{on_ok_weaker}
use Rattle.polarised_formulas.specs.Held.{given}
use Rattle.explicit_kernel.proofs.NamingFacts.{both-premise, raised-premise, stored-premise}
use Rattle.explicit_kernel.proofs.shared.Shared.open_worked.Goals as goal

pub returns-in_ok-rest-in-Both-clause-pending : goal.returns-in_ok-rest-in-Both-clause-pending
returns-in_ok-rest-in-Both-clause-pending c =
    let x = c.args.self.now in
    let ref = given x.terms.items in
    on_ok_weaker c.open_first.result
    (λ told. both-premise x c.args.level c.args.first.next c.args.first.formula c.args.effect c.put_before.new.self c.in_ok-rest-in-Both.rest c.in_ok-first-in-Both.first c.in_ok-second-in-Both.second _
    c.in-Both.is c.put_before.ensures.grows (c.in_ok-first-in-Both.ensures.stands ref) (c.in_ok-second-in-Both.ensures.stands ref) c.in_ok-rest-in-Both.ensures.chain told) c.open_first.ensures.pending

pub returns-in_ok-body-in-Raise-clause-pending : goal.returns-in_ok-body-in-Raise-clause-pending
returns-in_ok-body-in-Raise-clause-pending c =
    on_ok_weaker c.open_first-in-Raise.result
    (λ told. raised-premise c.args.self.now c.args.level c.args.first.next c.args.first.formula c.args.effect c.in_ok-body-in-Raise.body _
    c.in-Raise.is c.requires.ready.unbound (rw c.in-Raise.is at c.requires.workable) c.in_ok-body-in-Raise.ensures.value told) c.open_first-in-Raise.ensures.pending

pub returns-in_ok-store-in-Store-clause-pending : goal.returns-in_ok-store-in-Store-clause-pending
returns-in_ok-store-in-Store-clause-pending c =
    on_ok_weaker c.open_task-in-Store.result
    (λ told. stored-premise c.args.self.now c.args.level c.args.first.next c.args.first.formula c.args.effect c.store.new.self _
    c.in-Store.is c.in_ok-store-in-Store.ensures.stored c.in_ok-store-in-Store.ensures.terms c.in_ok-store-in-Store.ensures.cells c.in_ok-store-in-Store.ensures.pending told) c.open_task-in-Store.ensures.pending
