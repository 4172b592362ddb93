use Rattle.std.proofs.Common.{◌∙◌, map, sym, ap}
use Rattle.fpc_terms.specs.Open.{constant}
use Rattle.polarised_formulas.specs.OpenFormula.{put_step}
use Rattle.search_model.specs.Search.{rejected}
use Rattle.search_model.proofs.Roots.{root-search, traced, root-within, traced-within, root_is_goal, accepted_root, rejected_root}
use Rattle.search_model.proofs.plain.plain_search.Goals as goal

pub search_goal-requires-clause-is_goal : goal.search_goal-requires-clause-is_goal
search_goal-requires-clause-is_goal g c =
    let p = c.args.program.now in
    rw (c.in_ok-certificate.ensures, c.in_ok-sequent.ensures p)
    (root_is_goal (g.C.Calculus.table p) p c.args.goal.now (g.met.C.Calculus.sequents p)
    (g.met.C.Calculus.tabled p c.requires.program c.few_parameters.ensures) c.requires.program c.requires.closed)

pub returns-in-Accepted-clause-outcome : goal.returns-in-Accepted-clause-outcome
returns-in-Accepted-clause-outcome g c =
    let p = c.args.program.now in
    let same = root-search (g.C.Calculus.table p) p c.args.goal.now c.in_ok-certificate.certificate (g.C.Calculus.sequent_of p c.in_ok-sequent.sequent) c.new-asked.result
    c.in_ok-certificate.ensures (c.in_ok-sequent.ensures p) c.new-asked.ensures c.args.budget in
    let h = rw (c.in-Accepted.is) at c.in_ok-found.ensures in
    let is = traced (g.C.Calculus.table p) p c.args.goal.now c.args.budget c.in-Accepted.units c.in-Accepted.emitted.items c.in_ok-trace-in-Accepted.trace
    (h.0, sym same ∙ h.1, h.3)
    (c.in_ok-trace-in-Accepted.ensures ∙ ap (map (put_step (constant p.ids.any))) c.as_slice.ensures.value) in
    is

pub returns-in-Accepted-clause-units : goal.returns-in-Accepted-clause-units
returns-in-Accepted-clause-units g c =
    let p = c.args.program.now in
    let same = root-search (g.C.Calculus.table p) p c.args.goal.now c.in_ok-certificate.certificate (g.C.Calculus.sequent_of p c.in_ok-sequent.sequent) c.new-asked.result
    c.in_ok-certificate.ensures (c.in_ok-sequent.ensures p) c.new-asked.ensures c.args.budget in
    let h = rw (c.in-Accepted.is) at c.in_ok-found.ensures in
    let is = traced (g.C.Calculus.table p) p c.args.goal.now c.args.budget c.in-Accepted.units c.in-Accepted.emitted.items c.in_ok-trace-in-Accepted.trace
    (h.0, sym same ∙ h.1, h.3)
    (c.in_ok-trace-in-Accepted.ensures ∙ ap (map (put_step (constant p.ids.any))) c.as_slice.ensures.value) in
    traced-within (g.C.Calculus.table p) p c.args.goal.now c.args.budget c.in-Accepted.units c.in_ok-trace-in-Accepted.trace is

pub returns-in-Accepted-clause-right : goal.returns-in-Accepted-clause-right
returns-in-Accepted-clause-right g c =
    let p = c.args.program.now in
    let same = root-search (g.C.Calculus.table p) p c.args.goal.now c.in_ok-certificate.certificate (g.C.Calculus.sequent_of p c.in_ok-sequent.sequent) c.new-asked.result
    c.in_ok-certificate.ensures (c.in_ok-sequent.ensures p) c.new-asked.ensures c.args.budget in
    let h = rw (c.in-Accepted.is) at c.in_ok-found.ensures in
    let is = traced (g.C.Calculus.table p) p c.args.goal.now c.args.budget c.in-Accepted.units c.in-Accepted.emitted.items c.in_ok-trace-in-Accepted.trace
    (h.0, sym same ∙ h.1, h.3)
    (c.in_ok-trace-in-Accepted.ensures ∙ ap (map (put_step (constant p.ids.any))) c.as_slice.ensures.value) in
    accepted_root (g.C.Calculus.table p) p c.args.goal.now (g.met.C.Calculus.sequents p)
    (g.met.C.Calculus.tabled p c.requires.program c.few_parameters.ensures) c.requires.program c.requires.closed
    (g.met.C.Calculus.sound p c.requires.program) c.args.budget c.in-Accepted.units c.in_ok-trace-in-Accepted.trace is

pub returns-in-Rejected-clause-outcome : goal.returns-in-Rejected-clause-outcome
returns-in-Rejected-clause-outcome g c =
    let p = c.args.program.now in
    let same = root-search (g.C.Calculus.table p) p c.args.goal.now c.in_ok-certificate.certificate (g.C.Calculus.sequent_of p c.in_ok-sequent.sequent) c.new-asked.result
    c.in_ok-certificate.ensures (c.in_ok-sequent.ensures p) c.new-asked.ensures c.args.budget in
    let h = rw (c.in-Rejected.is) at c.in_ok-found.ensures in
    sym same ∙ h

pub returns-in-Rejected-clause-units : goal.returns-in-Rejected-clause-units
returns-in-Rejected-clause-units g c =
    let p = c.args.program.now in
    let same = root-search (g.C.Calculus.table p) p c.args.goal.now c.in_ok-certificate.certificate (g.C.Calculus.sequent_of p c.in_ok-sequent.sequent) c.new-asked.result
    c.in_ok-certificate.ensures (c.in_ok-sequent.ensures p) c.new-asked.ensures c.args.budget in
    let h = rw (c.in-Rejected.is) at c.in_ok-found.ensures in
    root-within (g.C.Calculus.table p) p c.args.goal.now c.args.budget c.in-Rejected.units rejected (sym same ∙ h)

pub returns-in-Rejected-clause-right : goal.returns-in-Rejected-clause-right
returns-in-Rejected-clause-right g c =
    let p = c.args.program.now in
    let same = root-search (g.C.Calculus.table p) p c.args.goal.now c.in_ok-certificate.certificate (g.C.Calculus.sequent_of p c.in_ok-sequent.sequent) c.new-asked.result
    c.in_ok-certificate.ensures (c.in_ok-sequent.ensures p) c.new-asked.ensures c.args.budget in
    let h = rw (c.in-Rejected.is) at c.in_ok-found.ensures in
    rejected_root (g.C.Calculus.table p) p c.args.goal.now (g.met.C.Calculus.sequents p)
    (g.met.C.Calculus.tabled p c.requires.program c.few_parameters.ensures) c.requires.program c.requires.closed
    (g.met.C.Calculus.sound p c.requires.program) (g.met.C.Calculus.complete p c.requires.program) c.args.budget c.in-Rejected.units (sym same ∙ h)

pub returns-clause-outcome : goal.returns-clause-outcome
returns-clause-outcome g c =
    let p = c.args.program.now in
    let same = root-search (g.C.Calculus.table p) p c.args.goal.now c.in_ok-certificate.certificate (g.C.Calculus.sequent_of p c.in_ok-sequent.sequent) c.new-asked.result
    c.in_ok-certificate.ensures (c.in_ok-sequent.ensures p) c.new-asked.ensures c.args.budget in
    let h = rw (c.in-Spent.is) at c.in_ok-found.ensures in
    sym same ∙ h
