use Rattle.search_model.specs.declared.plain.Outcome.TheVariants as outcome
use Rattle.elaborator.proofs.Elaborated.{trace_named, found_verified, elaboration}
use Rattle.elaborator.proofs.elaborate.elaborate.Goals as goal

pub text_of-requires : goal.text_of-requires
text_of-requires c =
    trace_named c.args.names.now c.distinct.ensures c.args.program.now c.requires.program c.args.problem.now.goal c.requires.goal c.args.budget c.in-Accepted.trace c.in-Accepted.units
    (rw c.in-Accepted.is at c.in_ok-outcome.ensures.outcome)

pub returns-in-Accepted-clause-elaborated : goal.returns-in-Accepted-clause-elaborated
returns-in-Accepted-clause-elaborated c =
    elaboration c.args.names.now c.args.program.now c.args.problem.now.goal c.args.budget (outcome.Accepted c.in-Accepted.trace c.in-Accepted.units)
    (rw c.in-Accepted.is at c.in_ok-outcome.ensures.outcome) (rw c.in-Accepted.is at c.in_ok-outcome.ensures.units) (rw c.in-Accepted.is at c.in_ok-outcome.ensures.right)
    c.text_of.result c.text_of.ensures

pub returns-in-Accepted-clause-verified : goal.returns-in-Accepted-clause-verified
returns-in-Accepted-clause-verified c =
    found_verified c.args.names.now c.distinct.ensures c.args.program.now c.requires.program c.args.problem.now.goal c.requires.goal c.proper.ensures c.requires.closed
    c.own_text.ensures.accepted c.own_text.ensures.verified c.args.budget c.in-Accepted.trace c.in-Accepted.units (rw c.in-Accepted.is at c.in_ok-outcome.ensures.outcome)
    (rw c.in-Accepted.is at c.in_ok-outcome.ensures.right) (rw (c.items.ensures, c.steps.ensures) at c.few_in_steps.ensures) c.text_of.result c.text_of.ensures
