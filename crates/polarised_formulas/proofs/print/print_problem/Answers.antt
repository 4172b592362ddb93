use Rattle.polarised_formulas.proofs.PrintFacts.{problem_text-written}
use Rattle.polarised_formulas.proofs.print.print_problem.Goals as goal

pub returns : goal.returns
returns c =
    rw (c.in_ok-extend_from_slice-2.ensures.items, c.in_ok-push_named_formula.ensures.ok, c.in_ok-push.ensures.items, c.in_ok-extend_from_slice.ensures.items, c.new-text.ensures.items, c.as_bytes.ensures.value, c.logic_word.ensures)
    (problem_text-written c.args.names.now c.args.problem.now.logic c.args.problem.now.goal)
