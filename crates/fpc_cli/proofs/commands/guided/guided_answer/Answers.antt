use Rattle.polarised_formulas.proofs.TableGrowth.{formula-grown}
use Rattle.fpc_cli.proofs.commands.GuidedFacts.{one-logic, same-logic, is-program, found-answered}
use Rattle.fpc_cli.proofs.commands.guided.guided_answer.Goals as goal

pub join-requires : goal.join-requires
join-requires c = one-logic c.args.names.now c.requires.different c.args.definition c.args.certificate c.requires.read

pub verdict-requires-clause-program : goal.verdict-requires-clause-program
verdict-requires-clause-program c =
    let is = is-program c.args.names.now c.join.new.names c.join.ensures.names c.requires.different c.distinct.ensures c.args.definition c.args.certificate c.in_ok-program.program
    c.in_ok-program.ensures.joined c.in_ok-program.ensures.words c.joined_files_are_programs.ensures.joined c.requires.read in
    is.is_open

pub verdict-requires-clause-logic : goal.verdict-requires-clause-logic
verdict-requires-clause-logic c =
    same-logic c.args.names.now c.join.new.names c.join.ensures.names c.requires.different c.distinct.ensures c.args.definition c.args.certificate c.in_ok-program.program
    c.in_ok-program.ensures.joined c.in_ok-program.ensures.words c.args.problem.now.logic c.requires.logic c.requires.read

pub explicit-requires-clause-program : goal.explicit-requires-clause-program
explicit-requires-clause-program c =
    is-program c.args.names.now c.join.new.names c.join.ensures.names c.requires.different c.distinct.ensures c.args.definition c.args.certificate c.in_ok-program.program
    c.in_ok-program.ensures.joined c.in_ok-program.ensures.words c.joined_files_are_programs.ensures.joined c.requires.read

pub explicit-requires-clause-goal : goal.explicit-requires-clause-goal
explicit-requires-clause-goal c = formula-grown c.args.names.now c.join.new.names c.join.ensures.names c.args.problem.now.goal c.requires.named

pub explicit-requires-clause-logic : goal.explicit-requires-clause-logic
explicit-requires-clause-logic c =
    same-logic c.args.names.now c.join.new.names c.join.ensures.names c.requires.different c.distinct.ensures c.args.definition c.args.certificate c.in_ok-program.program
    c.in_ok-program.ensures.joined c.in_ok-program.ensures.words c.args.problem.now.logic c.requires.logic c.requires.read

pub returns-in-Verdict : goal.returns-in-Verdict
returns-in-Verdict c =
    found-answered c.args.names.now c.join.new.names c.join.ensures.names c.requires.different c.distinct.ensures c.args.definition c.args.certificate c.in_ok-program.program
    c.in_ok-program.ensures.joined c.in_ok-program.ensures.words c.args.problem.now.goal c.requires.closed c.requires.lkf c.args.wanted c.args.budget _ c.in-Verdict.is c.verdict.result (c.verdict.ensures c.join.new.names)

pub returns : goal.returns
returns c =
    found-answered c.args.names.now c.join.new.names c.join.ensures.names c.requires.different c.distinct.ensures c.args.definition c.args.certificate c.in_ok-program.program
    c.in_ok-program.ensures.joined c.in_ok-program.ensures.words c.args.problem.now.goal c.requires.closed c.requires.lkf c.args.wanted c.args.budget _ c.in-Explicit.is c.explicit.result c.explicit.ensures
