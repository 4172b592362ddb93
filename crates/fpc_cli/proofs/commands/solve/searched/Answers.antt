use Rattle.fpc_cli.proofs.commands.SolveFacts.{atom-grows, read-grows, is-program, end-named}
use Rattle.fpc_cli.proofs.commands.solve.searched.Goals as goal

pub plain_solve-requires-clause-program : goal.plain_solve-requires-clause-program
plain_solve-requires-clause-program c =
    is-program c.joined_files_are_programs.ensures.alone c.program_of.new.names c.distinct.ensures c.args.definition
    (read-grows c.args.names.now c.program_of.new.names c.in_ok-program.ensures.names c.args.definition c.requires.read) c.in_ok-program.program c.in_ok-program.ensures.program

pub plain_solve-requires-clause-named : goal.plain_solve-requires-clause-named
plain_solve-requires-clause-named c = atom-grows c.args.names.now c.program_of.new.names c.in_ok-program.ensures.names c.args.atom.now c.requires.named

pub returns-clause-end_named : goal.returns-clause-end_named
returns-clause-end_named c =
    end-named c.program_of.new.names c.in_ok-program.program
    (is-program c.joined_files_are_programs.ensures.alone c.program_of.new.names c.distinct.ensures c.args.definition
    (read-grows c.args.names.now c.program_of.new.names c.in_ok-program.ensures.names c.args.definition c.requires.read) c.in_ok-program.program c.in_ok-program.ensures.program)
    c.args.atom.now (atom-grows c.args.names.now c.program_of.new.names c.in_ok-program.ensures.names c.args.atom.now c.requires.named) c.args.variables c.args.budget
    c.plain_solve.result c.plain_solve.ensures.solved
