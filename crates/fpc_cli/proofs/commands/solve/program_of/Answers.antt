use Rattle.fpc_cli.proofs.commands.SolveFacts.{program-of}
use Rattle.fpc_cli.proofs.commands.solve.program_of.Goals as goal

pub returns-clause-program : goal.returns-clause-program
returns-clause-program c =
    program-of c.bare_certificate.new.names c.join.new.names c.join.ensures.names c.args.definition c.in_ok-certificate.certificate c.in_ok-certificate.ensures.certificate
    c.join.result c.join.ensures.joined c.join.ensures.words

pub returns-clause-names : goal.returns-clause-names
returns-clause-names c = λ k text got. c.join.ensures.names k text (c.in_ok-certificate.ensures.names k text got)
