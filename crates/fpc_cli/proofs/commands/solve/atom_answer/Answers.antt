use Rattle.fpc_cli.proofs.commands.SolveFacts.{atom-answered}
use Rattle.fpc_cli.proofs.commands.solve.atom_answer.Goals as goal

pub returns-in-Ok-search_answer : goal.returns-in-Ok-search_answer
returns-in-Ok-search_answer c = λ bytes read.
    atom-answered c.args.budget bytes c.args.word.now c.as_bytes.result.now c.as_bytes.ensures.value c.args.names.now c.read_atom.new.names c.search_answer.new.names
    c.in-Ok.ensures.names c.in-Ok-search_answer.ensures.names c.in-Ok-search_answer.ensures.different c.args.definition read c.in-Ok.atom c.in-Ok.variables
    (λ large. let never = c.in-Ok.ensures.large large in cc) c.in-Ok.ensures.read c.in-Ok-search_answer.answer c.in-Ok-search_answer.ensures.answer
