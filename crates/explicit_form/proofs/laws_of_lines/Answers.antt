use Rattle.explicit_form.proofs.LineEnds.{lines_are_read}
use Rattle.explicit_form.proofs.laws_of_lines.Goals as goal

pub returns-clause-read : goal.returns-clause-read
returns-clause-read c = lines_are_read
