use Rattle.explicit_form.proofs.Tables.{steps_are_read, lines_in_table, steps_outcome, step_grows}
use Rattle.explicit_form.proofs.laws_of_tables.Goals as goal

pub returns-clause-read : goal.returns-clause-read
returns-clause-read c = steps_are_read

pub returns-clause-lines : goal.returns-clause-lines
returns-clause-lines c = lines_in_table

pub returns-clause-outcome : goal.returns-clause-outcome
returns-clause-outcome c = steps_outcome

pub returns-clause-grown : goal.returns-clause-grown
returns-clause-grown c = step_grows
