use Rattle.explicit_form.proofs.Feeding.{nothing_given, feeding_gives, end_is_whole, lines_are_taken, told_is_refused, end_is_refused}
use Rattle.explicit_form.proofs.laws_of_feeding.Goals as goal

pub returns-clause-begins : goal.returns-clause-begins
returns-clause-begins c = nothing_given

pub returns-clause-gives : goal.returns-clause-gives
returns-clause-gives c = feeding_gives

pub returns-clause-whole : goal.returns-clause-whole
returns-clause-whole c = end_is_whole

pub returns-clause-lines : goal.returns-clause-lines
returns-clause-lines c = lines_are_taken

pub returns-clause-told : goal.returns-clause-told
returns-clause-told c = told_is_refused

pub returns-clause-unfinished : goal.returns-clause-unfinished
returns-clause-unfinished c = end_is_refused
