use Rattle.std.proofs.Common.{refl, inl, inr}
use Rattle.fpc_cli.specs.declared.answer.Answer.TheVariants.{OutOfMemory}
use Rattle.fpc_cli.proofs.HeadlineFacts.{headline}
use Rattle.fpc_cli.proofs.run.run.Goals as goal

pub returns-in-Ok-clause-headline : goal.returns-in-Ok-clause-headline
returns-in-Ok-clause-headline g c =
    headline c.numbers.ensures c.one_outcome.ensures c.due_answers.ensures c.acceptance.ensures.spelled c.acceptance.ensures.nodes _ (record {
      found = c.answer-answer.result;
      caused = c.answer-answer.ensures.caused;
      told = c.answer-answer.result;
      is_told = inl refl;
      written = rw (c.status-code.ensures, c.as_slice.ensures.value, c.in-Ok.ensures) at c.write.ensures;
    })

pub returns-in-Err-clause-answered : goal.returns-in-Err-clause-answered
returns-in-Err-clause-answered g c = record {
  found = c.answer-answer.result;
  caused = c.answer-answer.ensures.caused;
  told = OutOfMemory;
  is_told = inr refl;
  written = rw c.status.ensures at c.write-in-Err.ensures;
}

pub returns-in-Err-clause-headline : goal.returns-in-Err-clause-headline
returns-in-Err-clause-headline g c =
    headline c.numbers.ensures c.one_outcome.ensures c.due_answers.ensures c.acceptance.ensures.spelled c.acceptance.ensures.nodes _ (record {
      found = c.answer-answer.result;
      caused = c.answer-answer.ensures.caused;
      told = OutOfMemory;
      is_told = inr refl;
      written = rw c.status.ensures at c.write-in-Err.ensures;
    })
