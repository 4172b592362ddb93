use Rattle.clause_language.specs.Program.{words}
use Rattle.clause_language.proofs.Words.{HaveFirst}
use Rattle.clause_language.proofs.word_ids.intern_words.Given as goal

abbrev pub invariant-loop-k : goal.invariant-loop-k
invariant-loop-k l = HaveFirst words l.fn.names l.names l.ids l.k
