use Rattle.std.proofs.Common.{drop}
use Rattle.search_model.specs.TableLaws.{HaveFewParameters}
use Rattle.search_model.proofs.search.are_few.Given as goal

abbrev pub invariant-loop-one : goal.invariant-loop-one
invariant-loop-one l = HaveFewParameters (drop l.one-index l.declared) → HaveFewParameters l.declared
