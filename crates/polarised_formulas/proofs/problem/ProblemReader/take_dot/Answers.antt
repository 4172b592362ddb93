use Rattle.std.proofs.Common.{refl}
use Rattle.polarised_formulas.proofs.ProblemFacts.{refuses-dot, takes-dot}
use Rattle.polarised_formulas.proofs.problem.ProblemReader.take_dot.Goals as goal

pub returns-then-not-is_whole : goal.returns-then-not-is_whole
returns-then-not-is_whole c = λ s h m. refuses-dot c.args.names.now s c.args.self.now c.is_whole.result c.args.logic c.distinct.ensures h m c.if-not-is_whole.true c.is_whole.ensures

pub returns : goal.returns
returns c = λ s h m. takes-dot c.args.names.now s c.args.self.now _ c.is_whole.result c.args.logic c.distinct.ensures h m c.if-not-is_whole.false c.is_whole.ensures refl
