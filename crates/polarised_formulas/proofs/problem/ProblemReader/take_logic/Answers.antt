use Rattle.std.proofs.Common.{sym, ◌∙◌, refl}
use Rattle.polarised_formulas.proofs.ProblemFacts.{takes-logic}
use Rattle.polarised_formulas.proofs.problem.ProblemReader.take_logic.Goals as goal

pub returns-in-Some : goal.returns-in-Some
returns-in-Some c = λ names s h m.
    rw c.in-Name.is (takes-logic names s c.in-Name.text.now c.in-Some.logic c.args.self.now _ c.turn_to.new.self h m (sym c.logic_of.ensures ∙ c.in-Some.is) c.turn_to.ensures refl)
