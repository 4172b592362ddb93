use Rattle.std.proofs.Common.{arith, ◌≤◌, length, reverse}
use Rattle.std.proofs.lemmas.Grind.{common_steps}
use Rattle.std.proofs.lemmas.List.{length-reverse}
use Rattle.polarised_formulas.specs.Unfinished.{count_unders}
use Rattle.polarised_formulas.proofs.UnfinishedFacts.{count_unders-few}
use Rattle.polarised_formulas.proofs.builder.Surroundings.push.Goals as goal

pub overflow_add-self : goal.overflow_add-self
overflow_add-self c =
    let few : count_unders (reverse c.self.inside.items.items) ≤ length (reverse c.self.inside.items.items) = count_unders-few _ in
    let same = length-reverse c.self.inside.items.items in
    grind (arith, common_steps)
