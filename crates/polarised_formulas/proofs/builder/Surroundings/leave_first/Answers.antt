use Rattle.std.proofs.Common.{◌≡◌, arith, length, sym, ◌∙◌, ap, ◌-◌, Some, reverse, slice_set, slice_get}
use Rattle.std.proofs.lemmas.Grind.{common_steps}
use Rattle.polarised_formulas.specs.declared.builder.Around.TheVariants.{First, Second}
use Rattle.polarised_formulas.specs.Unfinished.{first_turned, count_unders}
use Rattle.polarised_formulas.proofs.UnfinishedFacts.{last-turned, count_unders-turned}
use Rattle.polarised_formulas.proofs.builder.Surroundings.leave_first.Goals as goal

turned : (c : goal.After-self-1) → reverse (slice_set c.self.inside.items.items (c.len-last.result - 1) (Second c.in-Some-First.place)) ≡ first_turned (reverse c.self.inside.items.items)
turned c =
    let last = rw c.deref.ensures.value at c.last.ensures.value in
    let top : slice_get c.self.inside.items.items (length c.self.inside.items.items - 1) ≡ Some (First c.in-Some-First.place) = sym last ∙ sym c.in-Some-First.ensures ∙ ap Some c.in-Some-First.field-0-is in
    let long : c.len-last.result ≡ length c.self.inside.items.items = grind (arith, common_steps) in
    last-turned c.self.inside.items.items (c.len-last.result - 1) c.in-Some-First.place top (ap (λ n. n - 1) long)

pub invariant_of-self : goal.invariant_of-self
invariant_of-self c = c.self.invariant ∙ sym (count_unders-turned (reverse c.self.inside.items.items)) ∙ sym (ap count_unders (turned c))

pub returns-in-Some-First-clause-turned : goal.returns-in-Some-First-clause-turned
returns-in-Some-First-clause-turned c = turned c ∙ ap first_turned c.self.view_is
