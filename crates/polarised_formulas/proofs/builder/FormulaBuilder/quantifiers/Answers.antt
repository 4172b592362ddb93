use Rattle.std.proofs.Common.{ap, ◌∙◌, refl}
use Rattle.polarised_formulas.specs.Unfinished.{holes_in, count_unders}
use Rattle.polarised_formulas.proofs.UnfinishedFacts.{IsOf-now, around-from_IsOf, count_unders-around_of}
use Rattle.polarised_formulas.proofs.builder.FormulaBuilder.quantifiers.Goals as goal

pub returns : goal.returns
returns c =
    let h = IsOf-now c.self.inside.nodes.items c.self.inside.around c.self.inside.is_whole c.self.inside.is_whole c.args.self.now c.self.invariant c.self.view_is refl in
    c.quantifiers.ensures ∙ ap count_unders (around-from_IsOf c.self.inside.nodes.items c.self.inside.around c.self.inside.is_whole c.args.self.now h) ∙ count_unders-around_of (holes_in c.args.self.now)
