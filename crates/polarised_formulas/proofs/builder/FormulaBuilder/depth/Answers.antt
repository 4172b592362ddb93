use Rattle.std.proofs.Common.{length, ap, ◌∙◌, refl}
use Rattle.polarised_formulas.specs.Unfinished.{holes_in}
use Rattle.polarised_formulas.proofs.UnfinishedFacts.{IsOf-now, around-from_IsOf, length-around_of}
use Rattle.polarised_formulas.proofs.builder.FormulaBuilder.depth.Goals as goal

pub returns : goal.returns
returns c =
    let h = IsOf-now c.self.inside.nodes.items c.self.inside.around c.self.inside.is_whole c.self.inside.is_whole c.args.self.now c.self.invariant c.self.view_is refl in
    c.len.ensures ∙ ap length (around-from_IsOf c.self.inside.nodes.items c.self.inside.around c.self.inside.is_whole c.args.self.now h) ∙ length-around_of (holes_in c.args.self.now)
