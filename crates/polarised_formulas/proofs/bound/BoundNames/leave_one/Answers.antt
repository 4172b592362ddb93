use Rattle.std.proofs.Common.{◌≡◌, ◌++◌, ◌∷◌, [], map, reverse, is_some, ap, arith, ◌∙◌}
use Rattle.polarised_formulas.proofs.DepthFacts.{Depths-pop, depth_in-head, turned-push}
use Rattle.polarised_formulas.proofs.bound.BoundNames.leave_one.Goals as goal

pub uncover-requires : goal.uncover-requires
uncover-requires c =
    let popped : c.self.inside.levels.items ≡ c.pop.new.self.items ++ c.in-Some.level ∷ [] = grind arith in
    let texts = turned-push (λ x. x.text.now) c.pop.new.self.items c.self.inside.levels.items _ popped in
    let e = rw texts at (c.self.invariant.innermost c.in-Some.level.text.now) in
    let head = depth_in-head c.in-Some.level.text.now (reverse (map (λ x. x.text.now) c.pop.new.self.items)) in
    ap is_some (e ∙ head)

pub invariant_of-self : goal.invariant_of-self
invariant_of-self c =
    let popped : c.self.inside.levels.items ≡ c.pop.new.self.items ++ c.in-Some.level ∷ [] = grind arith in
    let texts = turned-push (λ x. x.text.now) c.pop.new.self.items c.self.inside.levels.items _ popped in
    let covered = turned-push (λ x. x.covered) c.pop.new.self.items c.self.inside.levels.items _ popped in
    let old = rw (texts, covered) at c.self.invariant in
    Depths-pop c.self.inside.depths c.uncover.new.depths _ _ c.in-Some.level.text.now c.in-Some.level.covered old c.uncover.ensures
