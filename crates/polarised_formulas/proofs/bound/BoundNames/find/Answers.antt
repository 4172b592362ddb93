use Rattle.std.proofs.lemmas.Grind.{common_steps}
use Rattle.std.proofs.Common.{◌≡◌, ◌<◌, Some, length, map, reverse, sym, ◌∙◌, arith}
use Rattle.std.proofs.lemmas.List.{length-map, length-reverse}
use Rattle.polarised_formulas.specs.BoundDepths.{depth_in}
use Rattle.polarised_formulas.proofs.DepthFacts.{place_in-unbound, place_in-bound, depth-below}
use Rattle.polarised_formulas.proofs.bound.BoundNames.find.Goals as goal

module _ (c : goal.After-len) where
  found : Some c.in_ok-depth.depth ≡ depth_in (reverse (map (λ x. x.text.now) c.self.inside.levels.items)) c.args.text.now
  found = sym c.in_ok-depth.was ∙ c.copied.ensures ∙ c.get.ensures.value ∙ c.self.invariant.innermost c.args.text.now

  counted : c.len.result ≡ length (reverse (map (λ x. x.text.now) c.self.inside.levels.items))
  counted = grind (arith, common_steps, length-map c.self.inside.levels.items (λ x. x.text.now), length-reverse (map (λ x. x.text.now) c.self.inside.levels.items))

  below : c.in_ok-depth.depth < c.len.result
  below = rw counted (depth-below _ _ _ found)

pub returns-in_err-depth : goal.returns-in_err-depth
returns-in_err-depth c =
    let unbound = sym c.in_err-depth.was ∙ c.copied.ensures ∙ c.get.ensures.value ∙ c.self.invariant.innermost c.args.text.now in
    rw (← c.self.view_is) (c.from_residual.ensures ∙ place_in-unbound (reverse (map (λ x. x.text.now) c.self.inside.levels.items)) c.args.text.now unbound)

pub overflow_sub-result : goal.overflow_sub-result
overflow_sub-result c = omega (arith, below c)

pub overflow_sub-result-2 : goal.overflow_sub-result-2
overflow_sub-result-2 c = omega (arith, below c)

pub returns : goal.returns
returns c = rw (counted c, ← c.self.view_is) (place_in-bound _ _ _ (found c))
