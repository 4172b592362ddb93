use Rattle.std.proofs.lemmas.Grind.{common_steps}
use Rattle.std.proofs.Common.{◌≡◌, ◌++◌, ◌∷◌, [], ◌+◌, ◌<◌, ◌^◌, List, ℕ, length, map, reverse, arith}
use Rattle.std.proofs.lemmas.List.{length-map, length-reverse}
use Rattle.polarised_formulas.proofs.DepthFacts.{Depths-push, turned-push}
use Rattle.polarised_formulas.proofs.bound.BoundNames.push.Goals as goal

pub invariant_of-self-2 : goal.invariant_of-self-2
invariant_of-self-2 c =
    let items = c.self.inside.levels.items in
    let texts : List (List ℕ) = reverse (map (λ x. x.text.now) items) in
    let pushed : c.push.new.self.items ≡ items ++ (record { text = c.args.text; covered = c.in_ok-covered.covered }) ∷ [] = grind arith in
    let count : c.len-depth.result ≡ length texts = grind (arith, common_steps, length-map items (λ x. x.text.now), length-reverse (map (λ x. x.text.now) items)) in
    let few : length texts < 2 ^ 32 = c.self.invariant.few in
    let room : length texts + 1 < 2 ^ 32 = omega arith in
    let had = c.in_ok-covered.ensures.old in
    let updates = c.in_ok-covered.ensures.updates in
    let depths = Depths-push c.self.inside.depths c.insert.new.self texts _ c.args.text.now c.len-depth.result c.in_ok-covered.covered c.self.invariant room count had updates in
    rw (turned-push (λ x. x.text.now) items c.push.new.self.items _ pushed, turned-push (λ x. x.covered) items c.push.new.self.items _ pushed) depths
