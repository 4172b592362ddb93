use Rattle.std.proofs.lemmas.Grind.{common_steps}
use Rattle.std.proofs.Common.{arith, ◌≡◌, ◌<◌, refl, length}
use Rattle.fpc_terms.specs.Partial.{opened, innermost, IsPartial}
use Rattle.fpc_terms.proofs.BuilderFacts.{IsPartial-at, Is-opened, IsCount-from, invariant-from_IsPartial}
use Rattle.fpc_terms.proofs.builder.TermBuilder.open_application.Goals as goal

-- what the fields are at the end
done : (c : goal.After-self-1) → IsPartial c.push-2.new.self.items c.push.new.self c.self.inside.whole (opened c.args.name c.args.self.now.base c.args.self.now.frames)
done c =
    let h = IsPartial-at c.self.inside.cells.items c.self.inside.places c.self.inside.whole c.args.self.now c.self.invariant.0 c.self.view_is in
    let few : innermost c.args.self.now.base c.args.self.now.frames < 255 = c.if-not-has_room.ensures.0 refl in
    let h2 = Is-opened c.args.name c.self.inside.cells.items c.self.inside.places c.self.inside.whole c.args.self.now.base c.args.self.now.frames h few in
    let place : c.len-place.result ≡ length c.self.inside.cells.items = grind (arith, common_steps) in
    rw (c.in_ok-push-2.ensures.items, c.in_ok-push.ensures.ok, c.reserve.ensures.items, place) h2

pub invariant_of-self-2 : goal.invariant_of-self-2
invariant_of-self-2 c = (invariant-from_IsPartial _ _ _ _ (done c), IsCount-from _ _ _ _ _ (done c) refl)
