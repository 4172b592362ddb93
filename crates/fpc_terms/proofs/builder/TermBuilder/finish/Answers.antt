use Rattle.std.proofs.Common.{refl}
use Rattle.fpc_terms.proofs.BuilderFacts.{IsOneTerm-only}
use Rattle.fpc_terms.proofs.builder.TermBuilder.finish.Goals as goal

pub from_cells-requires : goal.from_cells-requires
from_cells-requires c =
    let closed = rw (← c.self.view_is) at c.if-not-is_closed.ensures.0 in
    let h = IsOneTerm-only c.self.inside.cells.items c.self.inside.places c.self.inside.whole _ _ c.self.invariant.0 c.if-self-ne1.false (closed refl) in
    rw c.as_slice.ensures.value h.0

pub returns-in-Ok : goal.returns-in-Ok
returns-in-Ok c =
    let closed = rw (← c.self.view_is) at c.if-not-is_closed.ensures.0 in
    let h = IsOneTerm-only c.self.inside.cells.items c.self.inside.places c.self.inside.whole _ _ c.self.invariant.0 c.if-self-ne1.false (closed refl) in
    rw (← c.self.view_is, h.1, c.in-Ok.ensures, c.as_slice.ensures.value) refl
