use Rattle.std.proofs.Common.{◌≡◌, ◌∙◌, sym, ap, map, Some, List, ℕ, refl, length}
use Rattle.std.specs.List.{slice_get}
use Rattle.std.specs.Cmp.Lexicographic.{bytes_decides}
use Rattle.std.proofs.lemmas.Option.{slice_get-map, slice_get_read}
use Rattle.fpc_terms.proofs.Interning.{number_of-place_in}
use Rattle.fpc_terms.proofs.texts.TextTable.hinted.Goals as goal

pub returns-then-eq : goal.returns-then-eq
returns-then-eq c =
    let texts : List (List ℕ) = map (λ text. text.items) c.self.inside.texts.items in
    let kept : slice_get c.deref.result.now c.in_ok-place.place ≡ Some c.in-Some.kept.now = slice_get_read c.deref.result.now (length c.deref.result.now) c.in_ok-place.place c.in-Some.kept.now refl c.in-Some.ensures.lookup.3.0 c.in-Some.ensures.lookup.1 in
    let same : c.in-Some.kept.now.items ≡ c.args.text.now = sym c.as_slice.ensures.value ∙ (bytes_decides c.as_slice.result.now c.args.text.now).0 (sym c.if-eq.ensures) in
    let got : slice_get texts c.in_ok-place.place ≡ Some c.args.text.now = rw (slice_get-map, ← c.deref.ensures.value, kept) (ap Some same) in
    rw (← c.self.view_is) (sym (number_of-place_in c.self.inside.numbers texts c.self.invariant c.args.text.now) ∙ (c.self.invariant.places c.in_ok-place.place c.args.text.now).1 got)
