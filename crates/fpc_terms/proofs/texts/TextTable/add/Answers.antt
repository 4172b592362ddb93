use Rattle.std.proofs.lemmas.Grind.{common_steps}
use Rattle.std.proofs.Common.{◌≡◌, arith, map, ◌++◌, ◌∷◌, [], length, sym, ◌∙◌, List, ℕ, ◌<◌, ◌^◌}
use Rattle.std.proofs.lemmas.List.{length-map}
use Rattle.fpc_terms.proofs.Interning.{Numbers-insert, texts-push}
use Rattle.fpc_terms.proofs.Places.{absent-from_is_one_of, index_in-push}
use Rattle.fpc_terms.proofs.texts.TextTable.add.Goals as goal

pub invariant_of-self-2 : goal.invariant_of-self-2
invariant_of-self-2 c =
    let key : c.in_ok-key.key.items ≡ c.args.text.now = c.in_ok-key.ensures.items_if_clones_equal (λ x y e. e) in
    let texts : List (List ℕ) = map (λ text. text.items) c.self.inside.texts.items in
    let after : map (λ text. text.items) c.push.new.self.items ≡ texts ++ c.args.text.now ∷ [] = texts-push c.self.inside.texts.items c.push.new.self.items c.in_ok-kept.kept _ (grind arith) (c.in_ok-kept.ensures.items_if_clones_equal (λ x y e. e)) in
    let place : c.len-place.result ≡ length texts = grind (arith, common_steps, length-map c.self.inside.texts.items (λ text. text.items)) in
    let few : length texts < 2 ^ 32 = c.self.invariant.few in
    rw after (Numbers-insert c.self.inside.numbers c.insert.new.self texts c.args.text.now c.in_ok-key.key.items c.len-place.result c.self.invariant (absent-from_is_one_of _ _ (rw c.self.view_is c.requires)) (omega arith) key place c.in_ok-insert.ensures.updates)

pub returns-clause-number : goal.returns-clause-number
returns-clause-number c =
    let texts : List (List ℕ) = map (λ text. text.items) c.self.inside.texts.items in
    let after : map (λ text. text.items) c.push.new.self.items ≡ texts ++ c.args.text.now ∷ [] = texts-push c.self.inside.texts.items c.push.new.self.items c.in_ok-kept.kept _ (grind arith) (c.in_ok-kept.ensures.items_if_clones_equal (λ x y e. e)) in
    let place : c.len-place.result ≡ length texts = grind (arith, common_steps, length-map c.self.inside.texts.items (λ text. text.items)) in
    rw after (place ∙ sym (index_in-push texts c.args.text.now (rw c.self.view_is c.requires)))
