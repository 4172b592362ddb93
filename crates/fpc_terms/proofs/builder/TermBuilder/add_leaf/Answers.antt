use Rattle.std.proofs.Common.{◌<◌, ◌≡◌, ◌∙◌, ap, ◌+◌, sym, refl, arith}
use Rattle.fpc_terms.specs.Partial.{with_term, leaf_term, innermost, IsPartial, IsCount}
use Rattle.fpc_terms.proofs.BuilderFacts.{IsPartial-at, IsCount-at, IsCount-from, IsBefore-leaf, innermost-with_term, value-from_IsPartial, invariant-from_IsPartial}
use Rattle.fpc_terms.proofs.builder.TermBuilder.add_leaf.Goals as goal

counted_before : (c : goal.After-self-1) → c.self.inside.innermost ≡ innermost c.args.self.now.base c.args.self.now.frames
counted_before c = IsCount-at c.self.inside.cells.items c.self.inside.places c.self.inside.innermost c.args.self.now c.self.invariant.1 c.self.view_is

-- what the fields are at the end
added : (c : goal.After-self-1) → IsPartial c.count_term.new.cells.items c.self.inside.places c.count_term.new.whole (with_term (leaf_term c.args.cell) c.args.self.now.base c.args.self.now.frames)
added c =
    let h = IsPartial-at c.self.inside.cells.items c.self.inside.places c.self.inside.whole c.args.self.now c.self.invariant.0 c.self.view_is in
    let few : innermost c.args.self.now.base c.args.self.now.frames < 255 = rw (← counted_before c) (let f = c.if-self-ge255.false in omega arith) in
    let leaf = IsBefore-leaf (leaf_term c.args.cell) c.args.cell c.self.inside.cells.items c.self.inside.places c.self.inside.whole c.args.self.now.base c.args.self.now.frames h few c.requires in
    c.count_term.ensures (leaf_term c.args.cell) c.args.self.now.base c.args.self.now.frames (rw c.in_ok-push.ensures.items leaf)

counted : (c : goal.After-self-1) → IsCount (c.self.inside.innermost + 1) (with_term (leaf_term c.args.cell) c.args.self.now.base c.args.self.now.frames)
counted c = ap (λ n. n + 1) (counted_before c) ∙ sym (innermost-with_term (leaf_term c.args.cell) c.args.self.now.base c.args.self.now.frames)

pub invariant_of-self-2 : goal.invariant_of-self-2
invariant_of-self-2 c = (invariant-from_IsPartial _ _ _ _ (added c), IsCount-from _ _ _ _ _ (added c) (counted c))

pub returns-clause-done : goal.returns-clause-done
returns-clause-done c = λ _. value-from_IsPartial _ _ c.count_term.new.whole _ (added c)
