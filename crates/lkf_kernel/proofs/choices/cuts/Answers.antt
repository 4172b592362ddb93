use Rattle.std.proofs.Common.{◌≡◌, ◌<◌, ◌∷◌, [], Some, length, slice_get, refl, sym, subst, ap, ◌∙◌, arith}
use Rattle.std.specs.List.{All}
use Rattle.std.proofs.lemmas.Option.{slice_get_read}
use Rattle.clause_language.specs.declared.declaration.DeclaredFormula.{DeclaredFormula}
use Rattle.fpc_terms.specs.Open.{later}
use Rattle.polarised_formulas.specs.Formula.{dual_of, IsLkf}
use Rattle.search_model.specs.GoalItems.{list_in, lists_in}
use Rattle.search_model.specs.Lines.{cut_of}
use Rattle.lkf_kernel.specs.declared.sequent.Sequent.TheVariants.{Up}
use Rattle.lkf_kernel.proofs.CutFacts.{lkf_put}
use Rattle.lkf_kernel.proofs.CutLists.{mapped_on, cut_line}
use Rattle.lkf_kernel.proofs.choices.cuts.Goals as goal

pub dual-requires : goal.dual-requires
dual-requires c =
    let within : c.loop-declared.declared-index < length c.args.program.now.declared = rw c.items-declared-items.ensures at c.loop-declared-test.true in
    let item = rw c.items-declared-items.ensures at c.declared-item.is in
    rw c.in_ok-cut.ensures (lkf_put (later c.args.fresh) c.declared-item.result.formula
    (subst (λ (d : DeclaredFormula). IsLkf d.formula) (sym item) (c.requires.logic c.loop-declared.declared-index c.declared-item.result within)))

pub loop-declared-preserved : goal.loop-declared-preserved
loop-declared-preserved c =
    let within : c.loop-declared.declared-index < length c.args.program.now.declared = rw c.items-declared-items.ensures at c.loop-declared-test.true in
    let item = rw c.items-declared-items.ensures at c.declared-item.is in
    let at = slice_get_read c.args.program.now.declared (length c.args.program.now.declared) c.loop-declared.declared-index c.declared-item.result refl within item in
    mapped_on (cut_of c.args.left.now c.args.right.now c.args.formula.now c.args.level c.args.fresh (λ f. Up c.args.stored.now (f ∷ [])) (λ f. Up c.args.stored.now (dual_of f ∷ [])))
    c.args.program.now.declared c.loop-declared.declared-index c.declared-item.result
    (lists_in c.loop-declared.lists) (lists_in c.push.new.self) (list_in c.in_ok-cut_of.field-0)
    at c.loop-declared.invariant
    (c.in_ok-cut_of.ensures
    ∙ cut_line c.args.left.now c.args.right.now c.args.formula.now c.args.level c.args.fresh c.args.stored.now c.declared-item.result c.in_ok-first.first c.in_ok-second.second
    (c.in_ok-first.ensures ∙ ap (λ f. Up c.args.stored.now (f ∷ [])) (c.in_ok-copy.ensures ∙ c.in_ok-cut.ensures))
    (c.in_ok-second.ensures ∙ ap (λ f. Up c.args.stored.now (f ∷ [])) (c.in_ok-dual.ensures ∙ ap dual_of c.in_ok-cut.ensures)))
    c.in_ok-push.ensures.ok
