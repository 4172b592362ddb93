use Rattle.std.proofs.Common.{◌≡◌, [], ◌∷◌, map, take}
use Rattle.polarised_formulas.specs.Formula.{dual_of}
use Rattle.search_model.specs.GoalItems.{lists_in}
use Rattle.search_model.specs.Lines.{cut_of}
use Rattle.lkf_kernel.specs.declared.sequent.Sequent.TheVariants.{Up}
use Rattle.lkf_kernel.proofs.choices.cuts.Given as goal

abbrev pub invariant-loop-declared : goal.invariant-loop-declared
invariant-loop-declared l =
    lists_in l.lists
    ≡ map (cut_of l.left l.right l.formula l.level l.fresh (λ f. Up l.stored (f ∷ [])) (λ f. Up l.stored (dual_of f ∷ [])))
    (take l.declared-index l.program.declared)
