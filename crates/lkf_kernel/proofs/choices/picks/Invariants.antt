use Rattle.std.proofs.Common.{◌≡◌, ◌++◌, drop}
use Rattle.polarised_formulas.specs.declared.step.Step.TheVariants.{Decide}
use Rattle.search_model.specs.GoalItems.{lists_in}
use Rattle.search_model.specs.Lines.{at_places, at_place}
use Rattle.lkf_kernel.specs.Lkf.{is_positive, picks}
use Rattle.lkf_kernel.specs.declared.sequent.Sequent.TheVariants.{Down}
use Rattle.lkf_kernel.proofs.choices.picks.Given as goal

abbrev pub invariant-loop-place : goal.invariant-loop-place
invariant-loop-place l =
    lists_in l.lists
    ++ at_places is_positive (λ j i. at_place l.certificate l.index i.index (Decide j) l.level (Down l.stored i.formula))
    l.place (drop l.place l.stored)
    ≡ picks l.certificate l.level l.index l.stored
