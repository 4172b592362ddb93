-- What is checked twice, each time by a table of its own, has one outcome.
use Rattle.std.proofs.Common.{Some}
use Rattle.polarised_formulas.specs.declared.logic.Logic.TheVariants.{Lkf}
use Rattle.search_model.specs.Same.{AreOneName, SameProgram}
use Rattle.search_model.proofs.SameChecks.{outcome-same}
use Rattle.search_model.proofs.SameNames.{one_to_one}
use Rattle.search_model.proofs.SameReadings.{program-same, goal-same}
use Rattle.lkf_kernel.proofs.ByNames.{SameSequent, lkf_tables_same}
use Rattle.lkf_kernel.specs.Guided.{lkf_table}
use Rattle.elaborator.specs.OneOutcome.{CheckedOnce}

pub checked_once : CheckedOnce
checked_once problem definition certificate budget names others r s h k =
    let one = one_to_one names others h.different k.different in
    let programs : SameProgram (AreOneName names others) h.program k.program =
    program-same names others h.different k.different (Some Lkf) (Some Lkf) definition certificate h.meaning k.meaning h.definition_read k.definition_read h.given k.given
    h.certificate_read k.certificate_read h.program k.program h.joined k.joined h.words k.words in
    outcome-same one (lkf_table h.program) (lkf_table k.program) (SameSequent (AreOneName names others)) (lkf_tables_same one h.program k.program programs) h.program k.program programs
    h.goal k.goal (goal-same names others h.different k.different problem Lkf Lkf h.goal k.goal h.goal_read k.goal_read) budget r s h.is_outcome k.is_outcome
