-- What the outcome of the search means for a goal of LKF.
use Rattle.std.proofs.Common.{◌≡◌, Result, Ok, Err, IfOk}
use Rattle.fpc_base.specs.declared.outside.OutOfMemory.{OutOfMemory}
use Rattle.polarised_formulas.specs.Formula.{Formula}
use Rattle.polarised_formulas.specs.declared.logic.Logic.TheVariants.{Lkf}
use Rattle.clause_language.specs.Program.{IsOpenProgram}
use Rattle.clause_language.specs.declared.program.Program.{Program}
use Rattle.search_model.specs.Checking.{IsOutcomeRight}
use Rattle.search_model.specs.declared.plain.Outcome.{Outcome}
use Rattle.search_model.specs.declared.plain.Outcome.TheVariants.{Accepted, Rejected, Spent}
use Rattle.lkf_kernel.specs.Erasure.{GuidedIsSpelling}
use Rattle.lkf_kernel.specs.Guided.{IsGuided, lkf_table}
use Rattle.elaborator.specs.Check.{IsRight}

module _ (law : GuidedIsSpelling) (p : Program) (is_open : IsOpenProgram p) (lkf : p.logic ≡ Lkf) (goal : Formula) where
  -- a completed root is a guided derivation, and it is spelled
  right : (end : Outcome) → IsOutcomeRight (lkf_table p) p goal end → IsRight p goal end
  right (Accepted trace units) h =
      let guided : IsGuided p goal trace = record { closing = h.closing; ground = h.ground; guided = h.completed } in
      let spelled = law p goal trace guided is_open lkf in
      record { guided = guided; spelling = spelled.0; erasure = spelled.1 }
  right (Rejected units) h = λ steps g. h steps (record { closing = g.closing; ground = g.ground; completed = g.guided })
  right Spent h = tt

  -- so of an outcome that was found
  pub right-where-ok : (r : Result Outcome OutOfMemory) → IfOk r (IsOutcomeRight (lkf_table p) p goal) → IfOk r (IsRight p goal)
  right-where-ok (Ok end) h = right end h
  right-where-ok (Err e) h = tt
