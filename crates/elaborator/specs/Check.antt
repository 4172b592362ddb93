-- What the answer of `check` means for a goal of LKF.
use Rattle.std.specs.Prelude.{◌≡◌, List}
use Rattle.polarised_formulas.specs.Formula.{Formula}
use Rattle.polarised_formulas.specs.declared.step.Step.{Step}
use Rattle.clause_language.specs.declared.program.Program.{Program}
use Rattle.search_model.specs.declared.plain.Outcome.{Outcome}
use Rattle.search_model.specs.declared.plain.Outcome.TheVariants.{Accepted, Rejected, Spent}
use Rattle.lkf_rules.specs.Certificate.{IsSpelling}
use Rattle.lkf_kernel.specs.Guided.{IsGuided}
use Rattle.lkf_kernel.specs.Erasure.{erased}

-- The goal has a guided derivation, under some closing of the certificate, and the steps are the
-- preorder of a certificate that spells a derivation of the goal: the guided one without levels,
-- certificates and indexes.
pub record IsJustified (p : Program) (goal : Formula) (steps : List Step) : Type 0 where
  pub guided : IsGuided p goal steps
  pub spelling : IsSpelling goal steps
  pub erasure : spelling.derivation.of ≡ erased guided.guided

-- what is accepted is justified by its steps; where the search is rejected no steps are those of a
-- guided derivation, under any closing of the certificate
abbrev pub IsRight : Program → Formula → Outcome → Type 0
IsRight p goal (Accepted trace units) = IsJustified p goal trace
IsRight p goal (Rejected units) = (steps : List Step) → ¬ (IsGuided p goal steps)
IsRight p goal Spent = Unit {0}
