-- Explicit certificates of LKF: those of any calculus, at the premises that steps name in LKF.
use Rattle.std.specs.Prelude.{ℕ, List}
use Rattle.polarised_formulas.specs.declared.step.Step.{Step}
use Rattle.polarised_formulas.specs.Formula.{Formula}
use Rattle.polarised_formulas.specs.Calculus.Certificate.{Certificate as CertificateOf, Spells as SpellsIn, IsSpelling as IsSpellingIn}
pub use Rattle.polarised_formulas.specs.Calculus.Certificate.{Certificate, Certificates, by, no_certificates, certificate, steps_before, all_steps_before, preorder_of}
use Rattle.lkf_rules.specs.Lkf.{lkf}
use Rattle.lkf_rules.specs.Derivation.{Tree}

-- the certificate spells the tree at a level
abbrev pub Spells : CertificateOf → Tree → ℕ → Type 0
Spells c t n = SpellsIn lkf c t n

-- the steps are the preorder of a certificate that spells a derivation of the goal
abbrev pub IsSpelling : Formula → List Step → Type 0
IsSpelling f steps = IsSpellingIn lkf f steps
