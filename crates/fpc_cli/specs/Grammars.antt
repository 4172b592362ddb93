-- The grammars of a command's inputs.
use Rattle.std.specs.Prelude.{◌≡◌, ◌⊎◌, ℕ, List, [], ◌∷◌, length, Option, Some, None}
use Rattle.fpc_base.specs.Lexeme.{Item, says, items_of}
use Rattle.fpc_base.specs.Reading.{ReadsAll, RefusesAll}
use Rattle.fpc_base.specs.declared.refusal.Code.TheVariants.{NotBuilt}
use Rattle.fpc_base.specs.declared.refusal.Refusal.{Refusal}
use Rattle.polarised_formulas.specs.declared.logic.Logic.{Logic}
use Rattle.polarised_formulas.specs.declared.logic.Logic.TheVariants.{Lkf, Ljf}
use Rattle.polarised_formulas.specs.Place.{ProblemLimits}
use Rattle.polarised_formulas.specs.Written.{WrittenFormula, WrittenProblem, IsProblem}
use Rattle.clause_language.specs.Limits.{DefinitionLimits, CertificateLimits, declared_names}
use Rattle.clause_language.specs.ReadAtom.{IsAtom, AtomLimits}
use Rattle.clause_language.specs.Written.{WrittenDefinition, WrittenCertificate, WrittenAtom, IsDefinition, IsCertificate}
use Rattle.fpc_cli.specs.declared.command.Form.{Form}
use Rattle.fpc_cli.specs.declared.command.Form.TheVariants.{Problem, Definition, Certificate}
use Rattle.fpc_cli.specs.Inputs.{Grammar}

-- the bytes are a problem of either logic, within the limits
abbrev pub IsWholeProblem : List ℕ → Type 0
IsWholeProblem bytes = (w : WrittenProblem) × ReadsAll IsProblem ProblemLimits [] (items_of bytes) w

-- the refusal of the bytes as a problem, at the first place where they go wrong
abbrev pub RefusesProblem : List ℕ → Refusal → Type 0
RefusesProblem bytes r = RefusesAll IsProblem ProblemLimits (length bytes) [] (items_of bytes) r

-- problems of either logic
abbrev pub problem : Grammar
problem = record { IsWhole = IsWholeProblem; Refuses = RefusesProblem }

-- the bytes are a problem of LKF with this formula, within the limits
abbrev pub IsProblemOf : List ℕ → WrittenFormula → Type 0
IsProblemOf bytes w =
    ReadsAll IsProblem ProblemLimits [] (items_of bytes) (record { logic = Lkf; formula = w })

-- the place of the first token
abbrev pub first_place : List Item → ℕ
first_place (says c at ∷ items) = at
first_place _ = 0

-- the bytes are a problem of LJF, and the refusal is NotBuilt at the first token
pub record IsNotBuilt (bytes : List ℕ) (refusal : Refusal) : Type 0 where
  pub written : WrittenProblem
  pub reads : ReadsAll IsProblem ProblemLimits [] (items_of bytes) written
  pub in_logic : Ljf ≡ written.logic
  pub told : refusal ≡ record { code = NotBuilt; at = first_place (items_of bytes) }

-- problems of LKF alone: one of LJF is refused
abbrev pub lkf_problem : Grammar
lkf_problem = record {
  IsWhole = λ bytes. (w : WrittenFormula) × IsProblemOf bytes w;
  Refuses = λ bytes r. RefusesProblem bytes r ⊎ IsNotBuilt bytes r;
}

-- the bytes are this definition, within the limits; a logic may be expected
abbrev pub IsDefinitionOf : Option Logic → List ℕ → WrittenDefinition → Type 0
IsDefinitionOf expected bytes w =
    ReadsAll IsDefinition (DefinitionLimits expected) [] (items_of bytes) w

-- the bytes are a definition
abbrev pub IsWholeDefinition : Option Logic → List ℕ → Type 0
IsWholeDefinition expected bytes = (w : WrittenDefinition) × IsDefinitionOf expected bytes w

-- the refusal of the bytes as a definition, at the first place where they go wrong
abbrev pub RefusesDefinition : Option Logic → List ℕ → Refusal → Type 0
RefusesDefinition expected bytes r =
    RefusesAll IsDefinition (DefinitionLimits expected) (length bytes) [] (items_of bytes) r

-- definitions, of the logic that is expected or of either one
abbrev pub definition : Option Logic → Grammar
definition expected = record {
  IsWhole = IsWholeDefinition expected;
  Refuses = RefusesDefinition expected;
}

-- the bytes are a certificate, within the limits, where formulas of earlier names are declared; a
-- logic may be expected
abbrev pub IsWholeCertificate : Option Logic → (earlier : List (List ℕ)) → List ℕ → Type 0
IsWholeCertificate expected earlier bytes =
    (w : WrittenCertificate)
    × ReadsAll IsCertificate (CertificateLimits expected earlier) [] (items_of bytes) w

-- the refusal of the bytes as such a certificate, at the first place where they go wrong
abbrev pub RefusesCertificate
    : Option Logic → (earlier : List (List ℕ)) → List ℕ → Refusal → Type 0
RefusesCertificate expected earlier bytes r =
    RefusesAll IsCertificate (CertificateLimits expected earlier) (length bytes) []
    (items_of bytes) r

-- certificates, of the logic that is expected or of either one, where formulas of earlier names are
-- declared
abbrev pub certificate : Option Logic → (earlier : List (List ℕ)) → Grammar
certificate expected earlier = record {
  IsWhole = IsWholeCertificate expected earlier;
  Refuses = RefusesCertificate expected earlier;
}

-- certificates of LKF after the definition in these bytes: the formulas that it declares are
-- earlier ones
abbrev pub certificate_after : List ℕ → Grammar
certificate_after bytes = record {
  IsWhole = λ text.
      (d : WrittenDefinition) × (IsDefinitionOf (Some Lkf) bytes d
      × IsWholeCertificate (Some Lkf) (declared_names d.items) text);
  Refuses = λ text r.
      (d : WrittenDefinition) × (IsDefinitionOf (Some Lkf) bytes d
      × RefusesCertificate (Some Lkf) (declared_names d.items) text r);
}

-- the bytes are an atom, within the limits
abbrev pub IsWholeAtom : List ℕ → Type 0
IsWholeAtom bytes = (w : WrittenAtom) × ReadsAll IsAtom AtomLimits [] (items_of bytes) w

-- the refusal of the bytes as an atom, at the first place where they go wrong
abbrev pub RefusesAtom : List ℕ → Refusal → Type 0
RefusesAtom bytes r = RefusesAll IsAtom AtomLimits (length bytes) [] (items_of bytes) r

-- atoms
abbrev pub atom : Grammar
atom = record { IsWhole = IsWholeAtom; Refuses = RefusesAtom }

-- the grammar of a form
abbrev pub grammar_of : Form → Grammar
grammar_of Problem = problem
grammar_of Definition = definition None
grammar_of Certificate = certificate None []
