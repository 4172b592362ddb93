-- What is read of definition and certificate files, and how they are refused.
use Rattle.std.specs.Prelude.{◌≡◌, ℕ, List, [], ◌∷◌, map, Option, Result, Ok, Err}
use Rattle.fpc_base.specs.declared.refusal.Code.{Code}
use Rattle.fpc_base.specs.declared.refusal.Refusal.{Refusal}
use Rattle.fpc_base.specs.declared.refusal.ParseRefusal.{ParseRefusal}
use Rattle.fpc_base.specs.declared.refusal.ParseRefusal.TheVariants as parse
use Rattle.fpc_base.specs.Lexeme.{Item, says, fault}
use Rattle.fpc_base.specs.Reading.{ReadsAll, RefusesAll}
use Rattle.fpc_terms.specs.Name.{Agrees}
use Rattle.fpc_terms.specs.Text.{name_in}
use Rattle.polarised_formulas.specs.declared.logic.Logic.{Logic}
use Rattle.clause_language.specs.declared.certificate.Certificate.{Certificate}
use Rattle.clause_language.specs.declared.declaration.DeclaredFormula.{DeclaredFormula}
use Rattle.clause_language.specs.declared.definition.Definition.{Definition}
use Rattle.clause_language.specs.declared.file.FileKind.{FileKind}
use Rattle.clause_language.specs.declared.file.FileReader.{FileReader}
use Rattle.clause_language.specs.Written.{WrittenDefinition, WrittenCertificate, IsDefinition, IsCertificate}
use Rattle.clause_language.specs.Limits.{DefinitionLimits, CertificateLimits}
use Rattle.clause_language.specs.Meant.{definition_meant, certificate_meant}
use Rattle.clause_language.specs.FileMachine.{FileState, start, limited}
use Rattle.clause_language.specs.HoldingFile.{HoldsFile}

-- The items are those of a definition, to the end, that means this one. A logic may be expected.
pub record DefinitionIsRead (expected : Option Logic) (items : List Item) (names : List (List ℕ)) (d : Definition) : Type 0 where
  pub written : WrittenDefinition
  pub reads : ReadsAll IsDefinition (DefinitionLimits expected) [] items written
  pub meant : (number : List ℕ → ℕ) → Agrees number names → d ≡ definition_meant number written

-- a refusal of the definition in a file of n bytes; or memory ran out
abbrev pub IsDefinitionRefusal : Option Logic → List Item → ℕ → ParseRefusal → Type 0
IsDefinitionRefusal expected items n (parse.Refused r) = RefusesAll IsDefinition (DefinitionLimits expected) n [] items r
IsDefinitionRefusal expected items n parse.OutOfMemory = Unit {0}

-- The items are those of a certificate, to the end, that means this one. A logic may be expected, and formulas of earlier names are declared.
pub record CertificateIsRead (expected : Option Logic) (earlier : List (List ℕ)) (items : List Item) (names : List (List ℕ)) (c : Certificate) : Type 0 where
  pub written : WrittenCertificate
  pub reads : ReadsAll IsCertificate (CertificateLimits expected earlier) [] items written
  pub meant : (number : List ℕ → ℕ) → Agrees number names → c ≡ certificate_meant number written

-- a refusal of the certificate in a file of n bytes; or memory ran out
abbrev pub IsCertificateRefusal : Option Logic → List (List ℕ) → List Item → ℕ → ParseRefusal → Type 0
IsCertificateRefusal expected earlier items n (parse.Refused r) = RefusesAll IsCertificate (CertificateLimits expected earlier) n [] items r
IsCertificateRefusal expected earlier items n parse.OutOfMemory = Unit {0}

-- the names of declared formulas, in order
abbrev pub names_of : List (List ℕ) → List DeclaredFormula → List (List ℕ)
names_of names ds = map (λ (d : DeclaredFormula). name_in names d.name) ds

-- what follows from the next state, or the refusal of a token at a place
abbrev pub answered : (at : ℕ) → Result FileState Code → (FileState → Result FileState Refusal) → Result FileState Refusal
answered at (Ok s) next = next s
answered at (Err code) next = Err (record { code = code; at = at })

-- the state that the machine reaches along items, or the first refusal
abbrev pub read_items : FileKind → Option Logic → List (List ℕ) → FileState → List Item → Result FileState Refusal
read_items kind expected earlier s [] = Ok s
read_items kind expected earlier s (says c at ∷ items) = answered at (limited kind expected earlier s c) (λ t. read_items kind expected earlier t items)
read_items kind expected earlier s (fault r ∷ items) = Err r

-- the reader holds the state that the machine reaches at the end of the items
pub record FileIsRead (kind : FileKind) (expected : Option Logic) (earlier : List (List ℕ)) (items : List Item) (names : List (List ℕ)) (r : FileReader) : Type 0 where
  pub state : FileState
  pub reached : read_items kind expected earlier start items ≡ Ok state
  pub holds : HoldsFile names kind expected earlier state r

-- the machine's first refusal along the items; or memory ran out
abbrev pub IsFileRefusal : FileKind → Option Logic → List (List ℕ) → List Item → ParseRefusal → Type 0
IsFileRefusal kind expected earlier items (parse.Refused r) = read_items kind expected earlier start items ≡ Err r
IsFileRefusal kind expected earlier items parse.OutOfMemory = Unit {0}
