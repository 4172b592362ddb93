-- A definition or a certificate that was read and is printed is read back.
use Rattle.std.specs.Prelude.{◌≡◌, ℕ, ◌<◌, ◌^◌, List, [], Option}
use Rattle.fpc_base.specs.Lexeme.{Item, items_of}
use Rattle.fpc_base.specs.Reading.{ReadsAll}
use Rattle.fpc_terms.specs.Name.{Agrees, HasName}
use Rattle.polarised_formulas.specs.declared.logic.Logic.{Logic}
use Rattle.polarised_formulas.specs.EachName.{EachName}
use Rattle.clause_language.specs.declared.definition.Definition.{Definition}
use Rattle.clause_language.specs.declared.certificate.Certificate.{Certificate}
use Rattle.clause_language.specs.Written.{WrittenDefinition, WrittenCertificate, IsDefinition, IsCertificate}
use Rattle.clause_language.specs.Meant.{definition_meant, certificate_meant}
use Rattle.clause_language.specs.Text.{definition_text, certificate_text}
use Rattle.clause_language.specs.Limits.{DefinitionLimits, CertificateLimits}
use Rattle.clause_language.specs.EachName.{EachNameOfItems}
use Rattle.clause_language.specs.Printable.{IsDefinitionPrintable, IsCertificatePrintable}

-- the items are read as a definition, where a logic may be expected; its names are in the table, and with their numbers it means this one
pub record ReadsDefinitionAs (expected : Option Logic) (names : List (List ℕ)) (number : List ℕ → ℕ) (items : List Item) (d : Definition) : Type 0 where
  pub written : WrittenDefinition
  pub read : ReadsAll IsDefinition (DefinitionLimits expected) [] items written
  pub in_table : EachNameOfItems (HasName names) written.items
  pub meant : definition_meant number written ≡ d

-- the items are read as a certificate, where a logic may be expected and formulas of earlier names are declared; its names are in the table, and with
-- their numbers it means this one
pub record ReadsCertificateAs (expected : Option Logic) (earlier names : List (List ℕ)) (number : List ℕ → ℕ) (items : List Item) (c : Certificate) : Type 0 where
  pub written : WrittenCertificate
  pub read : ReadsAll IsCertificate (CertificateLimits expected earlier) [] items written
  pub in_table : EachNameOfItems (HasName names) written.items
  pub term_in_table : EachName (HasName names) written.term
  pub meant : certificate_meant number written ≡ c

-- the text of a definition within the limits is read as the definition
abbrev pub DefinitionTextIsRead : Type 0
DefinitionTextIsRead = (expected : Option Logic) (names : List (List ℕ)) (number : List ℕ → ℕ) (d : Definition) → Agrees number names
    → IsDefinitionPrintable expected names d → ReadsDefinitionAs expected names number (items_of (definition_text names d)) d

-- what was read is a definition within the limits
abbrev pub ReadDefinitionIsPrintable : Type 0
ReadDefinitionIsPrintable = (expected : Option Logic) (names : List (List ℕ)) (number : List ℕ → ℕ) (bytes : List ℕ) (d : Definition) → Agrees number names
    → ReadsDefinitionAs expected names number (items_of bytes) d → IsDefinitionPrintable expected names d

-- the text of a definition that was read is read as the same definition
abbrev pub DefinitionIsReadBack : Type 0
DefinitionIsReadBack = (expected : Option Logic) (names : List (List ℕ)) (number : List ℕ → ℕ) (bytes : List ℕ) (d : Definition) → Agrees number names
    → ReadsDefinitionAs expected names number (items_of bytes) d → ReadsDefinitionAs expected names number (items_of (definition_text names d)) d

-- the text of a certificate within the limits is read as the certificate; its variables are counted in 64 bits
abbrev pub CertificateTextIsRead : Type 0
CertificateTextIsRead = (expected : Option Logic) (earlier names : List (List ℕ)) (number : List ℕ → ℕ) (c : Certificate) → Agrees number names → c.variables < 2 ^ 64
    → IsCertificatePrintable expected earlier names c → ReadsCertificateAs expected earlier names number (items_of (certificate_text names c)) c

-- what was read is a certificate within the limits
abbrev pub ReadCertificateIsPrintable : Type 0
ReadCertificateIsPrintable = (expected : Option Logic) (earlier names : List (List ℕ)) (number : List ℕ → ℕ) (bytes : List ℕ) (c : Certificate) → Agrees number names
    → ReadsCertificateAs expected earlier names number (items_of bytes) c → IsCertificatePrintable expected earlier names c

-- the text of a certificate that was read is read as the same certificate; its variables are counted in 64 bits
abbrev pub CertificateIsReadBack : Type 0
CertificateIsReadBack = (expected : Option Logic) (earlier names : List (List ℕ)) (number : List ℕ → ℕ) (bytes : List ℕ) (c : Certificate) → Agrees number names → c.variables < 2 ^ 64
    → ReadsCertificateAs expected earlier names number (items_of bytes) c → ReadsCertificateAs expected earlier names number (items_of (certificate_text names c)) c
