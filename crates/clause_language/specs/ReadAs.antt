-- What is read of a file has its names in the table.
use Rattle.std.specs.Prelude.{ℕ, List, Option}
use Rattle.fpc_base.specs.Lexeme.{Item}
use Rattle.fpc_terms.specs.Name.{Agrees, AreDifferent}
use Rattle.polarised_formulas.specs.declared.logic.Logic.{Logic}
use Rattle.clause_language.specs.declared.certificate.Certificate.{Certificate}
use Rattle.clause_language.specs.declared.definition.Definition.{Definition}
use Rattle.clause_language.specs.ReadFile.{DefinitionIsRead, CertificateIsRead}
use Rattle.clause_language.specs.RoundTrip.{ReadsDefinitionAs, ReadsCertificateAs}

-- what is read of a definition is read by each numbering that agrees with the table
abbrev pub ReadDefinitionIsAs : Type 0
ReadDefinitionIsAs = (expected : Option Logic) (names : List (List ℕ)) (number : List ℕ → ℕ) (items : List Item) (d : Definition) → AreDifferent names → Agrees number names
    → DefinitionIsRead expected items names d → ReadsDefinitionAs expected names number items d

-- what is read of a certificate is read by each numbering that agrees with the table
abbrev pub ReadCertificateIsAs : Type 0
ReadCertificateIsAs = (expected : Option Logic) (earlier names : List (List ℕ)) (number : List ℕ → ℕ) (items : List Item) (c : Certificate) → AreDifferent names → Agrees number names
    → CertificateIsRead expected earlier items names c → ReadsCertificateAs expected earlier names number items c
