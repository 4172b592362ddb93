-- Files that were read are a program.
use Rattle.std.specs.Prelude.{◌≡◌, ℕ, ◌<◌, List, [], length, Option, Some}
use Rattle.fpc_base.specs.Lexeme.{Item}
use Rattle.fpc_terms.specs.Name.{AreDifferent}
use Rattle.fpc_terms.specs.Term.{app, no_args}
use Rattle.polarised_formulas.specs.declared.logic.Logic.{Logic}
use Rattle.clause_language.specs.declared.certificate.Certificate.{Certificate}
use Rattle.clause_language.specs.declared.definition.Definition.{Definition}
use Rattle.clause_language.specs.declared.program.Program.{Program}
use Rattle.clause_language.specs.Naming.{IsDefinitionNamedBelow, IsCertificateNamedBelow}
use Rattle.clause_language.specs.Program.{HaveWords, IsJoined, IsProgram}
use Rattle.clause_language.specs.ReadFile.{DefinitionIsRead, CertificateIsRead, names_of}

-- a definition that was read, joined with a certificate of its logic that was read behind it
abbrev pub JoinedIsProgram : Type 0
JoinedIsProgram = (expected : Option Logic) (names : List (List ℕ)) (items others : List Item) (d : Definition) (c : Certificate) (p : Program) → AreDifferent names
    → DefinitionIsRead expected items names d → CertificateIsRead (Some d.logic) (names_of names d.declared) others names c
    → IsDefinitionNamedBelow (length names) d → IsCertificateNamedBelow (length names) c → IsJoined d c p → HaveWords names p.ids → IsProgram names p

-- the certificate that adds nothing to a definition: its term is a name alone
pub record IsBare (logic : Logic) (name : ℕ) (c : Certificate) : Type 0 where
  pub of_logic : c.logic ≡ logic
  pub declared : c.declared ≡ []
  pub clauses : c.clauses ≡ []
  pub term : c.term ≡ app name no_args
  pub variables : c.variables ≡ 0

-- a definition that was read, joined with the certificate that adds nothing
abbrev pub DefinitionIsProgram : Type 0
DefinitionIsProgram = (expected : Option Logic) (names : List (List ℕ)) (items : List Item) (d : Definition) (any : ℕ) (c : Certificate) (p : Program) → AreDifferent names
    → DefinitionIsRead expected items names d → IsDefinitionNamedBelow (length names) d → any < length names → IsBare d.logic any c
    → IsJoined d c p → HaveWords names p.ids → IsProgram names p
