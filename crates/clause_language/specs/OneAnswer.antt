-- What a definition or certificate file or an atom is read as, and how it is refused, is one thing.
use Rattle.std.specs.Prelude.{◌≡◌, ℕ, ◌≤◌, List, [], Option, length}
use Rattle.fpc_base.specs.declared.refusal.Refusal.{Refusal}
use Rattle.fpc_base.specs.Lexeme.{Item, items_of}
use Rattle.fpc_base.specs.Reading.{ReadsAll, RefusesAll}
use Rattle.polarised_formulas.specs.declared.logic.Logic.{Logic}
use Rattle.clause_language.specs.ReadAtom.{IsAtom, AtomLimits}
use Rattle.clause_language.specs.Written.{WrittenAtom, WrittenDefinition, WrittenCertificate, IsDefinition, IsCertificate}
use Rattle.clause_language.specs.Limits.{DefinitionLimits, CertificateLimits}

-- the items are one definition
abbrev pub DefinitionIsReadOnce : Type 0
DefinitionIsReadOnce = (expected : Option Logic) (items : List Item) (v w : WrittenDefinition) → ReadsAll IsDefinition (DefinitionLimits expected) [] items v
    → ReadsAll IsDefinition (DefinitionLimits expected) [] items w → v ≡ w

-- the items have one refusal as a definition
abbrev pub DefinitionIsRefusedOnce : Type 0
DefinitionIsRefusedOnce = (expected : Option Logic) (n : ℕ) (items : List Item) (r s : Refusal) → RefusesAll IsDefinition (DefinitionLimits expected) n [] items r
    → RefusesAll IsDefinition (DefinitionLimits expected) n [] items s → r ≡ s

-- what is read as a definition is not refused as one
abbrev pub DefinitionIsNotBoth : Type 0
DefinitionIsNotBoth = (expected : Option Logic) (n : ℕ) (items : List Item) (w : WrittenDefinition) (r : Refusal) → ReadsAll IsDefinition (DefinitionLimits expected) [] items w
    → RefusesAll IsDefinition (DefinitionLimits expected) n [] items r → ⊥

-- the items are one certificate
abbrev pub CertificateIsReadOnce : Type 0
CertificateIsReadOnce = (expected : Option Logic) (earlier : List (List ℕ)) (items : List Item) (v w : WrittenCertificate)
    → ReadsAll IsCertificate (CertificateLimits expected earlier) [] items v → ReadsAll IsCertificate (CertificateLimits expected earlier) [] items w → v ≡ w

-- the items have one refusal as a certificate
abbrev pub CertificateIsRefusedOnce : Type 0
CertificateIsRefusedOnce = (expected : Option Logic) (earlier : List (List ℕ)) (n : ℕ) (items : List Item) (r s : Refusal)
    → RefusesAll IsCertificate (CertificateLimits expected earlier) n [] items r → RefusesAll IsCertificate (CertificateLimits expected earlier) n [] items s → r ≡ s

-- what is read as a certificate is not refused as one
abbrev pub CertificateIsNotBoth : Type 0
CertificateIsNotBoth = (expected : Option Logic) (earlier : List (List ℕ)) (n : ℕ) (items : List Item) (w : WrittenCertificate) (r : Refusal)
    → ReadsAll IsCertificate (CertificateLimits expected earlier) [] items w → RefusesAll IsCertificate (CertificateLimits expected earlier) n [] items r → ⊥

-- a refusal as a definition lies within the file, or at its end
abbrev pub DefinitionIsRefusedWithin : Type 0
DefinitionIsRefusedWithin = (expected : Option Logic) (bytes : List ℕ) (r : Refusal)
    → RefusesAll IsDefinition (DefinitionLimits expected) (length bytes) [] (items_of bytes) r
    → r.at ≤ length bytes

-- a refusal as a certificate lies within the file, or at its end
abbrev pub CertificateIsRefusedWithin : Type 0
CertificateIsRefusedWithin = (expected : Option Logic) (earlier : List (List ℕ)) (bytes : List ℕ) (r : Refusal)
    → RefusesAll IsCertificate (CertificateLimits expected earlier) (length bytes) [] (items_of bytes) r
    → r.at ≤ length bytes

-- the items are one atom
abbrev pub AtomIsReadOnce : Type 0
AtomIsReadOnce = (items : List Item) (a b : WrittenAtom) → ReadsAll IsAtom AtomLimits [] items a
    → ReadsAll IsAtom AtomLimits [] items b → a ≡ b

-- the items have one refusal as an atom
abbrev pub AtomIsRefusedOnce : Type 0
AtomIsRefusedOnce = (n : ℕ) (items : List Item) (r s : Refusal) → RefusesAll IsAtom AtomLimits n [] items r
    → RefusesAll IsAtom AtomLimits n [] items s → r ≡ s

-- what is read as an atom is not refused as one
abbrev pub AtomIsNotBoth : Type 0
AtomIsNotBoth = (n : ℕ) (items : List Item) (a : WrittenAtom) (r : Refusal)
    → ReadsAll IsAtom AtomLimits [] items a → RefusesAll IsAtom AtomLimits n [] items r → ⊥

-- a refusal as an atom lies within the text, or at its end
abbrev pub AtomIsRefusedWithin : Type 0
AtomIsRefusedWithin = (bytes : List ℕ) (r : Refusal)
    → RefusesAll IsAtom AtomLimits (length bytes) [] (items_of bytes) r → r.at ≤ length bytes
