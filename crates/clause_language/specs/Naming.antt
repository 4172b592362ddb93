-- Which names definitions and certificates have.
use Rattle.std.specs.Prelude.{ℕ, ◌<◌, List, [], ◌∷◌}
use Rattle.fpc_terms.specs.Term.{Term}
use Rattle.fpc_terms.specs.Printing.{HasNamesBelow}
use Rattle.polarised_formulas.specs.Printing.{AllNamesBelow}
use Rattle.clause_language.specs.declared.atom.Atom.{Atom}
use Rattle.clause_language.specs.declared.clause.Clause.{Clause}
use Rattle.clause_language.specs.declared.declaration.DeclaredFormula.{DeclaredFormula}
use Rattle.clause_language.specs.declared.definition.Definition.{Definition}
use Rattle.clause_language.specs.declared.certificate.Certificate.{Certificate}

-- each name of the terms has a number below n
abbrev pub AreTermsNamedBelow : ℕ → List Term → Type 0
AreTermsNamedBelow n [] = Unit {0}
AreTermsNamedBelow n (t ∷ ts) = HasNamesBelow n t × AreTermsNamedBelow n ts

-- each name of the atom has a number below n
abbrev pub IsAtomNamedBelow : ℕ → Atom → Type 0
IsAtomNamedBelow n a = (a.name < n) × AreTermsNamedBelow n a.arguments

-- each name of the atoms has a number below n
abbrev pub AreAtomsNamedBelow : ℕ → List Atom → Type 0
AreAtomsNamedBelow n [] = Unit {0}
AreAtomsNamedBelow n (a ∷ more) = IsAtomNamedBelow n a × AreAtomsNamedBelow n more

-- each name of the clause has a number below n
abbrev pub IsClauseNamedBelow : ℕ → Clause → Type 0
IsClauseNamedBelow n c = IsAtomNamedBelow n c.head × AreAtomsNamedBelow n c.body

-- each name of the clauses has a number below n
abbrev pub AreClausesNamedBelow : ℕ → List Clause → Type 0
AreClausesNamedBelow n [] = Unit {0}
AreClausesNamedBelow n (c ∷ cs) = IsClauseNamedBelow n c × AreClausesNamedBelow n cs

-- each name of the declared formula has a number below n
abbrev pub IsDeclarationNamedBelow : ℕ → DeclaredFormula → Type 0
IsDeclarationNamedBelow n d = (d.name < n) × AllNamesBelow n d.formula

-- each name of the declared formulas has a number below n
abbrev pub AreDeclaredNamedBelow : ℕ → List DeclaredFormula → Type 0
AreDeclaredNamedBelow n [] = Unit {0}
AreDeclaredNamedBelow n (d ∷ ds) = IsDeclarationNamedBelow n d × AreDeclaredNamedBelow n ds

-- each name of the definition has a number below n
abbrev pub IsDefinitionNamedBelow : ℕ → Definition → Type 0
IsDefinitionNamedBelow n d = AreDeclaredNamedBelow n d.declared × AreClausesNamedBelow n d.clauses

-- each name of the certificate has a number below n
abbrev pub IsCertificateNamedBelow : ℕ → Certificate → Type 0
IsCertificateNamedBelow n c = AreDeclaredNamedBelow n c.declared × AreClausesNamedBelow n c.clauses × HasNamesBelow n c.term
