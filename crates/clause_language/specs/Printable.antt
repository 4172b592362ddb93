-- Definitions and certificates within the limits, as they are read.
use Rattle.std.specs.Prelude.{◌≡◌, ℕ, ◌<◌, ◌≤◌, false, List, [], ◌∷◌, ◌++◌, Option}
use Rattle.fpc_base.specs.declared.tokens.TokenKind.TheVariants.{Name}
use Rattle.fpc_base.specs.Tokens.{is_one_of, HasForm}
use Rattle.fpc_terms.specs.Term.{Never}
use Rattle.fpc_terms.specs.Text.{name_in}
use Rattle.polarised_formulas.specs.declared.logic.Logic.{Logic}
use Rattle.polarised_formulas.specs.Formula.{EachInside, Tied, IsOfLogic}
use Rattle.polarised_formulas.specs.WrittenOf.{IsNamed, AreNamed, HasNames}
use Rattle.polarised_formulas.specs.Size.{depth_of, HasFew, AllHaveFew, HasFewArguments}
use Rattle.clause_language.specs.declared.clause.Clause.{Clause}
use Rattle.clause_language.specs.declared.declaration.DeclaredFormula.{DeclaredFormula}
use Rattle.clause_language.specs.declared.definition.Definition.{Definition}
use Rattle.clause_language.specs.declared.certificate.Certificate.{Certificate}
use Rattle.clause_language.specs.FileMachine.{is_other}
use Rattle.clause_language.specs.Order.{variables_to, variables_to_all, IsOrdered, AreOrdered, atoms_of}

-- below a number
abbrev pub Below : ℕ → ℕ → Type 0
Below n k = k < n

-- each of the texts is different from some names and from the texts before it
abbrev pub AreNew : List (List ℕ) → List (List ℕ) → Type 0
AreNew names [] = Unit {0}
AreNew names (x ∷ xs) = (is_one_of names x ≡ false) × AreNew (names ++ x ∷ []) xs

-- a clause within the limits, whose variables occur first in the order of their numbers
pub record IsClausePrintable (names : List (List ℕ)) (c : Clause) : Type 0 where
  pub named : AreNamed names (atoms_of c)
  pub few : AllHaveFew (atoms_of c)
  pub ordered : AreOrdered (atoms_of c) 0
  pub counted : variables_to_all (atoms_of c) 0 ≡ c.variables
  pub at_most : c.variables ≤ 255

-- each clause is
abbrev pub AreClausesPrintable : List (List ℕ) → List Clause → Type 0
AreClausesPrintable names [] = Unit {0}
AreClausesPrintable names (c ∷ cs) = IsClausePrintable names c × AreClausesPrintable names cs

-- a declared formula of the logic within the limits, without other variables than its parameters
pub record IsDeclarationPrintable (names : List (List ℕ)) (logic : Logic) (d : DeclaredFormula) : Type 0 where
  pub named : HasForm Name (name_in names d.name)
  pub at_most : d.parameters ≤ 255
  pub is_scoped : EachInside Never Tied (Below d.parameters) 0 d.formula
  pub in_logic : IsOfLogic logic d.formula
  pub has_names : HasNames names d.formula
  pub deep : depth_of d.formula ≤ 10000
  pub few : HasFewArguments d.formula

-- each declared formula is
abbrev pub AreDeclaredPrintable : List (List ℕ) → Logic → List DeclaredFormula → Type 0
AreDeclaredPrintable names logic [] = Unit {0}
AreDeclaredPrintable names logic (d ∷ ds) = IsDeclarationPrintable names logic d × AreDeclaredPrintable names logic ds

-- the names of declared formulas
abbrev pub declared_texts : List (List ℕ) → List DeclaredFormula → List (List ℕ)
declared_texts names [] = []
declared_texts names (d ∷ ds) = name_in names d.name ∷ declared_texts names ds

-- the items of a file within the limits, where a logic may be expected and formulas of earlier names are declared
pub record AreItemsPrintable (expected : Option Logic) (earlier names : List (List ℕ)) (logic : Logic) (declared : List DeclaredFormula) (clauses : List Clause) : Type 0 where
  pub is_expected : is_other expected logic ≡ false
  pub formulas : AreDeclaredPrintable names logic declared
  pub new : AreNew earlier (declared_texts names declared)
  pub rules : AreClausesPrintable names clauses

-- a definition within the limits
abbrev pub IsDefinitionPrintable : Option Logic → List (List ℕ) → Definition → Type 0
IsDefinitionPrintable expected names d = AreItemsPrintable expected [] names d.logic d.declared d.clauses

-- a certificate within the limits, whose term's variables are in order too
pub record IsCertificatePrintable (expected : Option Logic) (earlier names : List (List ℕ)) (c : Certificate) : Type 0 where
  pub items : AreItemsPrintable expected earlier names c.logic c.declared c.clauses
  pub named : IsNamed names c.term
  pub few : HasFew c.term
  pub ordered : IsOrdered c.term 0
  pub counted : variables_to c.term 0 ≡ c.variables
