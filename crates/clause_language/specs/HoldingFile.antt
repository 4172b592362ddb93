-- How the fields of a reader stand for a state of the machine of files.
use Rattle.std.specs.Prelude.{◌≡◌, ℕ, List, [], ◌∷◌, ◌++◌, Option, Some, None, Result, Ok, Err}
use Rattle.fpc_base.specs.declared.refusal.Code.{Code}
use Rattle.fpc_base.specs.declared.refusal.Code.TheVariants.{Unexpected}
use Rattle.fpc_base.specs.declared.refusal.ParseRefusal.{ParseRefusal}
use Rattle.fpc_base.specs.declared.refusal.ParseRefusal.TheVariants as parse
use Rattle.fpc_base.specs.declared.refusal.TokenRefusal.{TokenRefusal}
use Rattle.fpc_base.specs.declared.refusal.TokenRefusal.TheVariants.{Refused, OutOfMemory}
use Rattle.fpc_base.specs.Lexeme.{Lexeme}
use Rattle.fpc_base.specs.Tokens.{is_one_of}
use Rattle.fpc_terms.specs.Name.{Agrees}
use Rattle.fpc_terms.specs.Written.{WrittenTerm, variables_in}
use Rattle.fpc_terms.specs.Spot.{alone}
use Rattle.fpc_terms.specs.Machine as term
use Rattle.fpc_terms.specs.ReadTerm.{any_variable, HoldsFor}
use Rattle.fpc_terms.specs.declared.reader.TermReader.{TermReader}
use Rattle.polarised_formulas.specs.declared.logic.Logic.{Logic}
use Rattle.clause_language.specs.declared.certificate.Certificate.{Certificate}
use Rattle.clause_language.specs.declared.clause.Clause.{Clause}
use Rattle.clause_language.specs.declared.declaration.DeclaredFormula.{DeclaredFormula}
use Rattle.clause_language.specs.declared.definition.Definition.{Definition}
use Rattle.clause_language.specs.declared.file.FileKind.{FileKind}
use Rattle.clause_language.specs.declared.file.FileReader.{FileReader}
use Rattle.clause_language.specs.declared.file.Phase.{Phase}
use Rattle.clause_language.specs.declared.file.Phase.TheVariants as phase
use Rattle.clause_language.specs.Written.{WrittenItem, WrittenDefinition, WrittenCertificate}
use Rattle.clause_language.specs.Limits.{declared_names}
use Rattle.clause_language.specs.Meant.{declared_meant, clauses_meant, term_variables, definition_meant, certificate_meant}
use Rattle.clause_language.specs.DeclarationMachine as declaring
use Rattle.clause_language.specs.FileMachine.{FileState, start, at_item, in_declaration, in_clause, in_term, finished, lost, definition_of, certificate_of}
use Rattle.clause_language.specs.HoldingClause.{HoldsClause}
use Rattle.clause_language.specs.HoldingDeclaration.{HoldsDeclaration}

-- the table has just these names
abbrev pub AreTaken : List (List ℕ) → List (List ℕ) → Type 0
AreTaken names table = (x : List ℕ) → is_one_of table x ≡ is_one_of names x

-- the name of the declared formula that is being read, once it is read
abbrev pub name_read : declaring.DeclarationState → List (List ℕ)
name_read (declaring.behind_name x) = x ∷ []
name_read (declaring.at_parameter x parameters) = x ∷ []
name_read (declaring.behind_parameter x parameters) = x ∷ []
name_read (declaring.at_defined x parameters) = x ∷ []
name_read (declaring.in_formula x parameters s) = x ∷ []
name_read (declaring.ended x parameters w) = x ∷ []
name_read _ = []

-- Whole items are held, for all numberings that agree with the table of names, and the names of all formulas that are declared, where more may be
-- those of an item that is being read.
pub record HoldsItems (names earlier : List (List ℕ)) (items : List WrittenItem) (more : List (List ℕ)) (table : List (List ℕ)) (ds : List DeclaredFormula) (cs : List Clause) : Type 0 where
  pub taken : AreTaken ((earlier ++ declared_names items) ++ more) table
  pub declared : (number : List ℕ → ℕ) → Agrees number names → ds ≡ declared_meant number items
  pub clauses : (number : List ℕ → ℕ) → Agrees number names → cs ≡ clauses_meant number items

-- the reader reads a file of the kind, and holds whole items
abbrev pub IsBehind : List (List ℕ) → FileKind → Option Logic → List (List ℕ) → Phase → List WrittenItem → List (List ℕ) → FileReader → Type 0
IsBehind names kind expected earlier m items more r =
    (r.kind ≡ kind) × (r.expected ≡ expected) × (r.phase ≡ m) × HoldsItems names earlier items more r.taken r.declared r.clauses

-- a term and its variables are held, and some tokens lead to the state
pub record HoldsTerm (names : List (List ℕ)) (t : term.TermState) (terms : TermReader) (vs : List (List ℕ)) : Type 0 where
  pub tokens : List Lexeme
  pub reached : term.run any_variable (term.wants alone) tokens ≡ t
  pub variables : vs ≡ variables_in tokens []
  pub holds : HoldsFor names vs t terms

-- a term that is whole is held
pub record HoldsWholeTerm (names : List (List ℕ)) (w : WrittenTerm) (terms : TermReader) (vs : List (List ℕ)) : Type 0 where
  pub state : term.TermState
  pub whole : term.whole_of state ≡ Some w
  pub variables : vs ≡ term_variables w
  pub holds : HoldsFor names vs state terms

-- the certificate's term is still to come
abbrev pub IsFresh : List (List ℕ) → FileReader → Type 0
IsFresh names r = HoldsTerm names (term.wants alone) r.terms r.variables

-- the reader holds the state
abbrev pub HoldsFile : List (List ℕ) → FileKind → Option Logic → List (List ℕ) → FileState → FileReader → Type 0
HoldsFile names kind expected earlier start r = IsBehind names kind expected earlier phase.Start [] [] r × IsFresh names r
HoldsFile names kind expected earlier (at_item logic items) r =
    IsBehind names kind expected earlier phase.AtItem items [] r × (r.logic ≡ logic) × IsFresh names r
HoldsFile names kind expected earlier (in_declaration logic items d) r =
    IsBehind names kind expected earlier phase.InDeclaration items (name_read d) r × (r.logic ≡ logic) × IsFresh names r × HoldsDeclaration names logic d r.declaration
HoldsFile names kind expected earlier (in_clause logic items s) r =
    IsBehind names kind expected earlier phase.InClause items [] r × (r.logic ≡ logic) × IsFresh names r × HoldsClause names s r.clause
HoldsFile names kind expected earlier (in_term logic items t) r =
    IsBehind names kind expected earlier phase.InTerm items [] r × (r.logic ≡ logic) × HoldsTerm names t r.terms r.variables
HoldsFile names kind expected earlier (finished logic items w) r =
    IsBehind names kind expected earlier phase.Finished items [] r × (r.logic ≡ logic) × HoldsWholeTerm names w r.terms r.variables
HoldsFile names kind expected earlier lost r = ⊥

-- a token was taken or refused as the machine does, or memory ran out
abbrev pub TakesFile : Result (Unit {0}) TokenRefusal → List (List ℕ) → FileKind → Option Logic → List (List ℕ) → Result FileState Code → FileReader → Type 0
TakesFile (Ok u) names kind expected earlier next r = (t : FileState) × ((next ≡ Ok t) × HoldsFile names kind expected earlier t r)
TakesFile (Err (Refused code)) names kind expected earlier next r = next ≡ Err code
TakesFile (Err OutOfMemory) names kind expected earlier next r = Unit {0}

-- refused for its end, in a file of n bytes, where nothing is whole; or memory ran out
abbrev pub IsUnfinished : {W : Type 0} → ℕ → Option W → ParseRefusal → Type 0
IsUnfinished n whole (parse.Refused r) = (r ≡ record { code = Unexpected; at = n }) × (whole ≡ None)
IsUnfinished n whole parse.OutOfMemory = Unit {0}

-- the definition of a whole one, for all numberings that agree with the table
pub record DefinitionOf (names : List (List ℕ)) (s : FileState) (d : Definition) : Type 0 where
  pub written : WrittenDefinition
  pub whole : definition_of s ≡ Some written
  pub meant : (number : List ℕ → ℕ) → Agrees number names → d ≡ definition_meant number written

-- the certificate of a whole one, for all numberings that agree with the table
pub record CertificateOf (names : List (List ℕ)) (s : FileState) (c : Certificate) : Type 0 where
  pub written : WrittenCertificate
  pub whole : certificate_of s ≡ Some written
  pub meant : (number : List ℕ → ℕ) → Agrees number names → c ≡ certificate_meant number written

-- what a definition file is at its end
abbrev pub IsDefinitionEnd : List (List ℕ) → ℕ → FileState → Result Definition ParseRefusal → Type 0
IsDefinitionEnd names n s (Ok d) = DefinitionOf names s d
IsDefinitionEnd names n s (Err refusal) = IsUnfinished n (definition_of s) refusal

-- what a certificate file is at its end
abbrev pub IsCertificateEnd : List (List ℕ) → ℕ → FileState → Result Certificate ParseRefusal → Type 0
IsCertificateEnd names n s (Ok c) = CertificateOf names s c
IsCertificateEnd names n s (Err refusal) = IsUnfinished n (certificate_of s) refusal
