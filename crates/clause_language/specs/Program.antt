-- The words that the search reads, and programs: a definition with a certificate.
use Rattle.std.specs.Prelude.{◌≡◌, ℕ, ◌≤◌, List, [], ◌∷◌, ◌++◌, map, length, codes, Contains}
use Rattle.std.specs.List.{All}
use Rattle.fpc_terms.specs.Name.{AreDifferent}
use Rattle.fpc_terms.specs.Open.{IsOpen}
use Rattle.fpc_terms.specs.Printing.{HasNamesBelow}
use Rattle.fpc_terms.specs.Term.{Never}
use Rattle.fpc_terms.specs.Text.{name_in}
use Rattle.polarised_formulas.specs.declared.logic.Logic.{Logic}
use Rattle.polarised_formulas.specs.Formula.{EachInside, Tied, IsOfLogic}
use Rattle.polarised_formulas.specs.Size.{depth_of}
use Rattle.clause_language.specs.declared.atom.Atom.{Atom}
use Rattle.clause_language.specs.declared.clause.Clause.{Clause}
use Rattle.clause_language.specs.declared.declaration.DeclaredFormula.{DeclaredFormula}
use Rattle.clause_language.specs.declared.definition.Definition.{Definition}
use Rattle.clause_language.specs.declared.certificate.Certificate.{Certificate}
use Rattle.clause_language.specs.declared.program.Program.{Program}
use Rattle.clause_language.specs.declared.word_ids.WordIds.{WordIds}
use Rattle.clause_language.specs.LeastModel.{AreOpenClauses}
use Rattle.clause_language.specs.Naming.{AreDeclaredNamedBelow, AreClausesNamedBelow}
use Rattle.clause_language.specs.Printable.{Below}
use Rattle.clause_language.specs.ReadFile.{names_of}

-- the words
abbrev pub words : List (List ℕ)
words =
    codes "and_c" ∷ codes "or_c" ∷ codes "ff_c" ∷ codes "all_c" ∷ codes "store_c" ∷ codes "decide_e" ∷ codes "release_e" ∷ codes "init_e" ∷ codes "tt_e" ∷ codes "and_e" ∷ codes "or_e" ∷ codes "some_e" ∷ codes "cut_e" ∷
    codes "and_rc" ∷ codes "imp_rc" ∷ codes "all_rc" ∷ codes "and_lc" ∷ codes "or_lc" ∷ codes "some_lc" ∷ codes "tt_lc" ∷ codes "store_lc" ∷ codes "store_rc" ∷ codes "decide_le" ∷ codes "decide_re" ∷ codes "release_le" ∷
    codes "release_re" ∷ codes "init_le" ∷ codes "init_re" ∷ codes "and_le" ∷ codes "imp_le" ∷ codes "all_le" ∷ codes "tt_re" ∷ codes "and_re" ∷ codes "or_re" ∷ codes "some_re" ∷ codes "left" ∷ codes "right" ∷ codes "any" ∷ []

-- the ids, in the order of the words
abbrev pub ids_of : WordIds → List ℕ
ids_of i =
    i.and_c ∷ i.or_c ∷ i.ff_c ∷ i.all_c ∷ i.store_c ∷ i.decide_e ∷ i.release_e ∷ i.init_e ∷ i.tt_e ∷ i.and_e ∷ i.or_e ∷ i.some_e ∷ i.cut_e ∷
    i.and_rc ∷ i.imp_rc ∷ i.all_rc ∷ i.and_lc ∷ i.or_lc ∷ i.some_lc ∷ i.tt_lc ∷ i.store_lc ∷ i.store_rc ∷ i.decide_le ∷ i.decide_re ∷ i.release_le ∷
    i.release_re ∷ i.init_le ∷ i.init_re ∷ i.and_le ∷ i.imp_le ∷ i.all_le ∷ i.tt_re ∷ i.and_re ∷ i.or_re ∷ i.some_re ∷ i.left ∷ i.right ∷ i.any ∷ []

-- each id has its own word in the table of names
abbrev pub HaveWords : List (List ℕ) → WordIds → Type 0
HaveWords names i = map (name_in names) (ids_of i) ≡ words

-- the text is one of the words
abbrev pub IsWord : List ℕ → Type 0
IsWord text = Contains words text

-- the definition's lists with the certificate's behind them, and the certificate's term with the number of its variables
pub record IsJoined (d : Definition) (c : Certificate) (p : Program) : Type 0 where
  pub logic : p.logic ≡ d.logic
  pub declared : p.declared ≡ d.declared ++ c.declared
  pub clauses : p.clauses ≡ d.clauses ++ c.clauses
  pub term : p.term ≡ c.term
  pub variables : p.variables ≡ c.variables

-- a declared formula of the logic, nested at most 10,000 deep, without eigenvariables, free bound indexes and other variables than its parameters
pub record IsDeclarationOf (logic : Logic) (d : DeclaredFormula) : Type 0 where
  pub in_logic : IsOfLogic logic d.formula
  pub deep : depth_of d.formula ≤ 10000
  pub is_scoped : EachInside Never Tied (Below d.parameters) 0 d.formula

-- an atom with at most 255 arguments
abbrev pub HasFewArguments : Atom → Type 0
HasFewArguments a = length a.arguments ≤ 255

-- a clause whose atoms have at most 255 arguments each
abbrev pub IsOfFewArguments : Clause → Type 0
IsOfFewArguments c = HasFewArguments c.head × All HasFewArguments c.body

-- What a search asks of a program without its names: its formulas are declarations of the logic, its
-- clauses are open and have few arguments, and the certificate's term is open.
pub record IsOpenProgram (p : Program) : Type 0 where
  pub formulas : All (IsDeclarationOf p.logic) p.declared
  pub clauses_open : AreOpenClauses p.clauses
  pub few : All IsOfFewArguments p.clauses
  pub term_open : IsOpen p.variables p.term

-- A program, for a table of names: it is open, and its names and words are those of the table.
pub record IsProgram (names : List (List ℕ)) (p : Program) : Type 0 where
  pub is_open : IsOpenProgram p
  pub different : AreDifferent (names_of names p.declared)
  pub declared_named : AreDeclaredNamedBelow (length names) p.declared
  pub clauses_named : AreClausesNamedBelow (length names) p.clauses
  pub term_named : HasNamesBelow (length names) p.term
  pub words : HaveWords names p.ids
