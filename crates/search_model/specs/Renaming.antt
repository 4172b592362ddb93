-- The answer to an atom hangs on no number of a name.
use Rattle.std.specs.Prelude.{◌≡◌, ℕ, List, Option}
use Rattle.fpc_base.specs.Lexeme.{Item}
use Rattle.fpc_terms.specs.Name.{AreDifferent}
use Rattle.polarised_formulas.specs.declared.logic.Logic.{Logic}
use Rattle.clause_language.specs.declared.atom.Atom.{Atom}
use Rattle.clause_language.specs.declared.definition.Definition.{Definition}
use Rattle.clause_language.specs.declared.program.Program.{Program}
use Rattle.clause_language.specs.Program.{HaveWords}
use Rattle.clause_language.specs.ReadAtom.{AtomIsRead}
use Rattle.clause_language.specs.ReadFile.{DefinitionIsRead}
use Rattle.search_model.specs.Solve.{IsSolved, atom_text}
use Rattle.search_model.specs.declared.solve.Solved.{Solved}
use Rattle.search_model.specs.declared.solve.Solved.TheVariants.{Accepted, Rejected, Spent, TooLong}

-- The two answers are the same: of one kind, with the same units, and with the same text of an
-- accepted atom, each by its own table.
abbrev pub SameSolved : List (List ℕ) → List (List ℕ) → Solved → Solved → Type 0
SameSolved names others (Accepted a u) (Accepted b v) =
    (atom_text names a ≡ atom_text others b) × (u ≡ v)
SameSolved names others (Rejected u) (Rejected v) = u ≡ v
SameSolved names others Spent Spent = Unit {0}
SameSolved names others TooLong TooLong = Unit {0}
SameSolved names others _ _ = ⊥

-- A definition and an atom are read from items, by the numbers of names in a table, and the search
-- for the atom over the definition's clauses is answered so within a budget.
pub record IsAnswered (expected : Option Logic) (items question : List Item) (budget : ℕ)
    (names : List (List ℕ)) (answer : Solved) : Type 0 where
  pub different : AreDifferent names
  pub meaning : Definition
  pub read : DefinitionIsRead expected items names meaning
  pub program : Program
  pub alone : program.clauses ≡ meaning.clauses
  pub words : HaveWords names program.ids
  pub asked : Atom
  pub variables : ℕ
  pub atom_read : AtomIsRead question names (asked, variables)
  pub is_solved : IsSolved names program asked variables budget answer

-- the answer hangs on the items alone, and on no table
abbrev pub AnsweredOnce : Type 0
AnsweredOnce =
    (expected : Option Logic) (items question : List Item) (budget : ℕ)
    (names others : List (List ℕ)) (r s : Solved)
    → IsAnswered expected items question budget names r
    → IsAnswered expected items question budget others s → SameSolved names others r s
