-- `solve`: the search for an atom over a definition.
use Rattle.std.specs.Prelude.{◌≡◌, ◌⊎◌, ℕ, ◌≤◌, List, [], ◌∷◌, length, slice_get, codes, Some, None}
use Rattle.fpc_base.specs.Lexeme.{Item, items_of}
use Rattle.fpc_terms.specs.Name.{AreDifferent}
use Rattle.clause_language.specs.declared.atom.Atom as atom
use Rattle.clause_language.specs.declared.certificate.Certificate.{Certificate}
use Rattle.clause_language.specs.declared.definition.Definition as definition
use Rattle.clause_language.specs.declared.program.Program.{Program}
use Rattle.clause_language.specs.Joined.{IsBare}
use Rattle.clause_language.specs.Naming.{IsAtomNamedBelow}
use Rattle.clause_language.specs.Program.{HaveWords, IsJoined}
use Rattle.clause_language.specs.ReadAtom.{AtomIsRead}
use Rattle.clause_language.specs.ReadFile.{DefinitionIsRead}
use Rattle.search_model.specs.Solve.{atom_text, IsSolved, IsWithin, IsRight}
use Rattle.search_model.specs.declared.solve.Solved.{Solved}
use Rattle.search_model.specs.declared.solve.Solved.TheVariants as solved
use Rattle.fpc_base.specs.Outside.{Outside}
use Rattle.fpc_cli.specs.declared.answer.Answer.{Answer}
use Rattle.fpc_cli.specs.declared.answer.Answer.TheVariants.{Holds, NotProved, BudgetSpent, TooLong, OutOfMemory}
use Rattle.fpc_cli.specs.declared.answer.Role.TheVariants.{Atom}
use Rattle.fpc_cli.specs.Command.{Chosen}
use Rattle.fpc_cli.specs.Grammars as grammar
use Rattle.fpc_cli.specs.Inputs.{at_hand, Task, IsRefusal}
use Rattle.fpc_cli.specs.Origins.{definition_input}

-- some items are those of the definition, by the numbers of names in a table
abbrev pub IsRead : List (List ℕ) → definition.Definition → Type 0
IsRead names d = (items : List Item) × DefinitionIsRead None items names d

-- The program of a definition alone, for a table of names: it is joined with the certificate that
-- adds nothing, whose term is `any`.
pub record IsProgramOf (names : List (List ℕ)) (d : definition.Definition) (p : Program)
    : Type 0 where
  pub any : ℕ
  pub is_any : slice_get names any ≡ Some (codes "any")
  pub certificate : Certificate
  pub bare : IsBare d.logic any certificate
  pub joined : IsJoined d certificate p
  pub words : HaveWords names p.ids

-- The search for an atom, with so many variables, over the program of a definition alone ends so
-- within a budget, and it is right.
pub record IsSearch (names : List (List ℕ)) (d : definition.Definition) (asked : atom.Atom)
    (variables budget : ℕ) (end : Solved) : Type 0 where
  pub program : Program
  pub is_program : IsProgramOf names d program
  pub is_solved : IsSolved names program asked variables budget end
  pub is_within : IsWithin budget end
  pub is_right : IsRight program.clauses asked end

-- each name of an accepted atom has a number below n
abbrev pub IsEndNamed : ℕ → Solved → Type 0
IsEndNamed n (solved.Accepted a units) = IsAtomNamedBelow n a
IsEndNamed n _ = Unit {0}

-- the end of the search has an atom, whose text is told
abbrev pub HasText : Solved → Type 0
HasText (solved.Accepted a units) = Unit {0}
HasText _ = ⊥

-- the answer that the end of a search is
abbrev pub answer_of : List (List ℕ) → Solved → Answer
answer_of names (solved.Accepted a units) = Holds (atom_text names a)
answer_of names (solved.Rejected units) = NotProved
answer_of names solved.Spent = BudgetSpent
answer_of names solved.TooLong = TooLong

-- The bytes are a definition of either logic and the word is an atom, by the numbers of names in a
-- table, and this is the answer of the search for the atom within a budget.
pub record IsSearchAnswer (budget : ℕ) (bytes word : List ℕ) (answer : Answer) : Type 0 where
  pub names : List (List ℕ)
  pub different : AreDifferent names
  pub meaning : definition.Definition
  pub read : DefinitionIsRead None (items_of bytes) names meaning
  pub asked : atom.Atom
  pub variables : ℕ
  pub atom_read : AtomIsRead (items_of word) names (asked, variables)
  pub end : Solved
  pub is_search : IsSearch names meaning asked variables budget end
  pub told : answer ≡ answer_of names end

-- the result: nothing more is opened or taken, and the answer is that of the search; or memory ran
-- out
pub record SolveEnds (budget : ℕ) (bytes word : List ℕ) (old new : Outside) (answer : Answer)
    : Type 0 where
  pub still : new ≡ old
  pub searched : (answer ≡ OutOfMemory) ⊎ IsSearchAnswer budget bytes word answer

-- so, of the two inputs
abbrev pub EndsSolve : ℕ → List (List ℕ) → Outside → Outside → Answer → Type 0
EndsSolve budget (bytes ∷ word ∷ []) old new answer = SolveEnds budget bytes word old new answer
EndsSolve budget _ old new answer = ⊥

-- the answer is the end of the search over the bytes for the word's atom, and they have no other
pub record IsItsSearch (budget : ℕ) (bytes word : List ℕ) (answer : Answer) : Type 0 where
  pub answered : IsSearchAnswer budget bytes word answer
  pub only : (other : Answer) → IsSearchAnswer budget bytes word other → other ≡ answer

-- so, of the two inputs
abbrev pub SolveIsDue : ℕ → List (List ℕ) → Answer → Type 0
SolveIsDue budget (bytes ∷ word ∷ []) answer = IsItsSearch budget bytes word answer
SolveIsDue budget _ answer = ⊥

-- `solve` reads a definition, and then the word of an atom
abbrev pub solve_task : ℕ → (definition : Chosen) → (atom : List ℕ) → Task
solve_task budget chosen word = record {
  inputs = definition_input chosen (λ earlier. grammar.definition None)
      ∷ at_hand Atom word (λ earlier. grammar.atom) ∷ [];
  Ends = λ content. EndsSolve budget;
  Due = λ content. SolveIsDue budget;
}

-- The answer to a whole definition and the word of an atom: the refusal of the word, or the answer
-- of the search; or memory ran out.
abbrev pub IsAtomAnswer : ℕ → List ℕ → List ℕ → Answer → Type 0
IsAtomAnswer budget bytes word answer =
    IsRefusal Atom grammar.atom word answer
    ⊎ ((length word ≤ 16777216) × grammar.IsWholeAtom word
    × IsSearchAnswer budget bytes word answer)
