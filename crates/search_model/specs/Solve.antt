-- The search over clauses alone, which tells whether an instance of an atom holds.
use Rattle.std.specs.Prelude.{◌≡◌, ℕ, ◌<◌, ◌≤◌, List, [], map, length}
use Rattle.fpc_terms.specs.Term.{Term, put}
use Rattle.fpc_terms.specs.Open.{IsGround, constant}
use Rattle.clause_language.specs.declared.atom.Atom.{Atom}
use Rattle.clause_language.specs.declared.clause.Clause.{Clause}
use Rattle.clause_language.specs.declared.program.Program.{Program}
use Rattle.clause_language.specs.LeastModel.{put_atom, Holds, fits}
use Rattle.clause_language.specs.Text.{atom_before}
use Rattle.search_model.specs.Run.{Ending, ended, spent}
use Rattle.search_model.specs.Search.{SearchCalculus, call, Alternative, Answer, accepted}
use Rattle.search_model.specs.Search.{rejected, search}
use Rattle.search_model.specs.declared.solve.Solved.{Solved}
use Rattle.search_model.specs.declared.solve.Solved.TheVariants.{Accepted, Rejected, Spent, TooLong}

-- there is none
pub data Nothing : Type 0 where

-- the calculus without items and steps
abbrev pub no_calculus : SearchCalculus
no_calculus = record {
  ItemOf = Nothing;
  StepOf = Nothing;
  put_item = λ s x. x;
  put_step = λ s e. e;
  expand = λ x k. [];
  Completed = λ x steps. ⊥;
  IsOpenItem = λ k x. ⊥;
  IsOpenStep = λ k e. ⊥;
  IsScopedItem = λ levels x. ⊥;
}

-- the search for an atom over clauses within a budget: a clause may answer a call where its head
-- has the atom's name and number of arguments; the atom's variables are numbered below the number
-- given, and have no level
abbrev pub solving : List Clause → ℕ → Atom → ℕ → Ending (Answer Nothing Nothing)
solving clauses budget a variables =
    search no_calculus fits clauses budget (call a) a.arguments variables

-- the atom that was asked, with its bindings, and a constant for each variable that is left
abbrev pub solved_atom : ℕ → Atom → Alternative Nothing Nothing → Atom
solved_atom any a found = record { name = a.name; arguments = map (put (constant any)) found.asked }

-- the text of an atom, with the names of a table
abbrev pub atom_text : List (List ℕ) → Atom → List ℕ
atom_text names a = atom_before names a []

-- the most bytes of the text of an accepted atom
abbrev pub text_limit : ℕ
text_limit = 67108864

-- the search is accepted with this atom, in so many units
pub record IsAccepted (p : Program) (asked : Atom) (variables budget : ℕ) (a : Atom)
    (units : ℕ) : Type 0 where
  pub found : Alternative Nothing Nothing
  pub ends : solving p.clauses budget asked variables ≡ ended (accepted found) units
  pub atom : a ≡ solved_atom p.ids.any asked found

-- the search is accepted with an atom whose text is too long
pub record IsTooLong (names : List (List ℕ)) (p : Program) (asked : Atom)
    (variables budget : ℕ) : Type 0 where
  pub atom : Atom
  pub units : ℕ
  pub is_accepted : IsAccepted p asked variables budget atom units
  pub is_long : text_limit < length (atom_text names atom)

-- the answer is the one of the search within the budget, with the names of a table
abbrev pub IsSolved : List (List ℕ) → Program → Atom → ℕ → ℕ → Solved → Type 0
IsSolved names p asked variables budget (Accepted a units) =
    IsAccepted p asked variables budget a units × (length (atom_text names a) ≤ text_limit)
IsSolved names p asked variables budget (Rejected units) =
    solving p.clauses budget asked variables ≡ ended rejected units
IsSolved names p asked variables budget Spent = solving p.clauses budget asked variables ≡ spent
IsSolved names p asked variables budget TooLong = IsTooLong names p asked variables budget

-- the units are within the budget
abbrev pub IsWithin : ℕ → Solved → Type 0
IsWithin budget (Accepted a units) = units ≤ budget
IsWithin budget (Rejected units) = units ≤ budget
IsWithin budget Spent = Unit {0}
IsWithin budget TooLong = Unit {0}

-- an accepted atom is in the least model, and an instance of the atom that was asked
pub record IsSound (clauses : List Clause) (asked a : Atom) : Type 0 where
  pub holds : Holds clauses a
  pub terms : ℕ → Term
  pub ground : (n : ℕ) → IsGround (terms n)
  pub is_instance : a ≡ put_atom terms asked

-- an accepted atom is sound, one whose text is too long as well, and where the search is rejected
-- no instance of the atom is in the least model
abbrev pub IsRight : List Clause → Atom → Solved → Type 0
IsRight clauses asked (Accepted a units) = IsSound clauses asked a
IsRight clauses asked (Rejected units) =
    (s : ℕ → Term) → ((n : ℕ) → IsGround (s n)) → ¬ (Holds clauses (put_atom s asked))
IsRight clauses asked Spent = Unit {0}
IsRight clauses asked TooLong = (a : Atom) × IsSound clauses asked a

-- An outcome with so many units is the same within each budget that has them, and each smaller
-- budget is spent.
abbrev pub OutcomeIsSettled : Type 0
OutcomeIsSettled =
    (clauses : List Clause) (a : Atom) (variables budget units : ℕ)
    (answer : Answer Nothing Nothing)
    → solving clauses budget a variables ≡ ended answer units
    → ((more : ℕ) → units ≤ more → solving clauses more a variables ≡ ended answer units)
    × ((fewer : ℕ) → fewer < units → solving clauses fewer a variables ≡ spent)
