-- The least model of clauses.
use Rattle.std.specs.Prelude.{◌≡◌, ℕ, Bool, ◌&&◌, nat_eq, List, [], ◌∷◌, map, length, Contains}
use Rattle.std.specs.List.{All}
use Rattle.fpc_terms.specs.Term.{Term, put}
use Rattle.fpc_terms.specs.Open.{IsGround, AreOpen}
use Rattle.clause_language.specs.declared.atom.Atom.{Atom}
use Rattle.clause_language.specs.declared.clause.Clause.{Clause}

-- an atom with a term for each variable
abbrev pub put_atom : (ℕ → Term) → Atom → Atom
put_atom s a = record { name = a.name; arguments = map (put s) a.arguments }

-- an atom and others are head and body of a clause, with a ground term for each of its variables
pub record IsInstance (clauses : List Clause) (head : Atom) (body : List Atom) : Type 0 where
  pub clause : Clause
  pub is_one : Contains clauses clause
  pub terms : ℕ → Term
  pub ground : (n : ℕ) → IsGround (terms n)
  pub head_is : head ≡ put_atom terms clause.head
  pub body_is : body ≡ map (put_atom terms) clause.body

-- trees of atoms, one beside another
pub data Trees : Type 0 where
  no_trees : Trees
  tree : (root : Atom) → (children : Trees) → (others : Trees) → Trees

-- the roots of trees
abbrev pub roots : Trees → List Atom
roots no_trees = []
roots (tree a children others) = a ∷ roots others

-- each node and its children are head and body of a clause
abbrev pub AreGrown : List Clause → Trees → Type 0
AreGrown clauses no_trees = Unit {0}
AreGrown clauses (tree a children others) = IsInstance clauses a (roots children) × AreGrown clauses children × AreGrown clauses others

-- atoms that are the roots of such trees
pub record AllHold (clauses : List Clause) (atoms : List Atom) : Type 0 where
  pub trees : Trees
  pub are_grown : AreGrown clauses trees
  pub roots_are : roots trees ≡ atoms

-- The atom is in the least model: it is the root of a finite tree in which each node and its children are head and body of a clause, with a
-- ground term for each of its variables.
abbrev pub Holds : List Clause → Atom → Type 0
Holds clauses a = AllHold clauses (a ∷ [])

-- the atoms are open, with variables numbered below k
abbrev pub AreOpenAtoms : ℕ → List Atom → Type 0
AreOpenAtoms k atoms = All (λ a. AreOpen k a.arguments) atoms

-- the clause is open: it has no bound index, and its variables are numbered below their number
pub record IsOpenClause (c : Clause) : Type 0 where
  pub head : AreOpen c.variables c.head.arguments
  pub body : AreOpenAtoms c.variables c.body

-- each clause is
abbrev pub AreOpenClauses : List Clause → Type 0
AreOpenClauses clauses = All IsOpenClause clauses

-- a clause may answer the call of an atom: its head has the atom's name and number of arguments
abbrev pub fits : Atom → Atom → Bool
fits a head = nat_eq a.name head.name && nat_eq (length a.arguments) (length head.arguments)
