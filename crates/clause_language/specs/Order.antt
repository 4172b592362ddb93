-- Variables that occur first in the order of their numbers.
use Rattle.std.specs.Prelude.{ℕ, suc, ◌≤◌, nat_eq, if◌then◌else◌, List, [], ◌∷◌}
use Rattle.fpc_terms.specs.Term.{Term, Args, eigen, bound, variable, app, no_args, arg}
use Rattle.clause_language.specs.declared.atom.Atom.{Atom}
use Rattle.clause_language.specs.declared.clause.Clause.{Clause}
use Rattle.clause_language.specs.Text.{args_of}

abbrev mutual
  -- how many variables there are up to the end of a term, where there are n before it
  pub variables_to : Term → ℕ → ℕ
  variables_to (eigen k) n = n
  variables_to (bound k) n = n
  variables_to (variable v) n = if nat_eq v n then suc n else n
  variables_to (app f ts) n = variables_to_all ts n

  pub variables_to_all : Args → ℕ → ℕ
  variables_to_all no_args n = n
  variables_to_all (arg t ts) n = variables_to_all ts (variables_to t n)

abbrev mutual
  -- where there are n variables before the term, each variable in it is one of those so far or the next one; and the term has no other leaves
  pub IsOrdered : Term → ℕ → Type 0
  IsOrdered (eigen k) n = ⊥
  IsOrdered (bound k) n = ⊥
  IsOrdered (variable v) n = v ≤ n
  IsOrdered (app f ts) n = AreOrdered ts n

  pub AreOrdered : Args → ℕ → Type 0
  AreOrdered no_args n = Unit {0}
  AreOrdered (arg t ts) n = IsOrdered t n × AreOrdered ts (variables_to t n)

-- an atom as a term
abbrev pub term_of_atom : Atom → Term
term_of_atom a = app a.name (args_of a.arguments)

-- the atoms of a clause, one after another, as arguments
abbrev pub atoms_as_args : List Atom → Args
atoms_as_args [] = no_args
atoms_as_args (a ∷ more) = arg (term_of_atom a) (atoms_as_args more)

-- the head and the body of a clause
abbrev pub atoms_of : Clause → Args
atoms_of c = atoms_as_args (c.head ∷ c.body)
