-- The text of a term.
use Rattle.std.specs.Prelude.{ℕ, ◌-◌, nat_le, if◌then◌else◌, List, [], ◌∷◌, ◌++◌, get_or, Option, Some, None}
use Rattle.std.specs.Fmt.{decimal}
use Rattle.fpc_terms.specs.Term.{Term, Args, eigen, bound, variable, app, no_args, arg}

-- how names and the leaves of a term are written, each by its number; an eigenvariable is written in one way only
pub record Leaves : Type 0 where
  pub name : ℕ → List ℕ
  pub bound : ℕ → List ℕ
  pub variable : ℕ → List ℕ

abbrev mutual
  -- the text of a term, before other bytes: an eigenvariable is `$` with its number, arguments are joined by commas without blanks
  pub term_before : Leaves → Term → List ℕ → List ℕ
  term_before leaves (eigen n) rest = 36 ∷ (decimal n ++ rest)
  term_before leaves (bound k) rest = leaves.bound k ++ rest
  term_before leaves (variable v) rest = leaves.variable v ++ rest
  term_before leaves (app f ts) rest = leaves.name f ++ args_before leaves ts rest

  -- the arguments in parentheses, where there are any
  pub args_before : Leaves → Args → List ℕ → List ℕ
  args_before leaves no_args rest = rest
  args_before leaves (arg t ts) rest = 40 ∷ term_before leaves t (more_before leaves ts rest)

  -- the arguments behind one
  pub more_before : Leaves → Args → List ℕ → List ℕ
  more_before leaves no_args rest = 41 ∷ rest
  more_before leaves (arg t ts) rest = 44 ∷ term_before leaves t (more_before leaves ts rest)

-- the name with a number
abbrev pub name_in : List (List ℕ) → ℕ → List ℕ
name_in names k = get_or names k []

-- the leaves in the plain form: `#k` for a bound index, `Vk` for a variable
abbrev pub plain_leaves : (ℕ → List ℕ) → Leaves
plain_leaves name = record { name = name; bound = λ k. 35 ∷ decimal k; variable = λ v. 86 ∷ decimal v }

-- the text of a term, with the names of a table
abbrev pub term_text : List (List ℕ) → Term → List ℕ
term_text names t = term_before (plain_leaves (name_in names)) t []

-- the room that is left behind so many bytes, where they fit
abbrev pub room_left : ℕ → ℕ → Option ℕ
room_left room n = if nat_le n room then Some (room - n) else None
