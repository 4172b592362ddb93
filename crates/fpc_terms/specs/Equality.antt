-- One step of the equality of open terms, as first-order unification with levels takes it.
use Rattle.std.specs.Prelude.{ℕ, Bool, true, false, ◌&&◌, nat_eq, nat_lt, nat_le, if◌then◌else◌, Option, Some, None}
use Rattle.fpc_terms.specs.Term.{Term, Args, eigen, bound, variable, app, no_args, count}
use Rattle.fpc_terms.specs.Open.{Level}

-- What the equality of two terms comes to: nothing is left; equalities of their arguments, from the left; the younger variable becomes the
-- older; a variable becomes another term, once that was walked; a clash.
pub data Equality : Type 0 where
  same : Equality
  parts : (ts us : Args) → Equality
  older : (young old : ℕ) → Equality
  walk : (v : ℕ) → (t : Term) → Equality
  clash : Equality

-- an equality under a condition, else a clash
abbrev pub only_if : Bool → Equality → Equality
only_if true e = e
only_if false e = clash

-- of two variables the one with the greater number is the younger
abbrev pub equality_of_variables : ℕ → ℕ → Equality
equality_of_variables m n = if nat_eq m n then same else if nat_lt m n then older n m else older m n

-- what the equality of two terms comes to
abbrev pub equality : Term → Term → Equality
equality (variable m) (variable n) = equality_of_variables m n
equality (variable m) u = walk m u
equality t (variable n) = walk n t
equality (eigen m) (eigen n) = only_if (nat_eq m n) same
equality (bound m) (bound n) = only_if (nat_eq m n) same
equality (app f ts) (app g us) = only_if (nat_eq f g && nat_eq (count ts) (count us)) (parts ts us)
equality _ _ = clash

-- the eigenvariable is not below the level
abbrev pub is_out_of_scope : Level → ℕ → Bool
is_out_of_scope None m = false
is_out_of_scope (Some l) m = nat_le l m

-- there is a level
abbrev pub has_level : Level → Bool
has_level None = false
has_level (Some l) = true

-- these terms, or none of them at a clash
abbrev pub unless : Bool → Args → Option Args
unless true ts = None
unless false ts = Some ts

-- The walk for the variable v of level l at a node: a clash at v itself, which is the occurs check, and at an eigenvariable that is out of
-- scope; else it goes on to the node's arguments. An open term has no bound index; one would be out of scope at each level.
abbrev pub walked_node : ℕ → Level → Term → Option Args
walked_node v l (eigen m) = unless (is_out_of_scope l m) no_args
walked_node v l (bound k) = unless (has_level l) no_args
walked_node v l (variable n) = unless (nat_eq n v) no_args
walked_node v l (app f ts) = Some ts
