-- Open terms: terms with variables. A variable's level says which eigenvariables may stand in what it becomes.
use Rattle.std.specs.Prelude.{ℕ, ◌+◌, ◌<◌, ◌≤◌, nat_eq, if◌then◌else◌, min, Option, Some, None, List, get_or, set}
use Rattle.std.specs.List.{All}
use Rattle.fpc_terms.specs.Term.{Term, Args, eigen, bound, variable, app, no_args, arg, Each, Never, Always, IsProperTerm, InScope}

-- a ground term: it has no variable and no bound index, and any eigenvariables
abbrev pub IsGround : Term → Type 0
IsGround t = IsProperTerm Always t

-- an open term whose variables are numbered below k: it has no bound index
abbrev pub IsOpen : ℕ → Term → Type 0
IsOpen k t = Each Always Never (λ n. n < k) t

-- open terms
abbrev pub AreOpen : ℕ → List Term → Type 0
AreOpen k ts = All (IsOpen k) ts

-- t for the variable v, and each other variable as it is
abbrev pub at_one : ℕ → Term → ℕ → Term
at_one v t n = if nat_eq n v then t else variable n

-- each variable k numbers later
abbrev pub later : ℕ → ℕ → Term
later k n = variable (k + n)

-- the same constant for each variable
abbrev pub constant : ℕ → ℕ → Term
constant name n = app name no_args

-- A level is a number or none. None is above every number.
abbrev pub Level : Type 0
Level = Option ℕ

-- the level of a variable, where the levels stand in the order of the variables' numbers
abbrev pub level_of : List Level → ℕ → Level
level_of levels n = get_or levels n None

-- the lower of two levels
abbrev pub lower : Level → Level → Level
lower None l = l
lower (Some a) None = Some a
lower (Some a) (Some b) = Some (min a b)

-- the first level is at most the second
abbrev pub IsAtMost : Level → Level → Type 0
IsAtMost a None = Unit {0}
IsAtMost None (Some k) = ⊥
IsAtMost (Some j) (Some k) = j ≤ k

abbrev mutual
  -- each variable of the term whose level is above l gets the level l
  pub lower_in : Level → Term → List Level → List Level
  lower_in l (eigen n) levels = levels
  lower_in l (bound k) levels = levels
  lower_in l (variable n) levels = set levels n (lower l (level_of levels n))
  lower_in l (app f ts) levels = lower_in_args l ts levels

  pub lower_in_args : Level → Args → List Level → List Level
  lower_in_args l no_args levels = levels
  lower_in_args l (arg t ts) levels = lower_in_args l ts (lower_in l t levels)

-- in scope at a level: the eigenvariables are below it, where it is a number
abbrev pub IsScopedAt : Level → Term → Type 0
IsScopedAt None t = Unit {0}
IsScopedAt (Some l) t = InScope l t

-- an open term that is in scope at a level, under these levels of its variables
abbrev pub IsOpenAt : List Level → Level → Term → Type 0
IsOpenAt levels None t = Unit {0}
IsOpenAt levels (Some l) t = Each (λ m. m < l) Never (λ n. IsAtMost (level_of levels n) (Some l)) t

-- A closing: a ground term for each variable, in scope at the variable's level.
pub record IsClosing (levels : List Level) (s : ℕ → Term) : Type 0 where
  pub ground : (n : ℕ) → IsGround (s n)
  pub in_scope : (n : ℕ) → IsScopedAt (level_of levels n) (s n)
