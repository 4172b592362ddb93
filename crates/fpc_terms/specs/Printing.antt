-- How the text of a term comes about cell by cell, and which names a term has.
-- A list of numbers stands for the open parentheses, the innermost first: the number counts the arguments behind the one at hand.
use Rattle.std.specs.Prelude.{◌≡◌, ℕ, zero, suc, ◌+◌, ◌<◌, List, [], ◌∷◌, ◌++◌, length, take}
use Rattle.std.specs.Fmt.{decimal}
use Rattle.fpc_terms.specs.declared.cell.Cell.{Cell}
use Rattle.fpc_terms.specs.declared.cell.Cell.TheVariants.{Eigen, Bound, Var, App}
use Rattle.fpc_terms.specs.Term.{Term, Args, eigen, bound, variable, app, no_args, arg}
use Rattle.fpc_terms.specs.Text.{Leaves}

-- some bytes, and maybe more behind them
pub record StartsWith (front whole : List ℕ) : Type 0 where
  pub taken : take (length front) whole ≡ front

abbrev mutual
  -- each name of the term has a number below n
  pub HasNamesBelow : ℕ → Term → Type 0
  HasNamesBelow n (eigen m) = Unit {0}
  HasNamesBelow n (bound k) = Unit {0}
  HasNamesBelow n (variable v) = Unit {0}
  HasNamesBelow n (app f ts) = (f < n) × HaveNamesBelow n ts

  -- each name of the arguments has a number below n
  pub HaveNamesBelow : ℕ → Args → Type 0
  HaveNamesBelow n no_args = Unit {0}
  HaveNamesBelow n (arg t ts) = HasNamesBelow n t × HaveNamesBelow n ts

-- the name of a cell, where it has one, has a number below n
abbrev pub IsNamedBelow : ℕ → Cell → Type 0
IsNamedBelow n (Eigen m) = Unit {0}
IsNamedBelow n (Bound k) = Unit {0}
IsNamedBelow n (Var v) = Unit {0}
IsNamedBelow n (App f k) = f < n

-- the names of the cells have numbers below n
abbrev pub AreNamedBelow : ℕ → List Cell → Type 0
AreNamedBelow n [] = Unit {0}
AreNamedBelow n (c ∷ cs) = IsNamedBelow n c × AreNamedBelow n cs

-- a leaf, or a name without its arguments
abbrev pub head_text : Leaves → Cell → List ℕ
head_text leaves (Eigen n) = 36 ∷ decimal n
head_text leaves (Bound k) = leaves.bound k
head_text leaves (Var v) = leaves.variable v
head_text leaves (App f n) = leaves.name f

-- how many arguments stand behind a cell
abbrev pub arguments_of : Cell → ℕ
arguments_of (Eigen n) = 0
arguments_of (Bound k) = 0
arguments_of (Var v) = 0
arguments_of (App f n) = n

-- behind a term: parentheses that close, and a comma where one more argument comes
abbrev pub end_text : List ℕ → List ℕ
end_text [] = []
end_text (zero ∷ open_counts) = 41 ∷ end_text open_counts
end_text (suc n ∷ open_counts) = 44 ∷ []

-- the parentheses that are open then
abbrev pub end_counts : List ℕ → List ℕ
end_counts [] = []
end_counts (zero ∷ open_counts) = end_counts open_counts
end_counts (suc n ∷ open_counts) = n ∷ open_counts

-- behind the head of a cell with n arguments: the parenthesis that opens, where there are any
abbrev pub behind_text : ℕ → List ℕ → List ℕ
behind_text zero open_counts = end_text open_counts
behind_text (suc n) open_counts = 40 ∷ []

-- the parentheses that are open then
abbrev pub behind_counts : ℕ → List ℕ → List ℕ
behind_counts zero open_counts = end_counts open_counts
behind_counts (suc n) open_counts = n ∷ open_counts

-- the text of the cells that are left
abbrev pub cells_text : Leaves → List ℕ → List Cell → List ℕ
cells_text leaves open_counts [] = []
cells_text leaves open_counts (c ∷ cs) =
    head_text leaves c ++ (behind_text (arguments_of c) open_counts ++ cells_text leaves (behind_counts (arguments_of c) open_counts) cs)

-- how many signs so many arguments take beside their texts: two parentheses, and a comma between one and the next
abbrev pub signs_around : ℕ → ℕ
signs_around zero = 0
signs_around (suc n) = n + 2

-- how many bytes a cell adds to the text
abbrev pub cell_length : Leaves → Cell → ℕ
cell_length leaves c = length (head_text leaves c) + signs_around (arguments_of c)
