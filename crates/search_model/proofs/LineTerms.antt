-- The name of a declared formula with new variables, cell by cell.
use Rattle.std.specs.Prelude.{◌≡◌, ℕ, zero, suc, ◌+◌, ◌-◌, ◌<◌, ◌≤◌, List, [], ◌∷◌, ◌++◌, Some, replicate, refl}
use Rattle.std.proofs.Common.{ap, ap₂, sym, ◌∙◌, arith, append-nil}
use Rattle.fpc_terms.specs.declared.cell.Cell.{Cell}
use Rattle.fpc_terms.specs.declared.cell.Cell.TheVariants.{Var, App}
use Rattle.fpc_terms.specs.Open.{Level, later}
use Rattle.fpc_terms.specs.Term.{Term, app, count, all_before, cells_of, term_of, IsOneTerm, term_of-cells_of}
use Rattle.polarised_formulas.specs.declared.step.Step.{Step}
use Rattle.search_model.specs.Lines.{Line, arguments_from}
use Rattle.search_model.specs.Search.{Goal}
use Rattle.search_model.specs.Table.{ItemOn}

count_arguments : (s : ℕ → Term) (i m : ℕ) → count (arguments_from s i m) ≡ m
count_arguments s i zero = refl
count_arguments s i (suc m) = ap suc (count_arguments s (suc i) m)

-- the cells of so many new variables, from the one with number i on
abbrev pub cells_left : ℕ → ℕ → ℕ → List Cell
cells_left fresh i m = all_before (arguments_from (later fresh) i m) []

-- the first of them, where one is left
pub next-cell : (fresh i n : ℕ) → i < n
    → cells_left fresh i (n - i) ≡ Var (fresh + i) ∷ cells_left fresh (i + 1) (n - (i + 1))
next-cell fresh i n lt =
    let left : n - i ≡ suc (n - (i + 1)) = omega (arith, lt) in
    let next : suc i ≡ i + 1 = omega arith in
    ap (cells_left fresh i) left
    ∙ ap (λ j. Var (fresh + i) ∷ cells_left fresh j (n - (i + 1))) next

declared_cells : (name fresh n : ℕ)
    → App name n ∷ cells_left fresh 0 n ≡ cells_of (app name (arguments_from (later fresh) 0 n))
declared_cells name fresh n =
    ap (λ k. App name k ∷ cells_left fresh 0 n) (sym (count_arguments (later fresh) 0 n))

module _ (cells : List Cell) (name fresh n : ℕ) (is : cells ≡ App name n ∷ cells_left fresh 0 n) where
  same_cells : cells ≡ cells_of (app name (arguments_from (later fresh) 0 n))
  same_cells = is ∙ declared_cells name fresh n

  -- the cells are those of the term
  pub term_of-declared : term_of cells ≡ app name (arguments_from (later fresh) 0 n)
  term_of-declared = ap term_of same_cells ∙ term_of-cells_of (app name (arguments_from (later fresh) 0 n))

  pub one_declared : IsOneTerm cells
  one_declared = ap cells_of term_of-declared ∙ sym same_cells

-- where no variable is left, the cells are all
pub cells-end : (cells : List Cell) (fresh i n : ℕ) (all : List Cell) → n ≤ i
    → cells ++ cells_left fresh i (n - i) ≡ all → cells ≡ all
cells-end cells fresh i n all end e =
    let none : 0 ≡ n - i = omega (arith, end) in
    sym (append-nil cells) ∙ ap (λ m. cells ++ cells_left fresh i m) none ∙ e

module _ {S : Type 0} where
  abbrev line : List (Goal (ItemOn S) Step) → List Level → Line S
  line goals new = record { goals = goals; new = new }

  -- a goal list that was begun without variables, with those that were added
  pub with_levels : (found begun cut : Line S) (n m level : ℕ)
      → found ≡ record begun { new = replicate n (Some level) } → begun ≡ record cut { new = [] }
      → cut.new ≡ replicate m (Some level) → n ≤ m → m ≤ n → found ≡ cut
  with_levels found begun cut n m level e b c low high =
      let same : n ≡ m = omega (arith, low, high) in
      e ∙ ap₂ line (ap (λ (l : Line S). l.goals) b)
      (ap (λ k. replicate k (Some level)) same ∙ sym c)
