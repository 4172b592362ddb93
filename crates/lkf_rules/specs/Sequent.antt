-- Sequents of LKF, without certificates, indexes and levels.
use Rattle.std.specs.Prelude.{◌≡◌, ◌≢◌, ℕ, ◌<◌, List, [], ◌∷◌, Some}
use Rattle.std.specs.List.{AllByRecursion}
use Rattle.std.specs.Prelude.{slice_get}
use Rattle.polarised_formulas.specs.Formula.{Formula, IsProper, IsLkf}

-- a sequent of the negative or of the positive phase
pub data Sequent : Type 0 where
  -- the stored formulas and those still to be worked on
  up : (stored work : List Formula) → Sequent
  -- the stored formulas and the one under focus
  down : (stored : List Formula) → (focus : Formula) → Sequent

-- no formula of the sequent has a variable or a free bound index, and the eigenvariables are as e says
abbrev pub IsProperSequent : (ℕ → Type 0) → Sequent → Type 0
IsProperSequent e (up stored work) = AllByRecursion (IsProper e) stored × AllByRecursion (IsProper e) work
IsProperSequent e (down stored focus) = AllByRecursion (IsProper e) stored × IsProper e focus

-- the eigenvariable stands nowhere in the sequent
abbrev pub IsFresh : ℕ → Sequent → Type 0
IsFresh j c = IsProperSequent (λ n. n ≢ j) c

-- the formula stands in the list
abbrev pub StandsIn : List Formula → Formula → Type 0
StandsIn fs f = (k : ℕ) × (slice_get fs k ≡ Some f)

-- each formula of the sequent is one of LKF
abbrev pub IsLkfSequent : Sequent → Type 0
IsLkfSequent (up stored work) = AllByRecursion IsLkf stored × AllByRecursion IsLkf work
IsLkfSequent (down stored focus) = AllByRecursion IsLkf stored × IsLkf focus

-- the root sequent of a goal
abbrev pub root_of : Formula → Sequent
root_of f = up [] (f ∷ [])

-- a sequent with its level, which is the number of `all` steps on the way to it
abbrev pub Levelled : Type 0
Levelled = ℕ × Sequent

-- the sequent's eigenvariables are below its level
abbrev pub IsInScope : Levelled → Type 0
IsInScope p = IsProperSequent (λ m. m < p.0) p.1
