-- Runs of a machine whose steps take one unit each.
use Rattle.std.specs.Prelude.{ℕ, zero, suc, ◌+◌, Option, Some, None}

-- how a run within a budget ends: with an answer and the units that were taken, or where a unit is
-- needed and all were taken
pub data Ending (R : Type 0) : Type 0 where
  ended : R → (units : ℕ) → Ending R
  spent : Ending R

-- one unit more
abbrev pub one_more : {R : Type 0} → Ending R → Ending R
one_more (ended r u) = ended r (suc u)
one_more spent = spent

-- so many units more
abbrev pub raise : {R : Type 0} → ℕ → Ending R → Ending R
raise k (ended r u) = ended r (k + u)
raise k spent = spent

-- the run from a state within a budget
abbrev pub run : {S R : Type 0} → (S → Option R) → (S → S) → ℕ → S → Ending R
run answer step zero s = elim (answer s) [ Some r ↦ ended r 0 | None ↦ spent ]
run answer step (suc n) s =
    elim (answer s) [ Some r ↦ ended r 0 | None ↦ one_more (run answer step n (step s)) ]
