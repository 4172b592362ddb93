-- Open formulas and steps: those with variables, for which terms are substituted.
use Rattle.std.specs.Prelude.{ℕ, ◌<◌, Some, List}
use Rattle.fpc_terms.specs.Term.{Term, put, put_all, Always}
use Rattle.fpc_terms.specs.Open.{IsOpen, Level, level_of, IsAtMost}
use Rattle.polarised_formulas.specs.Formula.{Formula, truth, falsity, atom, conj, disj, implies}
use Rattle.polarised_formulas.specs.Formula.{for_all, exists, EachInside, Tied}
use Rattle.polarised_formulas.specs.declared.step.Step.{Step}
use Rattle.polarised_formulas.specs.declared.step.Step.TheVariants.{Exists, Cut}
use Rattle.polarised_formulas.specs.declared.step.Step.TheVariants.{FocLEvery, FocRExists}

-- a term for each variable; it has no bound index, so it goes below quantifiers as it is
abbrev pub put_formula : (ℕ → Term) → Formula → Formula
put_formula s (truth p) = truth p
put_formula s (falsity p) = falsity p
put_formula s (atom b f ts) = atom b f (put_all s ts)
put_formula s (conj p a b) = conj p (put_formula s a) (put_formula s b)
put_formula s (disj p a b) = disj p (put_formula s a) (put_formula s b)
put_formula s (implies a b) = implies (put_formula s a) (put_formula s b)
put_formula s (for_all a) = for_all (put_formula s a)
put_formula s (exists a) = exists (put_formula s a)

-- a step with a term for each variable
abbrev pub put_step : (ℕ → Term) → Step → Step
put_step s (Exists t) = Exists (put s t)
put_step s (Cut f) = Cut (put_formula s f)
put_step s (FocLEvery t) = FocLEvery (put s t)
put_step s (FocRExists t) = FocRExists (put s t)
put_step s e = e

-- any bound index
abbrev pub AnyBound : ℕ → ℕ → Type 0
AnyBound d j = Unit {0}

-- the formula's variables are numbered below k
abbrev pub IsOpenFormula : ℕ → Formula → Type 0
IsOpenFormula k f = EachInside Always AnyBound (λ n. n < k) 0 f

-- the formula is in scope at level n, under these levels of its variables: each variable has a
-- level, which is at most n
abbrev pub IsScopedFormula : List Level → ℕ → Formula → Type 0
IsScopedFormula levels n f =
    EachInside (λ m. m < n) Tied (λ v. IsAtMost (level_of levels v) (Some n)) 0 f

-- the term or formula that a step names is open, with variables numbered below k
abbrev pub IsOpenStep : ℕ → Step → Type 0
IsOpenStep k (Exists t) = IsOpen k t
IsOpenStep k (Cut f) = IsOpenFormula k f
IsOpenStep k (FocLEvery t) = IsOpen k t
IsOpenStep k (FocRExists t) = IsOpen k t
IsOpenStep k _ = Unit {0}
