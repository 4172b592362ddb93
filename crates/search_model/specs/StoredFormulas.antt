-- Stored formulas with their indexes, of the sequents of either logic.
use Rattle.std.specs.Prelude.{ℕ, List}
use Rattle.fpc_terms.specs.Open.{IsOpen, Level}
use Rattle.fpc_terms.specs.Term.{Term, put}
use Rattle.polarised_formulas.specs.OpenFormula.{put_formula, IsOpenFormula, IsScopedFormula}
use Rattle.search_model.specs.declared.stored.Stored.{Stored}

-- a stored formula with a term for each variable, in its index too
abbrev pub put_stored : (ℕ → Term) → Stored → Stored
put_stored s i = record { index = put s i.index; formula = put_formula s i.formula }

-- the index and the formula are open, with variables numbered below k
abbrev pub IsOpenStored : ℕ → Stored → Type 0
IsOpenStored k i = IsOpen k i.index × IsOpenFormula k i.formula

-- The formula is in scope at level n, under these levels of its variables. Of the index nothing is
-- asked.
abbrev pub IsScopedStored : List Level → ℕ → Stored → Type 0
IsScopedStored levels n i = IsScopedFormula levels n i.formula
