-- Which terms and formulas are plain with the names of a table, and so are read back from what is printed, in words of the trees alone.
use Rattle.std.specs.Prelude.{◌≡◌, ℕ, ◌<◌, true, false, ◌↔◌, List, length}
use Rattle.fpc_terms.specs.Name.{AreDifferent}
use Rattle.fpc_terms.specs.Term.{Term, Args, eigen, bound, variable, app, no_args, arg, IsProperTerm}
use Rattle.fpc_terms.specs.Text.{name_in, term_text}
use Rattle.polarised_formulas.specs.declared.logic.Logic.{Logic}
use Rattle.polarised_formulas.specs.Formula.{Formula, truth, falsity, atom, conj, disj, implies, for_all, exists, IsProper, IsOfLogic}
use Rattle.polarised_formulas.specs.Text.{plain_text}
use Rattle.polarised_formulas.specs.PlainReading.{is_keyword, of_term, of_formula}
use Rattle.polarised_formulas.specs.PlainForm.{begins_name, HasNineDigits}
use Rattle.polarised_formulas.specs.PlainTexts.{IsPlainTermIn, IsPlainIn}
use Rattle.polarised_formulas.specs.PlainLimits.{a_term, a_formula, FitsTerm, FitsFormula, HasOutcome}

-- a number of the table whose text is a name and no keyword
abbrev pub IsNamed : List (List ℕ) → ℕ → Type 0
IsNamed names f = (f < length names) × (begins_name (name_in names f) ≡ true) × (is_keyword (name_in names f) ≡ false)

abbrev mutual
  -- each name of a term is so
  pub IsNamedTerm : List (List ℕ) → Term → Type 0
  IsNamedTerm names (eigen k) = Unit {0}
  IsNamedTerm names (bound k) = Unit {0}
  IsNamedTerm names (variable v) = Unit {0}
  IsNamedTerm names (app f ts) = IsNamed names f × AreNamedTerms names ts

  -- so is each name of the arguments
  pub AreNamedTerms : List (List ℕ) → Args → Type 0
  AreNamedTerms names no_args = Unit {0}
  AreNamedTerms names (arg t ts) = IsNamedTerm names t × AreNamedTerms names ts

-- so is each name of a formula
abbrev pub IsNamedFormula : List (List ℕ) → Formula → Type 0
IsNamedFormula names (truth p) = Unit {0}
IsNamedFormula names (falsity p) = Unit {0}
IsNamedFormula names (atom positive f ts) = IsNamed names f × AreNamedTerms names ts
IsNamedFormula names (conj p a b) = IsNamedFormula names a × IsNamedFormula names b
IsNamedFormula names (disj p a b) = IsNamedFormula names a × IsNamedFormula names b
IsNamedFormula names (implies a b) = IsNamedFormula names a × IsNamedFormula names b
IsNamedFormula names (for_all a) = IsNamedFormula names a
IsNamedFormula names (exists a) = IsNamedFormula names a

-- a term is plain with a table of different names exactly where it has no variable and no bound index, small eigenvariables, and names of the table
abbrev pub TermIsPlain : Type 0
TermIsPlain = (names : List (List ℕ)) → AreDifferent names → (t : Term) → IsPlainTermIn names t ↔ (IsProperTerm HasNineDigits t × IsNamedTerm names t)

-- A formula within the limits is plain with a table of different names exactly where it is of the logic and has no variable and no free bound index, small
-- eigenvariables, and names of the table.
abbrev pub FormulaIsPlain : Type 0
FormulaIsPlain = (names : List (List ℕ)) → AreDifferent names → (logic : Logic) (f : Formula) → FitsFormula (name_in names) 0 f
    → IsPlainIn names logic f ↔ (IsProper HasNineDigits f × IsOfLogic logic f × IsNamedFormula names f)

-- the text of a term is read back exactly where the term is so and keeps the limits
abbrev pub TermIsReadBack : Type 0
TermIsReadBack = (names : List (List ℕ)) → AreDifferent names → (logic : Logic) (t : Term)
    → HasOutcome names logic of_term (term_text names t) (a_term t) ↔ (IsProperTerm HasNineDigits t × IsNamedTerm names t × FitsTerm (name_in names) t)

-- the text of a formula is read back exactly where the formula is so and keeps the limits
abbrev pub FormulaIsReadBack : Type 0
FormulaIsReadBack = (names : List (List ℕ)) → AreDifferent names → (logic : Logic) (f : Formula)
    → HasOutcome names logic of_formula (plain_text names logic f) (a_formula f) ↔ (IsProper HasNineDigits f × IsOfLogic logic f × IsNamedFormula names f × FitsFormula (name_in names) 0 f)
