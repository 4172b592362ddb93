-- A problem that is printed is read back.
use Rattle.std.specs.Prelude.{◌≡◌, ℕ, ◌≤◌, ◌^◌, List, [], ◌∷◌}
use Rattle.fpc_base.specs.declared.tokens.lexeme.Sign.TheVariants as sign
use Rattle.fpc_base.specs.Lexeme.{a_sign, Item, items_of}
use Rattle.fpc_base.specs.Reading.{ReadsAll}
use Rattle.fpc_terms.specs.Name.{Agrees, HasName}
use Rattle.polarised_formulas.specs.declared.logic.Logic.{Logic}
use Rattle.polarised_formulas.specs.Formula.{Formula, IsClosed, IsOfLogic}
use Rattle.polarised_formulas.specs.Text.{problem_text}
use Rattle.polarised_formulas.specs.Written.{WrittenFormula, formula_tokens, formula_meant, logic_word, IsProblem}
use Rattle.polarised_formulas.specs.Place.{ProblemLimits}
use Rattle.polarised_formulas.specs.WrittenOf.{written_of, HasNames}
use Rattle.polarised_formulas.specs.Size.{depth_of, HasFewArguments}
use Rattle.polarised_formulas.specs.Spoken.{Says}
use Rattle.polarised_formulas.specs.EachName.{EachNameIn}

-- a problem of the logic within the limits, whose names are numbers in the table
pub record IsPrintable (names : List (List ℕ)) (logic : Logic) (f : Formula) : Type 0 where
  pub is_closed : IsClosed f
  pub in_logic : IsOfLogic logic f
  pub has_names : HasNames names f
  pub deep : depth_of f ≤ 10000
  pub few : HasFewArguments f

-- the items are read as a problem of the logic; its names are in the table, and with their numbers it means the formula
pub record ReadsAs (names : List (List ℕ)) (number : List ℕ → ℕ) (items : List Item) (logic : Logic) (f : Formula) : Type 0 where
  pub written : WrittenFormula
  pub read : ReadsAll IsProblem ProblemLimits [] items (record { logic = logic; formula = written })
  pub in_table : EachNameIn (HasName names) written
  pub meant : formula_meant number [] [] written ≡ f

-- the text of a problem says the tokens of its written formula, and nothing else
abbrev pub TextIsScanned : Type 0
TextIsScanned = (names : List (List ℕ)) (logic : Logic) (f : Formula) → depth_of f ≤ 2 ^ 64 → IsClosed f → HasNames names f
    → Says (logic_word logic ∷ formula_tokens logic (written_of names 0 f) (a_sign sign.Dot ∷ [])) (items_of (problem_text names logic f))

-- the text of a problem within the limits is read as the formula
abbrev pub TextIsRead : Type 0
TextIsRead = (names : List (List ℕ)) (number : List ℕ → ℕ) (logic : Logic) (f : Formula) → Agrees number names → IsPrintable names logic f
    → ReadsAs names number (items_of (problem_text names logic f)) logic f

-- what was read is a problem within the limits
abbrev pub ReadIsPrintable : Type 0
ReadIsPrintable = (names : List (List ℕ)) (number : List ℕ → ℕ) (bytes : List ℕ) (logic : Logic) (f : Formula) → Agrees number names
    → ReadsAs names number (items_of bytes) logic f → IsPrintable names logic f

-- the text of what was read is read as the same formula
abbrev pub ReadIsReadBack : Type 0
ReadIsReadBack = (names : List (List ℕ)) (number : List ℕ → ℕ) (bytes : List ℕ) (logic : Logic) (f : Formula) → Agrees number names
    → ReadsAs names number (items_of bytes) logic f → ReadsAs names number (items_of (problem_text names logic f)) logic f
