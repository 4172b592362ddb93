-- What a file of a problem, or the front of a source as a formula, is read as, and how it is refused, is one thing.
use Rattle.std.specs.Prelude.{◌≡◌, ℕ, ◌≤◌, List, [], length}
use Rattle.fpc_base.specs.declared.refusal.Refusal.{Refusal}
use Rattle.fpc_base.specs.declared.tokens.Tokens.{Tokens}
use Rattle.fpc_base.specs.Lexeme.{Item, items_of, items_left}
use Rattle.fpc_base.specs.Reading.{ReadsAll, RefusesAll, ReadsFront, RefusesFront}
use Rattle.fpc_base.specs.Tokens.{source_of}
use Rattle.polarised_formulas.specs.declared.logic.Logic.{Logic}
use Rattle.polarised_formulas.specs.Written.{WrittenProblem, IsProblem, WrittenFormula, IsFormula}
use Rattle.polarised_formulas.specs.Place.{ProblemLimits, FormulaLimits}

-- the items are one problem
abbrev pub IsReadOnce : Type 0
IsReadOnce = (items : List Item) (v w : WrittenProblem) → ReadsAll IsProblem ProblemLimits [] items v → ReadsAll IsProblem ProblemLimits [] items w → v ≡ w

-- the items have one refusal
abbrev pub IsRefusedOnce : Type 0
IsRefusedOnce = (n : ℕ) (items : List Item) (r s : Refusal) → RefusesAll IsProblem ProblemLimits n [] items r → RefusesAll IsProblem ProblemLimits n [] items s → r ≡ s

-- what is read is not refused
abbrev pub IsNotBoth : Type 0
IsNotBoth = (n : ℕ) (items : List Item) (w : WrittenProblem) (r : Refusal) → ReadsAll IsProblem ProblemLimits [] items w → RefusesAll IsProblem ProblemLimits n [] items r → ⊥

-- a refusal lies within the file, or at its end
abbrev pub IsRefusedWithin : Type 0
IsRefusedWithin = (bytes : List ℕ) (r : Refusal)
    → RefusesAll IsProblem ProblemLimits (length bytes) [] (items_of bytes) r → r.at ≤ length bytes

-- the items begin with this formula, and the rest of them is left
abbrev pub ReadsFormula : Logic → List (List ℕ) → List Item → WrittenFormula → List Item → Type 0
ReadsFormula logic parameters items w rest =
    ReadsFront (IsFormula logic parameters) (FormulaLimits logic parameters) [] items w rest

-- this is the refusal of the formula at the front of the items, in a source of n bytes
abbrev pub RefusesFormula : Logic → List (List ℕ) → ℕ → List Item → Refusal → Type 0
RefusesFormula logic parameters n items r =
    RefusesFront (IsFormula logic parameters) (FormulaLimits logic parameters) n [] items r

-- the items begin with one formula
abbrev pub FormulaIsReadOnce : Type 0
FormulaIsReadOnce = (logic : Logic) (parameters : List (List ℕ)) (items left more : List Item)
    (v w : WrittenFormula) → ReadsFormula logic parameters items v left
    → ReadsFormula logic parameters items w more → (v ≡ w) × (left ≡ more)

-- the items have one refusal as a formula
abbrev pub FormulaIsRefusedOnce : Type 0
FormulaIsRefusedOnce = (logic : Logic) (parameters : List (List ℕ)) (n : ℕ) (items : List Item)
    (r s : Refusal) → RefusesFormula logic parameters n items r
    → RefusesFormula logic parameters n items s → r ≡ s

-- what is read as a formula is not refused as one
abbrev pub FormulaIsNotBoth : Type 0
FormulaIsNotBoth = (logic : Logic) (parameters : List (List ℕ)) (n : ℕ) (items left : List Item)
    (w : WrittenFormula) (r : Refusal) → ReadsFormula logic parameters items w left
    → RefusesFormula logic parameters n items r → ⊥

-- a refusal as a formula lies within the source, or at its end
abbrev pub FormulaIsRefusedWithin : Type 0
FormulaIsRefusedWithin = (logic : Logic) (parameters : List (List ℕ)) (tokens : Tokens) (r : Refusal)
    → RefusesFormula logic parameters (length (source_of tokens)) (items_left tokens) r
    → r.at ≤ length (source_of tokens)
