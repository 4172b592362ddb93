-- What a reader of a whole text in plain form tells.
use Rattle.std.specs.Prelude.{◌≡◌, ℕ, ◌<◌, ◌≤◌, if◌then◌else◌, nat_le, List, length, ◌⊎◌, Option, Some, None, Result, Ok, Err}
use Rattle.fpc_base.specs.declared.refusal.Code.{Code}
use Rattle.fpc_base.specs.declared.refusal.Code.TheVariants.{TooLarge}
use Rattle.fpc_base.specs.declared.refusal.ParseRefusal.{ParseRefusal}
use Rattle.fpc_base.specs.declared.refusal.ParseRefusal.TheVariants.{Refused, OutOfMemory}
use Rattle.fpc_terms.specs.Name.{Agrees}
use Rattle.fpc_terms.specs.Text.{name_in}
use Rattle.polarised_formulas.specs.Text.{plain_text}
use Rattle.polarised_formulas.specs.Printing.{AllNamesBelow}
use Rattle.polarised_formulas.specs.declared.logic.Logic.{Logic}
use Rattle.polarised_formulas.specs.Formula.{Formula}
use Rattle.polarised_formulas.specs.PlainReading.{Around, alone, in_term, in_atom, Reading, at_formula, in_word, at_name, in_name, behind_formula, in_operator, at_term, in_function, at_eigen, in_eigen, at_index, in_index, behind_term, Next, on, of_formula, start}
use Rattle.polarised_formulas.specs.PlainForm.{GivesBack}
use Rattle.polarised_formulas.specs.PlainTexts.{IsPlainIn}
use Rattle.polarised_formulas.specs.PlainLimits.{limit_of, fault_inside, Outcome, a_formula, refused, outcome, FitsFormula, IsRefused, Comes, ComesRefused}
use Rattle.polarised_formulas.specs.PlainStanding.{Stands}
use Rattle.polarised_formulas.specs.declared.plain.reader.PlainReader.{PlainReader}

-- the term in progress stands in an atom
abbrev pub HasAtom : Around → Type 0
HasAtom alone = ⊥
HasAtom (in_term f ts up) = HasAtom up
HasAtom (in_atom hs positive f ts) = Unit {0}

-- the reading is one of a formula
abbrev pub IsOfFormula : Reading → Type 0
IsOfFormula (at_formula hs) = Unit {0}
IsOfFormula (in_word hs w) = Unit {0}
IsOfFormula (at_name hs positive) = Unit {0}
IsOfFormula (in_name hs positive w) = Unit {0}
IsOfFormula (behind_formula hs f) = Unit {0}
IsOfFormula (in_operator hs a w) = Unit {0}
IsOfFormula (at_term up) = HasAtom up
IsOfFormula (in_function up w) = HasAtom up
IsOfFormula (at_eigen up) = HasAtom up
IsOfFormula (in_eigen up k) = HasAtom up
IsOfFormula (at_index up) = HasAtom up
IsOfFormula (in_index up k) = HasAtom up
IsOfFormula (behind_term up t) = HasAtom up

-- what is told of a byte at a place: first that the text is too large
abbrev pub told_at : ℕ → Option Code → Option Code
told_at place told = if nat_le 67108864 place then Some TooLarge else told

-- a byte inside a text was taken or refused, or memory ran out
abbrev pub IsTaken : Logic → Reading → ℕ → Result (Unit {0}) ParseRefusal → PlainReader → Next → Type 0
IsTaken logic q place (Ok u) r n = (s : Reading) × (n ≡ on s) × Stands logic s r × (told_at place (limit_of q s) ≡ None)
IsTaken logic q place (Err (Refused refusal)) r n = (refusal.at ≡ place) × (told_at place (fault_inside q n) ≡ Some refusal.code)
IsTaken logic q place (Err OutOfMemory) r n = Unit {0}

-- the answer at the end of a text is the outcome there, or memory ran out
abbrev pub IsEnded : ℕ → Result Formula ParseRefusal → Outcome → Type 0
IsEnded place (Ok f) o = o ≡ a_formula f
IsEnded place (Err (Refused refusal)) o = (o ≡ refused refusal.code place) × (refusal.at ≡ place)
IsEnded place (Err OutOfMemory) o = Unit {0}

-- the answer is the outcome of the bytes by each numbering that agrees with the table, or memory ran out
abbrev pub IsAnswer : List (List ℕ) → Logic → List ℕ → Result Formula ParseRefusal → Type 0
IsAnswer names logic bytes (Ok f) = (length bytes ≤ 67108864) × Comes names logic of_formula bytes (a_formula f)
IsAnswer names logic bytes (Err (Refused refusal)) = ComesRefused names logic of_formula bytes refusal.code refusal.at
IsAnswer names logic bytes (Err OutOfMemory) = Unit {0}

-- Why a text is refused at a place: what is told there, within the limit of 67,108,864 bytes, or that there are more of them, and of none in front of that one something is told.
abbrev pub IsPlainRefusal : (ℕ → List ℕ) → (List ℕ → ℕ) → Logic → List ℕ → Code → ℕ → Type 0
IsPlainRefusal text number logic bytes code place =
    (((place < 67108864) ⊎ (length bytes ≤ 67108864)) × IsRefused text number logic of_formula bytes code place)
    ⊎ ((code ≡ TooLarge) × (place ≡ 67108864) × (67108864 < length bytes) × ((c : Code) (earlier : ℕ) → outcome number logic (start of_formula) 0 bytes ≡ refused c earlier → 67108864 ≤ earlier))

-- The answer in terms of texts: the formula whose text the bytes are, which keeps the limits and has no other names than the table's, or why they are refused.
abbrev pub IsExplained : List (List ℕ) → Logic → List ℕ → Result Formula ParseRefusal → Type 0
IsExplained names logic bytes (Ok f) = IsPlainIn names logic f × FitsFormula (name_in names) 0 f × (plain_text names logic f ≡ bytes) × AllNamesBelow (length names) f
IsExplained names logic bytes (Err (Refused refusal)) = (text : ℕ → List ℕ) (number : List ℕ → ℕ) → Agrees number names → GivesBack text number → IsPlainRefusal text number logic bytes refusal.code refusal.at
IsExplained names logic bytes (Err OutOfMemory) = Unit {0}
