-- Plain texts without the end of their line, with the names of a table, and what a reader tells of bytes.
use Rattle.std.specs.Prelude.{◌≡◌, ℕ, ◌≤◌, ◌↔◌, nat_eq, false, List, [], ◌∷◌, ◌++◌, length}
use Rattle.fpc_terms.specs.Name.{Agrees, AreDifferent}
use Rattle.fpc_terms.specs.Term.{Term}
use Rattle.fpc_terms.specs.Text.{name_in, term_text}
use Rattle.fpc_terms.specs.Printing.{HasNamesBelow}
use Rattle.polarised_formulas.specs.Printing.{AllNamesBelow}
use Rattle.polarised_formulas.specs.declared.logic.Logic.{Logic}
use Rattle.polarised_formulas.specs.Formula.{Formula}
use Rattle.polarised_formulas.specs.Text.{plain_text}
use Rattle.polarised_formulas.specs.PlainReading.{Reading, Next, on, whole_term, whole_formula, wrong, next, run, Use, of_term, of_formula, start}
use Rattle.polarised_formulas.specs.PlainForm.{IsPlainTerm, IsPlainFormula, plain_term, plain_formula, IsLine, GivesBack}
use Rattle.polarised_formulas.specs.Numbering.{number_in, text_in}

-- the bytes are the text of what is wanted: a term, or a formula of the logic
abbrev pub IsText : (ℕ → List ℕ) → (List ℕ → ℕ) → Logic → Use → List ℕ → Type 0
IsText text number logic of_term bytes = (t : Term) × IsPlainTerm text number 0 t × (plain_term text t [] ≡ bytes)
IsText text number logic of_formula bytes = (f : Formula) × IsPlainFormula text number logic 0 f × (plain_formula text logic 0 f [] ≡ bytes)

-- the bytes begin such a text, or are one
abbrev pub BeginsText : (ℕ → List ℕ) → (List ℕ → ℕ) → Logic → Use → List ℕ → Type 0
BeginsText text number logic wanted bytes = (more : List ℕ) × IsText text number logic wanted (bytes ++ more)

-- the line has not ended, and no byte was wrong
abbrev pub IsOn : Next → Type 0
IsOn (on q) = Unit {0}
IsOn (whole_term t) = ⊥
IsOn (whole_formula f) = ⊥
IsOn wrong = ⊥

-- the reading stands inside a line exactly where the bytes begin a text of what is wanted
abbrev pub OnBegins : Type 0
OnBegins = (text : ℕ → List ℕ) (number : List ℕ → ℕ) → GivesBack text number → (logic : Logic) (wanted : Use) (bytes : List ℕ) → IsOn (run number logic (start wanted) bytes) ↔ BeginsText text number logic wanted bytes

-- where a line ends, and where it does not
abbrev pub EndsAt : ℕ → Next → Type 0
EndsAt b (on q) = nat_eq b 10 ≡ false
EndsAt b (whole_term t) = b ≡ 10
EndsAt b (whole_formula f) = b ≡ 10
EndsAt b wrong = Unit {0}

-- a line ends with the byte 10, and this byte stands nowhere inside one
abbrev pub LineEnds : Type 0
LineEnds = (number : List ℕ → ℕ) (logic : Logic) (q : Reading) (b : ℕ) → EndsAt b (next number logic q b)

-- a line by one naming is one by each naming that gives all names back
abbrev pub LinesAreShared : Type 0
LinesAreShared = (text text' : ℕ → List ℕ) (number number' : List ℕ → ℕ) → GivesBack text' number' → (logic : Logic) (wanted : Use) (bytes : List ℕ) → IsLine text number logic wanted bytes → IsLine text' number' logic wanted bytes

-- the term is plain with the names of a table
abbrev pub IsPlainTermIn : List (List ℕ) → Term → Type 0
IsPlainTermIn names t = IsPlainTerm (name_in names) (number_in (length names) names) 0 t

-- the formula is plain with the names of a table
abbrev pub IsPlainIn : List (List ℕ) → Logic → Formula → Type 0
IsPlainIn names logic f = IsPlainFormula (name_in names) (number_in (length names) names) logic 0 f

-- by each numbering that agrees with the table the bytes with the end of a line are read as the term
abbrev pub ReadsTerm : List (List ℕ) → Logic → List ℕ → Term → Type 0
ReadsTerm names logic bytes t = (number : List ℕ → ℕ) → Agrees number names → run number logic (start of_term) (bytes ++ 10 ∷ []) ≡ whole_term t

-- by each numbering that agrees with the table the bytes with the end of a line are read as the formula
abbrev pub ReadsFormula : List (List ℕ) → Logic → List ℕ → Formula → Type 0
ReadsFormula names logic bytes f = (number : List ℕ → ℕ) → Agrees number names → run number logic (start of_formula) (bytes ++ 10 ∷ []) ≡ whole_formula f

-- a term is read with a table exactly from its text with the names of the table
abbrev pub TermIsRead : Type 0
TermIsRead = (names : List (List ℕ)) → AreDifferent names → (logic : Logic) (bytes : List ℕ) (t : Term) → ReadsTerm names logic bytes t ↔ (IsPlainTermIn names t × (term_text names t ≡ bytes))

-- a formula is read with a table exactly from its text with the names of the table
abbrev pub FormulaIsRead : Type 0
FormulaIsRead = (names : List (List ℕ)) → AreDifferent names → (logic : Logic) (bytes : List ℕ) (f : Formula) → ReadsFormula names logic bytes f ↔ (IsPlainIn names logic f × (plain_text names logic f ≡ bytes))

-- the numbering of a table of different names agrees with it, and gives all names back
abbrev pub TableHasNumbering : Type 0
TableHasNumbering = (least : ℕ) (names : List (List ℕ)) → AreDifferent names → length names ≤ least → Agrees (number_in least names) names × GivesBack (text_in least names) (number_in least names)

-- the names of a plain term stand in the table
abbrev pub PlainTermIsNamed : Type 0
PlainTermIsNamed = (names : List (List ℕ)) (t : Term) → IsPlainTermIn names t → HasNamesBelow (length names) t

-- the names of a plain formula stand in the table
abbrev pub PlainFormulaIsNamed : Type 0
PlainFormulaIsNamed = (names : List (List ℕ)) (logic : Logic) (f : Formula) → IsPlainIn names logic f → AllNamesBelow (length names) f
