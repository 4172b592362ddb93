-- The limits of plain texts, and what a reader of a whole text tells of its bytes.
use Rattle.std.specs.Prelude.{◌≡◌, ℕ, suc, ◌<◌, ◌≤◌, ◌↔◌, if◌then◌else◌, nat_lt, nat_le, List, [], ◌∷◌, ◌++◌, length, drop, Option, Some, None}
use Rattle.fpc_base.specs.declared.refusal.Code.{Code}
use Rattle.fpc_base.specs.declared.refusal.Code.TheVariants.{Unexpected, TooDeep, LongName, ManyArguments, TooLarge}
use Rattle.fpc_terms.specs.Name.{Agrees, AreDifferent, Grows}
use Rattle.fpc_terms.specs.Term.{Term, Args, eigen, bound, variable, app, no_args, arg, count}
use Rattle.fpc_terms.specs.Text.{name_in, term_text}
use Rattle.polarised_formulas.specs.declared.logic.Logic.{Logic}
use Rattle.polarised_formulas.specs.Formula.{Formula, truth, falsity, atom, conj, disj, implies, for_all, exists}
use Rattle.polarised_formulas.specs.Text.{plain_text}
use Rattle.polarised_formulas.specs.PlainReading.{Around, alone, in_term, in_atom, Reading, at_formula, in_word, at_name, in_name, behind_formula, in_operator, at_term, in_function, at_eigen, in_eigen, at_index, in_index, behind_term, Next, on, whole_term, whole_formula, wrong, next, run, Use, of_term, of_formula, start}
use Rattle.polarised_formulas.specs.PlainForm.{GivesBack}
use Rattle.polarised_formulas.specs.PlainTexts.{IsText, BeginsText, IsPlainTermIn, IsPlainIn}

-- the bytes of the name in progress
abbrev pub name_length : Reading → ℕ
name_length (in_word hs w) = length w
name_length (in_name hs positive w) = length w
name_length (in_function up w) = length w
name_length (at_formula hs) = 0
name_length (at_name hs positive) = 0
name_length (behind_formula hs f) = 0
name_length (in_operator hs a w) = 0
name_length (at_term up) = 0
name_length (at_eigen up) = 0
name_length (in_eigen up k) = 0
name_length (at_index up) = 0
name_length (in_index up k) = 0
name_length (behind_term up t) = 0

-- the arguments of the innermost name that are read
abbrev pub arguments_of : Around → ℕ
arguments_of alone = 0
arguments_of (in_term f ts up) = length ts
arguments_of (in_atom hs positive f ts) = length ts

-- the arguments in front of the one that comes
abbrev pub arguments_before : Reading → ℕ
arguments_before (at_term up) = arguments_of up
arguments_before (at_formula hs) = 0
arguments_before (in_word hs w) = 0
arguments_before (at_name hs positive) = 0
arguments_before (in_name hs positive w) = 0
arguments_before (behind_formula hs f) = 0
arguments_before (in_operator hs a w) = 0
arguments_before (in_function up w) = 0
arguments_before (at_eigen up) = 0
arguments_before (in_eigen up k) = 0
arguments_before (at_index up) = 0
arguments_before (in_index up k) = 0
arguments_before (behind_term up t) = 0

-- the nesting of the formula that comes: 1 of the whole, one more in each part
abbrev pub nesting : Reading → ℕ
nesting (at_formula hs) = suc (length hs)
nesting (in_word hs w) = 0
nesting (at_name hs positive) = 0
nesting (in_name hs positive w) = 0
nesting (behind_formula hs f) = 0
nesting (in_operator hs a w) = 0
nesting (at_term up) = 0
nesting (in_function up w) = 0
nesting (at_eigen up) = 0
nesting (in_eigen up k) = 0
nesting (at_index up) = 0
nesting (in_index up k) = 0
nesting (behind_term up t) = 0

-- what is told of a byte that leads from the first reading to the second one: a formula begins too deep, a name is too long, or one argument too many comes
abbrev pub limit_of : Reading → Reading → Option Code
limit_of q r =
    if nat_lt 10000 (nesting q) then Some TooDeep
    else if nat_lt 255 (name_length r) then Some LongName else if nat_lt 254 (arguments_before r) then Some ManyArguments else None

-- what is told of a byte inside a text behind a reading; a limit only where the byte may come
abbrev pub fault_inside : Reading → Next → Option Code
fault_inside q (on r) = limit_of q r
fault_inside q (whole_term t) = Some Unexpected
fault_inside q (whole_formula f) = Some Unexpected
fault_inside q wrong = Some Unexpected

-- what a reader of a whole text gives
pub data Outcome : Type 0 where
  a_term : Term → Outcome
  a_formula : Formula → Outcome
  refused : Code → (place : ℕ) → Outcome

-- at the end of a text
abbrev pub outcome_at_end : ℕ → Next → Outcome
outcome_at_end place (whole_term t) = a_term t
outcome_at_end place (whole_formula f) = a_formula f
outcome_at_end place (on q) = refused Unexpected place
outcome_at_end place wrong = refused Unexpected place

-- a refusal at a place, or what comes later
abbrev pub unless_refused : Option Code → ℕ → Outcome → Outcome
unless_refused (Some code) place later = refused code place
unless_refused None place later = later

-- The outcome of the bytes from a place on: the first byte of which something is told, or the end.
abbrev pub outcome : (List ℕ → ℕ) → Logic → Next → ℕ → List ℕ → Outcome
outcome number logic (on q) place [] = outcome_at_end place (next number logic q 10)
outcome number logic (on q) place (b ∷ bs) = unless_refused (fault_inside q (next number logic q b)) place (outcome number logic (next number logic q b) (suc place) bs)
outcome number logic (whole_term t) place bs = refused Unexpected place
outcome number logic (whole_formula f) place bs = refused Unexpected place
outcome number logic wrong place bs = refused Unexpected place

abbrev mutual
  -- each name has at most 255 bytes and 255 arguments
  pub FitsTerm : (ℕ → List ℕ) → Term → Type 0
  FitsTerm text (eigen k) = Unit {0}
  FitsTerm text (bound k) = Unit {0}
  FitsTerm text (variable v) = Unit {0}
  FitsTerm text (app f ts) = (length (text f) ≤ 255) × (count ts ≤ 255) × FitArgs text ts

  -- so do the names in the arguments
  pub FitArgs : (ℕ → List ℕ) → Args → Type 0
  FitArgs text no_args = Unit {0}
  FitArgs text (arg t ts) = FitsTerm text t × FitArgs text ts

-- so do the names in a formula inside n others, and the nesting is at most 10,000
abbrev pub FitsFormula : (ℕ → List ℕ) → ℕ → Formula → Type 0
FitsFormula text n (truth p) = n < 10000
FitsFormula text n (falsity p) = n < 10000
FitsFormula text n (atom positive f ts) = (n < 10000) × (length (text f) ≤ 255) × (count ts ≤ 255) × FitArgs text ts
FitsFormula text n (conj p a b) = (n < 10000) × FitsFormula text (suc n) a × FitsFormula text (suc n) b
FitsFormula text n (disj p a b) = (n < 10000) × FitsFormula text (suc n) a × FitsFormula text (suc n) b
FitsFormula text n (implies a b) = (n < 10000) × FitsFormula text (suc n) a × FitsFormula text (suc n) b
FitsFormula text n (for_all a) = (n < 10000) × FitsFormula text (suc n) a
FitsFormula text n (exists a) = (n < 10000) × FitsFormula text (suc n) a

-- the numbering agrees with the table, and each name has a text by its number
abbrev pub IsNumbering : List (List ℕ) → (List ℕ → ℕ) → Type 0
IsNumbering names number = Agrees number names × ((text : ℕ → List ℕ) × GivesBack text number)

-- by each numbering of the table the outcome of the bytes is that one
abbrev pub HasOutcome : List (List ℕ) → Logic → Use → List ℕ → Outcome → Type 0
HasOutcome names logic wanted bytes o = (number : List ℕ → ℕ) → IsNumbering names number → outcome number logic (start wanted) 0 bytes ≡ o

-- with a table of different names the outcome is a term exactly at the text of that term, where it keeps the limits
abbrev pub TermOutcome : Type 0
TermOutcome = (names : List (List ℕ)) → AreDifferent names → (logic : Logic) (bytes : List ℕ) (t : Term)
    → HasOutcome names logic of_term bytes (a_term t) ↔ (IsPlainTermIn names t × FitsTerm (name_in names) t × (term_text names t ≡ bytes))

-- with a table of different names the outcome is a formula exactly at the text of that formula, where it keeps the limits
abbrev pub FormulaOutcome : Type 0
FormulaOutcome = (names : List (List ℕ)) → AreDifferent names → (logic : Logic) (bytes : List ℕ) (f : Formula)
    → HasOutcome names logic of_formula bytes (a_formula f) ↔ (IsPlainIn names logic f × FitsFormula (name_in names) 0 f × (plain_text names logic f ≡ bytes))

-- What is told behind the first bytes: at the end that they are no text, and of a byte either a limit, where it goes on to begin a text, or that it does not.
abbrev pub IsTold : (ℕ → List ℕ) → (List ℕ → ℕ) → Logic → Use → Reading → List ℕ → Code → List ℕ → Type 0
IsTold text number logic wanted q front code [] = (code ≡ Unexpected) × ¬ (IsText text number logic wanted front)
IsTold text number logic wanted q front code (b ∷ more) =
    (fault_inside q (next number logic q b) ≡ Some code) × (code ≡ Unexpected → ¬ (BeginsText text number logic wanted (front ++ b ∷ []))) × (¬ (code ≡ Unexpected) → BeginsText text number logic wanted (front ++ b ∷ []))

-- Nothing is told of a byte behind the first bytes: with it they begin a text, and between the readings that they lead to no limit is passed.
pub record IsFree (text : ℕ → List ℕ) (number : List ℕ → ℕ) (logic : Logic) (wanted : Use) (front : List ℕ) (b : ℕ) : Type 0 where
  pub begins : BeginsText text number logic wanted (front ++ b ∷ [])
  pub before : Reading
  pub behind : Reading
  pub leads : run number logic (start wanted) front ≡ on before
  pub goes : run number logic (start wanted) (front ++ b ∷ []) ≡ on behind
  pub within : limit_of before behind ≡ None

-- The code is told of the bytes at a place: nothing is told of a byte in front of it, and the bytes in front of it begin a text, and lead to the reading.
pub record IsRefused (text : ℕ → List ℕ) (number : List ℕ → ℕ) (logic : Logic) (wanted : Use) (bytes : List ℕ) (code : Code) (place : ℕ) : Type 0 where
  pub front : List ℕ
  pub rest : List ℕ
  pub parts : bytes ≡ front ++ rest
  pub at : length front ≡ place
  pub reading : Reading
  pub leads : run number logic (start wanted) front ≡ on reading
  pub begins : BeginsText text number logic wanted front
  pub earlier : (before : List ℕ) (b : ℕ) (after : List ℕ) → front ≡ before ++ b ∷ after → IsFree text number logic wanted before b
  pub told : IsTold text number logic wanted reading front code rest

-- the outcome is a refusal exactly where it is told so
abbrev pub RefusalIsTold : Type 0
RefusalIsTold = (text : ℕ → List ℕ) (number : List ℕ → ℕ) → GivesBack text number → (logic : Logic) (wanted : Use) (bytes : List ℕ) (code : Code) (place : ℕ)
    → (outcome number logic (start wanted) 0 bytes ≡ refused code place) ↔ IsRefused text number logic wanted bytes code place

-- A reader of a whole text stands at a place: by each numbering that agrees with the table the outcome is that of the bytes from there on.
abbrev pub StandsAt : List (List ℕ) → Logic → Use → List ℕ → ℕ → Reading → Type 0
StandsAt names logic wanted bytes place q = (number : List ℕ → ℕ) → Agrees number names → outcome number logic (start wanted) 0 bytes ≡ outcome number logic (on q) place (drop place bytes)

-- by each numbering that agrees with the table the outcome of the bytes is that one
abbrev pub Comes : List (List ℕ) → Logic → Use → List ℕ → Outcome → Type 0
Comes names logic wanted bytes o = (number : List ℕ → ℕ) → Agrees number names → outcome number logic (start wanted) 0 bytes ≡ o

-- what is plain with the names of a table stays so, with its text and within the limits, as the table grows
abbrev pub PlainGrows : Type 0
PlainGrows = (old new : List (List ℕ)) → Grows old new → AreDifferent new → (logic : Logic) (f : Formula) → IsPlainIn old logic f
    → IsPlainIn new logic f × (plain_text new logic f ≡ plain_text old logic f) × (FitsFormula (name_in old) 0 f → FitsFormula (name_in new) 0 f)

-- the same of terms
abbrev pub PlainTermGrows : Type 0
PlainTermGrows = (old new : List (List ℕ)) → Grows old new → AreDifferent new → (t : Term) → IsPlainTermIn old t
    → IsPlainTermIn new t × (term_text new t ≡ term_text old t) × (FitsTerm (name_in old) t → FitsTerm (name_in new) t)

-- an outcome that needs the byte behind so many is that the text is too large
abbrev pub cut : ℕ → Outcome → Outcome
cut most (refused code place) = if nat_lt place most then refused code place else refused TooLarge most
cut most (a_term t) = refused TooLarge most
cut most (a_formula f) = refused TooLarge most

-- the outcome of a text of some length, where it may have at most so many bytes
abbrev pub at_most : ℕ → ℕ → Outcome → Outcome
at_most most long o = if nat_le long most then o else cut most o

-- By each numbering that agrees with the table the bytes are refused so, where a text has at most 67,108,864 bytes: what lies first counts, and at its own byte this limit does.
abbrev pub ComesRefused : List (List ℕ) → Logic → Use → List ℕ → Code → ℕ → Type 0
ComesRefused names logic wanted bytes code place = (number : List ℕ → ℕ) → Agrees number names → at_most 67108864 (length bytes) (outcome number logic (start wanted) 0 bytes) ≡ refused code place
