-- How the fields of a reader stand for a reading, and what it answers to a byte.
use Rattle.std.specs.Prelude.{◌≡◌, ℕ, ◌<◌, Bool, true, false, if◌then◌else◌, nat_lt, List, [], ◌∷◌, codes, Option, Some, None, Result, Ok, Err}
use Rattle.std.specs.Str.{bytes_eq}
use Rattle.fpc_base.specs.declared.refusal.Code.{Code}
use Rattle.fpc_base.specs.declared.refusal.Code.TheVariants.{Unexpected, TooDeep, LongName, ManyArguments}
use Rattle.fpc_base.specs.declared.refusal.TokenRefusal.{TokenRefusal}
use Rattle.fpc_base.specs.declared.refusal.TokenRefusal.TheVariants.{Refused, OutOfMemory}
use Rattle.fpc_base.specs.declared.outside.OutOfMemory as outside_world
use Rattle.fpc_terms.specs.Name.{IsNameBegun, is_small_letter}
use Rattle.fpc_terms.specs.Term.{Term}
use Rattle.fpc_terms.specs.Partial.{Frame, Partial, frame, nothing, with_term}
use Rattle.polarised_formulas.specs.declared.logic.Logic.{Logic}
use Rattle.polarised_formulas.specs.declared.logic.Logic.TheVariants.{Lkf, Ljf}
use Rattle.polarised_formulas.specs.declared.connective.Joiner as joiner
use Rattle.polarised_formulas.specs.declared.connective.Binder as binder
use Rattle.polarised_formulas.specs.Unfinished as built
use Rattle.polarised_formulas.specs.PlainReading.{Operator, conjunction, disjunction, implication, Quantifier, every, some, Word, true_unit, false_unit, binder, Hole, first_of, second_of, under, Around, alone, in_term, in_atom, Reading, at_formula, in_word, at_name, in_name, behind_formula, in_operator, at_term, in_function, at_eigen, in_eigen, at_index, in_index, behind_term, Next, on, whole_term, whole_formula, wrong, next}
use Rattle.polarised_formulas.specs.PlainLimits.{name_length, arguments_of, arguments_before}
use Rattle.polarised_formulas.specs.declared.plain.reader.Mode as mode
use Rattle.polarised_formulas.specs.declared.plain.reader.Outside as outside
use Rattle.polarised_formulas.specs.declared.plain.reader.Beginning as beginning
use Rattle.polarised_formulas.specs.declared.plain.reader.Progress as progress
use Rattle.polarised_formulas.specs.declared.plain.reader.PlainReader.{PlainReader}
use Rattle.polarised_formulas.specs.declared.plain.reader.words.Word as word

-- the connective that is built for an operator
abbrev pub joiner_of : Operator → joiner.Joiner
joiner_of (conjunction p) = joiner.TheVariants.And p
joiner_of (disjunction p) = joiner.TheVariants.Or p
joiner_of implication = joiner.TheVariants.Implies

-- the operator for which a connective is built
abbrev pub operator_of : joiner.Joiner → Operator
operator_of (joiner.TheVariants.And p) = conjunction p
operator_of (joiner.TheVariants.Or p) = disjunction p
operator_of joiner.TheVariants.Implies = implication

abbrev pub operator_found : Option joiner.Joiner → Option Operator
operator_found None = None
operator_found (Some j) = Some (operator_of j)

-- the word that was found
abbrev pub word_meant : word.Word → Word
word_meant (word.TheVariants.True p) = true_unit p
word_meant (word.TheVariants.False p) = false_unit p
word_meant word.TheVariants.All = binder every
word_meant word.TheVariants.Some = binder some

abbrev pub word_found : Option word.Word → Option Word
word_found None = None
word_found (Some x) = Some (word_meant x)

-- the quantifier with these bytes
abbrev pub quantifier_with : List ℕ → Option Word
quantifier_with w = if bytes_eq (codes "all ") w then Some (binder every) else if bytes_eq (codes "some ") w then Some (binder some) else None

-- the quantifier that is built
abbrev pub binder_of : Quantifier → binder.Binder
binder_of every = binder.TheVariants.ForAll
binder_of some = binder.TheVariants.Exists

-- what is built around a formula
abbrev pub built_holes : List Hole → List built.Hole
built_holes [] = []
built_holes (first_of ∷ hs) = built.first_of ∷ built_holes hs
built_holes (second_of o a ∷ hs) = built.second_of (joiner_of o) a ∷ built_holes hs
built_holes (under q ∷ hs) = built.under (binder_of q) ∷ built_holes hs

-- the arguments of the atom around a term, the last one first
abbrev pub base_around : Around → List Term
base_around alone = []
base_around (in_term f ts up) = base_around up
base_around (in_atom hs positive f ts) = ts

-- the applications around a term
abbrev pub frames_around : Around → List Frame
frames_around alone = []
frames_around (in_term f ts up) = frame f ts ∷ frames_around up
frames_around (in_atom hs positive f ts) = []

-- the formula that is to come around a term
abbrev pub formula_around : Around → built.Unfinished
formula_around alone = built.nothing
formula_around (in_term f ts up) = formula_around up
formula_around (in_atom hs positive f ts) = built.wants (built_holes hs)

-- the atom around a term, if any
abbrev pub outside_of : Around → outside.Outside
outside_of alone = outside.TheVariants.Nothing
outside_of (in_term f ts up) = outside_of up
outside_of (in_atom hs positive f ts) = outside.TheVariants.Literal positive f

-- the terms in front of one that comes
abbrev pub terms_around : Around → Partial
terms_around up = record { base = base_around up; frames = frames_around up }

abbrev pub mode_at : Reading → mode.Mode
mode_at (at_formula hs) = mode.TheVariants.AtFormula
mode_at (in_word hs w) = mode.TheVariants.InWord
mode_at (at_name hs positive) = mode.TheVariants.AtName positive
mode_at (in_name hs positive w) = mode.TheVariants.InName positive
mode_at (behind_formula hs f) = mode.TheVariants.BehindFormula
mode_at (in_operator hs a w) = mode.TheVariants.InOperator
mode_at (at_term up) = mode.TheVariants.AtTerm
mode_at (in_function up w) = mode.TheVariants.InFunction
mode_at (at_eigen up) = mode.TheVariants.AtEigen
mode_at (in_eigen up k) = mode.TheVariants.InEigen k
mode_at (at_index up) = mode.TheVariants.AtIndex
mode_at (in_index up k) = mode.TheVariants.InIndex k
mode_at (behind_term up t) = mode.TheVariants.BehindTerm

-- the word in progress
abbrev pub word_at : Reading → List ℕ
word_at (in_word hs w) = w
word_at (in_name hs positive w) = w
word_at (in_operator hs a w) = w
word_at (in_function up w) = w
word_at (at_formula hs) = []
word_at (at_name hs positive) = []
word_at (behind_formula hs f) = []
word_at (at_term up) = []
word_at (at_eigen up) = []
word_at (in_eigen up k) = []
word_at (at_index up) = []
word_at (in_index up k) = []
word_at (behind_term up t) = []

abbrev pub outside_at : Reading → outside.Outside
outside_at (at_formula hs) = outside.TheVariants.Nothing
outside_at (in_word hs w) = outside.TheVariants.Nothing
outside_at (at_name hs positive) = outside.TheVariants.Nothing
outside_at (in_name hs positive w) = outside.TheVariants.Nothing
outside_at (behind_formula hs f) = outside.TheVariants.Nothing
outside_at (in_operator hs a w) = outside.TheVariants.Nothing
outside_at (at_term up) = outside_of up
outside_at (in_function up w) = outside_of up
outside_at (at_eigen up) = outside_of up
outside_at (in_eigen up k) = outside_of up
outside_at (at_index up) = outside_of up
outside_at (in_index up k) = outside_of up
outside_at (behind_term up t) = outside_of up

abbrev pub terms_at : Reading → Partial
terms_at (at_formula hs) = nothing
terms_at (in_word hs w) = nothing
terms_at (at_name hs positive) = nothing
terms_at (in_name hs positive w) = nothing
terms_at (behind_formula hs f) = nothing
terms_at (in_operator hs a w) = nothing
terms_at (at_term up) = terms_around up
terms_at (in_function up w) = terms_around up
terms_at (at_eigen up) = terms_around up
terms_at (in_eigen up k) = terms_around up
terms_at (at_index up) = terms_around up
terms_at (in_index up k) = terms_around up
terms_at (behind_term up t) = with_term t (base_around up) (frames_around up)

abbrev pub formula_at : Reading → built.Unfinished
formula_at (at_formula hs) = built.wants (built_holes hs)
formula_at (in_word hs w) = built.wants (built_holes hs)
formula_at (at_name hs positive) = built.wants (built_holes hs)
formula_at (in_name hs positive w) = built.wants (built_holes hs)
formula_at (behind_formula hs f) = built.has f (built_holes hs)
formula_at (in_operator hs a w) = built.has a (built.first_of ∷ built_holes hs)
formula_at (at_term up) = formula_around up
formula_at (in_function up w) = formula_around up
formula_at (at_eigen up) = formula_around up
formula_at (in_eigen up k) = formula_around up
formula_at (at_index up) = formula_around up
formula_at (in_index up k) = formula_around up
formula_at (behind_term up t) = formula_around up

-- a word begun in LKF may become a name
abbrev pub IsWord : Logic → List ℕ → Type 0
IsWord Lkf w = IsNameBegun w
IsWord Ljf w = Unit {0}

-- the name in progress may be one, and a term that comes has room
abbrev pub IsKept : Logic → Reading → Type 0
IsKept logic (at_formula hs) = Unit {0}
IsKept logic (in_word hs w) = IsWord logic w
IsKept logic (at_name hs positive) = Unit {0}
IsKept logic (in_name hs positive w) = IsNameBegun w
IsKept logic (behind_formula hs f) = Unit {0}
IsKept logic (in_operator hs a w) = Unit {0}
IsKept logic (at_term up) = arguments_of up < 255
IsKept logic (in_function up w) = IsNameBegun w × (arguments_of up < 255)
IsKept logic (at_eigen up) = arguments_of up < 255
IsKept logic (in_eigen up k) = arguments_of up < 255
IsKept logic (at_index up) = arguments_of up < 255
IsKept logic (in_index up k) = arguments_of up < 255
IsKept logic (behind_term up t) = Unit {0}

-- a reader of the logic stands where the reading does
pub record Stands (logic : Logic) (q : Reading) (r : PlainReader) : Type 0 where
  pub logic_is : r.logic ≡ logic
  pub mode : r.mode ≡ mode_at q
  pub word : r.word.items ≡ word_at q
  pub outside : r.outside ≡ outside_at q
  pub terms : r.terms ≡ terms_at q
  pub formula : r.formula ≡ formula_at q
  pub kept : IsKept logic q

-- what is told of a byte that leads to a reading, from one before a formula with this nesting or from another one with 0; so it is `limit_of` with the nesting of the reading before
abbrev pub limit_at : ℕ → Reading → Option Code
limit_at n r =
    if nat_lt 10000 n then Some TooDeep
    else if nat_lt 255 (name_length r) then Some LongName else if nat_lt 254 (arguments_before r) then Some ManyArguments else None

-- The answer to a byte tells what comes next, behind a reading with this nesting, or memory ran out. A limit is told exactly where one is passed.
abbrev pub IsNext : Logic → ℕ → Result progress.Progress TokenRefusal → PlainReader → Next → Type 0
IsNext logic n (Ok progress.TheVariants.Going) r (on s) = Stands logic s r × (limit_at n s ≡ None)
IsNext logic n (Ok (progress.TheVariants.Term t)) r (whole_term u) = t ≡ u
IsNext logic n (Ok (progress.TheVariants.Formula f)) r (whole_formula g) = f ≡ g
IsNext logic n (Err (Refused code)) r (on s) = limit_at n s ≡ Some code
IsNext logic n (Err (Refused code)) r wrong = code ≡ Unexpected
IsNext logic n (Err OutOfMemory) r next = Unit {0}
IsNext _ _ _ _ _ = ⊥

-- the reader went on to a reading, or memory ran out
abbrev pub IsOn : Logic → Reading → Result (Unit {0}) TokenRefusal → PlainReader → Type 0
IsOn logic q (Ok u) r = Stands logic q r
IsOn logic q (Err (Refused code)) r = ⊥
IsOn logic q (Err OutOfMemory) r = Unit {0}

-- what comes behind the first byte of a formula
abbrev pub begun : List Hole → ℕ → Option beginning.Beginning → Next
begun hs b None = wrong
begun hs b (Some beginning.TheVariants.Pair) = on (at_formula (first_of ∷ hs))
begun hs b (Some (beginning.TheVariants.Mark positive)) = on (at_name hs positive)
begun hs b (Some beginning.TheVariants.Letter) = on (in_word hs (b ∷ []))

-- the first byte of a word in LKF begins a name
abbrev pub BeginsWord : Logic → ℕ → beginning.Beginning → Type 0
BeginsWord Lkf b beginning.TheVariants.Letter = is_small_letter b ≡ true
BeginsWord _ _ _ = Unit {0}

-- the number of a name, if it is no keyword
abbrev pub IsNamed : (List ℕ → ℕ) → Bool → List ℕ → Result ℕ TokenRefusal → Type 0
IsNamed number false w (Ok name) = number w ≡ name
IsNamed number true w (Err (Refused code)) = code ≡ Unexpected
IsNamed number _ w (Err OutOfMemory) = Unit {0}
IsNamed _ _ _ _ = ⊥

-- a reader's fields but for its mode and word, where no term is read
pub record IsOutside (logic : Logic) (u : built.Unfinished) (r : PlainReader) : Type 0 where
  pub logic_is : r.logic ≡ logic
  pub outside : r.outside ≡ outside.TheVariants.Nothing
  pub terms : r.terms ≡ nothing
  pub formula : r.formula ≡ u

-- a reader's fields but for its mode, where a literal with these arguments, the last one first, is to come
pub record IsLiteral (logic : Logic) (hs : List Hole) (ts : List Term) (r : PlainReader) : Type 0 where
  pub logic_is : r.logic ≡ logic
  pub word : r.word.items ≡ []
  pub terms : r.terms ≡ record { base = ts; frames = [] }
  pub formula : r.formula ≡ built.wants (built_holes hs)

-- a reader's fields but for its mode, and room, where a term comes
pub record IsAround (logic : Logic) (up : Around) (r : PlainReader) : Type 0 where
  pub logic_is : r.logic ≡ logic
  pub word : r.word.items ≡ []
  pub outside : r.outside ≡ outside_of up
  pub terms : r.terms ≡ terms_around up
  pub formula : r.formula ≡ formula_around up
  pub room : arguments_of up < 255

-- a reader's fields but for its mode, behind a term
pub record IsBehind (logic : Logic) (up : Around) (t : Term) (r : PlainReader) : Type 0 where
  pub logic_is : r.logic ≡ logic
  pub word : r.word.items ≡ []
  pub outside : r.outside ≡ outside_of up
  pub terms : r.terms ≡ with_term t (base_around up) (frames_around up)
  pub formula : r.formula ≡ formula_around up

-- what is told where a part was added, or could not be, or memory ran out
abbrev pub told_of : Result Bool outside_world.OutOfMemory → Result progress.Progress TokenRefusal
told_of (Ok true) = Ok progress.TheVariants.Going
told_of (Ok false) = Err (Refused Unexpected)
told_of (Err e) = Err OutOfMemory

-- what a byte does where no name ends
abbrev pub next_unnamed : Logic → Reading → ℕ → Next
next_unnamed logic q b = next (λ w. 0) logic q b
