-- How a term or a formula in plain form is read byte by byte. What has been read is kept as trees; whether the bytes are well formed hangs on no table of names.
use Rattle.std.specs.Prelude.{ℕ, suc, ◌+◌, ◌-◌, ◌*◌, Bool, true, false, if◌then◌else◌, ◌&&◌, nat_eq, nat_lt, List, [], ◌∷◌, ◌++◌, codes, Option, Some, None}
use Rattle.std.specs.List.{list_any, starts_with}
use Rattle.std.specs.Str.{bytes_eq}
use Rattle.fpc_base.specs.Tokens.{is_digit}
use Rattle.fpc_terms.specs.Name.{is_small_letter, is_name_byte}
pub use Rattle.fpc_terms.specs.Name.{is_keyword}
use Rattle.fpc_terms.specs.Term.{Term, Args, eigen, bound, app, no_args, arg}
use Rattle.polarised_formulas.specs.declared.logic.Logic.{Logic}
use Rattle.polarised_formulas.specs.declared.logic.Logic.TheVariants.{Lkf, Ljf}
use Rattle.polarised_formulas.specs.declared.logic.Polarity.{Polarity}
use Rattle.polarised_formulas.specs.declared.logic.Polarity.TheVariants.{Positive, Negative}
use Rattle.polarised_formulas.specs.Formula.{Formula, truth, falsity, atom, conj, disj, implies, for_all, exists}
use Rattle.polarised_formulas.specs.Text.{truth_text, falsity_text, conj_text, disj_text}

-- a connective with two parts
pub data Operator : Type 0 where
  conjunction : (polarity : Polarity) → Operator
  disjunction : (polarity : Polarity) → Operator
  implication : Operator

-- a quantifier
pub data Quantifier : Type 0 where
  every : Quantifier
  some : Quantifier

-- the formula with two parts
abbrev pub binary : Operator → Formula → Formula → Formula
binary (conjunction p) a b = conj p a b
binary (disjunction p) a b = disj p a b
binary implication a b = implies a b

-- the formula under a quantifier
abbrev pub quantified : Quantifier → Formula → Formula
quantified every a = for_all a
quantified some a = exists a

-- the bytes of a connective, without the blanks around it
abbrev pub operator_text : Logic → Operator → List ℕ
operator_text logic (conjunction p) = conj_text p
operator_text logic (disjunction p) = disj_text logic p
operator_text logic implication = codes "=>"

-- the bytes of a quantifier, with the blank behind it
abbrev pub quantifier_text : Quantifier → List ℕ
quantifier_text every = codes "all "
quantifier_text some = codes "some "

-- the operators of a logic
abbrev pub operators : Logic → List Operator
operators Lkf = disjunction Negative ∷ disjunction Positive ∷ conjunction Negative ∷ conjunction Positive ∷ []
operators Ljf = conjunction Positive ∷ conjunction Negative ∷ disjunction Positive ∷ implication ∷ []

-- what stands between the parts of a formula, behind its first blank
abbrev pub link_text : Logic → Operator → List ℕ
link_text logic o = operator_text logic o ++ 32 ∷ []

-- a word that begins a formula and is no name: a unit, or a quantifier with the blank behind it
pub data Word : Type 0 where
  true_unit : (polarity : Polarity) → Word
  false_unit : (polarity : Polarity) → Word
  binder : (quantifier : Quantifier) → Word

-- the bytes of a word
abbrev pub word_text : Logic → Word → List ℕ
word_text logic (true_unit p) = truth_text p
word_text logic (false_unit p) = falsity_text logic p
word_text logic (binder q) = quantifier_text q

-- the words of a logic
abbrev pub words : Logic → List Word
words Lkf = true_unit Positive ∷ true_unit Negative ∷ false_unit Positive ∷ false_unit Negative ∷ binder every ∷ binder some ∷ []
words Ljf = true_unit Positive ∷ true_unit Negative ∷ false_unit Positive ∷ binder every ∷ binder some ∷ []

-- the first of the things with that text
abbrev pub first_with : {X : Type 0} → (X → List ℕ) → List ℕ → List X → Option X
first_with text w [] = None
first_with text w (x ∷ xs) = if bytes_eq (text x) w then Some x else first_with text w xs

-- the text of some of them begins so
abbrev pub begins_some : {X : Type 0} → (X → List ℕ) → List ℕ → List X → Bool
begins_some text w xs = list_any (λ x. starts_with nat_eq (text x) w) xs

-- what stands around a formula, step by step outwards
pub data Hole : Type 0 where
  first_of : Hole
  second_of : (operator : Operator) → (first : Formula) → Hole
  under : (quantifier : Quantifier) → Hole

-- the quantifiers around a formula
abbrev pub depth_of : List Hole → ℕ
depth_of [] = 0
depth_of (first_of ∷ hs) = depth_of hs
depth_of (second_of o a ∷ hs) = depth_of hs
depth_of (under q ∷ hs) = suc (depth_of hs)

-- what stands around a term: nothing, or a name with the arguments in front of it, the last one first
pub data Around : Type 0 where
  alone : Around
  in_term : (name : ℕ) → (done : List Term) → (outside : Around) → Around
  in_atom : (holes : List Hole) → (positive : Bool) → (name : ℕ) → (done : List Term) → Around

-- the quantifiers around a term
abbrev pub depth_around : Around → ℕ
depth_around alone = 0
depth_around (in_term f ts up) = depth_around up
depth_around (in_atom hs positive f ts) = depth_of hs

-- where the reading stands
pub data Reading : Type 0 where
  -- a formula comes
  at_formula : List Hole → Reading
  -- a word or, in LKF, the name of an atom was begun
  in_word : List Hole → (begun : List ℕ) → Reading
  -- behind the mark of an atom: its name comes
  at_name : List Hole → (positive : Bool) → Reading
  in_name : List Hole → (positive : Bool) → (begun : List ℕ) → Reading
  behind_formula : List Hole → Formula → Reading
  -- behind the first part and a blank, with what there is of the operator
  in_operator : List Hole → (first : Formula) → (begun : List ℕ) → Reading
  -- a term comes
  at_term : Around → Reading
  in_function : Around → (begun : List ℕ) → Reading
  at_eigen : Around → Reading
  in_eigen : Around → (number : ℕ) → Reading
  at_index : Around → Reading
  in_index : Around → (index : ℕ) → Reading
  behind_term : Around → Term → Reading

-- what a byte does: the reading goes on, a term or a formula is whole with the end of its line, or the byte is none that may come
pub data Next : Type 0 where
  on : Reading → Next
  whole_term : Term → Next
  whole_formula : Formula → Next
  wrong : Next

-- the terms, the last one first, in front of others
abbrev pub args_onto : List Term → Args → Args
args_onto [] us = us
args_onto (t ∷ ts) us = args_onto ts (arg t us)

-- A byte behind a formula. A quantifier ends where its body does.
abbrev pub end_formula : List Hole → Formula → ℕ → Next
end_formula [] f b = if nat_eq b 10 then whole_formula f else wrong
end_formula (first_of ∷ hs) f b = if nat_eq b 32 then on (in_operator hs f []) else wrong
end_formula (second_of o a ∷ hs) f b = if nat_eq b 41 then on (behind_formula hs (binary o a f)) else wrong
end_formula (under q ∷ hs) f b = end_formula hs (quantified q f) b

-- a byte behind a term
abbrev pub end_term : Around → Term → ℕ → Next
end_term alone t b = if nat_eq b 10 then whole_term t else wrong
end_term (in_term f ts up) t b =
    if nat_eq b 44 then on (at_term (in_term f (t ∷ ts) up)) else if nat_eq b 41 then on (behind_term up (app f (args_onto ts (arg t no_args)))) else wrong
end_term (in_atom hs positive f ts) t b =
    if nat_eq b 44 then on (at_term (in_atom hs positive f (t ∷ ts)))
    else if nat_eq b 41 then on (behind_formula hs (atom positive f (args_onto ts (arg t no_args)))) else wrong

-- a byte behind the name of an atom
abbrev pub end_name : (List ℕ → ℕ) → List Hole → Bool → List ℕ → ℕ → Next
end_name number hs positive w b =
    if is_keyword w then wrong
    else if nat_eq b 40 then on (at_term (in_atom hs positive (number w) []))
    else end_formula hs (atom positive (number w) no_args) b

-- a byte behind the name of a term
abbrev pub end_function : (List ℕ → ℕ) → Around → List ℕ → ℕ → Next
end_function number up w b =
    if is_keyword w then wrong
    else if nat_eq b 40 then on (at_term (in_term (number w) [] up))
    else end_term up (app (number w) no_args) b

-- what is read with the last byte of a word
abbrev pub after_word : List Hole → Word → Next
after_word hs (true_unit p) = on (behind_formula hs (truth p))
after_word hs (false_unit p) = on (behind_formula hs (falsity p))
after_word hs (binder q) = on (at_formula (under q ∷ hs))

-- a byte behind a word begun in LKF that goes on with no letter, where the two are this word, if any
abbrev pub end_word : (List ℕ → ℕ) → List Hole → List ℕ → ℕ → Option Word → Next
end_word number hs w b (Some x) = after_word hs x
end_word number hs w b None = end_name number hs true w b

-- a word with its last byte in LJF, where it is this word, if any
abbrev pub ljf_word : List Hole → List ℕ → Option Word → Next
ljf_word hs w (Some x) = after_word hs x
ljf_word hs w None = if begins_some (word_text Ljf) w (words Ljf) then on (in_word hs w) else wrong

-- a byte behind a word begun
abbrev pub next_in_word : (List ℕ → ℕ) → Logic → List Hole → List ℕ → ℕ → Next
next_in_word number Lkf hs w b =
    if is_name_byte b then on (in_word hs (w ++ b ∷ [])) else end_word number hs w b (first_with (word_text Lkf) (w ++ b ∷ []) (words Lkf))
next_in_word number Ljf hs w b = ljf_word hs (w ++ b ∷ []) (first_with (word_text Ljf) (w ++ b ∷ []) (words Ljf))

-- the first byte of a formula that is no parenthesis
abbrev pub first_byte : Logic → List Hole → ℕ → Next
first_byte Lkf hs b = if nat_eq b 126 then on (at_name hs false) else if is_small_letter b then on (in_word hs (b ∷ [])) else wrong
first_byte Ljf hs b =
    if nat_eq b 43 then on (at_name hs true)
    else if nat_eq b 45 then on (at_name hs false) else if begins_some (word_text Ljf) (b ∷ []) (words Ljf) then on (in_word hs (b ∷ [])) else wrong

-- an operator with its last byte, where it is this operator, if any
abbrev pub next_operator : Logic → List Hole → Formula → List ℕ → Option Operator → Next
next_operator logic hs a w (Some o) = on (at_formula (second_of o a ∷ hs))
next_operator logic hs a w None = if begins_some (link_text logic) w (operators logic) then on (in_operator hs a w) else wrong

-- The byte is a digit that may stand behind the number: it has at most nine digits, and none behind a 0.
abbrev pub can_grow : ℕ → ℕ → Bool
can_grow k b = is_digit b && (nat_lt 0 k && nat_lt k 100000000)

-- the number with one more digit
abbrev pub grown : ℕ → ℕ → ℕ
grown k b = 10 * k + (b - 48)

-- What a byte does. A name becomes a number by the numbering; nothing else hangs on that.
abbrev pub next : (List ℕ → ℕ) → Logic → Reading → ℕ → Next
next number logic (at_formula hs) b = if nat_eq b 40 then on (at_formula (first_of ∷ hs)) else first_byte logic hs b
next number logic (in_word hs w) b = next_in_word number logic hs w b
next number logic (at_name hs positive) b = if is_small_letter b then on (in_name hs positive (b ∷ [])) else wrong
next number logic (in_name hs positive w) b = if is_name_byte b then on (in_name hs positive (w ++ b ∷ [])) else end_name number hs positive w b
next number logic (behind_formula hs f) b = end_formula hs f b
next number logic (in_operator hs a w) b = next_operator logic hs a (w ++ b ∷ []) (first_with (link_text logic) (w ++ b ∷ []) (operators logic))
next number logic (at_term up) b =
    if nat_eq b 36 then on (at_eigen up)
    else if nat_eq b 35 then (if nat_lt 0 (depth_around up) then on (at_index up) else wrong) else if is_small_letter b then on (in_function up (b ∷ [])) else wrong
next number logic (in_function up w) b = if is_name_byte b then on (in_function up (w ++ b ∷ [])) else end_function number up w b
next number logic (at_eigen up) b = if is_digit b then on (in_eigen up (b - 48)) else wrong
next number logic (in_eigen up k) b = if can_grow k b then on (in_eigen up (grown k b)) else end_term up (eigen k) b
next number logic (at_index up) b = if is_digit b && nat_lt (b - 48) (depth_around up) then on (in_index up (b - 48)) else wrong
next number logic (in_index up k) b = if can_grow k b && nat_lt (grown k b) (depth_around up) then on (in_index up (grown k b)) else end_term up (bound k) b
next number logic (behind_term up t) b = end_term up t b

-- a byte behind what was read; nothing may follow what is whole
abbrev pub go : (List ℕ → ℕ) → Logic → Next → ℕ → Next
go number logic (on q) b = next number logic q b
go number logic (whole_term t) b = wrong
go number logic (whole_formula f) b = wrong
go number logic wrong b = wrong

-- bytes behind what was read
abbrev pub run : (List ℕ → ℕ) → Logic → Next → List ℕ → Next
run number logic n [] = n
run number logic n (b ∷ bs) = run number logic (go number logic n b) bs

-- a term alone, or a formula
pub data Use : Type 0 where
  of_term : Use
  of_formula : Use

-- nothing is read
abbrev pub start : Use → Next
start of_term = on (at_term alone)
start of_formula = on (at_formula [])

-- no byte was wrong
abbrev pub IsGoing : Next → Type 0
IsGoing (on q) = Unit {0}
IsGoing (whole_term t) = Unit {0}
IsGoing (whole_formula f) = Unit {0}
IsGoing wrong = ⊥
