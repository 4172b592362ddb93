-- A reading of a formula stays one.
use Rattle.std.specs.Prelude.{ℕ, Bool, true, false, if◌then◌else◌, ◌&&◌, ◌-◌, nat_eq, nat_lt, List, [], ◌∷◌, ◌++◌, Option, Some, None}
use Rattle.fpc_base.specs.Tokens.{is_digit}
use Rattle.fpc_terms.specs.Name.{is_small_letter, is_name_byte}
use Rattle.fpc_terms.specs.Term.{Term, eigen, bound, app, no_args}
use Rattle.polarised_formulas.specs.declared.logic.Logic.{Logic}
use Rattle.polarised_formulas.specs.declared.logic.Logic.TheVariants.{Lkf, Ljf}
use Rattle.polarised_formulas.specs.Formula.{Formula, atom}
use Rattle.polarised_formulas.specs.PlainReading.{Operator, quantified, operators, link_text, Word, true_unit, false_unit, binder, words, word_text, first_with, begins_some, Hole, first_of, second_of, under, Around, alone, in_term, in_atom, depth_around, Reading, at_formula, in_word, at_name, in_name, behind_formula, in_operator, at_term, in_function, at_eigen, in_eigen, at_index, in_index, behind_term, Next, on, whole_term, whole_formula, wrong, end_formula, end_term, end_name, end_function, is_keyword, after_word, end_word, ljf_word, next_in_word, first_byte, next_operator, can_grow, grown, next}
use Rattle.polarised_formulas.specs.PlainTaking.{HasAtom, IsOfFormula}

-- what comes next is no whole term
abbrev pub LeadsOn : Next → Type 0
LeadsOn (on q) = IsOfFormula q
LeadsOn (whole_term t) = ⊥
LeadsOn (whole_formula f) = Unit {0}
LeadsOn wrong = Unit {0}

leads-if : (c : Bool) (x y : Next) → LeadsOn x → LeadsOn y → LeadsOn (if c then x else y)
leads-if true x y h k = h
leads-if false x y h k = k

leads-end_formula : (hs : List Hole) (f : Formula) (b : ℕ) → LeadsOn (end_formula hs f b)
leads-end_formula [] f b = leads-if (nat_eq b 10) _ _ tt tt
leads-end_formula (first_of ∷ hs) f b = leads-if (nat_eq b 32) _ _ tt tt
leads-end_formula (second_of o a ∷ hs) f b = leads-if (nat_eq b 41) _ _ tt tt
leads-end_formula (under q ∷ hs) f b = leads-end_formula hs (quantified q f) b

leads-end_term : (up : Around) (t : Term) (b : ℕ) → HasAtom up → LeadsOn (end_term up t b)
leads-end_term alone t b h = absurd h
leads-end_term (in_term f ts up) t b h = leads-if (nat_eq b 44) _ _ h (leads-if (nat_eq b 41) _ _ h tt)
leads-end_term (in_atom hs positive f ts) t b h = leads-if (nat_eq b 44) _ _ tt (leads-if (nat_eq b 41) _ _ tt tt)

leads-after_word : (hs : List Hole) (x : Word) → LeadsOn (after_word hs x)
leads-after_word hs (true_unit p) = tt
leads-after_word hs (false_unit p) = tt
leads-after_word hs (binder q) = tt

module _ (number : List ℕ → ℕ) where
  leads-end_name : (hs : List Hole) (positive : Bool) (w : List ℕ) (b : ℕ) → LeadsOn (end_name number hs positive w b)
  leads-end_name hs positive w b = leads-if (is_keyword w) _ _ tt (leads-if (nat_eq b 40) _ _ tt (leads-end_formula hs (atom positive (number w) no_args) b))

  leads-end_function : (up : Around) (w : List ℕ) (b : ℕ) → HasAtom up → LeadsOn (end_function number up w b)
  leads-end_function up w b h = leads-if (is_keyword w) _ _ tt (leads-if (nat_eq b 40) _ _ h (leads-end_term up (app (number w) no_args) b h))

  leads-end_word : (hs : List Hole) (w : List ℕ) (b : ℕ) (o : Option Word) → LeadsOn (end_word number hs w b o)
  leads-end_word hs w b (Some x) = leads-after_word hs x
  leads-end_word hs w b None = leads-end_name hs true w b

  leads-ljf_word : (hs : List Hole) (w : List ℕ) (o : Option Word) → LeadsOn (ljf_word hs w o)
  leads-ljf_word hs w (Some x) = leads-after_word hs x
  leads-ljf_word hs w None = leads-if (begins_some (word_text Ljf) w (words Ljf)) _ _ tt tt

  leads-in_word : (logic : Logic) (hs : List Hole) (w : List ℕ) (b : ℕ) → LeadsOn (next_in_word number logic hs w b)
  leads-in_word Lkf hs w b = leads-if (is_name_byte b) _ _ tt (leads-end_word hs w b (first_with (word_text Lkf) (w ++ b ∷ []) (words Lkf)))
  leads-in_word Ljf hs w b = leads-ljf_word hs (w ++ b ∷ []) (first_with (word_text Ljf) (w ++ b ∷ []) (words Ljf))

  leads-first_byte : (logic : Logic) (hs : List Hole) (b : ℕ) → LeadsOn (first_byte logic hs b)
  leads-first_byte Lkf hs b = leads-if (nat_eq b 126) _ _ tt (leads-if (is_small_letter b) _ _ tt tt)
  leads-first_byte Ljf hs b = leads-if (nat_eq b 43) _ _ tt (leads-if (nat_eq b 45) _ _ tt (leads-if (begins_some (word_text Ljf) (b ∷ []) (words Ljf)) _ _ tt tt))

  leads-next_operator : (logic : Logic) (hs : List Hole) (a : Formula) (w : List ℕ) (o : Option Operator) → LeadsOn (next_operator logic hs a w o)
  leads-next_operator logic hs a w (Some o) = tt
  leads-next_operator logic hs a w None = leads-if (begins_some (link_text logic) w (operators logic)) _ _ tt tt

  pub leads-next : (logic : Logic) (q : Reading) (b : ℕ) → IsOfFormula q → LeadsOn (next number logic q b)
  leads-next logic (at_formula hs) b h = leads-if (nat_eq b 40) _ _ tt (leads-first_byte logic hs b)
  leads-next logic (in_word hs w) b h = leads-in_word logic hs w b
  leads-next logic (at_name hs positive) b h = leads-if (is_small_letter b) _ _ tt tt
  leads-next logic (in_name hs positive w) b h = leads-if (is_name_byte b) _ _ tt (leads-end_name hs positive w b)
  leads-next logic (behind_formula hs f) b h = leads-end_formula hs f b
  leads-next logic (in_operator hs a w) b h = leads-next_operator logic hs a (w ++ b ∷ []) (first_with (link_text logic) (w ++ b ∷ []) (operators logic))
  leads-next logic (at_term up) b h = leads-if (nat_eq b 36) _ _ h (leads-if (nat_eq b 35) _ _ (leads-if (nat_lt 0 (depth_around up)) _ _ h tt) (leads-if (is_small_letter b) _ _ h tt))
  leads-next logic (in_function up w) b h = leads-if (is_name_byte b) _ _ h (leads-end_function up w b h)
  leads-next logic (at_eigen up) b h = leads-if (is_digit b) _ _ h tt
  leads-next logic (in_eigen up k) b h = leads-if (can_grow k b) _ _ h (leads-end_term up (eigen k) b h)
  leads-next logic (at_index up) b h = leads-if (is_digit b && nat_lt (b - 48) (depth_around up)) _ _ h tt
  leads-next logic (in_index up k) b h = leads-if (can_grow k b && nat_lt (grown k b) (depth_around up)) _ _ h (leads-end_term up (bound k) b h)
  leads-next logic (behind_term up t) b h = leads-end_term up t b h
