-- The word in progress is the end of the bytes that were read.
use Rattle.std.proofs.Common.{◌≡◌, ℕ, Bool, true, false, if◌then◌else◌, ◌&&◌, ◌-◌, nat_eq, nat_lt, List, [], ◌∷◌, ◌++◌, Option, Some, None, length, take, refl, sym, ap, ◌∙◌, arith, append_assoc, append-nil}
use Rattle.std.proofs.Math.Seq.{take-append_seam}
use Rattle.std.proofs.lemmas.List.{length-append}
use Rattle.fpc_base.specs.Tokens.{is_digit}
use Rattle.fpc_terms.specs.Name.{is_small_letter, is_name_byte}
use Rattle.fpc_terms.specs.Term.{Term, eigen, bound, app, no_args}
use Rattle.polarised_formulas.specs.declared.logic.Logic.{Logic}
use Rattle.polarised_formulas.specs.declared.logic.Logic.TheVariants.{Lkf, Ljf}
use Rattle.polarised_formulas.specs.Formula.{Formula, atom}
use Rattle.polarised_formulas.specs.PlainReading.{Operator, quantified, operators, link_text, Word, true_unit, false_unit, binder, words, word_text, first_with, begins_some, Hole, first_of, second_of, under, Around, alone, in_term, in_atom, depth_around, Reading, at_formula, in_word, at_name, in_name, behind_formula, in_operator, at_term, in_function, at_eigen, in_eigen, at_index, in_index, behind_term, Next, on, end_formula, end_term, end_name, end_function, is_keyword, after_word, end_word, ljf_word, next_in_word, first_byte, next_operator, can_grow, grown, next}
use Rattle.polarised_formulas.specs.PlainStanding.{word_at}
use Rattle.polarised_formulas.specs.Adding.{EndsWith}

-- the word of what comes next is the end of the bytes
abbrev pub Follows : List ℕ → Next → Type 0
Follows bytes (on q) = EndsWith bytes (word_at q)
Follows bytes _ = Unit {0}

pub ends-empty : (bytes : List ℕ) → EndsWith bytes []
ends-empty bytes = (bytes, append-nil bytes)

-- one more byte
pub ends-more : (bytes w : List ℕ) (b : ℕ) → EndsWith bytes w → EndsWith (bytes ++ b ∷ []) (w ++ b ∷ [])
ends-more bytes w b h = (h.0, sym (append_assoc h.0 w (b ∷ [])) ∙ ap (λ (xs : List ℕ). xs ++ b ∷ []) h.1)

pub ends-one : (bytes : List ℕ) (b : ℕ) → EndsWith (bytes ++ b ∷ []) (b ∷ [])
ends-one bytes b = (bytes, refl)

module _ (bytes : List ℕ) where
  follows-if : (c : Bool) (x y : Next) → Follows bytes x → Follows bytes y → Follows bytes (if c then x else y)
  follows-if true x y h k = h
  follows-if false x y h k = k

  none : EndsWith bytes []
  none = ends-empty bytes

  follows-end_formula : (hs : List Hole) (f : Formula) (b : ℕ) → Follows bytes (end_formula hs f b)
  follows-end_formula [] f b = follows-if (nat_eq b 10) _ _ tt tt
  follows-end_formula (first_of ∷ hs) f b = follows-if (nat_eq b 32) _ _ none tt
  follows-end_formula (second_of o a ∷ hs) f b = follows-if (nat_eq b 41) _ _ none tt
  follows-end_formula (under q ∷ hs) f b = follows-end_formula hs (quantified q f) b

  follows-end_term : (up : Around) (t : Term) (b : ℕ) → Follows bytes (end_term up t b)
  follows-end_term alone t b = follows-if (nat_eq b 10) _ _ tt tt
  follows-end_term (in_term f ts up) t b = follows-if (nat_eq b 44) _ _ none (follows-if (nat_eq b 41) _ _ none tt)
  follows-end_term (in_atom hs positive f ts) t b = follows-if (nat_eq b 44) _ _ none (follows-if (nat_eq b 41) _ _ none tt)

  follows-after_word : (hs : List Hole) (x : Word) → Follows bytes (after_word hs x)
  follows-after_word hs (true_unit p) = none
  follows-after_word hs (false_unit p) = none
  follows-after_word hs (binder q) = none

  module _ (number : List ℕ → ℕ) where
    follows-end_name : (hs : List Hole) (positive : Bool) (w : List ℕ) (b : ℕ) → Follows bytes (end_name number hs positive w b)
    follows-end_name hs positive w b = follows-if (is_keyword w) _ _ tt (follows-if (nat_eq b 40) _ _ none (follows-end_formula hs (atom positive (number w) no_args) b))

    follows-end_function : (up : Around) (w : List ℕ) (b : ℕ) → Follows bytes (end_function number up w b)
    follows-end_function up w b = follows-if (is_keyword w) _ _ tt (follows-if (nat_eq b 40) _ _ none (follows-end_term up (app (number w) no_args) b))

    follows-end_word : (hs : List Hole) (w : List ℕ) (b : ℕ) (o : Option Word) → Follows bytes (end_word number hs w b o)
    follows-end_word hs w b (Some x) = follows-after_word hs x
    follows-end_word hs w b None = follows-end_name hs true w b

  follows-ljf_word : (hs : List Hole) (w : List ℕ) (o : Option Word) → EndsWith bytes w → Follows bytes (ljf_word hs w o)
  follows-ljf_word hs w (Some x) h = follows-after_word hs x
  follows-ljf_word hs w None h = follows-if (begins_some (word_text Ljf) w (words Ljf)) _ _ h tt

  follows-next_operator : (logic : Logic) (hs : List Hole) (a : Formula) (w : List ℕ) (o : Option Operator) → EndsWith bytes w → Follows bytes (next_operator logic hs a w o)
  follows-next_operator logic hs a w (Some o) h = none
  follows-next_operator logic hs a w None h = follows-if (begins_some (link_text logic) w (operators logic)) _ _ h tt

module _ (number : List ℕ → ℕ) (bytes : List ℕ) (b : ℕ) where
  follows-in_word : (logic : Logic) (hs : List Hole) (w : List ℕ) → EndsWith bytes w → Follows (bytes ++ b ∷ []) (next_in_word number logic hs w b)
  follows-in_word Lkf hs w h =
      follows-if (bytes ++ b ∷ []) (is_name_byte b) _ _ (ends-more bytes w b h) (follows-end_word (bytes ++ b ∷ []) number hs w b (first_with (word_text Lkf) (w ++ b ∷ []) (words Lkf)))
  follows-in_word Ljf hs w h = follows-ljf_word (bytes ++ b ∷ []) hs (w ++ b ∷ []) (first_with (word_text Ljf) (w ++ b ∷ []) (words Ljf)) (ends-more bytes w b h)

  follows-first_byte : (logic : Logic) (hs : List Hole) → Follows (bytes ++ b ∷ []) (first_byte logic hs b)
  follows-first_byte Lkf hs =
      follows-if (bytes ++ b ∷ []) (nat_eq b 126) _ _ (none (bytes ++ b ∷ [])) (follows-if (bytes ++ b ∷ []) (is_small_letter b) _ _ (ends-one bytes b) tt)
  follows-first_byte Ljf hs =
      follows-if (bytes ++ b ∷ []) (nat_eq b 43) _ _ (none (bytes ++ b ∷ []))
      (follows-if (bytes ++ b ∷ []) (nat_eq b 45) _ _ (none (bytes ++ b ∷ [])) (follows-if (bytes ++ b ∷ []) (begins_some (word_text Ljf) (b ∷ []) (words Ljf)) _ _ (ends-one bytes b) tt))

  -- what comes behind one more byte
  pub follows-next : (logic : Logic) (q : Reading) → EndsWith bytes (word_at q) → Follows (bytes ++ b ∷ []) (next number logic q b)
  follows-next logic (at_formula hs) h = follows-if (bytes ++ b ∷ []) (nat_eq b 40) _ _ (none (bytes ++ b ∷ [])) (follows-first_byte logic hs)
  follows-next logic (in_word hs w) h = follows-in_word logic hs w h
  follows-next logic (at_name hs positive) h = follows-if (bytes ++ b ∷ []) (is_small_letter b) _ _ (ends-one bytes b) tt
  follows-next logic (in_name hs positive w) h = follows-if (bytes ++ b ∷ []) (is_name_byte b) _ _ (ends-more bytes w b h) (follows-end_name (bytes ++ b ∷ []) number hs positive w b)
  follows-next logic (behind_formula hs f) h = follows-end_formula (bytes ++ b ∷ []) hs f b
  follows-next logic (in_operator hs a w) h = follows-next_operator (bytes ++ b ∷ []) logic hs a (w ++ b ∷ []) (first_with (link_text logic) (w ++ b ∷ []) (operators logic)) (ends-more bytes w b h)
  follows-next logic (at_term up) h =
      follows-if (bytes ++ b ∷ []) (nat_eq b 36) _ _ (none (bytes ++ b ∷ []))
      (follows-if (bytes ++ b ∷ []) (nat_eq b 35) _ _ (follows-if (bytes ++ b ∷ []) (nat_lt 0 (depth_around up)) _ _ (none (bytes ++ b ∷ [])) tt)
      (follows-if (bytes ++ b ∷ []) (is_small_letter b) _ _ (ends-one bytes b) tt))
  follows-next logic (in_function up w) h = follows-if (bytes ++ b ∷ []) (is_name_byte b) _ _ (ends-more bytes w b h) (follows-end_function (bytes ++ b ∷ []) number up w b)
  follows-next logic (at_eigen up) h = follows-if (bytes ++ b ∷ []) (is_digit b) _ _ (none (bytes ++ b ∷ [])) tt
  follows-next logic (in_eigen up k) h = follows-if (bytes ++ b ∷ []) (can_grow k b) _ _ (none (bytes ++ b ∷ [])) (follows-end_term (bytes ++ b ∷ []) up (eigen k) b)
  follows-next logic (at_index up) h = follows-if (bytes ++ b ∷ []) (is_digit b && nat_lt (b - 48) (depth_around up)) _ _ (none (bytes ++ b ∷ [])) tt
  follows-next logic (in_index up k) h = follows-if (bytes ++ b ∷ []) (can_grow k b && nat_lt (grown k b) (depth_around up)) _ _ (none (bytes ++ b ∷ [])) (follows-end_term (bytes ++ b ∷ []) up (bound k) b)
  follows-next logic (behind_term up t) h = follows-end_term (bytes ++ b ∷ []) up t b

-- the last of some bytes was taken away
pub popped : (xs ys new : List ℕ) (b n : ℕ) → new ≡ take (n - 1) ys → ys ≡ xs ++ b ∷ [] → n ≡ length ys → new ≡ xs
popped xs ys new b n r p l =
    let m : n - 1 ≡ length xs = omega (arith, l, ap length p, length-append xs (b ∷ [])) in
    r ∙ ap (λ k. take k ys) m ∙ ap (take (length xs)) p ∙ take-append_seam xs (b ∷ [])
