-- The end of a line stands nowhere inside one.
use Rattle.std.proofs.Common.{◌≡◌, ℕ, Bool, true, false, if◌then◌else◌, ◌&&◌, ◌-◌, List, [], ◌∷◌, ◌++◌, Option, Some, None, refl, sym, ap, ◌∙◌, subst, arith, nat_eq, nat_lt, nat_le, append_assoc}
use Rattle.std.specs.List.{list_all}
use Rattle.std.proofs.lemmas.Bool.{and_parts, not-true}
use Rattle.std.proofs.lemmas.Bool.Decides.{nat_tests}
use Rattle.fpc_base.specs.Tokens.{is_digit, is_in_line}
use Rattle.fpc_terms.specs.Name.{is_small_letter, is_name_byte}
use Rattle.fpc_terms.specs.Term.{Term, eigen, bound, app, no_args}
use Rattle.polarised_formulas.specs.declared.logic.Logic.{Logic}
use Rattle.polarised_formulas.specs.declared.logic.Logic.TheVariants.{Lkf, Ljf}
use Rattle.polarised_formulas.specs.declared.logic.Polarity.TheVariants.{Positive, Negative}
use Rattle.polarised_formulas.specs.Formula.{Formula, atom}
use Rattle.polarised_formulas.specs.PlainReading.{Operator, conjunction, disjunction, implication, every, some, quantified, operators, link_text, Word, true_unit, false_unit, binder, words, word_text, first_with, begins_some, Hole, first_of, second_of, under, Around, alone, in_term, in_atom, depth_around, at_formula, in_word, at_name, in_name, behind_formula, in_operator, at_term, in_function, at_eigen, in_eigen, at_index, in_index, behind_term, Next, end_formula, end_term, end_name, end_function, is_keyword, after_word, end_word, ljf_word, next_in_word, first_byte, next_operator, can_grow, grown}
use Rattle.polarised_formulas.specs.PlainForm.{HasOperator}
use Rattle.polarised_formulas.specs.PlainTexts.{EndsAt, LineEnds}
use Rattle.polarised_formulas.proofs.Lookups.{first_with-some, begins_some-continues}
use Rattle.polarised_formulas.proofs.Kept.{same_number}
use Rattle.polarised_formulas.proofs.Live.{HasWord, all_words, all_operators}

ends-if : (b : ℕ) (c : Bool) (x y : Next) → (c ≡ true → EndsAt b x) → (c ≡ false → EndsAt b y) → EndsAt b (if c then x else y)
ends-if b true x y h k = h refl
ends-if b false x y h k = k refl

other_byte : (k b : ℕ) → nat_eq k 10 ≡ false → nat_eq b k ≡ true → nat_eq b 10 ≡ false
other_byte k b h e = subst (λ c. nat_eq c 10 ≡ false) (same_number k b e) h

small_byte : (b : ℕ) → is_small_letter b ≡ true → nat_eq b 10 ≡ false
small_byte b h = let p = and_parts (nat_le 97 b) (nat_le b 122) h in grind (arith, nat_tests)

name_byte : (b : ℕ) → is_name_byte b ≡ true → nat_eq b 10 ≡ false
name_byte b h = grind (arith, nat_tests)

digit_byte : (b : ℕ) → is_digit b ≡ true → nat_eq b 10 ≡ false
digit_byte b h = let p = and_parts (nat_le 48 b) (nat_le b 57) h in grind (arith, nat_tests)

inner_byte : (w : List ℕ) (b : ℕ) (more : List ℕ) → list_all is_in_line (w ++ b ∷ more) ≡ true → nat_eq b 10 ≡ false
inner_byte [] b more h = not-true (nat_eq b 10) (and_parts (is_in_line b) (list_all is_in_line more) h).0
inner_byte (c ∷ w) b more h = inner_byte w b more (and_parts (is_in_line c) (list_all is_in_line (w ++ b ∷ more)) h).1

word-in_line : (logic : Logic) (x : Word) → list_all is_in_line (word_text logic x) ≡ true
word-in_line logic (true_unit Positive) = refl
word-in_line logic (true_unit Negative) = refl
word-in_line Lkf (false_unit Positive) = refl
word-in_line Lkf (false_unit Negative) = refl
word-in_line Ljf (false_unit p) = refl
word-in_line logic (binder every) = refl
word-in_line logic (binder some) = refl

link-in_line : (logic : Logic) (o : Operator) → list_all is_in_line (link_text logic o) ≡ true
link-in_line logic (conjunction Positive) = refl
link-in_line logic (conjunction Negative) = refl
link-in_line Lkf (disjunction Positive) = refl
link-in_line Lkf (disjunction Negative) = refl
link-in_line Ljf (disjunction p) = refl
link-in_line logic implication = refl

word_byte : (logic : Logic) (w : List ℕ) (b : ℕ) (x : Word) → first_with (word_text logic) (w ++ b ∷ []) (words logic) ≡ Some x → nat_eq b 10 ≡ false
word_byte logic w b x e = let f = first_with-some (word_text logic) (w ++ b ∷ []) (HasWord logic) (words logic) (all_words logic) x e in inner_byte w b [] (ap (list_all is_in_line) (sym f.1) ∙ word-in_line logic x)

begun_word_byte : (logic : Logic) (w : List ℕ) (b : ℕ) → begins_some (word_text logic) (w ++ b ∷ []) (words logic) ≡ true → nat_eq b 10 ≡ false
begun_word_byte logic w b h =
    let c = begins_some-continues (word_text logic) (w ++ b ∷ []) (HasWord logic) (words logic) (all_words logic) h in
    inner_byte w b c.more (ap (list_all is_in_line) (sym (c.same ∙ append_assoc w (b ∷ []) c.more)) ∙ word-in_line logic c.word)

ends-end_formula : (hs : List Hole) (f : Formula) (b : ℕ) → EndsAt b (end_formula hs f b)
ends-end_formula [] f b = ends-if b (nat_eq b 10) _ _ (λ h. sym (same_number 10 b h)) (λ _. tt)
ends-end_formula (first_of ∷ hs) f b = ends-if b (nat_eq b 32) _ _ (other_byte 32 b refl) (λ _. tt)
ends-end_formula (second_of o a ∷ hs) f b = ends-if b (nat_eq b 41) _ _ (other_byte 41 b refl) (λ _. tt)
ends-end_formula (under q ∷ hs) f b = ends-end_formula hs (quantified q f) b

ends-end_term : (up : Around) (t : Term) (b : ℕ) → EndsAt b (end_term up t b)
ends-end_term alone t b = ends-if b (nat_eq b 10) _ _ (λ h. sym (same_number 10 b h)) (λ _. tt)
ends-end_term (in_term f ts up) t b = ends-if b (nat_eq b 44) _ _ (other_byte 44 b refl) (λ _. ends-if b (nat_eq b 41) _ _ (other_byte 41 b refl) (λ _. tt))
ends-end_term (in_atom hs positive f ts) t b = ends-if b (nat_eq b 44) _ _ (other_byte 44 b refl) (λ _. ends-if b (nat_eq b 41) _ _ (other_byte 41 b refl) (λ _. tt))

ends-after_word : (hs : List Hole) (x : Word) (b : ℕ) → nat_eq b 10 ≡ false → EndsAt b (after_word hs x)
ends-after_word hs (true_unit p) b h = h
ends-after_word hs (false_unit p) b h = h
ends-after_word hs (binder q) b h = h

module _ (number : List ℕ → ℕ) where
  ends-end_name : (hs : List Hole) (positive : Bool) (w : List ℕ) (b : ℕ) → EndsAt b (end_name number hs positive w b)
  ends-end_name hs positive w b = ends-if b (is_keyword w) _ _ (λ _. tt) (λ _. ends-if b (nat_eq b 40) _ _ (other_byte 40 b refl) (λ _. ends-end_formula hs (atom positive (number w) no_args) b))

  ends-end_function : (up : Around) (w : List ℕ) (b : ℕ) → EndsAt b (end_function number up w b)
  ends-end_function up w b = ends-if b (is_keyword w) _ _ (λ _. tt) (λ _. ends-if b (nat_eq b 40) _ _ (other_byte 40 b refl) (λ _. ends-end_term up (app (number w) no_args) b))

  ends-end_word : (hs : List Hole) (w : List ℕ) (b : ℕ) (o : Option Word) → first_with (word_text Lkf) (w ++ b ∷ []) (words Lkf) ≡ o → EndsAt b (end_word number hs w b o)
  ends-end_word hs w b (Some x) e = ends-after_word hs x b (word_byte Lkf w b x e)
  ends-end_word hs w b None e = ends-end_name hs true w b

  ends-ljf_word : (hs : List Hole) (w : List ℕ) (b : ℕ) (o : Option Word) → first_with (word_text Ljf) (w ++ b ∷ []) (words Ljf) ≡ o → EndsAt b (ljf_word hs (w ++ b ∷ []) o)
  ends-ljf_word hs w b (Some x) e = ends-after_word hs x b (word_byte Ljf w b x e)
  ends-ljf_word hs w b None e = ends-if b (begins_some (word_text Ljf) (w ++ b ∷ []) (words Ljf)) _ _ (begun_word_byte Ljf w b) (λ _. tt)

  ends-next_in_word : (logic : Logic) (hs : List Hole) (w : List ℕ) (b : ℕ) → EndsAt b (next_in_word number logic hs w b)
  ends-next_in_word Lkf hs w b = ends-if b (is_name_byte b) _ _ (name_byte b) (λ _. ends-end_word hs w b (first_with (word_text Lkf) (w ++ b ∷ []) (words Lkf)) refl)
  ends-next_in_word Ljf hs w b = ends-ljf_word hs w b (first_with (word_text Ljf) (w ++ b ∷ []) (words Ljf)) refl

  ends-first_byte : (logic : Logic) (hs : List Hole) (b : ℕ) → EndsAt b (first_byte logic hs b)
  ends-first_byte Lkf hs b = ends-if b (nat_eq b 126) _ _ (other_byte 126 b refl) (λ _. ends-if b (is_small_letter b) _ _ (small_byte b) (λ _. tt))
  ends-first_byte Ljf hs b =
      ends-if b (nat_eq b 43) _ _ (other_byte 43 b refl)
      (λ _. ends-if b (nat_eq b 45) _ _ (other_byte 45 b refl) (λ _. ends-if b (begins_some (word_text Ljf) (b ∷ []) (words Ljf)) _ _ (begun_word_byte Ljf [] b) (λ _. tt)))

  ends-next_operator : (logic : Logic) (hs : List Hole) (a : Formula) (w : List ℕ) (b : ℕ) (o : Option Operator) → first_with (link_text logic) (w ++ b ∷ []) (operators logic) ≡ o → EndsAt b (next_operator logic hs a (w ++ b ∷ []) o)
  ends-next_operator logic hs a w b (Some o) e =
      let f = first_with-some (link_text logic) (w ++ b ∷ []) (HasOperator logic) (operators logic) (all_operators logic) o e in inner_byte w b [] (ap (list_all is_in_line) (sym f.1) ∙ link-in_line logic o)
  ends-next_operator logic hs a w b None e =
      ends-if b (begins_some (link_text logic) (w ++ b ∷ []) (operators logic)) _ _
      (λ h. let c = begins_some-continues (link_text logic) (w ++ b ∷ []) (HasOperator logic) (operators logic) (all_operators logic) h in
      inner_byte w b c.more (ap (list_all is_in_line) (sym (c.same ∙ append_assoc w (b ∷ []) c.more)) ∙ link-in_line logic c.word)) (λ _. tt)

pub line_ends : LineEnds
line_ends number logic (at_formula hs) b = ends-if b (nat_eq b 40) _ _ (other_byte 40 b refl) (λ _. ends-first_byte number logic hs b)
line_ends number logic (in_word hs w) b = ends-next_in_word number logic hs w b
line_ends number logic (at_name hs positive) b = ends-if b (is_small_letter b) _ _ (small_byte b) (λ _. tt)
line_ends number logic (in_name hs positive w) b = ends-if b (is_name_byte b) _ _ (name_byte b) (λ _. ends-end_name number hs positive w b)
line_ends number logic (behind_formula hs f) b = ends-end_formula hs f b
line_ends number logic (in_operator hs a w) b = ends-next_operator number logic hs a w b (first_with (link_text logic) (w ++ b ∷ []) (operators logic)) refl
line_ends number logic (at_term up) b =
    ends-if b (nat_eq b 36) _ _ (other_byte 36 b refl)
    (λ _. ends-if b (nat_eq b 35) _ _ (λ h. ends-if b (nat_lt 0 (depth_around up)) _ _ (λ _. other_byte 35 b refl h) (λ _. tt)) (λ _. ends-if b (is_small_letter b) _ _ (small_byte b) (λ _. tt)))
line_ends number logic (in_function up w) b = ends-if b (is_name_byte b) _ _ (name_byte b) (λ _. ends-end_function number up w b)
line_ends number logic (at_eigen up) b = ends-if b (is_digit b) _ _ (digit_byte b) (λ _. tt)
line_ends number logic (in_eigen up k) b = ends-if b (can_grow k b) _ _ (λ h. digit_byte b (and_parts (is_digit b) (nat_lt 0 k && nat_lt k 100000000) h).0) (λ _. ends-end_term up (eigen k) b)
line_ends number logic (at_index up) b = ends-if b (is_digit b && nat_lt (b - 48) (depth_around up)) _ _ (λ h. digit_byte b (and_parts (is_digit b) (nat_lt (b - 48) (depth_around up)) h).0) (λ _. tt)
line_ends number logic (in_index up k) b =
    ends-if b (can_grow k b && nat_lt (grown k b) (depth_around up)) _ _
    (λ h. digit_byte b (and_parts (is_digit b) (nat_lt 0 k && nat_lt k 100000000) (and_parts (can_grow k b) (nat_lt (grown k b) (depth_around up)) h).0).0) (λ _. ends-end_term up (bound k) b)
line_ends number logic (behind_term up t) b = ends-end_term up t b
