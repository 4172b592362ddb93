-- A byte that may come is kept: what the reading holds has the bytes read.
use Rattle.std.proofs.Common.{◌≡◌, ℕ, ◌+◌, ◌-◌, ◌/◌, ◌%◌, ◌<◌, ◌≤◌, Bool, true, false, if◌then◌else◌, ◌&&◌, List, [], ◌∷◌, ◌++◌, Option, Some, None, decimal, refl, sym, ap, ap₂, ◌∙◌, arith, nat_eq, nat_lt, nat_le, append_assoc}
use Rattle.std.proofs.lemmas.Bool.{and_parts}
use Rattle.std.proofs.lemmas.Bool.Decides.{nat_tests}
use Rattle.std.proofs.lemmas.Fmt.{decimal_digit, decimal_step}
use Rattle.fpc_base.specs.Tokens.{is_digit}
use Rattle.fpc_terms.specs.Name.{is_small_letter, is_name_byte}
use Rattle.fpc_terms.specs.Term.{Term, eigen, bound, app, no_args, arg}
use Rattle.fpc_terms.specs.Text.{args_before, plain_leaves}
use Rattle.polarised_formulas.specs.declared.logic.Logic.{Logic}
use Rattle.polarised_formulas.specs.declared.logic.Logic.TheVariants.{Lkf, Ljf}
use Rattle.polarised_formulas.specs.Formula.{Formula, atom, for_all, exists}
use Rattle.polarised_formulas.specs.Text.{mark_text, operator_before}
use Rattle.polarised_formulas.specs.PlainReading.{Operator, every, some, operator_text, operators, link_text, Word, true_unit, false_unit, binder, words, word_text, first_with, begins_some, Hole, first_of, second_of, under, depth_of, Around, alone, in_term, in_atom, depth_around, Reading, at_formula, in_word, at_name, in_name, behind_formula, in_operator, at_term, in_function, at_eigen, in_eigen, at_index, in_index, behind_term, Next, on, whole_term, whole_formula, wrong, args_onto, end_formula, end_term, end_name, end_function, is_keyword, after_word, end_word, ljf_word, next_in_word, first_byte, next_operator, can_grow, grown, next, Use}
use Rattle.polarised_formulas.specs.PlainForm.{begins_name, HasOperator, GivesBack, plain_term, plain_formula}
use Rattle.polarised_formulas.proofs.Lookups.{EachOf, first_with-some}
use Rattle.polarised_formulas.proofs.Begun.{done_before, holes_before, around_before, begun_before, Spells, args_before-args_onto, plain_formula-binary, IsLive, IsLiveWord}

-- the decimal digits of a number that grew
pub decimal-grown : (k b : ℕ) (rest : List ℕ) → can_grow k b ≡ true → decimal (grown k b) ++ rest ≡ decimal k ++ b ∷ rest
decimal-grown k b rest h =
    let p = and_parts (is_digit b) (nat_lt 0 k && nat_lt k 100000000) h in
    let d = and_parts (nat_lt 0 k) (nat_lt k 100000000) p.1 in
    let r = and_parts (nat_le 48 b) (nat_le b 57) p.0 in
    let low : 10 ≤ grown k b = grind (arith, nat_tests) in
    let high : grown k b < 18446744073709551616 = grind (arith, nat_tests) in
    let quotient : grown k b / 10 ≡ k = grind (arith, nat_tests) in
    let digit : 48 + grown k b % 10 ≡ b = grind (arith, nat_tests) in
    ap (λ ds. ds ++ rest) (decimal_step (grown k b) low high) ∙ rw (quotient, digit) (append_assoc (decimal k) (b ∷ []) rest)

pub decimal-one : (b : ℕ) (rest : List ℕ) → is_digit b ≡ true → decimal (b - 48) ++ rest ≡ b ∷ rest
decimal-one b rest h =
    let r = and_parts (nat_le 48 b) (nat_le b 57) h in
    let low : b - 48 < 10 = grind (arith, nat_tests) in
    let same : 48 + (b - 48) ≡ b = grind (arith, nat_tests) in
    ap (λ ds. ds ++ rest) (decimal_digit (b - 48) low) ∙ ap (λ c. c ∷ rest) same

pub same_number : (a b : ℕ) → nat_eq b a ≡ true → a ≡ b
same_number a b h = grind (arith, nat_tests)

module _ (text : ℕ → List ℕ) where
  Spells-if : (logic : Logic) (c : Bool) (x y : Next) (f : List ℕ → List ℕ) → (c ≡ true → Spells text logic x f) → (c ≡ false → Spells text logic y f) → Spells text logic (if c then x else y) f
  Spells-if logic true x y f h k = h refl
  Spells-if logic false x y f h k = k refl

  pub Spells-same : (logic : Logic) (n : Next) (f g : List ℕ → List ℕ) → ((rest : List ℕ) → f rest ≡ g rest) → Spells text logic n f → Spells text logic n g
  Spells-same logic (on q) f g e h = λ rest. h rest ∙ e rest
  Spells-same logic (whole_term t) f g e h = λ rest. h rest ∙ e rest
  Spells-same logic (whole_formula a) f g e h = λ rest. h rest ∙ e rest
  Spells-same logic wrong f g e h = tt

  Spells-after_word : (logic : Logic) (hs : List Hole) (x : Word) → Spells text logic (after_word hs x) (λ rest. holes_before text logic hs (word_text logic x ++ rest))
  Spells-after_word logic hs (true_unit p) = λ rest. refl
  Spells-after_word logic hs (false_unit p) = λ rest. refl
  Spells-after_word logic hs (binder q) = λ rest. refl

  Spells-end_formula : (logic : Logic) (hs : List Hole) (f : Formula) (b : ℕ) → Spells text logic (end_formula hs f b) (λ rest. holes_before text logic hs (plain_formula text logic (depth_of hs) f (b ∷ rest)))
  Spells-end_formula logic [] f b = Spells-if logic (nat_eq b 10) _ _ _ (λ h rest. ap (λ c. plain_formula text logic 0 f (c ∷ rest)) (same_number 10 b h)) (λ h. tt)
  Spells-end_formula logic (first_of ∷ hs) f b =
      Spells-if logic (nat_eq b 32) _ _ _ (λ h rest. ap (λ c. holes_before text logic hs (40 ∷ plain_formula text logic (depth_of hs) f (c ∷ rest))) (same_number 32 b h)) (λ h. tt)
  Spells-end_formula logic (second_of o a ∷ hs) f b =
      Spells-if logic (nat_eq b 41) _ _ _
      (λ h rest. ap (holes_before text logic hs) (plain_formula-binary text logic (depth_of hs) o a f rest) ∙ ap (λ c. holes_before text logic hs (40 ∷ plain_formula text logic (depth_of hs) a (operator_before (operator_text logic o) (plain_formula text logic (depth_of hs) f (c ∷ rest))))) (same_number 41 b h))
      (λ h. tt)
  Spells-end_formula logic (under every ∷ hs) f b = Spells-end_formula logic hs (for_all f) b
  Spells-end_formula logic (under some ∷ hs) f b = Spells-end_formula logic hs (exists f) b

  args_read : (f : ℕ) (ts : List Term) (t : Term) (b : ℕ) (rest : List ℕ) → 41 ≡ b → text f ++ args_before (plain_leaves text) (args_onto ts (arg t no_args)) rest ≡ text f ++ 40 ∷ done_before text ts (plain_term text t (b ∷ rest))
  args_read f ts t b rest e = ap (λ x. text f ++ x) (args_before-args_onto text ts t no_args rest) ∙ ap (λ c. text f ++ 40 ∷ done_before text ts (plain_term text t (c ∷ rest))) e

  Spells-end_term : (logic : Logic) (up : Around) (t : Term) (b : ℕ) → Spells text logic (end_term up t b) (λ rest. around_before text logic up (plain_term text t (b ∷ rest)))
  Spells-end_term logic alone t b = Spells-if logic (nat_eq b 10) _ _ _ (λ h rest. ap (λ c. plain_term text t (c ∷ rest)) (same_number 10 b h)) (λ h. tt)
  Spells-end_term logic (in_term f ts up) t b =
      Spells-if logic (nat_eq b 44) _ _ _ (λ h rest. ap (λ c. around_before text logic up (text f ++ 40 ∷ done_before text ts (plain_term text t (c ∷ rest)))) (same_number 44 b h))
      (λ _. Spells-if logic (nat_eq b 41) _ _ _ (λ h rest. ap (around_before text logic up) (args_read f ts t b rest (same_number 41 b h))) (λ h. tt))
  Spells-end_term logic (in_atom hs positive f ts) t b =
      Spells-if logic (nat_eq b 44) _ _ _ (λ h rest. ap (λ c. holes_before text logic hs (mark_text logic positive ++ (text f ++ 40 ∷ done_before text ts (plain_term text t (c ∷ rest))))) (same_number 44 b h))
      (λ _. Spells-if logic (nat_eq b 41) _ _ _ (λ h rest. ap (λ x. holes_before text logic hs (mark_text logic positive ++ x)) (args_read f ts t b rest (same_number 41 b h))) (λ h. tt))

  module _ (number : List ℕ → ℕ) (back : GivesBack text number) where
    Spells-end_name : (logic : Logic) (hs : List Hole) (positive : Bool) (w : List ℕ) (b : ℕ) → begins_name w ≡ true → Spells text logic (end_name number hs positive w b) (λ rest. holes_before text logic hs (mark_text logic positive ++ (w ++ b ∷ rest)))
    Spells-end_name logic hs positive w b h =
        Spells-if logic (is_keyword w) _ _ _ (λ _. tt)
        (λ _. Spells-if logic (nat_eq b 40) _ _ _
        (λ e rest. ap₂ (λ v c. holes_before text logic hs (mark_text logic positive ++ (v ++ c ∷ rest))) (back w h) (same_number 40 b e))
        (λ _. Spells-same logic (end_formula hs (atom positive (number w) no_args) b) _ _ (λ rest. ap (λ v. holes_before text logic hs (mark_text logic positive ++ (v ++ b ∷ rest))) (back w h)) (Spells-end_formula logic hs (atom positive (number w) no_args) b)))

    Spells-end_function : (logic : Logic) (up : Around) (w : List ℕ) (b : ℕ) → begins_name w ≡ true → Spells text logic (end_function number up w b) (λ rest. around_before text logic up (w ++ b ∷ rest))
    Spells-end_function logic up w b h =
        Spells-if logic (is_keyword w) _ _ _ (λ _. tt)
        (λ _. Spells-if logic (nat_eq b 40) _ _ _
        (λ e rest. ap₂ (λ v c. around_before text logic up (v ++ c ∷ rest)) (back w h) (same_number 40 b e))
        (λ _. Spells-same logic (end_term up (app (number w) no_args) b) _ _ (λ rest. ap (λ v. around_before text logic up (v ++ b ∷ rest)) (back w h)) (Spells-end_term logic up (app (number w) no_args) b)))

    Spells-end_word : (hs : List Hole) (w : List ℕ) (b : ℕ) → begins_name w ≡ true → (o : Option Word) → first_with (word_text Lkf) (w ++ b ∷ []) (words Lkf) ≡ o → Spells text Lkf (end_word number hs w b o) (λ rest. holes_before text Lkf hs (w ++ b ∷ rest))
    Spells-end_word hs w b h (Some x) e =
        let found = first_with-some (word_text Lkf) (w ++ b ∷ []) (λ _. Unit {0}) (words Lkf) (tt, (tt, (tt, (tt, (tt, (tt, tt)))))) x e in
        Spells-same Lkf (after_word hs x) _ _ (λ rest. ap (holes_before text Lkf hs) (ap (λ v. v ++ rest) found.1 ∙ append_assoc w (b ∷ []) rest)) (Spells-after_word Lkf hs x)
    Spells-end_word hs w b h None e = Spells-end_name Lkf hs true w b h

    Spells-ljf_word : (hs : List Hole) (w : List ℕ) (o : Option Word) → first_with (word_text Ljf) w (words Ljf) ≡ o → Spells text Ljf (ljf_word hs w o) (λ rest. holes_before text Ljf hs (w ++ rest))
    Spells-ljf_word hs w (Some x) e =
        let found = first_with-some (word_text Ljf) w (λ _. Unit {0}) (words Ljf) (tt, (tt, (tt, (tt, (tt, tt))))) x e in
        Spells-same Ljf (after_word hs x) _ _ (λ rest. ap (λ v. holes_before text Ljf hs (v ++ rest)) found.1) (Spells-after_word Ljf hs x)
    Spells-ljf_word hs w None e = Spells-if Ljf (begins_some (word_text Ljf) w (words Ljf)) _ _ _ (λ _ rest. refl) (λ _. tt)

    Spells-next_in_word : (logic : Logic) (hs : List Hole) (w : List ℕ) (b : ℕ) → IsLiveWord logic w → Spells text logic (next_in_word number logic hs w b) (λ rest. holes_before text logic hs (w ++ b ∷ rest))
    Spells-next_in_word Lkf hs w b live =
        Spells-if Lkf (is_name_byte b) _ _ _ (λ _ rest. ap (holes_before text Lkf hs) (append_assoc w (b ∷ []) rest))
        (λ _. Spells-end_word hs w b live (first_with (word_text Lkf) (w ++ b ∷ []) (words Lkf)) refl)
    Spells-next_in_word Ljf hs w b live =
        Spells-same Ljf (next_in_word number Ljf hs w b) _ _ (λ rest. ap (holes_before text Ljf hs) (append_assoc w (b ∷ []) rest))
        (Spells-ljf_word hs (w ++ b ∷ []) (first_with (word_text Ljf) (w ++ b ∷ []) (words Ljf)) refl)

    Spells-first_byte : (logic : Logic) (hs : List Hole) (b : ℕ) → Spells text logic (first_byte logic hs b) (λ rest. holes_before text logic hs (b ∷ rest))
    Spells-first_byte Lkf hs b =
        Spells-if Lkf (nat_eq b 126) _ _ _ (λ e rest. ap (λ c. holes_before text Lkf hs (c ∷ rest)) (same_number 126 b e)) (λ _. Spells-if Lkf (is_small_letter b) _ _ _ (λ _ rest. refl) (λ _. tt))
    Spells-first_byte Ljf hs b =
        Spells-if Ljf (nat_eq b 43) _ _ _ (λ e rest. ap (λ c. holes_before text Ljf hs (c ∷ rest)) (same_number 43 b e))
        (λ _. Spells-if Ljf (nat_eq b 45) _ _ _ (λ e rest. ap (λ c. holes_before text Ljf hs (c ∷ rest)) (same_number 45 b e))
        (λ _. Spells-if Ljf (begins_some (word_text Ljf) (b ∷ []) (words Ljf)) _ _ _ (λ _ rest. refl) (λ _. tt)))

    operator_read : (logic : Logic) (o : Operator) (w : List ℕ) (b : ℕ) (rest : List ℕ) → link_text logic o ≡ w ++ b ∷ [] → operator_text logic o ++ 32 ∷ rest ≡ w ++ b ∷ rest
    operator_read logic o w b rest e = sym (append_assoc (operator_text logic o) (32 ∷ []) rest) ∙ ap (λ v. v ++ rest) e ∙ append_assoc w (b ∷ []) rest

    all_operators : (logic : Logic) → EachOf (HasOperator logic) (operators logic)
    all_operators Lkf = (tt, (tt, (tt, (tt, tt))))
    all_operators Ljf = (tt, (tt, (tt, (tt, tt))))

    Spells-next_operator : (logic : Logic) (hs : List Hole) (a : Formula) (w : List ℕ) (b : ℕ) (o : Option Operator) → first_with (link_text logic) (w ++ b ∷ []) (operators logic) ≡ o
        → Spells text logic (next_operator logic hs a (w ++ b ∷ []) o) (λ rest. holes_before text logic hs (40 ∷ plain_formula text logic (depth_of hs) a (32 ∷ (w ++ b ∷ rest))))
    Spells-next_operator logic hs a w b (Some o) e =
        let found = first_with-some (link_text logic) (w ++ b ∷ []) (HasOperator logic) (operators logic) (all_operators logic) o e in
        λ rest. ap (λ x. holes_before text logic hs (40 ∷ plain_formula text logic (depth_of hs) a (32 ∷ x))) (operator_read logic o w b rest found.1)
    Spells-next_operator logic hs a w b None e =
        Spells-if logic (begins_some (link_text logic) (w ++ b ∷ []) (operators logic)) _ _ _
        (λ _ rest. ap (λ x. holes_before text logic hs (40 ∷ plain_formula text logic (depth_of hs) a (32 ∷ x))) (append_assoc w (b ∷ []) rest)) (λ _. tt)

    -- a byte that may come is kept
    pub Spells-next : (logic : Logic) (wanted : Use) (q : Reading) (b : ℕ) → IsLive text number logic wanted q → Spells text logic (next number logic q b) (λ rest. begun_before text logic q (b ∷ rest))
    Spells-next logic wanted (at_formula hs) b live =
        Spells-if logic (nat_eq b 40) _ _ _ (λ e rest. ap (λ c. holes_before text logic hs (c ∷ rest)) (same_number 40 b e)) (λ _. Spells-first_byte logic hs b)
    Spells-next logic wanted (in_word hs w) b live = Spells-next_in_word logic hs w b live.0
    Spells-next logic wanted (at_name hs positive) b live = Spells-if logic (is_small_letter b) _ _ _ (λ _ rest. refl) (λ _. tt)
    Spells-next logic wanted (in_name hs positive w) b live =
        Spells-if logic (is_name_byte b) _ _ _ (λ _ rest. ap (λ x. holes_before text logic hs (mark_text logic positive ++ x)) (append_assoc w (b ∷ []) rest)) (λ _. Spells-end_name logic hs positive w b live.0)
    Spells-next logic wanted (behind_formula hs f) b live = Spells-end_formula logic hs f b
    Spells-next logic wanted (in_operator hs a w) b live = Spells-next_operator logic hs a w b (first_with (link_text logic) (w ++ b ∷ []) (operators logic)) refl
    Spells-next logic wanted (at_term up) b live =
        Spells-if logic (nat_eq b 36) _ _ _ (λ e rest. ap (λ c. around_before text logic up (c ∷ rest)) (same_number 36 b e))
        (λ _. Spells-if logic (nat_eq b 35) _ _ _
        (λ e. Spells-if logic (nat_lt 0 (depth_around up)) _ _ _ (λ _ rest. ap (λ c. around_before text logic up (c ∷ rest)) (same_number 35 b e)) (λ _. tt))
        (λ _. Spells-if logic (is_small_letter b) _ _ _ (λ _ rest. refl) (λ _. tt)))
    Spells-next logic wanted (in_function up w) b live =
        Spells-if logic (is_name_byte b) _ _ _ (λ _ rest. ap (around_before text logic up) (append_assoc w (b ∷ []) rest)) (λ _. Spells-end_function logic up w b live.0)
    Spells-next logic wanted (at_eigen up) b live = Spells-if logic (is_digit b) _ _ _ (λ h rest. ap (λ x. around_before text logic up (36 ∷ x)) (decimal-one b rest h)) (λ _. tt)
    Spells-next logic wanted (in_eigen up k) b live =
        Spells-if logic (can_grow k b) _ _ _ (λ h rest. ap (λ x. around_before text logic up (36 ∷ x)) (decimal-grown k b rest h)) (λ _. Spells-end_term logic up (eigen k) b)
    Spells-next logic wanted (at_index up) b live =
        Spells-if logic (is_digit b && nat_lt (b - 48) (depth_around up)) _ _ _
        (λ h rest. ap (λ x. around_before text logic up (35 ∷ x)) (decimal-one b rest (and_parts (is_digit b) (nat_lt (b - 48) (depth_around up)) h).0)) (λ _. tt)
    Spells-next logic wanted (in_index up k) b live =
        Spells-if logic (can_grow k b && nat_lt (grown k b) (depth_around up)) _ _ _
        (λ h rest. ap (λ x. around_before text logic up (35 ∷ x)) (decimal-grown k b rest (and_parts (can_grow k b) (nat_lt (grown k b) (depth_around up)) h).0)) (λ _. Spells-end_term logic up (bound k) b)
    Spells-next logic wanted (behind_term up t) b live = Spells-end_term logic up t b
