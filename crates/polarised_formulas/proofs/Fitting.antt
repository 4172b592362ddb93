-- The limits along a reading: where it keeps them, and where they must have been kept.
use Rattle.std.proofs.Common.{◌≡◌, ℕ, suc, ◌+◌, ◌-◌, ◌<◌, ◌≤◌, Bool, true, false, if◌then◌else◌, ◌&&◌, List, [], ◌∷◌, ◌++◌, length, Option, Some, None, refl, sym, ap, ◌∙◌, subst, arith, nat_eq, nat_lt}
use Rattle.std.proofs.lemmas.Bool.{cond-false}
use Rattle.std.proofs.lemmas.Bool.Decides.{nat_tests}
use Rattle.fpc_base.specs.Tokens.{is_digit}
use Rattle.fpc_base.specs.declared.refusal.Code.TheVariants.{TooDeep, LongName, ManyArguments}
use Rattle.fpc_terms.specs.Name.{is_small_letter, is_name_byte}
use Rattle.fpc_terms.specs.Term.{Term, Args, eigen, bound, app, no_args, arg, count}
use Rattle.polarised_formulas.specs.declared.logic.Logic.{Logic}
use Rattle.polarised_formulas.specs.declared.logic.Logic.TheVariants.{Lkf, Ljf}
use Rattle.polarised_formulas.specs.declared.logic.Polarity.TheVariants.{Positive, Negative}
use Rattle.polarised_formulas.specs.Formula.{Formula, atom}
use Rattle.polarised_formulas.specs.PlainReading.{Operator, conjunction, disjunction, implication, Quantifier, every, some, binary, quantified, operators, link_text, Word, true_unit, false_unit, binder, words, word_text, first_with, begins_some, Hole, first_of, second_of, under, Around, alone, in_term, in_atom, depth_around, Reading, at_formula, in_word, at_name, in_name, behind_formula, in_operator, at_term, in_function, at_eigen, in_eigen, at_index, in_index, behind_term, Next, on, whole_term, whole_formula, wrong, args_onto, end_formula, end_term, end_name, end_function, is_keyword, after_word, end_word, ljf_word, next_in_word, first_byte, next_operator, can_grow, grown, next, Use}
use Rattle.polarised_formulas.specs.PlainForm.{begins_name, GivesBack}
use Rattle.polarised_formulas.specs.PlainLimits.{name_length, arguments_of, arguments_before, nesting, limit_of, FitsTerm, FitArgs, FitsFormula}
use Rattle.polarised_formulas.proofs.Lookups.{first_with-some}
use Rattle.polarised_formulas.proofs.Begun.{IsLive, IsLiveWord}
use Rattle.polarised_formulas.proofs.Live.{HasWord, all_words}

count-args_onto : (ts : List Term) (us : Args) → count (args_onto ts us) ≡ length ts + count us
count-args_onto [] us = let e : count us ≡ 0 + count us = omega arith in e
count-args_onto (t ∷ ts) us = let e : length ts + suc (count us) ≡ suc (length ts) + count us = omega arith in count-args_onto ts (arg t us) ∙ e

length-snoc : (w : List ℕ) (b : ℕ) → length (w ++ b ∷ []) ≡ suc (length w)
length-snoc [] b = refl
length-snoc (c ∷ w) b = ap suc (length-snoc w b)

word-short : (logic : Logic) (x : Word) → length (word_text logic x) ≤ 255
word-short logic (true_unit Positive) = omega arith
word-short logic (true_unit Negative) = omega arith
word-short Lkf (false_unit Positive) = omega arith
word-short Lkf (false_unit Negative) = omega arith
word-short Ljf (false_unit p) = omega arith
word-short logic (binder every) = omega arith
word-short logic (binder some) = omega arith

-- without its last byte a word is short
begun-short : (logic : Logic) (w : List ℕ) (b : ℕ) (x : Word) → first_with (word_text logic) (w ++ b ∷ []) (words logic) ≡ Some x → length w ≤ 255
begun-short logic w b x e =
    let f = first_with-some (word_text logic) (w ++ b ∷ []) (HasWord logic) (words logic) (all_words logic) x e in
    let l : length (word_text logic x) ≡ suc (length w) = ap length f.1 ∙ length-snoc w b in
    let s = word-short logic x in
    omega arith

-- what no limit tells
pub record Within (q r : Reading) : Type 0 where
  pub shallow : nesting q ≤ 10000
  pub short : name_length r ≤ 255
  pub few : arguments_before r < 255

pub limit-within : (q r : Reading) → limit_of q r ≡ None → Within q r
limit-within q r h = deep (nat_lt 10000 (nesting q)) refl h
  where
    many : (c : Bool) → nat_lt 254 (arguments_before r) ≡ c → nat_lt 10000 (nesting q) ≡ false → nat_lt 255 (name_length r) ≡ false → (if c then Some ManyArguments else None) ≡ None → Within q r
    many true e d l k = cc
    many false e d l k = record { shallow = grind (arith, nat_tests); short = grind (arith, nat_tests); few = grind (arith, nat_tests) }

    long : (c : Bool) → nat_lt 255 (name_length r) ≡ c → nat_lt 10000 (nesting q) ≡ false → (if c then Some LongName else if nat_lt 254 (arguments_before r) then Some ManyArguments else None) ≡ None → Within q r
    long true e d k = cc
    long false e d k = many (nat_lt 254 (arguments_before r)) refl d e k

    deep : (c : Bool) → nat_lt 10000 (nesting q) ≡ c → (if c then Some TooDeep else if nat_lt 255 (name_length r) then Some LongName else if nat_lt 254 (arguments_before r) then Some ManyArguments else None) ≡ None → Within q r
    deep true e k = cc
    deep false e k = long (nat_lt 255 (name_length r)) refl e k

pub within-limit : (q r : Reading) → Within q r → limit_of q r ≡ None
within-limit q r h =
    let a = h.shallow in let b = h.short in let c = h.few in
    let x : nat_lt 10000 (nesting q) ≡ false = grind (arith, nat_tests) in
    let y : nat_lt 255 (name_length r) ≡ false = grind (arith, nat_tests) in
    let z : nat_lt 254 (arguments_before r) ≡ false = grind (arith, nat_tests) in
    cond-false (nat_lt 10000 (nesting q)) _ _ x ∙ cond-false (nat_lt 255 (name_length r)) _ _ y ∙ cond-false (nat_lt 254 (arguments_before r)) _ _ z

module _ (text : ℕ → List ℕ) where
  abbrev pub DoneFit : List Term → Type 0
  DoneFit [] = Unit {0}
  DoneFit (t ∷ ts) = FitsTerm text t × DoneFit ts

  abbrev pub HolesFit : List Hole → Type 0
  HolesFit [] = Unit {0}
  HolesFit (first_of ∷ hs) = (length hs < 10000) × HolesFit hs
  HolesFit (second_of o a ∷ hs) = (length hs < 10000) × FitsFormula text (suc (length hs)) a × HolesFit hs
  HolesFit (under q ∷ hs) = (length hs < 10000) × HolesFit hs

  abbrev pub AroundFits : Around → Type 0
  AroundFits alone = Unit {0}
  AroundFits (in_term f ts up) = (length (text f) ≤ 255) × DoneFit ts × (length ts < 255) × AroundFits up
  AroundFits (in_atom hs positive f ts) = (length hs < 10000) × (length (text f) ≤ 255) × DoneFit ts × (length ts < 255) × HolesFit hs

  abbrev pub Fits : Reading → Type 0
  Fits (at_formula hs) = HolesFit hs
  Fits (in_word hs w) = (length hs < 10000) × (length w ≤ 255) × HolesFit hs
  Fits (at_name hs positive) = (length hs < 10000) × HolesFit hs
  Fits (in_name hs positive w) = (length hs < 10000) × (length w ≤ 255) × HolesFit hs
  Fits (behind_formula hs f) = FitsFormula text (length hs) f × HolesFit hs
  Fits (in_operator hs a w) = (length hs < 10000) × FitsFormula text (suc (length hs)) a × HolesFit hs
  Fits (at_term up) = AroundFits up
  Fits (in_function up w) = (length w ≤ 255) × AroundFits up
  Fits (at_eigen up) = AroundFits up
  Fits (in_eigen up k) = AroundFits up
  Fits (at_index up) = AroundFits up
  Fits (in_index up k) = AroundFits up
  Fits (behind_term up t) = FitsTerm text t × AroundFits up

  abbrev pub FitsNext : Next → Type 0
  FitsNext (on q) = Fits q
  FitsNext (whole_term t) = FitsTerm text t
  FitsNext (whole_formula f) = FitsFormula text 0 f
  FitsNext wrong = ⊥

  pub FitArgs-args_onto : (ts : List Term) (us : Args) → DoneFit ts → FitArgs text us → FitArgs text (args_onto ts us)
  FitArgs-args_onto [] us h k = k
  FitArgs-args_onto (t ∷ ts) us h k = FitArgs-args_onto ts (arg t us) h.1 (h.0, k)

  args_onto-fit : (ts : List Term) (us : Args) → FitArgs text (args_onto ts us) → DoneFit ts × FitArgs text us
  args_onto-fit [] us h = (tt, h)
  args_onto-fit (t ∷ ts) us h = let r = args_onto-fit ts (arg t us) h in ((r.1.0, r.0), r.1.1)

  pub FitsFormula-binary : (n : ℕ) (o : Operator) (a b : Formula) → (n < 10000) × FitsFormula text (suc n) a × FitsFormula text (suc n) b → FitsFormula text n (binary o a b)
  FitsFormula-binary n (conjunction p) a b h = h
  FitsFormula-binary n (disjunction p) a b h = h
  FitsFormula-binary n implication a b h = h

  binary-fits : (n : ℕ) (o : Operator) (a b : Formula) → FitsFormula text n (binary o a b) → (n < 10000) × FitsFormula text (suc n) a × FitsFormula text (suc n) b
  binary-fits n (conjunction p) a b h = h
  binary-fits n (disjunction p) a b h = h
  binary-fits n implication a b h = h

  quantified-fits : (n : ℕ) (q : Quantifier) (f : Formula) → FitsFormula text n (quantified q f) → (n < 10000) × FitsFormula text (suc n) f
  quantified-fits n every f h = h
  quantified-fits n some f h = h

  pub FitsFormula-quantified : (n : ℕ) (q : Quantifier) (f : Formula) → (n < 10000) × FitsFormula text (suc n) f → FitsFormula text n (quantified q f)
  FitsFormula-quantified n every f h = h
  FitsFormula-quantified n some f h = h

  -- what must have fitted
  back-if : (P : Type 0) (c : Bool) (x y : Next) → (c ≡ true → FitsNext x → P) → (c ≡ false → FitsNext y → P) → FitsNext (if c then x else y) → P
  back-if P true x y h k = h refl
  back-if P false x y h k = k refl

  back-end_formula : (hs : List Hole) (f : Formula) (b : ℕ) → FitsNext (end_formula hs f b) → FitsFormula text (length hs) f × HolesFit hs
  back-end_formula [] f b = back-if _ (nat_eq b 10) _ _ (λ _ h. (h, tt)) (λ _ h. absurd h)
  back-end_formula (first_of ∷ hs) f b = back-if _ (nat_eq b 32) _ _ (λ _ h. (h.1, (h.0, h.2))) (λ _ h. absurd h)
  back-end_formula (second_of o a ∷ hs) f b = back-if _ (nat_eq b 41) _ _ (λ _ h. let r = binary-fits (length hs) o a f h.0 in (r.2, (r.0, r.1, h.1))) (λ _ h. absurd h)
  back-end_formula (under q ∷ hs) f b = λ h. let r = back-end_formula hs (quantified q f) b h in let s = quantified-fits (length hs) q f r.0 in (s.1, (s.0, r.1))

  closed-few : (ts : List Term) (t : Term) → count (args_onto ts (arg t no_args)) ≤ 255 → length ts < 255
  closed-few ts t h = let e = count-args_onto ts (arg t no_args) in omega arith

  pub few-closed : (ts : List Term) (t : Term) → length ts < 255 → count (args_onto ts (arg t no_args)) ≤ 255
  few-closed ts t h = let e = count-args_onto ts (arg t no_args) in omega arith

  back-end_term : (up : Around) (t : Term) (b : ℕ) → FitsNext (end_term up t b) → FitsTerm text t × AroundFits up
  back-end_term alone t b = back-if _ (nat_eq b 10) _ _ (λ _ h. (h, tt)) (λ _ h. absurd h)
  back-end_term (in_term f ts up) t b =
      back-if _ (nat_eq b 44) _ _ (λ _ h. let fewer : length ts < 255 = (let l = h.2 in omega arith) in (h.1.0, (h.0, h.1.1, fewer, h.3)))
      (λ _. back-if _ (nat_eq b 41) _ _ (λ _ h. let r = args_onto-fit ts (arg t no_args) h.0.2 in (r.1.0, (h.0.0, r.0, closed-few ts t h.0.1, h.1))) (λ _ h. absurd h))
  back-end_term (in_atom hs positive f ts) t b =
      back-if _ (nat_eq b 44) _ _ (λ _ h. let fewer : length ts < 255 = (let l = h.3 in omega arith) in (h.2.0, (h.0, h.1, h.2.1, fewer, h.4)))
      (λ _. back-if _ (nat_eq b 41) _ _ (λ _ h. let r = args_onto-fit ts (arg t no_args) h.0.3 in (r.1.0, (h.0.0, h.0.1, r.0, closed-few ts t h.0.2, h.1))) (λ _ h. absurd h))

  back-after_word : (hs : List Hole) (x : Word) → FitsNext (after_word hs x) → (length hs < 10000) × HolesFit hs
  back-after_word hs (true_unit p) h = h
  back-after_word hs (false_unit p) h = h
  back-after_word hs (binder q) h = h

  back-first_byte : (logic : Logic) (hs : List Hole) (b : ℕ) → FitsNext (first_byte logic hs b) → (length hs < 10000) × HolesFit hs
  back-first_byte Lkf hs b = back-if _ (nat_eq b 126) _ _ (λ _ h. h) (λ _. back-if _ (is_small_letter b) _ _ (λ _ h. (h.0, h.2)) (λ _ h. absurd h))
  back-first_byte Ljf hs b =
      back-if _ (nat_eq b 43) _ _ (λ _ h. h) (λ _. back-if _ (nat_eq b 45) _ _ (λ _ h. h) (λ _. back-if _ (begins_some (word_text Ljf) (b ∷ []) (words Ljf)) _ _ (λ _ h. (h.0, h.2)) (λ _ h. absurd h)))

  shorter : (w : List ℕ) (b : ℕ) → length (w ++ b ∷ []) ≤ 255 → length w ≤ 255
  shorter w b h = let e = length-snoc w b in omega arith

  back-ljf_word : (hs : List Hole) (w : List ℕ) (b : ℕ) (o : Option Word) → first_with (word_text Ljf) (w ++ b ∷ []) (words Ljf) ≡ o → FitsNext (ljf_word hs (w ++ b ∷ []) o) → (length hs < 10000) × (length w ≤ 255) × HolesFit hs
  back-ljf_word hs w b (Some x) e = λ h. let r = back-after_word hs x h in (r.0, begun-short Ljf w b x e, r.1)
  back-ljf_word hs w b None e = back-if _ (begins_some (word_text Ljf) (w ++ b ∷ []) (words Ljf)) _ _ (λ _ h. (h.0, shorter w b h.1, h.2)) (λ _ h. absurd h)

  back-next_operator : (logic : Logic) (hs : List Hole) (a : Formula) (w : List ℕ) (o : Option Operator) → FitsNext (next_operator logic hs a w o) → (length hs < 10000) × FitsFormula text (suc (length hs)) a × HolesFit hs
  back-next_operator logic hs a w (Some o) = λ h. h
  back-next_operator logic hs a w None = back-if _ (begins_some (link_text logic) w (operators logic)) _ _ (λ _ h. h) (λ _ h. absurd h)

  module _ (number : List ℕ → ℕ) (back : GivesBack text number) where
    back-end_name : (hs : List Hole) (positive : Bool) (w : List ℕ) (b : ℕ) → begins_name w ≡ true → FitsNext (end_name number hs positive w b) → (length hs < 10000) × (length w ≤ 255) × HolesFit hs
    back-end_name hs positive w b n =
        back-if _ (is_keyword w) _ _ (λ _ h. absurd h)
        (λ _. back-if _ (nat_eq b 40) _ _ (λ _ h. (h.0, subst (λ v. length v ≤ 255) (back w n) h.1, h.4))
        (λ _ h. let r = back-end_formula hs (atom positive (number w) no_args) b h in (r.0.0, subst (λ v. length v ≤ 255) (back w n) r.0.1, r.1)))

    back-end_function : (up : Around) (w : List ℕ) (b : ℕ) → begins_name w ≡ true → FitsNext (end_function number up w b) → (length w ≤ 255) × AroundFits up
    back-end_function up w b n =
        back-if _ (is_keyword w) _ _ (λ _ h. absurd h)
        (λ _. back-if _ (nat_eq b 40) _ _ (λ _ h. (subst (λ v. length v ≤ 255) (back w n) h.0, h.3))
        (λ _ h. let r = back-end_term up (app (number w) no_args) b h in (subst (λ v. length v ≤ 255) (back w n) r.0.0, r.1)))

    back-end_word : (hs : List Hole) (w : List ℕ) (b : ℕ) (o : Option Word) → first_with (word_text Lkf) (w ++ b ∷ []) (words Lkf) ≡ o → begins_name w ≡ true → FitsNext (end_word number hs w b o) → (length hs < 10000) × (length w ≤ 255) × HolesFit hs
    back-end_word hs w b (Some x) e n h = let r = back-after_word hs x h in (r.0, begun-short Lkf w b x e, r.1)
    back-end_word hs w b None e n h = back-end_name hs true w b n h

    back-next_in_word : (logic : Logic) (hs : List Hole) (w : List ℕ) (b : ℕ) → IsLiveWord logic w → FitsNext (next_in_word number logic hs w b) → (length hs < 10000) × (length w ≤ 255) × HolesFit hs
    back-next_in_word Lkf hs w b n =
        back-if _ (is_name_byte b) _ _ (λ _ h. (h.0, shorter w b h.1, h.2)) (λ _. back-end_word hs w b (first_with (word_text Lkf) (w ++ b ∷ []) (words Lkf)) refl n)
    back-next_in_word Ljf hs w b n = back-ljf_word hs w b (first_with (word_text Ljf) (w ++ b ∷ []) (words Ljf)) refl

    -- a reading that leads on to what fits fits itself
    pub back-next : (logic : Logic) (wanted : Use) (q : Reading) (b : ℕ) → IsLive text number logic wanted q → FitsNext (next number logic q b) → Fits q
    back-next logic wanted (at_formula hs) b live = back-if _ (nat_eq b 40) _ _ (λ _ h. h.1) (λ _ h. (back-first_byte logic hs b h).1)
    back-next logic wanted (in_word hs w) b live = back-next_in_word logic hs w b live.0
    back-next logic wanted (at_name hs positive) b live = back-if _ (is_small_letter b) _ _ (λ _ h. (h.0, h.2)) (λ _ h. absurd h)
    back-next logic wanted (in_name hs positive w) b live = back-if _ (is_name_byte b) _ _ (λ _ h. (h.0, shorter w b h.1, h.2)) (λ _. back-end_name hs positive w b live.0)
    back-next logic wanted (behind_formula hs f) b live = back-end_formula hs f b
    back-next logic wanted (in_operator hs a w) b live = back-next_operator logic hs a (w ++ b ∷ []) (first_with (link_text logic) (w ++ b ∷ []) (operators logic))
    back-next logic wanted (at_term up) b live =
        back-if _ (nat_eq b 36) _ _ (λ _ h. h)
        (λ _. back-if _ (nat_eq b 35) _ _ (λ _. back-if _ (nat_lt 0 (depth_around up)) _ _ (λ _ h. h) (λ _ h. absurd h)) (λ _. back-if _ (is_small_letter b) _ _ (λ _ h. h.1) (λ _ h. absurd h)))
    back-next logic wanted (in_function up w) b live = back-if _ (is_name_byte b) _ _ (λ _ h. (shorter w b h.0, h.1)) (λ _. back-end_function up w b live.0)
    back-next logic wanted (at_eigen up) b live = back-if _ (is_digit b) _ _ (λ _ h. h) (λ _ h. absurd h)
    back-next logic wanted (in_eigen up k) b live = back-if _ (can_grow k b) _ _ (λ _ h. h) (λ _ h. (back-end_term up (eigen k) b h).1)
    back-next logic wanted (at_index up) b live = back-if _ (is_digit b && nat_lt (b - 48) (depth_around up)) _ _ (λ _ h. h) (λ _ h. absurd h)
    back-next logic wanted (in_index up k) b live = back-if _ (can_grow k b && nat_lt (grown k b) (depth_around up)) _ _ (λ _ h. h) (λ _ h. (back-end_term up (bound k) b h).1)
    back-next logic wanted (behind_term up t) b live = back-end_term up t b

    nesting-fits : (logic : Logic) (q : Reading) (b : ℕ) → FitsNext (next number logic q b) → nesting q ≤ 10000
    nesting-fits logic (at_formula hs) b = back-if _ (nat_eq b 40) _ _ (λ _ h. let l = h.0 in omega arith) (λ _ h. let l = (back-first_byte logic hs b h).0 in omega arith)
    nesting-fits logic (in_word hs w) b = λ _. omega arith
    nesting-fits logic (at_name hs positive) b = λ _. omega arith
    nesting-fits logic (in_name hs positive w) b = λ _. omega arith
    nesting-fits logic (behind_formula hs f) b = λ _. omega arith
    nesting-fits logic (in_operator hs a w) b = λ _. omega arith
    nesting-fits logic (at_term up) b = λ _. omega arith
    nesting-fits logic (in_function up w) b = λ _. omega arith
    nesting-fits logic (at_eigen up) b = λ _. omega arith
    nesting-fits logic (in_eigen up k) b = λ _. omega arith
    nesting-fits logic (at_index up) b = λ _. omega arith
    nesting-fits logic (in_index up k) b = λ _. omega arith
    nesting-fits logic (behind_term up t) b = λ _. omega arith

  name_length-fits : (r : Reading) → Fits r → name_length r ≤ 255
  name_length-fits (at_formula hs) h = omega arith
  name_length-fits (in_word hs w) h = h.1
  name_length-fits (at_name hs positive) h = omega arith
  name_length-fits (in_name hs positive w) h = h.1
  name_length-fits (behind_formula hs f) h = omega arith
  name_length-fits (in_operator hs a w) h = omega arith
  name_length-fits (at_term up) h = omega arith
  name_length-fits (in_function up w) h = h.0
  name_length-fits (at_eigen up) h = omega arith
  name_length-fits (in_eigen up k) h = omega arith
  name_length-fits (at_index up) h = omega arith
  name_length-fits (in_index up k) h = omega arith
  name_length-fits (behind_term up t) h = omega arith

  arguments_of-fits : (up : Around) → AroundFits up → arguments_of up < 255
  arguments_of-fits alone h = omega arith
  arguments_of-fits (in_term f ts up) h = h.2
  arguments_of-fits (in_atom hs positive f ts) h = h.3

  arguments_before-fits : (r : Reading) → Fits r → arguments_before r < 255
  arguments_before-fits (at_formula hs) h = omega arith
  arguments_before-fits (in_word hs w) h = omega arith
  arguments_before-fits (at_name hs positive) h = omega arith
  arguments_before-fits (in_name hs positive w) h = omega arith
  arguments_before-fits (behind_formula hs f) h = omega arith
  arguments_before-fits (in_operator hs a w) h = omega arith
  arguments_before-fits (at_term up) h = arguments_of-fits up h
  arguments_before-fits (in_function up w) h = omega arith
  arguments_before-fits (at_eigen up) h = omega arith
  arguments_before-fits (in_eigen up k) h = omega arith
  arguments_before-fits (at_index up) h = omega arith
  arguments_before-fits (in_index up k) h = omega arith
  arguments_before-fits (behind_term up t) h = omega arith

  -- where what comes fits, no limit is told
  pub fits-within : (number : List ℕ → ℕ) (back : GivesBack text number) (logic : Logic) (q : Reading) (b : ℕ) (r : Reading) → next number logic q b ≡ on r → Fits r → Within q r
  fits-within number back logic q b r e h = record { shallow = nesting-fits number back logic q b (subst FitsNext (sym e) h); short = name_length-fits r h; few = arguments_before-fits r h }
