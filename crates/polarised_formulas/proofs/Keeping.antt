-- A byte of which no limit is told leaves a reading that keeps the limits.
use Rattle.std.proofs.Common.{◌≡◌, ℕ, suc, ◌-◌, ◌<◌, ◌≤◌, Bool, true, false, if◌then◌else◌, ◌&&◌, List, [], ◌∷◌, ◌++◌, length, Option, Some, None, refl, sym, subst, arith, nat_eq, nat_lt}
use Rattle.fpc_base.specs.Tokens.{is_digit}
use Rattle.fpc_terms.specs.Name.{is_small_letter, is_name_byte}
use Rattle.fpc_terms.specs.Term.{Term, eigen, bound, app, no_args, arg}
use Rattle.polarised_formulas.specs.declared.logic.Logic.{Logic}
use Rattle.polarised_formulas.specs.declared.logic.Logic.TheVariants.{Lkf, Ljf}
use Rattle.polarised_formulas.specs.Formula.{Formula, atom}
use Rattle.polarised_formulas.specs.PlainReading.{Operator, quantified, operators, link_text, Word, true_unit, false_unit, binder, words, word_text, first_with, begins_some, Hole, first_of, second_of, under, Around, alone, in_term, in_atom, depth_around, Reading, at_formula, in_word, at_name, in_name, behind_formula, in_operator, at_term, in_function, at_eigen, in_eigen, at_index, in_index, behind_term, Next, on, whole_term, whole_formula, wrong, end_formula, end_term, end_name, end_function, is_keyword, after_word, end_word, ljf_word, next_in_word, first_byte, next_operator, can_grow, grown, next, Use}
use Rattle.polarised_formulas.specs.PlainForm.{begins_name, GivesBack}
use Rattle.polarised_formulas.specs.PlainLimits.{name_length, arguments_before, nesting, FitsTerm, FitsFormula}
use Rattle.polarised_formulas.proofs.Begun.{IsLive, IsLiveWord}
use Rattle.polarised_formulas.proofs.Fitting.{HolesFit, AroundFits, Fits, FitArgs-args_onto, FitsFormula-binary, FitsFormula-quantified, few-closed}

module _ (text : ℕ → List ℕ) where
  -- what fits behind a reading of that nesting, where no limit is told
  abbrev pub Ahead : ℕ → Next → Type 0
  Ahead m (on r) = m ≤ 10000 → name_length r ≤ 255 → arguments_before r < 255 → Fits text r
  Ahead m (whole_term t) = FitsTerm text t
  Ahead m (whole_formula f) = FitsFormula text 0 f
  Ahead m wrong = Unit {0}

  ahead-if : (m : ℕ) (c : Bool) (x y : Next) → (c ≡ true → Ahead m x) → (c ≡ false → Ahead m y) → Ahead m (if c then x else y)
  ahead-if m true x y h k = h refl
  ahead-if m false x y h k = k refl

  ahead-end_formula : (m : ℕ) (hs : List Hole) (f : Formula) (b : ℕ) → FitsFormula text (length hs) f → HolesFit text hs → Ahead m (end_formula hs f b)
  ahead-end_formula m [] f b p h = ahead-if m (nat_eq b 10) _ _ (λ _. p) (λ _. tt)
  ahead-end_formula m (first_of ∷ hs) f b p h = ahead-if m (nat_eq b 32) _ _ (λ _ _ _ _. (h.0, p, h.1)) (λ _. tt)
  ahead-end_formula m (second_of o a ∷ hs) f b p h = ahead-if m (nat_eq b 41) _ _ (λ _ _ _ _. (FitsFormula-binary text (length hs) o a f (h.0, h.1, p), h.2)) (λ _. tt)
  ahead-end_formula m (under q ∷ hs) f b p h = ahead-end_formula m hs (quantified q f) b (FitsFormula-quantified text (length hs) q f (h.0, p)) h.1

  ahead-end_term : (m : ℕ) (up : Around) (t : Term) (b : ℕ) → FitsTerm text t → AroundFits text up → Ahead m (end_term up t b)
  ahead-end_term m alone t b p h = ahead-if m (nat_eq b 10) _ _ (λ _. p) (λ _. tt)
  ahead-end_term m (in_term f ts up) t b p h =
      ahead-if m (nat_eq b 44) _ _ (λ _ _ _ few. (h.0, (p, h.1), few, h.3))
      (λ _. ahead-if m (nat_eq b 41) _ _ (λ _ _ _ _. ((h.0, few-closed text ts t h.2, FitArgs-args_onto text ts (arg t no_args) h.1 (p, tt)), h.3)) (λ _. tt))
  ahead-end_term m (in_atom hs positive f ts) t b p h =
      ahead-if m (nat_eq b 44) _ _ (λ _ _ _ few. (h.0, h.1, (p, h.2), few, h.4))
      (λ _. ahead-if m (nat_eq b 41) _ _ (λ _ _ _ _. ((h.0, h.1, few-closed text ts t h.3, FitArgs-args_onto text ts (arg t no_args) h.2 (p, tt)), h.4)) (λ _. tt))

  ahead-after_word : (m : ℕ) (hs : List Hole) (x : Word) → length hs < 10000 → HolesFit text hs → Ahead m (after_word hs x)
  ahead-after_word m hs (true_unit p) l h = λ _ _ _. (l, h)
  ahead-after_word m hs (false_unit p) l h = λ _ _ _. (l, h)
  ahead-after_word m hs (binder q) l h = λ _ _ _. (l, h)

  below : (n : ℕ) → suc n ≤ 10000 → n < 10000
  below n l = omega arith

  ahead-first_byte : (logic : Logic) (hs : List Hole) (b : ℕ) → HolesFit text hs → Ahead (suc (length hs)) (first_byte logic hs b)
  ahead-first_byte Lkf hs b h =
      ahead-if _ (nat_eq b 126) _ _ (λ _ l _ _. (below (length hs) l, h)) (λ _. ahead-if _ (is_small_letter b) _ _ (λ _ l s _. (below (length hs) l, s, h)) (λ _. tt))
  ahead-first_byte Ljf hs b h =
      ahead-if _ (nat_eq b 43) _ _ (λ _ l _ _. (below (length hs) l, h))
      (λ _. ahead-if _ (nat_eq b 45) _ _ (λ _ l _ _. (below (length hs) l, h)) (λ _. ahead-if _ (begins_some (word_text Ljf) (b ∷ []) (words Ljf)) _ _ (λ _ l s _. (below (length hs) l, s, h)) (λ _. tt)))

  ahead-ljf_word : (m : ℕ) (hs : List Hole) (w : List ℕ) (o : Option Word) → length hs < 10000 → HolesFit text hs → Ahead m (ljf_word hs w o)
  ahead-ljf_word m hs w (Some x) l h = ahead-after_word m hs x l h
  ahead-ljf_word m hs w None l h = ahead-if m (begins_some (word_text Ljf) w (words Ljf)) _ _ (λ _ _ s _. (l, s, h)) (λ _. tt)

  ahead-next_operator : (m : ℕ) (logic : Logic) (hs : List Hole) (a : Formula) (w : List ℕ) (o : Option Operator) → length hs < 10000 → FitsFormula text (suc (length hs)) a → HolesFit text hs → Ahead m (next_operator logic hs a w o)
  ahead-next_operator m logic hs a w (Some o) l p h = λ _ _ _. (l, p, h)
  ahead-next_operator m logic hs a w None l p h = ahead-if m (begins_some (link_text logic) w (operators logic)) _ _ (λ _ _ _ _. (l, p, h)) (λ _. tt)

  module _ (number : List ℕ → ℕ) (back : GivesBack text number) where
    named_short : (w : List ℕ) → begins_name w ≡ true → length w ≤ 255 → length (text (number w)) ≤ 255
    named_short w n s = subst (λ v. length v ≤ 255) (sym (back w n)) s

    ahead-end_name : (m : ℕ) (hs : List Hole) (positive : Bool) (w : List ℕ) (b : ℕ) → begins_name w ≡ true → length hs < 10000 → length w ≤ 255 → HolesFit text hs → Ahead m (end_name number hs positive w b)
    ahead-end_name m hs positive w b n l s h =
        let t = named_short w n s in
        ahead-if m (is_keyword w) _ _ (λ _. tt)
        (λ _. ahead-if m (nat_eq b 40) _ _ (λ _ _ _ few. (l, t, tt, few, h)) (λ _. ahead-end_formula m hs (atom positive (number w) no_args) b (l, t, omega arith, tt) h))

    ahead-end_function : (m : ℕ) (up : Around) (w : List ℕ) (b : ℕ) → begins_name w ≡ true → length w ≤ 255 → AroundFits text up → Ahead m (end_function number up w b)
    ahead-end_function m up w b n s h =
        let t = named_short w n s in
        ahead-if m (is_keyword w) _ _ (λ _. tt) (λ _. ahead-if m (nat_eq b 40) _ _ (λ _ _ _ few. (t, tt, few, h)) (λ _. ahead-end_term m up (app (number w) no_args) b (t, omega arith, tt) h))

    ahead-end_word : (m : ℕ) (hs : List Hole) (w : List ℕ) (b : ℕ) (o : Option Word) → begins_name w ≡ true → length hs < 10000 → length w ≤ 255 → HolesFit text hs → Ahead m (end_word number hs w b o)
    ahead-end_word m hs w b (Some x) n l s h = ahead-after_word m hs x l h
    ahead-end_word m hs w b None n l s h = ahead-end_name m hs true w b n l s h

    ahead-next_in_word : (m : ℕ) (logic : Logic) (hs : List Hole) (w : List ℕ) (b : ℕ) → IsLiveWord logic w → length hs < 10000 → length w ≤ 255 → HolesFit text hs → Ahead m (next_in_word number logic hs w b)
    ahead-next_in_word m Lkf hs w b n l s h =
        ahead-if m (is_name_byte b) _ _ (λ _ _ t _. (l, t, h)) (λ _. ahead-end_word m hs w b (first_with (word_text Lkf) (w ++ b ∷ []) (words Lkf)) n l s h)
    ahead-next_in_word m Ljf hs w b n l s h = ahead-ljf_word m hs (w ++ b ∷ []) (first_with (word_text Ljf) (w ++ b ∷ []) (words Ljf)) l h

    -- a byte of which no limit is told keeps them
    pub ahead-next : (logic : Logic) (wanted : Use) (q : Reading) (b : ℕ) → IsLive text number logic wanted q → Fits text q → Ahead (nesting q) (next number logic q b)
    ahead-next logic wanted (at_formula hs) b live h = ahead-if _ (nat_eq b 40) _ _ (λ _ l _ _. (below (length hs) l, h)) (λ _. ahead-first_byte logic hs b h)
    ahead-next logic wanted (in_word hs w) b live h = ahead-next_in_word 0 logic hs w b live.0 h.0 h.1 h.2
    ahead-next logic wanted (at_name hs positive) b live h = ahead-if 0 (is_small_letter b) _ _ (λ _ _ s _. (h.0, s, h.1)) (λ _. tt)
    ahead-next logic wanted (in_name hs positive w) b live h = ahead-if 0 (is_name_byte b) _ _ (λ _ _ s _. (h.0, s, h.2)) (λ _. ahead-end_name 0 hs positive w b live.0 h.0 h.1 h.2)
    ahead-next logic wanted (behind_formula hs f) b live h = ahead-end_formula 0 hs f b h.0 h.1
    ahead-next logic wanted (in_operator hs a w) b live h = ahead-next_operator 0 logic hs a (w ++ b ∷ []) (first_with (link_text logic) (w ++ b ∷ []) (operators logic)) h.0 h.1 h.2
    ahead-next logic wanted (at_term up) b live h =
        ahead-if 0 (nat_eq b 36) _ _ (λ _ _ _ _. h)
        (λ _. ahead-if 0 (nat_eq b 35) _ _ (λ _. ahead-if 0 (nat_lt 0 (depth_around up)) _ _ (λ _ _ _ _. h) (λ _. tt)) (λ _. ahead-if 0 (is_small_letter b) _ _ (λ _ _ s _. (s, h)) (λ _. tt)))
    ahead-next logic wanted (in_function up w) b live h = ahead-if 0 (is_name_byte b) _ _ (λ _ _ s _. (s, h.1)) (λ _. ahead-end_function 0 up w b live.0 h.0 h.1)
    ahead-next logic wanted (at_eigen up) b live h = ahead-if 0 (is_digit b) _ _ (λ _ _ _ _. h) (λ _. tt)
    ahead-next logic wanted (in_eigen up k) b live h = ahead-if 0 (can_grow k b) _ _ (λ _ _ _ _. h) (λ _. ahead-end_term 0 up (eigen k) b tt h)
    ahead-next logic wanted (at_index up) b live h = ahead-if 0 (is_digit b && nat_lt (b - 48) (depth_around up)) _ _ (λ _ _ _ _. h) (λ _. tt)
    ahead-next logic wanted (in_index up k) b live h = ahead-if 0 (can_grow k b && nat_lt (grown k b) (depth_around up)) _ _ (λ _ _ _ _. h) (λ _. ahead-end_term 0 up (bound k) b tt h)
    ahead-next logic wanted (behind_term up t) b live h = ahead-end_term 0 up t b h.0 h.1
