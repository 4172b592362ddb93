-- A byte that may come leaves a reading that may become whole.
use Rattle.std.proofs.Common.{◌≡◌, ℕ, ◌-◌, ◌<◌, Bool, true, false, if◌then◌else◌, ◌&&◌, List, [], ◌∷◌, ◌++◌, Option, Some, None, refl, ap, ◌∙◌, arith, nat_eq, nat_lt, nat_le}
use Rattle.std.proofs.lemmas.Bool.{and_parts}
use Rattle.std.proofs.lemmas.Bool.Decides.{nat_tests}
use Rattle.fpc_base.specs.Tokens.{is_digit}
use Rattle.fpc_terms.specs.Name.{is_small_letter, is_name_byte}
use Rattle.fpc_terms.specs.Term.{Term, Args, eigen, bound, app, no_args, arg}
use Rattle.polarised_formulas.specs.declared.logic.Logic.{Logic}
use Rattle.polarised_formulas.specs.declared.logic.Logic.TheVariants.{Lkf, Ljf}
use Rattle.polarised_formulas.specs.Formula.{Formula, atom, for_all, exists}
use Rattle.polarised_formulas.specs.PlainReading.{Operator, conjunction, disjunction, implication, every, some, binary, operators, link_text, Word, true_unit, false_unit, binder, words, word_text, first_with, begins_some, Hole, first_of, second_of, under, depth_of, Around, alone, in_term, in_atom, depth_around, Reading, at_formula, in_word, at_name, in_name, behind_formula, in_operator, at_term, in_function, at_eigen, in_eigen, at_index, in_index, behind_term, Next, args_onto, end_formula, end_term, end_name, end_function, is_keyword, after_word, end_word, ljf_word, next_in_word, first_byte, next_operator, can_grow, grown, next, Use}
use Rattle.polarised_formulas.specs.PlainForm.{begins_name, HasOperator, HasFalsity, GivesBack, IsPlainName, IsPlainTerm, ArePlainTerms, IsPlainFormula}
use Rattle.polarised_formulas.proofs.Lookups.{EachOf, first_with-some, begins_name-snoc, begins_name-one}
use Rattle.polarised_formulas.proofs.Begun.{IsLive, IsLiveWord, AreLiveHoles, IsLiveAround, IsLiveNext, ArePlainDone}

-- the word is one of the logic
abbrev pub HasWord : Logic → Word → Type 0
HasWord logic (true_unit p) = Unit {0}
HasWord logic (false_unit p) = HasFalsity logic p
HasWord logic (binder q) = Unit {0}

pub all_words : (logic : Logic) → EachOf (HasWord logic) (words logic)
all_words Lkf = (tt, (tt, (tt, (tt, (tt, (tt, tt))))))
all_words Ljf = (tt, (tt, (tt, (tt, (tt, tt)))))

pub all_operators : (logic : Logic) → EachOf (HasOperator logic) (operators logic)
all_operators Lkf = (tt, (tt, (tt, (tt, tt))))
all_operators Ljf = (tt, (tt, (tt, (tt, tt))))

pub grown-small : (k b : ℕ) → can_grow k b ≡ true → grown k b < 1000000000
grown-small k b h =
    let p = and_parts (is_digit b) (nat_lt 0 k && nat_lt k 100000000) h in
    let d = and_parts (nat_lt 0 k) (nat_lt k 100000000) p.1 in
    let r = and_parts (nat_le 48 b) (nat_le b 57) p.0 in
    grind (arith, nat_tests)

digit-small : (b : ℕ) → is_digit b ≡ true → b - 48 < 1000000000
digit-small b h = let r = and_parts (nat_le 48 b) (nat_le b 57) h in grind (arith, nat_tests)

tested_lt : (a b : ℕ) → nat_lt a b ≡ true → a < b
tested_lt a b h = grind (arith, nat_tests)

module _ (text : ℕ → List ℕ) (number : List ℕ → ℕ) where
  pub ArePlainTerms-args_onto : (d : ℕ) (ts : List Term) (us : Args) → ArePlainDone text number d ts → ArePlainTerms text number d us → ArePlainTerms text number d (args_onto ts us)
  ArePlainTerms-args_onto d [] us h k = k
  ArePlainTerms-args_onto d (t ∷ ts) us h k = ArePlainTerms-args_onto d ts (arg t us) h.1 (h.0, k)

  pub IsPlainFormula-binary : (logic : Logic) (d : ℕ) (o : Operator) (a b : Formula) → HasOperator logic o → IsPlainFormula text number logic d a → IsPlainFormula text number logic d b → IsPlainFormula text number logic d (binary o a b)
  IsPlainFormula-binary logic d (conjunction p) a b h x y = (h, x, y)
  IsPlainFormula-binary logic d (disjunction p) a b h x y = (h, x, y)
  IsPlainFormula-binary logic d implication a b h x y = (h, x, y)

  module _ (wanted : Use) where
    live-if : (logic : Logic) (c : Bool) (x y : Next) → (c ≡ true → IsLiveNext text number logic wanted x) → (c ≡ false → IsLiveNext text number logic wanted y) → IsLiveNext text number logic wanted (if c then x else y)
    live-if logic true x y h k = h refl
    live-if logic false x y h k = k refl

    live-end_formula : (logic : Logic) (hs : List Hole) (f : Formula) (b : ℕ) → AreLiveHoles text number logic wanted hs → IsPlainFormula text number logic (depth_of hs) f → IsLiveNext text number logic wanted (end_formula hs f b)
    live-end_formula logic [] f b live p = live-if logic (nat_eq b 10) _ _ (λ _. (live, p)) (λ _. tt)
    live-end_formula logic (first_of ∷ hs) f b live p = live-if logic (nat_eq b 32) _ _ (λ _. (p, first_begun logic, live)) (λ _. tt)
      where
        first_begun : (l : Logic) → begins_some (link_text l) [] (operators l) ≡ true
        first_begun Lkf = refl
        first_begun Ljf = refl
    live-end_formula logic (second_of o a ∷ hs) f b live p = live-if logic (nat_eq b 41) _ _ (λ _. (IsPlainFormula-binary logic (depth_of hs) o a f live.0 live.1 p, live.2)) (λ _. tt)
    live-end_formula logic (under every ∷ hs) f b live p = live-end_formula logic hs (for_all f) b live p
    live-end_formula logic (under some ∷ hs) f b live p = live-end_formula logic hs (exists f) b live p

    live-end_term : (logic : Logic) (up : Around) (t : Term) (b : ℕ) → IsLiveAround text number logic wanted up → IsPlainTerm text number (depth_around up) t → IsLiveNext text number logic wanted (end_term up t b)
    live-end_term logic alone t b live p = live-if logic (nat_eq b 10) _ _ (λ _. (live, p)) (λ _. tt)
    live-end_term logic (in_term f ts up) t b live p =
        live-if logic (nat_eq b 44) _ _ (λ _. (live.0, (p, live.1), live.2))
        (λ _. live-if logic (nat_eq b 41) _ _ (λ _. ((live.0, ArePlainTerms-args_onto (depth_around up) ts (arg t no_args) live.1 (p, tt)), live.2)) (λ _. tt))
    live-end_term logic (in_atom hs positive f ts) t b live p =
        live-if logic (nat_eq b 44) _ _ (λ _. (live.0, (p, live.1), live.2))
        (λ _. live-if logic (nat_eq b 41) _ _ (λ _. ((live.0, ArePlainTerms-args_onto (depth_of hs) ts (arg t no_args) live.1 (p, tt)), live.2)) (λ _. tt))

    live-after_word : (logic : Logic) (hs : List Hole) (x : Word) → HasWord logic x → AreLiveHoles text number logic wanted hs → IsLiveNext text number logic wanted (after_word hs x)
    live-after_word logic hs (true_unit p) h live = (tt, live)
    live-after_word logic hs (false_unit p) h live = (h, live)
    live-after_word logic hs (binder q) h live = live

    live-next_operator : (logic : Logic) (hs : List Hole) (a : Formula) (w : List ℕ) (o : Option Operator) → first_with (link_text logic) w (operators logic) ≡ o
        → IsPlainFormula text number logic (depth_of hs) a → AreLiveHoles text number logic wanted hs → IsLiveNext text number logic wanted (next_operator logic hs a w o)
    live-next_operator logic hs a w (Some o) e p live = ((first_with-some (link_text logic) w (HasOperator logic) (operators logic) (all_operators logic) o e).0, p, live)
    live-next_operator logic hs a w None e p live = live-if logic (begins_some (link_text logic) w (operators logic)) _ _ (λ h. (p, h, live)) (λ _. tt)

    live-first_byte : (logic : Logic) (hs : List Hole) (b : ℕ) → AreLiveHoles text number logic wanted hs → IsLiveNext text number logic wanted (first_byte logic hs b)
    live-first_byte Lkf hs b live = live-if Lkf (nat_eq b 126) _ _ (λ _. live) (λ _. live-if Lkf (is_small_letter b) _ _ (λ h. (begins_name-one b h, live)) (λ _. tt))
    live-first_byte Ljf hs b live =
        live-if Ljf (nat_eq b 43) _ _ (λ _. live)
        (λ _. live-if Ljf (nat_eq b 45) _ _ (λ _. live) (λ _. live-if Ljf (begins_some (word_text Ljf) (b ∷ []) (words Ljf)) _ _ (λ h. (h, live)) (λ _. tt)))

    live-ljf_word : (hs : List Hole) (w : List ℕ) (o : Option Word) → first_with (word_text Ljf) w (words Ljf) ≡ o → AreLiveHoles text number Ljf wanted hs → IsLiveNext text number Ljf wanted (ljf_word hs w o)
    live-ljf_word hs w (Some x) e live = live-after_word Ljf hs x (first_with-some (word_text Ljf) w (HasWord Ljf) (words Ljf) (all_words Ljf) x e).0 live
    live-ljf_word hs w None e live = live-if Ljf (begins_some (word_text Ljf) w (words Ljf)) _ _ (λ h. (h, live)) (λ _. tt)

    module _ (back : GivesBack text number) where
      pub plain_name : (w : List ℕ) → begins_name w ≡ true → is_keyword w ≡ false → IsPlainName text number (number w)
      plain_name w h k = let e = back w h in (ap begins_name e ∙ h, ap is_keyword e ∙ k, ap number e)

      live-end_name : (logic : Logic) (hs : List Hole) (positive : Bool) (w : List ℕ) (b : ℕ) → begins_name w ≡ true → AreLiveHoles text number logic wanted hs → IsLiveNext text number logic wanted (end_name number hs positive w b)
      live-end_name logic hs positive w b h live =
          live-if logic (is_keyword w) _ _ (λ _. tt)
          (λ k. live-if logic (nat_eq b 40) _ _ (λ _. (plain_name w h k, tt, live)) (λ _. live-end_formula logic hs (atom positive (number w) no_args) b live (plain_name w h k, tt)))

      live-end_function : (logic : Logic) (up : Around) (w : List ℕ) (b : ℕ) → begins_name w ≡ true → IsLiveAround text number logic wanted up → IsLiveNext text number logic wanted (end_function number up w b)
      live-end_function logic up w b h live =
          live-if logic (is_keyword w) _ _ (λ _. tt)
          (λ k. live-if logic (nat_eq b 40) _ _ (λ _. (plain_name w h k, tt, live)) (λ _. live-end_term logic up (app (number w) no_args) b live (plain_name w h k, tt)))

      live-end_word : (hs : List Hole) (w : List ℕ) (b : ℕ) (o : Option Word) → first_with (word_text Lkf) (w ++ b ∷ []) (words Lkf) ≡ o → begins_name w ≡ true → AreLiveHoles text number Lkf wanted hs → IsLiveNext text number Lkf wanted (end_word number hs w b o)
      live-end_word hs w b (Some x) e h live = live-after_word Lkf hs x (first_with-some (word_text Lkf) (w ++ b ∷ []) (HasWord Lkf) (words Lkf) (all_words Lkf) x e).0 live
      live-end_word hs w b None e h live = live-end_name Lkf hs true w b h live

      live-next_in_word : (logic : Logic) (hs : List Hole) (w : List ℕ) (b : ℕ) → IsLiveWord logic w → AreLiveHoles text number logic wanted hs → IsLiveNext text number logic wanted (next_in_word number logic hs w b)
      live-next_in_word Lkf hs w b h live =
          live-if Lkf (is_name_byte b) _ _ (λ g. (begins_name-snoc w b h g, live)) (λ _. live-end_word hs w b (first_with (word_text Lkf) (w ++ b ∷ []) (words Lkf)) refl h live)
      live-next_in_word Ljf hs w b h live = live-ljf_word hs (w ++ b ∷ []) (first_with (word_text Ljf) (w ++ b ∷ []) (words Ljf)) refl live

      -- what was read stays plain, and what was begun may become whole
      pub IsLiveNext-next : (logic : Logic) (q : Reading) (b : ℕ) → IsLive text number logic wanted q → IsLiveNext text number logic wanted (next number logic q b)
      IsLiveNext-next logic (at_formula hs) b live = live-if logic (nat_eq b 40) _ _ (λ _. live) (λ _. live-first_byte logic hs b live)
      IsLiveNext-next logic (in_word hs w) b live = live-next_in_word logic hs w b live.0 live.1
      IsLiveNext-next logic (at_name hs positive) b live = live-if logic (is_small_letter b) _ _ (λ h. (begins_name-one b h, live)) (λ _. tt)
      IsLiveNext-next logic (in_name hs positive w) b live =
          live-if logic (is_name_byte b) _ _ (λ h. (begins_name-snoc w b live.0 h, live.1)) (λ _. live-end_name logic hs positive w b live.0 live.1)
      IsLiveNext-next logic (behind_formula hs f) b live = live-end_formula logic hs f b live.1 live.0
      IsLiveNext-next logic (in_operator hs a w) b live = live-next_operator logic hs a (w ++ b ∷ []) (first_with (link_text logic) (w ++ b ∷ []) (operators logic)) refl live.0 live.2
      IsLiveNext-next logic (at_term up) b live =
          live-if logic (nat_eq b 36) _ _ (λ _. live)
          (λ _. live-if logic (nat_eq b 35) _ _ (λ _. live-if logic (nat_lt 0 (depth_around up)) _ _ (λ h. (tested_lt 0 (depth_around up) h, live)) (λ _. tt))
          (λ _. live-if logic (is_small_letter b) _ _ (λ h. (begins_name-one b h, live)) (λ _. tt)))
      IsLiveNext-next logic (in_function up w) b live =
          live-if logic (is_name_byte b) _ _ (λ h. (begins_name-snoc w b live.0 h, live.1)) (λ _. live-end_function logic up w b live.0 live.1)
      IsLiveNext-next logic (at_eigen up) b live = live-if logic (is_digit b) _ _ (λ h. (digit-small b h, live)) (λ _. tt)
      IsLiveNext-next logic (in_eigen up k) b live = live-if logic (can_grow k b) _ _ (λ h. (grown-small k b h, live.1)) (λ _. live-end_term logic up (eigen k) b live.1 live.0)
      IsLiveNext-next logic (at_index up) b live =
          live-if logic (is_digit b && nat_lt (b - 48) (depth_around up)) _ _
          (λ h. let p = and_parts (is_digit b) (nat_lt (b - 48) (depth_around up)) h in (tested_lt (b - 48) (depth_around up) p.1, digit-small b p.0, live.1)) (λ _. tt)
      IsLiveNext-next logic (in_index up k) b live =
          live-if logic (can_grow k b && nat_lt (grown k b) (depth_around up)) _ _
          (λ h. let p = and_parts (can_grow k b) (nat_lt (grown k b) (depth_around up)) h in (tested_lt (grown k b) (depth_around up) p.1, grown-small k b p.0, live.2))
          (λ _. live-end_term logic up (bound k) b live.2 (live.0, live.1))
      IsLiveNext-next logic (behind_term up t) b live = live-end_term logic up t b live.1 live.0
