-- Readings of terms and formulas of LKF that are the same but for the numbers of names.
use Rattle.std.proofs.Common.{◌≡◌, ℕ, suc, ◌-◌, Bool, true, false, if◌then◌else◌, ◌&&◌, nat_eq, nat_lt, List, [], ◌∷◌, ◌++◌, Option, Some, None, refl, ap, ◌∙◌, subst}
use Rattle.fpc_base.specs.Tokens.{is_digit}
use Rattle.fpc_base.specs.declared.refusal.Code.{Code}
use Rattle.fpc_base.specs.declared.refusal.Code.TheVariants.{TooDeep, LongName, ManyArguments}
use Rattle.fpc_terms.specs.Name.{is_small_letter, is_name_byte}
use Rattle.fpc_terms.specs.Term.{Term, Args, bound}
use Rattle.polarised_formulas.specs.declared.logic.Logic.TheVariants.{Lkf}
use Rattle.polarised_formulas.specs.Formula.{Formula}
use Rattle.polarised_formulas.specs.PlainReading.{Operator, conjunction, disjunction, implication, operators, link_text, binary, Quantifier, every, some, quantified, Word, true_unit, false_unit, binder, words, word_text, first_with, begins_some, Hole, first_of, second_of, under, depth_of, Around, alone, in_term, in_atom, depth_around, Reading, at_formula, in_word, at_name, in_name, behind_formula, in_operator, at_term, in_function, at_eigen, in_eigen, at_index, in_index, behind_term, Next, on, whole_term, whole_formula, wrong, args_onto, end_formula, end_term, end_name, end_function, is_keyword, after_word, end_word, first_byte, next_operator, can_grow, grown, next, Use, of_term, of_formula, start}
use Rattle.polarised_formulas.specs.PlainForm.{begins_name}
use Rattle.polarised_formulas.specs.PlainLimits.{name_length, arguments_of, arguments_before, nesting, limit_of}
use Rattle.polarised_formulas.proofs.Lookups.{begins_name-snoc, begins_name-one}
use Rattle.fpc_terms.specs.Same.{SameTerm, SameArgs, same_eigen, same_bound, same_app, same_no_args, same_arg, SameList, same_nil, same_cons}
use Rattle.fpc_terms.proofs.SameTerms.{if-same, length-same}
use Rattle.polarised_formulas.specs.Same.{SameFormula, same_truth, same_falsity, same_atom, same_conj, same_disj, same_implies, same_for_all, same_exists}
use Rattle.polarised_formulas.proofs.SameFormulas.{SameName, same-name}

-- the two holes are the same but for the numbers of names
pub data SameHole (S : ℕ → ℕ → Type 0) : Hole → Hole → Type 0 where
  same_first : SameHole S first_of first_of
  same_second : (o : Operator) → {a b : Formula} → SameFormula S a b → SameHole S (second_of o a) (second_of o b)
  same_under : (q : Quantifier) → SameHole S (under q) (under q)

-- so is what stands around two terms
pub data SameAround (S : ℕ → ℕ → Type 0) : Around → Around → Type 0 where
  same_alone : SameAround S alone alone
  same_in_term : {f g : ℕ} {ts us : List Term} {up vp : Around} → S f g → SameList (SameTerm S) ts us → SameAround S up vp → SameAround S (in_term f ts up) (in_term g us vp)
  same_in_atom : (positive : Bool) → {f g : ℕ} {ts us : List Term} {hs is : List Hole} → SameList (SameHole S) hs is → S f g → SameList (SameTerm S) ts us
      → SameAround S (in_atom hs positive f ts) (in_atom is positive g us)

-- the two readings are the same but for the numbers of names; what is begun begins as a name
pub data SameReading (S : ℕ → ℕ → Type 0) : Reading → Reading → Type 0 where
  same_at_formula : {hs is : List Hole} → SameList (SameHole S) hs is → SameReading S (at_formula hs) (at_formula is)
  same_in_word : {hs is : List Hole} → SameList (SameHole S) hs is → (w : List ℕ) → begins_name w ≡ true → SameReading S (in_word hs w) (in_word is w)
  same_at_name : {hs is : List Hole} → SameList (SameHole S) hs is → (positive : Bool) → SameReading S (at_name hs positive) (at_name is positive)
  same_in_name : {hs is : List Hole} → SameList (SameHole S) hs is → (positive : Bool) (w : List ℕ) → begins_name w ≡ true → SameReading S (in_name hs positive w) (in_name is positive w)
  same_behind_formula : {hs is : List Hole} {a b : Formula} → SameList (SameHole S) hs is → SameFormula S a b → SameReading S (behind_formula hs a) (behind_formula is b)
  same_in_operator : {hs is : List Hole} {a b : Formula} → SameList (SameHole S) hs is → SameFormula S a b → (w : List ℕ) → SameReading S (in_operator hs a w) (in_operator is b w)
  same_at_term : {up vp : Around} → SameAround S up vp → SameReading S (at_term up) (at_term vp)
  same_in_function : {up vp : Around} → SameAround S up vp → (w : List ℕ) → begins_name w ≡ true → SameReading S (in_function up w) (in_function vp w)
  same_at_eigen : {up vp : Around} → SameAround S up vp → SameReading S (at_eigen up) (at_eigen vp)
  same_in_eigen : {up vp : Around} → SameAround S up vp → (k : ℕ) → SameReading S (in_eigen up k) (in_eigen vp k)
  same_at_index : {up vp : Around} → SameAround S up vp → SameReading S (at_index up) (at_index vp)
  same_in_index : {up vp : Around} → SameAround S up vp → (k : ℕ) → SameReading S (in_index up k) (in_index vp k)
  same_behind_term : {up vp : Around} {t u : Term} → SameAround S up vp → SameTerm S t u → SameReading S (behind_term up t) (behind_term vp u)

-- so is what a byte does
pub data SameNext (S : ℕ → ℕ → Type 0) : Next → Next → Type 0 where
  same_on : {q r : Reading} → SameReading S q r → SameNext S (on q) (on r)
  same_whole_term : {t u : Term} → SameTerm S t u → SameNext S (whole_term t) (whole_term u)
  same_whole_formula : {a b : Formula} → SameFormula S a b → SameNext S (whole_formula a) (whole_formula b)
  same_wrong : SameNext S wrong wrong

module _ (S : ℕ → ℕ → Type 0) where
  abbrev SameHoles : List Hole → List Hole → Type 0
  SameHoles hs is = SameList (SameHole S) hs is

  depth_of-same : {hs is : List Hole} → SameHoles hs is → depth_of hs ≡ depth_of is
  depth_of-same same_nil = refl
  depth_of-same (same_cons same_first hs) = depth_of-same hs
  depth_of-same (same_cons (same_second o h) hs) = depth_of-same hs
  depth_of-same (same_cons (same_under q) hs) = ap suc (depth_of-same hs)

  depth_around-same : {up vp : Around} → SameAround S up vp → depth_around up ≡ depth_around vp
  depth_around-same same_alone = refl
  depth_around-same (same_in_term s ts up) = depth_around-same up
  depth_around-same (same_in_atom positive hs s ts) = depth_of-same hs

  args_onto-same : {ts us : List Term} {ss rs : Args} → SameList (SameTerm S) ts us → SameArgs S ss rs → SameArgs S (args_onto ts ss) (args_onto us rs)
  args_onto-same same_nil k = k
  args_onto-same (same_cons h hs) k = args_onto-same hs (same_arg h k)

  binary-same : (o : Operator) {a b c d : Formula} → SameFormula S a c → SameFormula S b d → SameFormula S (binary o a b) (binary o c d)
  binary-same (conjunction p) h k = same_conj p h k
  binary-same (disjunction p) h k = same_disj p h k
  binary-same implication h k = same_implies h k

  quantified-same : (q : Quantifier) {a c : Formula} → SameFormula S a c → SameFormula S (quantified q a) (quantified q c)
  quantified-same every h = same_for_all h
  quantified-same some h = same_exists h

  end_formula-same : {hs is : List Hole} {a c : Formula} → SameHoles hs is → SameFormula S a c → (b : ℕ) → SameNext S (end_formula hs a b) (end_formula is c b)
  end_formula-same same_nil h b = if-same (SameNext S) (nat_eq b 10) (λ _. same_whole_formula h) (λ _. same_wrong)
  end_formula-same (same_cons same_first hs) h b = if-same (SameNext S) (nat_eq b 32) (λ _. same_on (same_in_operator hs h [])) (λ _. same_wrong)
  end_formula-same (same_cons (same_second o k) hs) h b = if-same (SameNext S) (nat_eq b 41) (λ _. same_on (same_behind_formula hs (binary-same o k h))) (λ _. same_wrong)
  end_formula-same (same_cons (same_under q) hs) h b = end_formula-same hs (quantified-same q h) b

  end_term-same : {up vp : Around} {t u : Term} → SameAround S up vp → SameTerm S t u → (b : ℕ) → SameNext S (end_term up t b) (end_term vp u b)
  end_term-same same_alone h b = if-same (SameNext S) (nat_eq b 10) (λ _. same_whole_term h) (λ _. same_wrong)
  end_term-same (same_in_term s ts up) h b =
      if-same (SameNext S) (nat_eq b 44) (λ _. same_on (same_at_term (same_in_term s (same_cons h ts) up)))
      (λ _. if-same (SameNext S) (nat_eq b 41) (λ _. same_on (same_behind_term up (same_app s (args_onto-same ts (same_arg h same_no_args))))) (λ _. same_wrong))
  end_term-same (same_in_atom positive hs s ts) h b =
      if-same (SameNext S) (nat_eq b 44) (λ _. same_on (same_at_term (same_in_atom positive hs s (same_cons h ts))))
      (λ _. if-same (SameNext S) (nat_eq b 41) (λ _. same_on (same_behind_formula hs (same_atom positive s (args_onto-same ts (same_arg h same_no_args))))) (λ _. same_wrong))

  after_word-same : {hs is : List Hole} → SameHoles hs is → (x : Word) → SameNext S (after_word hs x) (after_word is x)
  after_word-same hs (true_unit p) = same_on (same_behind_formula hs (same_truth p))
  after_word-same hs (false_unit p) = same_on (same_behind_formula hs (same_falsity p))
  after_word-same hs (binder q) = same_on (same_at_formula (same_cons (same_under q) hs))

  first_byte-same : {hs is : List Hole} → SameHoles hs is → (b : ℕ) → SameNext S (first_byte Lkf hs b) (first_byte Lkf is b)
  first_byte-same hs b =
      if-same (SameNext S) (nat_eq b 126) (λ _. same_on (same_at_name hs false))
      (λ _. if-same (SameNext S) (is_small_letter b) (λ e. same_on (same_in_word hs (b ∷ []) (begins_name-one b e))) (λ _. same_wrong))

  next_operator-same : {hs is : List Hole} {a c : Formula} → SameHoles hs is → SameFormula S a c → (w : List ℕ) (o : Option Operator) → SameNext S (next_operator Lkf hs a w o) (next_operator Lkf is c w o)
  next_operator-same hs h w (Some o) = same_on (same_at_formula (same_cons (same_second o h) hs))
  next_operator-same hs h w None = if-same (SameNext S) (begins_some (link_text Lkf) w (operators Lkf)) (λ _. same_on (same_in_operator hs h w)) (λ _. same_wrong)

  pub start-same : (wanted : Use) → SameNext S (start wanted) (start wanted)
  start-same of_term = same_on (same_at_term same_alone)
  start-same of_formula = same_on (same_at_formula same_nil)

  nesting-same : {q r : Reading} → SameReading S q r → nesting q ≡ nesting r
  nesting-same (same_at_formula hs) = ap suc (length-same hs)
  nesting-same (same_in_word hs w e) = refl
  nesting-same (same_at_name hs positive) = refl
  nesting-same (same_in_name hs positive w e) = refl
  nesting-same (same_behind_formula hs h) = refl
  nesting-same (same_in_operator hs h w) = refl
  nesting-same (same_at_term up) = refl
  nesting-same (same_in_function up w e) = refl
  nesting-same (same_at_eigen up) = refl
  nesting-same (same_in_eigen up k) = refl
  nesting-same (same_at_index up) = refl
  nesting-same (same_in_index up k) = refl
  nesting-same (same_behind_term up h) = refl

  name_length-same : {q r : Reading} → SameReading S q r → name_length q ≡ name_length r
  name_length-same (same_at_formula hs) = refl
  name_length-same (same_in_word hs w e) = refl
  name_length-same (same_at_name hs positive) = refl
  name_length-same (same_in_name hs positive w e) = refl
  name_length-same (same_behind_formula hs h) = refl
  name_length-same (same_in_operator hs h w) = refl
  name_length-same (same_at_term up) = refl
  name_length-same (same_in_function up w e) = refl
  name_length-same (same_at_eigen up) = refl
  name_length-same (same_in_eigen up k) = refl
  name_length-same (same_at_index up) = refl
  name_length-same (same_in_index up k) = refl
  name_length-same (same_behind_term up h) = refl

  arguments_of-same : {up vp : Around} → SameAround S up vp → arguments_of up ≡ arguments_of vp
  arguments_of-same same_alone = refl
  arguments_of-same (same_in_term s ts up) = length-same ts
  arguments_of-same (same_in_atom positive hs s ts) = length-same ts

  arguments_before-same : {q r : Reading} → SameReading S q r → arguments_before q ≡ arguments_before r
  arguments_before-same (same_at_formula hs) = refl
  arguments_before-same (same_in_word hs w e) = refl
  arguments_before-same (same_at_name hs positive) = refl
  arguments_before-same (same_in_name hs positive w e) = refl
  arguments_before-same (same_behind_formula hs h) = refl
  arguments_before-same (same_in_operator hs h w) = refl
  arguments_before-same (same_at_term up) = arguments_of-same up
  arguments_before-same (same_in_function up w e) = refl
  arguments_before-same (same_at_eigen up) = refl
  arguments_before-same (same_in_eigen up k) = refl
  arguments_before-same (same_at_index up) = refl
  arguments_before-same (same_in_index up k) = refl
  arguments_before-same (same_behind_term up h) = refl

  -- what is told by the three numbers that limits are of
  abbrev told_by : ℕ → ℕ → ℕ → Option Code
  told_by deep long many = if nat_lt 10000 deep then Some TooDeep else if nat_lt 255 long then Some LongName else if nat_lt 254 many then Some ManyArguments else None

  -- the same limits are told
  pub limit_of-same : {q r s t : Reading} → SameReading S q r → SameReading S s t → limit_of q s ≡ limit_of r t
  limit_of-same {q = q} {r = r} {s = s} {t = t} h k =
      ap (λ n. told_by n (name_length s) (arguments_before s)) (nesting-same h) ∙ ap (λ n. told_by (nesting r) n (arguments_before s)) (name_length-same k)
      ∙ ap (λ n. told_by (nesting r) (name_length t) n) (arguments_before-same k)

module _ (number renumber : List ℕ → ℕ) where
  abbrev Same : Next → Next → Type 0
  Same n m = SameNext (SameName number renumber) n m

  abbrev Holes : List Hole → List Hole → Type 0
  Holes hs is = SameList (SameHole (SameName number renumber)) hs is

  abbrev Arounds : Around → Around → Type 0
  Arounds up vp = SameAround (SameName number renumber) up vp

  end_name-same : {hs is : List Hole} → Holes hs is → (positive : Bool) (w : List ℕ) → begins_name w ≡ true → (b : ℕ) → Same (end_name number hs positive w b) (end_name renumber is positive w b)
  end_name-same hs positive w e b =
      let s = same-name number renumber w e in
      if-same Same (is_keyword w) (λ _. same_wrong)
      (λ _. if-same Same (nat_eq b 40) (λ _. same_on (same_at_term (same_in_atom positive hs s same_nil))) (λ _. end_formula-same (SameName number renumber) hs (same_atom positive s same_no_args) b))

  end_function-same : {up vp : Around} → Arounds up vp → (w : List ℕ) → begins_name w ≡ true → (b : ℕ) → Same (end_function number up w b) (end_function renumber vp w b)
  end_function-same up w e b =
      let s = same-name number renumber w e in
      if-same Same (is_keyword w) (λ _. same_wrong)
      (λ _. if-same Same (nat_eq b 40) (λ _. same_on (same_at_term (same_in_term s same_nil up))) (λ _. end_term-same (SameName number renumber) up (same_app s same_no_args) b))

  end_word-same : {hs is : List Hole} → Holes hs is → (w : List ℕ) → begins_name w ≡ true → (b : ℕ) (o : Option Word) → Same (end_word number hs w b o) (end_word renumber is w b o)
  end_word-same hs w e b (Some x) = after_word-same (SameName number renumber) hs x
  end_word-same hs w e b None = end_name-same hs true w e b

  -- a byte that comes at an index, or where one may begin: as many quantifiers are around
  at_index-same : {up vp : Around} → Arounds up vp → (b : ℕ) → Same (next number Lkf (at_index up) b) (next renumber Lkf (at_index vp) b)
  at_index-same {up = up} {vp = vp} h b =
      subst (λ d. Same (next number Lkf (at_index up) b) (if is_digit b && nat_lt (b - 48) d then on (in_index vp (b - 48)) else wrong)) (depth_around-same (SameName number renumber) h)
      (if-same Same (is_digit b && nat_lt (b - 48) (depth_around up)) (λ _. same_on (same_in_index h (b - 48))) (λ _. same_wrong))

  in_index-same : {up vp : Around} → Arounds up vp → (k b : ℕ) → Same (next number Lkf (in_index up k) b) (next renumber Lkf (in_index vp k) b)
  in_index-same {up = up} {vp = vp} h k b =
      subst (λ d. Same (next number Lkf (in_index up k) b) (if can_grow k b && nat_lt (grown k b) d then on (in_index vp (grown k b)) else end_term vp (bound k) b)) (depth_around-same (SameName number renumber) h)
      (if-same Same (can_grow k b && nat_lt (grown k b) (depth_around up)) (λ _. same_on (same_in_index h (grown k b))) (λ _. end_term-same (SameName number renumber) h (same_bound k) b))

  at_term-same : {up vp : Around} → Arounds up vp → (b : ℕ) → Same (next number Lkf (at_term up) b) (next renumber Lkf (at_term vp) b)
  at_term-same {up = up} {vp = vp} h b =
      if-same Same (nat_eq b 36) (λ _. same_on (same_at_eigen h))
      (λ _. if-same Same (nat_eq b 35)
      (λ _. subst (λ d. Same (if nat_lt 0 (depth_around up) then on (at_index up) else wrong) (if nat_lt 0 d then on (at_index vp) else wrong)) (depth_around-same (SameName number renumber) h)
      (if-same Same (nat_lt 0 (depth_around up)) (λ _. same_on (same_at_index h)) (λ _. same_wrong)))
      (λ _. if-same Same (is_small_letter b) (λ e. same_on (same_in_function h (b ∷ []) (begins_name-one b e))) (λ _. same_wrong)))

  -- a byte does the same
  pub next-same : {q r : Reading} → SameReading (SameName number renumber) q r → (b : ℕ) → SameNext (SameName number renumber) (next number Lkf q b) (next renumber Lkf r b)
  next-same (same_at_formula hs) b = if-same Same (nat_eq b 40) (λ _. same_on (same_at_formula (same_cons same_first hs))) (λ _. first_byte-same (SameName number renumber) hs b)
  next-same (same_in_word hs w e) b =
      if-same Same (is_name_byte b) (λ k. same_on (same_in_word hs (w ++ b ∷ []) (begins_name-snoc w b e k))) (λ _. end_word-same hs w e b (first_with (word_text Lkf) (w ++ b ∷ []) (words Lkf)))
  next-same (same_at_name hs positive) b = if-same Same (is_small_letter b) (λ e. same_on (same_in_name hs positive (b ∷ []) (begins_name-one b e))) (λ _. same_wrong)
  next-same (same_in_name hs positive w e) b =
      if-same Same (is_name_byte b) (λ k. same_on (same_in_name hs positive (w ++ b ∷ []) (begins_name-snoc w b e k))) (λ _. end_name-same hs positive w e b)
  next-same (same_behind_formula hs h) b = end_formula-same (SameName number renumber) hs h b
  next-same (same_in_operator hs h w) b = next_operator-same (SameName number renumber) hs h (w ++ b ∷ []) (first_with (link_text Lkf) (w ++ b ∷ []) (operators Lkf))
  next-same (same_at_term up) b = at_term-same up b
  next-same (same_in_function up w e) b = if-same Same (is_name_byte b) (λ k. same_on (same_in_function up (w ++ b ∷ []) (begins_name-snoc w b e k))) (λ _. end_function-same up w e b)
  next-same (same_at_eigen up) b = if-same Same (is_digit b) (λ _. same_on (same_in_eigen up (b - 48))) (λ _. same_wrong)
  next-same (same_in_eigen up k) b = if-same Same (can_grow k b) (λ _. same_on (same_in_eigen up (grown k b))) (λ _. end_term-same (SameName number renumber) up (same_eigen k) b)
  next-same (same_at_index up) b = at_index-same up b
  next-same (same_in_index up k) b = in_index-same up k b
  next-same (same_behind_term up h) b = end_term-same (SameName number renumber) up h b
