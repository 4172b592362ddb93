-- Words, names and connectives of a formula that lie whole in some bytes.
use Rattle.std.proofs.Common.{◌≡◌, ℕ, zero, suc, ◌+◌, ◌-◌, ◌<◌, ◌≤◌, Bool, true, false, if◌then◌else◌, List, [], ◌∷◌, ◌++◌, length, take, drop, None, Result, Ok, Err, refl, sym, ap, ◌∙◌, subst, arith, nat_eq, nat_lt}
use Rattle.std.specs.Prelude.{slice_index}
use Rattle.std.proofs.lemmas.Bool.{cond-false}
use Rattle.std.proofs.lemmas.Bool.Decides.{nat_tests}
use Rattle.std.proofs.lemmas.List.{length-drop}
use Rattle.std.proofs.Math.Seq.{take-add}
use Rattle.fpc_terms.specs.Name.{is_name_byte, is_keyword}
use Rattle.fpc_terms.specs.Term.{no_args}
use Rattle.fpc_base.specs.declared.refusal.Code.TheVariants.{Unexpected}
use Rattle.fpc_base.specs.declared.refusal.TokenRefusal.{TokenRefusal}
use Rattle.fpc_base.specs.declared.refusal.TokenRefusal.TheVariants.{Refused}
use Rattle.polarised_formulas.specs.declared.logic.Logic.{Logic}
use Rattle.polarised_formulas.specs.declared.logic.Logic.TheVariants.{Lkf, Ljf}
use Rattle.polarised_formulas.specs.declared.logic.Polarity.TheVariants.{Positive, Negative}
use Rattle.polarised_formulas.specs.declared.plain.reader.Progress as progress
use Rattle.polarised_formulas.specs.declared.plain.reader.Mode as mode
use Rattle.polarised_formulas.specs.declared.plain.reader.PlainReader.{PlainReader}
use Rattle.polarised_formulas.specs.declared.connective.Joiner as joiner
use Rattle.polarised_formulas.specs.Unfinished as built
use Rattle.polarised_formulas.specs.declared.node.Node.{Node}
use Rattle.polarised_formulas.specs.declared.node.Node.TheVariants.{True, False, Atom, And, Or, Implies, ForAll, Exists, Inside}
use Rattle.polarised_formulas.specs.Formula.{Formula, atom, formula_of}
use Rattle.polarised_formulas.specs.PlainReading.{Operator, word_text, link_text, conjunction, disjunction, implication, Word, true_unit, false_unit, binder, every, some, Hole, second_of, Reading, at_formula, in_word, at_name, in_name, behind_formula, in_operator, at_term, in_function, at_eigen, in_eigen, at_index, in_index, behind_term, in_atom, on, whole_formula, next, end_formula, after_word, end_word}
use Rattle.polarised_formulas.specs.PlainLimits.{nesting, limit_of}
use Rattle.polarised_formulas.specs.PlainStanding.{operator_of, built_holes, Stands, IsNext}
use Rattle.polarised_formulas.specs.PlainRuns.{Reaches, IsStop, IsRun}
use Rattle.polarised_formulas.specs.PlainFronts.{is_word, is_unit, unit_word, is_operator, IsWordAt, IsUnitLine, IsLinkAt, IsNameAt, EndsName, IsBehindName}
use Rattle.polarised_formulas.proofs.PlainRuns.{run-stop, in_limit, name-reached, name-few, next-stop, reaches-append, index-drop, went-on, taken-more}
use Rattle.polarised_formulas.proofs.FormulaForward.{Names-word, Names-mark}
use Rattle.polarised_formulas.proofs.Lookups.{no_word}
use Rattle.polarised_formulas.proofs.Answering.{length-built_holes, joiner_of-operator_of, links-pair, links-none}

-- a stop behind bytes
pub stop-behind : (number : List ℕ → ℕ) (logic : Logic) (q s : Reading) (bytes : List ℕ) (n m : ℕ) (result : Result progress.Progress TokenRefusal) (r : PlainReader) → n ≤ length bytes → Reaches number logic q (take n bytes) s
    → IsStop number logic s (drop n bytes) m result r → IsStop number logic q bytes (n + m) result r
stop-behind number logic q s bytes n m result r l front t =
    let e = length-drop n bytes in
    record {
      reading = t.reading;
      reached = subst (λ bs. Reaches number logic q bs t.reading) (sym (take-add n m bytes)) (reaches-append number logic (take n bytes) (take m (drop n bytes)) q s t.reading front t.reached);
      within = (let w = t.within in let k : n + m < length bytes = omega arith in k);
      answer = subst (λ b. IsNext logic (nesting t.reading) result r (next number logic t.reading b)) (index-drop bytes n m) t.answer;
    }

-- a stop at a reading at which the next byte does the same
pub stop-alike : (number : List ℕ → ℕ) (logic : Logic) (q s : Reading) (bytes : List ℕ) (n : ℕ) (result : Result progress.Progress TokenRefusal) (r : PlainReader) → nesting q ≡ 0 → nesting s ≡ 0
    → next number logic s (slice_index bytes 0) ≡ next number logic q (slice_index bytes 0) → IsStop number logic q bytes n result r → IsStop number logic s bytes n result r
stop-alike number logic q s [] n result r d e same t = absurd (let w = t.within in let no : ⊥ = omega arith in no)
stop-alike number logic q s (b ∷ bs) zero result r d e same t =
    let at : q ≡ t.reading = t.reached in
    record {
      reading = s;
      reached = refl;
      within = t.within;
      answer = subst (λ m. IsNext logic m result r (next number logic s b)) (d ∙ sym e)
          (subst (IsNext logic (nesting q) result r) (sym same) (subst (λ x. IsNext logic (nesting x) result r (next number logic x b)) (sym at) t.answer));
    }
stop-alike number logic q s (b ∷ bs) (suc n) result r d e same t =
    let h = t.reached in
    let k : limit_of s h.0 ≡ limit_of q h.0 = rw (d, e) refl in
    record { reading = t.reading; reached = (h.0, same ∙ h.1, k ∙ h.2, h.3); within = t.within; answer = t.answer }

-- the reading of a reader behind a formula
pub behind-formula : (logic : Logic) (q : Reading) (r : PlainReader) → Stands logic q r → r.mode ≡ mode.TheVariants.BehindFormula → (hs : List Hole) × (f : Formula) × (q ≡ behind_formula hs f)
behind-formula logic (behind_formula hs f) r h e = (hs, f, refl)
behind-formula logic (at_term up) r h e = let m = h.mode in let no : ⊥ = cc in absurd no
behind-formula logic (at_formula hs) r h e = let m = h.mode in let no : ⊥ = cc in absurd no
behind-formula logic (in_word hs w) r h e = let m = h.mode in let no : ⊥ = cc in absurd no
behind-formula logic (at_name hs positive) r h e = let m = h.mode in let no : ⊥ = cc in absurd no
behind-formula logic (in_name hs positive w) r h e = let m = h.mode in let no : ⊥ = cc in absurd no
behind-formula logic (in_operator hs a w) r h e = let m = h.mode in let no : ⊥ = cc in absurd no
behind-formula logic (in_function up w) r h e = let m = h.mode in let no : ⊥ = cc in absurd no
behind-formula logic (at_eigen up) r h e = let m = h.mode in let no : ⊥ = cc in absurd no
behind-formula logic (in_eigen up k) r h e = let m = h.mode in let no : ⊥ = cc in absurd no
behind-formula logic (at_index up) r h e = let m = h.mode in let no : ⊥ = cc in absurd no
behind-formula logic (in_index up k) r h e = let m = h.mode in let no : ⊥ = cc in absurd no
behind-formula logic (behind_term up t) r h e = let m = h.mode in let no : ⊥ = cc in absurd no

-- one more byte
reaches-last : (number : List ℕ → ℕ) (logic : Logic) (q s t : Reading) (bytes : List ℕ) (n : ℕ) → 0 < n → n - 1 < length bytes → Reaches number logic q (take (n - 1) bytes) s → Reaches number logic s (slice_index bytes (n - 1) ∷ []) t
    → Reaches number logic q (take n bytes) t
reaches-last number logic q s t bytes n positive within front one =
    let l : 0 + (n - 1) < length bytes = omega arith in
    let e : 0 + (n - 1 + 1) ≡ n = omega arith in
    let z : 0 + (n - 1) ≡ n - 1 = omega arith in
    let all : take n bytes ≡ take (n - 1) bytes ++ slice_index bytes (n - 1) ∷ [] =
    subst (λ k. take k bytes ≡ take (n - 1) bytes ++ slice_index bytes (n - 1) ∷ []) e (subst (λ k. take (0 + (n - 1 + 1)) bytes ≡ take k bytes ++ slice_index bytes k ∷ []) z (taken-more bytes 0 (n - 1) l)) in
    subst (λ bs. Reaches number logic q bs t) (sym all) (reaches-append number logic (take (n - 1) bytes) (slice_index bytes (n - 1) ∷ []) q s t front one)

-- what stands behind a part that ends with the byte in front of a place
pub behind-stop : (number : List ℕ → ℕ) (logic : Logic) (q : Reading) (bytes : List ℕ) (n m : ℕ) (old new : PlainReader) (result : Result progress.Progress TokenRefusal) → 0 < n → n < length bytes
    → IsStop number logic q bytes (n - 1) (Ok progress.TheVariants.Going) old → old.mode ≡ mode.TheVariants.BehindFormula
    → ((hs : List Hole) (f : Formula) → Stands logic (behind_formula hs f) old → IsStop number logic (behind_formula hs f) (drop n bytes) m result new) → IsStop number logic q bytes (n + m) result new
behind-stop number logic q bytes n m old new result positive within t is stop =
    let w = went-on logic (nesting t.reading) old (next number logic t.reading (slice_index bytes (n - 1))) t.answer in
    let one : Reaches number logic t.reading (slice_index bytes (n - 1) ∷ []) w.0 = (w.0, w.1, w.3, refl) in
    let front = reaches-last number logic q t.reading w.0 bytes n positive t.within t.reached one in
    let p = behind-formula logic w.0 old w.2 is in
    stop-behind number logic q w.0 bytes n m result new (omega arith) front (subst (λ s. IsStop number logic s (drop n bytes) m result new) (sym p.2) (stop p.0 p.1 (subst (λ s. Stands logic s old) p.2 w.2)))

-- The bytes in front of a word's last one, which stands in front of a place, lead to a reading at which that one ends the word.
record IsWordRead (number : List ℕ → ℕ) (logic : Logic) (hs : List Hole) (bytes : List ℕ) (w : Word) (n : ℕ) : Type 0 where
  pub reading : Reading
  pub reached : Reaches number logic (at_formula hs) (take (n - 1) bytes) reading
  pub within : n - 1 < length bytes
  pub positive : 0 < n
  pub shallow : nesting reading ≡ 0
  pub ends : next number logic reading (slice_index bytes (n - 1)) ≡ after_word hs w

-- a word
module _ (number : List ℕ → ℕ) (hs : List Hole) (shallow : length hs < 10000) where
  told : {X : Type 0} (x y : X) → (if nat_lt 10000 (suc (length hs)) then x else y) ≡ y
  told x y = let t : nat_lt 10000 (suc (length hs)) ≡ false = grind (arith, nat_tests) in cond-false (nat_lt 10000 (suc (length hs))) x y t

  by-word : (logic : Logic) (w : Word) (more : List ℕ) → is_word logic w ≡ true → IsWordRead number logic hs (word_text logic w ++ more) w (length (word_text logic w))
  by-word Lkf (true_unit Positive) more is = record { reading = in_word hs (116 ∷ 116 ∷ []); reached = (in_word hs (116 ∷ []), refl, told _ _, (in_word hs (116 ∷ 116 ∷ []), refl, refl, refl)); within = (let k : 2 < suc (suc (suc (length more))) = omega arith in k); positive = (let k : 0 < 3 = omega arith in k); shallow = refl; ends = refl }
  by-word Lkf (true_unit Negative) more is = record { reading = in_word hs (116 ∷ 116 ∷ []); reached = (in_word hs (116 ∷ []), refl, told _ _, (in_word hs (116 ∷ 116 ∷ []), refl, refl, refl)); within = (let k : 2 < suc (suc (suc (length more))) = omega arith in k); positive = (let k : 0 < 3 = omega arith in k); shallow = refl; ends = refl }
  by-word Lkf (false_unit Positive) more is = record { reading = in_word hs (102 ∷ 102 ∷ []); reached = (in_word hs (102 ∷ []), refl, told _ _, (in_word hs (102 ∷ 102 ∷ []), refl, refl, refl)); within = (let k : 2 < suc (suc (suc (length more))) = omega arith in k); positive = (let k : 0 < 3 = omega arith in k); shallow = refl; ends = refl }
  by-word Lkf (false_unit Negative) more is = record { reading = in_word hs (102 ∷ 102 ∷ []); reached = (in_word hs (102 ∷ []), refl, told _ _, (in_word hs (102 ∷ 102 ∷ []), refl, refl, refl)); within = (let k : 2 < suc (suc (suc (length more))) = omega arith in k); positive = (let k : 0 < 3 = omega arith in k); shallow = refl; ends = refl }
  by-word Lkf (binder every) more is = record { reading = in_word hs (97 ∷ 108 ∷ 108 ∷ []); reached = (in_word hs (97 ∷ []), refl, told _ _, (in_word hs (97 ∷ 108 ∷ []), refl, refl, (in_word hs (97 ∷ 108 ∷ 108 ∷ []), refl, refl, refl))); within = (let k : 3 < suc (suc (suc (suc (length more)))) = omega arith in k); positive = (let k : 0 < 4 = omega arith in k); shallow = refl; ends = refl }
  by-word Lkf (binder some) more is = record { reading = in_word hs (115 ∷ 111 ∷ 109 ∷ 101 ∷ []); reached = (in_word hs (115 ∷ []), refl, told _ _, (in_word hs (115 ∷ 111 ∷ []), refl, refl, (in_word hs (115 ∷ 111 ∷ 109 ∷ []), refl, refl, (in_word hs (115 ∷ 111 ∷ 109 ∷ 101 ∷ []), refl, refl, refl)))); within = (let k : 4 < suc (suc (suc (suc (suc (length more))))) = omega arith in k); positive = (let k : 0 < 5 = omega arith in k); shallow = refl; ends = refl }
  by-word Ljf (true_unit Positive) more is = record { reading = in_word hs (116 ∷ 116 ∷ []); reached = (in_word hs (116 ∷ []), refl, told _ _, (in_word hs (116 ∷ 116 ∷ []), refl, refl, refl)); within = (let k : 2 < suc (suc (suc (length more))) = omega arith in k); positive = (let k : 0 < 3 = omega arith in k); shallow = refl; ends = refl }
  by-word Ljf (true_unit Negative) more is = record { reading = in_word hs (116 ∷ 116 ∷ []); reached = (in_word hs (116 ∷ []), refl, told _ _, (in_word hs (116 ∷ 116 ∷ []), refl, refl, refl)); within = (let k : 2 < suc (suc (suc (length more))) = omega arith in k); positive = (let k : 0 < 3 = omega arith in k); shallow = refl; ends = refl }
  by-word Ljf (false_unit Positive) more is = record { reading = in_word hs (102 ∷ []); reached = (in_word hs (102 ∷ []), refl, told _ _, refl); within = (let k : 1 < suc (suc (length more)) = omega arith in k); positive = (let k : 0 < 2 = omega arith in k); shallow = refl; ends = refl }
  by-word Ljf (binder every) more is = record { reading = in_word hs (97 ∷ 108 ∷ 108 ∷ []); reached = (in_word hs (97 ∷ []), refl, told _ _, (in_word hs (97 ∷ 108 ∷ []), refl, refl, (in_word hs (97 ∷ 108 ∷ 108 ∷ []), refl, refl, refl))); within = (let k : 3 < suc (suc (suc (suc (length more)))) = omega arith in k); positive = (let k : 0 < 4 = omega arith in k); shallow = refl; ends = refl }
  by-word Ljf (binder some) more is = record { reading = in_word hs (115 ∷ 111 ∷ 109 ∷ 101 ∷ []); reached = (in_word hs (115 ∷ []), refl, told _ _, (in_word hs (115 ∷ 111 ∷ []), refl, refl, (in_word hs (115 ∷ 111 ∷ 109 ∷ []), refl, refl, (in_word hs (115 ∷ 111 ∷ 109 ∷ 101 ∷ []), refl, refl, refl)))); within = (let k : 4 < suc (suc (suc (suc (suc (length more))))) = omega arith in k); positive = (let k : 0 < 5 = omega arith in k); shallow = refl; ends = refl }
  by-word Ljf (false_unit Negative) more is = cc

  word-read : (logic : Logic) (bytes : List ℕ) (w : Word) (n : ℕ) → IsWordAt logic bytes w n → IsWordRead number logic hs bytes w n
  word-read logic bytes w n h = rw (h.1, h.2.1) (by-word logic w h.2.0 h.0)

  pub word-stop : (logic : Logic) (bytes : List ℕ) (w : Word) (n : ℕ) (result : Result progress.Progress TokenRefusal) (r : PlainReader) → IsWordAt logic bytes w n → IsNext logic 0 result r (after_word hs w)
      → IsStop number logic (at_formula hs) bytes (n - 1) result r
  word-stop logic bytes w n result r h answer =
      let a = word-read logic bytes w n h in
      record {
        reading = a.reading;
        reached = a.reached;
        within = a.within;
        answer = subst (λ m. IsNext logic m result r (next number logic a.reading (slice_index bytes (n - 1)))) (sym a.shallow) (subst (IsNext logic 0 result r) (sym a.ends) answer);
      }

-- what comes behind a unit
after-unit : (unit : Node) → is_unit unit ≡ true → after_word [] (unit_word unit) ≡ on (behind_formula [] (formula_of (unit ∷ [])))
after-unit (True p) is = refl
after-unit (False p) is = refl
after-unit (Atom positive name arguments) is = cc
after-unit (And p) is = cc
after-unit (Or p) is = cc
after-unit Implies is = cc
after-unit ForAll is = cc
after-unit Exists is = cc
after-unit (Inside cell) is = cc

-- the reading of a reader that begins the outermost formula
at-start : (logic : Logic) (q : Reading) (r : PlainReader) → Stands logic q r → r.mode ≡ mode.TheVariants.AtFormula → length (built.holes_in r.formula) ≡ 0 → q ≡ at_formula []
at-start logic (at_formula []) r h e d = refl
at-start logic (at_formula (g ∷ hs)) r h e d =
    let k : length (built_holes (g ∷ hs)) ≡ 0 = rw h.formula at d in
    let l = length-built_holes (g ∷ hs) in
    let no : ⊥ = omega arith in
    absurd no
at-start logic (behind_formula hs f) r h e d = let m = h.mode in let no : ⊥ = cc in absurd no
at-start logic (at_term up) r h e d = let m = h.mode in let no : ⊥ = cc in absurd no
at-start logic (in_word hs w) r h e d = let m = h.mode in let no : ⊥ = cc in absurd no
at-start logic (at_name hs positive) r h e d = let m = h.mode in let no : ⊥ = cc in absurd no
at-start logic (in_name hs positive w) r h e d = let m = h.mode in let no : ⊥ = cc in absurd no
at-start logic (in_operator hs a w) r h e d = let m = h.mode in let no : ⊥ = cc in absurd no
at-start logic (in_function up w) r h e d = let m = h.mode in let no : ⊥ = cc in absurd no
at-start logic (at_eigen up) r h e d = let m = h.mode in let no : ⊥ = cc in absurd no
at-start logic (in_eigen up k) r h e d = let m = h.mode in let no : ⊥ = cc in absurd no
at-start logic (at_index up) r h e d = let m = h.mode in let no : ⊥ = cc in absurd no
at-start logic (in_index up k) r h e d = let m = h.mode in let no : ⊥ = cc in absurd no
at-start logic (behind_term up t) r h e d = let m = h.mode in let no : ⊥ = cc in absurd no

-- the line of a unit
module _ (number : List ℕ → ℕ) (logic : Logic) (bytes : List ℕ) (unit : Node) (n : ℕ) (result : Result progress.Progress TokenRefusal) (r : PlainReader) (answer : IsNext logic 0 result r (whole_formula (formula_of (unit ∷ [])))) where
  unit-stop : IsUnitLine logic bytes unit n → IsStop number logic (at_formula []) bytes n result r
  unit-stop h =
      let a = word-read number [] (let k : 0 < 10000 = omega arith in k) logic bytes (unit_word unit) n h.1 in
      let f = formula_of (unit ∷ []) in
      let free : limit_of a.reading (behind_formula [] f) ≡ None = rw a.shallow refl in
      let one : Reaches number logic a.reading (slice_index bytes (n - 1) ∷ []) (behind_formula [] f) = (behind_formula [] f, a.ends ∙ after-unit unit h.0, free, refl) in
      record {
        reading = behind_formula [] f;
        reached = reaches-last number logic (at_formula []) a.reading (behind_formula [] f) bytes n a.positive a.within a.reached one;
        within = h.2;
        answer = rw h.3 answer;
      }

  unended : result ≡ Ok progress.TheVariants.Going → ⊥
  unended e = subst (λ x. IsNext logic 0 x r (whole_formula (formula_of (unit ∷ [])))) e answer

  pub unit-run : (q : Reading) → Stands logic q r → r.mode ≡ mode.TheVariants.AtFormula → length (built.holes_in r.formula) ≡ 0 → IsUnitLine r.logic bytes unit n → IsRun number logic q bytes n result r
  unit-run q h e d found =
      let at = at-start logic q r h e d in
      run-stop number logic q bytes n result r unended (subst (λ s. IsStop number logic s bytes n result r) (sym at) (unit-stop (subst (λ l. IsUnitLine l bytes unit n) h.logic_is found)))

-- a word leaves the line unended
pub word-goes_on : (logic : Logic) (n : ℕ) (r : PlainReader) (hs : List Hole) (w : Word) (p : progress.Progress) → IsNext logic n (Ok p) r (after_word hs w) → IsNext logic n (Ok progress.TheVariants.Going) r (after_word hs w)
word-goes_on logic n r hs w progress.TheVariants.Going h = h
word-goes_on logic n r hs (true_unit p) (progress.TheVariants.Term t) h = absurd h
word-goes_on logic n r hs (false_unit p) (progress.TheVariants.Term t) h = absurd h
word-goes_on logic n r hs (binder q) (progress.TheVariants.Term t) h = absurd h
word-goes_on logic n r hs (true_unit p) (progress.TheVariants.Formula f) h = absurd h
word-goes_on logic n r hs (false_unit p) (progress.TheVariants.Formula f) h = absurd h
word-goes_on logic n r hs (binder q) (progress.TheVariants.Formula f) h = absurd h

-- a connective
module _ (number : List ℕ → ℕ) (hs gs : List Hole) (f g : Formula) (result : Result progress.Progress TokenRefusal) (r : PlainReader) where
  by-link : (logic : Logic) (o : Operator) (more : List ℕ) → is_operator logic o ≡ true → end_formula hs f 32 ≡ on (in_operator gs g []) → IsNext logic 0 result r (on (at_formula (second_of o g ∷ gs)))
      → IsStop number logic (behind_formula hs f) ((32 ∷ link_text logic o) ++ more) (length (32 ∷ link_text logic o) - 1) result r
  by-link Lkf (disjunction Negative) more is e a = record { reading = in_operator gs g (124 ∷ 45 ∷ []); reached = (in_operator gs g [], e, refl, (in_operator gs g (124 ∷ []), refl, refl, (in_operator gs g (124 ∷ 45 ∷ []), refl, refl, refl))); within = (let k : 3 < suc (suc (suc (suc (length more)))) = omega arith in k); answer = a }
  by-link Lkf (disjunction Positive) more is e a = record { reading = in_operator gs g (124 ∷ 43 ∷ []); reached = (in_operator gs g [], e, refl, (in_operator gs g (124 ∷ []), refl, refl, (in_operator gs g (124 ∷ 43 ∷ []), refl, refl, refl))); within = (let k : 3 < suc (suc (suc (suc (length more)))) = omega arith in k); answer = a }
  by-link Lkf (conjunction Negative) more is e a = record { reading = in_operator gs g (38 ∷ 45 ∷ []); reached = (in_operator gs g [], e, refl, (in_operator gs g (38 ∷ []), refl, refl, (in_operator gs g (38 ∷ 45 ∷ []), refl, refl, refl))); within = (let k : 3 < suc (suc (suc (suc (length more)))) = omega arith in k); answer = a }
  by-link Lkf (conjunction Positive) more is e a = record { reading = in_operator gs g (38 ∷ 43 ∷ []); reached = (in_operator gs g [], e, refl, (in_operator gs g (38 ∷ []), refl, refl, (in_operator gs g (38 ∷ 43 ∷ []), refl, refl, refl))); within = (let k : 3 < suc (suc (suc (suc (length more)))) = omega arith in k); answer = a }
  by-link Ljf (conjunction Positive) more is e a = record { reading = in_operator gs g (38 ∷ 43 ∷ []); reached = (in_operator gs g [], e, refl, (in_operator gs g (38 ∷ []), refl, refl, (in_operator gs g (38 ∷ 43 ∷ []), refl, refl, refl))); within = (let k : 3 < suc (suc (suc (suc (length more)))) = omega arith in k); answer = a }
  by-link Ljf (conjunction Negative) more is e a = record { reading = in_operator gs g (38 ∷ 45 ∷ []); reached = (in_operator gs g [], e, refl, (in_operator gs g (38 ∷ []), refl, refl, (in_operator gs g (38 ∷ 45 ∷ []), refl, refl, refl))); within = (let k : 3 < suc (suc (suc (suc (length more)))) = omega arith in k); answer = a }
  by-link Ljf (disjunction Positive) more is e a = record { reading = in_operator gs g (124 ∷ []); reached = (in_operator gs g [], e, refl, (in_operator gs g (124 ∷ []), refl, refl, refl)); within = (let k : 2 < suc (suc (suc (length more))) = omega arith in k); answer = a }
  by-link Ljf (implication) more is e a = record { reading = in_operator gs g (61 ∷ 62 ∷ []); reached = (in_operator gs g [], e, refl, (in_operator gs g (61 ∷ []), refl, refl, (in_operator gs g (61 ∷ 62 ∷ []), refl, refl, refl))); within = (let k : 3 < suc (suc (suc (suc (length more)))) = omega arith in k); answer = a }
  by-link Lkf implication more is e a = cc
  by-link Ljf (disjunction Negative) more is e a = cc

  pub link-stop : (logic : Logic) (bytes : List ℕ) (o : Operator) (n : ℕ) → IsLinkAt logic bytes o n → end_formula hs f 32 ≡ on (in_operator gs g []) → IsNext logic 0 result r (on (at_formula (second_of o g ∷ gs)))
      → IsStop number logic (behind_formula hs f) bytes (n - 1) result r
  link-stop logic bytes o n h e answer = rw (h.1, h.2.1) (by-link logic o h.2.0 h.0 e answer)

-- the connective of a pair
module _ (number : List ℕ → ℕ) (logic : Logic) (hs : List Hole) (f : Formula) (old : PlainReader) (h : Stands logic (behind_formula hs f) old) (bytes : List ℕ) (j : joiner.Joiner) (n : ℕ) (found : IsLinkAt logic bytes (operator_of j) n) where
  pub links-stop : (new : PlainReader) → built.takes_joiner (built.left old.formula) ≡ true → new ≡ record old { mode = mode.TheVariants.AtFormula; formula = built.joined j (built.left old.formula) }
      → IsStop number logic (behind_formula hs f) bytes (n - 1) (Ok progress.TheVariants.Going) new
  links-stop new t e =
      let p = links-pair logic hs f old h t in
      let stands : Stands logic (at_formula (second_of (operator_of j) p.1 ∷ p.0)) new =
      rw e (record { logic_is = h.logic_is; mode = refl; word = h.word; outside = h.outside; terms = h.terms; formula = ap (built.joined j) p.2 ∙ ap (λ k. built.wants (built.second_of k p.1 ∷ built_holes p.0)) (sym (joiner_of-operator_of j)); kept = tt }) in
      link-stop number hs p.0 f p.1 (Ok progress.TheVariants.Going) new logic bytes (operator_of j) n found p.3 (stands, refl)

  pub links-refused : (new : PlainReader) → built.takes_joiner (built.left old.formula) ≡ false → IsStop number logic (behind_formula hs f) bytes 0 (Err (Refused Unexpected)) new
  links-refused new t = rw found.2.1 (record { reading = behind_formula hs f; reached = refl; within = (let k : 0 < suc (length (link_text logic (operator_of j) ++ found.2.0)) = omega arith in k); answer = rw (links-none logic hs f old h t) refl })

-- a reader that is not too deep
pub not-deep : (logic : Logic) (hs : List Hole) (r : PlainReader) (d : ℕ) → Stands logic (at_formula hs) r → d ≡ length (built.holes_in r.formula) → d < 10000 → length hs < 10000
not-deep logic hs r d h e few =
    let k : d ≡ length hs = e ∙ ap (λ u. length (built.holes_in u)) h.formula ∙ length-built_holes hs in
    rw (sym k) few

-- the whole name of a literal
module _ (number : List ℕ → ℕ) (hs : List Hole) (bytes : List ℕ) (n : ℕ) (at : IsNameAt bytes n) (within : n < length bytes) where
  few : length (take n bytes) ≤ 255
  few = name-few bytes n at.few within

  pub bare-ends : length hs < 10000 → EndsName number Lkf hs true bytes n (at_formula hs)
  bare-ends shallow = record {
    reading = in_word hs (take n bytes);
    reached = name-reached number Lkf (at_formula hs) (in_word hs) (Names-word number hs) (record { first = λ b. told number hs shallow _ _; later = λ w v short. in_limit v _ _ short }) (take n bytes) at.name few;
    shallow = refl;
    ends = λ k. cond-false (is_name_byte (slice_index bytes n)) _ _ at.behind ∙ ap (end_word number hs (take n bytes) (slice_index bytes n)) (no_word (take n bytes) (slice_index bytes n) k);
  }

  pub marked-ends : (logic : Logic) (positive : Bool) → EndsName number logic hs positive bytes n (at_name hs positive)
  marked-ends logic positive = record {
    reading = in_name hs positive (take n bytes);
    reached = name-reached number logic (at_name hs positive) (in_name hs positive) (Names-mark number logic hs positive) (record { first = λ b. refl; later = λ w v short. in_limit v _ _ short }) (take n bytes) at.name few;
    shallow = refl;
    ends = λ k. cond-false (is_name_byte (slice_index bytes n)) _ _ at.behind;
  }

-- behind the name of a literal
module _ (number : List ℕ → ℕ) (logic : Logic) (hs : List Hole) (positive : Bool) (name : ℕ) (bytes : List ℕ) where
  pub named-behind : (n : ℕ) (q : Reading) → (e : EndsName number logic hs positive bytes n q) → is_keyword (take n bytes) ≡ false → number (take n bytes) ≡ name
      → IsBehindName number logic hs positive name (slice_index (drop n bytes) 0) e.reading
  named-behind n q e k is =
      let at : n + 0 ≡ n = omega arith in
      let b : slice_index (drop n bytes) 0 ≡ slice_index bytes n = index-drop bytes n 0 ∙ ap (slice_index bytes) at in
      subst (λ x. IsBehindName number logic hs positive name x e.reading) (sym b) (record {
        shallow = e.shallow;
        ends = e.ends k ∙ cond-false (is_keyword (take n bytes)) _ _ k
            ∙ ap (λ x. if nat_eq (slice_index bytes n) 40 then on (at_term (in_atom hs positive x [])) else end_formula hs (atom positive x no_args) (slice_index bytes n)) is;
      })

  module _ (q : Reading) (new : PlainReader) (result : Result progress.Progress TokenRefusal) (h : IsBehindName number logic hs positive name (slice_index bytes 0) q) where
    pub name-stop : 0 < length bytes
        → IsNext logic 0 result new (if nat_eq (slice_index bytes 0) 40 then on (at_term (in_atom hs positive name [])) else end_formula hs (atom positive name no_args) (slice_index bytes 0)) → IsStop number logic q bytes 0 result new
    name-stop positive answer = next-stop number logic q bytes result new positive (subst (λ m. IsNext logic m result new (next number logic q (slice_index bytes 0))) (sym h.shallow) (subst (IsNext logic 0 result new) (sym h.ends) answer))

    pub literal-stop : (n : ℕ) → (slice_index bytes 0 ≡ 40 → ⊥) → IsStop number logic (behind_formula hs (atom positive name no_args)) bytes n result new → IsStop number logic q bytes n result new
    literal-stop n other t =
        let no : nat_eq (slice_index bytes 0) 40 ≡ false = grind (arith, nat_tests) in
        stop-alike number logic (behind_formula hs (atom positive name no_args)) q bytes n result new refl h.shallow (h.ends ∙ cond-false (nat_eq (slice_index bytes 0) 40) _ _ no) t
