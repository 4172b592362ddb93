-- The line of a formula is read as that formula.
use Rattle.std.proofs.Common.{◌≡◌, ℕ, suc, Bool, true, false, List, [], ◌∷◌, ◌++◌, codes, refl, ap, ◌∙◌, arith, nat_eq}
use Rattle.std.proofs.lemmas.Bool.{cond-true, cond-false}
use Rattle.fpc_terms.specs.Name.{is_small_letter, is_name_byte}
use Rattle.fpc_terms.specs.Term.{Args, no_args, arg}
use Rattle.fpc_terms.specs.Text.{args_before, more_before, plain_leaves}
use Rattle.polarised_formulas.specs.declared.logic.Logic.{Logic}
use Rattle.polarised_formulas.specs.declared.logic.Logic.TheVariants.{Lkf, Ljf}
use Rattle.polarised_formulas.specs.declared.logic.Polarity.{Polarity}
use Rattle.polarised_formulas.specs.declared.logic.Polarity.TheVariants.{Positive, Negative}
use Rattle.polarised_formulas.specs.Formula.{Formula, truth, falsity, atom, conj, disj, implies, for_all, exists}
use Rattle.polarised_formulas.specs.Text.{mark_text, operator_before, truth_text, falsity_text}
use Rattle.polarised_formulas.specs.PlainReading.{Operator, conjunction, disjunction, implication, every, some, binary, operator_text, Hole, first_of, second_of, under, depth_of, in_atom, Reading, at_formula, in_word, at_name, in_name, behind_formula, in_operator, at_term, on, end_formula, end_name, is_keyword, end_word, next, run}
use Rattle.polarised_formulas.specs.PlainForm.{begins_name, HasOperator, HasFalsity, IsPlainName, IsPlainFormula, plain_term, plain_formula}
use Rattle.polarised_formulas.proofs.Lookups.{no_word}
use Rattle.polarised_formulas.proofs.Forward.{Closer, close, blank, byte_of, ends_names, not_open, small_above, small_below, Names, run-name, RunsArgs, run-args}

-- where the name of an atom is read
abbrev named : Logic → List Hole → Bool → List ℕ → Reading
named Lkf hs true w = in_word hs w
named Lkf hs false w = in_name hs false w
named Ljf hs positive w = in_name hs positive w

module _ (number : List ℕ → ℕ) where
  pub Names-word : (hs : List Hole) → Names number Lkf (at_formula hs) (in_word hs)
  Names-word hs = record {
    first = λ b h. cond-false (nat_eq b 40) _ _ (small_above b 40 h (omega arith)) ∙ cond-false (nat_eq b 126) _ _ (small_below b 126 h (omega arith)) ∙ cond-true (is_small_letter b) _ _ h;
    later = λ w b h. cond-true (is_name_byte b) _ _ h;
  }

  pub Names-mark : (logic : Logic) (hs : List Hole) (positive : Bool) → Names number logic (at_name hs positive) (in_name hs positive)
  Names-mark logic hs positive = record { first = λ b h. cond-true (is_small_letter b) _ _ h; later = λ w b h. cond-true (is_name_byte b) _ _ h }

  run-mark : (logic : Logic) (hs : List Hole) (positive : Bool) (w rest : List ℕ) → begins_name w ≡ true
      → run number logic (on (at_formula hs)) (mark_text logic positive ++ (w ++ rest)) ≡ run number logic (on (named logic hs positive w)) rest
  run-mark Lkf hs true w rest h = run-name number Lkf (at_formula hs) (in_word hs) (Names-word hs) w rest h
  run-mark Lkf hs false w rest h = run-name number Lkf (at_name hs false) (in_name hs false) (Names-mark Lkf hs false) w rest h
  run-mark Ljf hs true w rest h = run-name number Ljf (at_name hs true) (in_name hs true) (Names-mark Ljf hs true) w rest h
  run-mark Ljf hs false w rest h = run-name number Ljf (at_name hs false) (in_name hs false) (Names-mark Ljf hs false) w rest h

  name-ends : (logic : Logic) (hs : List Hole) (positive : Bool) (w : List ℕ) (b : ℕ) → is_keyword w ≡ false → is_name_byte b ≡ false → next number logic (named logic hs positive w) b ≡ end_name number hs positive w b
  name-ends Lkf hs true w b k h = cond-false (is_name_byte b) _ _ h ∙ ap (end_word number hs w b) (no_word w b k)
  name-ends Lkf hs false w b k h = cond-false (is_name_byte b) _ _ h
  name-ends Ljf hs positive w b k h = cond-false (is_name_byte b) _ _ h

  atom-opens : (logic : Logic) (hs : List Hole) (positive : Bool) (w : List ℕ) → is_keyword w ≡ false → next number logic (named logic hs positive w) 40 ≡ on (at_term (in_atom hs positive (number w) []))
  atom-opens logic hs positive w k = name-ends logic hs positive w 40 k refl ∙ cond-false (is_keyword w) _ _ k

  atom-ends : (logic : Logic) (hs : List Hole) (positive : Bool) (w : List ℕ) (c : Closer) → is_keyword w ≡ false → next number logic (named logic hs positive w) (byte_of c) ≡ end_formula hs (atom positive (number w) no_args) (byte_of c)
  atom-ends logic hs positive w c k = name-ends logic hs positive w (byte_of c) k (ends_names c) ∙ cond-false (is_keyword w) _ _ k ∙ cond-false (nat_eq (byte_of c) 40) _ _ (not_open c)

  run-truth : (logic : Logic) (p : Polarity) (hs : List Hole) (rest : List ℕ) → run number logic (on (at_formula hs)) (truth_text p ++ rest) ≡ run number logic (on (behind_formula hs (truth p))) rest
  run-truth Lkf Positive hs rest = refl
  run-truth Lkf Negative hs rest = refl
  run-truth Ljf Positive hs rest = refl
  run-truth Ljf Negative hs rest = refl

  run-falsity : (logic : Logic) (p : Polarity) → HasFalsity logic p → (hs : List Hole) (rest : List ℕ) → run number logic (on (at_formula hs)) (falsity_text logic p ++ rest) ≡ run number logic (on (behind_formula hs (falsity p))) rest
  run-falsity Lkf Positive h hs rest = refl
  run-falsity Lkf Negative h hs rest = refl
  run-falsity Ljf Positive h hs rest = refl
  run-falsity Ljf Negative h hs rest = absurd h

  run-every : (logic : Logic) (hs : List Hole) (rest : List ℕ) → run number logic (on (at_formula hs)) (codes "all " ++ rest) ≡ run number logic (on (at_formula (under every ∷ hs))) rest
  run-every Lkf hs rest = refl
  run-every Ljf hs rest = refl

  run-some : (logic : Logic) (hs : List Hole) (rest : List ℕ) → run number logic (on (at_formula hs)) (codes "some " ++ rest) ≡ run number logic (on (at_formula (under some ∷ hs))) rest
  run-some Lkf hs rest = refl
  run-some Ljf hs rest = refl

  run-operator : (logic : Logic) (o : Operator) → HasOperator logic o → (hs : List Hole) (a : Formula) (rest : List ℕ) → run number logic (on (in_operator hs a [])) (operator_text logic o ++ 32 ∷ rest) ≡ run number logic (on (at_formula (second_of o a ∷ hs))) rest
  run-operator Lkf (conjunction Positive) h hs a rest = refl
  run-operator Lkf (conjunction Negative) h hs a rest = refl
  run-operator Lkf (disjunction Positive) h hs a rest = refl
  run-operator Lkf (disjunction Negative) h hs a rest = refl
  run-operator Lkf implication h hs a rest = absurd h
  run-operator Ljf (conjunction Positive) h hs a rest = refl
  run-operator Ljf (conjunction Negative) h hs a rest = refl
  run-operator Ljf (disjunction Positive) h hs a rest = refl
  run-operator Ljf (disjunction Negative) h hs a rest = absurd h
  run-operator Ljf implication h hs a rest = refl

  module _ (text : ℕ → List ℕ) (logic : Logic) where
    run-name_args : (hs : List Hole) (positive : Bool) (f : ℕ) → IsPlainName text number f → (ts : Args) (c : Closer) (rest : List ℕ) → RunsArgs number logic text ts (in_atom hs positive f) (λ vs. behind_formula hs (atom positive f vs)) [] (byte_of c ∷ rest)
        → run number logic (on (named logic hs positive (text f))) (args_before (plain_leaves text) ts (byte_of c ∷ rest)) ≡ run number logic (end_formula hs (atom positive f ts) (byte_of c)) rest
    run-name_args hs positive f h no_args c rest later = ap (λ n. run number logic n rest) (atom-ends logic hs positive (text f) c h.1 ∙ ap (λ g. end_formula hs (atom positive g no_args) (byte_of c)) h.2)
    run-name_args hs positive f h (arg t ts) c rest later =
        ap (λ n. run number logic n (plain_term text t (more_before (plain_leaves text) ts (byte_of c ∷ rest)))) (atom-opens logic hs positive (text f) h.1 ∙ ap (λ g. on (at_term (in_atom hs positive g []))) h.2) ∙ later

    abbrev RunsFormula : Formula → List Hole → Type 0
    RunsFormula f hs = (c : Closer) (rest : List ℕ) → run number logic (on (at_formula hs)) (plain_formula text logic (depth_of hs) f (byte_of c ∷ rest)) ≡ run number logic (end_formula hs f (byte_of c)) rest

    run-binary : (o : Operator) → HasOperator logic o → (a b : Formula) (hs : List Hole) → RunsFormula a (first_of ∷ hs) → RunsFormula b (second_of o a ∷ hs) → (rest : List ℕ)
        → run number logic (on (at_formula hs)) (40 ∷ plain_formula text logic (depth_of hs) a (operator_before (operator_text logic o) (plain_formula text logic (depth_of hs) b (41 ∷ rest)))) ≡ run number logic (on (behind_formula hs (binary o a b))) rest
    run-binary o h a b hs first second rest =
        first blank (operator_text logic o ++ 32 ∷ plain_formula text logic (depth_of hs) b (41 ∷ rest)) ∙ run-operator logic o h hs a (plain_formula text logic (depth_of hs) b (41 ∷ rest)) ∙ second close rest

    pub run-formula : (f : Formula) (hs : List Hole) → IsPlainFormula text number logic (depth_of hs) f → RunsFormula f hs
    run-formula (truth p) hs h = λ c rest. run-truth logic p hs (byte_of c ∷ rest)
    run-formula (falsity p) hs h = λ c rest. run-falsity logic p h hs (byte_of c ∷ rest)
    run-formula (atom positive f ts) hs h = λ c rest.
        run-mark logic hs positive (text f) (args_before (plain_leaves text) ts (byte_of c ∷ rest)) h.0.0
        ∙ run-name_args hs positive f h.0 ts c rest
        (run-args number logic text ts (depth_of hs) h.1 (in_atom hs positive f) (λ vs. behind_formula hs (atom positive f vs)) (record { depth = λ us. refl; comma = λ us t. refl; close = λ us t. refl }) [] (byte_of c ∷ rest))
    run-formula (conj p a b) hs h = λ c rest. run-binary (conjunction p) h.0 a b hs (run-formula a (first_of ∷ hs) h.1) (run-formula b (second_of (conjunction p) a ∷ hs) h.2) (byte_of c ∷ rest)
    run-formula (disj p a b) hs h = λ c rest. run-binary (disjunction p) h.0 a b hs (run-formula a (first_of ∷ hs) h.1) (run-formula b (second_of (disjunction p) a ∷ hs) h.2) (byte_of c ∷ rest)
    run-formula (implies a b) hs h = λ c rest. run-binary implication h.0 a b hs (run-formula a (first_of ∷ hs) h.1) (run-formula b (second_of implication a ∷ hs) h.2) (byte_of c ∷ rest)
    run-formula (for_all a) hs h = λ c rest. run-every logic hs (plain_formula text logic (suc (depth_of hs)) a (byte_of c ∷ rest)) ∙ run-formula a (under every ∷ hs) h c rest
    run-formula (exists a) hs h = λ c rest. run-some logic hs (plain_formula text logic (suc (depth_of hs)) a (byte_of c ∷ rest)) ∙ run-formula a (under some ∷ hs) h c rest
