-- The text of steps is read as these steps.
use Rattle.std.proofs.Common.{◌≡◌, ℕ, ◌+◌, ◌-◌, ◌*◌, ◌/◌, ◌%◌, ◌^◌, ◌<◌, ◌≤◌, true, ◌&&◌, List, [], ◌∷◌, ◌++◌, decimal, refl, sym, ap, ◌∙◌, arith, nat_lt, nat_le, append_assoc}
use Rattle.std.proofs.lemmas.Bool.{and_from, cond-true}
use Rattle.std.proofs.lemmas.Bool.Decides.{nat_tests}
use Rattle.std.proofs.lemmas.Fmt.{decimal_by_steps}
use Rattle.fpc_base.specs.Tokens.{is_digit}
use Rattle.polarised_formulas.specs.declared.logic.Logic.{Logic}
use Rattle.polarised_formulas.specs.declared.logic.Logic.TheVariants.{Lkf, Ljf}
use Rattle.polarised_formulas.specs.declared.step.Step.{Step}
use Rattle.polarised_formulas.specs.declared.step.Step.TheVariants as step
use Rattle.polarised_formulas.specs.PlainReading as plain
use Rattle.polarised_formulas.specs.PlainForm.{plain_term, plain_formula}
use Rattle.polarised_formulas.proofs.Lookups.{EachOf}
use Rattle.polarised_formulas.proofs.Begins.{term_read, formula_read}
use Rattle.polarised_formulas.proofs.Joins.{plain_term-append, plain_formula-append}
use Rattle.polarised_formulas.proofs.Steps.{through, through-line}
use Rattle.explicit_form.specs.declared.word.Placed.{Placed}
use Rattle.explicit_form.specs.declared.word.Written.{Written}
use Rattle.explicit_form.specs.declared.word.Word.{Word}
use Rattle.explicit_form.specs.StepText.{word_text, words, end_text, step_word, argument_before, line_before, lines_before, header_text, certificate_text, IsOneOf, IsPlainStep, ArePlainSteps}
use Rattle.explicit_form.specs.StepReading.{placed_step, in_word, at_place, in_place, in_line, behind_word, State, reading, ended, start, settle, go, run, steps_onto}
use Rattle.explicit_form.proofs.WordFacts.{IsOneOf-each}

is_digit-digit : (d : ℕ) → d < 10 → is_digit (48 + d) ≡ true
is_digit-digit d l = and_from (nat_le 48 (48 + d)) (nat_le (48 + d) 57) (grind (arith, nat_tests)) (grind (arith, nat_tests))

tested : (a b : ℕ) → a < b → nat_lt a b ≡ true
tested a b l = grind (arith, nat_tests)

can_grow-digit : (k d : ℕ) → 0 < k → k < 100000000 → d < 10 → plain.can_grow k (48 + d) ≡ true
can_grow-digit k d low high l = and_from (is_digit (48 + d)) (nat_lt 0 k && nat_lt k 100000000) (is_digit-digit d l) (and_from (nat_lt 0 k) (nat_lt k 100000000) (tested 0 k low) (tested k 100000000 high))

digit_value : (d : ℕ) → 48 + d - 48 ≡ d
digit_value d = omega arith

module _ (number : List ℕ → ℕ) (logic : Logic) where
  pub run-append : (st : State) (xs ys : List ℕ) → run number logic st (xs ++ ys) ≡ run number logic (run number logic st xs) ys
  run-append st [] ys = refl
  run-append st (x ∷ xs) ys = run-append (go number logic st x) xs ys

  -- a word in front of other bytes
  abbrev RunsWord : Word → Type 0
  RunsWord x = (done : List Step) (rest : List ℕ) → run number logic (reading done (in_word [])) (word_text x ++ rest) ≡ run number logic (settle done (behind_word x)) rest

  abbrev RunsPlace : List Step → Placed → ℕ → List ℕ → Type 0
  RunsPlace done p k ds = k < 1000000000 → (rest : List ℕ) → run number logic (reading done (at_place p)) (ds ++ rest) ≡ run number logic (reading done (in_place p k)) rest

  last_digit : (done : List Step) (p : Placed) (n : ℕ) (ds : List ℕ) → 10 ≤ n → RunsPlace done p (n / 10) ds → RunsPlace done p n (ds ++ (48 + n % 10) ∷ [])
  last_digit done p n ds ge front = λ l rest.
      let whole : 10 * (n / 10) + n % 10 ≡ n = omega arith in
      let small : n % 10 < 10 = omega arith in
      let positive : 0 < n / 10 = omega arith in
      let high : n / 10 < 100000000 = omega arith in
      let most : n / 10 < 1000000000 = omega arith in
      ap (run number logic (reading done (at_place p))) (append_assoc ds ((48 + n % 10) ∷ []) rest)
      ∙ front most ((48 + n % 10) ∷ rest)
      ∙ ap (λ m. run number logic (settle done m) rest) (cond-true (plain.can_grow (n / 10) (48 + n % 10)) _ _ (can_grow-digit (n / 10) (n % 10) positive high small))
      ∙ ap (λ k. run number logic (reading done (in_place p k)) rest) (ap (λ e. 10 * (n / 10) + e) (digit_value (n % 10)) ∙ whole)

  run-place : (done : List Step) (p : Placed) (k : ℕ) → RunsPlace done p k (decimal k)
  run-place done p k = λ l rest.
      let fits : k < 2 ^ 64 = omega arith in
      decimal_by_steps (RunsPlace done p)
      (λ m low. λ below more. ap (λ n. run number logic (settle done n) more) (cond-true (is_digit (48 + m)) _ _ (is_digit-digit m low)) ∙ ap (λ e. run number logic (reading done (in_place p e)) more) (digit_value m))
      (last_digit done p) k fits l rest

  run-placed : (done : List Step) (p : Placed) (k : ℕ) (rest : List ℕ) → k < 1000000000 → run number logic (reading done (at_place p)) (decimal k ++ 10 ∷ rest) ≡ run number logic (reading (placed_step p k ∷ done) (in_word [])) rest
  run-placed done p k rest l = run-place done p k l (10 ∷ rest)

  through-run : (st : State) (bs : List ℕ) → through (go number logic) st bs ≡ run number logic st bs
  through-run st [] = refl
  through-run st (b ∷ bs) = through-run (go number logic st b) bs

  run-plain : (done : List Step) (w : Written) (n result : plain.Next) → (plain.wrong ≡ result → ⊥) → (line bs rest : List ℕ) → line ≡ bs ++ rest → plain.run number logic n bs ≡ result
      → run number logic (settle done (in_line w n)) line ≡ run number logic (settle done (in_line w result)) rest
  run-plain done w n result not_wrong line bs rest parts e =
      ap (run number logic (settle done (in_line w n))) parts
      ∙ sym (through-run (settle done (in_line w n)) (bs ++ rest))
      ∙ through-line State number logic (go number logic) (λ m. settle done (in_line w m)) (record { follows = λ q b. refl }) result not_wrong bs n e rest
      ∙ through-run (settle done (in_line w result)) rest

  module _ (text : ℕ → List ℕ) where
    run-argument : (s : Step) → IsPlainStep text number logic s → (done : List Step) (rest : List ℕ) → run number logic (settle done (behind_word (step_word s))) (argument_before text logic s rest) ≡ run number logic (reading (s ∷ done) (in_word [])) rest
    run-argument (step.Decide k) p done rest = run-placed done _ k rest p.1
    run-argument (step.Init k) p done rest = run-placed done _ k rest p.1
    run-argument (step.DecideL k) p done rest = run-placed done _ k rest p.1
    run-argument (step.FocRInit k) p done rest = run-placed done _ k rest p.1
    run-argument (step.Exists t) p done rest = run-plain done _ (plain.start plain.of_term) (plain.whole_term t) (λ e. cc) _ (plain_term text t (10 ∷ [])) rest (plain_term-append text rest t (10 ∷ [])) (term_read text number logic t p.1)
    run-argument (step.FocLEvery t) p done rest = run-plain done _ (plain.start plain.of_term) (plain.whole_term t) (λ e. cc) _ (plain_term text t (10 ∷ [])) rest (plain_term-append text rest t (10 ∷ [])) (term_read text number logic t p.1)
    run-argument (step.FocRExists t) p done rest = run-plain done _ (plain.start plain.of_term) (plain.whole_term t) (λ e. cc) _ (plain_term text t (10 ∷ [])) rest (plain_term-append text rest t (10 ∷ [])) (term_read text number logic t p.1)
    run-argument (step.Cut f) p done rest = run-plain done _ (plain.start plain.of_formula) (plain.whole_formula f) (λ e. cc) _ (plain_formula text logic 0 f (10 ∷ [])) rest (plain_formula-append text rest logic 0 f (10 ∷ [])) (formula_read text number logic f p.1)
    run-argument _ p done rest = refl

-- each word of a logic is read to its end
run-words : (number : List ℕ → ℕ) (logic : Logic) → EachOf (RunsWord number logic) (words logic)
run-words number Lkf = (λ _ _. refl, (λ _ _. refl, (λ _ _. refl, (λ _ _. refl, (λ _ _. refl, (λ _ _. refl, (λ _ _. refl, (λ _ _. refl, (λ _ _. refl, (λ _ _. refl, (λ _ _. refl, (λ _ _. refl, (λ _ _. refl, (λ _ _. refl, (λ _ _. refl, (λ _ _. refl, tt))))))))))))))))
run-words number Ljf = (λ _ _. refl, (λ _ _. refl, (λ _ _. refl, (λ _ _. refl, (λ _ _. refl, (λ _ _. refl, (λ _ _. refl, (λ _ _. refl, (λ _ _. refl, (λ _ _. refl, (λ _ _. refl, (λ _ _. refl, (λ _ _. refl, (λ _ _. refl, (λ _ _. refl, (λ _ _. refl, (λ _ _. refl, (λ _ _. refl, (λ _ _. refl, (λ _ _. refl, (λ _ _. refl, (λ _ _. refl, (λ _ _. refl, (λ _ _. refl, (λ _ _. refl, (λ _ _. refl, (λ _ _. refl, (λ _ _. refl, tt))))))))))))))))))))))))))))

module _ (text : ℕ → List ℕ) (number : List ℕ → ℕ) (logic : Logic) where
  run-word : (x : Word) → IsOneOf x (words logic) → RunsWord number logic x
  run-word x h = IsOneOf-each (RunsWord number logic) (words logic) (run-words number logic) x h

  pub run-line : (s : Step) → IsPlainStep text number logic s → (done : List Step) (rest : List ℕ) → run number logic (reading done (in_word [])) (line_before text logic s rest) ≡ run number logic (reading (s ∷ done) (in_word [])) rest
  run-line s p done rest = run-word (step_word s) p.0 done (argument_before text logic s rest) ∙ run-argument number logic text s p done rest

  pub run-lines : (ss : List Step) → ArePlainSteps text number logic ss → (done : List Step) (rest : List ℕ) → run number logic (reading done (in_word [])) (lines_before text logic ss rest) ≡ run number logic (reading (steps_onto ss done) (in_word [])) rest
  run-lines [] p done rest = refl
  run-lines (s ∷ ss) p done rest = run-line s p.0 done (lines_before text logic ss rest) ∙ run-lines ss p.1 (s ∷ done) rest

  run-end : (l : Logic) (done : List Step) → run number l (reading done (in_word [])) end_text ≡ ended done
  run-end Lkf done = refl
  run-end Ljf done = refl

  pub run-header : (l : Logic) (rest : List ℕ) → run number l start (header_text l ++ rest) ≡ run number l (reading [] (in_word [])) rest
  run-header Lkf rest = refl
  run-header Ljf rest = refl

  -- the text of a certificate is read as its steps
  pub run-certificate : (ss : List Step) → ArePlainSteps text number logic ss → run number logic start (certificate_text text logic ss) ≡ ended (steps_onto ss [])
  run-certificate ss p = run-header logic (lines_before text logic ss end_text) ∙ run-lines ss p [] end_text ∙ run-end logic (steps_onto ss [])
