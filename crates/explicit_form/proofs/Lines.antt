-- A line byte by byte: what was read is kept, and can become a whole line.
use Rattle.std.proofs.Common.{◌≡◌, ℕ, ◌-◌, ◌<◌, Bool, true, false, if◌then◌else◌, List, [], ◌∷◌, ◌++◌, Option, Some, None, decimal, refl, sym, ap, ◌∙◌, arith, nat_eq, nat_le, append_assoc}
use Rattle.std.proofs.lemmas.Bool.{and_parts}
use Rattle.std.proofs.lemmas.Bool.Decides.{nat_tests}
use Rattle.fpc_base.specs.Tokens.{is_digit}
use Rattle.polarised_formulas.specs.declared.logic.Logic.{Logic}
use Rattle.polarised_formulas.specs.declared.step.Step.{Step}
use Rattle.polarised_formulas.specs.declared.step.Step.TheVariants as step
use Rattle.polarised_formulas.specs.PlainReading as plain
use Rattle.polarised_formulas.specs.PlainForm.{GivesBack, IsLine}
use Rattle.polarised_formulas.proofs.Lookups.{first_with-some, begins_some-continues}
use Rattle.polarised_formulas.proofs.Begun as begun
use Rattle.polarised_formulas.proofs.Kept.{decimal-grown, decimal-one, same_number}
use Rattle.polarised_formulas.proofs.Kept as kept
use Rattle.polarised_formulas.proofs.Live.{grown-small}
use Rattle.polarised_formulas.proofs.Live as live
use Rattle.polarised_formulas.proofs.Completion.{complete-begun}
use Rattle.polarised_formulas.proofs.Joins.{plain_term-append, plain_formula-append}
use Rattle.explicit_form.specs.declared.word.Placed.{Placed}
use Rattle.explicit_form.specs.declared.word.Placed.TheVariants as placed
use Rattle.explicit_form.specs.declared.word.Written.{Written}
use Rattle.explicit_form.specs.declared.word.Written.TheVariants as written
use Rattle.explicit_form.specs.declared.word.Word.{Word}
use Rattle.explicit_form.specs.declared.word.Word.TheVariants as word
use Rattle.explicit_form.specs.StepText.{placed_text, written_text, word_text, words, end_text, line_before, lines_before, IsOneOf, IsPlainStep, ArePlainSteps}
use Rattle.explicit_form.specs.StepReading.{bare_step, placed_step, use_of, Line, in_word, at_place, in_place, in_plain, Next, on, whole, last, wrong, in_line, behind_word, next_word, next}
use Rattle.explicit_form.proofs.PlainJoins.{begun_before-append}
use Rattle.explicit_form.proofs.WordFacts.{all_words, bare_line, placed_line, bare_plain}

-- the bytes of a line that was begun, before others
abbrev pub begun_before : (ℕ → List ℕ) → Logic → Line → List ℕ → List ℕ
begun_before text logic (in_word w) rest = w ++ rest
begun_before text logic (at_place p) rest = placed_text p ++ rest
begun_before text logic (in_place p k) rest = placed_text p ++ (decimal k ++ rest)
begun_before text logic (in_plain w q) rest = written_text w ++ begun.begun_before text logic q rest

-- what was read has those bytes
abbrev pub Spells : (ℕ → List ℕ) → Logic → Next → (List ℕ → List ℕ) → Type 0
Spells text logic (on l) f = (rest : List ℕ) → begun_before text logic l rest ≡ f rest
Spells text logic (whole s) f = (rest : List ℕ) → line_before text logic s rest ≡ f rest
Spells text logic last f = (rest : List ℕ) → end_text ++ rest ≡ f rest
Spells text logic wrong f = Unit {0}

-- what was read is plain, and what was begun may become whole
abbrev pub IsLive : (ℕ → List ℕ) → (List ℕ → ℕ) → Logic → Line → Type 0
IsLive text number logic (in_word w) = plain.begins_some word_text w (words logic) ≡ true
IsLive text number logic (at_place p) = IsOneOf (word.Placed p) (words logic)
IsLive text number logic (in_place p k) = IsOneOf (word.Placed p) (words logic) × (k < 1000000000)
IsLive text number logic (in_plain w q) = IsOneOf (word.Written w) (words logic) × begun.IsLive text number logic (use_of w) q

abbrev pub IsLiveNext : (ℕ → List ℕ) → (List ℕ → ℕ) → Logic → Next → Type 0
IsLiveNext text number logic (on l) = IsLive text number logic l
IsLiveNext text number logic (whole s) = IsPlainStep text number logic s
IsLiveNext text number logic last = Unit {0}
IsLiveNext text number logic wrong = Unit {0}

digit-small : (b : ℕ) → is_digit b ≡ true → b - 48 < 1000000000
digit-small b h = let r = and_parts (nat_le 48 b) (nat_le b 57) h in grind (arith, nat_tests)

module _ (text : ℕ → List ℕ) (logic : Logic) where
  Spells-if : (c : Bool) (x y : Next) (f : List ℕ → List ℕ) → (c ≡ true → Spells text logic x f) → (c ≡ false → Spells text logic y f) → Spells text logic (if c then x else y) f
  Spells-if true x y f h k = h refl
  Spells-if false x y f h k = k refl

  pub Spells-same : (n : Next) (f g : List ℕ → List ℕ) → ((rest : List ℕ) → f rest ≡ g rest) → Spells text logic n f → Spells text logic n g
  Spells-same (on l) f g e h = λ rest. h rest ∙ e rest
  Spells-same (whole s) f g e h = λ rest. h rest ∙ e rest
  Spells-same last f g e h = λ rest. h rest ∙ e rest
  Spells-same wrong f g e h = tt

  Spells-in_line : (w : Written) (n : plain.Next) (f : List ℕ → List ℕ) → begun.Spells text logic n f → Spells text logic (in_line w n) (λ rest. written_text w ++ f rest)
  Spells-in_line w (plain.on q) f h = λ rest. ap (λ v. written_text w ++ v) (h rest)
  Spells-in_line written.Exists (plain.whole_term t) f h = λ rest. ap (λ v. written_text written.Exists ++ v) (h rest)
  Spells-in_line written.FocLEvery (plain.whole_term t) f h = λ rest. ap (λ v. written_text written.FocLEvery ++ v) (h rest)
  Spells-in_line written.FocRExists (plain.whole_term t) f h = λ rest. ap (λ v. written_text written.FocRExists ++ v) (h rest)
  Spells-in_line written.Cut (plain.whole_term t) f h = tt
  Spells-in_line written.Exists (plain.whole_formula g) f h = tt
  Spells-in_line written.FocLEvery (plain.whole_formula g) f h = tt
  Spells-in_line written.FocRExists (plain.whole_formula g) f h = tt
  Spells-in_line written.Cut (plain.whole_formula g) f h = λ rest. ap (λ v. written_text written.Cut ++ v) (h rest)
  Spells-in_line w plain.wrong f h = tt

  Spells-start : (w : Written) → Spells text logic (in_line w (plain.start (use_of w))) (λ rest. written_text w ++ rest)
  Spells-start written.Exists = λ rest. refl
  Spells-start written.FocLEvery = λ rest. refl
  Spells-start written.FocRExists = λ rest. refl
  Spells-start written.Cut = λ rest. refl

  Spells-behind_word : (x : Word) → Spells text logic (behind_word x) (λ rest. word_text x ++ rest)
  Spells-behind_word (word.Bare b) = bare_line text logic b
  Spells-behind_word (word.Placed p) = λ rest. refl
  Spells-behind_word (word.Written w) = Spells-start w
  Spells-behind_word word.End = λ rest. refl

  Spells-next_word : (w : List ℕ) (b : ℕ) (o : Option Word) → plain.first_with word_text (w ++ b ∷ []) (words logic) ≡ o → Spells text logic (next_word logic (w ++ b ∷ []) o) (λ rest. w ++ b ∷ rest)
  Spells-next_word w b (Some x) e =
      let found = first_with-some word_text (w ++ b ∷ []) (λ x. IsOneOf x (words logic)) (words logic) (all_words logic) x e in
      Spells-same (behind_word x) _ _ (λ rest. ap (λ v. v ++ rest) found.1 ∙ append_assoc w (b ∷ []) rest) (Spells-behind_word x)
  Spells-next_word w b None e = Spells-if (plain.begins_some word_text (w ++ b ∷ []) (words logic)) _ _ _ (λ _ rest. append_assoc w (b ∷ []) rest) (λ _. tt)

  module _ (number : List ℕ → ℕ) (back : GivesBack text number) where
    -- a byte that may come is kept
    pub Spells-next : (l : Line) (b : ℕ) → IsLive text number logic l → Spells text logic (next number logic l b) (λ rest. begun_before text logic l (b ∷ rest))
    Spells-next (in_word w) b h = Spells-next_word w b (plain.first_with word_text (w ++ b ∷ []) (words logic)) refl
    Spells-next (at_place p) b h = Spells-if (is_digit b) _ _ _ (λ d rest. ap (λ v. placed_text p ++ v) (decimal-one b rest d)) (λ _. tt)
    Spells-next (in_place p k) b h =
        Spells-if (plain.can_grow k b) _ _ _ (λ g rest. ap (λ v. placed_text p ++ v) (decimal-grown k b rest g))
        (λ _. Spells-if (nat_eq b 10) _ _ _ (λ e rest. placed_line text logic p k rest ∙ ap (λ c. placed_text p ++ (decimal k ++ c ∷ rest)) (same_number 10 b e)) (λ _. tt))
    Spells-next (in_plain w q) b h = Spells-in_line w (plain.next number logic q b) _ (kept.Spells-next text number back logic (use_of w) q b h.1)

module _ (text : ℕ → List ℕ) (number : List ℕ → ℕ) (logic : Logic) where
  live-if : (c : Bool) (x y : Next) → (c ≡ true → IsLiveNext text number logic x) → (c ≡ false → IsLiveNext text number logic y) → IsLiveNext text number logic (if c then x else y)
  live-if true x y h k = h refl
  live-if false x y h k = k refl

  live-in_line : (w : Written) (n : plain.Next) → IsOneOf (word.Written w) (words logic) → begun.IsLiveNext text number logic (use_of w) n → IsLiveNext text number logic (in_line w n)
  live-in_line w (plain.on q) h k = (h, k)
  live-in_line written.Exists (plain.whole_term t) h k = (h, k.1)
  live-in_line written.FocLEvery (plain.whole_term t) h k = (h, k.1)
  live-in_line written.FocRExists (plain.whole_term t) h k = (h, k.1)
  live-in_line written.Cut (plain.whole_term t) h k = tt
  live-in_line written.Exists (plain.whole_formula g) h k = tt
  live-in_line written.FocLEvery (plain.whole_formula g) h k = tt
  live-in_line written.FocRExists (plain.whole_formula g) h k = tt
  live-in_line written.Cut (plain.whole_formula g) h k = (h, k.1)
  live-in_line w plain.wrong h k = tt

  live-start : (w : Written) → begun.IsLiveNext text number logic (use_of w) (plain.start (use_of w))
  live-start written.Exists = refl
  live-start written.FocLEvery = refl
  live-start written.FocRExists = refl
  live-start written.Cut = refl

  pub live-behind_word : (x : Word) → IsOneOf x (words logic) → IsLiveNext text number logic (behind_word x)
  live-behind_word (word.Bare b) h = bare_plain text logic number b h
  live-behind_word (word.Placed p) h = h
  live-behind_word (word.Written w) h = live-in_line w (plain.start (use_of w)) h (live-start w)
  live-behind_word word.End h = tt

  live-next_word : (w : List ℕ) (o : Option Word) → plain.first_with word_text w (words logic) ≡ o → IsLiveNext text number logic (next_word logic w o)
  live-next_word w (Some x) e = live-behind_word x (first_with-some word_text w (λ x. IsOneOf x (words logic)) (words logic) (all_words logic) x e).0
  live-next_word w None e = live-if (plain.begins_some word_text w (words logic)) _ _ (λ h. h) (λ _. tt)

  placed_plain : (p : Placed) (k : ℕ) → IsOneOf (word.Placed p) (words logic) → k < 1000000000 → IsPlainStep text number logic (placed_step p k)
  placed_plain placed.Decide k h l = (h, l)
  placed_plain placed.Init k h l = (h, l)
  placed_plain placed.DecideL k h l = (h, l)
  placed_plain placed.FocRInit k h l = (h, l)

  -- steps that the line begun, with more bytes, and the lines behind it are the text of
  pub record Completes (f : List ℕ → List ℕ) : Type 0 where
    pub more : List ℕ
    pub steps : List Step
    pub plain : ArePlainSteps text number logic steps
    pub whole : lines_before text logic steps end_text ≡ f more

  one_line : (f : List ℕ → List ℕ) (more : List ℕ) (s : Step) → IsPlainStep text number logic s → line_before text logic s end_text ≡ f more → Completes f
  one_line f more s h e = record { more = more; steps = s ∷ []; plain = (h, tt); whole = e }

  completes-on : (f : List ℕ → List ℕ) (front : List ℕ) → Completes (λ more. f (front ++ more)) → Completes f
  completes-on f front c = record { more = front ++ c.more; steps = c.steps; plain = c.plain; whole = c.whole }

  module _ (back : GivesBack text number) where
    -- what was read stays plain, and what was begun may become whole
    pub live-next : (l : Line) (b : ℕ) → IsLive text number logic l → IsLiveNext text number logic (next number logic l b)
    live-next (in_word w) b h = live-next_word (w ++ b ∷ []) (plain.first_with word_text (w ++ b ∷ []) (words logic)) refl
    live-next (at_place p) b h = live-if (is_digit b) _ _ (λ d. (h, digit-small b d)) (λ _. tt)
    live-next (in_place p k) b h = live-if (plain.can_grow k b) _ _ (λ g. (h.0, grown-small k b g)) (λ _. live-if (nat_eq b 10) _ _ (λ _. placed_plain p k h.0 h.1) (λ _. tt))
    live-next (in_plain w q) b h = live-in_line w (plain.next number logic q b) h.0 (live.IsLiveNext-next text number (use_of w) back logic q b h.1)

    complete-line : (w : Written) (q : plain.Reading) (more : List ℕ) → IsOneOf (word.Written w) (words logic) → IsLine text number logic (use_of w) (begun.begun_before text logic q more) → Completes (begun_before text logic (in_plain w q))
    complete-line written.Exists q more h k = one_line _ (more ++ end_text) (step.Exists k.0) (h, k.1) (ap (λ v. written_text written.Exists ++ v) (plain_term-append text end_text k.0 (10 ∷ []) ∙ ap (λ v. v ++ end_text) k.2 ∙ sym (begun_before-append text end_text logic q more)))
    complete-line written.FocLEvery q more h k = one_line _ (more ++ end_text) (step.FocLEvery k.0) (h, k.1) (ap (λ v. written_text written.FocLEvery ++ v) (plain_term-append text end_text k.0 (10 ∷ []) ∙ ap (λ v. v ++ end_text) k.2 ∙ sym (begun_before-append text end_text logic q more)))
    complete-line written.FocRExists q more h k = one_line _ (more ++ end_text) (step.FocRExists k.0) (h, k.1) (ap (λ v. written_text written.FocRExists ++ v) (plain_term-append text end_text k.0 (10 ∷ []) ∙ ap (λ v. v ++ end_text) k.2 ∙ sym (begun_before-append text end_text logic q more)))
    complete-line written.Cut q more h k = one_line _ (more ++ end_text) (step.Cut k.0) (h, k.1) (ap (λ v. written_text written.Cut ++ v) (plain_formula-append text end_text logic 0 k.0 (10 ∷ []) ∙ ap (λ v. v ++ end_text) k.2 ∙ sym (begun_before-append text end_text logic q more)))

    complete-in_plain : (w : Written) (q : plain.Reading) → IsLive text number logic (in_plain w q) → Completes (begun_before text logic (in_plain w q))
    complete-in_plain w q h = let c = complete-begun text number (use_of w) back logic q h.1 in complete-line w q c.0 h.0 c.1

    complete-placed : (p : Placed) (k : ℕ) → IsLive text number logic (in_place p k) → Completes (begun_before text logic (in_place p k))
    complete-placed p k h = one_line _ (10 ∷ end_text) (placed_step p k) (placed_plain p k h.0 h.1) (placed_line text logic p k end_text)

    complete-start : (w : Written) → IsOneOf (word.Written w) (words logic) → Completes (λ more. written_text w ++ more)
    complete-start written.Exists h = complete-in_plain written.Exists (plain.at_term plain.alone) (h, refl)
    complete-start written.FocLEvery h = complete-in_plain written.FocLEvery (plain.at_term plain.alone) (h, refl)
    complete-start written.FocRExists h = complete-in_plain written.FocRExists (plain.at_term plain.alone) (h, refl)
    complete-start written.Cut h = complete-in_plain written.Cut (plain.at_formula []) (h, refl)

    complete-word : (x : Word) → IsOneOf x (words logic) → Completes (λ more. word_text x ++ more)
    complete-word (word.Bare b) h = one_line _ end_text (bare_step b) (bare_plain text logic number b h) (bare_line text logic b end_text)
    complete-word (word.Placed p) h = completes-on (begun_before text logic (at_place p)) (decimal 0) (complete-placed p 0 (h, omega arith))
    complete-word (word.Written w) h = complete-start w h
    complete-word word.End h = record { more = []; steps = []; plain = tt; whole = refl }

    pub complete : (l : Line) → IsLive text number logic l → Completes (begun_before text logic l)
    complete (in_word w) h =
        let next = begins_some-continues word_text w (λ x. IsOneOf x (words logic)) (words logic) (all_words logic) h in
        let c = complete-word next.word next.fits in
        record { more = next.more ++ c.more; steps = c.steps; plain = c.plain; whole = c.whole ∙ ap (λ v. v ++ c.more) next.same ∙ append_assoc w next.more c.more }
    complete (at_place p) h = completes-on (begun_before text logic (at_place p)) (decimal 0) (complete-placed p 0 (h, omega arith))
    complete (in_place p k) h = complete-placed p k h
    complete (in_plain w q) h = complete-in_plain w q h
