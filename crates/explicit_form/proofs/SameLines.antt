-- Readings of certificates of LKF that are the same but for the numbers of names.
use Rattle.std.proofs.Common.{◌≡◌, ℕ, ◌-◌, if◌then◌else◌, ◌||◌, nat_eq, nat_le, List, [], ◌∷◌, ◌++◌, Option, Some, None, refl, ap}
use Rattle.std.specs.List.{starts_with}
use Rattle.std.specs.Str.{bytes_eq}
use Rattle.fpc_base.specs.Tokens.{is_digit}
use Rattle.fpc_base.specs.declared.refusal.Code.TheVariants.{TooLarge}
use Rattle.fpc_terms.specs.Term.{Term}
use Rattle.polarised_formulas.specs.declared.logic.Logic.TheVariants.{Lkf}
use Rattle.polarised_formulas.specs.declared.step.Step.{Step}
use Rattle.polarised_formulas.specs.Formula.{Formula}
use Rattle.polarised_formulas.specs.PlainReading as plain
use Rattle.explicit_form.specs.declared.word.Bare.{Bare}
use Rattle.explicit_form.specs.declared.word.Bare.TheVariants as bare
use Rattle.explicit_form.specs.declared.word.Placed.{Placed}
use Rattle.explicit_form.specs.declared.word.Placed.TheVariants as placed
use Rattle.explicit_form.specs.declared.word.Written.{Written}
use Rattle.explicit_form.specs.declared.word.Written.TheVariants as written
use Rattle.explicit_form.specs.declared.word.Word.{Word}
use Rattle.explicit_form.specs.declared.word.Word.TheVariants as word
use Rattle.explicit_form.specs.StepText.{word_text, words, header_word, header_text}
use Rattle.explicit_form.specs.StepReading.{bare_step, placed_step, use_of, Line, in_word, at_place, in_place, in_plain, Next, on, whole, last, wrong, with_term, with_formula, in_line, behind_word, next_word, next, State, heading, reading, ended, mistaken, stuck, other, next_heading, settle, go}
use Rattle.explicit_form.specs.StepLimits.{most_bytes, line_limit, limit_behind, state_limit, told_at, byte_fault, fault}
use Rattle.explicit_form.specs.Feeding.{step_of, step_with, is_whole}
use Rattle.fpc_terms.specs.Same.{SameTerm, SameList, same_nil, same_cons, SameOption, same_none, same_some}
use Rattle.fpc_terms.proofs.SameTerms.{if-same}
use Rattle.polarised_formulas.specs.Same.{SameFormula}
use Rattle.polarised_formulas.proofs.SameFormulas.{SameName}
use Rattle.polarised_formulas.proofs.SameReadings as plain_same
use Rattle.polarised_formulas.specs.Same.{IsNameless, SameStep, same_exists_step, same_left_every, same_right_exists, same_cut, same_nameless}

-- the two lines are the same but for the numbers of names
pub data SameLine (S : ℕ → ℕ → Type 0) : Line → Line → Type 0 where
  same_in_word : (w : List ℕ) → SameLine S (in_word w) (in_word w)
  same_at_place : (p : Placed) → SameLine S (at_place p) (at_place p)
  same_in_place : (p : Placed) (k : ℕ) → SameLine S (in_place p k) (in_place p k)
  same_in_plain : (w : Written) → {q r : plain.Reading} → plain_same.SameReading S q r → SameLine S (in_plain w q) (in_plain w r)

-- so is what a byte does
pub data SameNext (S : ℕ → ℕ → Type 0) : Next → Next → Type 0 where
  same_on : {l m : Line} → SameLine S l m → SameNext S (on l) (on m)
  same_whole : {s t : Step} → SameStep S s t → SameNext S (whole s) (whole t)
  same_last : SameNext S last last
  same_wrong : SameNext S wrong wrong

-- the two states are the same but for the numbers of names
pub data SameState (S : ℕ → ℕ → Type 0) : State → State → Type 0 where
  same_heading : (w : List ℕ) → SameState S (heading w) (heading w)
  same_reading : {ss ts : List Step} {l m : Line} → SameList (SameStep S) ss ts → SameLine S l m → SameState S (reading ss l) (reading ts m)
  same_ended : {ss ts : List Step} → SameList (SameStep S) ss ts → SameState S (ended ss) (ended ts)
  same_mistaken : SameState S mistaken mistaken
  same_stuck : SameState S stuck stuck

IsNameless-bare : (b : Bare) → IsNameless (bare_step b)
IsNameless-bare bare.TrueN = tt
IsNameless-bare bare.FalseN = tt
IsNameless-bare bare.OrN = tt
IsNameless-bare bare.AndN = tt
IsNameless-bare bare.Every = tt
IsNameless-bare bare.Store = tt
IsNameless-bare bare.TrueP = tt
IsNameless-bare bare.AndP = tt
IsNameless-bare (bare.OrP side) = tt
IsNameless-bare bare.Release = tt
IsNameless-bare bare.LTrue = tt
IsNameless-bare bare.LFalse = tt
IsNameless-bare bare.LAnd = tt
IsNameless-bare bare.LOr = tt
IsNameless-bare bare.LExists = tt
IsNameless-bare bare.LStore = tt
IsNameless-bare bare.RTrue = tt
IsNameless-bare bare.RAnd = tt
IsNameless-bare bare.RImp = tt
IsNameless-bare bare.REvery = tt
IsNameless-bare bare.RStore = tt
IsNameless-bare bare.DecideR = tt
IsNameless-bare (bare.FocLAnd side) = tt
IsNameless-bare bare.FocLImp = tt
IsNameless-bare bare.FocLInit = tt
IsNameless-bare bare.FocLRelease = tt
IsNameless-bare bare.FocRTrue = tt
IsNameless-bare bare.FocRAnd = tt
IsNameless-bare (bare.FocROr side) = tt
IsNameless-bare bare.FocRRelease = tt

IsNameless-placed : (p : Placed) (k : ℕ) → IsNameless (placed_step p k)
IsNameless-placed placed.Decide k = tt
IsNameless-placed placed.Init k = tt
IsNameless-placed placed.DecideL k = tt
IsNameless-placed placed.FocRInit k = tt

module _ (S : ℕ → ℕ → Type 0) where
  with_term-same : (w : Written) {t u : Term} → SameTerm S t u → SameNext S (with_term w t) (with_term w u)
  with_term-same written.Exists h = same_whole (same_exists_step h)
  with_term-same written.FocLEvery h = same_whole (same_left_every h)
  with_term-same written.FocRExists h = same_whole (same_right_exists h)
  with_term-same written.Cut h = same_wrong

  with_formula-same : (w : Written) {f g : Formula} → SameFormula S f g → SameNext S (with_formula w f) (with_formula w g)
  with_formula-same written.Exists h = same_wrong
  with_formula-same written.FocLEvery h = same_wrong
  with_formula-same written.FocRExists h = same_wrong
  with_formula-same written.Cut h = same_whole (same_cut h)

  in_line-same : (w : Written) {n m : plain.Next} → plain_same.SameNext S n m → SameNext S (in_line w n) (in_line w m)
  in_line-same w (plain_same.same_on h) = same_on (same_in_plain w h)
  in_line-same w (plain_same.same_whole_term h) = with_term-same w h
  in_line-same w (plain_same.same_whole_formula h) = with_formula-same w h
  in_line-same w plain_same.same_wrong = same_wrong

  behind_word-same : (x : Word) → SameNext S (behind_word x) (behind_word x)
  behind_word-same (word.Bare b) = same_whole (same_nameless (bare_step b) (IsNameless-bare b))
  behind_word-same (word.Placed p) = same_on (same_at_place p)
  behind_word-same (word.Written w) = in_line-same w (plain_same.start-same S (use_of w))
  behind_word-same word.End = same_last

  next_word-same : (w : List ℕ) (o : Option Word) → SameNext S (next_word Lkf w o) (next_word Lkf w o)
  next_word-same w (Some x) = behind_word-same x
  next_word-same w None = if-same (SameNext S) (plain.begins_some word_text w (words Lkf)) (λ _. same_on (same_in_word w)) (λ _. same_wrong)

  next_heading-same : (w : List ℕ) → SameState S (next_heading Lkf w) (next_heading Lkf w)
  next_heading-same w =
      if-same (SameState S) (bytes_eq w (header_text Lkf)) (λ _. same_reading same_nil (same_in_word []))
      (λ _. if-same (SameState S) (bytes_eq w (header_word (other Lkf))) (λ _. same_mistaken)
      (λ _. if-same (SameState S) (starts_with nat_eq (header_text Lkf) w || starts_with nat_eq (header_word (other Lkf)) w) (λ _. same_heading w) (λ _. same_stuck)))

  settle-same : {ss ts : List Step} {n m : Next} → SameList (SameStep S) ss ts → SameNext S n m → SameState S (settle ss n) (settle ts m)
  settle-same hs (same_on l) = same_reading hs l
  settle-same hs (same_whole s) = same_reading (same_cons s hs) (same_in_word [])
  settle-same hs same_last = same_ended hs
  settle-same hs same_wrong = same_stuck

  step_of-same : {n m : Next} → SameNext S n m → SameOption (SameStep S) (step_of n) (step_of m)
  step_of-same (same_on l) = same_none
  step_of-same (same_whole s) = same_some s
  step_of-same same_last = same_none
  step_of-same same_wrong = same_none

  pub is_whole-same : {st su : State} → SameState S st su → is_whole st ≡ is_whole su
  is_whole-same (same_heading w) = refl
  is_whole-same (same_reading hs l) = refl
  is_whole-same (same_ended hs) = refl
  is_whole-same same_mistaken = refl
  is_whole-same same_stuck = refl

  line_limit-same : {l m k n : Line} → SameLine S l m → SameLine S k n → line_limit l k ≡ line_limit m n
  line_limit-same (same_in_word w) k = refl
  line_limit-same (same_at_place p) k = refl
  line_limit-same (same_in_place p n) k = refl
  line_limit-same (same_in_plain w q) (same_in_word v) = refl
  line_limit-same (same_in_plain w q) (same_at_place p) = refl
  line_limit-same (same_in_plain w q) (same_in_place p k) = refl
  line_limit-same (same_in_plain w q) (same_in_plain v r) = plain_same.limit_of-same S q r

  limit_behind-same : {l m : Line} {st su : State} → SameLine S l m → SameState S st su → limit_behind l st ≡ limit_behind m su
  limit_behind-same l (same_heading w) = refl
  limit_behind-same l (same_reading hs m) = line_limit-same l m
  limit_behind-same l (same_ended hs) = refl
  limit_behind-same l same_mistaken = refl
  limit_behind-same l same_stuck = refl

  state_limit-same : {st su next more : State} → SameState S st su → SameState S next more → state_limit st next ≡ state_limit su more
  state_limit-same (same_heading w) n = refl
  state_limit-same (same_reading hs l) n = limit_behind-same l n
  state_limit-same (same_ended hs) n = refl
  state_limit-same same_mistaken n = refl
  state_limit-same same_stuck n = refl

  byte_fault-same : (place : ℕ) {st su next more : State} → SameState S st su → SameState S next more → byte_fault place st next ≡ byte_fault place su more
  byte_fault-same place s (same_heading w) = ap (told_at place) (state_limit-same s (same_heading w))
  byte_fault-same place s (same_reading hs l) = ap (told_at place) (state_limit-same s (same_reading hs l))
  byte_fault-same place s (same_ended hs) = ap (told_at place) (state_limit-same s (same_ended hs))
  byte_fault-same place s same_mistaken = refl
  byte_fault-same place s same_stuck = refl

  -- the same is told of a byte
  pub fault-same : (place : ℕ) {st su next more : State} → SameState S st su → SameState S next more → fault place st next ≡ fault place su more
  fault-same place s n = ap (λ o. if nat_le most_bytes place then Some (record { code = TooLarge; at = place }) else o) (byte_fault-same place s n)

module _ (number renumber : List ℕ → ℕ) where
  abbrev Lines : Next → Next → Type 0
  Lines n m = SameNext (SameName number renumber) n m

  next-same : {l m : Line} → SameLine (SameName number renumber) l m → (b : ℕ) → SameNext (SameName number renumber) (next number Lkf l b) (next renumber Lkf m b)
  next-same (same_in_word w) b = next_word-same (SameName number renumber) (w ++ b ∷ []) (plain.first_with word_text (w ++ b ∷ []) (words Lkf))
  next-same (same_at_place p) b = if-same Lines (is_digit b) (λ _. same_on (same_in_place p (b - 48))) (λ _. same_wrong)
  next-same (same_in_place p k) b =
      if-same Lines (plain.can_grow k b) (λ _. same_on (same_in_place p (plain.grown k b)))
      (λ _. if-same Lines (nat_eq b 10) (λ _. same_whole (same_nameless (placed_step p k) (IsNameless-placed p k))) (λ _. same_wrong))
  next-same (same_in_plain w q) b = in_line-same (SameName number renumber) w (plain_same.next-same number renumber q b)

  -- a byte leads to the same
  pub go-same : {st su : State} → SameState (SameName number renumber) st su → (b : ℕ) → SameState (SameName number renumber) (go number Lkf st b) (go renumber Lkf su b)
  go-same (same_heading w) b = next_heading-same (SameName number renumber) (w ++ b ∷ [])
  go-same (same_reading hs l) b = settle-same (SameName number renumber) hs (next-same l b)
  go-same (same_ended hs) b = same_stuck
  go-same same_mistaken b = same_mistaken
  go-same same_stuck b = same_stuck

  -- and ends the line of the same step
  pub step_with-same : {st su : State} → SameState (SameName number renumber) st su → (b : ℕ) → SameOption (SameStep (SameName number renumber)) (step_with number Lkf st b) (step_with renumber Lkf su b)
  step_with-same (same_heading w) b = same_none
  step_with-same (same_reading hs l) b = step_of-same (SameName number renumber) (next-same l b)
  step_with-same (same_ended hs) b = same_none
  step_with-same same_mistaken b = same_none
  step_with-same same_stuck b = same_none
