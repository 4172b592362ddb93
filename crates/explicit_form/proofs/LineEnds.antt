-- The end of a line stands nowhere inside one, and the steps that are read are those whose lines have ended.
use Rattle.std.proofs.Common.{◌≡◌, ℕ, Bool, true, false, if◌then◌else◌, ◌&&◌, ◌||◌, ◌⊎◌, inl, inr, codes, not, List, [], ◌∷◌, ◌++◌, Option, Some, None, refl, sym, ap, ◌∙◌, subst, arith, nat_eq, nat_lt, nat_le, append_assoc, append-nil}
use Rattle.std.specs.List.{list_all, starts_with}
use Rattle.std.specs.Str.{bytes_eq}
use Rattle.std.proofs.lemmas.Bool.{and_parts, and_from, not-true, both_ways}
use Rattle.std.proofs.lemmas.Bool.Decides.{nat_tests}
use Rattle.std.proofs.lemmas.List.{same_from_push}
use Rattle.std.proofs.lemmas.Slice.Eq.{bytes_eq-Decides}
use Rattle.fpc_base.specs.Tokens.{is_digit, is_in_line}
use Rattle.polarised_formulas.specs.declared.logic.Logic.{Logic}
use Rattle.polarised_formulas.specs.declared.logic.Logic.TheVariants.{Lkf, Ljf}
use Rattle.polarised_formulas.specs.declared.step.Step.{Step}
use Rattle.polarised_formulas.specs.PlainReading as plain
use Rattle.polarised_formulas.specs.PlainForm.{GivesBack}
use Rattle.polarised_formulas.specs.PlainTexts as texts
use Rattle.polarised_formulas.proofs.Lookups.{EachOf, first_with-some, begins_some-continues}
use Rattle.polarised_formulas.proofs.Kept.{same_number}
use Rattle.polarised_formulas.proofs.LineEnds as plain_ends
use Rattle.explicit_form.specs.declared.word.Placed.TheVariants as placed
use Rattle.explicit_form.specs.declared.word.Written.{Written}
use Rattle.explicit_form.specs.declared.word.Written.TheVariants as written
use Rattle.explicit_form.specs.declared.word.Word.{Word}
use Rattle.explicit_form.specs.declared.word.Word.TheVariants as word
use Rattle.explicit_form.specs.StepText.{bare_text, word_text, words, header_word, header_text, IsOneOf}
use Rattle.explicit_form.specs.StepReading.{Line, in_word, at_place, in_place, in_plain, Next, on, whole, last, wrong, in_line, behind_word, next_word, next, State, heading, reading, ended, mistaken, stuck, start, other, next_heading, settle, go, run}
use Rattle.explicit_form.specs.StepLaws.{EndsAt, LineEnds, LinesAreRead}
use Rattle.explicit_form.proofs.WordFacts.{all_words, IsOneOf-each}
use Rattle.explicit_form.proofs.Lines.{begun_before, Spells, Spells-next}
use Rattle.explicit_form.proofs.Certificates.{LiveState, Holds, Holds-go, Holds-start, done_before, lines-onto, plain-onto}

ends-if : (b : ℕ) (c : Bool) (x y : Next) → (c ≡ true → EndsAt b x) → (c ≡ false → EndsAt b y) → EndsAt b (if c then x else y)
ends-if b true x y h k = h refl
ends-if b false x y h k = k refl

digit_byte : (b : ℕ) → is_digit b ≡ true → nat_eq b 10 ≡ false
digit_byte b h = let p = and_parts (nat_le 48 b) (nat_le b 57) h in grind (arith, nat_tests)

-- the byte 10 stands only last, if anywhere
abbrev ends_only : List ℕ → Bool
ends_only [] = true
ends_only (b ∷ []) = true
ends_only (b ∷ c ∷ bs) = is_in_line b && ends_only (c ∷ bs)

inner_byte : (w : List ℕ) (b c : ℕ) (more : List ℕ) → ends_only (w ++ b ∷ c ∷ more) ≡ true → nat_eq b 10 ≡ false
inner_byte [] b c more h = not-true (nat_eq b 10) (and_parts (is_in_line b) (ends_only (c ∷ more)) h).0
inner_byte (d ∷ []) b c more h = inner_byte [] b c more (and_parts (is_in_line d) (ends_only (b ∷ c ∷ more)) h).1
inner_byte (d ∷ e ∷ w) b c more h = inner_byte (e ∷ w) b c more (and_parts (is_in_line d) (ends_only (e ∷ (w ++ b ∷ c ∷ more))) h).1

last_byte : (front w : List ℕ) (k b : ℕ) → front ++ k ∷ [] ≡ w ++ b ∷ [] → k ≡ b
last_byte front w k b e = (same_from_push front w k b e).1

blank_last : (front w : List ℕ) (b : ℕ) → front ++ 32 ∷ [] ≡ w ++ b ∷ [] → nat_eq b 10 ≡ false
blank_last front w b e = ap (λ c. nat_eq c 10) (sym (last_byte front w 32 b e))

ends_only-each : (logic : Logic) → EachOf (λ x. ends_only (word_text x) ≡ true) (words logic)
ends_only-each Lkf = (refl, (refl, (refl, (refl, (refl, (refl, (refl, (refl, (refl, (refl, (refl, (refl, (refl, (refl, (refl, (refl, tt))))))))))))))))
ends_only-each Ljf = (refl, (refl, (refl, (refl, (refl, (refl, (refl, (refl, (refl, (refl, (refl, (refl, (refl, (refl, (refl, (refl, (refl, (refl, (refl, (refl, (refl, (refl, (refl, (refl, (refl, (refl, (refl, (refl, tt))))))))))))))))))))))))))))

word_ends : (x : Word) (w : List ℕ) (b : ℕ) → word_text x ≡ w ++ b ∷ [] → EndsAt b (behind_word x)
word_ends (word.Bare c) w b e = sym (last_byte (bare_text c) w 10 b e)
word_ends (word.Placed placed.Decide) w b e = blank_last (codes "decide") w b e
word_ends (word.Placed placed.Init) w b e = blank_last (codes "init") w b e
word_ends (word.Placed placed.DecideL) w b e = blank_last (codes "decide-l") w b e
word_ends (word.Placed placed.FocRInit) w b e = blank_last (codes "rf-init") w b e
word_ends (word.Written written.Exists) w b e = blank_last (codes "some") w b e
word_ends (word.Written written.FocLEvery) w b e = blank_last (codes "lf-all") w b e
word_ends (word.Written written.FocRExists) w b e = blank_last (codes "rf-some") w b e
word_ends (word.Written written.Cut) w b e = blank_last (codes "cut") w b e
word_ends word.End w b e = sym (last_byte (codes "end") w 10 b e)

-- a word is found in a list that has it
own_word : (xs : List Word) (x : Word) → IsOneOf x xs → plain.first_with word_text (word_text x) xs ≡ None → ⊥
own_word [] x h e = h
own_word (y ∷ ys) x h e = by (bytes_eq (word_text y) (word_text x)) refl e (own_word ys x)
  where
    by : (c : Bool) → bytes_eq (word_text y) (word_text x) ≡ c → (if c then Some y else plain.first_with word_text (word_text x) ys) ≡ None → (IsOneOf x ys → plain.first_with word_text (word_text x) ys ≡ None → ⊥) → ⊥
    by true t n rec = cc
    by false t n rec = later h
      where
        later : (x ≡ y) ⊎ IsOneOf x ys → ⊥
        later (inl s) = both_ways (bytes_eq (word_text y) (word_text x)) t ((bytes_eq-Decides (word_text y) (word_text x)).1 (ap word_text (sym s)))
        later (inr i) = rec i n

module _ (logic : Logic) where
  ends-next_word : (w : List ℕ) (b : ℕ) (o : Option Word) → plain.first_with word_text (w ++ b ∷ []) (words logic) ≡ o → EndsAt b (next_word logic (w ++ b ∷ []) o)
  ends-next_word w b (Some x) e = word_ends x w b (first_with-some word_text (w ++ b ∷ []) (λ x. IsOneOf x (words logic)) (words logic) (all_words logic) x e).1
  ends-next_word w b None e = ends-if b (plain.begins_some word_text (w ++ b ∷ []) (words logic)) _ _ begun (λ _. tt)
    where
      begun : plain.begins_some word_text (w ++ b ∷ []) (words logic) ≡ true → nat_eq b 10 ≡ false
      begun h =
          let c = begins_some-continues word_text (w ++ b ∷ []) (λ x. IsOneOf x (words logic)) (words logic) (all_words logic) h in
          by c.word c.fits c.more c.same
        where
          by : (x : Word) → IsOneOf x (words logic) → (more : List ℕ) → word_text x ≡ (w ++ b ∷ []) ++ more → nat_eq b 10 ≡ false
          by x i [] s = absurd (own_word (words logic) x i (ap (λ v. plain.first_with word_text v (words logic)) (s ∙ append-nil (w ++ b ∷ [])) ∙ e))
          by x i (c ∷ more) s = inner_byte w b c more (ap ends_only (sym (s ∙ append_assoc w (b ∷ []) (c ∷ more))) ∙ IsOneOf-each (λ x. ends_only (word_text x) ≡ true) (words logic) (ends_only-each logic) x i)

ends-in_line : (w : Written) (b : ℕ) (n : plain.Next) → texts.EndsAt b n → EndsAt b (in_line w n)
ends-in_line w b (plain.on q) h = h
ends-in_line written.Exists b (plain.whole_term t) h = h
ends-in_line written.FocLEvery b (plain.whole_term t) h = h
ends-in_line written.FocRExists b (plain.whole_term t) h = h
ends-in_line written.Cut b (plain.whole_term t) h = tt
ends-in_line written.Exists b (plain.whole_formula f) h = tt
ends-in_line written.FocLEvery b (plain.whole_formula f) h = tt
ends-in_line written.FocRExists b (plain.whole_formula f) h = tt
ends-in_line written.Cut b (plain.whole_formula f) h = h
ends-in_line w b plain.wrong h = tt

pub line_ends : LineEnds
line_ends number logic (in_word w) b = ends-next_word logic w b (plain.first_with word_text (w ++ b ∷ []) (words logic)) refl
line_ends number logic (at_place p) b = ends-if b (is_digit b) _ _ (digit_byte b) (λ _. tt)
line_ends number logic (in_place p k) b =
    ends-if b (plain.can_grow k b) _ _ (λ h. digit_byte b (and_parts (is_digit b) (nat_lt 0 k && nat_lt k 100000000) h).0) (λ _. ends-if b (nat_eq b 10) _ _ (λ e. sym (same_number 10 b e)) (λ _. tt))
line_ends number logic (in_plain w q) b = ends-in_line w b (plain.next number logic q b) (plain_ends.line_ends number logic q b)

list_all-snoc : (w : List ℕ) (b : ℕ) → list_all is_in_line w ≡ true → is_in_line b ≡ true → list_all is_in_line (w ++ b ∷ []) ≡ true
list_all-snoc [] b all h = and_from (is_in_line b) true h refl
list_all-snoc (c ∷ w) b all h = let p = and_parts (is_in_line c) (list_all is_in_line w) all in and_from (is_in_line c) (list_all is_in_line (w ++ b ∷ [])) p.0 (list_all-snoc w b p.1 h)

-- the line that was begun has no end
abbrev IsOpen : (ℕ → List ℕ) → Logic → State → Type 0
IsOpen text logic (heading w) = Unit {0}
IsOpen text logic (reading done l) = (line : List ℕ) × (list_all is_in_line line ≡ true) × ((rest : List ℕ) → begun_before text logic l rest ≡ line ++ rest)
IsOpen text logic (ended done) = Unit {0}
IsOpen text logic mistaken = Unit {0}
IsOpen text logic stuck = Unit {0}

module _ (text : ℕ → List ℕ) (number : List ℕ → ℕ) (back : GivesBack text number) (logic : Logic) where
  open-if : (c : Bool) (x y : State) → IsOpen text logic x → IsOpen text logic y → IsOpen text logic (if c then x else y)
  open-if true x y h k = h
  open-if false x y h k = k

  open-heading : (w : List ℕ) → IsOpen text logic (next_heading logic w)
  open-heading w = open-if (bytes_eq w (header_text logic)) _ _ ([], refl, λ rest. refl) (open-if (bytes_eq w (header_word (other logic))) _ _ tt (open-if (starts_with nat_eq (header_text logic) w || starts_with nat_eq (header_word (other logic)) w) (heading w) stuck tt tt))

  open-settle : (done : List Step) (l : Line) (b : ℕ) (n : Next) → IsOpen text logic (reading done l) → EndsAt b n → Spells text logic n (λ rest. begun_before text logic l (b ∷ rest)) → IsOpen text logic (settle done n)
  open-settle done l b (on m) h e s = (h.0 ++ b ∷ [], list_all-snoc h.0 b h.1 (ap not e), λ rest. s rest ∙ h.2 (b ∷ rest) ∙ sym (append_assoc h.0 (b ∷ []) rest))
  open-settle done l b (whole x) h e s = ([], refl, λ rest. refl)
  open-settle done l b last h e s = tt
  open-settle done l b wrong h e s = tt

  open-go : (st : State) (b : ℕ) → LiveState text number logic st → IsOpen text logic st → IsOpen text logic (go number logic st b)
  open-go (heading w) b live h = open-heading (w ++ b ∷ [])
  open-go (reading done l) b live h = open-settle done l b (next number logic l b) h (line_ends number logic l b) (Spells-next text logic number back l b live.1)
  open-go (ended done) b live h = tt
  open-go mistaken b live h = tt
  open-go stuck b live h = tt

  open-run : (bs : List ℕ) (st : State) (f : List ℕ → List ℕ) → Holds text number back logic st f → IsOpen text logic st → IsOpen text logic (run number logic st bs) × Holds text number back logic (run number logic st bs) (λ rest. f (bs ++ rest))
  open-run [] st f holds h = (h, holds)
  open-run (b ∷ bs) st f holds h = open-run bs (go number logic st b) (λ rest. f (b ∷ rest)) (Holds-go text number back logic st b f holds) (open-go st b holds.alive h)

pub lines_are_read : LinesAreRead
lines_are_read text number back logic bytes done l e =
    let both = open-run text number back logic bytes start (λ rest. rest) (Holds-start text number back logic) tt in
    let h = subst (IsOpen text logic) e both.0 in
    let holds = subst (λ st. Holds text number back logic st (λ rest. bytes ++ rest)) e both.1 in
    record {
      plain = plain-onto text number logic done [] holds.alive.0 tt;
      line = h.0;
      parts = ap (λ v. header_text logic ++ v) (lines-onto text logic done [] h.0 ∙ ap (done_before text logic done) (sym (h.2 [] ∙ append-nil h.0))) ∙ holds.spells [] ∙ append-nil bytes;
      open_line = h.1;
    }
