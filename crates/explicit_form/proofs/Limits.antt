-- The limits along the reading: where it keeps them, and where they must have been kept.
use Rattle.std.proofs.Common.{◌≡◌, ℕ, Bool, true, false, if◌then◌else◌, ◌||◌, List, [], ◌∷◌, ◌++◌, Option, Some, None, refl, ap, subst, nat_eq}
use Rattle.std.specs.List.{starts_with}
use Rattle.std.specs.Str.{bytes_eq}
use Rattle.fpc_base.specs.declared.refusal.Code.{Code}
use Rattle.fpc_base.specs.Tokens.{is_digit}
use Rattle.polarised_formulas.specs.declared.logic.Logic.{Logic}
use Rattle.polarised_formulas.specs.declared.step.Step.{Step}
use Rattle.polarised_formulas.specs.PlainReading as plain
use Rattle.polarised_formulas.specs.PlainForm.{GivesBack}
use Rattle.polarised_formulas.specs.PlainLimits.{nesting, limit_of}
use Rattle.polarised_formulas.proofs.Fitting as fitting
use Rattle.polarised_formulas.proofs.Keeping as keeping
use Rattle.explicit_form.specs.declared.word.Bare.{Bare}
use Rattle.explicit_form.specs.declared.word.Bare.TheVariants as bare
use Rattle.explicit_form.specs.declared.word.Placed.{Placed}
use Rattle.explicit_form.specs.declared.word.Placed.TheVariants as placed
use Rattle.explicit_form.specs.declared.word.Written.{Written}
use Rattle.explicit_form.specs.declared.word.Written.TheVariants as written
use Rattle.explicit_form.specs.declared.word.Word.{Word}
use Rattle.explicit_form.specs.declared.word.Word.TheVariants as word
use Rattle.explicit_form.specs.StepText.{word_text, words, header_word, header_text}
use Rattle.explicit_form.specs.StepReading.{bare_step, placed_step, use_of, Line, in_word, at_place, in_place, in_plain, Next, on, whole, last, wrong, in_line, behind_word, next_word, next, State, heading, reading, ended, mistaken, stuck, other, next_heading, settle, go}
use Rattle.explicit_form.specs.StepLimits.{line_limit, limit_behind, state_limit, told_at, byte_fault, FitsStep, FitSteps}
use Rattle.explicit_form.proofs.Lines.{IsLive}
use Rattle.explicit_form.proofs.Certificates.{LiveState}

none_told : (place : ℕ) (o : Option Code) → told_at place o ≡ None → o ≡ None
none_told place None e = refl
none_told place (Some code) e = cc

module _ (text : ℕ → List ℕ) where
  abbrev pub FitsLine : Line → Type 0
  FitsLine (in_word w) = Unit {0}
  FitsLine (at_place p) = Unit {0}
  FitsLine (in_place p k) = Unit {0}
  FitsLine (in_plain w q) = fitting.Fits text q

  abbrev pub FitsNext : Next → Type 0
  FitsNext (on l) = FitsLine l
  FitsNext (whole s) = FitsStep text s
  FitsNext last = Unit {0}
  FitsNext wrong = ⊥

  -- what was read keeps the limits, and nothing was told of it
  abbrev pub FitsState : State → Type 0
  FitsState (heading w) = Unit {0}
  FitsState (reading done l) = FitSteps text done × FitsLine l
  FitsState (ended done) = FitSteps text done
  FitsState mistaken = ⊥
  FitsState stuck = ⊥

  -- what fits behind a line where no limit is told
  abbrev Ahead : Line → Next → Type 0
  Ahead l (on m) = line_limit l m ≡ None → FitsLine m
  Ahead l (whole s) = FitsStep text s
  Ahead l last = Unit {0}
  Ahead l wrong = Unit {0}

  ahead-if : (l : Line) (c : Bool) (x y : Next) → Ahead l x → Ahead l y → Ahead l (if c then x else y)
  ahead-if l true x y h k = h
  ahead-if l false x y h k = k

  bare-fits : (b : Bare) → FitsStep text (bare_step b)
  bare-fits bare.TrueN = tt
  bare-fits _ = tt

  placed-fits : (p : Placed) (k : ℕ) → FitsStep text (placed_step p k)
  placed-fits placed.Decide k = tt
  placed-fits placed.Init k = tt
  placed-fits placed.DecideL k = tt
  placed-fits placed.FocRInit k = tt

  ahead-behind_word : (w : List ℕ) (x : Word) → Ahead (in_word w) (behind_word x)
  ahead-behind_word w (word.Bare b) = bare-fits b
  ahead-behind_word w (word.Placed p) = λ _. tt
  ahead-behind_word w (word.Written written.Exists) = λ _. tt
  ahead-behind_word w (word.Written written.FocLEvery) = λ _. tt
  ahead-behind_word w (word.Written written.FocRExists) = λ _. tt
  ahead-behind_word w (word.Written written.Cut) = λ _. tt
  ahead-behind_word w word.End = tt

  ahead-next_word : (logic : Logic) (w v : List ℕ) (o : Option Word) → Ahead (in_word w) (next_word logic v o)
  ahead-next_word logic w v (Some x) = ahead-behind_word w x
  ahead-next_word logic w v None = ahead-if (in_word w) (plain.begins_some word_text v (words logic)) (on (in_word v)) wrong (λ _. tt) tt

  ahead-in_line : (w : Written) (q : plain.Reading) (n : plain.Next) → keeping.Ahead text (nesting q) n → Ahead (in_plain w q) (in_line w n)
  ahead-in_line w q (plain.on r) h = λ e. let l = fitting.limit-within q r e in h l.shallow l.short l.few
  ahead-in_line written.Exists q (plain.whole_term t) h = h
  ahead-in_line written.FocLEvery q (plain.whole_term t) h = h
  ahead-in_line written.FocRExists q (plain.whole_term t) h = h
  ahead-in_line written.Cut q (plain.whole_term t) h = tt
  ahead-in_line written.Exists q (plain.whole_formula f) h = tt
  ahead-in_line written.FocLEvery q (plain.whole_formula f) h = tt
  ahead-in_line written.FocRExists q (plain.whole_formula f) h = tt
  ahead-in_line written.Cut q (plain.whole_formula f) h = h
  ahead-in_line w q plain.wrong h = tt

  ahead-settle : (place : ℕ) (done : List Step) (l : Line) (n : Next) → FitSteps text done → Ahead l n → byte_fault place (reading done l) (settle done n) ≡ None → FitsState (settle done n)
  ahead-settle place done l (on m) fits h e = (fits, h (none_told place (line_limit l m) e))
  ahead-settle place done l (whole s) fits h e = ((h, fits), tt)
  ahead-settle place done l last fits h e = fits
  ahead-settle place done l wrong fits h e = cc

  ahead-heading : (logic : Logic) (place : ℕ) (v w : List ℕ) → byte_fault place (heading v) (next_heading logic w) ≡ None → FitsState (next_heading logic w)
  ahead-heading logic place v w = first (bytes_eq w (header_text logic)) (bytes_eq w (header_word (other logic))) (starts_with nat_eq (header_text logic) w || starts_with nat_eq (header_word (other logic)) w)
    where
      first : (a b c : Bool) → byte_fault place (heading v) (if a then reading [] (in_word []) else if b then mistaken else if c then heading w else stuck) ≡ None → FitsState (if a then reading [] (in_word []) else if b then mistaken else if c then heading w else stuck)
      first true b c e = (tt, tt)
      first false true c e = cc
      first false false true e = tt
      first false false false e = cc

  -- what must have fitted
  abbrev Behind : Line → Next → Type 0
  Behind l n = FitsLine l × ((more : List Step) → limit_behind l (settle more n) ≡ None)

  behind-in_line : (w : Written) (q : plain.Reading) (n : plain.Next) → ((r : plain.Reading) → n ≡ plain.on r → limit_of q r ≡ None) → (fitting.FitsNext text n → fitting.Fits text q) → FitsNext (in_line w n) → Behind (in_plain w q) (in_line w n)
  behind-in_line w q (plain.on r) free back h = (back h, λ more. free r refl)
  behind-in_line written.Exists q (plain.whole_term t) free back h = (back h, λ more. refl)
  behind-in_line written.FocLEvery q (plain.whole_term t) free back h = (back h, λ more. refl)
  behind-in_line written.FocRExists q (plain.whole_term t) free back h = (back h, λ more. refl)
  behind-in_line written.Cut q (plain.whole_term t) free back h = absurd h
  behind-in_line written.Exists q (plain.whole_formula f) free back h = absurd h
  behind-in_line written.FocLEvery q (plain.whole_formula f) free back h = absurd h
  behind-in_line written.FocRExists q (plain.whole_formula f) free back h = absurd h
  behind-in_line written.Cut q (plain.whole_formula f) free back h = (back h, λ more. refl)
  behind-in_line w q plain.wrong free back h = absurd h

  free-settle : (l : Line) → ((m : Line) → line_limit l m ≡ None) → (more : List Step) (n : Next) → limit_behind l (settle more n) ≡ None
  free-settle l free more (on m) = free m
  free-settle l free more (whole s) = free (in_word [])
  free-settle l free more last = refl
  free-settle l free more wrong = refl

  module _ (number : List ℕ → ℕ) (back : GivesBack text number) (logic : Logic) where
    ahead-line : (l : Line) (b : ℕ) → IsLive text number logic l → FitsLine l → Ahead l (next number logic l b)
    ahead-line (in_word w) b live h = ahead-next_word logic w (w ++ b ∷ []) (plain.first_with word_text (w ++ b ∷ []) (words logic))
    ahead-line (at_place p) b live h = ahead-if (at_place p) (is_digit b) _ wrong (λ _. tt) tt
    ahead-line (in_place p k) b live h = ahead-if (in_place p k) (plain.can_grow k b) (on (in_place p (plain.grown k b))) _ (λ _. tt) (ahead-if (in_place p k) (nat_eq b 10) (whole (placed_step p k)) wrong (placed-fits p k) tt)
    ahead-line (in_plain w q) b live h = ahead-in_line w q (plain.next number logic q b) (keeping.ahead-next text number back logic (use_of w) q b live.1 h)

    -- a byte of which nothing is told leaves what fits
    pub fits-go : (place : ℕ) (st : State) (b : ℕ) → LiveState text number logic st → FitsState st → byte_fault place st (go number logic st b) ≡ None → FitsState (go number logic st b)
    fits-go place (heading w) b live h e = ahead-heading logic place w (w ++ b ∷ []) e
    fits-go place (reading done l) b live h e = ahead-settle place done l (next number logic l b) h.0 (ahead-line l b live.1 h.1) e
    fits-go place (ended done) b live h e = cc
    fits-go place mistaken b live h e = absurd h
    fits-go place stuck b live h e = absurd h

    behind-line : (l : Line) (b : ℕ) → IsLive text number logic l → FitsNext (next number logic l b) → Behind l (next number logic l b)
    behind-line (in_word w) b live h = (tt, λ more. free-settle (in_word w) (λ m. refl) more (next number logic (in_word w) b))
    behind-line (at_place p) b live h = (tt, λ more. free-settle (at_place p) (λ m. refl) more (next number logic (at_place p) b))
    behind-line (in_place p k) b live h = (tt, λ more. free-settle (in_place p k) (λ m. refl) more (next number logic (in_place p k) b))
    behind-line (in_plain w q) b live h =
        behind-in_line w q (plain.next number logic q b)
        (λ r e. fitting.within-limit q r (fitting.fits-within text number back logic q b r e (subst (λ n. FitsNext (in_line w n)) e h)))
        (fitting.back-next text number back logic (use_of w) q b live.1) h

    settled-fits : (done : List Step) (n : Next) → FitsState (settle done n) → FitSteps text done × FitsNext n
    settled-fits done (on l) h = h
    settled-fits done (whole s) h = (h.0.1, h.0.0)
    settled-fits done last h = (h, tt)
    settled-fits done wrong h = absurd h

    nothing-told : (place : ℕ) (st next : State) → FitsState next → state_limit st next ≡ None → byte_fault place st next ≡ None
    nothing-told place st (heading w) h e = ap (told_at place) e
    nothing-told place st (reading done l) h e = ap (told_at place) e
    nothing-told place st (ended done) h e = ap (told_at place) e
    nothing-told place st mistaken h e = absurd h
    nothing-told place st stuck h e = absurd h

    -- what leads on to what fits fits itself, and nothing is told of the byte
    pub back-go : (st : State) (b : ℕ) → LiveState text number logic st → FitsState (go number logic st b) → FitsState st × ((place : ℕ) → byte_fault place st (go number logic st b) ≡ None)
    back-go (heading w) b live h = (tt, λ place. nothing-told place (heading w) (go number logic (heading w) b) h refl)
    back-go (reading done l) b live h =
        let fits = settled-fits done (next number logic l b) h in
        let behind = behind-line l b live.1 fits.1 in
        ((fits.0, behind.0), λ place. nothing-told place (reading done l) (go number logic (reading done l) b) h (behind.1 done))
    back-go (ended done) b live h = absurd h
    back-go mistaken b live h = absurd h
    back-go stuck b live h = absurd h
