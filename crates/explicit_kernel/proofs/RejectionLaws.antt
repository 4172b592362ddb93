-- Proofs of the laws of rejection.
use Rattle.std.proofs.Common.{◌≡◌, ◌≢◌, ◌⊎◌, inl, inr, ℕ, suc, ◌+◌, Bool, true, false, if◌then◌else◌, ◌&&◌, List, [], ◌∷◌, ◌++◌, length, Option, Some, None, refl, sym, ap, ◌∙◌, subst, arith, nat_eq, append_assoc}
use Rattle.std.specs.List.{list_all}
use Rattle.std.proofs.lemmas.Bool.Decides.{nat_tests}
use Rattle.std.proofs.lemmas.List.{length-append, same_from_push}
use Rattle.fpc_base.specs.declared.refusal.Code.TheVariants.{Unexpected}
use Rattle.fpc_base.specs.declared.refusal.Refusal.{Refusal}
use Rattle.fpc_base.specs.Tokens.{is_in_line}
use Rattle.polarised_formulas.specs.declared.logic.Logic.{Logic}
use Rattle.polarised_formulas.specs.declared.logic.Logic.TheVariants.{Lkf, Ljf}
use Rattle.polarised_formulas.specs.declared.step.Step.{Step}
use Rattle.polarised_formulas.specs.Formula.{Formula}
use Rattle.polarised_formulas.specs.Calculus.Rules.{RuleCalculus, LevelledIn}
use Rattle.polarised_formulas.specs.Calculus.Play.{Plays, start_of}
use Rattle.explicit_form.specs.StepText.{header_word, BeginsCertificate}
use Rattle.explicit_form.specs.StepReading.{Next, on, whole, last, wrong, next, State, heading, reading, ended, mistaken, stuck, start, settle, go, run, steps_of, other}
use Rattle.explicit_form.specs.StepLaws.{IsGoing, BeginsHeader, EndsAt}
use Rattle.explicit_form.specs.StepLimits.{fault, AreUntold}
use Rattle.explicit_form.specs.Feeding.{step_of, step_with, is_whole}
use Rattle.explicit_form.proofs.Certificates.{certificate_begins}
use Rattle.explicit_form.proofs.Forward.{run-append}
use Rattle.explicit_form.proofs.LineEnds.{line_ends}
use Rattle.explicit_form.proofs.Taking.{step_with-none, is_whole-none, is_whole-step}
use Rattle.explicit_form.proofs.Refusals.{untold-go, untold-more, untold-going}
use Rattle.explicit_kernel.specs.JudgmentIn.{accepted, rejected, refused, Course, going, judged, closing, playing, fitting, judging, advance, course_of, at_end, judgment}
use Rattle.explicit_kernel.specs.JudgmentLaws.{WhyRejected, unfit, unfinished, IsRejectedAt, RejectedAtLine, RejectedBegins}
use Rattle.explicit_kernel.proofs.Courses.{played-none, nothing-behind}
use Rattle.explicit_kernel.proofs.Standing.{apart, Stands, Turn, goes, tells, misses, leaves, Shows, still, here, shows, stands-still, judged-at, steps-none, steps-some, untold-parts, untold-front}

-- a line end is no byte inside a line
not_inside : nat_eq 10 10 ≡ false → ⊥
not_inside e = cc

no_steps : (steps : List Step) (s : Step) → steps ++ s ∷ [] ≡ [] → ⊥
no_steps steps s e = let l = ap length e in let a = length-append steps (s ∷ []) in omega (arith, l, a)

module _ (C : RuleCalculus) (number : List ℕ → ℕ) where
  -- the line of a step ends with the byte 10
  step-ten : (st : State) (b : ℕ) (s : Step) → step_with number C.logic st b ≡ Some s → b ≡ 10
  step-ten st b s w = by (nat_eq b 10) refl
    where
      by : (c : Bool) → nat_eq b 10 ≡ c → b ≡ 10
      by true t = grind (arith, nat_tests)
      by false t = let none = step_with-none number C.logic st b t in let no : ⊥ = cc (w, none) in absurd no

  -- so does the last line
  whole-ten : (st : State) (b : ℕ) → is_whole (go number C.logic st b) ≡ true → b ≡ 10
  whole-ten st b w = by (nat_eq b 10) refl
    where
      by : (c : Bool) → nat_eq b 10 ≡ c → b ≡ 10
      by true t = grind (arith, nat_tests)
      by false t = absurd (apart (is_whole (go number C.logic st b)) (is_whole-none number C.logic st b t) w)

  -- a line end behind steps ends the line of a step, or the last one
  ends-step : (st : State) → IsGoing (go number C.logic st 10) → is_whole (go number C.logic st 10) ≡ false → step_with number C.logic st 10 ≡ None → steps_of st ≡ []
  ends-step (heading v) h w e = refl
  ends-step (reading done l) h w e = absurd (by (next number C.logic l 10) (line_ends number C.logic l 10) h w e)
    where
      by : (n : Next) → EndsAt 10 n → IsGoing (settle done n) → is_whole (settle done n) ≡ false → step_of n ≡ None → ⊥
      by (on m) ends h w e = not_inside ends
      by (whole s) ends h w e = cc
      by last ends h w e = cc
      by wrong ends h w e = h
  ends-step (ended done) h w e = absurd h
  ends-step mistaken h w e = absurd h
  ends-step stuck h w e = absurd h

  -- the last of the steps is that of the line
  last-step : (place : ℕ) (st : State) (steps : List Step) (s : Step) → fault place st (go number C.logic st 10) ≡ None → is_whole (go number C.logic st 10) ≡ false → steps_of (go number C.logic st 10) ≡ steps ++ s ∷ []
      → (step_with number C.logic st 10 ≡ Some s) × (steps_of st ≡ steps)
  last-step place st steps s e w h = by (step_with number C.logic st 10) refl
    where
      by : (o : Option Step) → step_with number C.logic st 10 ≡ o → (step_with number C.logic st 10 ≡ Some s) × (steps_of st ≡ steps)
      by (Some t) f =
          let same = same_from_push (steps_of st) steps t s (sym (steps-some C number place st 10 t e f) ∙ h) in (f ∙ ap Some same.1, same.0)
      by None f =
          let none : steps_of st ≡ [] = ends-step st (untold-go number C.logic place st (go number C.logic st 10) e) w f in
          absurd (no_steps steps s (sym h ∙ steps-none C number place st 10 e f ∙ none))

  -- the last line is that of no step
  last-line : (st : State) (b : ℕ) → is_whole (go number C.logic st b) ≡ true → step_with number C.logic st b ≡ None
  last-line st b w = by (step_with number C.logic st b) refl
    where
      by : (o : Option Step) → step_with number C.logic st b ≡ o → step_with number C.logic st b ≡ None
      by None f = f
      by (Some s) f = absurd (apart (is_whole (go number C.logic st b)) (is_whole-step number C.logic st b s f) w)

-- a sequent left behind the last line
left-behind : {S : Type 0} (place : ℕ) (st : State) (q : List (ℕ × S)) (n : ℕ) → is_whole st ≡ true → q ≢ [] → closing place st q n ≡ judged (rejected (suc n) place)
left-behind place st [] n w h = absurd (h refl)
left-behind place st (p ∷ q) n w h = ap (λ c. if c then judged (rejected (suc n) place) else going st (p ∷ q) n) w

at-end-open : (c : Bool) (m k place : ℕ) (r : Refusal) → (if c then accepted m else refused r m) ≡ rejected k place → ⊥
at-end-open true m k place r e = cc
at-end-open false m k place r e = cc

module _ (C : RuleCalculus) (number : List ℕ → ℕ) (goal : Formula) (bytes : List ℕ) (k place : ℕ) where
  -- the byte at which a line is rejected is its end
  turn-ten : (at : ℕ) (st : State) (q : List (LevelledIn C)) (m b : ℕ) (c : Course C.SequentOf) → Turn C number goal at st q m b c → c ≡ judged (rejected k place) → b ≡ 10
  turn-ten at st q m b _ (goes r l e a) f = let no : ⊥ = cc in absurd no
  turn-ten at st q m b _ (tells x e) f = let no : ⊥ = cc in absurd no
  turn-ten at st q m b _ (misses s e w never) f = step-ten C number st b s w
  turn-ten at st q m b _ (leaves e w ends open_list) f = whole-ten C number st b ends

  at-line-end : (front more : List ℕ) (q : List (LevelledIn C)) (m : ℕ) (c : Course C.SequentOf) → front ++ 10 ∷ more ≡ bytes → AreUntold number C.logic start 0 front → Stands C goal (run number C.logic start front) q m
      → Turn C number goal (length front) (run number C.logic start front) q m 10 c → c ≡ judged (rejected k place) → IsRejectedAt C number goal bytes k place
  at-line-end front more q m c parts u h t f = by c t f
    where
      st : State
      st = run number C.logic start front

      after : State
      after = go number C.logic st 10

      same : run number C.logic start (front ++ 10 ∷ []) ≡ after
      same = run-append number C.logic start front (10 ∷ [])

      rejecting : fault (length front) st after ≡ None → suc m ≡ k → length front ≡ place → WhyRejected C after (steps_of st) q → IsRejectedAt C number goal bytes k place
      rejecting e count ends why =
          let zero : length front ≡ 0 + length front = omega arith in
          record {
            front = front;
            rest = more;
            parts = parts;
            ends_at = ends;
            untold = untold-more number C.logic front start 0 10 u (subst (λ p. fault p st after ≡ None) zero e);
            steps = steps_of st;
            pending = q;
            plays_to = h.plays_to;
            count = ap suc h.count ∙ count;
            why = subst (λ v. WhyRejected C v (steps_of st) q) (sym same) why;
          }

      by : (c : Course C.SequentOf) → Turn C number goal (length front) st q m 10 c → c ≡ judged (rejected k place) → IsRejectedAt C number goal bytes k place
      by _ (goes r l e a) f = let no : ⊥ = cc in absurd no
      by _ (tells x e) f = let no : ⊥ = cc in absurd no
      by _ (misses s e w never) f = rejecting e (cc) (cc) (unfit s (is_whole-step number C.logic st 10 s w) (steps-some C number (length front) st 10 s e w) never)
      by _ (leaves e w ends open_list) f = rejecting e (cc) (cc) (unfinished ends (steps-none C number (length front) st 10 e w) open_list)

  rejected-forth : (c : Course C.SequentOf) → Shows C number goal bytes c → at_end (length bytes) c ≡ rejected k place → IsRejectedAt C number goal bytes k place
  rejected-forth _ (still q m u h) e = absurd (at-end-open (is_whole (run number C.logic start bytes)) m k place (record { code = Unexpected; at = length bytes }) e)
  rejected-forth _ (here front b more q m j parts u h t) e =
      let ten = turn-ten (length front) (run number C.logic start front) q m b (judged j) t (ap judged e) in
      at-line-end front more q m (judged j) (subst (λ x. front ++ x ∷ more ≡ bytes) ten parts) u h (subst (λ x. Turn C number goal (length front) (run number C.logic start front) q m x (judged j)) ten t) (ap judged e)

  rejected-back : IsRejectedAt C number goal bytes k place → judgment C number goal bytes ≡ rejected k place
  rejected-back h =
      ap (judgment C number goal) (sym h.parts) ∙ by (subst (λ v. WhyRejected C v h.steps h.pending) same h.why) ∙ ap (λ n. rejected n (length h.front)) h.count ∙ ap (rejected k) h.ends_at
    where
      st : State
      st = run number C.logic start h.front

      after : State
      after = go number C.logic st 10

      same : run number C.logic start (h.front ++ 10 ∷ []) ≡ after
      same = run-append number C.logic start h.front (10 ∷ [])

      last_byte : fault (0 + length h.front) st after ≡ None
      last_byte = (untold-parts C number h.front 10 [] start 0 h.untold).0

      none : fault (length h.front) st after ≡ None
      none = let zero : 0 + length h.front ≡ length h.front = omega arith in subst (λ p. fault p st after ≡ None) zero last_byte

      open_before : (c : Bool) → is_whole st ≡ c → is_whole st ≡ false
      open_before false w = w
      open_before true w = let e = nothing-behind C number st (length h.front) (10 ∷ []) w (none, tt) in let no : ⊥ = cc (e) in absurd no

      before : steps_of st ≡ h.steps → course_of C number goal h.front ≡ going st h.pending (length h.steps)
      before e =
          stands-still C number goal h.front h.pending (length h.steps) (untold-front C number h.front (10 ∷ []) start 0 h.untold)
          (record { plays_to = subst (λ ss. Plays C (start_of C goal) ss h.pending) (sym e) h.plays_to; count = ap length e; closed = λ t. absurd (apart (is_whole st) (open_before (is_whole st) refl) t) })

      byte : advance C number (length h.front) (going st h.pending (length h.steps)) 10 ≡ fitting C (length h.front) after (step_with number C.logic st 10) h.pending (length h.steps)
      byte = ap (λ o. judging C o (length h.front) after (step_with number C.logic st 10) h.pending (length h.steps)) none

      by : WhyRejected C after h.steps h.pending → judgment C number goal (h.front ++ 10 ∷ h.rest) ≡ rejected (suc (length h.steps)) (length h.front)
      by (unfit s w e never) =
          let l = last-step C number (length h.front) st h.steps s none w e in
          judged-at C number goal h.front 10 h.rest h.pending (length h.steps) (rejected (suc (length h.steps)) (length h.front)) (before l.1)
          (byte
          ∙ ap (λ o. fitting C (length h.front) after o h.pending (length h.steps)) l.0
          ∙ ap (λ o. playing (length h.front) after o (length h.steps)) (played-none C h.pending s never))
      by (unfinished w e open_list) =
          let l = last-line C number st 10 w in
          judged-at C number goal h.front 10 h.rest h.pending (length h.steps) (rejected (suc (length h.steps)) (length h.front)) (before (sym (steps-none C number (length h.front) st 10 none l) ∙ e))
          (byte ∙ ap (λ o. fitting C (length h.front) after o h.pending (length h.steps)) l ∙ left-behind (length h.front) after h.pending (length h.steps) w open_list)

pub rejected_at_line : (C : RuleCalculus) → RejectedAtLine C
rejected_at_line C number goal bytes k place = (λ e. rejected-forth C number goal bytes k place (course_of C number goal bytes) (shows C number goal bytes) e, rejected-back C number goal bytes k place)

-- bytes with a line end are not all inside a line
no-ten : (front rest : List ℕ) → list_all is_in_line (front ++ 10 ∷ rest) ≡ true → ⊥
no-ten [] rest e = cc
no-ten (c ∷ front) rest e = by (is_in_line c) e (no-ten front rest)
  where
    by : (t : Bool) → (t && list_all is_in_line (front ++ 10 ∷ rest)) ≡ true → (list_all is_in_line (front ++ 10 ∷ rest) ≡ true → ⊥) → ⊥
    by true f rec = rec f
    by false f rec = cc

-- the line of a header has no line end
header-in_line : (l : Logic) → list_all is_in_line (header_word l) ≡ true
header-in_line Lkf = refl
header-in_line Ljf = refl

pub rejected_begins : (C : RuleCalculus) → RejectedBegins C
rejected_begins C text number back goal bytes k place h = by ((certificate_begins text number back C.logic (h.front ++ 10 ∷ [])).0 (untold-going number C.logic (h.front ++ 10 ∷ []) start 0 tt h.untold))
  where
    by : BeginsCertificate text number C.logic (h.front ++ 10 ∷ []) ⊎ BeginsHeader (other C.logic) (h.front ++ 10 ∷ []) → BeginsCertificate text number C.logic (h.front ++ 10 ∷ [])
    by (inl c) = c
    by (inr (b, (more, e))) =
        let inside = header-in_line (other C.logic) in
        absurd (no-ten h.front (b ∷ more) (subst (λ v. list_all is_in_line v ≡ true) (e ∙ append_assoc h.front (10 ∷ []) (b ∷ more)) inside))
