-- Proofs of the laws of the judgment.
use Rattle.std.proofs.Common.{◌≡◌, ℕ, suc, ◌+◌, Bool, true, false, if◌then◌else◌, List, [], ◌∷◌, ◌++◌, length, Option, Some, None, refl, sym, ap, ◌∙◌, subst, arith, append-nil}
use Rattle.fpc_base.specs.declared.refusal.Code.TheVariants.{Unexpected}
use Rattle.fpc_base.specs.declared.refusal.Refusal.{Refusal}
use Rattle.polarised_formulas.specs.declared.step.Step.{Step}
use Rattle.polarised_formulas.specs.Formula.{Formula}
use Rattle.polarised_formulas.specs.Calculus.Rules.{RuleCalculus, LevelledIn}
use Rattle.polarised_formulas.specs.Calculus.Play.{Plays, start_of}
use Rattle.polarised_formulas.proofs.Calculus.Spelling.{IsSpelling-plays, PlaysOut-spelling, length-spelling}
use Rattle.polarised_formulas.specs.Calculus.Lawful.{IsLawful}
use Rattle.lkf_rules.specs.Lkf.{lkf}
use Rattle.explicit_form.specs.StepReading.{State, heading, reading, ended, mistaken, stuck, start, go, run, steps_of}
use Rattle.explicit_form.specs.StepLimits.{fault, read, refused as told, outcome_at_end, unless_refused, outcome, AreUntold}
use Rattle.explicit_form.specs.Feeding.{is_whole}
use Rattle.explicit_form.proofs.Outcomes.{certificate_outcome}
use Rattle.explicit_form.proofs.Refusals.{untold-outcome}
use Rattle.explicit_kernel.specs.JudgmentIn.{accepted, refused, Course, going, judged, at_end, course_of, judgment}
use Rattle.explicit_kernel.specs.JudgmentLaws.{IsAccepted, AcceptedIsSpelled, AcceptedHasNodes, JudgmentStays}
use Rattle.explicit_kernel.proofs.Courses.{course-stays}
use Rattle.explicit_kernel.proofs.Standing.{Turn, goes, tells, misses, leaves, Shows, still, here, shows, stands-still}

-- behind the last line the steps are read
pub end-whole : (place : ℕ) (st : State) → is_whole st ≡ true → outcome_at_end place st ≡ read (steps_of st)
end-whole place (heading w) h = cc
end-whole place (reading done l) h = cc
end-whole place (ended done) h = refl
end-whole place mistaken h = cc
end-whole place stuck h = cc

-- elsewhere more bytes are missing
pub end-open : (place : ℕ) (st : State) → is_whole st ≡ false → outcome_at_end place st ≡ told (record { code = Unexpected; at = place })
end-open place (heading w) h = refl
end-open place (reading done l) h = refl
end-open place (ended done) h = cc
end-open place mistaken h = refl
end-open place stuck h = refl

-- steps are read only where the last line ends
read-whole : (place : ℕ) (st : State) (steps : List Step) → outcome_at_end place st ≡ read steps → (is_whole st ≡ true) × (steps_of st ≡ steps)
read-whole place (heading w) steps e = cc
read-whole place (reading done l) steps e = cc
read-whole place (ended done) steps e = (refl, cc)
read-whole place mistaken steps e = cc
read-whole place stuck steps e = cc

module _ (C : RuleCalculus) (number : List ℕ → ℕ) where
  -- where nothing is told of the bytes their outcome is that of their end
  pub untold-end : (bytes : List ℕ) → AreUntold number C.logic start 0 bytes → outcome number C.logic start 0 bytes ≡ outcome_at_end (length bytes) (run number C.logic start bytes)
  untold-end bytes h =
      let e : 0 + length bytes ≡ length bytes = omega arith in
      ap (outcome number C.logic start 0) (sym (append-nil bytes)) ∙ untold-outcome number C.logic bytes [] start 0 h ∙ ap (λ p. outcome_at_end p (run number C.logic start bytes)) e

  -- where steps are read nothing is told of the bytes, and they are the steps of their lines
  read-untold : (bytes : List ℕ) (st : State) (place : ℕ) (steps : List Step) → outcome number C.logic st place bytes ≡ read steps
      → AreUntold number C.logic st place bytes × (is_whole (run number C.logic st bytes) ≡ true) × (steps_of (run number C.logic st bytes) ≡ steps)
  read-untold [] st place steps e = let w = read-whole place st steps e in (tt, w.0, w.1)
  read-untold (b ∷ bytes) st place steps e = by (fault place st (go number C.logic st b)) refl e (read-untold bytes (go number C.logic st b) (suc place) steps)
    where
      Whole : Type 0
      Whole = AreUntold number C.logic (go number C.logic st b) (suc place) bytes × (is_whole (run number C.logic (go number C.logic st b) bytes) ≡ true) × (steps_of (run number C.logic (go number C.logic st b) bytes) ≡ steps)

      by : (o : Option Refusal) → fault place st (go number C.logic st b) ≡ o → unless_refused o (outcome number C.logic (go number C.logic st b) (suc place) bytes) ≡ read steps
          → (outcome number C.logic (go number C.logic st b) (suc place) bytes ≡ read steps → Whole)
          → AreUntold number C.logic st place (b ∷ bytes) × (is_whole (run number C.logic (go number C.logic st b) bytes) ≡ true) × (steps_of (run number C.logic (go number C.logic st b) bytes) ≡ steps)
      by None f later rec = let r = rec later in ((f, r.0), r.1, r.2)
      by (Some x) f later rec = cc

  -- a byte accepts nothing
  no-accept : (goal : Formula) (place : ℕ) (st : State) (q : List (LevelledIn C)) (m b n : ℕ) (c : Course C.SequentOf) → Turn C number goal place st q m b c → c ≡ judged (accepted n) → ⊥
  no-accept goal place st q m b n _ (goes r l e a) f = let no : ⊥ = cc in no
  no-accept goal place st q m b n _ (tells x e) f = let no : ⊥ = cc in no
  no-accept goal place st q m b n _ (misses s e w unfit) f = let no : ⊥ = cc in no
  no-accept goal place st q m b n _ (leaves e w whole open_list) f = let no : ⊥ = cc in no

pub accepted_is_spelled : (C : RuleCalculus) → IsLawful C → AcceptedIsSpelled C
accepted_is_spelled C L text number back goal closed bytes n = (λ e. forth (course_of C number goal bytes) (shows C number goal bytes) e, other)
  where
    st : State
    st = run number C.logic start bytes

    forth : (c : Course C.SequentOf) → Shows C number goal bytes c → at_end (length bytes) c ≡ accepted n → IsAccepted C text number goal bytes n
    forth _ (here front b more q m j parts v k t) e = absurd (no-accept C number goal (length front) (run number C.logic start front) q m b n (judged j) t (ap judged e))
    forth _ (still q m v k) e = by (is_whole st) refl e
      where
        by : (c : Bool) → is_whole st ≡ c → (if c then accepted m else refused (record { code = Unexpected; at = length bytes }) m) ≡ accepted n → IsAccepted C text number goal bytes n
        by false w f = cc
        by true w f =
            let same : m ≡ n = cc in
            let text_of = (certificate_outcome text number back C.logic bytes (steps_of st)).0 (untold-end C number bytes v ∙ end-whole (length bytes) st w) in
            record {
              steps = steps_of st;
              is_text = text_of.0;
              keeps_limits = text_of.1;
              small = text_of.2;
              spelling = IsSpelling-plays C L goal (steps_of st) closed (subst (Plays C (start_of C goal) (steps_of st)) (k.closed w) k.plays_to);
              count = k.count ∙ same;
            }

    other : IsAccepted C text number goal bytes n → judgment C number goal bytes ≡ accepted n
    other h =
        let r = read-untold C number bytes start 0 h.steps ((certificate_outcome text number back C.logic bytes h.steps).1 (h.is_text, h.keeps_limits, h.small)) in
        let out = subst (λ ss. Plays C (start_of C goal) ss []) (sym r.2) (PlaysOut-spelling C L goal h.steps h.spelling) in
        ap (at_end (length bytes)) (stands-still C number goal bytes [] n r.0 (record { plays_to = out; count = ap length r.2 ∙ h.count; closed = λ _. refl }))
        ∙ ap (λ c. if c then accepted n else refused (record { code = Unexpected; at = length bytes }) n) r.1

pub accepted_has_nodes : (C : RuleCalculus) → AcceptedHasNodes C
accepted_has_nodes C text number goal bytes n h = sym (length-spelling C goal h.steps h.spelling) ∙ h.count

-- bytes that show a judgment keep it
pub judgment_stays_in : (C : RuleCalculus) → JudgmentStays C
judgment_stays_in C number goal front more j e = ap (at_end (length (front ++ more))) (course-stays C number front more 0 (going start (start_of C goal) 0) j e)

-- the same in LKF
pub judgment_stays : JudgmentStays lkf
judgment_stays = judgment_stays_in lkf
