-- Proof of the law of refusal.
use Rattle.std.proofs.Common.{◌≡◌, ℕ, suc, ◌+◌, Bool, true, false, if◌then◌else◌, List, [], ◌∷◌, ◌++◌, length, Some, refl, sym, ap, ◌∙◌, subst, arith, append-nil}
use Rattle.fpc_base.specs.declared.refusal.Code.TheVariants.{Unexpected}
use Rattle.fpc_base.specs.declared.refusal.Refusal.{Refusal}
use Rattle.polarised_formulas.specs.Formula.{Formula}
use Rattle.polarised_formulas.specs.Calculus.Rules.{RuleCalculus, LevelledIn}
use Rattle.explicit_form.specs.StepReading.{State, start, go, run}
use Rattle.explicit_form.specs.StepLimits.{fault, refused as told, unless_refused, outcome, AreUntold}
use Rattle.explicit_form.specs.Feeding.{step_with, is_whole}
use Rattle.explicit_form.proofs.Refusals.{untold-outcome}
use Rattle.explicit_kernel.specs.JudgmentIn.{accepted, refused, Course, going, judged, judging, course_of, at_end, judgment}
use Rattle.explicit_kernel.specs.JudgmentLaws.{WhyRefusedBehind, at_their_end, at_byte, IsRefusedFirst, RefusedFirst}
use Rattle.explicit_kernel.proofs.JudgmentLaws.{end-whole, end-open, untold-end}
use Rattle.explicit_kernel.proofs.Standing.{Stands, Turn, goes, tells, misses, leaves, Shows, still, here, shows, stands-still, judged-at}

module _ (C : RuleCalculus) (number : List ℕ → ℕ) (goal : Formula) (bytes : List ℕ) (r : Refusal) (n : ℕ) where
  refused-byte : (front : List ℕ) (b : ℕ) (more : List ℕ) (q : List (LevelledIn C)) (m : ℕ) (c : Course C.SequentOf) → front ++ b ∷ more ≡ bytes → AreUntold number C.logic start 0 front → Stands C goal (run number C.logic start front) q m
      → Turn C number goal (length front) (run number C.logic start front) q m b c → c ≡ judged (refused r n) → IsRefusedFirst C number goal bytes r n
  refused-byte front b more q m _ parts u h (goes p l e a) f = let no : ⊥ = cc in absurd no
  refused-byte front b more q m _ parts u h (misses s e w never) f = let no : ⊥ = cc in absurd no
  refused-byte front b more q m _ parts u h (leaves e w ends open_list) f = let no : ⊥ = cc in absurd no
  refused-byte front b more q m _ parts u h (tells x e) f =
      let st = run number C.logic start front in
      let after = go number C.logic st b in
      let same : x ≡ r = cc in
      let count : m ≡ n = cc in
      let is : fault (length front) st after ≡ Some r = e ∙ ap Some same in
      let zero : 0 + length front ≡ length front = omega arith in
      record {
        is_told =
            ap (outcome number C.logic start 0) (sym parts)
            ∙ untold-outcome number C.logic front (b ∷ more) start 0 u
            ∙ ap (λ p. outcome number C.logic st p (b ∷ more)) zero
            ∙ ap (λ o. unless_refused o (outcome number C.logic after (suc (length front)) more)) is;
        front = front;
        rest = b ∷ more;
        parts = parts;
        untold = u;
        why = at_byte b more r is;
        pending = q;
        plays_to = h.plays_to;
        count = h.count ∙ count;
        closed = h.closed;
      }

  refused-forth : (c : Course C.SequentOf) → Shows C number goal bytes c → at_end (length bytes) c ≡ refused r n → IsRefusedFirst C number goal bytes r n
  refused-forth _ (here front b more q m j parts u h t) e = refused-byte front b more q m (judged j) parts u h t (ap judged e)
  refused-forth _ (still q m u h) e = by (is_whole (run number C.logic start bytes)) refl e
    where
      by : (c : Bool) → is_whole (run number C.logic start bytes) ≡ c → (if c then accepted m else refused (record { code = Unexpected; at = length bytes }) m) ≡ refused r n → IsRefusedFirst C number goal bytes r n
      by true w f = let no : ⊥ = cc in absurd no
      by false w f =
          let same : record { code = Unexpected; at = length bytes } ≡ r = cc in
          let count : m ≡ n = cc in
          record {
            is_told = untold-end C number bytes u ∙ end-open (length bytes) (run number C.logic start bytes) w ∙ ap told same;
            front = bytes;
            rest = [];
            parts = append-nil bytes;
            untold = u;
            why = subst (WhyRefusedBehind C number bytes []) same at_their_end;
            pending = q;
            plays_to = h.plays_to;
            count = h.count ∙ count;
            closed = h.closed;
          }

  refused-back : IsRefusedFirst C number goal bytes r n → judgment C number goal bytes ≡ refused r n
  refused-back h = by h.rest r h.why h.parts h.is_told
    where
      st : State
      st = run number C.logic start h.front

      before : course_of C number goal h.front ≡ going st h.pending n
      before = stands-still C number goal h.front h.pending n h.untold (record { plays_to = h.plays_to; count = h.count; closed = h.closed })

      ended_early : (c : Bool) → is_whole st ≡ c → (x : Refusal) → outcome number C.logic start 0 h.front ≡ told x → (if c then accepted n else refused (record { code = Unexpected; at = length h.front }) n) ≡ refused (record { code = Unexpected; at = length h.front }) n
      ended_early false w x o = refl
      ended_early true w x o = let e = sym o ∙ untold-end C number h.front h.untold ∙ end-whole (length h.front) st w in let no : ⊥ = cc (e) in absurd no

      by : (rest : List ℕ) (x : Refusal) → WhyRefusedBehind C number h.front rest x → h.front ++ rest ≡ bytes → outcome number C.logic start 0 bytes ≡ told x → judgment C number goal bytes ≡ refused x n
      by _ _ at_their_end parts o =
          let same : h.front ≡ bytes = sym (append-nil h.front) ∙ parts in
          let early = ended_early (is_whole st) refl (record { code = Unexpected; at = length h.front }) (ap (outcome number C.logic start 0) same ∙ o) in
          ap (judgment C number goal) (sym same) ∙ ap (at_end (length h.front)) before ∙ early
      by _ _ (at_byte b more x e) parts o =
          ap (judgment C number goal) (sym parts)
          ∙ judged-at C number goal h.front b more h.pending n (refused x n) before (ap (λ t. judging C t (length h.front) (go number C.logic st b) (step_with number C.logic st b) h.pending n) e)

pub refused_first : (C : RuleCalculus) → RefusedFirst C
refused_first C number goal bytes r n = (λ e. refused-forth C number goal bytes r n (course_of C number goal bytes) (shows C number goal bytes) e, refused-back C number goal bytes r n)
