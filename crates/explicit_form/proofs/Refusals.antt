-- A refusal is told where the bytes go on to begin no text, or go past a limit.
use Rattle.std.proofs.Common.{◌≡◌, ℕ, suc, ◌+◌, ◌<◌, Bool, true, false, if◌then◌else◌, List, [], ◌∷◌, ◌++◌, length, Option, Some, None, refl, sym, ap, ap₂, ◌∙◌, subst, arith, nat_le, append_assoc, append-nil}
use Rattle.std.proofs.lemmas.Bool.{cond-true, cond-false}
use Rattle.std.proofs.lemmas.Bool.Decides.{nat_tests}
use Rattle.std.proofs.lemmas.List.{same_from_push, length-append}
use Rattle.fpc_base.specs.declared.refusal.Code.{Code}
use Rattle.fpc_base.specs.declared.refusal.Code.TheVariants.{Unexpected, TooLarge, WrongCalculus}
use Rattle.fpc_base.specs.declared.refusal.Refusal.{Refusal}
use Rattle.polarised_formulas.specs.declared.logic.Logic.{Logic}
use Rattle.polarised_formulas.specs.declared.logic.Logic.TheVariants.{Lkf, Ljf}
use Rattle.polarised_formulas.specs.declared.step.Step.{Step}
use Rattle.polarised_formulas.specs.PlainForm.{GivesBack}
use Rattle.explicit_form.specs.StepText.{header_word, IsCertificate}
use Rattle.explicit_form.specs.StepReading.{State, heading, reading, ended, mistaken, stuck, start, other, go, run, steps_onto}
use Rattle.explicit_form.specs.StepLaws.{IsGoing}
use Rattle.explicit_form.specs.StepLimits.{most_bytes, state_limit, told_at, byte_fault, fault, refused, outcome_at_end, unless_refused, outcome, Begins, WhyRefused, at_end, too_large, unexpected, other_word, limited, AreUntold, IsRefused, RefusalIsTold}
use Rattle.explicit_form.proofs.Forward.{run-append, run-certificate}
use Rattle.explicit_form.proofs.Certificates.{turned, certificate_begins, certificate_is_whole, other_calculus}

-- a list is empty, or has a last item
data Ends (xs : List ℕ) : Type 0 where
  none : xs ≡ [] → Ends xs
  some : (front : List ℕ) (last : ℕ) → xs ≡ front ++ last ∷ [] → Ends xs

ends : (xs : List ℕ) → Ends xs
ends [] = none refl
ends (b ∷ bs) = by (ends bs)
  where
    by : Ends bs → Ends (b ∷ bs)
    by (none e) = some [] b (ap (λ v. b ∷ v) e)
    by (some front last e) = some (b ∷ front) last (ap (λ v. b ∷ v) e)

-- of a byte that goes on at most a limit is told
going-fault : (place : ℕ) (st next : State) → IsGoing next → byte_fault place st next ≡ told_at place (state_limit st next)
going-fault place st (heading w) h = refl
going-fault place st (reading done l) h = refl
going-fault place st (ended done) h = refl
going-fault place st mistaken h = absurd h
going-fault place st stuck h = absurd h

pub within : (place : ℕ) (st next : State) → place < most_bytes → fault place st next ≡ byte_fault place st next
within place st next l = let t : nat_le most_bytes place ≡ false = grind (arith, nat_tests) in cond-false (nat_le most_bytes place) _ _ t

told-some : (c : Bool) (x y : Refusal) → (if c then Some x else Some y) ≡ None → ⊥
told-some true x y h = cc
told-some false x y h = cc

module _ (number : List ℕ → ℕ) (logic : Logic) where
  pub untold-more : (front : List ℕ) (st : State) (place : ℕ) (b : ℕ) → AreUntold number logic st place front → fault (place + length front) (run number logic st front) (go number logic (run number logic st front) b) ≡ None → AreUntold number logic st place (front ++ b ∷ [])
  untold-more [] st place b h e = let s : place + 0 ≡ place = omega arith in (subst (λ n. fault n st (go number logic st b) ≡ None) s e, tt)
  untold-more (c ∷ front) st place b h e =
      let s : place + suc (length front) ≡ suc place + length front = omega arith in
      (h.0, untold-more front (go number logic st c) (suc place) b h.1 (subst (λ n. fault n (run number logic (go number logic st c) front) (go number logic (run number logic (go number logic st c) front) b) ≡ None) s e))

  pub untold-outcome : (front rest : List ℕ) (st : State) (place : ℕ) → AreUntold number logic st place front → outcome number logic st place (front ++ rest) ≡ outcome number logic (run number logic st front) (place + length front) rest
  untold-outcome [] rest st place h = let s : place ≡ place + 0 = omega arith in ap (λ n. outcome number logic st n rest) s
  untold-outcome (b ∷ front) rest st place h =
      let s : suc place + length front ≡ place + suc (length front) = omega arith in
      ap (λ o. unless_refused o (outcome number logic (go number logic st b) (suc place) (front ++ rest))) h.0
      ∙ untold-outcome front rest (go number logic st b) (suc place) h.1
      ∙ ap (λ n. outcome number logic (run number logic (go number logic st b) front) n rest) s

  -- where the word of the other calculus comes out it ends with the byte
  pub word_ends : (front : List ℕ) (b : ℕ) → IsGoing (run number logic start front) → go number logic (run number logic start front) b ≡ mistaken → front ++ b ∷ [] ≡ header_word (other logic)
  word_ends front b going e = let h = (other_calculus number logic (front ++ b ∷ [])).0 (run-append number logic start front (b ∷ []) ∙ e) in by h.0 h.1 (ends h.0)
    where
      by : (more : List ℕ) → header_word (other logic) ++ more ≡ front ++ b ∷ [] → Ends more → front ++ b ∷ [] ≡ header_word (other logic)
      by more same (none n) = sym same ∙ ap (λ v. header_word (other logic) ++ v) n ∙ append-nil (header_word (other logic))
      by more same (some inner last n) =
          let whole : header_word (other logic) ++ inner ≡ front = (same_from_push (header_word (other logic) ++ inner) front last b (append_assoc (header_word (other logic)) inner (last ∷ []) ∙ ap (λ v. header_word (other logic) ++ v) (sym n) ∙ same)).0 in
          absurd (subst IsGoing ((other_calculus number logic front).1 (inner, whole)) going)

  -- where nothing is told of a byte it was not wrong
  pub untold-go : (place : ℕ) (st next : State) → fault place st next ≡ None → IsGoing next
  untold-go place st (heading w) e = tt
  untold-go place st (reading done l) e = tt
  untold-go place st (ended done) e = tt
  untold-go place st mistaken e = told-some (nat_le most_bytes place) (record { code = TooLarge; at = place }) (record { code = WrongCalculus; at = 6 }) e
  untold-go place st stuck e = told-some (nat_le most_bytes place) (record { code = TooLarge; at = place }) (record { code = Unexpected; at = place }) e

  pub untold-going : (bytes : List ℕ) (st : State) (place : ℕ) → IsGoing st → AreUntold number logic st place bytes → IsGoing (run number logic st bytes)
  untold-going [] st place h k = h
  untold-going (b ∷ bytes) st place h k = untold-going bytes (go number logic st b) (suc place) (untold-go place st (go number logic st b) k.0) k.1

module _ (text : ℕ → List ℕ) (number : List ℕ → ℕ) (back : GivesBack text number) (logic : Logic) (r : Refusal) where
  begins : (front : List ℕ) → IsGoing (run number logic start front) → Begins text number logic front
  begins front going = (certificate_begins text number back logic front).0 going

  one_more : (front : List ℕ) (b : ℕ) → run number logic start (front ++ b ∷ []) ≡ go number logic (run number logic start front) b
  one_more front b = run-append number logic start front (b ∷ [])

  no_end : (front : List ℕ) (st : State) → run number logic start front ≡ st → ((done : List Step) → st ≡ ended done → ⊥) → (steps : List Step) → IsCertificate text number logic steps front → ⊥
  no_end front st e not steps h = not (steps_onto steps []) (sym e ∙ ap (run number logic start) (sym h.1) ∙ run-certificate text number logic steps h.0)

  told_end : (front : List ℕ) (st : State) → run number logic start front ≡ st → outcome_at_end (length front) st ≡ refused r → WhyRefused text number logic front (run number logic start front) [] r
  told_end front (heading w) e o = let same : record { code = Unexpected; at = length front } ≡ r = cc in subst (WhyRefused text number logic front (run number logic start front) []) same (at_end (no_end front (heading w) e (λ done d. cc)))
  told_end front (reading done l) e o = let same : record { code = Unexpected; at = length front } ≡ r = cc in subst (WhyRefused text number logic front (run number logic start front) []) same (at_end (no_end front (reading done l) e (λ done d. cc)))
  told_end front (ended done) e o = cc
  told_end front mistaken e o = let same : record { code = Unexpected; at = length front } ≡ r = cc in subst (WhyRefused text number logic front (run number logic start front) []) same (at_end (no_end front mistaken e (λ done d. cc)))
  told_end front stuck e o = let same : record { code = Unexpected; at = length front } ≡ r = cc in subst (WhyRefused text number logic front (run number logic start front) []) same (at_end (no_end front stuck e (λ done d. cc)))

  here : (front : List ℕ) (b : ℕ) (bs : List ℕ) → IsGoing (run number logic start front) → AreUntold number logic start 0 front → WhyRefused text number logic front (run number logic start front) (b ∷ bs) r → IsRefused text number logic (front ++ b ∷ bs) r
  here front b bs going untold why = record { front = front; rest = b ∷ bs; parts = refl; begins = begins front going; untold = untold; why = why }

  told_limit : (front : List ℕ) (b : ℕ) (bs : List ℕ) → IsGoing (run number logic start front) → AreUntold number logic start 0 front → length front < most_bytes → IsGoing (go number logic (run number logic start front) b) → (o : Option Code) → state_limit (run number logic start front) (go number logic (run number logic start front) b) ≡ o
      → unless_refused (told_at (length front) o) (outcome number logic (go number logic (run number logic start front) b) (suc (length front)) bs) ≡ refused r
      → (IsGoing (go number logic (run number logic start front) b) → fault (length front) (run number logic start front) (go number logic (run number logic start front) b) ≡ None → outcome number logic (go number logic (run number logic start front) b) (suc (length front)) bs ≡ refused r → IsRefused text number logic (front ++ b ∷ bs) r)
      → IsRefused text number logic (front ++ b ∷ bs) r
  told_limit front b bs going untold low next_going (Some code) t e rec =
      let same : record { code = code; at = length front } ≡ r = cc in
      here front b bs going untold (subst (WhyRefused text number logic front (run number logic start front) (b ∷ bs)) same (limited b bs code low (begins (front ++ b ∷ []) (subst IsGoing (sym (one_more front b)) next_going)) t))
  told_limit front b bs going untold low next_going None t e rec =
      rec next_going
      (within (length front) (run number logic start front) (go number logic (run number logic start front) b) low
      ∙ going-fault (length front) (run number logic start front) (go number logic (run number logic start front) b) next_going ∙ ap (told_at (length front)) t) e

  told_byte : (front : List ℕ) (b : ℕ) (bs : List ℕ) → IsGoing (run number logic start front) → AreUntold number logic start 0 front → length front < most_bytes → (m : State) → go number logic (run number logic start front) b ≡ m
      → unless_refused (byte_fault (length front) (run number logic start front) m) (outcome number logic m (suc (length front)) bs) ≡ refused r
      → (IsGoing (go number logic (run number logic start front) b) → fault (length front) (run number logic start front) (go number logic (run number logic start front) b) ≡ None → outcome number logic (go number logic (run number logic start front) b) (suc (length front)) bs ≡ refused r → IsRefused text number logic (front ++ b ∷ bs) r)
      → IsRefused text number logic (front ++ b ∷ bs) r
  told_byte front b bs going untold low (heading w) g e rec =
      told_limit front b bs going untold low (subst IsGoing (sym g) tt) (state_limit (run number logic start front) (go number logic (run number logic start front) b)) refl
      (ap (λ m. unless_refused (told_at (length front) (state_limit (run number logic start front) m)) (outcome number logic m (suc (length front)) bs)) g ∙ e) rec
  told_byte front b bs going untold low (reading done l) g e rec =
      told_limit front b bs going untold low (subst IsGoing (sym g) tt) (state_limit (run number logic start front) (go number logic (run number logic start front) b)) refl
      (ap (λ m. unless_refused (told_at (length front) (state_limit (run number logic start front) m)) (outcome number logic m (suc (length front)) bs)) g ∙ e) rec
  told_byte front b bs going untold low (ended done) g e rec =
      told_limit front b bs going untold low (subst IsGoing (sym g) tt) (state_limit (run number logic start front) (go number logic (run number logic start front) b)) refl
      (ap (λ m. unless_refused (told_at (length front) (state_limit (run number logic start front) m)) (outcome number logic m (suc (length front)) bs)) g ∙ e) rec
  told_byte front b bs going untold low mistaken g e rec =
      let same : record { code = WrongCalculus; at = 6 } ≡ r = cc in
      here front b bs going untold (subst (WhyRefused text number logic front (run number logic start front) (b ∷ bs)) same (other_word b bs (word_ends number logic front b going g)))
  told_byte front b bs going untold low stuck g e rec =
      let same : record { code = Unexpected; at = length front } ≡ r = cc in
      here front b bs going untold (subst (WhyRefused text number logic front (run number logic start front) (b ∷ bs)) same
      (unexpected b bs low (λ begun. subst IsGoing (one_more front b ∙ g) ((certificate_begins text number back logic (front ++ b ∷ [])).1 begun))
      (λ word. differ (sym (one_more front b ∙ g) ∙ (other_calculus number logic (front ++ b ∷ [])).1 ([], append-nil (header_word (other logic)) ∙ sym word)))))
    where
      differ : stuck ≡ mistaken → ⊥
      differ d = cc

  told : (bs front : List ℕ) → IsGoing (run number logic start front) → AreUntold number logic start 0 front → outcome number logic (run number logic start front) (length front) bs ≡ refused r → IsRefused text number logic (front ++ bs) r
  told [] front going untold e = record { front = front; rest = []; parts = refl; begins = begins front going; untold = untold; why = told_end front (run number logic start front) refl e }
  told (b ∷ bs) front going untold e = large (nat_le most_bytes (length front)) refl e (later (told bs (front ++ b ∷ [])))
    where
      longer : length (front ++ b ∷ []) ≡ suc (length front)
      longer = let s = length-append front (b ∷ []) in omega arith

      later : (IsGoing (run number logic start (front ++ b ∷ [])) → AreUntold number logic start 0 (front ++ b ∷ []) → outcome number logic (run number logic start (front ++ b ∷ [])) (length (front ++ b ∷ [])) bs ≡ refused r → IsRefused text number logic ((front ++ b ∷ []) ++ bs) r)
          → IsGoing (go number logic (run number logic start front) b) → fault (length front) (run number logic start front) (go number logic (run number logic start front) b) ≡ None
          → outcome number logic (go number logic (run number logic start front) b) (suc (length front)) bs ≡ refused r → IsRefused text number logic (front ++ b ∷ bs) r
      later rec g f o =
          let place : 0 + length front ≡ length front = omega arith in
          subst (λ v. IsRefused text number logic v r) (append_assoc front (b ∷ []) bs)
          (rec (subst IsGoing (sym (one_more front b)) g) (untold-more number logic front start 0 b untold (subst (λ n. fault n (run number logic start front) (go number logic (run number logic start front) b) ≡ None) (sym place) f)) (ap₂ (λ st n. outcome number logic st n bs) (one_more front b) longer ∙ o))

      large : (c : Bool) → nat_le most_bytes (length front) ≡ c
          → unless_refused (if c then Some (record { code = TooLarge; at = length front }) else byte_fault (length front) (run number logic start front) (go number logic (run number logic start front) b)) (outcome number logic (go number logic (run number logic start front) b) (suc (length front)) bs) ≡ refused r
          → (IsGoing (go number logic (run number logic start front) b) → fault (length front) (run number logic start front) (go number logic (run number logic start front) b) ≡ None → outcome number logic (go number logic (run number logic start front) b) (suc (length front)) bs ≡ refused r → IsRefused text number logic (front ++ b ∷ bs) r) → IsRefused text number logic (front ++ b ∷ bs) r
      large true t s rec =
          let same : record { code = TooLarge; at = length front } ≡ r = cc in
          here front b bs going untold (subst (WhyRefused text number logic front (run number logic start front) (b ∷ bs)) same (too_large b bs (grind (arith, nat_tests))))
      large false t s rec = told_byte front b bs going untold (grind (arith, nat_tests)) (go number logic (run number logic start front) b) refl s rec

module _ (text : ℕ → List ℕ) (number : List ℕ → ℕ) (back : GivesBack text number) (logic : Logic) where
  header-length : (l : Logic) → length (header_word l) ≡ 9
  header-length Lkf = refl
  header-length Ljf = refl

  outcome-at_end : (front : List ℕ) → ((steps : List Step) → IsCertificate text number logic steps front → ⊥) → (st : State) → run number logic start front ≡ st
      → outcome_at_end (length front) st ≡ refused (record { code = Unexpected; at = length front })
  outcome-at_end front nothing (heading w) e = refl
  outcome-at_end front nothing (reading done l) e = refl
  outcome-at_end front nothing (ended done) e = absurd (nothing (steps_onto done []) ((certificate_is_whole text number back logic front (steps_onto done [])).0 (e ∙ ap ended (sym (turned done)))))
  outcome-at_end front nothing mistaken e = refl
  outcome-at_end front nothing stuck e = refl

  fault-stuck : (front : List ℕ) (b : ℕ) → IsGoing (run number logic start front) → (Begins text number logic (front ++ b ∷ []) → ⊥) → (front ++ b ∷ [] ≡ header_word (other logic) → ⊥) → (m : State) → go number logic (run number logic start front) b ≡ m
      → byte_fault (length front) (run number logic start front) m ≡ Some (record { code = Unexpected; at = length front })
  fault-stuck front b going nothing differ (heading w) g = absurd (nothing ((certificate_begins text number back logic (front ++ b ∷ [])).0 (subst IsGoing (sym (run-append number logic start front (b ∷ []) ∙ g)) tt)))
  fault-stuck front b going nothing differ (reading done l) g = absurd (nothing ((certificate_begins text number back logic (front ++ b ∷ [])).0 (subst IsGoing (sym (run-append number logic start front (b ∷ []) ∙ g)) tt)))
  fault-stuck front b going nothing differ (ended done) g = absurd (nothing ((certificate_begins text number back logic (front ++ b ∷ [])).0 (subst IsGoing (sym (run-append number logic start front (b ∷ []) ∙ g)) tt)))
  fault-stuck front b going nothing differ mistaken g = absurd (differ (word_ends number logic front b going g))
  fault-stuck front b going nothing differ stuck g = refl

  -- what is refused so has that outcome
  why-outcome : (front : List ℕ) → IsGoing (run number logic start front) → (rest : List ℕ) (r : Refusal) → WhyRefused text number logic front (run number logic start front) rest r
      → outcome number logic (run number logic start front) (length front) rest ≡ refused r
  why-outcome front going _ _ (at_end nothing) = outcome-at_end front nothing (run number logic start front) refl
  why-outcome front going _ _ (too_large b more l) =
      let t : nat_le most_bytes (length front) ≡ true = grind (arith, nat_tests) in
      ap (λ o. unless_refused o (outcome number logic (go number logic (run number logic start front) b) (suc (length front)) more)) (cond-true (nat_le most_bytes (length front)) _ _ t)
  why-outcome front going _ _ (unexpected b more low nothing differ) =
      ap (λ o. unless_refused o (outcome number logic (go number logic (run number logic start front) b) (suc (length front)) more))
      (within (length front) (run number logic start front) (go number logic (run number logic start front) b) low ∙ fault-stuck front b going nothing differ (go number logic (run number logic start front) b) refl)
  why-outcome front going _ _ (other_word b more word) =
      let longer : length (front ++ b ∷ []) ≡ suc (length front) = (let s = length-append front (b ∷ []) in omega arith) in
      let nine : length (front ++ b ∷ []) ≡ 9 = ap length word ∙ header-length (other logic) in
      let low : length front < most_bytes = omega arith in
      let m : go number logic (run number logic start front) b ≡ mistaken = sym (run-append number logic start front (b ∷ [])) ∙ (other_calculus number logic (front ++ b ∷ [])).1 ([], append-nil (header_word (other logic)) ∙ sym word) in
      ap (λ o. unless_refused o (outcome number logic (go number logic (run number logic start front) b) (suc (length front)) more))
      (within (length front) (run number logic start front) (go number logic (run number logic start front) b) low ∙ ap (byte_fault (length front) (run number logic start front)) m)
  why-outcome front going _ _ (limited b more code low begun limit) =
      let next : IsGoing (go number logic (run number logic start front) b) = subst IsGoing (run-append number logic start front (b ∷ [])) ((certificate_begins text number back logic (front ++ b ∷ [])).1 begun) in
      ap (λ o. unless_refused o (outcome number logic (go number logic (run number logic start front) b) (suc (length front)) more))
      (within (length front) (run number logic start front) (go number logic (run number logic start front) b) low
      ∙ going-fault (length front) (run number logic start front) (go number logic (run number logic start front) b) next ∙ ap (told_at (length front)) limit)

  refused-outcome : (bytes : List ℕ) (r : Refusal) → IsRefused text number logic bytes r → outcome number logic start 0 bytes ≡ refused r
  refused-outcome bytes r h =
      let place : 0 + length h.front ≡ length h.front = omega arith in
      ap (outcome number logic start 0) (sym h.parts)
      ∙ untold-outcome number logic h.front h.rest start 0 h.untold
      ∙ ap (λ n. outcome number logic (run number logic start h.front) n h.rest) place
      ∙ why-outcome h.front ((certificate_begins text number back logic h.front).1 h.begins) h.rest r h.why

pub refusal_is_told : RefusalIsTold
refusal_is_told text number back logic bytes r = (λ e. told text number back logic r bytes [] tt tt e, refused-outcome text number back logic bytes r)
