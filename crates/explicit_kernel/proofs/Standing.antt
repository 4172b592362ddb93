-- Where the course of a certificate stands, and how it is judged.
use Rattle.std.proofs.Common.{◌≡◌, ◌≢◌, ℕ, suc, ◌+◌, Bool, true, false, if◌then◌else◌, List, [], ◌∷◌, ◌++◌, length, Option, Some, None, refl, sym, ap, ◌∙◌, subst, arith, append_assoc, append-nil}
use Rattle.std.proofs.lemmas.List.{length-append}
use Rattle.fpc_base.specs.declared.refusal.Refusal.{Refusal}
use Rattle.polarised_formulas.specs.declared.step.Step.{Step}
use Rattle.polarised_formulas.specs.Formula.{Formula}
use Rattle.polarised_formulas.specs.Calculus.Rules.{RuleCalculus, LevelledIn}
use Rattle.polarised_formulas.specs.Calculus.Play.{PlaysOne, plays, Plays, plays_none, start_of}
use Rattle.polarised_formulas.proofs.Calculus.Play.{Plays-last, Plays-between, Plays-first, Plays-after, Plays-same}
use Rattle.explicit_form.specs.StepReading.{State, heading, reading, ended, mistaken, stuck, start, go, run, steps_onto, steps_of}
use Rattle.explicit_form.specs.StepLimits.{fault, AreUntold}
use Rattle.explicit_form.specs.Feeding.{step_with, done_of, pushed, is_whole}
use Rattle.explicit_form.proofs.Forward.{run-append}
use Rattle.explicit_form.proofs.Taking.{done_of-going, is_whole-step}
use Rattle.explicit_form.proofs.Refusals.{untold-go, untold-more}
use Rattle.explicit_kernel.specs.JudgmentIn.{Judgment, rejected, refused, Course, going, judged, in_front, played, closing, playing, fitting, judging, advance, course, begin, course_of, at_end, judgment}
use Rattle.explicit_kernel.proofs.Courses.{played-plays, course-judged, course-append, nothing-behind}

pub apart : (c : Bool) → c ≡ false → c ≡ true → ⊥
apart true f t = cc
apart false f t = cc

pub told-apart : (o : Option Refusal) (x : Refusal) → o ≡ None → o ≡ Some x → ⊥
told-apart None x e f = cc
told-apart (Some y) x e f = cc

-- the steps in order, in front of others
onto-append : (done ss : List Step) → steps_onto done ss ≡ steps_onto done [] ++ ss
onto-append [] ss = refl
onto-append (s ∷ done) ss =
    onto-append done (s ∷ ss) ∙ sym (append_assoc (steps_onto done []) (s ∷ []) ss) ∙ ap (λ v. v ++ ss) (sym (onto-append done (s ∷ [])))

pub steps-done : (st : State) → steps_of st ≡ steps_onto (done_of st) []
steps-done (heading w) = refl
steps-done (reading done l) = refl
steps-done (ended done) = refl
steps-done mistaken = refl
steps-done stuck = refl

module _ (C : RuleCalculus) where
  -- where a step is played it fits
  pub played-fits : (q r : List (LevelledIn C)) (s : Step) → played C s q ≡ Some r → PlaysOne C q s r
  played-fits [] r s e = cc
  played-fits ((n, c) ∷ q) r s e = by (C.premises_of s n c) refl e
    where
      by : (o : Option (List (LevelledIn C))) → C.premises_of s n c ≡ o → in_front o q ≡ Some r → PlaysOne C ((n, c) ∷ q) s r
      by None f i = cc
      by (Some ps) f i = let same : ps ++ q ≡ r = cc in subst (PlaysOne C ((n, c) ∷ q) s) same (plays f)

  pub not-played : (q : List (LevelledIn C)) (s : Step) → played C s q ≡ None → (r : List (LevelledIn C)) → PlaysOne C q s r → ⊥
  not-played q s e r one = let f = played-plays C q r s one in let no : ⊥ = cc in no

-- the steps whose lines are whole have played the goal's root to these sequents, none where the last line is read
pub record Stands (C : RuleCalculus) (goal : Formula) (st : State) (q : List (LevelledIn C)) (n : ℕ) : Type 0 where
  pub plays_to : Plays C (start_of C goal) (steps_of st) q
  pub count : length (steps_of st) ≡ n
  pub closed : is_whole st ≡ true → q ≡ []

-- what a byte at a place comes to
pub data Turn (C : RuleCalculus) (number : List ℕ → ℕ) (goal : Formula) (place : ℕ) (st : State) (q : List (LevelledIn C)) (n b : ℕ) : Course C.SequentOf → Type 0 where
  goes : (r : List (LevelledIn C)) (m : ℕ) → fault place st (go number C.logic st b) ≡ None → Stands C goal (go number C.logic st b) r m → Turn C number goal place st q n b (going (go number C.logic st b) r m)
  tells : (x : Refusal) → fault place st (go number C.logic st b) ≡ Some x → Turn C number goal place st q n b (judged (refused x n))
  misses : (s : Step) → fault place st (go number C.logic st b) ≡ None → step_with number C.logic st b ≡ Some s → ((r : List (LevelledIn C)) → PlaysOne C q s r → ⊥) → Turn C number goal place st q n b (judged (rejected (suc n) place))
  leaves : fault place st (go number C.logic st b) ≡ None → step_with number C.logic st b ≡ None → is_whole (go number C.logic st b) ≡ true → q ≢ [] → Turn C number goal place st q n b (judged (rejected (suc n) place))

-- what bytes have shown
pub data Shows (C : RuleCalculus) (number : List ℕ → ℕ) (goal : Formula) (bytes : List ℕ) : Course C.SequentOf → Type 0 where
  still : (q : List (LevelledIn C)) (n : ℕ) → AreUntold number C.logic start 0 bytes → Stands C goal (run number C.logic start bytes) q n → Shows C number goal bytes (going (run number C.logic start bytes) q n)
  here : (front : List ℕ) (b : ℕ) (more : List ℕ) (q : List (LevelledIn C)) (n : ℕ) (j : Judgment) → front ++ b ∷ more ≡ bytes → AreUntold number C.logic start 0 front → Stands C goal (run number C.logic start front) q n
      → Turn C number goal (length front) (run number C.logic start front) q n b (judged j) → Shows C number goal bytes (judged j)

module _ (C : RuleCalculus) (number : List ℕ → ℕ) where
  pub steps-pushed : (place : ℕ) (st : State) (b : ℕ) (o : Option Step) → fault place st (go number C.logic st b) ≡ None → step_with number C.logic st b ≡ o → steps_of (go number C.logic st b) ≡ steps_onto (pushed o (done_of st)) []
  steps-pushed place st b o e w =
      steps-done (go number C.logic st b) ∙ ap (λ d. steps_onto d []) (done_of-going number C.logic st b (untold-go number C.logic place st (go number C.logic st b) e) ∙ ap (λ p. pushed p (done_of st)) w)

  -- a byte that ends the line of no step
  pub steps-none : (place : ℕ) (st : State) (b : ℕ) → fault place st (go number C.logic st b) ≡ None → step_with number C.logic st b ≡ None → steps_of (go number C.logic st b) ≡ steps_of st
  steps-none place st b e w = steps-pushed place st b None e w ∙ sym (steps-done st)

  -- a byte that ends the line of a step
  pub steps-some : (place : ℕ) (st : State) (b : ℕ) (s : Step) → fault place st (go number C.logic st b) ≡ None → step_with number C.logic st b ≡ Some s → steps_of (go number C.logic st b) ≡ steps_of st ++ s ∷ []
  steps-some place st b s e w = steps-pushed place st b (Some s) e w ∙ onto-append (done_of st) (s ∷ []) ∙ ap (λ v. v ++ s ∷ []) (sym (steps-done st))

  -- the steps stay, with others behind them
  pub steps-grown : (bytes : List ℕ) (st : State) (place : ℕ) → AreUntold number C.logic st place bytes → (more : List Step) × (steps_of (run number C.logic st bytes) ≡ steps_of st ++ more)
  steps-grown [] st place h = ([], sym (append-nil (steps_of st)))
  steps-grown (b ∷ bytes) st place h = by (step_with number C.logic st b) refl (steps-grown bytes (go number C.logic st b) (suc place) h.1)
    where
      by : (o : Option Step) → step_with number C.logic st b ≡ o → (more : List Step) × (steps_of (run number C.logic (go number C.logic st b) bytes) ≡ steps_of (go number C.logic st b) ++ more)
          → (more : List Step) × (steps_of (run number C.logic (go number C.logic st b) bytes) ≡ steps_of st ++ more)
      by None w (more, g) = (more, g ∙ ap (λ v. v ++ more) (steps-none place st b h.0 w))
      by (Some s) w (more, g) = (s ∷ more, g ∙ ap (λ v. v ++ more) (steps-some place st b s h.0 w) ∙ append_assoc (steps_of st) (s ∷ []) more)

  -- of bytes in two parts
  pub untold-parts : (front : List ℕ) (b : ℕ) (more : List ℕ) (st : State) (place : ℕ) → AreUntold number C.logic st place (front ++ b ∷ more)
      → (fault (place + length front) (run number C.logic st front) (go number C.logic (run number C.logic st front) b) ≡ None) × AreUntold number C.logic (go number C.logic (run number C.logic st front) b) (suc (place + length front)) more
  untold-parts [] b more st place h =
      let e : place ≡ place + 0 = omega arith in
      (subst (λ k. fault k st (go number C.logic st b) ≡ None) e h.0, subst (λ k. AreUntold number C.logic (go number C.logic st b) (suc k) more) e h.1)
  untold-parts (c ∷ front) b more st place h =
      let e : suc place + length front ≡ place + suc (length front) = omega arith in
      let rec = untold-parts front b more (go number C.logic st c) (suc place) h.1 in
      let last = run number C.logic (go number C.logic st c) front in
      (subst (λ k. fault k last (go number C.logic last b) ≡ None) e rec.0, subst (λ k. AreUntold number C.logic (go number C.logic last b) (suc k) more) e rec.1)

  pub untold-front : (front more : List ℕ) (st : State) (place : ℕ) → AreUntold number C.logic st place (front ++ more) → AreUntold number C.logic st place front
  untold-front [] more st place h = tt
  untold-front (b ∷ front) more st place h = (h.0, untold-front front more (go number C.logic st b) (suc place) h.1)

module _ (C : RuleCalculus) (number : List ℕ → ℕ) (goal : Formula) where
  pub turn : (place : ℕ) (st : State) (q : List (LevelledIn C)) (n b : ℕ) → Stands C goal st q n → Turn C number goal place st q n b (advance C number place (going st q n) b)
  turn place st q n b h = told (fault place st next) refl
    where
      next : State
      next = go number C.logic st b

      by_none : fault place st next ≡ None → step_with number C.logic st b ≡ None → (p : List (LevelledIn C)) → q ≡ p → Turn C number goal place st q n b (closing place next p n)
      by_none e w p i = by p (subst (Plays C (start_of C goal) (steps_of next)) i (subst (λ v. Plays C (start_of C goal) v q) (sym (steps-none C number place st b e w)) h.plays_to)) i
        where
          count : length (steps_of next) ≡ n
          count = ap length (steps-none C number place st b e w) ∙ h.count

          by : (p : List (LevelledIn C)) → Plays C (start_of C goal) (steps_of next) p → q ≡ p → Turn C number goal place st q n b (closing place next p n)
          by [] k i = goes [] n e (record { plays_to = k; count = count; closed = λ _. refl })
          by (p ∷ ps) k i = whole (is_whole next) refl
            where
              whole : (c : Bool) → is_whole next ≡ c → Turn C number goal place st q n b (if c then judged (rejected (suc n) place) else going next (p ∷ ps) n)
              whole true v = leaves e w v (λ none. let no : ⊥ = cc in no)
              whole false v = goes (p ∷ ps) n e (record { plays_to = k; count = count; closed = λ t. absurd (apart (is_whole next) v t) })

      by_step : fault place st next ≡ None → (s : Step) → step_with number C.logic st b ≡ Some s → (o : Option (List (LevelledIn C))) → played C s q ≡ o → Turn C number goal place st q n b (playing place next o n)
      by_step e s w None f = misses s e w (not-played C q s f)
      by_step e s w (Some r) f = by r k l
        where
          k : Plays C (start_of C goal) (steps_of next) r
          k = subst (λ v. Plays C (start_of C goal) v r) (sym (steps-some C number place st b s e w)) (Plays-last C (start_of C goal) q r (steps_of st) s h.plays_to (played-fits C q r s f))

          l : length (steps_of next) ≡ suc n
          l = let a = length-append (steps_of st) (s ∷ []) in let c = ap length (steps-some C number place st b s e w) in let d = h.count in omega (arith, a, c, d)

          open_line : is_whole next ≡ false
          open_line = is_whole-step number C.logic st b s w

          by : (r : List (LevelledIn C)) → Plays C (start_of C goal) (steps_of next) r → length (steps_of next) ≡ suc n → Turn C number goal place st q n b (closing place next r (suc n))
          by [] k' l' = goes [] (suc n) e (record { plays_to = k'; count = l'; closed = λ _. refl })
          by (p ∷ ps) k' l' =
              subst (λ c. Turn C number goal place st q n b (if c then judged (rejected (suc (suc n)) place) else going next (p ∷ ps) (suc n))) (sym open_line)
              (goes (p ∷ ps) (suc n) e (record { plays_to = k'; count = l'; closed = λ t. absurd (apart (is_whole next) open_line t) }))

      told : (o : Option Refusal) → fault place st next ≡ o → Turn C number goal place st q n b (judging C o place next (step_with number C.logic st b) q n)
      told (Some x) e = tells x e
      told None e = step (step_with number C.logic st b) refl
        where
          step : (o : Option Step) → step_with number C.logic st b ≡ o → Turn C number goal place st q n b (fitting C place next o q n)
          step None w = by_none e w q refl
          step (Some s) w = by_step e s w (played C s q) refl

  shows-from : (bs front : List ℕ) (q : List (LevelledIn C)) (n : ℕ) → AreUntold number C.logic start 0 front → Stands C goal (run number C.logic start front) q n
      → Shows C number goal (front ++ bs) (course C number (length front) (going (run number C.logic start front) q n) bs)
  shows-from [] front q n u h = subst (λ v. Shows C number goal v (going (run number C.logic start front) q n)) (sym (append-nil front)) (still q n u h)
  shows-from (b ∷ bs) front q n u h = by (advance C number (length front) (going st q n) b) (turn (length front) st q n b h) (shows-from bs (front ++ b ∷ []))
    where
      st : State
      st = run number C.logic start front

      next : State
      next = go number C.logic st b

      Later : Type 0
      Later = (r : List (LevelledIn C)) (m : ℕ) → AreUntold number C.logic start 0 (front ++ b ∷ []) → Stands C goal (run number C.logic start (front ++ b ∷ [])) r m
          → Shows C number goal ((front ++ b ∷ []) ++ bs) (course C number (length (front ++ b ∷ [])) (going (run number C.logic start (front ++ b ∷ [])) r m) bs)

      by : (c : Course C.SequentOf) → Turn C number goal (length front) st q n b c → Later → Shows C number goal (front ++ b ∷ bs) (course C number (suc (length front)) c bs)
      by (judged j) t later = subst (Shows C number goal (front ++ b ∷ bs)) (sym (course-judged C number bs (suc (length front)) j)) (here front b bs q n j refl u h t)
      by _ (goes r m e k) later =
          let same : run number C.logic start (front ++ b ∷ []) ≡ next = run-append number C.logic start front (b ∷ []) in
          let zero : length front ≡ 0 + length front = omega arith in
          let a = length-append front (b ∷ []) in
          let long : length (front ++ b ∷ []) ≡ suc (length front) = omega (arith, a) in
          let rec = later r m (untold-more number C.logic front start 0 b u (subst (λ p. fault p st next ≡ None) zero e)) (subst (λ v. Stands C goal v r m) (sym same) k) in
          subst (λ v. Shows C number goal v (course C number (suc (length front)) (going next r m) bs)) (append_assoc front (b ∷ []) bs)
          (subst (λ p. Shows C number goal ((front ++ b ∷ []) ++ bs) (course C number p (going next r m) bs)) long
          (subst (λ v. Shows C number goal ((front ++ b ∷ []) ++ bs) (course C number (length (front ++ b ∷ [])) (going v r m) bs)) same rec))

  -- each course of bytes is one of these
  pub shows : (bytes : List ℕ) → Shows C number goal bytes (course_of C number goal bytes)
  shows bytes = shows-from bytes [] (start_of C goal) 0 tt (record { plays_to = plays_none; count = refl; closed = λ t. cc })

  -- bytes of which nothing is told, whose steps fit, show nothing
  pub stands-still : (bytes : List ℕ) (q : List (LevelledIn C)) (n : ℕ) → AreUntold number C.logic start 0 bytes → Stands C goal (run number C.logic start bytes) q n
      → course_of C number goal bytes ≡ going (run number C.logic start bytes) q n
  stands-still bytes q n u h = by (course_of C number goal bytes) (shows bytes)
    where
      clash : (front : List ℕ) (b : ℕ) (more : List ℕ) (p : List (LevelledIn C)) (m : ℕ) (c : Course C.SequentOf) → AreUntold number C.logic start 0 (front ++ b ∷ more) → Stands C goal (run number C.logic start (front ++ b ∷ more)) q n
          → Stands C goal (run number C.logic start front) p m → Turn C number goal (length front) (run number C.logic start front) p m b c → (j : Judgment) → c ≡ judged j → ⊥
      clash front b more p m c v k i t j same = turned c t same
        where
          st : State
          st = run number C.logic start front

          next : State
          next = go number C.logic st b

          parts : (fault (0 + length front) st next ≡ None) × AreUntold number C.logic next (suc (0 + length front)) more
          parts = untold-parts C number front b more start 0 v

          none : fault (length front) st next ≡ None
          none = let e : 0 + length front ≡ length front = omega arith in subst (λ l. fault l st next ≡ None) e parts.0

          last : run number C.logic start (front ++ b ∷ more) ≡ run number C.logic next more
          last = run-append number C.logic start front (b ∷ more)

          turned : (c : Course C.SequentOf) → Turn C number goal (length front) st p m b c → c ≡ judged j → ⊥
          turned _ (goes r l e a) f = let no : ⊥ = cc in no
          turned _ (tells x e) f = told-apart (fault (length front) st next) x none e
          turned _ (misses s e w unfit) f =
              let g = steps-grown C number more next (suc (0 + length front)) parts.1 in
              let all : steps_of (run number C.logic start (front ++ b ∷ more)) ≡ (steps_of st ++ s ∷ []) ++ g.0 = ap steps_of last ∙ g.1 ∙ ap (λ ss. ss ++ g.0) (steps-some C number (length front) st b s e w) in
              let between = Plays-between C (start_of C goal) q (steps_of st ++ s ∷ []) g.0 (subst (λ ss. Plays C (start_of C goal) ss q) all k.plays_to) in
              let first = Plays-first C p between.0 s [] (Plays-after C (start_of C goal) p between.0 (steps_of st) (s ∷ []) i.plays_to between.1) in
              unfit first.0 first.1
          turned _ (leaves e w whole open_list) f =
              let empty = nothing-behind C number next (suc (0 + length front)) more whole parts.1 in
              let same_state : run number C.logic start (front ++ b ∷ more) ≡ next = last ∙ ap (run number C.logic next) empty in
              let closed : q ≡ [] = k.closed (ap is_whole same_state ∙ whole) in
              let steps : steps_of (run number C.logic start (front ++ b ∷ more)) ≡ steps_of st = ap steps_of same_state ∙ steps-none C number (length front) st b e w in
              open_list (Plays-same C (start_of C goal) p q (steps_of st) i.plays_to (subst (λ ss. Plays C (start_of C goal) ss q) steps k.plays_to) ∙ closed)

      by : (c : Course C.SequentOf) → Shows C number goal bytes c → c ≡ going (run number C.logic start bytes) q n
      by _ (still p m v k) =
          let list : p ≡ q = Plays-same C (start_of C goal) p q (steps_of (run number C.logic start bytes)) k.plays_to h.plays_to in
          let count : m ≡ n = sym k.count ∙ h.count in
          ap (λ r. going (run number C.logic start bytes) r m) list ∙ ap (λ l. going (run number C.logic start bytes) q l) count
      by _ (here front b more p m j parts v k t) =
          absurd (clash front b more p m (judged j) (subst (AreUntold number C.logic start 0) (sym parts) u) (subst (λ bs. Stands C goal (run number C.logic start bs) q n) (sym parts) h) k t j refl)

  -- the byte that shows a judgment, with what comes behind it
  pub judged-at : (front : List ℕ) (b : ℕ) (more : List ℕ) (q : List (LevelledIn C)) (n : ℕ) (j : Judgment) → course_of C number goal front ≡ going (run number C.logic start front) q n
      → advance C number (length front) (going (run number C.logic start front) q n) b ≡ judged j → judgment C number goal (front ++ b ∷ more) ≡ j
  judged-at front b more q n j before shown =
      let zero : 0 + length front ≡ length front = omega arith in
      ap (at_end (length (front ++ b ∷ more)))
      (course-append C number front (b ∷ more) 0 (begin C goal)
      ∙ ap (λ p. course C number p (course_of C number goal front) (b ∷ more)) zero
      ∙ ap (λ c. course C number (length front) c (b ∷ more)) before
      ∙ ap (λ c. course C number (suc (length front)) c more) shown
      ∙ course-judged C number more (suc (length front)) j)
