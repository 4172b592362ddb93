-- What the bytes of a line show.
use Rattle.std.proofs.Common.{◌≡◌, ℕ, suc, ◌+◌, ◌≤◌, ◌⊎◌, inl, inr, Bool, true, false, if◌then◌else◌, List, [], ◌∷◌, ◌++◌, length, take, drop, Option, Some, None, refl, sym, ap, ◌∙◌, subst, arith, nat_eq, add-zero, append_assoc}
use Rattle.std.proofs.lemmas.List.{length-append}
use Rattle.fpc_base.specs.declared.refusal.Refusal.{Refusal}
use Rattle.polarised_formulas.specs.declared.step.Step.{Step}
use Rattle.polarised_formulas.specs.Calculus.Rules.{RuleCalculus, LevelledIn}
use Rattle.polarised_formulas.specs.Calculus.Play.{PlaysOne, plays}
use Rattle.explicit_form.specs.StepReading.{State, heading, reading, ended, mistaken, stuck, go, run}
use Rattle.explicit_form.specs.StepLimits.{fault, AreUntold}
use Rattle.explicit_form.specs.Feeding.{step_with, done_of, pushed, is_whole, line_length, line_in}
use Rattle.explicit_form.proofs.Taking.{done_of-going, step_with-none, is_whole-none, is_whole-step}
use Rattle.explicit_form.proofs.Refusals.{untold-go}
use Rattle.explicit_kernel.specs.JudgmentIn.{Judgment, rejected, refused, Course, going, judged, in_front, played, closing, playing, fitting, judging, advance, course}

module _ (C : RuleCalculus) where
  -- a step that plays a list replaces it so
  pub played-plays : (q r : List (LevelledIn C)) (step : Step) → PlaysOne C q step r → played C step q ≡ Some r
  played-plays _ _ step (plays {q = q} fits) = ap (λ o. in_front o q) fits

  -- a step that plays a list to none does not fit
  pub played-none : (q : List (LevelledIn C)) (step : Step) → ((r : List (LevelledIn C)) → PlaysOne C q step r → ⊥) → played C step q ≡ None
  played-none [] step never = refl
  played-none ((n, c) ∷ q) step never = by (C.premises_of step n c) refl
    where
      by : (o : Option (List (LevelledIn C))) → C.premises_of step n c ≡ o → in_front o q ≡ None
      by None e = refl
      by (Some ps) e = absurd (never (ps ++ q) (plays e))

  module _ (number : List ℕ → ℕ) where
    -- what was shown stays
    pub course-judged : (bytes : List ℕ) (place : ℕ) (j : Judgment) → course C number place (judged j) bytes ≡ judged j
    course-judged [] place j = refl
    course-judged (b ∷ bytes) place j = course-judged bytes (suc place) j

    -- bytes behind others
    pub course-append : (front more : List ℕ) (place : ℕ) (c : Course C.SequentOf) → course C number place c (front ++ more) ≡ course C number (place + length front) (course C number place c front) more
    course-append [] more place c = ap (λ n. course C number n c more) (sym (add-zero place))
    course-append (b ∷ front) more place c =
        let e : suc place + length front ≡ place + suc (length front) = omega arith in
        course-append front more (suc place) (advance C number place c b) ∙ ap (λ n. course C number n (course C number (suc place) (advance C number place c b) front) more) e

    -- the bytes in front of others have the same judgment where they show one
    pub course-stays : (front more : List ℕ) (place : ℕ) (c : Course C.SequentOf) (j : Judgment) → course C number place c front ≡ judged j → course C number place c (front ++ more) ≡ judged j
    course-stays front more place c j e = course-append front more place c ∙ ap (λ d. course C number (place + length front) d more) e ∙ course-judged more (place + length front) j

    -- behind the last line nothing comes of which nothing is told
    pub nothing-behind : (st : State) (place : ℕ) (bytes : List ℕ) → is_whole st ≡ true → AreUntold number C.logic st place bytes → bytes ≡ []
    nothing-behind st place [] w h = refl
    nothing-behind (ended done) place (b ∷ bytes) w h = absurd (untold-go number C.logic place (ended done) stuck h.0)
    nothing-behind (heading v) place (b ∷ bytes) w h = cc
    nothing-behind (reading done l) place (b ∷ bytes) w h = cc
    nothing-behind mistaken place (b ∷ bytes) w h = cc
    nothing-behind stuck place (b ∷ bytes) w h = cc

    -- a byte of which nothing is told
    advance-untold : (st : State) (place b : ℕ) (q : List (LevelledIn C)) (n : ℕ) → fault place st (go number C.logic st b) ≡ None → advance C number place (going st q n) b ≡ fitting C place (go number C.logic st b) (step_with number C.logic st b) q n
    advance-untold st place b q n e = ap (λ o. judging C o place (go number C.logic st b) (step_with number C.logic st b) q n) e

    -- it adds the step whose line it ends
    pushed-byte : (st : State) (place b : ℕ) → fault place st (go number C.logic st b) ≡ None → done_of (go number C.logic st b) ≡ pushed (step_with number C.logic st b) (done_of st)
    pushed-byte st place b e = done_of-going number C.logic st b (untold-go number C.logic place st (go number C.logic st b) e)

    -- the steps stay, with others in front
    grown : (bytes : List ℕ) (st : State) (place : ℕ) → AreUntold number C.logic st place bytes → (more : List Step) × (done_of (run number C.logic st bytes) ≡ more ++ done_of st)
    grown [] st place h = ([], refl)
    grown (b ∷ bytes) st place h = by (step_with number C.logic st b) (pushed-byte st place b h.0) (grown bytes (go number C.logic st b) (suc place) h.1)
      where
        by : (o : Option Step) → done_of (go number C.logic st b) ≡ pushed o (done_of st) → (more : List Step) × (done_of (run number C.logic (go number C.logic st b) bytes) ≡ more ++ done_of (go number C.logic st b))
            → (more : List Step) × (done_of (run number C.logic (go number C.logic st b) bytes) ≡ more ++ done_of st)
        by None e (more, g) = (more, g ∙ ap (λ d. more ++ d) e)
        by (Some s) e (more, g) = (more ++ s ∷ [], g ∙ ap (λ d. more ++ d) e ∙ sym (append_assoc more (s ∷ []) (done_of st)))

    -- no sequent is left, or the last line is not read
    abbrev pub IsOpen : State → List (LevelledIn C) → Type 0
    IsOpen st q = (q ≡ []) ⊎ (is_whole st ≡ false)

    pub closing-open : (place : ℕ) (st : State) (q : List (LevelledIn C)) (n : ℕ) → IsOpen st q → closing place st q n ≡ going st q n
    closing-open place st [] n h = refl
    closing-open place st (p ∷ q) n (inl e) = cc
    closing-open place st (p ∷ q) n (inr e) = ap (λ c. if c then judged (rejected (suc n) place) else going st (p ∷ q) n) e

    -- where bytes lead, with the step whose line they end, if any; it is told at a place that is not before the first of them
    abbrev pub Leads : ℕ → Course C.SequentOf → State → Option Step → List (LevelledIn C) → ℕ → Type 0
    Leads place c st o q n = (at : ℕ) × ((place ≤ at) × (c ≡ fitting C at st o q n))

    later : (place : ℕ) (c d : Course C.SequentOf) (st : State) (o : Option Step) (q : List (LevelledIn C)) (n : ℕ) → c ≡ d → Leads (suc place) d st o q n → Leads place c st o q n
    later place c d st o q n e (at, (low, g)) = (at, (omega arith, e ∙ g))

    -- the same number of steps, so none was added
    none-added : (more : List Step) (o : Option Step) (done : List Step) → more ++ pushed o done ≡ done → o ≡ None
    none-added more None done e = refl
    none-added more (Some s) done e =
        let l = ap length e in let a = length-append more (s ∷ done) in let no : ⊥ = omega (arith, l, a) in absurd no

    -- bytes that end no line of a step
    no-step : (bytes : List ℕ) (st : State) (place : ℕ) (q : List (LevelledIn C)) (n : ℕ) → IsOpen st q → AreUntold number C.logic st place bytes → done_of (run number C.logic st bytes) ≡ done_of st
        → Leads place (course C number place (going st q n) bytes) (run number C.logic st bytes) None q n
    no-step [] st place q n open_st h e = (place, (omega arith, sym (closing-open place st q n open_st)))
    no-step (b ∷ bytes) st place q n open_st h e =
        let next = go number C.logic st b in
        let g = grown bytes next (suc place) h.1 in
        let none : step_with number C.logic st b ≡ None = none-added g.0 (step_with number C.logic st b) (done_of st) (ap (λ d. g.0 ++ d) (sym (pushed-byte st place b h.0)) ∙ sym g.1 ∙ e) in
        let first : advance C number place (going st q n) b ≡ closing place next q n = advance-untold st place b q n h.0 ∙ ap (λ o. fitting C place next o q n) none in
        let same : done_of next ≡ done_of st = pushed-byte st place b h.0 ∙ ap (λ o. pushed o (done_of st)) none in
        by (is_whole next) refl first (e ∙ sym same) (λ w kept. no-step bytes next (suc place) q n (inr w) h.1 kept)
      where
        by : (c : Bool) → is_whole (go number C.logic st b) ≡ c → advance C number place (going st q n) b ≡ closing place (go number C.logic st b) q n → done_of (run number C.logic (go number C.logic st b) bytes) ≡ done_of (go number C.logic st b)
            → (is_whole (go number C.logic st b) ≡ false → done_of (run number C.logic (go number C.logic st b) bytes) ≡ done_of (go number C.logic st b) → Leads (suc place) (course C number (suc place) (going (go number C.logic st b) q n) bytes) (run number C.logic (go number C.logic st b) bytes) None q n)
            → Leads place (course C number (suc place) (advance C number place (going st q n) b) bytes) (run number C.logic (go number C.logic st b) bytes) None q n
        by false w first same rest =
            later place (course C number (suc place) (advance C number place (going st q n) b) bytes) (course C number (suc place) (going (go number C.logic st b) q n) bytes) (run number C.logic (go number C.logic st b) bytes) None q n
            (ap (λ d. course C number (suc place) d bytes) (first ∙ closing-open place (go number C.logic st b) q n (inr w)))
            (rest w same)
        by true w first same rest =
            let empty = nothing-behind (go number C.logic st b) (suc place) bytes w h.1 in
            (place, (omega arith, ap (λ bs. course C number (suc place) (advance C number place (going st q n) b) bs) empty ∙ first ∙ ap (λ bs. closing place (run number C.logic (go number C.logic st b) bs) q n) (sym empty)))

    -- the one step that was added
    one-added : (more : List Step) (t s : Step) (done : List Step) → more ++ t ∷ done ≡ s ∷ done → (more ≡ []) × (t ≡ s)
    one-added [] t s done e = (refl, cc)
    one-added (u ∷ more) t s done e =
        let l = ap length e in let a = length-append more (t ∷ done) in let no : ⊥ = omega (arith, l, a) in absurd no

    -- bytes that end the line of a step
    some-step : (bytes : List ℕ) (st : State) (place : ℕ) (q : List (LevelledIn C)) (n : ℕ) (s : Step) → is_whole st ≡ false → AreUntold number C.logic st place bytes → done_of (run number C.logic st bytes) ≡ s ∷ done_of st
        → Leads place (course C number place (going st q n) bytes) (run number C.logic st bytes) (Some s) q n
    some-step [] st place q n s open_st h e = let l = ap length e in let no : ⊥ = omega (arith, l) in absurd no
    some-step (b ∷ bytes) st place q n s open_st h e = by (step_with number C.logic st b) refl (λ w kept. some-step bytes (go number C.logic st b) (suc place) q n s w h.1 kept)
      where
        next : State
        next = go number C.logic st b

        -- the step ends here: it fits or not, and the rest ends none
        here : (t : Step) → step_with number C.logic st b ≡ Some t → (t ≡ s) → done_of (run number C.logic next bytes) ≡ done_of next → (r : Option (List (LevelledIn C))) → played C s q ≡ r
            → Leads place (course C number (suc place) (advance C number place (going st q n) b) bytes) (run number C.logic next bytes) (Some s) q n
        here t with_t is same None fits =
            let first : advance C number place (going st q n) b ≡ playing place next None n = advance-untold st place b q n h.0 ∙ ap (λ o. fitting C place next o q n) (with_t ∙ ap Some is) ∙ ap (λ o. playing place next o n) fits in
            (place, (omega arith, ap (λ d. course C number (suc place) d bytes) first ∙ course-judged bytes (suc place) (rejected (suc n) place) ∙ ap (λ o. playing place (run number C.logic next bytes) o n) (sym fits)))
        here t with_t is same (Some r) fits =
            let w = is_whole-step number C.logic st b t with_t in
            let first : advance C number place (going st q n) b ≡ going next r (suc n) =
            advance-untold st place b q n h.0 ∙ ap (λ o. fitting C place next o q n) (with_t ∙ ap Some is) ∙ ap (λ o. playing place next o n) fits ∙ closing-open place next r (suc n) (inr w)
            in
            let rest = no-step bytes next (suc place) r (suc n) (inr w) h.1 same in
            (rest.0, (let low = rest.1.0 in omega (arith, low), ap (λ d. course C number (suc place) d bytes) first ∙ rest.1.1 ∙ ap (λ o. playing rest.0 (run number C.logic next bytes) o n) (sym fits)))

        by : (o : Option Step) → step_with number C.logic st b ≡ o
            → (is_whole next ≡ false → done_of (run number C.logic next bytes) ≡ s ∷ done_of next → Leads (suc place) (course C number (suc place) (going next q n) bytes) (run number C.logic next bytes) (Some s) q n)
            → Leads place (course C number (suc place) (advance C number place (going st q n) b) bytes) (run number C.logic next bytes) (Some s) q n
        by (Some t) with_t rest =
            let g = grown bytes next (suc place) h.1 in
            let pushed_t : done_of next ≡ t ∷ done_of st = pushed-byte st place b h.0 ∙ ap (λ o. pushed o (done_of st)) with_t in
            let one = one-added g.0 t s (done_of st) (ap (λ d. g.0 ++ d) (sym pushed_t) ∙ sym g.1 ∙ e) in
            here t with_t one.1 (g.1 ∙ ap (λ m. m ++ done_of next) one.0) (played C s q) refl
        by None with_t rest =
            let same : done_of next ≡ done_of st = pushed-byte st place b h.0 ∙ ap (λ o. pushed o (done_of st)) with_t in
            still (is_whole next) refl same (advance-untold st place b q n h.0 ∙ ap (λ o. fitting C place next o q n) with_t)
          where
            still : (c : Bool) → is_whole next ≡ c → done_of next ≡ done_of st → advance C number place (going st q n) b ≡ closing place next q n
                → Leads place (course C number (suc place) (advance C number place (going st q n) b) bytes) (run number C.logic next bytes) (Some s) q n
            still false w same first =
                later place (course C number (suc place) (advance C number place (going st q n) b) bytes) (course C number (suc place) (going next q n) bytes) (run number C.logic next bytes) (Some s) q n
                (ap (λ d. course C number (suc place) d bytes) (first ∙ closing-open place next q n (inr w)))
                (rest w (e ∙ ap (λ d. s ∷ d) (sym same)))
            still true w same first =
                let empty = nothing-behind next (suc place) bytes w h.1 in
                let l = ap length (ap (λ bs. done_of (run number C.logic next bs)) (sym empty) ∙ e) in let m = ap length same in let no : ⊥ = omega (arith, l, m) in absurd no

    -- the bytes of a line, with the step that they end, if any
    pub line-leads : (bytes : List ℕ) (st : State) (place : ℕ) (q : List (LevelledIn C)) (n : ℕ) (o : Option Step) → is_whole st ≡ false → AreUntold number C.logic st place bytes → done_of (run number C.logic st bytes) ≡ pushed o (done_of st)
        → Leads place (course C number place (going st q n) bytes) (run number C.logic st bytes) o q n
    line-leads bytes st place q n None w h e = no-step bytes st place q n (inr w) h e
    line-leads bytes st place q n (Some s) w h e = some-step bytes st place q n s w h e

    -- a refusal that is told in a line is shown, and no step of the line has fitted
    pub line-refused : (bytes front : List ℕ) (b : ℕ) (more : List ℕ) (st : State) (place : ℕ) (q : List (LevelledIn C)) (n : ℕ) (x : Refusal) → front ++ b ∷ more ≡ line_in bytes → AreUntold number C.logic st place front
        → fault (place + length front) (run number C.logic st front) (go number C.logic (run number C.logic st front) b) ≡ Some x → course C number place (going st q n) bytes ≡ judged (refused x n)
    line-refused [] [] b more st place q n x e h told = cc
    line-refused [] (c ∷ front) b more st place q n x e h told = cc
    line-refused (d ∷ bytes) [] b more st place q n x e h told =
        let same : b ≡ d = first (nat_eq d 10) e in
        let here : fault place st (go number C.logic st d) ≡ Some x = subst (λ a. fault place st (go number C.logic st a) ≡ Some x) same (subst (λ m. fault m st (go number C.logic st b) ≡ Some x) (add-zero place) told) in
        ap (λ o. course C number (suc place) (judging C o place (go number C.logic st d) (step_with number C.logic st d) q n) bytes) here ∙ course-judged bytes (suc place) (refused x n)
      where
        first : (c : Bool) → b ∷ more ≡ take (if c then 1 else suc (line_length bytes)) (d ∷ bytes) → b ≡ d
        first true e' = cc
        first false e' = cc
    line-refused (d ∷ bytes) (c ∷ front) b more st place q n x e h told =
        by (nat_eq d 10) refl e (λ rest untold told'. line-refused bytes front b more (go number C.logic st d) (suc place) q n x rest untold told')
      where
        by : (t : Bool) → nat_eq d 10 ≡ t → c ∷ (front ++ b ∷ more) ≡ take (if t then 1 else suc (line_length bytes)) (d ∷ bytes)
            → (front ++ b ∷ more ≡ line_in bytes → AreUntold number C.logic (go number C.logic st d) (suc place) front
            → fault (suc place + length front) (run number C.logic (go number C.logic st d) front) (go number C.logic (run number C.logic (go number C.logic st d) front) b) ≡ Some x
            → course C number (suc place) (going (go number C.logic st d) q n) bytes ≡ judged (refused x n))
            → course C number place (going st q n) (d ∷ bytes) ≡ judged (refused x n)
        by true t e' on = absurd (no front (ap (λ xs. drop 1 xs) e'))
          where
            no : (f : List ℕ) → f ++ b ∷ more ≡ [] → ⊥
            no [] g = cc
            no (y ∷ f) g = cc
        by false t e' on =
            let same : c ≡ d = cc in
            let rest : front ++ b ∷ more ≡ line_in bytes = ap (λ xs. drop 1 xs) e' in
            let untold : AreUntold number C.logic st place (d ∷ front) = subst (λ a. AreUntold number C.logic st place (a ∷ front)) same h in
            let next = go number C.logic st d in
            let m : place + suc (length front) ≡ suc place + length front = omega arith in
            let told' : fault (suc place + length front) (run number C.logic next front) (go number C.logic (run number C.logic next front) b) ≡ Some x =
            subst (λ k. fault k (run number C.logic next front) (go number C.logic (run number C.logic next front) b) ≡ Some x) m
            (subst (λ a. fault (place + suc (length front)) (run number C.logic (go number C.logic st a) front) (go number C.logic (run number C.logic (go number C.logic st a) front) b) ≡ Some x) same told)
            in
            let first : advance C number place (going st q n) d ≡ going next q n =
            advance-untold st place d q n untold.0 ∙ ap (λ o. fitting C place next o q n) (step_with-none number C.logic st d t) ∙ closing-open place next q n (inr (is_whole-none number C.logic st d t))
            in
            ap (λ u. course C number (suc place) u bytes) first ∙ on rest untold.1 told'
