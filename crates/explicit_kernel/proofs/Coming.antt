-- The check of a certificate goes on behind a line, or stops in it.
use Rattle.std.proofs.Common.{◌≡◌, ◌≢◌, ℕ, suc, ◌+◌, ◌<◌, ◌≤◌, ◌⊎◌, inl, inr, Bool, true, false, if◌then◌else◌, List, [], ◌∷◌, ◌++◌, length, take, drop, Option, Some, None, Ok, Err, refl, sym, ap, ◌∙◌, subst, arith, nat_le, add-one, zero-add, append_assoc}
use Rattle.std.proofs.lemmas.Bool.Decides.{nat_tests}
use Rattle.std.proofs.lemmas.List.{length-append, length-take-le, take-append-drop}
use Rattle.fpc_base.specs.declared.refusal.Code.{Code}
use Rattle.fpc_base.specs.declared.refusal.Code.TheVariants.{TooLarge}
use Rattle.fpc_base.specs.declared.refusal.Refusal.{Refusal}
use Rattle.fpc_terms.specs.Name.{Agrees, AreDifferent, Grows}
use Rattle.polarised_formulas.specs.declared.logic.Logic.{Logic}
use Rattle.polarised_formulas.specs.declared.logic.Logic.TheVariants.{Lkf, Ljf}
use Rattle.polarised_formulas.specs.declared.step.Step.{Step}
use Rattle.polarised_formulas.specs.Formula.{Formula}
use Rattle.polarised_formulas.specs.Numbering.{number_in}
use Rattle.polarised_formulas.proofs.Numberings.{Agrees-number_in}
use Rattle.polarised_formulas.proofs.Standing.{Agrees-grows}
use Rattle.polarised_formulas.specs.Calculus.Rules.{RuleCalculus, LevelledIn}
use Rattle.polarised_formulas.specs.Calculus.Lawful.{AreLow}
use Rattle.explicit_form.specs.StepText.{header_word}
use Rattle.explicit_form.specs.StepReading.{other as other_logic, State, heading, reading, ended, mistaken, stuck, start, go, run}
use Rattle.explicit_form.specs.StepLaws.{IsGoing}
use Rattle.explicit_form.specs.StepLimits.{most_bytes, state_limit, told_at, byte_fault, fault, AreUntold}
use Rattle.explicit_form.specs.Feeding.{HasRead, IsFed, done_of, is_whole}
use Rattle.explicit_form.proofs.Forward.{run-append}
use Rattle.explicit_form.proofs.Refusals.{word_ends, untold-going}
use Rattle.explicit_kernel.specs.JudgmentIn.{Judgment, rejected, going, judged, closing, playing, fitting, course, course_of, begin}
use Rattle.explicit_kernel.specs.Progress.{Follows, IsUnfit}
use Rattle.explicit_kernel.specs.VerdictIn.{HasFitted}
use Rattle.explicit_kernel.specs.Check.{HasCome, IsStopped, IsFollowed, Ends, stop_of}
use Rattle.explicit_kernel.specs.declared.check.Stop.{Stop}
use Rattle.explicit_kernel.specs.declared.check.Stop.TheVariants.{Rejected, Refused, OutOfMemory}
use Rattle.explicit_form.specs.declared.step_reader.StepFault.TheVariants.{Refused as ReaderRefused, OutOfMemory as ReaderNoMemory}
use Rattle.explicit_form.specs.declared.step_reader.StepFault.{StepFault}
use Rattle.explicit_form.specs.declared.step_reader.StepReader.{StepReader}
use Rattle.explicit_kernel.proofs.Courses.{played-plays, played-none, course-append, course-stays, IsOpen, closing-open, Leads, line-leads, line-refused, nothing-behind}

-- the word of either logic has nine letters with what stands before it
word-nine : (logic : Logic) → length (header_word logic) ≡ 9
word-nine Lkf = refl
word-nine Ljf = refl

module _ (C : RuleCalculus) where
  -- a step that was played leads on
  fitting-follows : (number : List ℕ → ℕ) (at : ℕ) (st : State) (o : Option Step) (q : List (LevelledIn C)) (n : ℕ) (r : List (LevelledIn C)) (m : ℕ) → Follows C o q n r m → IsOpen C number st r → fitting C at st o q n ≡ going st r m
  fitting-follows number at st None q n r m (e, f) h = rw (e, f) (closing-open C number at st q n (subst (IsOpen C number st) e h))
  fitting-follows number at st (Some step) q n r m (one, f) h =
      ap (λ o. playing at st o n) (played-plays C q r step one) ∙ closing-open C number at st r (suc n) h ∙ ap (going st r) (sym (add-one n) ∙ sym f)

  -- at most one step is counted
  follows-few : (o : Option Step) (q : List (LevelledIn C)) (n : ℕ) (r : List (LevelledIn C)) (m : ℕ) → Follows C o q n r m → m ≤ n + 1
  follows-few None q n r m (e, f) = omega (arith, f)
  follows-few (Some step) q n r m (one, f) = omega (arith, f)

  -- one that does not fit is rejected
  fitting-unfit : (at : ℕ) (st : State) (o : Option Step) (q : List (LevelledIn C)) (n : ℕ) → IsUnfit C o q → fitting C at st o q n ≡ judged (rejected (suc n) at)
  fitting-unfit at st None q n h = absurd h
  fitting-unfit at st (Some step) q n h = ap (λ o. playing at st o n) (played-none C q step h)

  closing-left : (at : ℕ) (st : State) (q : List (LevelledIn C)) (n : ℕ) → q ≢ [] → is_whole st ≡ true → closing at st q n ≡ judged (rejected (suc n) at)
  closing-left at st [] n some w = absurd (some refl)
  closing-left at st (p ∷ q) n some w = ap (λ c. if c then judged (rejected (suc n) at) else going st (p ∷ q) n) w

  -- the step that is missing after the last line is rejected
  fitting-left : (at : ℕ) (st : State) (o : Option Step) (q : List (LevelledIn C)) (n : ℕ) (r : List (LevelledIn C)) (m : ℕ) → Follows C o q n r m → r ≢ [] → is_whole st ≡ true → fitting C at st o q n ≡ judged (rejected (suc m) at)
  fitting-left at st None q n r m (e, f) some w = closing-left at st q n (λ z. some (e ∙ z)) w ∙ ap (λ k. judged (rejected (suc k) at)) (sym f)
  fitting-left at st (Some step) q n r m (one, f) some w =
      ap (λ o. playing at st o n) (played-plays C q r step one) ∙ closing-left at st r (suc n) some w ∙ ap (λ k. judged (rejected (suc k) at)) (sym (add-one n) ∙ sym f)

  module _ (number : List ℕ → ℕ) where
    -- nothing is told of bytes behind others
    untold-behind : (front more : List ℕ) (st : State) (place : ℕ) → AreUntold number C.logic st place (front ++ more) → AreUntold number C.logic (run number C.logic st front) (place + length front) more
    untold-behind [] more st place h = let e : place ≡ place + 0 = omega arith in subst (λ n. AreUntold number C.logic st n more) e h
    untold-behind (b ∷ front) more st place h =
        let e : suc place + length front ≡ place + suc (length front) = omega arith in
        subst (λ n. AreUntold number C.logic (run number C.logic (go number C.logic st b) front) n more) e (untold-behind front more (go number C.logic st b) (suc place) h.1)

    low-byte : (place : ℕ) (st next : State) → fault place st next ≡ None → place < most_bytes
    low-byte place st next e = by (nat_le most_bytes place) refl e
      where
        by : (c : Bool) → nat_le most_bytes place ≡ c → (if c then Some (record { code = TooLarge; at = place }) else byte_fault place st next) ≡ None → place < most_bytes
        by true t h = cc
        by false t h = grind (arith, nat_tests)

    -- bytes of which nothing is told are not too many
    untold-short : (bytes : List ℕ) (st : State) (place : ℕ) → AreUntold number C.logic st place bytes → place ≤ most_bytes → place + length bytes ≤ most_bytes
    untold-short [] st place h low = omega arith
    untold-short (b ∷ bytes) st place h low =
        let l = low-byte place st (go number C.logic st b) h.0 in
        let r = untold-short bytes (go number C.logic st b) (suc place) h.1 (omega (arith, l)) in omega (arith, r)

    -- where bytes come of which nothing is told, the last line was not read before
    open-before : (bytes : List ℕ) (st : State) (place : ℕ) → 0 < length bytes → AreUntold number C.logic st place bytes → is_whole st ≡ false
    open-before bytes st place some h = by (is_whole st) refl
      where
        by : (c : Bool) → is_whole st ≡ c → c ≡ false
        by true w = let e = ap length (nothing-behind C number st place bytes w h) in let no : ⊥ = omega (arith, e) in absurd no
        by false w = refl

    -- a refusal lies at its byte, but for the word of the other calculus, which lies two bytes before
    refusal-place : (front : List ℕ) (b : ℕ) (x : Refusal) → IsGoing (run number C.logic start front) → fault (length front) (run number C.logic start front) (go number C.logic (run number C.logic start front) b) ≡ Some x → length front ≤ x.at + 2
    refusal-place front b x h told = by (nat_le most_bytes (length front)) told
      where
        limited : (o : Option Code) → told_at (length front) o ≡ Some x → length front ≤ x.at + 2
        limited None e = cc
        limited (Some code) e = let same : length front ≡ x.at = cc in omega (arith, same)

        other : (next : State) → go number C.logic (run number C.logic start front) b ≡ next → byte_fault (length front) (run number C.logic start front) next ≡ Some x → length front ≤ x.at + 2
        other (heading w) g e = limited (state_limit (run number C.logic start front) (heading w)) e
        other (reading done l) g e = limited (state_limit (run number C.logic start front) (reading done l)) e
        other (ended done) g e = limited (state_limit (run number C.logic start front) (ended done)) e
        other mistaken g e =
            let same : 6 ≡ x.at = cc in
            let word = ap length (word_ends number C.logic front b h g) in
            let nine : length (header_word (other_logic C.logic)) ≡ 9 = word-nine (other_logic C.logic) in
            let l = length-append front (b ∷ []) in omega (arith, same, word, nine, l)
        other stuck g e = let same : length front ≡ x.at = cc in omega (arith, same)

        by : (c : Bool) → (if c then Some (record { code = TooLarge; at = length front }) else byte_fault (length front) (run number C.logic start front) (go number C.logic (run number C.logic start front) b)) ≡ Some x → length front ≤ x.at + 2
        by true e = let same : length front ≡ x.at = cc in omega (arith, same)
        by false e = other (go number C.logic (run number C.logic start front) b) refl e

  module _ (known names : List (List ℕ)) (goal : Formula) (before bytes : List ℕ) (old mid : StepReader) (q : List (LevelledIn C)) (fitted : ℕ) (come : HasCome C known goal before old q fitted) (grows : Grows known names) where
    -- the bytes before show nothing, and the steps that fitted are theirs
    fitted-before : (m : ℕ) → m ≡ fitted → (number : List ℕ → ℕ) → Agrees number names → HasFitted C number goal (before ++ bytes) m
    fitted-before m e number agrees = record {
      front = before;
      rest = bytes;
      parts = refl;
      read = run number C.logic start before;
      pending = q;
      shows = come.course number (Agrees-grows known names number grows agrees) ∙ ap (going (run number C.logic start before) q) (sym e);
    }

    -- what bytes after the earlier ones show
    here : (number : List ℕ → ℕ) → Agrees number names → (more : List ℕ) → course_of C number goal (before ++ more) ≡ course C number (length before) (going (run number C.logic start before) q fitted) more
    here number agrees more =
        course-append C number before more 0 (begin C goal)
        ∙ ap (λ c. course C number (0 + length before) c more) (come.course number (Agrees-grows known names number grows agrees))
        ∙ ap (λ n. course C number n (going (run number C.logic start before) q fitted) more) (zero-add (length before))

    module _ (n : ℕ) (fed : IsFed C.logic names before bytes (Ok n) mid) (moves : 0 < n) (within : n ≤ length bytes) where
      line : (number : List ℕ → ℕ) → Agrees number names → Leads C number (length before) (course_of C number goal (before ++ take n bytes)) (run number C.logic start (before ++ take n bytes)) mid.step q fitted
      line number agrees =
          let ran = run-append number C.logic start before (take n bytes) in
          let untold : AreUntold number C.logic (run number C.logic start before) (length before) (take n bytes) =
          subst (λ m. AreUntold number C.logic (run number C.logic start before) m (take n bytes)) (zero-add (length before)) (untold-behind number before (take n bytes) start 0 (fed.0.untold number agrees))
          in
          let some : 0 < length (take n bytes) = (let l = length-take-le n bytes within in omega (arith, l)) in
          let leads = line-leads C number (take n bytes) (run number C.logic start before) (length before) q fitted mid.step
          (open-before number (take n bytes) (run number C.logic start before) (length before) some untold) untold (ap done_of (sym ran) ∙ fed.1 number agrees)
          in
          (leads.0, (leads.1.0, here number agrees (take n bytes) ∙ leads.1.1 ∙ ap (λ st. fitting C leads.0 st mid.step q fitted) (sym ran)))

      -- the check goes on behind the line
      pub come-on : (after : StepReader) (r : List (LevelledIn C)) (now : ℕ) → AreDifferent names → HasRead C.logic names (before ++ take n bytes) after → IsFollowed C mid.step q fitted after r now (Ok tt) → AreLow C now r → HasCome C names goal (before ++ take n bytes) after r now
      come-on after r now differ read followed low = record {
        read = read;
        course = λ number agrees.
            let leads = line number agrees in
            leads.1.1 ∙ fitting-follows number leads.0 (run number C.logic start (before ++ take n bytes)) mid.step q fitted r now followed.0 (open_end number agrees followed.1);
        low = low;
        few = let f = come.few in let more = follows-few mid.step q fitted r now followed.0 in let l = length-append before (take n bytes) in let t = length-take-le n bytes within in omega (arith, f, more, l, t);
        short =
            let number = number_in (length names) names in
            let s = untold-short number (before ++ take n bytes) start 0 (fed.0.untold number (Agrees-number_in (length names) names differ)) (omega arith) in omega (arith, s);
      }
        where
          open_end : (number : List ℕ → ℕ) → Agrees number names → (r ≡ []) ⊎ Ends C.logic false after → IsOpen C number (run number C.logic start (before ++ take n bytes)) r
          open_end number agrees (inl e) = inl e
          open_end number agrees (inr e) = inr (e names (before ++ take n bytes) number read agrees)

      -- a step is rejected where its line ends
      pub rejected-in : (after : StepReader) (r : List (LevelledIn C)) (now : ℕ) (stop : Stop) → HasRead C.logic names (before ++ take n bytes) after → IsFollowed C mid.step q fitted after r now (Err stop) → IsStopped C names goal (length before) (before ++ bytes) now stop
      rejected-in after r now (Refused x) read h = absurd h
      rejected-in after r now OutOfMemory read h = fitted-before now h.1
      rejected-in after r now (Rejected k) read (is, why) = (sym is, λ number agrees. by number agrees (line number agrees) why)
        where
          st : (number : List ℕ → ℕ) → State
          st number = run number C.logic start (before ++ take n bytes)

          whole : before ++ bytes ≡ (before ++ take n bytes) ++ drop n bytes
          whole = ap (λ bs. before ++ bs) (sym (take-append-drop n bytes)) ∙ sym (append_assoc before (take n bytes) (drop n bytes))

          shown : (number : List ℕ → ℕ) (j : Judgment) → course_of C number goal (before ++ take n bytes) ≡ judged j → course_of C number goal (before ++ bytes) ≡ judged j
          shown number j e = ap (course_of C number goal) whole ∙ course-stays C number (before ++ take n bytes) (drop n bytes) 0 (begin C goal) j e

          by : (number : List ℕ → ℕ) → Agrees number names → Leads C number (length before) (course_of C number goal (before ++ take n bytes)) (st number) mid.step q fitted
              → (IsUnfit C mid.step q × (now ≡ fitted)) ⊎ (Follows C mid.step q fitted r now × (r ≢ []) × Ends C.logic true after)
              → (place : ℕ) × ((course_of C number goal (before ++ bytes) ≡ judged (rejected k place)) × (length before ≤ place))
          by number agrees leads (inl (unfit, f)) =
              let e : suc fitted ≡ k = omega (arith, is, f) in
              (leads.0, (shown number (rejected k leads.0) (leads.1.1 ∙ fitting-unfit leads.0 (st number) mid.step q fitted unfit ∙ ap (λ m. judged (rejected m leads.0)) e), leads.1.0))
          by number agrees leads (inr (follows, some, ends)) =
              let e : suc now ≡ k = omega (arith, is) in
              let w : is_whole (st number) ≡ true = ends names (before ++ take n bytes) number read agrees in
              (leads.0, (shown number (rejected k leads.0) (leads.1.1 ∙ fitting-left leads.0 (st number) mid.step q fitted r now follows some w ∙ ap (λ m. judged (rejected m leads.0)) e), leads.1.0))

    -- a refusal is told in the line
    refused-in : (x : Refusal) → IsFed C.logic names before bytes (Err (ReaderRefused x)) mid → IsStopped C names goal (length before) (before ++ bytes) fitted (Refused x)
    refused-in x fed = λ number agrees.
        let told = fed number agrees in
        let agrees_then = Agrees-grows known names number grows agrees in
        let st = run number C.logic start before in
        let ran : run number C.logic start (before ++ told.front) ≡ run number C.logic st told.front = run-append number C.logic start before told.front in
        let long = length-append before told.front in
        let is_going : IsGoing (run number C.logic start (before ++ told.front)) =
        subst IsGoing (sym ran) (untold-going number C.logic told.front st (length before) (untold-going number C.logic before start 0 tt (come.read.untold number agrees_then)) told.untold)
        in
        let place = refusal-place number (before ++ told.front) told.byte x is_going
        (subst (λ s. fault (length (before ++ told.front)) s (go number C.logic s told.byte) ≡ Some x) (sym ran) (subst (λ n. fault n (run number C.logic st told.front) (go number C.logic (run number C.logic st told.front) told.byte) ≡ Some x) (sym long) told.told))
        in (
          here number agrees bytes
              ∙ line-refused C number bytes told.front told.byte told.more st (length before) q fitted x told.parts told.untold told.told,
          omega (arith, place, long),
        )

    -- what the reader tells in the line
    pub told-in : (f : StepFault) → IsFed C.logic names before bytes (Err f) mid → IsStopped C names goal (length before) (before ++ bytes) fitted (stop_of f)
    told-in (ReaderRefused x) fed = refused-in x fed
    told-in ReaderNoMemory fed = fitted-before fitted refl
