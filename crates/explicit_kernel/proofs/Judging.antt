-- What is told where the check of a certificate ends or stops.
use Rattle.std.proofs.Common.{◌≡◌, ℕ, ◌+◌, ◌-◌, ◌≤◌, inl, inr, List, [], ◌++◌, length, take, drop, Option, Some, None, Result, Ok, Err, IfOk, refl, sym, ap, ◌∙◌, subst, arith, zero-add, append_assoc, append-nil}
use Rattle.std.proofs.lemmas.List.{length-append, length-drop, take_all, take-append-drop}
use Rattle.std.proofs.Math.Seq.{take-add}
use Rattle.fpc_base.specs.Outside.{TakesFront, IsAtEnd}
use Rattle.fpc_base.proofs.Moves.{TakesFront-nothing, TakesFront-more}
use Rattle.fpc_base.specs.declared.refusal.Code.TheVariants.{Unexpected}
use Rattle.fpc_base.specs.declared.refusal.Refusal.{Refusal}
use Rattle.fpc_terms.specs.Name.{Agrees, AreDifferent}
use Rattle.polarised_formulas.specs.Formula.{Formula, IsClosed}
use Rattle.polarised_formulas.specs.Numbering.{number_in, text_in}
use Rattle.polarised_formulas.proofs.Numberings.{GivesBack-number_in, Agrees-number_in}
use Rattle.explicit_form.specs.StepReading.{State, heading, reading, ended, mistaken, stuck, start, run}
use Rattle.explicit_form.specs.StepLimits.{read, refused as outcome_refused, outcome, outcome_at_end}
use Rattle.explicit_form.specs.Feeding.{IsFinished}
use Rattle.explicit_form.specs.declared.step_reader.StepFault.{StepFault}
use Rattle.explicit_form.specs.declared.step_reader.StepFault.TheVariants.{Refused as ReaderRefused, OutOfMemory as ReaderNoMemory}
use Rattle.explicit_form.proofs.Refusals.{untold-outcome}
use Rattle.polarised_formulas.specs.Calculus.Rules.{RuleCalculus, LevelledIn}
use Rattle.polarised_formulas.specs.Calculus.Lawful.{IsLawful}
use Rattle.polarised_formulas.specs.Calculus.Play.{start_of}
use Rattle.explicit_kernel.specs.JudgmentIn.{accepted, rejected, refused, going, judged, at_end, course_of, judgment}
use Rattle.explicit_kernel.specs.Check.{HasCome, IsStopped, IsFinal, stop_of, IsAnswerTo}
use Rattle.explicit_kernel.specs.VerdictIn.{HasFitted, IsJudged, IsRight}
use Rattle.explicit_kernel.proofs.JudgmentLaws.{accepted_is_spelled}
use Rattle.explicit_form.specs.declared.step_reader.StepReader.{StepReader}
use Rattle.explicit_kernel.specs.declared.check.Stop.{Stop}
use Rattle.explicit_kernel.specs.declared.check.Stop.TheVariants.{Rejected, Refused, OutOfMemory}
use Rattle.explicit_kernel.specs.declared.verify.Verdict.{Verdict}
use Rattle.explicit_kernel.specs.declared.verify.Verdict.TheVariants.{Accepted, Rejected as RejectedAt}
use Rattle.explicit_kernel.specs.declared.verify.VerifyRefusal.{VerifyRefusal}
use Rattle.explicit_kernel.specs.declared.verify.VerifyRefusal.TheVariants.{ReadFault, OutOfMemory as NoMemory}

-- the rest of a piece behind some of its bytes
pub rest-is : (piece : List ℕ) (fed : ℕ) → take (length piece - fed) (drop fed piece) ≡ drop fed piece
rest-is piece fed = let l = length-drop fed piece in take_all (length piece - fed) (drop fed piece) (omega (arith, l))

pub whole-is : (before piece : List ℕ) (fed : ℕ) → (before ++ take fed piece) ++ take (length piece - fed) (drop fed piece) ≡ before ++ piece
whole-is before piece fed =
    ap (λ bs. (before ++ take fed piece) ++ bs) (rest-is piece fed) ∙ append_assoc before (take fed piece) (drop fed piece) ∙ ap (λ bs. before ++ bs) (take-append-drop fed piece)

IsAtEnd-nothing : (old new : Option (List ℕ)) → IsAtEnd old → TakesFront old [] new → IsAtEnd new
IsAtEnd-nothing None new h t = rw t tt
IsAtEnd-nothing (Some x) None h t = tt
IsAtEnd-nothing (Some x) (Some y) h t = sym t ∙ h

module _ (C : RuleCalculus) where
  module _ (names : List (List ℕ)) (goal : Formula) (bytes : List ℕ) (reader : StepReader) (q : List (LevelledIn C)) (m : ℕ) (come : HasCome C names goal bytes reader q m) where
    end-of : (number : List ℕ → ℕ) → Agrees number names → outcome number C.logic start 0 bytes ≡ outcome_at_end (length bytes) (run number C.logic start bytes)
    end-of number agrees =
        ap (outcome number C.logic start 0) (sym (append-nil bytes)) ∙ untold-outcome number C.logic bytes [] start 0 (come.read.untold number agrees)
        ∙ ap (λ n. outcome_at_end n (run number C.logic start bytes)) (zero-add (length bytes))

    ends-so : (number : List ℕ → ℕ) → Agrees number names → judgment C number goal bytes ≡ at_end (length bytes) (going (run number C.logic start bytes) q m)
    ends-so number agrees = ap (at_end (length bytes)) (come.course number agrees)

    -- a whole certificate is accepted
    pub accepted-at-end : (number : List ℕ → ℕ) → Agrees number names → IsFinished number C.logic bytes (Ok tt) → judgment C number goal bytes ≡ accepted m
    accepted-at-end number agrees h = ends-so number agrees ∙ by (run number C.logic start bytes) (sym (end-of number agrees) ∙ h)
      where
        by : {o : _} (st : State) → outcome_at_end (length bytes) st ≡ read o → at_end (length bytes) (going st q m) ≡ accepted m
        by (heading w) e = cc
        by (reading done l) e = cc
        by (ended done) e = refl
        by mistaken e = cc
        by stuck e = cc

    unfinished : (number : List ℕ → ℕ) → Agrees number names → (x : Refusal) → IsFinished number C.logic bytes (Err (ReaderRefused x)) → (x ≡ record { code = Unexpected; at = length bytes }) × (judgment C number goal bytes ≡ refused x m)
    unfinished number agrees x h = let p = by (run number C.logic start bytes) (sym (end-of number agrees) ∙ h) in (p.0, ends-so number agrees ∙ p.1)
      where
        of : (st : State) → at_end (length bytes) (going st q m) ≡ refused (record { code = Unexpected; at = length bytes }) m → outcome_refused (record { code = Unexpected; at = length bytes }) ≡ outcome_refused x
            → (x ≡ record { code = Unexpected; at = length bytes }) × (at_end (length bytes) (going st q m) ≡ refused x m)
        of st g e = let same : record { code = Unexpected; at = length bytes } ≡ x = cc in (sym same, g ∙ ap (λ r. refused r m) same)

        by : (st : State) → outcome_at_end (length bytes) st ≡ outcome_refused x → (x ≡ record { code = Unexpected; at = length bytes }) × (at_end (length bytes) (going st q m) ≡ refused x m)
        by (heading w) e = of (heading w) refl e
        by (reading done l) e = of (reading done l) refl e
        by (ended done) e = cc
        by mistaken e = of mistaken refl e
        by stuck e = of stuck refl e

    -- what the reader tells at the end
    pub final : AreDifferent names → (fault : StepFault) → ((number : List ℕ → ℕ) → Agrees number names → IsFinished number C.logic bytes (Err fault)) → IsFinal C names goal bytes m (Err (stop_of fault))
    final differ (ReaderRefused x) h =
        let number = number_in (length names) names in
        let agrees = Agrees-number_in (length names) names differ in
        (ap (λ r. r.at) (unfinished number agrees x (h number agrees)).0, λ number agrees. (unfinished number agrees x (h number agrees)).1)
    final differ ReaderNoMemory h = h (number_in (length names) names) (Agrees-number_in (length names) names differ)

  -- what is shown behind more bytes is shown behind fewer
  pub stopped-from : (names : List (List ℕ)) (goal : Formula) (least less : ℕ) (bytes more : List ℕ) (m : ℕ) (stop : Stop) → less ≤ least → bytes ≡ more → IsStopped C names goal least bytes m stop → IsStopped C names goal less more m stop
  stopped-from names goal least less bytes more m (Rejected k) low e (f, h) = (f, λ number agrees. let r = h number agrees in (r.0, (subst (λ bs. course_of C number goal bs ≡ judged (rejected k r.0)) e r.1.0, (let l = r.1.1 in omega (arith, low, l)))))
  stopped-from names goal least less bytes more m (Refused x) low e h = λ number agrees. let r = h number agrees in (subst (λ bs. course_of C number goal bs ≡ judged (refused x m)) e r.0, (let l = r.1 in omega (arith, low, l)))
  stopped-from names goal least less bytes more m OutOfMemory low e h = λ number agrees. subst (λ bs. HasFitted C number goal bs m) e (h number agrees)

  -- the check has come behind one more part of a piece
  pub come-taken : (names : List (List ℕ)) (goal : Formula) (before piece : List ℕ) (fed n : ℕ) (reader : StepReader) (q : List (LevelledIn C)) (m : ℕ) → HasCome C names goal ((before ++ take fed piece) ++ take n (take (length piece - fed) (drop fed piece))) reader q m → HasCome C names goal (before ++ take (fed + n) piece) reader q m
  come-taken names goal before piece fed n reader q m h =
      subst (λ bs. HasCome C names goal bs reader q m) (ap (λ bs. (before ++ take fed piece) ++ take n bs) (rest-is piece fed) ∙ append_assoc before (take fed piece) (take n (drop fed piece)) ∙ ap (λ bs. before ++ bs) (sym (take-add fed n piece))) h

  -- no byte is taken, and there was no memory
  pub judged-memory : (names : List (List ℕ)) (goal : Formula) (left : Option (List ℕ)) (ticks : ℕ) → IsJudged C names goal left left ticks ticks (Err NoMemory)
  judged-memory names goal left ticks = record {
    bytes = [];
    taken = TakesFront-nothing left;
    shown = λ number agrees. tt;
    fitted = λ e number agrees. (0, (record { front = []; rest = []; parts = refl; read = start; pending = start_of C goal; shows = refl }, omega arith));
  }

  module _ (names : List (List ℕ)) (goal : Formula) (old mid new : Option (List ℕ)) (before now : ℕ) (front : List ℕ) (reader : StepReader) (q : List (LevelledIn C)) (m : ℕ) (taken : TakesFront old front mid) (come : HasCome C names goal front reader q m) (ticks : now ≡ before + m) where
    -- a read failed behind bytes that show nothing
    pub judged-fault : new ≡ mid → IsJudged C names goal old new before now (Err ReadFault)
    judged-fault e = record {
      bytes = front;
      taken = subst (TakesFront old front) (sym e) taken;
      shown = λ number agrees. (run number C.logic start front, (q, (m, (come.course number agrees, ticks))));
      fitted = λ e. let no : ⊥ = cc in absurd no;
    }

    module _ (at_the_end : IsAtEnd mid) (same : TakesFront mid [] new) where
      ended-so : TakesFront old front new
      ended-so = subst (λ bs. TakesFront old bs new) (append-nil front) (TakesFront-more old mid new front [] taken same)

      left-end : IsAtEnd new
      left-end = IsAtEnd-nothing mid new at_the_end same

      pub judged-accepted : (n : ℕ) → IsFinal C names goal front m (Ok n) → IsJudged C names goal old new before now (Ok (Accepted n))
      judged-accepted n (is, h) = record { bytes = front; taken = ended-so; shown = λ number agrees. (h number agrees, left-end, omega (arith, ticks, is)); fitted = λ e. let no : ⊥ = cc in absurd no }

      pub judged-unfinished : (stop : Stop) (answer : Result Verdict VerifyRefusal) → IsFinal C names goal front m (Err stop) → IsAnswerTo stop answer → IsJudged C names goal old new before now answer
      judged-unfinished (Rejected k) answer h e = absurd h
      judged-unfinished (Refused r) answer (lies, h) e =
          rw e (record { bytes = front; taken = ended-so; shown = λ number agrees. (m, (h number agrees, inl left-end, omega (arith, lies), ticks)); fitted = λ e. let no : ⊥ = cc in absurd no })
      judged-unfinished OutOfMemory answer h e = absurd h

  -- the bytes of a piece show why the check stopped
  pub judged-stop : (names : List (List ℕ)) (goal : Formula) (old mid new : Option (List ℕ)) (before now : ℕ) (front piece : List ℕ) (m : ℕ) (stop : Stop) (answer : Result Verdict VerifyRefusal)
      → TakesFront old front mid → TakesFront mid piece new → length piece ≤ 32768 → now ≡ before + m → IsStopped C names goal (length front) (front ++ piece) m stop → IsAnswerTo stop answer → IsJudged C names goal old new before now answer
  judged-stop names goal old mid new before now front piece m (Rejected k) answer taken more short ticks (is, h) e =
      rw e (record {
        bytes = front ++ piece;
        taken = TakesFront-more old mid new front piece taken more;
        shown = λ number agrees.
            let r = h number agrees in let low = r.1.1 in let l = length-append front piece in
            (r.0, (r.1.0, omega (arith, low, l), omega (arith, is)));
        fitted = λ e. let no : ⊥ = cc in absurd no;
      })
  judged-stop names goal old mid new before now front piece m (Refused r) answer taken more short ticks h e =
      rw e (record {
        bytes = front ++ piece;
        taken = TakesFront-more old mid new front piece taken more;
        shown = λ number agrees.
            let s = h number agrees in let low = s.1 in let l = length-append front piece in
            (m, (ap (at_end (length (front ++ piece))) s.0, inr s.0, omega (arith, low, l), ticks));
        fitted = λ e. let no : ⊥ = cc in absurd no;
      })
  judged-stop names goal old mid new before now front piece m OutOfMemory answer taken more short ticks h e =
      rw e (record { bytes = front ++ piece; taken = TakesFront-more old mid new front piece taken more; shown = λ number agrees. tt; fitted = λ _ number agrees. (m, (h number agrees, ticks)) })

  -- what is accepted is spelled, and derivable
  pub right-of : IsLawful C → (names : List (List ℕ)) (goal : Formula) (old new : Option (List ℕ)) (before now : ℕ) (answer : Result Verdict VerifyRefusal) → AreDifferent names → IsClosed goal → IsJudged C names goal old new before now answer
      → IfOk answer (IsRight C goal)
  right-of lawful names goal old new before now (Ok (Accepted n)) differ closed h =
      let least = length names in
      let number = number_in least names in
      let low : length names ≤ least = omega arith in
      let shown = h.shown number (Agrees-number_in least names differ) in
      let a = (accepted_is_spelled C lawful (text_in least names) number (GivesBack-number_in least names low) goal closed h.bytes n).0 shown.0 in
      ((a.steps, a.spelling, a.count), a.spelling.derivation)
  right-of lawful names goal old new before now (Ok (RejectedAt k)) differ closed h = tt
  right-of lawful names goal old new before now (Err e) differ closed h = tt
