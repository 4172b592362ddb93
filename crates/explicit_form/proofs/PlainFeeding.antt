-- Many bytes of a term or a formula that a reader of a certificate takes.
use Rattle.std.proofs.Common.{◌≡◌, ℕ, zero, suc, ◌&&◌, ◌+◌, ◌<◌, ◌≤◌, Bool, true, false, if◌then◌else◌, List, [], ◌∷◌, ◌++◌, length, take, drop, Some, None, Result, Ok, Err, IsOk, refl, sym, ap, ◌∙◌, subst, arith, nat_eq, append_assoc}
use Rattle.std.specs.Prelude.{slice_index}
use Rattle.std.proofs.lemmas.Bool.{and_from}
use Rattle.std.proofs.lemmas.List.{length-take-le, take-append-drop, take_all}
use Rattle.std.proofs.Math.Seq.{take-suc, drop-cons}
use Rattle.fpc_base.specs.declared.refusal.Refusal.{Refusal}
use Rattle.fpc_base.specs.declared.refusal.TokenRefusal as refusal
use Rattle.fpc_terms.specs.Name.{Agrees, Grows, AreDifferent, index_in}
use Rattle.fpc_terms.specs.Term.{Term}
use Rattle.fpc_terms.specs.Adding.{AddsOnly}
use Rattle.fpc_terms.proofs.ReadFacts.{Agrees-index_in}
use Rattle.fpc_terms.proofs.AddingFacts.{AddsOnly-wider}
use Rattle.polarised_formulas.specs.Adding.{EndsWith, IsPartIn}
use Rattle.polarised_formulas.specs.declared.logic.Logic.{Logic}
use Rattle.polarised_formulas.specs.declared.step.Step.{Step}
use Rattle.polarised_formulas.specs.declared.step.Step.TheVariants as step
use Rattle.polarised_formulas.specs.declared.plain.reader.Progress as progress
use Rattle.polarised_formulas.specs.Formula.{Formula}
use Rattle.polarised_formulas.specs.PlainReading as plain
use Rattle.polarised_formulas.specs.PlainTexts as texts
use Rattle.polarised_formulas.specs.declared.plain.reader.PlainReader as plain_reader
use Rattle.polarised_formulas.proofs.LineEnds as plain_ends
use Rattle.polarised_formulas.proofs.Standing.{Agrees-grows}
use Rattle.polarised_formulas.specs.PlainLimits.{nesting, limit_of}
use Rattle.polarised_formulas.specs.PlainStanding as plain_standing
use Rattle.polarised_formulas.specs.PlainRuns.{Reaches, IsStop, IsPassed, IsRun}
use Rattle.explicit_form.specs.declared.word.Written.{Written}
use Rattle.explicit_form.specs.declared.word.Written.TheVariants as written
use Rattle.explicit_form.specs.declared.line.LineReader.{LineReader}
use Rattle.explicit_form.specs.declared.line.Mode as mode
use Rattle.explicit_form.specs.declared.step_reader.Phase as phase
use Rattle.explicit_form.specs.declared.step_reader.StepFault.{StepFault}
use Rattle.explicit_form.specs.declared.step_reader.StepFault.TheVariants.{Refused, OutOfMemory}
use Rattle.explicit_form.specs.declared.step_reader.StepReader.{StepReader}
use Rattle.explicit_form.specs.StepReading.{Line, in_word, at_place, in_place, in_plain, Next, on, in_line, next, State, heading, reading, ended, mistaken, stuck, start, settle, go, run}
use Rattle.explicit_form.specs.StepLimits.{most_bytes, byte_fault, fault, AreUntold}
use Rattle.explicit_form.specs.LineStanding.{IsNext}
use Rattle.explicit_form.specs.LineRuns.{answer_in}
use Rattle.explicit_form.specs.Feeding.{IsAt, IsTaken, HasTaken, IsToldIn, IsLine, StandsBehind, step_of, done_of, pushed, line_length, line_in}
use Rattle.explicit_form.specs.Fronts.{is_nothing, is_untold, are_untold, Leads}
use Rattle.explicit_form.proofs.Fronts.{taken-led, untold-below}
use Rattle.explicit_form.proofs.Following.{FollowsState, state-begun}
use Rattle.explicit_form.proofs.Refusals.{within}
use Rattle.explicit_form.proofs.ReaderFeeding.{run-append, line_length-within, AreUntold-append}
use Rattle.explicit_form.proofs.Taking.{done_of-go}

-- what the answer of the reader of a term or a formula means
line-answer : (logic : Logic) (w : Written) (q : plain.Reading) (a : Result progress.Progress refusal.TokenRefusal) (r : LineReader) (n : plain.Next) → r.mode ≡ mode.TheVariants.InPlain w → r.word.items ≡ [] → r.logic ≡ logic
    → plain_standing.IsNext logic (nesting q) a r.plain n → IsNext logic (in_plain w q) (answer_in w a) r (in_line w n)
line-answer logic w q (Ok progress.TheVariants.Going) r (plain.on s) m e l h = (record { logic_is = l; mode = m; word = e; plain = h.0 }, h.1)
line-answer logic w q (Ok progress.TheVariants.Going) r (plain.whole_term t) m e l h = absurd h
line-answer logic w q (Ok progress.TheVariants.Going) r (plain.whole_formula f) m e l h = absurd h
line-answer logic w q (Ok progress.TheVariants.Going) r plain.wrong m e l h = absurd h
line-answer logic written.Exists q (Ok (progress.TheVariants.Term t)) r (plain.whole_term u) m e l h = (ap step.Exists h, l)
line-answer logic written.FocLEvery q (Ok (progress.TheVariants.Term t)) r (plain.whole_term u) m e l h = (ap step.FocLEvery h, l)
line-answer logic written.FocRExists q (Ok (progress.TheVariants.Term t)) r (plain.whole_term u) m e l h = (ap step.FocRExists h, l)
line-answer logic written.Cut q (Ok (progress.TheVariants.Term t)) r (plain.whole_term u) m e l h = refl
line-answer logic w q (Ok (progress.TheVariants.Term t)) r (plain.on s) m e l h = absurd h
line-answer logic w q (Ok (progress.TheVariants.Term t)) r (plain.whole_formula f) m e l h = absurd h
line-answer logic w q (Ok (progress.TheVariants.Term t)) r plain.wrong m e l h = absurd h
line-answer logic written.Exists q (Ok (progress.TheVariants.Formula f)) r (plain.whole_formula g) m e l h = refl
line-answer logic written.FocLEvery q (Ok (progress.TheVariants.Formula f)) r (plain.whole_formula g) m e l h = refl
line-answer logic written.FocRExists q (Ok (progress.TheVariants.Formula f)) r (plain.whole_formula g) m e l h = refl
line-answer logic written.Cut q (Ok (progress.TheVariants.Formula f)) r (plain.whole_formula g) m e l h = (ap step.Cut h, l)
line-answer logic w q (Ok (progress.TheVariants.Formula f)) r (plain.on s) m e l h = absurd h
line-answer logic w q (Ok (progress.TheVariants.Formula f)) r (plain.whole_term t) m e l h = absurd h
line-answer logic w q (Ok (progress.TheVariants.Formula f)) r plain.wrong m e l h = absurd h
line-answer logic w q (Err (refusal.TheVariants.Refused code)) r (plain.on s) m e l h = h
line-answer logic w q (Err (refusal.TheVariants.Refused code)) r plain.wrong m e l h = h
line-answer logic w q (Err (refusal.TheVariants.Refused code)) r (plain.whole_term t) m e l h = absurd h
line-answer logic w q (Err (refusal.TheVariants.Refused code)) r (plain.whole_formula f) m e l h = absurd h
line-answer logic w q (Err refusal.TheVariants.OutOfMemory) r n m e l h = tt

-- a reader of the logic in a term or a formula stands in one
at-plain : (logic : Logic) (st : State) (w : Written) (r : StepReader) → r.phase ≡ phase.TheVariants.Lines → r.line.mode ≡ mode.TheVariants.InPlain w → IsAt logic st r
    → (done : List Step) × (q : plain.Reading) × (st ≡ reading done (in_plain w q))
at-plain logic (heading v) w r p m h = let e = h.0 in let no : ⊥ = cc in absurd no
at-plain logic (reading done (in_word v)) w r p m h = let e = h.1.mode in let no : ⊥ = cc in absurd no
at-plain logic (reading done (at_place v)) w r p m h = let e = h.1.mode in let no : ⊥ = cc in absurd no
at-plain logic (reading done (in_place v k)) w r p m h = let e = h.1.mode in let no : ⊥ = cc in absurd no
at-plain logic (reading done (in_plain v q)) w r p m h =
    let e = h.1.mode in let f : mode.TheVariants.InPlain v ≡ mode.TheVariants.InPlain w = sym e ∙ m in let same : v ≡ w = cc in (done, q, ap (λ x. reading done (in_plain x q)) same)
at-plain logic (ended done) w r p m h = let no : ⊥ = cc in absurd no
at-plain logic mistaken w r p m h = absurd h
at-plain logic stuck w r p m h = absurd h

-- bytes inside a term or a formula lie inside its line
reaches-lead : (number : List ℕ → ℕ) (logic : Logic) (done : List Step) (w : Written) (bytes : List ℕ) (q s : plain.Reading) → Reaches number logic q bytes s → Leads number logic (reading done (in_plain w q)) bytes (reading done (in_plain w s))
reaches-lead number logic done w [] q s h = (ap (λ r. reading done (in_plain w r)) h, refl)
reaches-lead number logic done w (b ∷ bytes) q s h =
    let rec = reaches-lead number logic done w bytes h.0 s h.3 in
    let e : go number logic (reading done (in_plain w q)) b ≡ reading done (in_plain w h.0) = ap (λ n. settle done (in_line w n)) h.1 in
    subst (λ st. (run number logic st bytes ≡ reading done (in_plain w s)) × ((is_untold (reading done (in_plain w q)) st && are_untold number logic st bytes) ≡ true)) (sym e)
    (rec.0, and_from (is_nothing (limit_of q h.0)) (are_untold number logic (reading done (in_plain w h.0)) bytes) (ap is_nothing h.2) rec.1)

-- the byte 10 in the first line ends it
line-last : (bytes : List ℕ) (n : ℕ) → n < length (line_in bytes) → slice_index (line_in bytes) n ≡ 10 → suc n ≡ line_length bytes
line-last [] n l e = absurd (let no : ⊥ = omega arith in no)
line-last (b ∷ bytes) n l e = by (nat_eq b 10) refl n l e (line-last bytes)
  where
    by : (c : Bool) → nat_eq b 10 ≡ c → (m : ℕ) → m < length (take (if c then 1 else suc (line_length bytes)) (b ∷ bytes)) → slice_index (take (if c then 1 else suc (line_length bytes)) (b ∷ bytes)) m ≡ 10
        → ((k : ℕ) → k < length (line_in bytes) → slice_index (line_in bytes) k ≡ 10 → suc k ≡ line_length bytes) → suc m ≡ (if c then 1 else suc (line_length bytes))
    by true t m k f rec = let z : suc m ≡ 1 = omega arith in z
    by false t zero k f rec = let no : ⊥ = cc in absurd no
    by false t (suc m) k f rec = ap suc (rec m (let z : m < length (line_in bytes) = omega arith in z) f)

term_ends : (logic : Logic) (k : ℕ) (t : Term) (r : plain_reader.PlainReader) (b : ℕ) (n : plain.Next) → texts.EndsAt b n → plain_standing.IsNext logic k (Ok (progress.TheVariants.Term t)) r n → b ≡ 10
term_ends logic k t r b (plain.whole_term u) e h = e
term_ends logic k t r b (plain.on s) e h = absurd h
term_ends logic k t r b (plain.whole_formula f) e h = absurd h
term_ends logic k t r b plain.wrong e h = absurd h

formula_ends : (logic : Logic) (k : ℕ) (f : Formula) (r : plain_reader.PlainReader) (b : ℕ) (n : plain.Next) → texts.EndsAt b n → plain_standing.IsNext logic k (Ok (progress.TheVariants.Formula f)) r n → b ≡ 10
formula_ends logic k f r b (plain.whole_formula u) e h = e
formula_ends logic k f r b (plain.on s) e h = absurd h
formula_ends logic k f r b (plain.whole_term u) e h = absurd h
formula_ends logic k f r b plain.wrong e h = absurd h

module _ (number : List ℕ → ℕ) (logic : Logic) (done : List Step) (w : Written) (q : plain.Reading) (bytes : List ℕ) (place : ℕ) (room : place + length bytes ≤ most_bytes) where
  line_size : length (line_in bytes) ≡ line_length bytes
  line_size = length-take-le (line_length bytes) bytes (line_length-within bytes)

  line_room : place + length (line_in bytes) ≤ most_bytes
  line_room = let e = line_size in let l = line_length-within bytes in omega arith

  passed-taken : (n : ℕ) (r : plain_reader.PlainReader) (new : StepReader) (p : IsPassed number logic q (line_in bytes) n r) → IsAt logic (reading done (in_plain w p.reading)) new → new.step ≡ None
      → HasTaken number logic (reading done (in_plain w q)) place (line_in bytes) new
  passed-taken n r new p at none =
      taken-led number logic (reading done (in_plain w q)) (reading done (in_plain w p.reading)) place (line_in bytes) new line_room (reaches-lead number logic done w (line_in bytes) q p.reading p.reached) at
      (ap (λ o. pushed o done) (sym none))

  module _ (n : ℕ) (a : Result progress.Progress refusal.TokenRefusal) (r : plain_reader.PlainReader) (t : IsStop number logic q (line_in bytes) n a r) where
    front_leads : Leads number logic (reading done (in_plain w q)) (take n (line_in bytes)) (reading done (in_plain w t.reading))
    front_leads = reaches-lead number logic done w (take n (line_in bytes)) q t.reading t.reached

    front_size : length (take n (line_in bytes)) ≡ n
    front_size = let l = t.within in length-take-le n (line_in bytes) (let z : n ≤ length (line_in bytes) = omega arith in z)

    front_untold : AreUntold number logic (reading done (in_plain w q)) place (take n (line_in bytes))
    front_untold =
        let e = front_size in let l = t.within in let m = line_room in
        untold-below number logic (take n (line_in bytes)) (reading done (in_plain w q)) place (let z : place + length (take n (line_in bytes)) ≤ most_bytes = omega arith in z) front_leads.1

    -- what is told of the byte behind those
    told_there : (st : State) → fault (place + length (take n (line_in bytes))) (reading done (in_plain w t.reading)) st ≡ byte_fault (place + n) (reading done (in_plain w t.reading)) st
    told_there st =
        let e = front_size in let l = t.within in let m = line_room in
        within (place + length (take n (line_in bytes))) (reading done (in_plain w t.reading)) st (let z : place + length (take n (line_in bytes)) < most_bytes = omega arith in z)
        ∙ ap (λ k. byte_fault (place + k) (reading done (in_plain w t.reading)) st) e

    stop-told : (x : Refusal) → byte_fault (place + n) (reading done (in_plain w t.reading)) (go number logic (reading done (in_plain w t.reading)) (slice_index (line_in bytes) n)) ≡ Some x
        → IsToldIn number logic (reading done (in_plain w q)) place (line_in bytes) x
    stop-told x h = record {
      front = take n (line_in bytes);
      byte = slice_index (line_in bytes) n;
      more = drop (suc n) (line_in bytes);
      parts = ap (λ bs. take n (line_in bytes) ++ bs) (sym (drop-cons (line_in bytes) n 0 t.within)) ∙ take-append-drop n (line_in bytes);
      untold = front_untold;
      told = subst (λ st. fault (place + length (take n (line_in bytes))) st (go number logic st (slice_index (line_in bytes) n)) ≡ Some x) (sym front_leads.0)
          (told_there (go number logic (reading done (in_plain w t.reading)) (slice_index (line_in bytes) n)) ∙ h);
    }

    stop-taken : (new : StepReader) → slice_index (line_in bytes) n ≡ 10
        → IsTaken logic (byte_fault (place + n) (reading done (in_plain w t.reading)) (go number logic (reading done (in_plain w t.reading)) (slice_index (line_in bytes) n))) (go number logic (reading done (in_plain w t.reading)) (slice_index (line_in bytes) n))
        (step_of (next number logic (in_plain w t.reading) (slice_index (line_in bytes) n))) (Ok tt) new
        → HasTaken number logic (reading done (in_plain w q)) place (line_in bytes) new
    stop-taken new ten h =
        let front = take n (line_in bytes) in
        let b = slice_index (line_in bytes) n in
        let there = reading done (in_plain w t.reading) in
        let ran : run number logic (reading done (in_plain w q)) (front ++ b ∷ []) ≡ go number logic there b =
        run-append number logic (reading done (in_plain w q)) front (b ∷ []) ∙ ap (λ st. go number logic st b) front_leads.0 in
        let size : suc n ≡ length (line_in bytes) = line-last bytes n t.within ten ∙ sym line_size in
        let whole_line : front ++ b ∷ [] ≡ line_in bytes = sym (take-suc (line_in bytes) n 0 t.within) ∙ take_all (suc n) (line_in bytes) (let z : length (line_in bytes) ≤ suc n = omega arith in z) in
        subst (λ bs. HasTaken number logic (reading done (in_plain w q)) place bs new) whole_line (record {
          where_is = subst (λ st. IsAt logic st new) (sym ran) h.1;
          untold = AreUntold-append number logic front (b ∷ []) (reading done (in_plain w q)) place front_untold
              (subst (λ st. AreUntold number logic st (place + length front) (b ∷ [])) (sym front_leads.0) (told_there (go number logic there b) ∙ h.0, tt));
          step_is = ap done_of ran ∙ done_of-go number logic there b new h.1 ∙ ap (λ o. pushed o done) (sym h.2);
        })

  module _ (n : ℕ) (r : LineReader) (new : StepReader) (mode_is : r.mode ≡ mode.TheVariants.InPlain w) (word_is : r.word.items ≡ []) (logic_is : r.logic ≡ logic) where
    -- what is told of the answer
    abbrev pub Told : Result progress.Progress refusal.TokenRefusal → Result (Unit {0}) StepFault → Type 0
    Told a result = (l : Line) (m : Next) → IsNext logic l (answer_in w a) r m → IsTaken logic (byte_fault (place + n) (reading done l) (settle done m)) (settle done m) (step_of m) result new

    stop-answer : (a : Result progress.Progress refusal.TokenRefusal) (t : IsStop number logic q (line_in bytes) n a r.plain) → IsNext logic (in_plain w t.reading) (answer_in w a) r (next number logic (in_plain w t.reading) (slice_index (line_in bytes) n))
    stop-answer a t = line-answer logic w t.reading a r (plain.next number logic t.reading (slice_index (line_in bytes) n)) mode_is word_is logic_is t.answer

    pub ok-taken : (a : Result progress.Progress refusal.TokenRefusal) → IsRun number logic q (line_in bytes) n a r.plain → Told a (Ok tt) → IsOk (answer_in w a) → HasTaken number logic (reading done (in_plain w q)) place (line_in bytes) new
    ok-taken (Ok progress.TheVariants.Going) p told ok =
        let t = told (in_word []) (on (in_plain w p.reading)) (record { logic_is = logic_is; mode = mode_is; word = word_is; plain = p.stands }, refl) in
        passed-taken n r.plain new p t.1 t.2
    ok-taken (Ok (progress.TheVariants.Term u)) t told ok =
        stop-taken n (Ok (progress.TheVariants.Term u)) r.plain t new
        (term_ends logic (nesting t.reading) u r.plain (slice_index (line_in bytes) n) (plain.next number logic t.reading (slice_index (line_in bytes) n)) (plain_ends.line_ends number logic t.reading (slice_index (line_in bytes) n)) t.answer)
        (told (in_plain w t.reading) (next number logic (in_plain w t.reading) (slice_index (line_in bytes) n)) (stop-answer (Ok (progress.TheVariants.Term u)) t))
    ok-taken (Ok (progress.TheVariants.Formula f)) t told ok =
        stop-taken n (Ok (progress.TheVariants.Formula f)) r.plain t new
        (formula_ends logic (nesting t.reading) f r.plain (slice_index (line_in bytes) n) (plain.next number logic t.reading (slice_index (line_in bytes) n)) (plain_ends.line_ends number logic t.reading (slice_index (line_in bytes) n)) t.answer)
        (told (in_plain w t.reading) (next number logic (in_plain w t.reading) (slice_index (line_in bytes) n)) (stop-answer (Ok (progress.TheVariants.Formula f)) t))
    ok-taken (Err e) t told ok = let no_ok : ⊥ = cc in absurd no_ok

    pub err-told : (a : Result progress.Progress refusal.TokenRefusal) (x : Refusal) → IsRun number logic q (line_in bytes) n a r.plain → Told a (Err (Refused x)) → IsToldIn number logic (reading done (in_plain w q)) place (line_in bytes) x
    err-told (Ok progress.TheVariants.Going) x p told =
        let t = told (in_word []) (on (in_plain w p.reading)) (record { logic_is = logic_is; mode = mode_is; word = word_is; plain = p.stands }, refl) in
        let no_refusal : ⊥ = cc in absurd no_refusal
    err-told (Ok (progress.TheVariants.Term u)) x t told =
        stop-told n (Ok (progress.TheVariants.Term u)) r.plain t x (told (in_plain w t.reading) (next number logic (in_plain w t.reading) (slice_index (line_in bytes) n)) (stop-answer (Ok (progress.TheVariants.Term u)) t))
    err-told (Ok (progress.TheVariants.Formula f)) x t told =
        stop-told n (Ok (progress.TheVariants.Formula f)) r.plain t x (told (in_plain w t.reading) (next number logic (in_plain w t.reading) (slice_index (line_in bytes) n)) (stop-answer (Ok (progress.TheVariants.Formula f)) t))
    err-told (Err e) x t told =
        stop-told n (Err e) r.plain t x (told (in_plain w t.reading) (next number logic (in_plain w t.reading) (slice_index (line_in bytes) n)) (stop-answer (Err e) t))

-- the answer to the bytes of a term or a formula
module _ (number : List ℕ → ℕ) (logic : Logic) (st : State) (w : Written) (bytes : List ℕ) (old new : StepReader) (n : ℕ) (a : Result progress.Progress refusal.TokenRefusal) (r : plain_reader.PlainReader) (room : old.at + length bytes ≤ most_bytes)
    (phase_is : old.phase ≡ phase.TheVariants.Lines) (mode_is : old.line.mode ≡ mode.TheVariants.InPlain w) (here : IsAt logic st old)
    (ran : (q : plain.Reading) → plain_standing.Stands logic q old.line.plain → IsRun number logic q (line_in bytes) n a r) where
  place_in : (done : List Step) × (q : plain.Reading) × (st ≡ reading done (in_plain w q))
  place_in = at-plain logic st w old phase_is mode_is here

  stood : IsAt logic (reading place_in.0 (in_plain w place_in.1)) old
  stood = subst (λ s. IsAt logic s old) place_in.2 here

  pub plain-taken : ((done : List Step) (l : Line) (m : Next) → IsNext logic l (answer_in w a) (record old.line { plain = r }) m → IsTaken logic (byte_fault (old.at + n) (reading done l) (settle done m)) (settle done m) (step_of m) (Ok tt) new) → IsOk (answer_in w a)
      → HasTaken number logic st old.at (line_in bytes) new
  plain-taken told ok = subst (λ s. HasTaken number logic s old.at (line_in bytes) new) (sym place_in.2)
      (ok-taken number logic place_in.0 w place_in.1 bytes old.at room n (record old.line { plain = r }) new mode_is stood.1.word stood.1.logic_is a (ran place_in.1 stood.1.plain) (told place_in.0) ok)

  pub plain-told : (f : StepFault) → ((done : List Step) (l : Line) (m : Next) → IsNext logic l (answer_in w a) (record old.line { plain = r }) m → IsTaken logic (byte_fault (old.at + n) (reading done l) (settle done m)) (settle done m) (step_of m) (Err f) new)
      → IsLine number logic st old.at bytes (Err f) new
  plain-told OutOfMemory told = tt
  plain-told (Refused x) told = subst (λ s. IsToldIn number logic s old.at (line_in bytes) x) (sym place_in.2)
      (err-told number logic place_in.0 w place_in.1 bytes old.at room n (record old.line { plain = r }) new mode_is stood.1.word stood.1.logic_is a x (ran place_in.1 stood.1.plain) (told place_in.0))

-- what ends in some bytes behind a word ends in them behind all that ends with the word
part-in : (before word bytes text : List ℕ) → EndsWith before word → IsPartIn word bytes text → IsPartIn before bytes text
part-in before word bytes text e p = (
  p.0,
  p.1,
  (p.2.0, (e.0 ++ p.2.1.0, append_assoc e.0 p.2.1.0 text ∙ ap (λ bs. e.0 ++ bs) p.2.1.1 ∙ sym (append_assoc e.0 word p.0) ∙ ap (λ bs. bs ++ p.0) e.1)),
)

-- the names that the bytes of a term or a formula add
pub plain-adds : (logic : Logic) (before : List ℕ) (w : Written) (bytes : List ℕ) (old : StepReader) (names now : List (List ℕ)) → old.phase ≡ phase.TheVariants.Lines → old.line.mode ≡ mode.TheVariants.InPlain w → Grows names now → AreDifferent now
    → StandsBehind logic names before old
    → ((number : List ℕ → ℕ) (q : plain.Reading) → Agrees number now → plain_standing.Stands logic q old.line.plain → AddsOnly (IsPartIn old.line.plain.word.items bytes) names now) → AddsOnly (IsPartIn before bytes) names now
plain-adds logic before w bytes old names now p m grows differ stands only =
    let number = index_in now in
    let agrees : Agrees number now = Agrees-index_in now differ in
    let st = run number logic start before in
    let here : IsAt logic st old = stands number (Agrees-grows names now number grows agrees) in
    let at = at-plain logic st w old p m here in
    let stood : IsAt logic (reading at.0 (in_plain w at.1)) old = subst (λ s. IsAt logic s old) at.2 here in
    let follows : FollowsState before (reading at.0 (in_plain w at.1)) = subst (FollowsState before) at.2 (state-begun number logic before) in
    let e : EndsWith before old.line.plain.word.items = subst (EndsWith before) (sym stood.1.plain.word) follows in
    AddsOnly-wider (IsPartIn old.line.plain.word.items bytes) (IsPartIn before bytes) names now (λ text h. part-in before old.line.plain.word.items bytes text e h) (only number at.1 agrees stood.1.plain)
