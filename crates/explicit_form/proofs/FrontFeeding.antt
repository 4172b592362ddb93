-- The bytes that a reader takes at once, and those behind them.
use Rattle.std.proofs.Common.{◌≡◌, ℕ, ◌+◌, ◌≤◌, List, [], ◌∷◌, ◌++◌, length, take, drop, Some, None, Ok, Err, refl, sym, ap, ◌∙◌, subst, arith, append_assoc}
use Rattle.std.proofs.lemmas.List.{length-append, length-take-le}
use Rattle.std.proofs.Math.Seq.{take-add, take-append_seam}
use Rattle.fpc_terms.specs.Adding.{AddsOnly}
use Rattle.fpc_terms.proofs.AddingFacts.{AddsOnly-wider}
use Rattle.polarised_formulas.specs.Adding.{IsPartIn}
use Rattle.polarised_formulas.specs.declared.logic.Logic.{Logic}
use Rattle.polarised_formulas.specs.declared.step.Step.{Step}
use Rattle.explicit_form.specs.declared.word.Bare.{Bare}
use Rattle.explicit_form.specs.declared.word.Placed.{Placed}
use Rattle.explicit_form.specs.declared.word.Written.{Written}
use Rattle.explicit_form.specs.declared.word.Written.TheVariants as written
use Rattle.explicit_form.specs.declared.word.Word.{Word}
use Rattle.explicit_form.specs.declared.word.Word.TheVariants as word
use Rattle.explicit_form.specs.declared.step_reader.StepFault.{StepFault}
use Rattle.explicit_form.specs.declared.step_reader.StepFault.TheVariants.{Refused, OutOfMemory}
use Rattle.explicit_form.specs.declared.step_reader.StepReader.{StepReader}
use Rattle.explicit_form.specs.StepText.{word_text, words, IsOneOf}
use Rattle.explicit_form.specs.StepReading.{bare_step, placed_step, in_word, at_place, in_place, in_plain, behind_word, State, heading, reading, ended, mistaken, stuck, start, settle, go, run}
use Rattle.explicit_form.specs.StepLimits.{most_bytes, fault, AreUntold}
use Rattle.explicit_form.specs.LineStanding.{Stands, plain_start}
use Rattle.explicit_form.specs.Feeding.{IsAt, HasTaken, IsToldIn, IsLine, StandsBehind, done_of, pushed, line_length, line_in}
use Rattle.explicit_form.specs.Fronts.{IsWordAt, IsPlaceAt, IsBegin, Leads}
use Rattle.explicit_form.proofs.Fronts.{word-leads, leads-on, taken-led}
use Rattle.explicit_form.proofs.ReaderFeeding.{run-append, AreUntold-append}

-- a reader that has taken none of the bytes of a line stands between two lines
at-begin : (logic : Logic) (st : State) (r : StepReader) → IsBegin r → IsAt logic st r → (done : List Step) × (st ≡ reading done (in_word []))
at-begin logic (heading w) r b h = let e = h.0 in let f = b.phase in let no : ⊥ = cc in absurd no
at-begin logic (reading done (in_word w)) r b h = (done, ap (λ v. reading done (in_word v)) (sym h.1.word ∙ b.line.word))
at-begin logic (reading done (at_place p)) r b h = let e = h.1.mode in let f = b.line.mode in let no : ⊥ = cc in absurd no
at-begin logic (reading done (in_place p k)) r b h = let e = h.1.mode in let f = b.line.mode in let no : ⊥ = cc in absurd no
at-begin logic (reading done (in_plain w q)) r b h = let e = h.1.mode in let f = b.line.mode in let no : ⊥ = cc in absurd no
at-begin logic (ended done) r b h = let f = b.phase in let no : ⊥ = cc in absurd no
at-begin logic mistaken r b h = absurd h
at-begin logic stuck r b h = absurd h

-- a word, with a place or not
module _ (number : List ℕ → ℕ) (logic : Logic) (st : State) (bytes : List ℕ) (r : StepReader) (begin : IsBegin r) (here : IsAt logic st r) (room : r.at + length bytes ≤ most_bytes) where
  between : (done : List Step) × (st ≡ reading done (in_word []))
  between = at-begin logic st r begin here

  -- the reader between two lines
  stood : IsAt logic (reading between.0 (in_word [])) r
  stood = subst (λ s. IsAt logic s r) between.1 here

  -- what leads on from between two lines is taken
  front-taken : (next : State) (n : ℕ) (new : StepReader) → n ≤ length bytes → Leads number logic (reading between.0 (in_word [])) (take n bytes) next → IsAt logic next new → done_of next ≡ pushed new.step between.0
      → HasTaken number logic st r.at (take n bytes) new
  front-taken next n new within leads at done =
      let l = length-take-le n bytes within in
      subst (λ s. HasTaken number logic s r.at (take n bytes) new) (sym between.1)
      (taken-led number logic (reading between.0 (in_word [])) next r.at (take n bytes) new (let s : r.at + length (take n bytes) ≤ most_bytes = omega arith in s) leads at done)

  module _ (x : Word) (found : IsWordAt r.line.logic bytes x) where
    word_taken : take (length (word_text x)) bytes ≡ word_text x
    word_taken = ap (take (length (word_text x))) found.0.1 ∙ take-append_seam (word_text x) found.0.0

    pub word-within : length (word_text x) ≤ length bytes
    word-within = let e = ap length found.0.1 in let l = length-append (word_text x) found.0.0 in omega arith

    word_leads : (done : List Step) → Leads number logic (reading done (in_word [])) (take (length (word_text x)) bytes) (settle done (behind_word x))
    word_leads done =
        subst (λ bs. Leads number logic (reading done (in_word [])) bs (settle done (behind_word x))) (sym word_taken)
        (word-leads number logic x (subst (λ g. IsOneOf x (words g)) stood.1.logic_is found.1) done)

    word-front : (n : ℕ) (new : StepReader) → n ≡ length (word_text x) → IsAt logic (settle between.0 (behind_word x)) new → done_of (settle between.0 (behind_word x)) ≡ pushed new.step between.0 → HasTaken number logic st r.at (take n bytes) new
    word-front n new e at done =
        subst (λ m. HasTaken number logic st r.at (take m bytes) new) (sym e)
        (front-taken (settle between.0 (behind_word x)) (length (word_text x)) new word-within (word_leads between.0) at done)

  pub bare-taken : (x : Word) (b : Bare) (n : ℕ) (new : StepReader) → x ≡ word.Bare b → IsWordAt r.line.logic bytes x → n ≡ length (word_text x) → new.phase ≡ r.phase → new.line ≡ r.line → new.step ≡ Some (bare_step b)
      → HasTaken number logic st r.at (take n bytes) new
  bare-taken x b n new is found e p l s =
      word-front (word.Bare b) (subst (IsWordAt r.line.logic bytes) is found) n new (e ∙ ap (λ y. length (word_text y)) is) (p ∙ stood.0, subst (Stands logic (in_word [])) (sym l) stood.1) (ap (λ o. pushed o between.0) (sym s))

  pub written-taken : (w : Written) (n : ℕ) (new : StepReader) → IsWordAt r.line.logic bytes (word.Written w) → n ≡ length (word_text (word.Written w)) → new.phase ≡ r.phase → Stands r.line.logic (in_plain w (plain_start w)) new.line → new.step ≡ None
      → HasTaken number logic st r.at (take n bytes) new
  written-taken w n new found e p l s =
      word-front (word.Written w) found n new e (by w (subst (λ g. Stands g (in_plain w (plain_start w)) new.line) stood.1.logic_is l)) (same w ∙ ap (λ o. pushed o between.0) (sym s))
    where
      by : (v : Written) → Stands logic (in_plain v (plain_start v)) new.line → IsAt logic (settle between.0 (behind_word (word.Written v))) new
      by written.Exists h = (p ∙ stood.0, h)
      by written.FocLEvery h = (p ∙ stood.0, h)
      by written.FocRExists h = (p ∙ stood.0, h)
      by written.Cut h = (p ∙ stood.0, h)

      same : (v : Written) → done_of (settle between.0 (behind_word (word.Written v))) ≡ between.0
      same written.Exists = refl
      same written.FocLEvery = refl
      same written.FocRExists = refl
      same written.Cut = refl

  pub placed-taken : (p : Placed) (n k m : ℕ) (new : StepReader) → IsWordAt r.line.logic bytes (word.Placed p) → n ≡ length (word_text (word.Placed p)) → IsPlaceAt (drop n bytes) k m → n + m ≤ length bytes → new.phase ≡ r.phase → new.line ≡ r.line
      → new.step ≡ Some (placed_step p k) → HasTaken number logic st r.at (take (n + m) bytes) new
  placed-taken p n k m new found e place within q l s =
      let next = reading (placed_step p k ∷ between.0) (in_word []) in
      let word_first : Leads number logic (reading between.0 (in_word [])) (take n bytes) (reading between.0 (at_place p)) =
      subst (λ i. Leads number logic (reading between.0 (in_word [])) (take i bytes) (reading between.0 (at_place p))) (sym e) (word_leads (word.Placed p) found between.0) in
      let both = leads-on number logic (take n bytes) (take m (drop n bytes)) (reading between.0 (in_word [])) (reading between.0 (at_place p)) next word_first (place.0 number logic between.0 p) in
      front-taken next (n + m) new within (subst (λ bs. Leads number logic (reading between.0 (in_word [])) bs next) (sym (take-add n m bytes)) both)
      (q ∙ stood.0, subst (Stands logic (in_word [])) (sym l) stood.1) (ap (λ o. pushed o between.0) (sym s))

-- the first line of bytes that begin with the word of a term or a formula goes on behind it
written-line : (w : Written) (more : List ℕ) → line_length (word_text (word.Written w) ++ more) ≡ length (word_text (word.Written w)) + line_length (drop (length (word_text (word.Written w))) (word_text (word.Written w) ++ more))
written-line written.Exists more = omega arith
written-line written.FocLEvery more = omega arith
written-line written.FocRExists more = omega arith
written-line written.Cut more = omega arith

-- a word, and the bytes of a term or a formula behind it
module _ (old middle : StepReader) (w : Written) (n : ℕ) (bytes rest : List ℕ) (begin : IsBegin old) (found : IsWordAt old.line.logic bytes (word.Written w)) (n_is : n ≡ length (word_text (word.Written w)))
    (room : old.at + length bytes ≤ most_bytes) (rest_is : rest ≡ drop n bytes) (line : Stands old.line.logic (in_plain w (plain_start w)) middle.line) (phase : middle.phase ≡ old.phase) (none : middle.step ≡ None) (place : middle.at ≡ old.at + n) where
  size : line_length bytes ≡ n + line_length (drop n bytes)
  size = subst (λ m. line_length bytes ≡ m + line_length (drop m bytes)) (sym n_is)
      (subst (λ bs. line_length bs ≡ length (word_text (word.Written w)) + line_length (drop (length (word_text (word.Written w))) bs)) (sym found.0.1) (written-line w found.0.0))

  within : n ≤ length bytes
  within = let e = ap length found.0.1 in let l = length-append (word_text (word.Written w)) found.0.0 in omega arith

  first_line : line_in bytes ≡ take n bytes ++ line_in rest
  first_line = ap (λ m. take m bytes) size ∙ take-add n (line_length (drop n bytes)) bytes ∙ ap (λ bs. take n bytes ++ line_in bs) (sym rest_is)

  middle_at : middle.at ≡ old.at + length (take n bytes)
  middle_at = place ∙ ap (λ m. old.at + m) (sym (length-take-le n bytes within))

  taken : (number : List ℕ → ℕ) (logic : Logic) (st : State) → IsAt logic st old → HasTaken number logic st old.at (take n bytes) middle
  taken number logic st here = written-taken number logic st bytes old begin here room w n middle found n_is phase line none

  pub both-taken : (number : List ℕ → ℕ) (logic : Logic) (st : State) → IsAt logic st old → (m : ℕ) (new : StepReader) → ((s : State) → IsAt logic s middle → IsLine number logic s middle.at rest (Ok m) new)
      → HasTaken number logic st old.at (take (n + m) bytes) new
  both-taken number logic st here m new answered =
      let t = taken number logic st here in
      let more : HasTaken number logic (run number logic st (take n bytes)) middle.at (take m rest) new = answered (run number logic st (take n bytes)) t.where_is in
      let ran = run-append number logic st (take n bytes) (take m rest) in
      let same : done_of (run number logic st (take n bytes)) ≡ done_of st = t.step_is ∙ ap (λ o. pushed o (done_of st)) none in
      subst (λ bs. HasTaken number logic st old.at bs new) (ap (λ bs. take n bytes ++ take m bs) rest_is ∙ sym (take-add n m bytes)) (record {
        where_is = subst (λ s. IsAt logic s new) (sym ran) more.where_is;
        untold = AreUntold-append number logic (take n bytes) (take m rest) st old.at t.untold
            (subst (λ p. AreUntold number logic (run number logic st (take n bytes)) p (take m rest)) middle_at more.untold);
        step_is = ap done_of ran ∙ more.step_is ∙ ap (pushed new.step) same;
      })

  pub told-behind : (number : List ℕ → ℕ) (logic : Logic) (st : State) → IsAt logic st old → (f : StepFault) (new : StepReader) → ((s : State) → IsAt logic s middle → IsLine number logic s middle.at rest (Err f) new)
      → IsLine number logic st old.at bytes (Err f) new
  told-behind number logic st here OutOfMemory new answered = tt
  told-behind number logic st here (Refused x) new answered =
      let t = taken number logic st here in
      let h : IsToldIn number logic (run number logic st (take n bytes)) middle.at (line_in rest) x = answered (run number logic st (take n bytes)) t.where_is in
      let ran = run-append number logic st (take n bytes) h.front in
      let at : middle.at + length h.front ≡ old.at + length (take n bytes ++ h.front) = let l = length-append (take n bytes) h.front in let m = middle_at in omega arith in
      record {
        front = take n bytes ++ h.front;
        byte = h.byte;
        more = h.more;
        parts = append_assoc (take n bytes) h.front (h.byte ∷ h.more) ∙ ap (λ bs. take n bytes ++ bs) h.parts ∙ sym first_line;
        untold = AreUntold-append number logic (take n bytes) h.front st old.at t.untold
            (subst (λ p. AreUntold number logic (run number logic st (take n bytes)) p h.front) middle_at h.untold);
        told = ap (λ s. fault (old.at + length (take n bytes ++ h.front)) s (go number logic s h.byte)) ran
            ∙ ap (λ p. fault p (run number logic (run number logic st (take n bytes)) h.front) (go number logic (run number logic (run number logic st (take n bytes)) h.front) h.byte)) (sym at) ∙ h.told;
      }

  -- what is added is told of the bytes in front and of those of the line
  pub adds-behind : (logic : Logic) (before : List ℕ) (names now : List (List ℕ)) → StandsBehind logic names before old
      → ((front : List ℕ) → StandsBehind logic names front middle → AddsOnly (IsPartIn front (line_in rest)) names now) → AddsOnly (IsPartIn before (line_in bytes)) names now
  adds-behind logic before names now stands adds =
      let behind : StandsBehind logic names (before ++ take n bytes) middle = λ number agrees.
      subst (λ s. IsAt logic s middle) (sym (run-append number logic start before (take n bytes))) (taken number logic (run number logic start before) (stands number agrees)).where_is in
      AddsOnly-wider (IsPartIn (before ++ take n bytes) (line_in rest)) (IsPartIn before (line_in bytes)) names now
      (λ text w. (take n bytes ++ w.0, w.1, (append_assoc (take n bytes) w.0 w.1 ∙ ap (λ bs. take n bytes ++ bs) w.2.0 ∙ sym first_line, (w.2.1.0, w.2.1.1 ∙ append_assoc before (take n bytes) w.0))))
      (adds (before ++ take n bytes) behind)
