-- The bytes that a reader has taken.
use Rattle.std.proofs.Common.{◌≡◌, ℕ, suc, ◌+◌, ◌<◌, ◌≤◌, ◌⊎◌, inl, inr, Bool, true, false, if◌then◌else◌, List, [], ◌∷◌, ◌++◌, length, take, drop, Option, Some, None, Result, Ok, Err, IfOk, refl, sym, ap, ◌∙◌, subst, arith, nat_eq, add-zero, zero-add, add-one, append_assoc, append-nil}
use Rattle.std.proofs.lemmas.List.{length-append, length-take-le}
use Rattle.std.proofs.lemmas.Bool.Decides.{nat_tests}
use Rattle.std.proofs.Math.ListN.{get_or}
use Rattle.std.proofs.Math.Seq.{take-suc, take-add, drop-cons}
use Rattle.fpc_base.specs.declared.refusal.Code.TheVariants.{Unexpected}
use Rattle.fpc_base.specs.declared.refusal.Refusal.{Refusal}
use Rattle.fpc_terms.specs.Name.{Agrees, Grows, AreDifferent, index_in}
use Rattle.fpc_terms.specs.Adding.{AddsOnly}
use Rattle.fpc_terms.proofs.ReadFacts.{Agrees-index_in}
use Rattle.fpc_terms.proofs.AddingFacts.{AddsOnly-same, AddsOnly-then, AddsOnly-wider}
use Rattle.polarised_formulas.specs.Adding.{IsPartIn}
use Rattle.explicit_form.proofs.Following.{state-begun, word-ends}
use Rattle.polarised_formulas.specs.declared.logic.Logic.{Logic}
use Rattle.polarised_formulas.specs.declared.step.Step.{Step}
use Rattle.polarised_formulas.proofs.Standing.{Agrees-grows}
use Rattle.explicit_form.specs.StepReading.{State, heading, reading, ended, mistaken, stuck, start, go, run, steps_of, steps_onto}
use Rattle.explicit_form.specs.StepLimits.{fault, read, refused, outcome_at_end, unless_refused, outcome, AreUntold}
use Rattle.explicit_form.specs.declared.step_reader.Phase as phase
use Rattle.explicit_form.specs.declared.step_reader.StepFault.{StepFault}
use Rattle.explicit_form.specs.declared.step_reader.StepFault.TheVariants.{Refused, OutOfMemory}
use Rattle.explicit_form.specs.declared.step_reader.StepReader.{StepReader}
use Rattle.explicit_form.specs.Feeding.{IsAt, IsTaken, step_with, done_of, pushed, IsToldIn, HasTaken, IsLine, line_length, line_in, HasRead, IsFed, IsLineWord, StandsBehind}
use Rattle.explicit_form.proofs.Refusals.{untold-more, untold-outcome}
use Rattle.explicit_form.proofs.Taking.{IsAt-same, done_of-go, step_with-none}

pub run-append : (number : List ℕ → ℕ) (logic : Logic) (st : State) (xs ys : List ℕ) → run number logic st (xs ++ ys) ≡ run number logic (run number logic st xs) ys
run-append number logic st [] ys = refl
run-append number logic st (x ∷ xs) ys = run-append number logic (go number logic st x) xs ys

pub line_length-within : (bytes : List ℕ) → line_length bytes ≤ length bytes
line_length-within [] = omega arith
line_length-within (b ∷ bytes) = by (nat_eq b 10) (line_length-within bytes)
  where
    by : (c : Bool) → line_length bytes ≤ length bytes → (if c then 1 else suc (line_length bytes)) ≤ suc (length bytes)
    by true h = omega arith
    by false h = omega arith

-- the first line of some bytes has at least one
some_line : (b : ℕ) (bytes : List ℕ) → (m : ℕ) × (line_length (b ∷ bytes) ≡ suc m)
some_line b bytes = by (nat_eq b 10)
  where
    by : (c : Bool) → (m : ℕ) × ((if c then 1 else suc (line_length bytes)) ≡ suc m)
    by true = (0, refl)
    by false = (line_length bytes, refl)

-- so many bytes are some of those that there are
pub is-within : (bytes : List ℕ) (result : Result ℕ StepFault) → IfOk result (λ n. n ≡ line_length bytes) → IfOk result (λ n. n ≤ length bytes)
is-within bytes (Ok n) h = subst (λ m. m ≤ length bytes) (sym h) (line_length-within bytes)
is-within bytes (Err f) h = tt

-- where there are bytes, some are taken
pub moves-on : (bytes : List ℕ) (result : Result ℕ StepFault) → IfOk result (λ n. n ≡ line_length bytes) → 0 < length bytes → IfOk result (λ n. 0 < n)
moves-on [] (Ok n) h l = absurd (let no : ⊥ = omega arith in no)
moves-on (b ∷ bytes) (Ok n) h l = let p = some_line b bytes in let e : n ≡ suc p.0 = h ∙ p.1 in omega arith
moves-on bytes (Err f) h l = tt

-- a piece behind another one
pub AreUntold-append : (number : List ℕ → ℕ) (logic : Logic) (front more : List ℕ) (st : State) (place : ℕ) → AreUntold number logic st place front → AreUntold number logic (run number logic st front) (place + length front) more
    → AreUntold number logic st place (front ++ more)
AreUntold-append number logic [] more st place h k = subst (λ n. AreUntold number logic st n more) (add-zero place) k
AreUntold-append number logic (b ∷ front) more st place h k =
    let e : place + suc (length front) ≡ suc place + length front = omega arith in
    (h.0, AreUntold-append number logic front more (go number logic st b) (suc place) h.1 (subst (λ n. AreUntold number logic (run number logic (go number logic st b) front) n more) e k))

-- one more byte
HasTaken-next : (number : List ℕ → ℕ) (logic : Logic) (st : State) (place : ℕ) (front : List ℕ) (b : ℕ) (r s : StepReader) → HasTaken number logic st place front r → r.step ≡ None
    → (fault (place + length front) (run number logic st front) (go number logic (run number logic st front) b) ≡ None) × IsAt logic (go number logic (run number logic st front) b) s
    × (s.step ≡ step_with number logic (run number logic st front) b)
    → HasTaken number logic st place (front ++ b ∷ []) s
HasTaken-next number logic st place front b r s h none t =
    let ran : run number logic st (front ++ b ∷ []) ≡ go number logic (run number logic st front) b = run-append number logic st front (b ∷ []) in
    let same : done_of (run number logic st front) ≡ done_of st = h.step_is ∙ ap (λ o. pushed o (done_of st)) none in
    record {
      where_is = rw ran t.1;
      untold = untold-more number logic front st place b h.untold t.0;
      step_is = ap done_of ran ∙ done_of-go number logic (run number logic st front) b s t.1 ∙ ap (λ o. pushed o (done_of (run number logic st front))) (sym t.2) ∙ ap (pushed s.step) same;
    }

-- the loop over bytes: what it has done when it has taken the first i of them
pub record IsInside (old_names names : List (List ℕ)) (old r : StepReader) (bytes : List ℕ) (i : ℕ) : Type 0 where
  pub grown : Grows old_names names
  pub only : (logic : Logic) (before : List ℕ) → AreDifferent names → StandsBehind logic old_names before old → AddsOnly (IsPartIn before (line_in bytes)) old_names names
  pub place : r.at ≡ old.at + i
  pub line : line_length bytes ≡ i + line_length (drop i bytes)
  pub taken : (number : List ℕ → ℕ) (logic : Logic) (st : State) → Agrees number names → IsAt logic st old → HasTaken number logic st old.at (take i bytes) r × (r.step ≡ None)

pub inside-begin : (names : List (List ℕ)) (old : StepReader) (bytes : List ℕ) → IsInside names names old (record old { step = None }) bytes 0
inside-begin names old bytes = record {
  grown = λ k text h. h;
  only = λ logic before differ h. AddsOnly-same (IsPartIn before (line_in bytes)) names;
  place = sym (add-zero old.at);
  line = sym (zero-add (line_length bytes));
  taken = λ number logic st agrees h. (
    record {
      where_is = IsAt-same logic st old (record old { step = None }) refl refl h;
      untold = tt;
      step_is = refl;
    },
    refl,
  );
}

module _ (old_names names now : List (List ℕ)) (old r s : StepReader) (bytes : List ℕ) (i b : ℕ) (inside : IsInside old_names names old r bytes i) (within : i < length bytes) (b_is : b ≡ get_or bytes i 0)
    (grows : Grows names now) where
  -- the answer to the byte
  abbrev Answered : Result (Unit {0}) StepFault → Type 0
  Answered result = (number : List ℕ → ℕ) (logic : Logic) (st : State) → Agrees number now → IsAt logic st r
      → IsTaken logic (fault r.at st (go number logic st b)) (go number logic st b) (step_with number logic st b) result s

  split : drop i bytes ≡ b ∷ drop (suc i) bytes
  split = drop-cons bytes i 0 within ∙ ap (λ c. c ∷ drop (suc i) bytes) (sym b_is)

  grown-i : take (suc i) bytes ≡ take i bytes ++ b ∷ []
  grown-i = take-suc bytes i 0 within ∙ ap (λ c. take i bytes ++ c ∷ []) (sym b_is)

  -- the bytes of the line behind this one
  abbrev behind : List ℕ
  behind = take (some_line b (drop (suc i) bytes)).0 (drop (suc i) bytes)

  line-is : line_in bytes ≡ take i bytes ++ b ∷ behind
  line-is =
      let p = some_line b (drop (suc i) bytes) in
      ap (λ n. take n bytes) (inside.line ∙ ap (λ n. i + n) (ap line_length split ∙ p.1)) ∙ take-add i (suc p.0) bytes ∙ ap (λ bs. take i bytes ++ take (suc p.0) bs) split

  all_grown : Grows old_names now
  all_grown k text h = grows k text (inside.grown k text h)

  here : r.at ≡ old.at + length (take i bytes)
  here = inside.place ∙ ap (λ n. old.at + n) (sym (length-take-le i bytes (omega arith)))

  before : (number : List ℕ → ℕ) (logic : Logic) (st : State) → Agrees number now → IsAt logic st old → HasTaken number logic st old.at (take i bytes) r × (r.step ≡ None)
  before number logic st agrees h = inside.taken number logic st (Agrees-grows names now number grows agrees) h

  -- what was added before the byte, and with it
  pub added : AddsOnly (IsLineWord r) names now → (logic : Logic) (front : List ℕ) → AreDifferent now → StandsBehind logic old_names front old → AddsOnly (IsPartIn front (line_in bytes)) old_names now
  added more logic front differs stands =
      let differ : AreDifferent names = λ i j text a b. differs i j text (grows i text a) (grows j text b) in
      let number = index_in names in
      let agrees : Agrees number names = Agrees-index_in names differ in
      let p = inside.taken number logic (run number logic start front) agrees (stands number (Agrees-grows old_names names number inside.grown agrees)) in
      let here : IsAt logic (run number logic start (front ++ take i bytes)) r = subst (λ st. IsAt logic st r) (sym (run-append number logic start front (take i bytes))) p.0.where_is in
      AddsOnly-then (IsPartIn front (line_in bytes)) old_names names now (inside.only logic front differ stands)
      (AddsOnly-wider (IsLineWord r) (IsPartIn front (line_in bytes)) names now
      (λ text w. (take i bytes, b ∷ behind, (sym line-is, word-ends logic (front ++ take i bytes) text (run number logic start (front ++ take i bytes)) r (state-begun number logic (front ++ take i bytes)) here w)))
      more)

  pub takes : Answered (Ok tt) → (number : List ℕ → ℕ) (logic : Logic) (st : State) → Agrees number now → IsAt logic st old → HasTaken number logic st old.at (take (i + 1) bytes) s
  takes answered number logic st agrees h =
      let p = before number logic st agrees h in
      let t = answered number logic (run number logic st (take i bytes)) agrees p.0.where_is in
      let next = HasTaken-next number logic st old.at (take i bytes) b r s p.0 p.1 (subst (λ n. (fault n (run number logic st (take i bytes)) (go number logic (run number logic st (take i bytes)) b) ≡ None) × IsAt logic (go number logic (run number logic st (take i bytes)) b) s
      × (s.step ≡ step_with number logic (run number logic st (take i bytes)) b)) here t) in
      subst (λ bs. HasTaken number logic st old.at bs s) (sym grown-i ∙ ap (λ n. take n bytes) (sym (add-one i))) next

  pub inside-next : Answered (Ok tt) → s.at ≡ r.at + 1 → (b ≡ 10 → ⊥) → AddsOnly (IsLineWord r) names now → IsInside old_names now old s bytes (i + 1)
  inside-next answered at goes more = let on : nat_eq b 10 ≡ false = grind (arith, nat_tests) in record {
    grown = all_grown;
    only = added more;
    place = let e = inside.place in omega arith;
    line = let e = inside.line in
        let f : line_length (drop i bytes) ≡ suc (line_length (drop (suc i) bytes)) = ap line_length split ∙ ap (λ c. if c then 1 else suc (line_length (drop (suc i) bytes))) on in
        rw (add-one i) (let g : line_length bytes ≡ suc i + line_length (drop (suc i) bytes) = omega arith in g);
    taken = λ number logic st agrees h.
        let p = before number logic st agrees h in
        let t = answered number logic (run number logic st (take i bytes)) agrees p.0.where_is in
        (takes answered number logic st agrees h, t.2 ∙ step_with-none number logic (run number logic st (take i bytes)) b on);
  }

  pub stops : (f : StepFault) → Answered (Err f) → (number : List ℕ → ℕ) (logic : Logic) (st : State) → Agrees number now → IsAt logic st old → IsLine number logic st old.at bytes (Err f) s
  stops OutOfMemory answered = λ number logic st agrees h. tt
  stops (Refused x) answered = λ number logic st agrees h.
      let p = before number logic st agrees h in
      let q = run number logic st (take i bytes) in
      let t = answered number logic q agrees p.0.where_is in
      let u : fault (old.at + length (take i bytes)) q (go number logic q b) ≡ Some x = subst (λ n. fault n q (go number logic q b) ≡ Some x) here t in
      record { front = take i bytes; byte = b; more = behind; parts = sym line-is; untold = p.0.untold; told = u }

module _ (logic : Logic) (known names : List (List ℕ)) (front bytes : List ℕ) (old new : StepReader) (read_before : HasRead logic known front old) (grows : Grows known names) where
  stands : (number : List ℕ → ℕ) → Agrees number names → IsAt logic (run number logic start front) old
  stands number agrees = read_before.where_is number (Agrees-grows known names number grows agrees)

  untold_before : (number : List ℕ → ℕ) → Agrees number names → AreUntold number logic start 0 front
  untold_before number agrees = read_before.untold number (Agrees-grows known names number grows agrees)

  place_is : old.at ≡ 0 + length front
  place_is = read_before.place ∙ sym (zero-add (length front))

  -- where the reader stands before a piece
  pub stands-behind : StandsBehind logic names front old
  stands-behind number agrees = stands number agrees

  -- the answer to a piece is that to all bytes
  pub fed : (result : Result ℕ StepFault) → ((number : List ℕ → ℕ) (logic : Logic) (st : State) → Agrees number names → IsAt logic st old → IsLine number logic st old.at bytes result new)
      → IfOk result (λ n. n ≡ line_length bytes) → IfOk result (λ n. new.at ≡ old.at + n) → IsFed logic names front bytes result new
  fed (Err OutOfMemory) line count place = tt
  fed (Err (Refused x)) line count place = λ number agrees.
      subst (λ n. IsToldIn number logic (run number logic start front) n (line_in bytes) x) read_before.place (line number logic (run number logic start front) agrees (stands number agrees))
  fed (Ok n) line count place =
      let ran : (number : List ℕ → ℕ) → run number logic start (front ++ take n bytes) ≡ run number logic (run number logic start front) (take n bytes) = λ number. run-append number logic start front (take n bytes) in (
        record {
          where_is = λ number agrees. subst (λ st. IsAt logic st new) (sym (ran number)) (line number logic (run number logic start front) agrees (stands number agrees)).where_is;
          untold = λ number agrees. AreUntold-append number logic front (take n bytes) start 0 (untold_before number agrees)
              (subst (λ m. AreUntold number logic (run number logic start front) m (take n bytes)) place_is (line number logic (run number logic start front) agrees (stands number agrees)).untold);
          place =
              let w : n ≤ length bytes = subst (λ m. m ≤ length bytes) (sym count) (line_length-within bytes) in
              place ∙ ap (λ m. m + n) read_before.place ∙ ap (λ m. length front + m) (sym (length-take-le n bytes w)) ∙ sym (length-append front (take n bytes));
        },
        λ number agrees. ap done_of (ran number) ∙ (line number logic (run number logic start front) agrees (stands number agrees)).step_is,
      )

-- the outcome at the end of bytes that were read
module _ (logic : Logic) (names : List (List ℕ)) (bytes : List ℕ) (number : List ℕ → ℕ) (r : StepReader) (has_read : HasRead logic names bytes r) (agrees : Agrees number names) where
  pub at_end : outcome number logic start 0 bytes ≡ outcome_at_end r.at (run number logic start bytes)
  at_end =
      ap (outcome number logic start 0) (sym (append-nil bytes)) ∙ untold-outcome number logic bytes [] start 0 (has_read.untold number agrees)
      ∙ ap (λ n. outcome_at_end n (run number logic start bytes)) (zero-add (length bytes) ∙ sym has_read.place)

  pub not-whole : (r.phase ≡ phase.TheVariants.Heading) ⊎ (r.phase ≡ phase.TheVariants.Lines) → outcome number logic start 0 bytes ≡ refused (record { code = Unexpected; at = r.at })
  not-whole p = at_end ∙ by (run number logic start bytes) (has_read.where_is number agrees)
    where
      no-end : (r.phase ≡ phase.TheVariants.Heading) ⊎ (r.phase ≡ phase.TheVariants.Lines) → r.phase ≡ phase.TheVariants.Ended → ⊥
      no-end (inl e) f = cc
      no-end (inr e) f = cc

      by : (st : State) → IsAt logic st r → outcome_at_end r.at st ≡ refused (record { code = Unexpected; at = r.at })
      by (heading w) h = refl
      by (reading done l) h = refl
      by (ended done) h = absurd (no-end p h)
      by mistaken h = absurd h
      by stuck h = absurd h

  pub whole : r.phase ≡ phase.TheVariants.Ended → outcome number logic start 0 bytes ≡ read (steps_of (run number logic start bytes))
  whole p = at_end ∙ by (run number logic start bytes) (has_read.where_is number agrees)
    where
      by : (st : State) → IsAt logic st r → outcome_at_end r.at st ≡ read (steps_of st)
      by (heading w) h = let e = h.0 in let no : ⊥ = cc in absurd no
      by (reading done l) h = let e = h.0 in let no : ⊥ = cc in absurd no
      by (ended done) h = refl
      by mistaken h = absurd h
      by stuck h = absurd h

  pub not-faulty : (f : StepFault) → r.phase ≡ phase.TheVariants.Faulty f → ⊥
  not-faulty f p = by (run number logic start bytes) (has_read.where_is number agrees)
    where
      by : (st : State) → IsAt logic st r → ⊥
      by (heading w) h = let e = h.0 in cc
      by (reading done l) h = let e = h.0 in cc
      by (ended done) h = cc
      by mistaken h = h
      by stuck h = h

-- a reader that has read bytes has told no fault
pub fed-faulty : (logic : Logic) (known names : List (List ℕ)) (front bytes : List ℕ) (old : StepReader) (f : StepFault) → old.phase ≡ phase.TheVariants.Faulty f → HasRead logic known front old → Grows known names
    → IsFed logic names front bytes (Err f) old
fed-faulty logic known names front bytes old OutOfMemory p h grows = tt
fed-faulty logic known names front bytes old (Refused x) p h grows = λ number agrees. absurd (not-faulty logic known front number old h (Agrees-grows known names number grows agrees) (Refused x) p)

-- what was read stays read while the table of names grows
pub HasRead-grows : (logic : Logic) (known names : List (List ℕ)) (bytes : List ℕ) (r : StepReader) → HasRead logic known bytes r → Grows known names → HasRead logic names bytes r
HasRead-grows logic known names bytes r h grows = record {
  where_is = λ number agrees. h.where_is number (Agrees-grows known names number grows agrees);
  untold = λ number agrees. h.untold number (Agrees-grows known names number grows agrees);
  place = h.place;
}

-- a refusal is that of each text that begins with the bytes
pub refused-so : (logic : Logic) (names : List (List ℕ)) (front bytes : List ℕ) (x : Refusal) (r : StepReader) → HasRead logic names front r → IsFed logic names front bytes (Err (Refused x)) r
    → (number : List ℕ → ℕ) → Agrees number names → (more : List ℕ) → outcome number logic start 0 (front ++ (line_in bytes ++ more)) ≡ refused x
refused-so logic names front bytes x r h fed number agrees more =
    let told = fed number agrees in
    let st = run number logic start front in
    untold-outcome number logic front (line_in bytes ++ more) start 0 (h.untold number agrees)
    ∙ ap (λ n. outcome number logic st n (line_in bytes ++ more)) (zero-add (length front))
    ∙ ap (λ bs. outcome number logic st (length front) (bs ++ more)) (sym told.parts)
    ∙ ap (outcome number logic st (length front)) (append_assoc told.front (told.byte ∷ told.more) more)
    ∙ untold-outcome number logic told.front (told.byte ∷ (told.more ++ more)) st (length front) told.untold
    ∙ ap (λ o. unless_refused o (outcome number logic (go number logic (run number logic st told.front) told.byte) (suc (length front + length told.front)) (told.more ++ more))) told.told

-- the step that was pushed onto those before comes behind them in order
pub steps-in-order : (done : List Step) (o : Option Step) (ss : List Step) → steps_onto (pushed o done) ss ≡ steps_onto done (pushed o ss)
steps-in-order done None ss = refl
steps-in-order done (Some s) ss = refl
