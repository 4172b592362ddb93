-- Many bytes of a term or a formula, piece by piece.
use Rattle.std.proofs.Common.{◌≡◌, ℕ, suc, ◌+◌, ◌<◌, ◌≤◌, Bool, true, false, if◌then◌else◌, List, [], ◌∷◌, ◌++◌, length, take, drop, None, Result, Ok, Err, refl, sym, ap, ◌∙◌, subst, arith, nat_lt, append_assoc, append-nil}
use Rattle.std.specs.Prelude.{slice_index}
use Rattle.std.specs.List.{list_all, prefix_len}
use Rattle.std.proofs.lemmas.Bool.{and_parts, and_from, or_left, cond-true, cond-false}
use Rattle.std.proofs.lemmas.Bool.Decides.{nat_tests}
use Rattle.std.proofs.lemmas.List.{length-append, length-drop, length-take-le, take-append-drop, take_all, get_or-drop}
use Rattle.std.proofs.lemmas.List.Sums.{prefix_len_stops}
use Rattle.std.proofs.Math.Seq.{take-suc, take-add}
use Rattle.fpc_terms.specs.Name.{Agrees, Grows, is_small_letter, is_name_byte, begins_name}
use Rattle.fpc_terms.specs.Adding.{AddsOnly}
use Rattle.fpc_terms.proofs.AddingFacts.{AddsOnly-same, AddsOnly-then, AddsOnly-wider}
use Rattle.fpc_base.specs.declared.refusal.TokenRefusal.{TokenRefusal}
use Rattle.polarised_formulas.specs.declared.logic.Logic.{Logic}
use Rattle.polarised_formulas.specs.declared.plain.reader.Progress as progress
use Rattle.polarised_formulas.specs.declared.plain.reader.Mode as mode
use Rattle.polarised_formulas.specs.declared.plain.reader.PlainReader.{PlainReader}
use Rattle.polarised_formulas.specs.Adding.{EndsWith, IsPartIn}
use Rattle.polarised_formulas.specs.PlainReading.{Around, Reading, at_formula, in_word, at_name, in_name, behind_formula, in_operator, at_term, in_function, at_eigen, in_eigen, at_index, in_index, behind_term, Next, on, whole_term, whole_formula, wrong, next, end_function}
use Rattle.polarised_formulas.specs.PlainLimits.{nesting, limit_of}
use Rattle.polarised_formulas.specs.PlainStanding.{Stands, IsAround, IsNext, limit_at, word_at}
use Rattle.polarised_formulas.specs.PlainRuns.{Reaches, IsStop, IsPassed, IsRun}
use Rattle.polarised_formulas.proofs.Following.{Follows, follows-next}
use Rattle.polarised_formulas.proofs.Forward.{Names, Names-function}
use Rattle.polarised_formulas.proofs.Standing.{Agrees-grows}

-- bytes behind others
pub reaches-append : (number : List ℕ → ℕ) (logic : Logic) (front more : List ℕ) (q s t : Reading) → Reaches number logic q front s → Reaches number logic s more t → Reaches number logic q (front ++ more) t
reaches-append number logic [] more q s t h k = subst (λ r. Reaches number logic r more t) (sym h) k
reaches-append number logic (b ∷ front) more q s t h k = (h.0, h.1, h.2, reaches-append number logic front more h.0 s t h.3 k)

-- the word in progress is the end of what was read
reaches-word : (number : List ℕ → ℕ) (logic : Logic) (bytes : List ℕ) (before : List ℕ) (q s : Reading) → EndsWith before (word_at q) → Reaches number logic q bytes s → EndsWith (before ++ bytes) (word_at s)
reaches-word number logic [] before q s e h = subst (λ bs. EndsWith bs (word_at s)) (sym (append-nil before)) (subst (λ r. EndsWith before (word_at r)) h e)
reaches-word number logic (b ∷ bytes) before q s e h =
    subst (λ bs. EndsWith bs (word_at s)) (append_assoc before (b ∷ []) bytes)
    (reaches-word number logic bytes (before ++ b ∷ []) h.0 s (subst (Follows (before ++ b ∷ [])) h.1 (follows-next number before b logic q e)) h.3)

-- a byte after which the reading goes on
pub went-on : (logic : Logic) (n : ℕ) (r : PlainReader) (x : Next) → IsNext logic n (Ok progress.TheVariants.Going) r x → (s : Reading) × (x ≡ on s) × Stands logic s r × (limit_at n s ≡ None)
went-on logic n r (on s) h = (s, refl, h.0, h.1)
went-on logic n r (whole_term t) h = absurd h
went-on logic n r (whole_formula f) h = absurd h
went-on logic n r wrong h = absurd h

-- nothing is told of the bytes of a name that is not too long
pub record IsUntold (start : Reading) (inside : List ℕ → Reading) : Type 0 where
  pub first : (b : ℕ) → limit_of start (inside (b ∷ [])) ≡ None
  pub later : (w v : List ℕ) → length v ≤ 255 → limit_of (inside w) (inside v) ≡ None

-- a whole name
module _ (number : List ℕ → ℕ) (logic : Logic) (start : Reading) (inside : List ℕ → Reading) (names : Names number logic start inside) (untold : IsUntold start inside) where
  more-letters : (w bs : List ℕ) → list_all is_name_byte bs ≡ true → length (w ++ bs) ≤ 255 → Reaches number logic (inside w) bs (inside (w ++ bs))
  more-letters w [] all few = ap inside (sym (append-nil w))
  more-letters w (b ∷ bs) all few =
      let p = and_parts (is_name_byte b) (list_all is_name_byte bs) all in
      let same = append_assoc w (b ∷ []) bs in
      let short : length (w ++ b ∷ []) ≤ 255 = omega (arith, length-append w (b ∷ bs), length-append w (b ∷ []), few) in (
        inside (w ++ b ∷ []),
        names.later w b p.0,
        untold.later w (w ++ b ∷ []) short,
        subst (λ v. Reaches number logic (inside (w ++ b ∷ [])) bs (inside v)) same (more-letters (w ++ b ∷ []) bs p.1 (subst (λ v. length v ≤ 255) (sym same) few)),
      )

  pub name-reached : (w : List ℕ) → begins_name w ≡ true → length w ≤ 255 → Reaches number logic start w (inside w)
  name-reached [] h few = cc
  name-reached (b ∷ bs) h few = let p = and_parts (is_small_letter b) (list_all is_name_byte bs) h in (inside (b ∷ []), names.first b p.0, untold.first b, more-letters (b ∷ []) bs p.1 few)

pub in_limit : {X : Type 0} (v : List ℕ) (x y : X) → length v ≤ 255 → (if nat_lt 255 (length v) then x else y) ≡ y
in_limit v x y few = let t : nat_lt 255 (length v) ≡ false = grind (arith, nat_tests) in cond-false (nat_lt 255 (length v)) x y t

untold-function : (up : Around) → IsUntold (at_term up) (in_function up)
untold-function up = record { first = λ b. refl; later = λ w v few. in_limit v _ _ few }

pub run-stop : (number : List ℕ → ℕ) (logic : Logic) (q : Reading) (bytes : List ℕ) (n : ℕ) (result : Result progress.Progress TokenRefusal) (r : PlainReader) → (result ≡ Ok progress.TheVariants.Going → ⊥)
    → IsStop number logic q bytes n result r → IsRun number logic q bytes n result r
run-stop number logic q bytes n (Ok progress.TheVariants.Going) r other h = absurd (other refl)
run-stop number logic q bytes n (Ok (progress.TheVariants.Term t)) r other h = h
run-stop number logic q bytes n (Ok (progress.TheVariants.Formula f)) r other h = h
run-stop number logic q bytes n (Err e) r other h = h

-- the answer to the next byte
pub next-stop : (number : List ℕ → ℕ) (logic : Logic) (q : Reading) (bytes : List ℕ) (result : Result progress.Progress TokenRefusal) (r : PlainReader) → 0 < length bytes
    → IsNext logic (nesting q) result r (next number logic q (slice_index bytes 0)) → IsStop number logic q bytes 0 result r
next-stop number logic q bytes result r some answer = record { reading = q; reached = refl; within = some; answer = answer }

pub index-drop : (bytes : List ℕ) (n m : ℕ) → slice_index (drop n bytes) m ≡ slice_index bytes (n + m)
index-drop bytes n m = get_or-drop n bytes m 0

pub taken-more : (bytes : List ℕ) (n m : ℕ) → n + m < length bytes → take (n + (m + 1)) bytes ≡ take (n + m) bytes ++ slice_index bytes (n + m) ∷ []
taken-more bytes n m l = let e : n + (m + 1) ≡ suc (n + m) = omega arith in ap (λ k. take k bytes) e ∙ take-suc bytes (n + m) 0 l

-- the loop over pieces: what it has done when it has passed so many bytes
pub record IsPast (old_names names : List (List ℕ)) (old r : PlainReader) (bytes : List ℕ) (passed : ℕ) : Type 0 where
  pub grown : Grows old_names names
  pub within : passed ≤ length bytes
  pub reached : (number : List ℕ → ℕ) (logic : Logic) (q : Reading) → Agrees number names → Stands logic q old → (s : Reading) × Reaches number logic q (take passed bytes) s × Stands logic s r
  pub only : (number : List ℕ → ℕ) (logic : Logic) (q : Reading) → Agrees number names → Stands logic q old → AddsOnly (IsPartIn old.word.items bytes) old_names names

pub past-begin : (names : List (List ℕ)) (r : PlainReader) (bytes : List ℕ) → IsPast names names r r bytes 0
past-begin names r bytes = record {
  grown = λ k text h. h;
  within = omega arith;
  reached = λ number logic q agrees h. (q, refl, h);
  only = λ number logic q agrees h. AddsOnly-same (IsPartIn r.word.items bytes) names;
}

-- what ends behind some bytes of the rest ends behind those and the ones in front
part-behind : (before bytes word text : List ℕ) (n : ℕ) → EndsWith (before ++ take n bytes) word → IsPartIn word (drop n bytes) text → IsPartIn before bytes text
part-behind before bytes word text n e w = (
  take n bytes ++ w.0,
  w.1,
  (
    append_assoc (take n bytes) w.0 w.1 ∙ ap (λ bs. take n bytes ++ bs) w.2.0 ∙ take-append-drop n bytes,
    (
      e.0 ++ w.2.1.0,
      append_assoc e.0 w.2.1.0 text ∙ ap (λ bs. e.0 ++ bs) w.2.1.1 ∙ sym (append_assoc e.0 word w.0) ∙ ap (λ bs. bs ++ w.0) e.1 ∙ append_assoc before (take n bytes) w.0,
    ),
  ),
)

module _ (old_names names now : List (List ℕ)) (old r s : PlainReader) (bytes : List ℕ) (passed m : ℕ) (result : Result progress.Progress TokenRefusal) (past : IsPast old_names names old r bytes passed) (grows : Grows names now)
    (within : m < length (drop passed bytes)) (stop : (number : List ℕ → ℕ) (logic : Logic) (q : Reading) → Agrees number now → Stands logic q r → IsStop number logic q (drop passed bytes) m result s)
    (only : AddsOnly (IsPartIn r.word.items (drop passed bytes)) names now) where
  pub past-stops : (number : List ℕ → ℕ) (logic : Logic) (q : Reading) → Agrees number now → Stands logic q old → IsStop number logic q bytes (passed + m) result s
  past-stops number logic q agrees h =
      let p = past.reached number logic q (Agrees-grows names now number grows agrees) h in
      let t = stop number logic p.0 agrees p.2 in
      let l = length-drop passed bytes in
      record {
        reading = t.reading;
        reached = subst (λ bs. Reaches number logic q bs t.reading) (sym (take-add passed m bytes)) (reaches-append number logic (take passed bytes) (take m (drop passed bytes)) q p.0 t.reading p.1 t.reached);
        within = (let w = t.within in let i = past.within in let k : passed + m < length bytes = omega arith in k);
        answer = subst (λ b. IsNext logic (nesting t.reading) result s (next number logic t.reading b)) (index-drop bytes passed m) t.answer;
      }

  pub past-run : (number : List ℕ → ℕ) (logic : Logic) (q : Reading) → Agrees number now → Stands logic q old → (told : Result progress.Progress TokenRefusal) → told ≡ result → (result ≡ Ok progress.TheVariants.Going → ⊥)
      → IsRun number logic q bytes (passed + m) told s
  past-run number logic q agrees h told e other =
      run-stop number logic q bytes (passed + m) told s (λ g. other (sym e ∙ g)) (subst (λ x. IsStop number logic q bytes (passed + m) x s) (sym e) (past-stops number logic q agrees h))

  pub past-adds : (number : List ℕ → ℕ) (logic : Logic) (q : Reading) → Agrees number now → Stands logic q old → AddsOnly (IsPartIn old.word.items bytes) old_names now
  past-adds number logic q agrees h =
      let before = Agrees-grows names now number grows agrees in
      let p = past.reached number logic q before h in
      let e : EndsWith (old.word.items ++ take passed bytes) r.word.items =
      subst (EndsWith (old.word.items ++ take passed bytes)) (sym p.2.word) (reaches-word number logic (take passed bytes) old.word.items q p.0 ([], sym h.word) p.1) in
      AddsOnly-then (IsPartIn old.word.items bytes) old_names names now (past.only number logic q before h)
      (AddsOnly-wider (IsPartIn r.word.items (drop passed bytes)) (IsPartIn old.word.items bytes) names now (λ text w. part-behind old.word.items bytes r.word.items text passed e w) only)

  pub past-next : result ≡ Ok progress.TheVariants.Going → IsPast old_names now old s bytes (passed + (m + 1))
  past-next is = record {
    grown = λ k text h. grows k text (past.grown k text h);
    within = (let l = length-drop passed bytes in let i = past.within in let k : passed + (m + 1) ≤ length bytes = omega arith in k);
    reached = λ number logic q agrees h.
        let t = past-stops number logic q agrees h in
        let w = went-on logic (nesting t.reading) s (next number logic t.reading (slice_index bytes (passed + m))) (subst (λ x. IsNext logic (nesting t.reading) x s (next number logic t.reading (slice_index bytes (passed + m)))) is t.answer) in
        let one : Reaches number logic t.reading (slice_index bytes (passed + m) ∷ []) w.0 = (w.0, w.1, w.3, refl) in (
          w.0,
          subst (λ bs. Reaches number logic q bs w.0) (sym (taken-more bytes passed m t.within)) (reaches-append number logic (take (passed + m) bytes) (slice_index bytes (passed + m) ∷ []) q t.reading w.0 t.reached one),
          w.2,
        );
    only = past-adds;
  }

pub past-end : (old_names names : List (List ℕ)) (old r : PlainReader) (bytes : List ℕ) (passed : ℕ) → IsPast old_names names old r bytes passed → length bytes ≤ passed → (number : List ℕ → ℕ) (logic : Logic) (q : Reading) → Agrees number names → Stands logic q old
    → IsPassed number logic q bytes passed r
past-end old_names names old r bytes passed past l number logic q agrees h =
    let p = past.reached number logic q agrees h in
    let w = past.within in
    record {
      reading = p.0;
      reached = subst (λ bs. Reaches number logic q bs p.0) (take_all passed bytes l) p.1;
      stands = p.2;
      all = (let e : passed ≡ length bytes = omega arith in e);
    }

-- a name that stands where a term comes
at-term : (logic : Logic) (q : Reading) (r : PlainReader) → Stands logic q r → r.mode ≡ mode.TheVariants.AtTerm → (up : Around) × (q ≡ at_term up)
at-term logic (at_term up) r h e = (up, refl)
at-term logic (at_formula hs) r h e = let m = h.mode in let no : ⊥ = cc in absurd no
at-term logic (in_word hs w) r h e = let m = h.mode in let no : ⊥ = cc in absurd no
at-term logic (at_name hs positive) r h e = let m = h.mode in let no : ⊥ = cc in absurd no
at-term logic (in_name hs positive w) r h e = let m = h.mode in let no : ⊥ = cc in absurd no
at-term logic (behind_formula hs f) r h e = let m = h.mode in let no : ⊥ = cc in absurd no
at-term logic (in_operator hs a w) r h e = let m = h.mode in let no : ⊥ = cc in absurd no
at-term logic (in_function up w) r h e = let m = h.mode in let no : ⊥ = cc in absurd no
at-term logic (at_eigen up) r h e = let m = h.mode in let no : ⊥ = cc in absurd no
at-term logic (in_eigen up k) r h e = let m = h.mode in let no : ⊥ = cc in absurd no
at-term logic (at_index up) r h e = let m = h.mode in let no : ⊥ = cc in absurd no
at-term logic (in_index up k) r h e = let m = h.mode in let no : ⊥ = cc in absurd no
at-term logic (behind_term up t) r h e = let m = h.mode in let no : ⊥ = cc in absurd no

module _ (bytes : List ℕ) (n : ℕ) (few : n ≤ 255) (within : n < length bytes) where
  pub name-few : length (take n bytes) ≤ 255
  name-few = let l = length-take-le n bytes (let s : n ≤ length bytes = omega arith in s) in omega arith

  pub named-stop : (number : List ℕ → ℕ) (logic : Logic) (q : Reading) (old new : PlainReader) (result : Result progress.Progress TokenRefusal) → Stands logic q old → old.mode ≡ mode.TheVariants.AtTerm → begins_name (take n bytes) ≡ true
      → is_name_byte (slice_index bytes n) ≡ false → ((up : Around) → IsAround logic up old → IsNext logic 0 result new (end_function number up (take n bytes) (slice_index bytes n))) → IsStop number logic q bytes n result new
  named-stop number logic q old new result h m name behind answer =
      let p = at-term logic q old h m in
      let k : Stands logic (at_term p.0) old = subst (λ s. Stands logic s old) p.1 h in
      subst (λ s. IsStop number logic s bytes n result new) (sym p.1) (record {
        reading = in_function p.0 (take n bytes);
        reached = name-reached number logic (at_term p.0) (in_function p.0) (Names-function number logic p.0) (untold-function p.0) (take n bytes) name name-few;
        within = within;
        answer = subst (IsNext logic 0 result new) (sym (cond-false (is_name_byte (slice_index bytes n)) _ _ behind))
            (answer p.0 (record { logic_is = k.logic_is; word = k.word; outside = k.outside; terms = k.terms; formula = k.formula; room = k.kept }));
      })

pub named-part : (before bytes text : List ℕ) (n : ℕ) → text ≡ take n bytes → IsPartIn before bytes text
named-part before bytes text n e = (take n bytes, drop n bytes, (take-append-drop n bytes, (before, ap (λ v. before ++ v) e)))

pub word-part : (word bytes text : List ℕ) → text ≡ word → IsPartIn word bytes text
word-part word bytes text e = ([], bytes, (refl, ([], e ∙ sym (append-nil word))))

one-more : (m : ℕ) → suc m ≡ 1 + m
one-more m = omega arith

all-front : (xs : List ℕ) → list_all is_name_byte (take (prefix_len is_name_byte xs) xs) ≡ true
all-front [] = refl
all-front (x ∷ xs) = by (is_name_byte x) refl (all-front xs)
  where
    by : (t : Bool) → is_name_byte x ≡ t → list_all is_name_byte (take (prefix_len is_name_byte xs) xs) ≡ true → list_all is_name_byte (take (if t then 1 + prefix_len is_name_byte xs else 0) (x ∷ xs)) ≡ true
    by true e rec = subst (λ m. list_all is_name_byte (take m (x ∷ xs)) ≡ true) (one-more (prefix_len is_name_byte xs)) (and_from (is_name_byte x) (list_all is_name_byte (take (prefix_len is_name_byte xs) xs)) e rec)
    by false e rec = refl

pub name-front : (bytes : List ℕ) (n : ℕ) → n ≡ prefix_len is_name_byte bytes → is_small_letter (slice_index bytes 0) ≡ true → begins_name (take n bytes) ≡ true
name-front [] n e h = cc
name-front (b ∷ bs) n e h =
    let name : is_name_byte b ≡ true = or_left _ _ (or_left _ _ (or_left _ _ h)) in
    let m : n ≡ suc (prefix_len is_name_byte bs) = e ∙ cond-true (is_name_byte b) _ _ name ∙ sym (one-more (prefix_len is_name_byte bs)) in
    subst (λ k. begins_name (take k (b ∷ bs)) ≡ true) (sym m) (and_from (is_small_letter b) (list_all is_name_byte (take (prefix_len is_name_byte bs) bs)) h (all-front bs))

pub name-stops : (bytes : List ℕ) (n : ℕ) → n ≡ prefix_len is_name_byte bytes → n < length bytes → is_name_byte (slice_index bytes n) ≡ false
name-stops bytes n e l = subst (λ k. is_name_byte (slice_index bytes k) ≡ false) (sym e) (prefix_len_stops is_name_byte bytes 0 (subst (λ k. k < length bytes) e l))
