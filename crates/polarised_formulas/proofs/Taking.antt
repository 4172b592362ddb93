-- How a reader of a whole text comes to its outcome.
use Rattle.std.proofs.Common.{◌≡◌, ℕ, suc, ◌<◌, ◌≤◌, Bool, true, false, if◌then◌else◌, List, [], ◌∷◌, length, drop, Option, Some, None, Result, Ok, Err, refl, sym, ap, ◌∙◌, subst, arith, nat_lt, nat_le, ◌++◌, zero, take}
use Rattle.std.proofs.lemmas.Bool.Decides.{nat_tests}
use Rattle.std.proofs.lemmas.List.{drop_all, take-append-drop}
use Rattle.fpc_base.specs.declared.refusal.Code.{Code}
use Rattle.fpc_base.specs.declared.refusal.Code.TheVariants.{Unexpected, TooLarge}
use Rattle.fpc_base.specs.declared.refusal.Refusal.{Refusal}
use Rattle.fpc_base.specs.declared.refusal.ParseRefusal.{ParseRefusal}
use Rattle.fpc_base.specs.declared.refusal.ParseRefusal.TheVariants.{Refused, OutOfMemory}
use Rattle.fpc_terms.specs.Name.{Agrees, Grows, AreDifferent, index_in}
use Rattle.fpc_terms.specs.Adding.{AddsOnly, IsText}
use Rattle.fpc_terms.proofs.ReadFacts.{Agrees-index_in}
use Rattle.fpc_terms.proofs.AddingFacts.{AddsOnly-same, AddsOnly-then, AddsOnly-wider}
use Rattle.fpc_terms.specs.Term.{Term}
use Rattle.polarised_formulas.specs.declared.logic.Logic.{Logic}
use Rattle.polarised_formulas.specs.Formula.{Formula}
use Rattle.polarised_formulas.specs.PlainReading.{Reading, at_formula, Next, on, whole_term, whole_formula, wrong, next, of_formula, start}
use Rattle.polarised_formulas.specs.PlainLimits.{limit_of, fault_inside, Outcome, refused, outcome_at_end, unless_refused, outcome, cut, at_most, ComesRefused}
use Rattle.polarised_formulas.specs.PlainStanding.{Stands, IsNext, word_at}
use Rattle.polarised_formulas.specs.Adding.{EndsWith, IsPartOf}
use Rattle.polarised_formulas.proofs.Following.{Follows, ends-empty, follows-next}
use Rattle.polarised_formulas.specs.PlainTaking.{IsOfFormula, told_at, IsTaken, IsEnded, IsAnswer}
use Rattle.polarised_formulas.specs.declared.plain.reader.Progress as progress
use Rattle.polarised_formulas.specs.declared.plain.reader.PlainReader.{PlainReader}
use Rattle.polarised_formulas.specs.PlainLimits.{nesting}
use Rattle.polarised_formulas.proofs.Standing.{Agrees-grows}
use Rattle.polarised_formulas.proofs.Wanted.{LeadsOn, leads-next}

pub goes-inside : (logic : Logic) (q : Reading) (place : ℕ) (r : PlainReader) (n : Next) → IsNext logic (nesting q) (Ok progress.TheVariants.Going) r n → place < 67108864 → IsTaken logic q place (Ok tt) r n
goes-inside logic q place r (on s) h l = let e : nat_le 67108864 place ≡ false = grind (arith, nat_tests) in (s, refl, h.0, rw e h.1)
goes-inside logic q place r (whole_term t) h l = absurd h
goes-inside logic q place r (whole_formula f) h l = absurd h
goes-inside logic q place r wrong h l = absurd h

pub no-term : (number : List ℕ → ℕ) (logic : Logic) (q : Reading) (b n : ℕ) (t : Term) (r : PlainReader) → IsOfFormula q → IsNext logic n (Ok (progress.TheVariants.Term t)) r (next number logic q b) → ⊥
no-term number logic q b n t r h = by (next number logic q b) (leads-next number logic q b h)
  where
    by : (m : Next) → LeadsOn m → IsNext logic n (Ok (progress.TheVariants.Term t)) r m → ⊥
    by (on s) l e = e
    by (whole_term u) l e = l
    by (whole_formula f) l e = e
    by wrong l e = e

-- what a numbering says of the bytes so far: the reader stands where the reading does, and the outcome is that from there on
pub record Place (number : List ℕ → ℕ) (logic : Logic) (bytes : List ℕ) (r : PlainReader) (i : ℕ) : Type 0 where
  pub q : Reading
  pub stands : Stands logic q r
  pub wanted : IsOfFormula q
  pub same : outcome number logic (start of_formula) 0 bytes ≡ outcome number logic (on q) i (drop i bytes)
  pub ends : EndsWith (take i bytes) (word_at q)

-- the first i bytes are taken
pub record ReadsTo (old names : List (List ℕ)) (logic : Logic) (bytes : List ℕ) (r : PlainReader) (i : ℕ) : Type 0 where
  pub grown : Grows old names
  pub only : AreDifferent names → AddsOnly (IsPartOf bytes) old names
  pub few : i ≤ 67108864
  pub place : (number : List ℕ → ℕ) → Agrees number names → Place number logic bytes r i

pub reads-none : (names : List (List ℕ)) (logic : Logic) (bytes : List ℕ) (r : PlainReader) → Stands logic (at_formula []) r → ReadsTo names names logic bytes r 0
reads-none names logic bytes r h = record {
  grown = λ k text e. e;
  only = λ differ. AddsOnly-same (IsPartOf bytes) names;
  few = omega arith;
  place = λ number agrees. record { q = at_formula []; stands = h; wanted = tt; same = refl; ends = ends-empty (take 0 bytes) };
}

-- what was added before a byte, and with it
pub reads-added : (old names now : List (List ℕ)) (logic : Logic) (bytes : List ℕ) (r : PlainReader) (i : ℕ) → ReadsTo old names logic bytes r i → Grows names now
    → AddsOnly (IsText r.word.items) names now → AreDifferent now → AddsOnly (IsPartOf bytes) old now
reads-added old names now logic bytes r i reads grows added differs =
    let differ : AreDifferent names = λ j k text a b. differs j k text (grows j text a) (grows k text b) in
    let p = reads.place (index_in names) (Agrees-index_in names differ) in
    let part : IsPartOf bytes r.word.items = (take i bytes, drop i bytes, (take-append-drop i bytes, subst (EndsWith (take i bytes)) (sym p.stands.word) p.ends)) in
    AddsOnly-then (IsPartOf bytes) old names now (reads.only differ) (AddsOnly-wider (IsText r.word.items) (IsPartOf bytes) names now (λ other e. subst (IsPartOf bytes) (sym e) part) added)

take-next : (i b : ℕ) (bytes rest : List ℕ) → drop i bytes ≡ b ∷ rest → take (suc i) bytes ≡ take i bytes ++ b ∷ []
take-next zero b bytes rest e = ap (take 1) e
take-next (suc i) b [] rest e = cc
take-next (suc i) b (x ∷ xs) rest e = ap (λ (ys : List ℕ). x ∷ ys) (take-next i b xs rest e)

Grows-trans : (a b c : List (List ℕ)) → Grows a b → Grows b c → Grows a c
Grows-trans a b c x y k text e = y k text (x k text e)

told-free : (place : ℕ) (c : Option Code) → told_at place c ≡ None → c ≡ None
told-free place c h = by (nat_le 67108864 place) h
  where
    by : (t : Bool) → (if t then Some TooLarge else c) ≡ None → c ≡ None
    by true e = cc
    by false e = e

cut-refused : (code : Code) (place most : ℕ) → most ≤ place → cut most (refused code place) ≡ refused TooLarge most
cut-refused code place most l = let e : nat_lt place most ≡ false = grind (arith, nat_tests) in rw e refl

cut-end : (n : Next) (place most : ℕ) → most ≤ place → cut most (outcome_at_end place n) ≡ refused TooLarge most
cut-end (on q) place most l = cut-refused Unexpected place most l
cut-end (whole_term t) place most l = refl
cut-end (whole_formula f) place most l = refl
cut-end wrong place most l = cut-refused Unexpected place most l

cut-unless : (c : Option Code) (o : Outcome) (place most : ℕ) → most ≤ place → cut most o ≡ refused TooLarge most → cut most (unless_refused c place o) ≡ refused TooLarge most
cut-unless (Some code) o place most l h = cut-refused code place most l
cut-unless None o place most l h = h

-- what is told from a place on is told behind the limit
later : (number : List ℕ → ℕ) (logic : Logic) (most : ℕ) (bs : List ℕ) (n : Next) (place : ℕ) → most ≤ place → cut most (outcome number logic n place bs) ≡ refused TooLarge most
later number logic most [] (on q) place l = cut-end (next number logic q 10) place most l
later number logic most (b ∷ bs) (on q) place l = cut-unless (fault_inside q (next number logic q b)) _ place most l (later number logic most bs (next number logic q b) (suc place) (omega arith))
later number logic most [] (whole_term t) place l = cut-refused Unexpected place most l
later number logic most (b ∷ bs) (whole_term t) place l = cut-refused Unexpected place most l
later number logic most [] (whole_formula f) place l = cut-refused Unexpected place most l
later number logic most (b ∷ bs) (whole_formula f) place l = cut-refused Unexpected place most l
later number logic most [] wrong place l = cut-refused Unexpected place most l
later number logic most (b ∷ bs) wrong place l = cut-refused Unexpected place most l

module _ (old names now : List (List ℕ)) (logic : Logic) (bytes : List ℕ) (r s : PlainReader) (i b : ℕ) (rest : List ℕ) (reads : ReadsTo old names logic bytes r i) (grows : Grows names now) (here : drop i bytes ≡ b ∷ rest) where
  -- where the outcome goes on with the next byte
  from : (number : List ℕ → ℕ) (agrees : Agrees number now) (p : Place number logic bytes r i)
      → outcome number logic (start of_formula) 0 bytes ≡ unless_refused (fault_inside p.q (next number logic p.q b)) i (outcome number logic (next number logic p.q b) (suc i) rest)
  from number agrees p = p.same ∙ ap (outcome number logic (on p.q) i) here

  pub reads-on : ((number : List ℕ → ℕ) (logic : Logic) (q : Reading) → Agrees number now → Stands logic q r → IsTaken logic q i (Ok tt) s (next number logic q b))
      → i < 67108864 → drop (suc i) bytes ≡ rest → AddsOnly (IsText r.word.items) names now → ReadsTo old now logic bytes s (suc i)
  reads-on taken small after added =
      record { grown = Grows-trans old names now reads.grown grows; only = reads-added old names now logic bytes r i reads grows added; few = omega arith; place = by }
    where
      by : (number : List ℕ → ℕ) → Agrees number now → Place number logic bytes s (suc i)
      by number agrees =
          let p = reads.place number (Agrees-grows names now number grows agrees) in
          let t = taken number logic p.q agrees p.stands in
          record {
            q = t.0;
            stands = t.2;
            wanted = subst LeadsOn t.1 (leads-next number logic p.q b p.wanted);
            same = from number agrees p ∙ ap (λ n. unless_refused (fault_inside p.q n) i (outcome number logic n (suc i) rest)) t.1
                ∙ ap (λ c. unless_refused c i (outcome number logic (on t.0) (suc i) rest)) (told-free i (limit_of p.q t.0) t.3) ∙ ap (outcome number logic (on t.0) (suc i)) (sym after);
            ends = subst (λ xs. EndsWith xs (word_at t.0)) (sym (take-next i b bytes rest here)) (subst (Follows (take i bytes ++ b ∷ [])) t.1 (follows-next number (take i bytes) b logic p.q p.ends));
          }

  refusal : (o later : Outcome) (c : Option Code) (code : Code) → o ≡ unless_refused c i later → told_at i c ≡ Some code → (nat_le 67108864 i ≡ true → cut 67108864 o ≡ refused TooLarge i)
      → i < length bytes → i ≤ 67108864 → at_most 67108864 (length bytes) o ≡ refused code i
  refusal o later c code e told large inside few = by (nat_le 67108864 i) refl told
    where
      by : (t : Bool) → nat_le 67108864 i ≡ t → (if t then Some TooLarge else c) ≡ Some code → at_most 67108864 (length bytes) o ≡ refused code i
      by true d h =
          let k : code ≡ TooLarge = cc in
          let m : nat_le (length bytes) 67108864 ≡ false = grind (arith, nat_tests) in
          rw (m, k) (large d)
      by false d h =
          let x : o ≡ refused code i = e ∙ ap (λ c. unless_refused c i later) h in
          let y : nat_lt i 67108864 ≡ true = grind (arith, nat_tests) in
          rw x (both (nat_le (length bytes) 67108864) (rw y refl))
        where
          both : (t : Bool) → cut 67108864 (refused code i) ≡ refused code i → (if t then refused code i else cut 67108864 (refused code i)) ≡ refused code i
          both true z = refl
          both false z = z

  pub reads-wrong : (f : Refusal) → ((number : List ℕ → ℕ) (logic : Logic) (q : Reading) → Agrees number now → Stands logic q r → IsTaken logic q i (Err (Refused f)) s (next number logic q b))
      → i < length bytes → ComesRefused now logic of_formula bytes f.code f.at
  reads-wrong f taken inside number agrees =
      let p = reads.place number (Agrees-grows names now number grows agrees) in
      let t = taken number logic p.q agrees p.stands in
      subst (λ k. at_most 67108864 (length bytes) (outcome number logic (start of_formula) 0 bytes) ≡ refused f.code k) (sym t.0)
      (refusal (outcome number logic (start of_formula) 0 bytes) _ _ f.code (from number agrees p) t.1
      (λ d. subst (λ m. cut m (outcome number logic (start of_formula) 0 bytes) ≡ refused TooLarge i) (large-place d)
      (ap (cut i) p.same ∙ later number logic i (drop i bytes) (on p.q) i (omega arith)))
      inside reads.few)
    where
      large-place : nat_le 67108864 i ≡ true → i ≡ 67108864
      large-place d = let few = reads.few in grind (arith, nat_tests)

  pub reads-stopped : (e : ParseRefusal) → ((number : List ℕ → ℕ) (logic : Logic) (q : Reading) → Agrees number now → Stands logic q r → IsTaken logic q i (Err e) s (next number logic q b)) → i < length bytes → IsAnswer now logic bytes (Err e)
  reads-stopped (Refused f) taken inside = reads-wrong f taken inside
  reads-stopped OutOfMemory taken inside = tt

module _ (old names now : List (List ℕ)) (logic : Logic) (bytes : List ℕ) (r : PlainReader) (reads : ReadsTo old names logic bytes r (length bytes)) (grows : Grows names now) where
  at-end : (number : List ℕ → ℕ) (agrees : Agrees number now) (p : Place number logic bytes r (length bytes)) → outcome number logic (start of_formula) 0 bytes ≡ outcome_at_end (length bytes) (next number logic p.q 10)
  at-end number agrees p = p.same ∙ ap (outcome number logic (on p.q) (length bytes)) (drop_all (length bytes) bytes (omega arith))

  pub reads-end : (result : Result Formula ParseRefusal)
      → ((number : List ℕ → ℕ) (logic : Logic) (q : Reading) → Agrees number now → Stands logic q r → IsOfFormula q → IsEnded (length bytes) result (outcome_at_end (length bytes) (next number logic q 10))) → IsAnswer now logic bytes result
  reads-end (Ok f) ended = (
    reads.few,
    λ number agrees.
        let p = reads.place number (Agrees-grows names now number grows agrees) in at-end number agrees p ∙ ended number logic p.q agrees p.stands p.wanted,
  )
  reads-end (Err OutOfMemory) ended = tt
  reads-end (Err (Refused f)) ended = λ number agrees.
      let p = reads.place number (Agrees-grows names now number grows agrees) in
      let e = ended number logic p.q agrees p.stands p.wanted in
      let few = reads.few in
      let short : nat_le (length bytes) 67108864 ≡ true = grind (arith, nat_tests) in
      let o : outcome number logic (start of_formula) 0 bytes ≡ refused f.code (length bytes) = at-end number agrees p ∙ e.0 in
      rw (short, e.1) o
