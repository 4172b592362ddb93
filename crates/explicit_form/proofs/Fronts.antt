-- What a reader sees of a line at once is what it reads byte by byte.
use Rattle.std.proofs.Common.{◌≡◌, ℕ, suc, ◌+◌, ◌-◌, ◌<◌, ◌≤◌, Bool, true, false, if◌then◌else◌, ◌&&◌, inl, inr, List, [], ◌∷◌, ◌++◌, length, take, drop, Option, Some, None, IfSome, refl, sym, ap, ◌∙◌, subst, arith, nat_eq, nat_lt, nat_le, add-one}
use Rattle.std.proofs.lemmas.Bool.{and_parts, and_from, cond-true, cond-false}
use Rattle.std.proofs.lemmas.Bool.Decides.{nat_tests}
use Rattle.std.proofs.Math.ListN.{get_or}
use Rattle.std.proofs.Math.Seq.{take-suc, drop-cons}
use Rattle.fpc_base.specs.declared.refusal.Code.{Code}
use Rattle.fpc_base.specs.Tokens.{is_digit}
use Rattle.polarised_formulas.specs.declared.logic.Logic.{Logic}
use Rattle.polarised_formulas.specs.declared.logic.Logic.TheVariants.{Lkf, Ljf}
use Rattle.polarised_formulas.specs.declared.logic.Side.TheVariants.{Left, Right}
use Rattle.polarised_formulas.specs.declared.step.Step.{Step}
use Rattle.polarised_formulas.specs.PlainReading.{can_grow, grown}
use Rattle.polarised_formulas.proofs.Lookups.{EachOf}
use Rattle.explicit_form.specs.declared.word.Bare.TheVariants as bare
use Rattle.explicit_form.specs.declared.word.Placed.{Placed}
use Rattle.explicit_form.specs.declared.word.Placed.TheVariants as placed
use Rattle.explicit_form.specs.declared.word.Written.TheVariants as written
use Rattle.explicit_form.specs.declared.word.Word.{Word}
use Rattle.explicit_form.specs.declared.word.Word.TheVariants as word
use Rattle.explicit_form.specs.declared.step_reader.StepReader.{StepReader}
use Rattle.explicit_form.specs.StepText.{word_text, words, IsOneOf}
use Rattle.explicit_form.specs.StepReading.{placed_step, in_word, at_place, in_place, behind_word, State, heading, reading, ended, mistaken, stuck, settle, go}
use Rattle.explicit_form.specs.StepLimits.{most_bytes, state_limit, told_at, byte_fault, fault, AreUntold}
use Rattle.explicit_form.specs.Feeding.{IsAt, HasTaken, done_of, pushed, line_length}
use Rattle.explicit_form.specs.Fronts.{is_word, IsTextAt, IsFound, IsWordAt, is_nothing, is_untold, are_untold, Leads, IsPlaceAt}
use Rattle.explicit_form.proofs.WordFacts.{IsOneOf-each}

-- a word of the logic stands in its list
pub word_of : (logic : Logic) (w : Word) → is_word logic w ≡ true → IsOneOf w (words logic)
word_of Lkf (word.Bare bare.TrueN) h = inl refl
word_of Lkf (word.Bare bare.FalseN) h = inr (inl refl)
word_of Lkf (word.Bare bare.OrN) h = inr (inr (inl refl))
word_of Lkf (word.Bare bare.AndN) h = inr (inr (inr (inl refl)))
word_of Lkf (word.Bare bare.Every) h = inr (inr (inr (inr (inl refl))))
word_of Lkf (word.Bare bare.Store) h = inr (inr (inr (inr (inr (inl refl)))))
word_of Lkf (word.Placed placed.Decide) h = inr (inr (inr (inr (inr (inr (inl refl))))))
word_of Lkf (word.Bare bare.TrueP) h = inr (inr (inr (inr (inr (inr (inr (inl refl)))))))
word_of Lkf (word.Bare bare.AndP) h = inr (inr (inr (inr (inr (inr (inr (inr (inl refl))))))))
word_of Lkf (word.Bare (bare.OrP Left)) h = inr (inr (inr (inr (inr (inr (inr (inr (inr (inl refl)))))))))
word_of Lkf (word.Bare (bare.OrP Right)) h = inr (inr (inr (inr (inr (inr (inr (inr (inr (inr (inl refl))))))))))
word_of Lkf (word.Written written.Exists) h = inr (inr (inr (inr (inr (inr (inr (inr (inr (inr (inr (inl refl)))))))))))
word_of Lkf (word.Bare bare.Release) h = inr (inr (inr (inr (inr (inr (inr (inr (inr (inr (inr (inr (inl refl))))))))))))
word_of Lkf (word.Placed placed.Init) h = inr (inr (inr (inr (inr (inr (inr (inr (inr (inr (inr (inr (inr (inl refl)))))))))))))
word_of Lkf (word.Written written.Cut) h = inr (inr (inr (inr (inr (inr (inr (inr (inr (inr (inr (inr (inr (inr (inl refl))))))))))))))
word_of Lkf word.End h = inr (inr (inr (inr (inr (inr (inr (inr (inr (inr (inr (inr (inr (inr (inr (inl refl)))))))))))))))
word_of Ljf (word.Bare bare.LTrue) h = inl refl
word_of Ljf (word.Bare bare.LFalse) h = inr (inl refl)
word_of Ljf (word.Bare bare.LAnd) h = inr (inr (inl refl))
word_of Ljf (word.Bare bare.LOr) h = inr (inr (inr (inl refl)))
word_of Ljf (word.Bare bare.LExists) h = inr (inr (inr (inr (inl refl))))
word_of Ljf (word.Bare bare.LStore) h = inr (inr (inr (inr (inr (inl refl)))))
word_of Ljf (word.Bare bare.RTrue) h = inr (inr (inr (inr (inr (inr (inl refl))))))
word_of Ljf (word.Bare bare.RAnd) h = inr (inr (inr (inr (inr (inr (inr (inl refl)))))))
word_of Ljf (word.Bare bare.RImp) h = inr (inr (inr (inr (inr (inr (inr (inr (inl refl))))))))
word_of Ljf (word.Bare bare.REvery) h = inr (inr (inr (inr (inr (inr (inr (inr (inr (inl refl)))))))))
word_of Ljf (word.Bare bare.RStore) h = inr (inr (inr (inr (inr (inr (inr (inr (inr (inr (inl refl))))))))))
word_of Ljf (word.Placed placed.DecideL) h = inr (inr (inr (inr (inr (inr (inr (inr (inr (inr (inr (inl refl)))))))))))
word_of Ljf (word.Bare bare.DecideR) h = inr (inr (inr (inr (inr (inr (inr (inr (inr (inr (inr (inr (inl refl))))))))))))
word_of Ljf (word.Bare (bare.FocLAnd Left)) h = inr (inr (inr (inr (inr (inr (inr (inr (inr (inr (inr (inr (inr (inl refl)))))))))))))
word_of Ljf (word.Bare (bare.FocLAnd Right)) h = inr (inr (inr (inr (inr (inr (inr (inr (inr (inr (inr (inr (inr (inr (inl refl))))))))))))))
word_of Ljf (word.Bare bare.FocLImp) h = inr (inr (inr (inr (inr (inr (inr (inr (inr (inr (inr (inr (inr (inr (inr (inl refl)))))))))))))))
word_of Ljf (word.Written written.FocLEvery) h = inr (inr (inr (inr (inr (inr (inr (inr (inr (inr (inr (inr (inr (inr (inr (inr (inl refl))))))))))))))))
word_of Ljf (word.Bare bare.FocLInit) h = inr (inr (inr (inr (inr (inr (inr (inr (inr (inr (inr (inr (inr (inr (inr (inr (inr (inl refl)))))))))))))))))
word_of Ljf (word.Bare bare.FocLRelease) h = inr (inr (inr (inr (inr (inr (inr (inr (inr (inr (inr (inr (inr (inr (inr (inr (inr (inr (inl refl))))))))))))))))))
word_of Ljf (word.Bare bare.FocRTrue) h = inr (inr (inr (inr (inr (inr (inr (inr (inr (inr (inr (inr (inr (inr (inr (inr (inr (inr (inr (inl refl)))))))))))))))))))
word_of Ljf (word.Bare bare.FocRAnd) h = inr (inr (inr (inr (inr (inr (inr (inr (inr (inr (inr (inr (inr (inr (inr (inr (inr (inr (inr (inr (inl refl))))))))))))))))))))
word_of Ljf (word.Bare (bare.FocROr Left)) h = inr (inr (inr (inr (inr (inr (inr (inr (inr (inr (inr (inr (inr (inr (inr (inr (inr (inr (inr (inr (inr (inl refl)))))))))))))))))))))
word_of Ljf (word.Bare (bare.FocROr Right)) h = inr (inr (inr (inr (inr (inr (inr (inr (inr (inr (inr (inr (inr (inr (inr (inr (inr (inr (inr (inr (inr (inr (inl refl))))))))))))))))))))))
word_of Ljf (word.Written written.FocRExists) h = inr (inr (inr (inr (inr (inr (inr (inr (inr (inr (inr (inr (inr (inr (inr (inr (inr (inr (inr (inr (inr (inr (inr (inl refl)))))))))))))))))))))))
word_of Ljf (word.Placed placed.FocRInit) h = inr (inr (inr (inr (inr (inr (inr (inr (inr (inr (inr (inr (inr (inr (inr (inr (inr (inr (inr (inr (inr (inr (inr (inr (inl refl))))))))))))))))))))))))
word_of Ljf (word.Bare bare.FocRRelease) h = inr (inr (inr (inr (inr (inr (inr (inr (inr (inr (inr (inr (inr (inr (inr (inr (inr (inr (inr (inr (inr (inr (inr (inr (inr (inl refl)))))))))))))))))))))))))
word_of Ljf (word.Written written.Cut) h = inr (inr (inr (inr (inr (inr (inr (inr (inr (inr (inr (inr (inr (inr (inr (inr (inr (inr (inr (inr (inr (inr (inr (inr (inr (inr (inl refl))))))))))))))))))))))))))
word_of Ljf word.End h = inr (inr (inr (inr (inr (inr (inr (inr (inr (inr (inr (inr (inr (inr (inr (inr (inr (inr (inr (inr (inr (inr (inr (inr (inr (inr (inr (inl refl)))))))))))))))))))))))))))
word_of _ _ h = cc

-- a text that stands in the bytes ends in them
text-fits : (bytes : List ℕ) (n : ℕ) (text : List ℕ) → IsTextAt bytes n text → n + length text ≤ length bytes
text-fits bytes n [] h = omega (arith, h)
text-fits bytes n (c ∷ cs) h = let l = text-fits bytes (suc n) cs h.1 in omega arith

text-parts : (bytes : List ℕ) (n : ℕ) (text : List ℕ) → IsTextAt bytes n text → (more : List ℕ) × (drop n bytes ≡ text ++ more)
text-parts bytes n [] h = (drop n bytes, refl)
text-parts bytes n (c ∷ cs) h =
    let l = text-fits bytes (suc n) cs h.1 in
    let rest = text-parts bytes (suc n) cs h.1 in
    (rest.0, drop-cons bytes n 0 (omega arith) ∙ ap (λ b. b ∷ drop (suc n) bytes) h.0 ∙ ap (λ bs. c ∷ bs) rest.1)

-- what is found is a word of the logic, with all its bytes
pub found-word : (logic own : Logic) (bytes : List ℕ) (o : Option (Word × ℕ)) → logic ≡ own → IfSome o (λ r. IsFound own bytes r.0 r.1) → IfSome o (λ r. IsWordAt logic bytes r.0 × (r.1 ≡ length (word_text r.0)))
found-word logic own bytes None e h = tt
found-word logic own bytes (Some r) e h = ((text-parts bytes 0 (word_text r.0) h.2, subst (λ l. IsOneOf r.0 (words l)) (sym e) (word_of own r.0 h.0)), h.1)

-- a word is read to its end, and nothing is told of its bytes
abbrev WordLeads : (List ℕ → ℕ) → Logic → Word → Type 0
WordLeads number logic x = (done : List Step) → Leads number logic (reading done (in_word [])) (word_text x) (settle done (behind_word x))

words-lead : (number : List ℕ → ℕ) (logic : Logic) → EachOf (WordLeads number logic) (words logic)
words-lead number Lkf = (λ _. (refl, refl), (λ _. (refl, refl), (λ _. (refl, refl), (λ _. (refl, refl), (λ _. (refl, refl), (λ _. (refl, refl), (λ _. (refl, refl), (λ _. (refl, refl), (λ _. (refl, refl), (λ _. (refl, refl), (λ _. (refl, refl), (λ _. (refl, refl), (λ _. (refl, refl), (λ _. (refl, refl), (λ _. (refl, refl), (λ _. (refl, refl), tt))))))))))))))))
words-lead number Ljf = (λ _. (refl, refl), (λ _. (refl, refl), (λ _. (refl, refl), (λ _. (refl, refl), (λ _. (refl, refl), (λ _. (refl, refl), (λ _. (refl, refl), (λ _. (refl, refl), (λ _. (refl, refl), (λ _. (refl, refl), (λ _. (refl, refl), (λ _. (refl, refl), (λ _. (refl, refl), (λ _. (refl, refl), (λ _. (refl, refl), (λ _. (refl, refl), (λ _. (refl, refl), (λ _. (refl, refl), (λ _. (refl, refl), (λ _. (refl, refl), (λ _. (refl, refl), (λ _. (refl, refl), (λ _. (refl, refl), (λ _. (refl, refl), (λ _. (refl, refl), (λ _. (refl, refl), (λ _. (refl, refl), (λ _. (refl, refl), tt))))))))))))))))))))))))))))

pub word-leads : (number : List ℕ → ℕ) (logic : Logic) (x : Word) → IsOneOf x (words logic) → (done : List Step) → Leads number logic (reading done (in_word [])) (word_text x) (settle done (behind_word x))
word-leads number logic x h = IsOneOf-each (WordLeads number logic) (words logic) (words-lead number logic) x h

-- nothing is told of bytes that lie below the limit, if nothing is told of them but for their places
untold-byte : (place : ℕ) (st next : State) → place < most_bytes → is_untold st next ≡ true → fault place st next ≡ None
untold-byte place st next l h =
    let t : nat_le most_bytes place ≡ false = grind (arith, nat_tests) in cond-false (nat_le most_bytes place) _ _ t ∙ by next h
  where
    told : (o : Option Code) → is_nothing o ≡ true → told_at place o ≡ None
    told None e = refl
    told (Some code) e = cc

    by : (n : State) → is_untold st n ≡ true → byte_fault place st n ≡ None
    by (heading w) e = told (state_limit st (heading w)) e
    by (reading done m) e = told (state_limit st (reading done m)) e
    by (ended done) e = told (state_limit st (ended done)) e
    by mistaken e = cc
    by stuck e = cc

pub untold-below : (number : List ℕ → ℕ) (logic : Logic) (bytes : List ℕ) (st : State) (place : ℕ) → place + length bytes ≤ most_bytes → are_untold number logic st bytes ≡ true → AreUntold number logic st place bytes
untold-below number logic [] st place l h = tt
untold-below number logic (b ∷ bytes) st place l h =
    let p = and_parts (is_untold st (go number logic st b)) (are_untold number logic (go number logic st b) bytes) h in
    let here : place < most_bytes = omega arith in
    let later : suc place + length bytes ≤ most_bytes = omega arith in
    (untold-byte place st (go number logic st b) here p.0, untold-below number logic bytes (go number logic st b) (suc place) later p.1)

-- bytes that lead on from where others led
pub leads-on : (number : List ℕ → ℕ) (logic : Logic) (front more : List ℕ) (st next last : State) → Leads number logic st front next → Leads number logic next more last → Leads number logic st (front ++ more) last
leads-on number logic [] more st next last h k = subst (λ s. Leads number logic s more last) (sym h.0) k
leads-on number logic (b ∷ front) more st next last h k =
    let p = and_parts (is_untold st (go number logic st b)) (are_untold number logic (go number logic st b) front) h.1 in
    let rest = leads-on number logic front more (go number logic st b) next last (h.0, p.1) k in
    (rest.0, and_from (is_untold st (go number logic st b)) (are_untold number logic (go number logic st b) (front ++ more)) p.0 rest.1)

-- a reader that stands where bytes lead has taken them
pub taken-led : (number : List ℕ → ℕ) (logic : Logic) (st next : State) (place : ℕ) (bytes : List ℕ) (r : StepReader) → place + length bytes ≤ most_bytes → Leads number logic st bytes next → IsAt logic next r
    → done_of next ≡ pushed r.step (done_of st) → HasTaken number logic st place bytes r
taken-led number logic st next place bytes r l h here done = record {
  where_is = subst (λ s. IsAt logic s r) (sym h.0) here;
  untold = untold-below number logic bytes st place l h.1;
  step_is = ap done_of h.0 ∙ done;
}

-- one byte
leads-one : (number : List ℕ → ℕ) (logic : Logic) (st next : State) (b : ℕ) → go number logic st b ≡ next → is_untold st next ≡ true → Leads number logic st (b ∷ []) next
leads-one number logic st next b e u = (e, and_from (is_untold st (go number logic st b)) true (ap (is_untold st) e ∙ u) refl)

-- the first digits of a place, so many, and what they say
abbrev pub IsInPlace : List ℕ → ℕ → ℕ → Type 0
IsInPlace bytes k n =
    ((number : List ℕ → ℕ) (logic : Logic) (done : List Step) (p : Placed) → Leads number logic (reading done (at_place p)) (take n bytes) (reading done (in_place p k)))
    × (line_length bytes ≡ n + line_length (drop n bytes))
    × (n ≤ length bytes)

no_end : (b : ℕ) → is_digit b ≡ true → nat_eq b 10 ≡ false
no_end b h = let p = and_parts (nat_le 48 b) (nat_le b 57) h in grind (arith, nat_tests)

line-on : (b : ℕ) (more : List ℕ) → nat_eq b 10 ≡ false → line_length (b ∷ more) ≡ suc (line_length more)
line-on b more e = cond-false (nat_eq b 10) 1 (suc (line_length more)) e

pub place-begin : (bytes : List ℕ) (b : ℕ) → 0 < length bytes → b ≡ get_or bytes 0 0 → is_digit b ≡ true → IsInPlace bytes (b - 48) 1
place-begin [] b l e h = absurd (let no : ⊥ = omega arith in no)
place-begin (c ∷ cs) b l e h = subst (λ d. IsInPlace (c ∷ cs) (d - 48) 1) (sym e) (
  λ number logic done p. leads-one number logic (reading done (at_place p)) (reading done (in_place p (c - 48))) c (ap (settle done) (cond-true (is_digit c) _ _ digit)) refl,
  line-on c cs (no_end c digit) ∙ sym (add-one (line_length cs)) ∙ (let s : line_length cs + 1 ≡ 1 + line_length cs = omega arith in s),
  (let s : 1 ≤ suc (length cs) = omega arith in s),
)
  where
    digit : is_digit c ≡ true
    digit = ap is_digit (sym e) ∙ h

module _ (bytes : List ℕ) (k n b : ℕ) (inside : IsInPlace bytes k n) (within : n < length bytes) (b_is : b ≡ get_or bytes n 0) where
  split : drop n bytes ≡ b ∷ drop (suc n) bytes
  split = drop-cons bytes n 0 within ∙ ap (λ c. c ∷ drop (suc n) bytes) (sym b_is)

  longer : take (n + 1) bytes ≡ take n bytes ++ b ∷ []
  longer = ap (λ m. take m bytes) (add-one n) ∙ take-suc bytes n 0 within ∙ ap (λ c. take n bytes ++ c ∷ []) (sym b_is)

  pub place-next : can_grow k b ≡ true → IsInPlace bytes (grown k b) (n + 1)
  place-next g = (
    λ number logic done p. subst (λ bs. Leads number logic (reading done (at_place p)) bs (reading done (in_place p (grown k b)))) (sym longer)
        (leads-on number logic (take n bytes) (b ∷ []) (reading done (at_place p)) (reading done (in_place p k)) (reading done (in_place p (grown k b))) (inside.0 number logic done p)
        (leads-one number logic (reading done (in_place p k)) (reading done (in_place p (grown k b))) b (ap (settle done) (cond-true (can_grow k b) _ _ g)) refl)),
    (let e = inside.1 in
        let digit = (and_parts (is_digit b) (nat_lt 0 k && nat_lt k 100000000) g).0 in
        let f : line_length (drop n bytes) ≡ suc (line_length (drop (suc n) bytes)) = ap line_length split ∙ line-on b (drop (suc n) bytes) (no_end b digit) in
        rw (add-one n) (let s : line_length bytes ≡ suc n + line_length (drop (suc n) bytes) = omega arith in s)),
    (let s : n + 1 ≤ length bytes = omega arith in s),
  )

  pub place-end : b ≡ 10 → IsPlaceAt bytes k (n + 1)
  place-end e = (
    λ number logic done p. subst (λ bs. Leads number logic (reading done (at_place p)) bs (reading (placed_step p k ∷ done) (in_word []))) (sym longer)
        (leads-on number logic (take n bytes) (b ∷ []) (reading done (at_place p)) (reading done (in_place p k)) (reading (placed_step p k ∷ done) (in_word [])) (inside.0 number logic done p)
        (leads-one number logic (reading done (in_place p k)) (reading (placed_step p k ∷ done) (in_word [])) b (ap (go number logic (reading done (in_place p k))) e) refl)),
    (let i = inside.1 in
        let f : line_length (drop n bytes) ≡ 1 = ap line_length split ∙ ap (λ c. line_length (c ∷ drop (suc n) bytes)) e in
        let s : n + 1 ≡ line_length bytes = omega arith in s),
    (let s : n + 1 ≤ length bytes = omega arith in s),
  )

-- what the answer for one more digit tells
pub grown-some : (k b g : ℕ) (o : Option ℕ) → o ≡ (if can_grow k b then Some (grown k b) else None) → o ≡ Some g → (can_grow k b ≡ true) × (grown k b ≡ g)
grown-some k b g o e h = by (can_grow k b) refl
  where
    by : (t : Bool) → can_grow k b ≡ t → (can_grow k b ≡ true) × (grown k b ≡ g)
    by true t = let f : (if can_grow k b then Some (grown k b) else None) ≡ Some (grown k b) = cond-true (can_grow k b) (Some (grown k b)) None t in (t, (let s : grown k b ≡ g = cc in s))
    by false t = let f : (if can_grow k b then Some (grown k b) else None) ≡ None = cond-false (can_grow k b) (Some (grown k b)) None t in let no : ⊥ = cc in absurd no
