-- The line of a term or a formula is read as that term or formula.
use Rattle.std.proofs.Common.{◌≡◌, ℕ, ◌+◌, ◌-◌, ◌*◌, ◌/◌, ◌%◌, ◌^◌, ◌<◌, ◌≤◌, true, false, ◌&&◌, List, [], ◌∷◌, ◌++◌, decimal, refl, sym, ap, ◌∙◌, subst, arith, nat_eq, nat_lt, nat_le, append_assoc, append-nil}
use Rattle.std.specs.List.{list_all}
use Rattle.std.proofs.lemmas.Bool.{and_parts, and_from, and_left, cond-true, cond-false}
use Rattle.std.proofs.lemmas.Bool.Decides.{nat_tests}
use Rattle.std.proofs.lemmas.Fmt.{decimal_by_steps}
use Rattle.fpc_base.specs.Tokens.{is_digit}
use Rattle.fpc_terms.specs.Name.{is_small_letter, is_name_byte}
use Rattle.fpc_terms.specs.Term.{Term, Args, eigen, bound, variable, app, no_args, arg}
use Rattle.fpc_terms.specs.Text.{args_before, more_before, plain_leaves}
use Rattle.polarised_formulas.specs.declared.logic.Logic.{Logic}
use Rattle.polarised_formulas.specs.PlainReading.{Around, in_term, depth_around, Reading, at_term, in_function, at_eigen, in_eigen, at_index, in_index, behind_term, Next, on, args_onto, end_term, is_keyword, can_grow, grown, next, go, run, start}
use Rattle.polarised_formulas.specs.PlainForm.{begins_name, IsPlainName, IsPlainTerm, ArePlainTerms, plain_term}

-- what may stand behind a term or a formula
pub data Closer : Type 0 where
  newline : Closer
  comma : Closer
  close : Closer
  blank : Closer

abbrev pub byte_of : Closer → ℕ
byte_of newline = 10
byte_of comma = 44
byte_of close = 41
byte_of blank = 32

pub ends_names : (c : Closer) → is_name_byte (byte_of c) ≡ false
ends_names newline = refl
ends_names comma = refl
ends_names close = refl
ends_names blank = refl

pub not_open : (c : Closer) → nat_eq (byte_of c) 40 ≡ false
not_open newline = refl
not_open comma = refl
not_open close = refl
not_open blank = refl

no_growth : (k : ℕ) (c : Closer) → can_grow k (byte_of c) ≡ false
no_growth k newline = refl
no_growth k comma = refl
no_growth k close = refl
no_growth k blank = refl

pub small_above : (b k : ℕ) → is_small_letter b ≡ true → k < 97 → nat_eq b k ≡ false
small_above b k h l = let p = and_parts (nat_le 97 b) (nat_le b 122) h in grind (arith, nat_tests)

pub small_below : (b k : ℕ) → is_small_letter b ≡ true → 122 < k → nat_eq b k ≡ false
small_below b k h l = let p = and_parts (nat_le 97 b) (nat_le b 122) h in grind (arith, nat_tests)

is_digit-digit : (d : ℕ) → d < 10 → is_digit (48 + d) ≡ true
is_digit-digit d l = and_from (nat_le 48 (48 + d)) (nat_le (48 + d) 57) (grind (arith, nat_tests)) (grind (arith, nat_tests))

tested : (a b : ℕ) → a < b → nat_lt a b ≡ true
tested a b l = grind (arith, nat_tests)

can_grow-digit : (k d : ℕ) → 0 < k → k < 100000000 → d < 10 → can_grow k (48 + d) ≡ true
can_grow-digit k d low high l = and_from (is_digit (48 + d)) (nat_lt 0 k && nat_lt k 100000000) (is_digit-digit d l) (and_from (nat_lt 0 k) (nat_lt k 100000000) (tested 0 k low) (tested k 100000000 high))

digit_value : (d : ℕ) → 48 + d - 48 ≡ d
digit_value d = omega arith

grown-digit : (k d : ℕ) → grown k (48 + d) ≡ 10 * k + d
grown-digit k d = ap (λ e. 10 * k + e) (digit_value d)

module _ (number : List ℕ → ℕ) (logic : Logic) where
  pub run-append : (n : Next) (xs ys : List ℕ) → run number logic n (xs ++ ys) ≡ run number logic (run number logic n xs) ys
  run-append n [] ys = refl
  run-append n (x ∷ xs) ys = run-append (go number logic n x) xs ys

  record Digits (start : Reading) (inside : ℕ → Reading) (limit : ℕ) : Type 0 where
    one : (d : ℕ) → d < 10 → d < limit → next number logic start (48 + d) ≡ on (inside d)
    more : (k d : ℕ) → 0 < k → k < 100000000 → d < 10 → 10 * k + d < limit → next number logic (inside k) (48 + d) ≡ on (inside (10 * k + d))

  abbrev RunsDigits : (start : Reading) (inside : ℕ → Reading) → ℕ → ℕ → List ℕ → Type 0
  RunsDigits start inside limit n ds = n < limit → n < 1000000000 → (rest : List ℕ) → run number logic (on start) (ds ++ rest) ≡ run number logic (on (inside n)) rest

  run-last_digit : (start : Reading) (inside : ℕ → Reading) (limit : ℕ) → Digits start inside limit → (n : ℕ) (ds : List ℕ) → 10 ≤ n → RunsDigits start inside limit (n / 10) ds → RunsDigits start inside limit n (ds ++ (48 + n % 10) ∷ [])
  run-last_digit start inside limit digits n ds ge front = λ l s rest.
      let whole : 10 * (n / 10) + n % 10 ≡ n = omega arith in
      let small : n % 10 < 10 = omega arith in
      let positive : 0 < n / 10 = omega arith in
      let high : n / 10 < 100000000 = omega arith in
      let below : n / 10 < limit = omega arith in
      let most : n / 10 < 1000000000 = omega arith in
      let within : 10 * (n / 10) + n % 10 < limit = subst (λ m. m < limit) (sym whole) l in
      ap (run number logic (on start)) (append_assoc ds ((48 + n % 10) ∷ []) rest)
      ∙ front below most ((48 + n % 10) ∷ rest)
      ∙ ap (λ m. run number logic m rest) (digits.more (n / 10) (n % 10) positive high small within)
      ∙ ap (λ m. run number logic (on (inside m)) rest) whole

  run-decimal : (start : Reading) (inside : ℕ → Reading) (limit : ℕ) → Digits start inside limit → (n : ℕ) → RunsDigits start inside limit n (decimal n)
  run-decimal start inside limit digits n = λ l s rest.
      let fits : n < 2 ^ 64 = omega arith in
      decimal_by_steps (RunsDigits start inside limit) (λ m low. λ below most more. ap (λ x. run number logic x more) (digits.one m low below)) (run-last_digit start inside limit digits) n fits l s rest

  run-name_bytes : (inside : List ℕ → Reading) → ((w : List ℕ) (b : ℕ) → is_name_byte b ≡ true → next number logic (inside w) b ≡ on (inside (w ++ b ∷ []))) → (bs w rest : List ℕ) → list_all is_name_byte bs ≡ true
      → run number logic (on (inside w)) (bs ++ rest) ≡ run number logic (on (inside (w ++ bs))) rest
  run-name_bytes inside step [] w rest all = ap (λ v. run number logic (on (inside v)) rest) (sym (append-nil w))
  run-name_bytes inside step (b ∷ bs) w rest all =
      let p = and_parts (is_name_byte b) (list_all is_name_byte bs) all in
      ap (λ n. run number logic n (bs ++ rest)) (step w b p.0) ∙ run-name_bytes inside step bs (w ++ b ∷ []) rest p.1 ∙ ap (λ v. run number logic (on (inside v)) rest) (append_assoc w (b ∷ []) bs)

  -- a name is read from its first byte on
  pub record Names (start : Reading) (inside : List ℕ → Reading) : Type 0 where
    pub first : (b : ℕ) → is_small_letter b ≡ true → next number logic start b ≡ on (inside (b ∷ []))
    pub later : (w : List ℕ) (b : ℕ) → is_name_byte b ≡ true → next number logic (inside w) b ≡ on (inside (w ++ b ∷ []))

  pub run-name : (start : Reading) (inside : List ℕ → Reading) → Names start inside → (w rest : List ℕ) → begins_name w ≡ true → run number logic (on start) (w ++ rest) ≡ run number logic (on (inside w)) rest
  run-name start inside names [] rest h = cc
  run-name start inside names (b ∷ bs) rest h =
      let p = and_parts (is_small_letter b) (list_all is_name_byte bs) h in
      ap (λ n. run number logic n (bs ++ rest)) (names.first b p.0) ∙ run-name_bytes inside names.later bs (b ∷ []) rest p.1

  Digits-eigen : (up : Around) → Digits (at_eigen up) (in_eigen up) 1000000000
  Digits-eigen up = record {
    one = λ d l _. cond-true (is_digit (48 + d)) _ _ (is_digit-digit d l) ∙ ap (λ n. on (in_eigen up n)) (digit_value d);
    more = λ k d low high l _. cond-true (can_grow k (48 + d)) _ _ (can_grow-digit k d low high l) ∙ ap (λ n. on (in_eigen up n)) (grown-digit k d);
  }

  Digits-index : (up : Around) → Digits (at_index up) (in_index up) (depth_around up)
  Digits-index up = record {
    one = λ d l within.
        cond-true (is_digit (48 + d) && nat_lt (48 + d - 48) (depth_around up)) _ _
        (and_from (is_digit (48 + d)) (nat_lt (48 + d - 48) (depth_around up)) (is_digit-digit d l) (ap (λ n. nat_lt n (depth_around up)) (digit_value d) ∙ tested d (depth_around up) within))
        ∙ ap (λ n. on (in_index up n)) (digit_value d);
    more = λ k d low high l within.
        cond-true (can_grow k (48 + d) && nat_lt (grown k (48 + d)) (depth_around up)) _ _
        (and_from (can_grow k (48 + d)) (nat_lt (grown k (48 + d)) (depth_around up)) (can_grow-digit k d low high l) (ap (λ n. nat_lt n (depth_around up)) (grown-digit k d) ∙ tested (10 * k + d) (depth_around up) within))
        ∙ ap (λ n. on (in_index up n)) (grown-digit k d);
  }

  eigen-ends : (up : Around) (k : ℕ) (c : Closer) → next number logic (in_eigen up k) (byte_of c) ≡ end_term up (eigen k) (byte_of c)
  eigen-ends up k c = cond-false (can_grow k (byte_of c)) _ _ (no_growth k c)

  index-ends : (up : Around) (k : ℕ) (c : Closer) → next number logic (in_index up k) (byte_of c) ≡ end_term up (bound k) (byte_of c)
  index-ends up k c = cond-false (can_grow k (byte_of c) && nat_lt (grown k (byte_of c)) (depth_around up)) _ _ (and_left (can_grow k (byte_of c)) _ (no_growth k c))

  index-begins : (up : Around) (k : ℕ) → k < depth_around up → (rest : List ℕ) → run number logic (on (at_term up)) (35 ∷ rest) ≡ run number logic (on (at_index up)) rest
  index-begins up k l rest = ap (λ n. run number logic n rest) (cond-true (nat_lt 0 (depth_around up)) _ _ (tested 0 (depth_around up) (omega arith)))

  pub Names-function : (up : Around) → Names (at_term up) (in_function up)
  Names-function up = record {
    first = λ b h. cond-false (nat_eq b 36) _ _ (small_above b 36 h (omega arith)) ∙ cond-false (nat_eq b 35) _ _ (small_above b 35 h (omega arith)) ∙ cond-true (is_small_letter b) _ _ h;
    later = λ w b h. cond-true (is_name_byte b) _ _ h;
  }

  function-opens : (up : Around) (w : List ℕ) → is_keyword w ≡ false → next number logic (in_function up w) 40 ≡ on (at_term (in_term (number w) [] up))
  function-opens up w k = cond-false (is_keyword w) _ _ k

  function-ends : (up : Around) (w : List ℕ) (c : Closer) → is_keyword w ≡ false → next number logic (in_function up w) (byte_of c) ≡ end_term up (app (number w) no_args) (byte_of c)
  function-ends up w c k = cond-false (is_name_byte (byte_of c)) _ _ (ends_names c) ∙ cond-false (is_keyword w) _ _ k ∙ cond-false (nat_eq (byte_of c) 40) _ _ (not_open c)

  -- a frame that gathers arguments, and what they make
  pub record Gathers (d : ℕ) (frame : List Term → Around) (done : Args → Reading) : Type 0 where
    pub depth : (us : List Term) → depth_around (frame us) ≡ d
    pub comma : (us : List Term) (t : Term) → end_term (frame us) t 44 ≡ on (at_term (frame (t ∷ us)))
    pub close : (us : List Term) (t : Term) → end_term (frame us) t 41 ≡ on (done (args_onto us (arg t no_args)))

  module _ (text : ℕ → List ℕ) where
    abbrev pub RunsArgs : Args → (List Term → Around) → (Args → Reading) → List Term → List ℕ → Type 0
    RunsArgs no_args frame done us rest = Unit {0}
    RunsArgs (arg t ts) frame done us rest = run number logic (on (at_term (frame us))) (plain_term text t (more_before (plain_leaves text) ts rest)) ≡ run number logic (on (done (args_onto us (arg t ts)))) rest

    abbrev RunsTerm : Term → Around → Type 0
    RunsTerm t up = (c : Closer) (rest : List ℕ) → run number logic (on (at_term up)) (plain_term text t (byte_of c ∷ rest)) ≡ run number logic (end_term up t (byte_of c)) rest

    run-more : (d : ℕ) (frame : List Term → Around) (done : Args → Reading) → Gathers d frame done → (us : List Term) (rest : List ℕ) (t : Term) → RunsTerm t (frame us) → (ts : Args) → RunsArgs ts frame done (t ∷ us) rest → RunsArgs (arg t ts) frame done us rest
    run-more d frame done gathers us rest t one no_args later = one close rest ∙ ap (λ n. run number logic n rest) (gathers.close us t)
    run-more d frame done gathers us rest t one (arg s ts) later = one comma _ ∙ ap (λ n. run number logic n (plain_term text s (more_before (plain_leaves text) ts rest))) (gathers.comma us t) ∙ later

    run-function : (up : Around) (f : ℕ) → IsPlainName text number f → (ts : Args) (c : Closer) (rest : List ℕ) → RunsArgs ts (λ us. in_term f us up) (λ vs. behind_term up (app f vs)) [] (byte_of c ∷ rest)
        → run number logic (on (in_function up (text f))) (args_before (plain_leaves text) ts (byte_of c ∷ rest)) ≡ run number logic (end_term up (app f ts) (byte_of c)) rest
    run-function up f h no_args c rest later = ap (λ n. run number logic n rest) (function-ends up (text f) c h.1 ∙ ap (λ g. end_term up (app g no_args) (byte_of c)) h.2)
    run-function up f h (arg t ts) c rest later =
        ap (λ n. run number logic n (plain_term text t (more_before (plain_leaves text) ts (byte_of c ∷ rest)))) (function-opens up (text f) h.1 ∙ ap (λ g. on (at_term (in_term g [] up))) h.2) ∙ later

    mutual
      pub run-term : (t : Term) (up : Around) → IsPlainTerm text number (depth_around up) t → RunsTerm t up
      run-term (eigen k) up p = λ c rest. run-decimal (at_eigen up) (in_eigen up) 1000000000 (Digits-eigen up) k p p (byte_of c ∷ rest) ∙ ap (λ n. run number logic n rest) (eigen-ends up k c)
      run-term (bound k) up p = λ c rest.
          index-begins up k p.0 (decimal k ++ byte_of c ∷ rest) ∙ run-decimal (at_index up) (in_index up) (depth_around up) (Digits-index up) k p.0 p.1 (byte_of c ∷ rest) ∙ ap (λ n. run number logic n rest) (index-ends up k c)
      run-term (variable v) up p = absurd p
      run-term (app f ts) up p = λ c rest.
          run-name (at_term up) (in_function up) (Names-function up) (text f) (args_before (plain_leaves text) ts (byte_of c ∷ rest)) p.0.0
          ∙ run-function up f p.0 ts c rest (run-args ts (depth_around up) p.1 (λ us. in_term f us up) (λ vs. behind_term up (app f vs)) (record { depth = λ us. refl; comma = λ us t. refl; close = λ us t. refl }) [] (byte_of c ∷ rest))

      pub run-args : (ts : Args) (d : ℕ) → ArePlainTerms text number d ts → (frame : List Term → Around) (done : Args → Reading) → Gathers d frame done → (us : List Term) (rest : List ℕ) → RunsArgs ts frame done us rest
      run-args no_args d p frame done gathers us rest = tt
      run-args (arg t ts) d p frame done gathers us rest =
          run-more d frame done gathers us rest t (run-term t (frame us) (subst (λ e. IsPlainTerm text number e t) (sym (gathers.depth us)) p.0)) ts (run-args ts d p.1 frame done gathers (t ∷ us) rest)
