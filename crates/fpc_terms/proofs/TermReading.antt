-- What a reader of one term learns from the machine.
use Rattle.std.specs.Prelude.{◌≡◌, ℕ, ◌≤◌, Bool, true, false, not, if◌then◌else◌, List, [], ◌∷◌, ◌++◌, length, Option, Some, None, Ok, Err, nat_eq, nat_le, refl, codes}
use Rattle.std.proofs.Common.{ap, sym, ◌∙◌, ◌⊎◌, inl, inr, arith}
use Rattle.std.proofs.lemmas.Bool.{and_parts}
use Rattle.std.proofs.lemmas.Bool.Decides.{nat_tests}
use Rattle.fpc_base.specs.declared.refusal.Code.{Code}
use Rattle.fpc_base.specs.declared.refusal.Code.TheVariants.{Unexpected, ManyArguments, ManyVariables}
use Rattle.fpc_base.specs.declared.refusal.Refusal.{Refusal}
use Rattle.fpc_base.specs.declared.tokens.lexeme.Sign.TheVariants.{OpenParenthesis, CloseParenthesis}
use Rattle.fpc_base.specs.Lexeme.{Lexeme, a_name, a_variable, a_sign, Item, says, fault}
use Rattle.fpc_base.specs.Reading.{Begins, IsTaken, IsFinal, ReadsFront, RefusesFront}
use Rattle.fpc_base.specs.Reading as reading
use Rattle.fpc_base.specs.Tokens.{is_one_of}
use Rattle.fpc_terms.specs.Written.{WrittenTerm, variable_word, application, no_words, words, term_tokens, more_tokens, IsKnown, IsTerm, variables_in}
use Rattle.fpc_terms.specs.Spot.{Spot, alone, in_arguments, in_term, tokens_to, done_at, done_tokens, IsSpotKnown, IsAlone, LeadsBehind, TermLimits, many_arguments, many_variables}
use Rattle.fpc_terms.specs.Machine.{TermState, wants, named, has, ended, stuck, step, run, args_with, IsLive, is_full, whole_of, is_too_many, within, limited, is_final, is_open}
use Rattle.fpc_terms.proofs.States.{tokens_before, IsStateKnown, IsAloneState, Follows}
use Rattle.fpc_terms.proofs.TermLaws.{step-follows, run-append, live-run, run-term, run-more, run-done, more-behind}

append-zero : (ts : List Lexeme) → ts ++ [] ≡ ts
append-zero [] = refl
append-zero (c ∷ cs) = ap (λ (us : List Lexeme). c ∷ us) (append-zero cs)

-- what a live run keeps
pub record Led (known : List ℕ → Bool) (cs : List Lexeme) (s : TermState) : Type 0 where
  pub tokens : (rest : List Lexeme) → tokens_before (run known s cs) rest ≡ tokens_before s (cs ++ rest)
  pub known_all : IsStateKnown known (run known s cs)
  pub is_alone : IsAloneState s → IsAloneState (run known s cs)

pub run-led : (known : List ℕ → Bool) (cs : List Lexeme) (s : TermState) → IsStateKnown known s → IsLive (run known s cs) → Led known cs s
run-led known [] s h live = record { tokens = λ rest. refl; known_all = h; is_alone = λ a. a }
run-led known (c ∷ cs) s h live =
    let f : Follows known s c (step known s c) = step-follows known s c h (live-run known cs (step known s c) live) in
    let l : Led known cs (step known s c) = run-led known cs (step known s c) f.known_all live in
    record { tokens = λ rest. l.tokens rest ∙ f.tokens (cs ++ rest); known_all = l.known_all; is_alone = λ a. l.is_alone (f.is_alone a) }

-- the tokens of a term lead to the whole term
pub run-whole : (known : List ℕ → Bool) (w : WrittenTerm) → IsKnown known w → whole_of (run known (wants alone) (term_tokens w [])) ≡ Some w
run-whole known (variable_word x) h = ap (λ (t : Bool). whole_of (if t then has (variable_word x) alone else stuck)) h
run-whole known (application x no_words) h = refl
run-whole known (application x (words t ts)) h =
    ap whole_of (run-term known t (in_term x [] alone) (more_tokens ts []) h.0 (more-behind ts []) ∙ run-more known x [] t ts alone [] h.1)

pub whole-live : (s : TermState) (w : WrittenTerm) → whole_of s ≡ Some w → IsLive s
whole-live stuck w e = let n : ⊥ = cc in absurd n
whole-live (wants s) w e = tt
whole-live (named x s) w e = tt
whole-live (has u s) w e = tt
whole-live (ended args) w e = tt

whole-tokens : (s : TermState) (w : WrittenTerm) → whole_of s ≡ Some w → tokens_before s [] ≡ term_tokens w []
whole-tokens (named x alone) w e = let d : application x no_words ≡ w = cc in ap (λ (u : WrittenTerm). term_tokens u []) d
whole-tokens (has u alone) w e = let d : u ≡ w = cc in ap (λ (u : WrittenTerm). term_tokens u []) d
whole-tokens _ w e = let n : ⊥ = cc in absurd n

whole-known : (known : List ℕ → Bool) (s : TermState) (w : WrittenTerm) → whole_of s ≡ Some w → IsStateKnown known s → IsKnown known w
whole-known known (named x alone) w e h = let d : application x no_words ≡ w = cc in rw (sym d) tt
whole-known known (has u alone) w e h = let d : u ≡ w = cc in rw (sym d) h.0
whole-known known _ w e h = let n : ⊥ = cc in absurd n

-- the tokens are a term exactly where the machine has it whole
pub whole-is : (known : List ℕ → Bool) (ts : List Lexeme) (w : WrittenTerm) → whole_of (run known (wants alone) ts) ≡ Some w → IsTerm known ts w
whole-is known ts w e =
    let l : Led known ts (wants alone) = run-led known ts (wants alone) tt (whole-live (run known (wants alone) ts) w e) in
    record { spelled = sym (l.tokens [] ∙ append-zero ts) ∙ whole-tokens (run known (wants alone) ts) w e; known_all = whole-known known (run known (wants alone) ts) w e l.known_all }

pub is-whole : (known : List ℕ → Bool) (ts : List Lexeme) (w : WrittenTerm) → IsTerm known ts w → whole_of (run known (wants alone) ts) ≡ Some w
is-whole known ts w i = ap (λ (us : List Lexeme). whole_of (run known (wants alone) us)) i.spelled ∙ run-whole known w i.known_all

pub not-whole : (known : List ℕ → Bool) (ts : List Lexeme) → whole_of (run known (wants alone) ts) ≡ None → (w : WrittenTerm) → IsTerm known ts w → ⊥
not-whole known ts e w i = let d : whole_of (run known (wants alone) ts) ≡ Some w = is-whole known ts w i in cc

-- each live state of a term by itself has tokens that make it whole
pub record Completes (known : List ℕ → Bool) (s : TermState) : Type 0 where
  pub more : List Lexeme
  pub term : WrittenTerm
  pub leads : whole_of (run known s more) ≡ Some term

has-completes : (known : List ℕ → Bool) (u : WrittenTerm) (s : Spot) → IsAlone s → Completes known (has u s)
has-completes known u alone a = record { more = []; term = u; leads = refl }
has-completes known u (in_arguments ds) a = absurd a
has-completes known u (in_term x ds s) a =
    let e : Completes known (has (application x (args_with ds (words u no_words))) s) = has-completes known (application x (args_with ds (words u no_words))) s a in
    record { more = a_sign CloseParenthesis ∷ e.more; term = e.term; leads = e.leads }

named-completes : (known : List ℕ → Bool) (x : List ℕ) (s : Spot) → IsAlone s → Completes known (named x s)
named-completes known x alone a = record { more = []; term = application x no_words; leads = refl }
named-completes known x (in_arguments ds) a = absurd a
named-completes known x (in_term y ds s) a =
    let e : Completes known (has (application y (args_with ds (words (application x no_words) no_words))) s) = has-completes known (application y (args_with ds (words (application x no_words) no_words))) s a in
    record { more = a_sign CloseParenthesis ∷ e.more; term = e.term; leads = e.leads }

pub completes : (known : List ℕ → Bool) (s : TermState) → IsAloneState s → IsLive s → Completes known s
completes known (wants s) a live =
    let e : Completes known (named (codes "a") s) = named-completes known (codes "a") s a in
    record { more = a_name (codes "a") ∷ e.more; term = e.term; leads = e.leads }
completes known (named x s) a live = named-completes known x s a
completes known (has u s) a live = has-completes known u s a
completes known (ended args) a live = absurd a
completes known stuck a live = absurd live

-- the tokens to a spot of a term by itself lead there
pub run-tokens_to : (known : List ℕ → Bool) (s : Spot) → IsAlone s → IsSpotKnown known s → (rest : List Lexeme) → run known (wants alone) (tokens_to s rest) ≡ run known (wants s) rest
run-tokens_to known alone a h rest = refl
run-tokens_to known (in_arguments ds) a h rest = absurd a
run-tokens_to known (in_term x ds s) a h rest = run-tokens_to known s a h.1 (a_name x ∷ done_tokens ds rest) ∙ run-done known x ds s rest h.0

pub leads-run : (known : List ℕ → Bool) (n : ℕ) (ts : List Lexeme) → LeadsBehind known n ts → (s : Spot) × ((run known (wants alone) ts ≡ wants s) × (length (done_at s) ≡ n))
leads-run known n ts l = (l.spot, (ap (run known (wants alone)) l.spelled ∙ run-tokens_to known l.spot l.is_alone l.known_all [], l.behind))

pub full-leads : (known : List ℕ → Bool) (ts : List Lexeme) (s : TermState) → run known (wants alone) ts ≡ s → is_full s ≡ true → LeadsBehind known 255 ts
full-leads known ts (wants s) e f =
    let l : Led known ts (wants alone) = run-led known ts (wants alone) tt (rw e tt) in
    record { spot = s; is_alone = rw e at l.is_alone tt; known_all = rw e at l.known_all; spelled = sym (append-zero ts) ∙ sym (l.tokens []) ∙ ap (λ (t : TermState). tokens_before t []) e; behind = grind (arith, nat_tests) }
full-leads known ts _ e f = let n : ⊥ = cc in absurd n

-- one token behind others
pub run-one : (known : List ℕ → Bool) (ts : List Lexeme) (c : Lexeme) (s : TermState) → run known (wants alone) ts ≡ s → run known (wants alone) (ts ++ c ∷ []) ≡ step known s c
run-one known ts c s e = run-append known ts (c ∷ []) (wants alone) ∙ ap (λ (t : TermState). step known t c) e

-- the variables of tokens in two parts
pub variables_in-append : (cs ds : List Lexeme) (earlier : List (List ℕ)) → variables_in (cs ++ ds) earlier ≡ variables_in ds (variables_in cs earlier)
variables_in-append [] ds earlier = refl
variables_in-append (a_variable x ∷ cs) ds earlier = variables_in-append cs ds (if is_one_of earlier x then earlier else earlier ++ x ∷ [])
variables_in-append (_ ∷ cs) ds earlier = variables_in-append cs ds earlier

-- a new variable where there are as many as may be
record TooMany (most : Option ℕ) (vars : List (List ℕ)) (c : Lexeme) : Type 0 where
  pub text : List ℕ
  pub number : ℕ
  pub is : c ≡ a_variable text
  pub at_most : most ≡ Some number
  pub new : is_one_of vars text ≡ false
  pub reached : number ≤ length vars

not-true : (b : Bool) → not b ≡ true → b ≡ false
not-true true e = let n : ⊥ = cc in absurd n
not-true false e = refl

too-many : (most : Option ℕ) (vars : List (List ℕ)) (c : Lexeme) → is_too_many most vars c ≡ true → TooMany most vars c
too-many (Some n) vars (a_variable x) m =
    let p : (not (is_one_of vars x) ≡ true) × (nat_le n (length vars) ≡ true) = and_parts (not (is_one_of vars x)) (nat_le n (length vars)) m in
    record { text = x; number = n; is = refl; at_most = refl; new = not-true (is_one_of vars x) p.0; reached = grind (arith, nat_tests) }
too-many _ vars _ m = let n : ⊥ = cc in absurd n

made-many : (most : Option ℕ) (vars : List (List ℕ)) (x : List ℕ) (n : ℕ) → most ≡ Some n → is_one_of vars x ≡ false → n ≤ length vars → is_too_many most vars (a_variable x) ≡ true
made-many most vars x n a new reached = rw (a, new) (let h : nat_le n (length vars) ≡ true = grind (arith, nat_tests) in h)

module _ (known : List ℕ → Bool) (most : Option ℕ) (earlier : List (List ℕ)) where
  -- live exactly where a term begins with the tokens
  pub live-begins : (ts : List Lexeme) → IsLive (run known (wants alone) ts) → Begins (IsTerm known) (TermLimits known most earlier) ts
  live-begins ts live =
      let l : Led known ts (wants alone) = run-led known ts (wants alone) tt live in
      let e : Completes known (run known (wants alone) ts) = completes known (run known (wants alone) ts) (l.is_alone tt) live in
      (e.more, (e.term, whole-is known (ts ++ e.more) e.term (ap whole_of (run-append known ts e.more (wants alone)) ∙ e.leads)))

  pub begins-live : (ts : List Lexeme) → Begins (IsTerm known) (TermLimits known most earlier) ts → IsLive (run known (wants alone) ts)
  begins-live ts b =
      let e : whole_of (run known (run known (wants alone) ts) b.0) ≡ Some b.1.0 = ap whole_of (sym (run-append known ts b.0 (wants alone))) ∙ is-whole known (ts ++ b.0) b.1.0 b.1.1 in
      live-run known b.0 (run known (wants alone) ts) (whole-live (run known (run known (wants alone) ts) b.0) b.1.0 e)

  -- what `within` answers
  within-ok : (f m : Bool) (x t : TermState) → within f m x ≡ Ok t → (x ≡ t) × (IsLive x × ((f ≡ false) × (m ≡ false)))
  within-ok f m stuck t e = let n : ⊥ = cc in absurd n
  within-ok true m (wants s) t e = let n : ⊥ = cc in absurd n
  within-ok true m (named x s) t e = let n : ⊥ = cc in absurd n
  within-ok true m (has u s) t e = let n : ⊥ = cc in absurd n
  within-ok true m (ended args) t e = let n : ⊥ = cc in absurd n
  within-ok false true (wants s) t e = let n : ⊥ = cc in absurd n
  within-ok false true (named x s) t e = let n : ⊥ = cc in absurd n
  within-ok false true (has u s) t e = let n : ⊥ = cc in absurd n
  within-ok false true (ended args) t e = let n : ⊥ = cc in absurd n
  within-ok false false (wants s) t e = (cc, (tt, (refl, refl)))
  within-ok false false (named x s) t e = (cc, (tt, (refl, refl)))
  within-ok false false (has u s) t e = (cc, (tt, (refl, refl)))
  within-ok false false (ended args) t e = (cc, (tt, (refl, refl)))

  -- why a token is refused
  pub data Refused (s : TermState) (vars : List (List ℕ)) (c : Lexeme) : Code → Type 0 where
    unfit : step known s c ≡ stuck → Refused s vars c Unexpected
    full : IsLive (step known s c) → is_full (step known s c) ≡ true → Refused s vars c ManyArguments
    many : IsLive (step known s c) → is_too_many most vars c ≡ true → Refused s vars c ManyVariables

  within-err : (s : TermState) (vars : List (List ℕ)) (c : Lexeme) (f m : Bool) (x : TermState) (code : Code) → is_full (step known s c) ≡ f → is_too_many most vars c ≡ m → step known s c ≡ x
      → within f m x ≡ Err code → Refused s vars c code
  within-err s vars c f m stuck code ef em ex e = let d : Unexpected ≡ code = cc in rw (sym d) (unfit ex)
  within-err s vars c true m (wants t) code ef em ex e = let d : ManyArguments ≡ code = cc in rw (sym d) (full (rw ex tt) ef)
  within-err s vars c true m (named x t) code ef em ex e = let d : ManyArguments ≡ code = cc in rw (sym d) (full (rw ex tt) ef)
  within-err s vars c true m (has u t) code ef em ex e = let d : ManyArguments ≡ code = cc in rw (sym d) (full (rw ex tt) ef)
  within-err s vars c true m (ended args) code ef em ex e = let d : ManyArguments ≡ code = cc in rw (sym d) (full (rw ex tt) ef)
  within-err s vars c false true (wants t) code ef em ex e = let d : ManyVariables ≡ code = cc in rw (sym d) (many (rw ex tt) em)
  within-err s vars c false true (named x t) code ef em ex e = let d : ManyVariables ≡ code = cc in rw (sym d) (many (rw ex tt) em)
  within-err s vars c false true (has u t) code ef em ex e = let d : ManyVariables ≡ code = cc in rw (sym d) (many (rw ex tt) em)
  within-err s vars c false true (ended args) code ef em ex e = let d : ManyVariables ≡ code = cc in rw (sym d) (many (rw ex tt) em)
  within-err s vars c false false (wants t) code ef em ex e = let n : ⊥ = cc in absurd n
  within-err s vars c false false (named x t) code ef em ex e = let n : ⊥ = cc in absurd n
  within-err s vars c false false (has u t) code ef em ex e = let n : ⊥ = cc in absurd n
  within-err s vars c false false (ended args) code ef em ex e = let n : ⊥ = cc in absurd n

  -- a limit of the definition is one of the machine
  no-limit : (before : List Lexeme) (c : Lexeme) (s : TermState) → run known (wants alone) before ≡ s → is_full (step known s c) ≡ false
      → is_too_many most (variables_in before earlier) c ≡ false → (code : Code) → TermLimits known most earlier before c code → ⊥
  no-limit before c s e f m _ (many_arguments l) =
      let r : (s : Spot) × ((run known (wants alone) (before ++ c ∷ []) ≡ wants s) × (length (done_at s) ≡ 255)) = leads-run known 255 (before ++ c ∷ []) l in
      let d : step known s c ≡ wants r.0 = sym (run-one known before c s e) ∙ r.1.0 in
      let g : nat_eq (length (done_at r.0)) 255 ≡ false = sym (ap is_full d) ∙ f in
      let h : nat_eq 255 255 ≡ false = sym (ap (λ (k : ℕ). nat_eq k 255) r.1.1) ∙ g in cc
  no-limit before (a_variable x) s e f m _ (many_variables old at_most reached) =
      let d : is_too_many most (variables_in before earlier) (a_variable x) ≡ true = made-many most (variables_in before earlier) x _ at_most old reached in cc

  limit : (before : List Lexeme) (c : Lexeme) → is_too_many most (variables_in before earlier) c ≡ true → TermLimits known most earlier before c ManyVariables
  limit before c m =
      let t : TooMany most (variables_in before earlier) c = too-many most (variables_in before earlier) c m in
      rw t.is (many_variables t.new t.at_most t.reached)

  -- The state is reached behind tokens; what is read or refused behind them is read or refused in all.
  pub record IsAt (n : ℕ) (items rest : List Item) (s : TermState) (vars : List (List ℕ)) : Type 0 where
    pub before : List Lexeme
    pub ran : run known (wants alone) before ≡ s
    pub variables : variables_in before earlier ≡ vars
    pub refused : (r : Refusal) → RefusesFront (IsTerm known) (TermLimits known most earlier) n before rest r → RefusesFront (IsTerm known) (TermLimits known most earlier) n [] items r
    pub read : (w : WrittenTerm) (left : List Item) → ReadsFront (IsTerm known) (TermLimits known most earlier) before rest w left → ReadsFront (IsTerm known) (TermLimits known most earlier) [] items w left

  pub IsAt-start : (n : ℕ) (items : List Item) → IsAt n items items (wants alone) earlier
  IsAt-start n items = record { before = []; ran = refl; variables = refl; refused = λ r h. h; read = λ w left h. h }

  taken : (before : List Lexeme) (c : Lexeme) (s t : TermState) → run known (wants alone) before ≡ s → limited known most (variables_in before earlier) s c ≡ Ok t
      → IsTaken (IsTerm known) (TermLimits known most earlier) before c
  taken before c s t e l =
      let w : (step known s c ≡ t) × (IsLive (step known s c) × ((is_full (step known s c) ≡ false) × (is_too_many most (variables_in before earlier) c ≡ false))) =
      within-ok (is_full (step known s c)) (is_too_many most (variables_in before earlier) c) (step known s c) t l in
      record { begins = live-begins (before ++ c ∷ []) (rw (run-one known before c s e) w.1.0); free = no-limit before c s e w.1.1.0 w.1.1.1 }

  pub IsAt-taken : (n : ℕ) (items rest : List Item) (s t : TermState) (vars : List (List ℕ)) (c : Lexeme) (at : ℕ) → IsAt n items (says c at ∷ rest) s vars
      → limited known most vars s c ≡ Ok t → IsAt n items rest t (variables_in (c ∷ []) vars)
  IsAt-taken n items rest s t vars c at i l =
      let k : IsTaken (IsTerm known) (TermLimits known most earlier) i.before c =
      taken i.before c s t i.ran (ap (λ (v : List (List ℕ)). limited known most v s c) i.variables ∙ l) in
      let w : (step known s c ≡ t) × (IsLive (step known s c) × ((is_full (step known s c) ≡ false) × (is_too_many most vars c ≡ false))) =
      within-ok (is_full (step known s c)) (is_too_many most vars c) (step known s c) t l in
      record {
        before = i.before ++ c ∷ [];
        ran = run-one known i.before c s i.ran ∙ w.0;
        variables = variables_in-append i.before (c ∷ []) earlier ∙ ap (variables_in (c ∷ [])) i.variables;
        refused = λ r h. i.refused r (reading.RefusesFront.later k h);
        read = λ v left h. i.read v left (reading.ReadsFront.later k h);
      }

  -- a token that is refused, where the tokens before are no whole term or it goes on behind them
  refused-here : (n : ℕ) (before : List Lexeme) (rest : List Item) (c : Lexeme) (at : ℕ) (code : Code) (s : TermState) → run known (wants alone) before ≡ s → (whole_of s ≡ None) ⊎ (IsLive (step known s c))
      → Refused s (variables_in before earlier) c code → RefusesFront (IsTerm known) (TermLimits known most earlier) n before (says c at ∷ rest) (record { code = code; at = at })
  refused-here n before rest c at _ s e (inl h) (unfit u) =
      reading.RefusesFront.unexpected (not-whole known before (ap whole_of e ∙ h)) (λ b. rw (run-one known before c s e ∙ u) at (begins-live (before ++ c ∷ []) b))
  refused-here n before rest c at _ s e (inr h) (unfit u) = absurd (rw u at h)
  refused-here n before rest c at _ s e o (full v f) =
      reading.RefusesFront.limited (live-begins (before ++ c ∷ []) (rw (run-one known before c s e) v)) (many_arguments (full-leads known (before ++ c ∷ []) (step known s c) (run-one known before c s e) f))
  refused-here n before rest c at _ s e o (many v f) =
      reading.RefusesFront.limited (live-begins (before ++ c ∷ []) (rw (run-one known before c s e) v)) (limit before c f)

  pub IsAt-refused : (n : ℕ) (items rest : List Item) (s : TermState) (vars : List (List ℕ)) (c : Lexeme) (at : ℕ) (code : Code) → IsAt n items (says c at ∷ rest) s vars
      → (whole_of s ≡ None) ⊎ (IsLive (step known s c)) → limited known most vars s c ≡ Err code
      → RefusesFront (IsTerm known) (TermLimits known most earlier) n [] items (record { code = code; at = at })
  IsAt-refused n items rest s vars c at code i o l =
      i.refused (record { code = code; at = at }) (refused-here n i.before rest c at code s i.ran o
      (within-err s (variables_in i.before earlier) c (is_full (step known s c)) (is_too_many most (variables_in i.before earlier) c) (step known s c) code refl refl refl
      (ap (λ (v : List (List ℕ)). limited known most v s c) i.variables ∙ l)))

  final-is : (ts : List Lexeme) (s : TermState) → run known (wants alone) ts ≡ s → is_final s ≡ true → IsFinal (IsTerm known) (TermLimits known most earlier) ts
  final-is ts (has u alone) e f c b = rw (run-one known ts c (has u alone) e) at (begins-live (ts ++ c ∷ []) b)
  final-is ts _ e f c b = let n : ⊥ = cc in absurd n

  -- a whole term that isn't final goes on with an open parenthesis
  not-final : (ts : List Lexeme) (s : TermState) → run known (wants alone) ts ≡ s → is_final s ≡ false → (w : WrittenTerm) → IsTerm known ts w → IsFinal (IsTerm known) (TermLimits known most earlier) ts → ⊥
  not-final ts (named x alone) e f w i final = final (a_sign OpenParenthesis) (live-begins (ts ++ a_sign OpenParenthesis ∷ []) (rw (run-one known ts (a_sign OpenParenthesis) (named x alone) e) tt))
  not-final ts (has u alone) e f w i final = cc
  not-final ts s e f w i final =
      let d : whole_of s ≡ Some w = ap whole_of (sym e) ∙ is-whole known ts w i in cc

  pub IsAt-bad : (n : ℕ) (items rest : List Item) (s : TermState) (vars : List (List ℕ)) (r : Refusal) → IsAt n items (fault r ∷ rest) s vars → is_final s ≡ false
      → RefusesFront (IsTerm known) (TermLimits known most earlier) n [] items r
  IsAt-bad n items rest s vars r i f = i.refused r (reading.RefusesFront.bad (not-final i.before s i.ran f))

  pub IsAt-unfinished : (n : ℕ) (items : List Item) (s : TermState) (vars : List (List ℕ)) → IsAt n items [] s vars → whole_of s ≡ None
      → RefusesFront (IsTerm known) (TermLimits known most earlier) n [] items (record { code = Unexpected; at = n })
  IsAt-unfinished n items s vars i e = i.refused (record { code = Unexpected; at = n }) (reading.RefusesFront.at_end (not-whole known i.before (ap whole_of i.ran ∙ e)))

  whole-before : (ts : List Lexeme) (s : TermState) (w : WrittenTerm) → run known (wants alone) ts ≡ s → whole_of s ≡ Some w → IsTerm known ts w
  whole-before ts s w e h = whole-is known ts w (ap whole_of e ∙ h)

  pub IsAt-final : (n : ℕ) (items rest : List Item) (s : TermState) (vars : List (List ℕ)) (w : WrittenTerm) → IsAt n items rest s vars → whole_of s ≡ Some w → is_final s ≡ true
      → ReadsFront (IsTerm known) (TermLimits known most earlier) [] items w rest
  IsAt-final n items rest s vars w i h f = i.read w rest (reading.ReadsFront.final (whole-before i.before s w i.ran h) (final-is i.before s i.ran f))

  pub IsAt-end : (n : ℕ) (items : List Item) (s : TermState) (vars : List (List ℕ)) (w : WrittenTerm) → IsAt n items [] s vars → whole_of s ≡ Some w
      → ReadsFront (IsTerm known) (TermLimits known most earlier) [] items w []
  IsAt-end n items s vars w i h = i.read w [] (reading.ReadsFront.at_end (whole-before i.before s w i.ran h))

  closed-behind : (s : TermState) (w : WrittenTerm) (c : Lexeme) → whole_of s ≡ Some w → is_open c ≡ false → step known s c ≡ stuck
  closed-behind (named x alone) w (a_sign OpenParenthesis) e o = let n : ⊥ = cc in absurd n
  closed-behind (named x alone) w c e o = refl
  closed-behind (has u alone) w c e o = refl
  closed-behind _ w c e o = let n : ⊥ = cc in absurd n

  pub IsAt-ends : (n : ℕ) (items rest : List Item) (s : TermState) (vars : List (List ℕ)) (w : WrittenTerm) (c : Lexeme) (at : ℕ) → IsAt n items (says c at ∷ rest) s vars → whole_of s ≡ Some w
      → is_open c ≡ false → ReadsFront (IsTerm known) (TermLimits known most earlier) [] items w (says c at ∷ rest)
  IsAt-ends n items rest s vars w c at i h o =
      i.read w (says c at ∷ rest) (reading.ReadsFront.ends (whole-before i.before s w i.ran h)
      (λ b. rw (run-one known i.before c s i.ran ∙ closed-behind s w c h o) at (begins-live (i.before ++ c ∷ []) b)))

  -- the variables so far are those of the term
  pub IsAt-variables : (n : ℕ) (items rest : List Item) (s : TermState) (vars : List (List ℕ)) (w : WrittenTerm) → IsAt n items rest s vars → whole_of s ≡ Some w
      → vars ≡ variables_in (term_tokens w []) earlier
  IsAt-variables n items rest s vars w i h =
      let t : IsTerm known i.before w = whole-before i.before s w i.ran h in
      sym i.variables ∙ ap (λ (ts : List Lexeme). variables_in ts earlier) t.spelled
