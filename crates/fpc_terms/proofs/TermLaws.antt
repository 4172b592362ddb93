-- The machine of terms reads exactly their tokens.
use Rattle.std.specs.Prelude.{◌≡◌, ℕ, Bool, true, false, if◌then◌else◌, List, [], ◌∷◌, ◌++◌, refl, codes}
use Rattle.std.proofs.Common.{ap, ◌∙◌}
use Rattle.fpc_base.specs.declared.tokens.lexeme.Sign.TheVariants.{OpenParenthesis, CloseParenthesis, Comma}
use Rattle.fpc_base.specs.Lexeme.{Lexeme, a_name, a_variable, a_sign}
use Rattle.fpc_terms.specs.Written.{WrittenTerm, WrittenArgs, variable_word, application, no_words, words, term_tokens, args_tokens, more_tokens, IsKnown, AreKnown}
use Rattle.fpc_terms.specs.Spot.{Spot, alone, in_arguments, in_term, tokens_to, done_tokens, AllKnown, IsSpotKnown}
use Rattle.fpc_terms.specs.Machine.{TermState, wants, named, has, ended, stuck, step, run, behind, args_with, IsLive}
use Rattle.fpc_terms.proofs.States.{IsStateKnown, AreSome, IsArgumentSpot, IsArgumentState, Follows}

-- the tokens of arguments in order are those of the arguments done and of the one behind them
pub args_tokens-args_with : (ds : List WrittenTerm) (u : WrittenTerm) (ts : WrittenArgs) (rest : List Lexeme)
    → args_tokens (args_with ds (words u ts)) rest ≡ done_tokens ds (term_tokens u (more_tokens ts rest))
args_tokens-args_with [] u ts rest = refl
args_tokens-args_with (d ∷ ds) u ts rest = args_tokens-args_with ds d (words u ts) rest

pub AreKnown-args_with : (known : List ℕ → Bool) (ds : List WrittenTerm) (ts : WrittenArgs) → AllKnown known ds → AreKnown known ts → AreKnown known (args_with ds ts)
AreKnown-args_with known [] ts h hs = hs
AreKnown-args_with known (d ∷ ds) ts h hs = AreKnown-args_with known ds (words d ts) h.1 (h.0, hs)

pub AreSome-args_with : (ds : List WrittenTerm) (u : WrittenTerm) (ts : WrittenArgs) → AreSome (args_with ds (words u ts))
AreSome-args_with [] u ts = tt
AreSome-args_with (d ∷ ds) u ts = AreSome-args_with ds d (words u ts)

behind-follows : (known : List ℕ → Bool) (u : WrittenTerm) (s : Spot) (c : Lexeme) → IsKnown known u → IsSpotKnown known s → IsLive (behind u s c) → Follows known (has u s) c (behind u s c)
behind-follows known u (in_arguments ds) (a_sign Comma) h hs live = record { tokens = λ rest. refl; known_all = (h, hs); argument = λ a. a; is_alone = λ a. a }
behind-follows known u (in_arguments ds) (a_sign CloseParenthesis) h hs live =
    record { tokens = λ rest. args_tokens-args_with ds u no_words rest; known_all = AreKnown-args_with known ds (words u no_words) hs (h, tt); argument = λ a. AreSome-args_with ds u no_words; is_alone = λ a. a }
behind-follows known u (in_term x ds s) (a_sign Comma) h hs live = record { tokens = λ rest. refl; known_all = ((h, hs.0), hs.1); argument = λ a. a; is_alone = λ a. a }
behind-follows known u (in_term x ds s) (a_sign CloseParenthesis) h hs live =
    record { tokens = λ rest. ap (λ (ts : List Lexeme). tokens_to s (a_name x ∷ ts)) (args_tokens-args_with ds u no_words rest); known_all = (AreKnown-args_with known ds (words u no_words) hs.0 (h, tt), hs.1); argument = λ a. a; is_alone = λ a. a }
behind-follows known u _ _ h hs live = absurd live

-- a name that has no arguments
named-follows : (known : List ℕ → Bool) (x : List ℕ) (s : Spot) (c : Lexeme) → Follows known (has (application x no_words) s) c (behind (application x no_words) s c)
    → Follows known (named x s) c (behind (application x no_words) s c)
named-follows known x s c f = record { tokens = f.tokens; known_all = f.known_all; argument = f.argument; is_alone = f.is_alone }

variable-follows : (known : List ℕ → Bool) (x : List ℕ) (s : Spot) → IsSpotKnown known s → (b : Bool) → known x ≡ b
    → IsLive (if b then has (variable_word x) s else stuck) → Follows known (wants s) (a_variable x) (if b then has (variable_word x) s else stuck)
variable-follows known x s h true e live = record { tokens = λ rest. refl; known_all = (e, h); argument = λ a. a; is_alone = λ a. a }
variable-follows known x s h false e live = absurd live

-- SOUND: a live step has read the token
pub step-follows : (known : List ℕ → Bool) (s : TermState) (c : Lexeme) → IsStateKnown known s → IsLive (step known s c) → Follows known s c (step known s c)
step-follows known (wants s) (a_variable x) h live = variable-follows known x s h (known x) refl live
step-follows known (wants s) (a_name x) h live = record { tokens = λ rest. refl; known_all = h; argument = λ a. a; is_alone = λ a. a }
step-follows known (named x s) (a_sign OpenParenthesis) h live = record { tokens = λ rest. refl; known_all = (tt, h); argument = λ a. a; is_alone = λ a. a }
step-follows known (named x s) c h live = named-follows known x s c (behind-follows known (application x no_words) s c tt h live)
step-follows known (has u s) c h live = behind-follows known u s c h.0 h.1 live
step-follows known _ _ h live = absurd live

-- tokens in two parts
pub run-append : (known : List ℕ → Bool) (cs ds : List Lexeme) (s : TermState) → run known s (cs ++ ds) ≡ run known (run known s cs) ds
run-append known [] ds s = refl
run-append known (c ∷ cs) ds s = run-append known cs ds (step known s c)

pub run-stuck : (known : List ℕ → Bool) (cs : List Lexeme) → run known stuck cs ≡ stuck
run-stuck known [] = refl
run-stuck known (c ∷ cs) = run-stuck known cs

pub live-run : (known : List ℕ → Bool) (cs : List Lexeme) (s : TermState) → IsLive (run known s cs) → IsLive s
live-run known cs (wants s) live = tt
live-run known cs (named x s) live = tt
live-run known cs (has u s) live = tt
live-run known cs (ended args) live = tt
live-run known cs stuck live = rw (run-stuck known cs) at live

-- what begins with no open parenthesis
abbrev pub IsBehind : List Lexeme → Type 0
IsBehind [] = ⊥
IsBehind (a_sign OpenParenthesis ∷ rest) = ⊥
IsBehind (c ∷ rest) = Unit {0}

pub more-behind : (ts : WrittenArgs) (rest : List Lexeme) → IsBehind (more_tokens ts rest)
more-behind no_words rest = tt
more-behind (words t ts) rest = tt

pub named-behind : (known : List ℕ → Bool) (x : List ℕ) (s : Spot) (rest : List Lexeme) → IsBehind rest → run known (named x s) rest ≡ run known (has (application x no_words) s) rest
named-behind known x s [] b = absurd b
named-behind known x s (a_sign OpenParenthesis ∷ rest) b = absurd b
named-behind known x s (c ∷ rest) b = refl

mutual
  pub run-term : (known : List ℕ → Bool) (u : WrittenTerm) (s : Spot) (rest : List Lexeme) → IsKnown known u → IsBehind rest
      → run known (wants s) (term_tokens u rest) ≡ run known (has u s) rest
  run-term known (variable_word x) s rest h b = ap (λ (t : Bool). run known (if t then has (variable_word x) s else stuck) rest) h
  run-term known (application x no_words) s rest h b = named-behind known x s rest b
  run-term known (application x (words t ts)) s rest h b =
      run-term known t (in_term x [] s) (more_tokens ts rest) h.0 (more-behind ts rest) ∙ run-more known x [] t ts s rest h.1

  -- further arguments of a term
  pub run-more : (known : List ℕ → Bool) (x : List ℕ) (ds : List WrittenTerm) (u : WrittenTerm) (ts : WrittenArgs) (s : Spot) (rest : List Lexeme) → AreKnown known ts
      → run known (has u (in_term x ds s)) (more_tokens ts rest) ≡ run known (has (application x (args_with ds (words u ts))) s) rest
  run-more known x ds u no_words s rest h = refl
  run-more known x ds u (words t ts) s rest h =
      run-term known t (in_term x (u ∷ ds) s) (more_tokens ts rest) h.0 (more-behind ts rest) ∙ run-more known x (u ∷ ds) t ts s rest h.1

-- further arguments of an atom
run-more_arguments : (known : List ℕ → Bool) (ds : List WrittenTerm) (u : WrittenTerm) (ts : WrittenArgs) → AreKnown known ts
    → run known (has u (in_arguments ds)) (more_tokens ts []) ≡ ended (args_with ds (words u ts))
run-more_arguments known ds u no_words h = refl
run-more_arguments known ds u (words t ts) h =
    run-term known t (in_arguments (u ∷ ds)) (more_tokens ts []) h.0 (more-behind ts []) ∙ run-more_arguments known (u ∷ ds) t ts h.1

-- COMPLETE: the arguments of an atom, behind their open parenthesis, are read whole
pub run-arguments : (known : List ℕ → Bool) (t : WrittenTerm) (ts : WrittenArgs) → IsKnown known t → AreKnown known ts
    → run known (wants (in_arguments [])) (term_tokens t (more_tokens ts [])) ≡ ended (words t ts)
run-arguments known t ts h hs = run-term known t (in_arguments []) (more_tokens ts []) h (more-behind ts []) ∙ run-more_arguments known [] t ts hs

-- the tokens of a term before others are these tokens and the others behind them
mutual
  pub term_tokens-append : (t : WrittenTerm) (xs rest : List Lexeme) → term_tokens t (xs ++ rest) ≡ term_tokens t xs ++ rest
  term_tokens-append (variable_word x) xs rest = refl
  term_tokens-append (application x args) xs rest = ap (λ (ts : List Lexeme). a_name x ∷ ts) (args_tokens-append args xs rest)

  pub args_tokens-append : (ts : WrittenArgs) (xs rest : List Lexeme) → args_tokens ts (xs ++ rest) ≡ args_tokens ts xs ++ rest
  args_tokens-append no_words xs rest = refl
  args_tokens-append (words t ts) xs rest =
      ap (λ (us : List Lexeme). a_sign OpenParenthesis ∷ us) (ap (term_tokens t) (more_tokens-append ts xs rest) ∙ term_tokens-append t (more_tokens ts xs) rest)

  more_tokens-append : (ts : WrittenArgs) (xs rest : List Lexeme) → more_tokens ts (xs ++ rest) ≡ more_tokens ts xs ++ rest
  more_tokens-append no_words xs rest = refl
  more_tokens-append (words t ts) xs rest =
      ap (λ (us : List Lexeme). a_sign Comma ∷ us) (ap (term_tokens t) (more_tokens-append ts xs rest) ∙ term_tokens-append t (more_tokens ts xs) rest)

pub arguments-append : (t : WrittenTerm) (ts : WrittenArgs) (rest : List Lexeme) → term_tokens t (more_tokens ts rest) ≡ term_tokens t (more_tokens ts []) ++ rest
arguments-append t ts rest = ap (term_tokens t) (more_tokens-append ts [] rest) ∙ term_tokens-append t (more_tokens ts []) rest

done_tokens-append : (ds : List WrittenTerm) (xs rest : List Lexeme) → done_tokens ds (xs ++ rest) ≡ done_tokens ds xs ++ rest
done_tokens-append [] xs rest = refl
done_tokens-append (d ∷ ds) xs rest = ap (done_tokens ds) (term_tokens-append d (a_sign Comma ∷ xs) rest) ∙ done_tokens-append ds (term_tokens d (a_sign Comma ∷ xs)) rest

-- the tokens to an argument, apart from the open parenthesis at the bottom, lead there
abbrev pub inner_tokens_to : Spot → List Lexeme → List Lexeme
inner_tokens_to alone rest = rest
inner_tokens_to (in_arguments []) rest = rest
inner_tokens_to (in_arguments (t ∷ ts)) rest = inner_tokens_to (in_arguments ts) (term_tokens t (a_sign Comma ∷ rest))
inner_tokens_to (in_term x done s) rest = inner_tokens_to s (a_name x ∷ done_tokens done rest)

done_tokens-open : (ds : List WrittenTerm) (rest : List Lexeme) → done_tokens ds rest ≡ a_sign OpenParenthesis ∷ inner_tokens_to (in_arguments ds) rest
done_tokens-open [] rest = refl
done_tokens-open (d ∷ ds) rest = done_tokens-open ds (term_tokens d (a_sign Comma ∷ rest))

pub inner_tokens_to-open : (s : Spot) → IsArgumentSpot s → (rest : List Lexeme) → tokens_to s rest ≡ a_sign OpenParenthesis ∷ inner_tokens_to s rest
inner_tokens_to-open alone a rest = absurd a
inner_tokens_to-open (in_arguments ds) a rest = done_tokens-open ds rest
inner_tokens_to-open (in_term x ds s) a rest = inner_tokens_to-open s a (a_name x ∷ done_tokens ds rest)

inner_arguments-append : (ds : List WrittenTerm) (xs rest : List Lexeme) → inner_tokens_to (in_arguments ds) (xs ++ rest) ≡ inner_tokens_to (in_arguments ds) xs ++ rest
inner_arguments-append [] xs rest = refl
inner_arguments-append (d ∷ ds) xs rest =
    ap (inner_tokens_to (in_arguments ds)) (term_tokens-append d (a_sign Comma ∷ xs) rest) ∙ inner_arguments-append ds (term_tokens d (a_sign Comma ∷ xs)) rest

inner_spot-append : (s : Spot) (xs rest : List Lexeme) → inner_tokens_to s (xs ++ rest) ≡ inner_tokens_to s xs ++ rest
inner_spot-append alone xs rest = refl
inner_spot-append (in_arguments ds) xs rest = inner_arguments-append ds xs rest
inner_spot-append (in_term x ds s) xs rest =
    ap (λ (us : List Lexeme). inner_tokens_to s (a_name x ∷ us)) (done_tokens-append ds xs rest) ∙ inner_spot-append s (a_name x ∷ done_tokens ds xs) rest

pub inner_tokens_to-append : (s : Spot) (rest : List Lexeme) → inner_tokens_to s rest ≡ inner_tokens_to s [] ++ rest
inner_tokens_to-append s rest = inner_spot-append s [] rest

pub run-done : (known : List ℕ → Bool) (x : List ℕ) (ds : List WrittenTerm) (s : Spot) (rest : List Lexeme) → AllKnown known ds
    → run known (named x s) (done_tokens ds rest) ≡ run known (wants (in_term x ds s)) rest
run-done known x [] s rest h = refl
run-done known x (d ∷ ds) s rest h = run-done known x ds s (term_tokens d (a_sign Comma ∷ rest)) h.1 ∙ run-term known d (in_term x ds s) (a_sign Comma ∷ rest) h.0 tt

run-inner_arguments : (known : List ℕ → Bool) (ds : List WrittenTerm) (rest : List Lexeme) → AllKnown known ds
    → run known (wants (in_arguments [])) (inner_tokens_to (in_arguments ds) rest) ≡ run known (wants (in_arguments ds)) rest
run-inner_arguments known [] rest h = refl
run-inner_arguments known (d ∷ ds) rest h =
    run-inner_arguments known ds (term_tokens d (a_sign Comma ∷ rest)) h.1 ∙ run-term known d (in_arguments ds) (a_sign Comma ∷ rest) h.0 tt

run-inner : (known : List ℕ → Bool) (s : Spot) → IsArgumentSpot s → (rest : List Lexeme) → IsSpotKnown known s
    → run known (wants (in_arguments [])) (inner_tokens_to s rest) ≡ run known (wants s) rest
run-inner known alone a rest h = absurd a
run-inner known (in_arguments ds) a rest h = run-inner_arguments known ds rest h
run-inner known (in_term x ds s) a rest h = run-inner known s a (a_name x ∷ done_tokens ds rest) h.1 ∙ run-done known x ds s rest h.0

pub run-inner_tokens_to : (known : List ℕ → Bool) (s : Spot) → IsArgumentSpot s → IsSpotKnown known s
    → run known (wants (in_arguments [])) (inner_tokens_to s []) ≡ wants s
run-inner_tokens_to known s a h = run-inner known s a [] h

-- VIABLE: each live state of an atom's arguments has tokens that end them
pub record Ends (known : List ℕ → Bool) (s : TermState) : Type 0 where
  pub more : List Lexeme
  pub args : WrittenArgs
  pub leads : run known s more ≡ ended args

-- a parenthesis for each open name
abbrev pub closers : Spot → List Lexeme
closers alone = []
closers (in_arguments ds) = a_sign CloseParenthesis ∷ []
closers (in_term x ds s) = a_sign CloseParenthesis ∷ closers s

has-ends : (known : List ℕ → Bool) (u : WrittenTerm) (s : Spot) → IsArgumentSpot s → Ends known (has u s)
has-ends known u alone a = absurd a
has-ends known u (in_arguments ds) a = record { more = a_sign CloseParenthesis ∷ []; args = args_with ds (words u no_words); leads = refl }
has-ends known u (in_term x ds s) a =
    let e : Ends known (has (application x (args_with ds (words u no_words))) s) = has-ends known (application x (args_with ds (words u no_words))) s a in
    record { more = a_sign CloseParenthesis ∷ e.more; args = e.args; leads = e.leads }

named-ends : (known : List ℕ → Bool) (x : List ℕ) (s : Spot) → IsArgumentSpot s → Ends known (named x s)
named-ends known x alone a = absurd a
named-ends known x (in_arguments ds) a = record { more = a_sign CloseParenthesis ∷ []; args = args_with ds (words (application x no_words) no_words); leads = refl }
named-ends known x (in_term y ds s) a =
    let e : Ends known (has (application y (args_with ds (words (application x no_words) no_words))) s) = has-ends known (application y (args_with ds (words (application x no_words) no_words))) s a in
    record { more = a_sign CloseParenthesis ∷ e.more; args = e.args; leads = e.leads }

pub ends : (known : List ℕ → Bool) (s : TermState) → IsArgumentState s → IsLive s → Ends known s
ends known (wants s) a live =
    let e : Ends known (named (codes "a") s) = named-ends known (codes "a") s a in
    record { more = a_name (codes "a") ∷ e.more; args = e.args; leads = e.leads }
ends known (named x s) a live = named-ends known x s a
ends known (has u s) a live = has-ends known u s a
ends known (ended args) a live = record { more = []; args = args; leads = refl }
ends known stuck a live = absurd live
