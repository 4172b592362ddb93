-- What the machine of clauses tells of the tokens so far.
use Rattle.std.specs.Prelude.{◌≤◌, not, nat_le}
use Rattle.std.proofs.Common.{arith, ◌≡◌, ◌⊎◌, inl, inr, ℕ, Bool, true, false, List, [], ◌∷◌, ◌++◌, refl, ap, sym, subst, ◌∙◌, append-nil, length, Result, Ok, Err, Option, Some, None}
use Rattle.std.proofs.lemmas.Bool.Decides.{Decides-eqb, nat_tests}
use Rattle.std.proofs.lemmas.Bool.{false≢true, and_parts}
use Rattle.fpc_base.specs.Tokens.{is_one_of}
use Rattle.fpc_base.specs.declared.refusal.Code.{Code}
use Rattle.fpc_base.specs.declared.refusal.Code.TheVariants.{Unexpected, ManyVariables}
use Rattle.fpc_base.specs.declared.tokens.lexeme.Sign.TheVariants as sign
use Rattle.fpc_base.specs.Lexeme.{Lexeme, a_name, a_variable, a_sign}
use Rattle.fpc_terms.specs.Written.{WrittenTerm, variable_word, application, no_words, variables_in}
use Rattle.fpc_terms.specs.Spot.{Spot, alone, in_arguments, in_term, tokens_to, done_at}
use Rattle.fpc_terms.specs.Machine as term
use Rattle.fpc_terms.specs.ReadTerm.{any_variable}
use Rattle.fpc_terms.proofs.TermLaws.{args_tokens-append}
use Rattle.clause_language.specs.Written.{WrittenAtom, WrittenClause, atom_tokens, more_atom_tokens, body_tokens, clause_tokens}
use Rattle.clause_language.specs.Limits.{AtomPlace, at_head, in_body, LeadsIntoAtom, ClauseLimits, many_arguments, many_variables}
use Rattle.clause_language.specs.ClauseMachine.{ClauseState, at_atom, in_atom, ended, stuck, whole_atom, gone_on, behind_atom, behind, step, run, clause_start, within, gone_on_within, limited}
use Rattle.clause_language.proofs.ClauseStates.{clause_tokens_before, IsClauseState, KeepsVariables}
use Rattle.clause_language.proofs.ClauseSound.{clause_run-leads, run-keeps}
use Rattle.clause_language.proofs.ClauseComplete.{run-clause_tokens, variables_to_atom, run-to_argument}
use Rattle.clause_language.proofs.ClauseViable.{clause_state-ends}
pub use Rattle.fpc_terms.proofs.TermReading.{variables_in-append}
pub use Rattle.clause_language.proofs.ClauseStates.{IsLiveClause, IsGoingClause}
pub use Rattle.clause_language.proofs.ClauseSound.{clause_run-append, clause_run-stuck}

-- the state behind the tokens of a clause from its first on
abbrev pub clause_behind : List Lexeme → ClauseState
clause_behind tokens = run clause_start tokens

pub clause_ended-stops : (w : WrittenClause) (c : Lexeme) → step (ended w) c ≡ stuck
clause_ended-stops w c = refl

pub clause_behind-step : (tokens : List Lexeme) (c : Lexeme) → clause_behind (tokens ++ c ∷ []) ≡ step (clause_behind tokens) c
clause_behind-step tokens c = clause_run-append tokens (c ∷ []) clause_start

atom-append : (a : WrittenAtom) (xs rest : List Lexeme) → atom_tokens a (xs ++ rest) ≡ atom_tokens a xs ++ rest
atom-append a xs rest = ap (λ ts. a_name a.text ∷ ts) (args_tokens-append a.args xs rest)

more_atoms-append : (more : List WrittenAtom) (xs rest : List Lexeme) → more_atom_tokens more (xs ++ rest) ≡ more_atom_tokens more xs ++ rest
more_atoms-append [] xs rest = refl
more_atoms-append (a ∷ more) xs rest =
    ap (λ ts. a_sign sign.Comma ∷ ts) (ap (atom_tokens a) (more_atoms-append more xs rest) ∙ atom-append a (more_atom_tokens more xs) rest)

body-append : (body : List WrittenAtom) (xs rest : List Lexeme) → body_tokens body (xs ++ rest) ≡ body_tokens body xs ++ rest
body-append [] xs rest = refl
body-append (a ∷ more) xs rest =
    ap (λ ts. a_sign sign.If ∷ ts) (ap (atom_tokens a) (more_atoms-append more xs rest) ∙ atom-append a (more_atom_tokens more xs) rest)

-- the tokens of a clause before others are these tokens and the others behind them
pub clause-append : (w : WrittenClause) (xs rest : List Lexeme) → clause_tokens w (xs ++ rest) ≡ clause_tokens w xs ++ rest
clause-append w xs rest = ap (atom_tokens w.head) (body-append w.body xs rest) ∙ atom-append w.head (body_tokens w.body xs) rest

-- what led to a live state
pub clause_led : (tokens : List Lexeme) (s : ClauseState) → clause_behind tokens ≡ s → IsLiveClause s
    → (tokens ≡ clause_tokens_before s []) × IsClauseState s
clause_led tokens s e live =
    let f = clause_run-leads tokens clause_start tt (rw e live) in
    (sym (append-nil tokens) ∙ sym (f.tokens []) ∙ ap (λ t. clause_tokens_before t []) e, subst IsClauseState e f.is_state)

-- the tokens are those of a clause exactly where the machine says so
pub clause-ended : (w : WrittenClause) → clause_behind (clause_tokens w []) ≡ ended w
clause-ended w = run-clause_tokens w

pub ended-clause : (tokens : List Lexeme) (w : WrittenClause) → clause_behind tokens ≡ ended w → tokens ≡ clause_tokens w []
ended-clause tokens w e = (clause_led tokens (ended w) e tt).0

-- the tokens are those of one clause
pub clause-once : (v w : WrittenClause) → clause_tokens v [] ≡ clause_tokens w [] → v ≡ w
clause-once v w e = let h : ended v ≡ ended w = sym (clause-ended v) ∙ ap clause_behind e ∙ clause-ended w in cc

-- where the machine isn't stuck, there are tokens that end the clause
pub clause-ends : (tokens : List Lexeme) → IsLiveClause (clause_behind tokens)
    → (more : List Lexeme) × ((w : WrittenClause) × (clause_behind (tokens ++ more) ≡ ended w))
clause-ends tokens live =
    let f = clause_run-leads tokens clause_start tt live in
    let e = clause_state-ends (clause_behind tokens) f.is_state live in
    (e.more, (e.clause, clause_run-append tokens e.more clause_start ∙ e.leads))

-- the variables that a state keeps are those of its tokens
keeps : (tokens : List Lexeme) (s : ClauseState) → clause_behind tokens ≡ s → KeepsVariables (variables_in tokens []) s
keeps tokens s e = subst (KeepsVariables (variables_in tokens [])) e (run-keeps tokens clause_start [] refl)

pub in_atom-variables : (tokens : List Lexeme) (p : AtomPlace) (vs : List (List ℕ)) (t : term.TermState) → clause_behind tokens ≡ in_atom p vs t
    → vs ≡ variables_in tokens []
in_atom-variables tokens p vs t e = keeps tokens (in_atom p vs t) e

pub at_atom-variables : (tokens : List Lexeme) (p : AtomPlace) (vs : List (List ℕ)) → clause_behind tokens ≡ at_atom p vs → vs ≡ variables_in tokens []
at_atom-variables tokens p vs e = keeps tokens (at_atom p vs) e

pub ended-variables : (tokens : List Lexeme) (w : WrittenClause) → clause_behind tokens ≡ ended w
    → variables_in (clause_tokens w []) [] ≡ variables_in tokens []
ended-variables tokens w e = ap (λ ts. variables_in ts []) (sym (ended-clause tokens w e))

-- the tokens lead to an argument of an atom exactly where the machine wants one
pub state-leads_into_atom : (n : ℕ) (tokens : List Lexeme) (p : AtomPlace) (vs : List (List ℕ)) (s : Spot) → clause_behind tokens ≡ in_atom p vs (term.wants s)
    → length (done_at s) ≡ n → LeadsIntoAtom n tokens
state-leads_into_atom n tokens p vs s r e =
    let l = clause_led tokens (in_atom p vs (term.wants s)) r tt in
    record { place = p; spot = s; is_inside = l.1; spelled = l.0; behind = e }

-- the variables before an argument of an atom
abbrev pub variables_to_argument : AtomPlace → Spot → List (List ℕ)
variables_to_argument p s = variables_in (tokens_to s []) (variables_to_atom p)

pub leads_into_atom-state : (n : ℕ) (tokens : List Lexeme) (l : LeadsIntoAtom n tokens)
    → clause_behind tokens ≡ in_atom l.place (variables_to_argument l.place l.spot) (term.wants l.spot)
leads_into_atom-state n tokens l = ap clause_behind l.spelled ∙ run-to_argument l.place l.spot l.is_inside

-- an argument of the clause behind 255 others is to come
abbrev is_full_clause : ClauseState → Bool
is_full_clause (in_atom p vs t) = term.is_full t
is_full_clause _ = false

full-term : (tokens : List Lexeme) (p : AtomPlace) (vs : List (List ℕ)) (t : term.TermState) → clause_behind tokens ≡ in_atom p vs t → term.is_full t ≡ true
    → LeadsIntoAtom 255 tokens
full-term tokens p vs (term.wants s) r e = state-leads_into_atom 255 tokens p vs s r ((Decides-eqb (length (done_at s)) 255).0 e)
full-term tokens p vs _ r e = cc

leads-full : (tokens : List Lexeme) (s : ClauseState) → clause_behind tokens ≡ s → is_full_clause s ≡ false → LeadsIntoAtom 255 tokens → ⊥
leads-full tokens s r f l =
    false≢true
    (sym f ∙ ap is_full_clause (sym r ∙ leads_into_atom-state 255 tokens l) ∙ (Decides-eqb (length (done_at l.spot)) 255).1 l.behind)

-- a variable is new, and there are 255 others
abbrev IsTooMany : List Lexeme → List ℕ → Type 0
IsTooMany before x = (is_one_of (variables_in before []) x ≡ false) × (255 ≤ length (variables_in before []))

-- none of the limits forbids the token
free : (before : List Lexeme) (c : Lexeme) → (LeadsIntoAtom 255 (before ++ c ∷ []) → ⊥)
    → ((n : ℕ) (x : List ℕ) → c ≡ a_variable x → LeadsIntoAtom n before → IsTooMany before x → ⊥) → (code : Code) → ClauseLimits before c code → ⊥
free before c f m _ (many_arguments l) = f l
free before _ f m _ (many_variables {n = n} {x = x} l new reached) = m n x refl l (new, reached)

-- a variable stands in an atom, where an argument is to come
variable-step : (n : ℕ) (before : List Lexeme) (x : List ℕ) (l : LeadsIntoAtom n before)
    → step (clause_behind before) (a_variable x)
    ≡ in_atom l.place (variables_in (a_variable x ∷ []) (variables_to_argument l.place l.spot)) (term.has (variable_word x) l.spot)
variable-step n before x l = ap (λ s. step s (a_variable x)) (leads_into_atom-state n before l)

-- what the answer about a token says, where its step leads to a state
abbrev pub IsClauseJudged : List Lexeme → Lexeme → ClauseState → Result ClauseState Code → Type 0
IsClauseJudged before c t (Ok u) = (t ≡ u) × IsLiveClause u × ((code : Code) → ClauseLimits before c code → ⊥)
IsClauseJudged before c t (Err code) = ((t ≡ stuck) × (code ≡ Unexpected)) ⊎ (IsLiveClause t × ClauseLimits before c code)

-- the state lies in no atom
abbrev IsOutside : ClauseState → Type 0
IsOutside (in_atom p vs t) = ⊥
IsOutside _ = Unit {0}

outside-argument : (n : ℕ) (tokens : List Lexeme) (s : ClauseState) → clause_behind tokens ≡ s → IsOutside s → LeadsIntoAtom n tokens → ⊥
outside-argument n tokens s r o l = subst IsOutside (sym r ∙ leads_into_atom-state n tokens l) o

outside-variable : (before : List Lexeme) (c : Lexeme) (t : ClauseState) → step (clause_behind before) c ≡ t → IsOutside t
    → (n : ℕ) (x : List ℕ) → c ≡ a_variable x → LeadsIntoAtom n before → ⊥
outside-variable before c t e o n x d l = subst IsOutside (sym e ∙ ap (step (clause_behind before)) d ∙ variable-step n before x l) o

-- a token that no limit forbids
judged-free : (before : List Lexeme) (c : Lexeme) (t : ClauseState) → ((code : Code) → ClauseLimits before c code → ⊥) → IsClauseJudged before c t (within t)
judged-free before c stuck f = inl (refl, refl)
judged-free before c _ f = (refl, tt, f)

-- a token behind which no argument is to come, and no variable of an atom
judged-outside : (before : List Lexeme) (c : Lexeme) (t : ClauseState) → step (clause_behind before) c ≡ t → IsOutside t → IsClauseJudged before c t (within t)
judged-outside before c t e o =
    judged-free before c t
    (free before c (outside-argument 255 (before ++ c ∷ []) t (clause_behind-step before c ∙ e) o) (λ n x d l m. outside-variable before c t e o n x d l))

-- a token behind no atom
judged-at : (before : List Lexeme) (c : Lexeme) (s : ClauseState) → clause_behind before ≡ s → IsOutside s → is_full_clause (step s c) ≡ false
    → IsClauseJudged before c (step s c) (within (step s c))
judged-at before c s r o f =
    judged-free before c (step s c)
    (free before c (leads-full (before ++ c ∷ []) (step s c) (clause_behind-step before c ∙ ap (λ u. step u c) r) f) (λ n x d l m. outside-argument n before s r o l))

behind_atom-outside : (p : AtomPlace) (vs : List (List ℕ)) (a : WrittenAtom) (c : Lexeme) → IsOutside (behind_atom p vs a c)
behind_atom-outside at_head vs a (a_sign sign.If) = tt
behind_atom-outside at_head vs a (a_sign sign.Dot) = tt
behind_atom-outside (in_body head done) vs a (a_sign sign.Comma) = tt
behind_atom-outside (in_body head done) vs a (a_sign sign.Dot) = tt
behind_atom-outside _ _ _ _ = tt

behind-outside : (p : AtomPlace) (vs : List (List ℕ)) (o : Option WrittenAtom) (c : Lexeme) → IsOutside (behind p vs o c)
behind-outside p vs (Some a) c = behind_atom-outside p vs a c
behind-outside p vs None c = tt

not-true : (b : Bool) → not b ≡ true → b ≡ false
not-true true e = cc
not-true false e = refl

too-many : (n : ℕ) (vs : List (List ℕ)) (x : List ℕ) → term.is_too_many (Some n) vs (a_variable x) ≡ true → (is_one_of vs x ≡ false) × (n ≤ length vs)
too-many n vs x m =
    let p : (not (is_one_of vs x) ≡ true) × (nat_le n (length vs) ≡ true) = and_parts (not (is_one_of vs x)) (nat_le n (length vs)) m in
    (not-true (is_one_of vs x) p.0, grind (arith, nat_tests))

made-many : (n : ℕ) (vs : List (List ℕ)) (x : List ℕ) → is_one_of vs x ≡ false → n ≤ length vs → term.is_too_many (Some n) vs (a_variable x) ≡ true
made-many n vs x new reached = rw new (let h : nat_le n (length vs) ≡ true = grind (arith, nat_tests) in h)

-- no variable goes on behind a term
variable-behind : (u : WrittenTerm) (s : Spot) (x : List ℕ) → term.behind u s (a_variable x) ≡ term.stuck
variable-behind u alone x = refl
variable-behind u (in_arguments ds) x = refl
variable-behind u (in_term y ds s) x = refl

-- a variable of an atom that is one too many
many-limit : (before : List Lexeme) (c : Lexeme) (p : AtomPlace) (vs : List (List ℕ)) (t u : term.TermState) → clause_behind before ≡ in_atom p vs t
    → term.step any_variable t c ≡ u → term.IsLive u → term.is_too_many (Some 255) vs c ≡ true → ClauseLimits before c ManyVariables
many-limit before (a_variable x) p vs (term.wants s) u r e live m =
    let k = too-many 255 vs x m in
    let v : vs ≡ variables_in before [] = in_atom-variables before p vs (term.wants s) r in
    many_variables (state-leads_into_atom (length (done_at s)) before p vs s r refl)
    (subst (λ ws. is_one_of ws x ≡ false) v k.0) (subst (λ ws. 255 ≤ length ws) v k.1)
many-limit before (a_variable x) p vs (term.named y s) u r e live m = absurd (subst term.IsLive (sym e ∙ variable-behind (application y no_words) s x) live)
many-limit before (a_variable x) p vs (term.has w s) u r e live m = absurd (subst term.IsLive (sym e ∙ variable-behind w s x) live)
many-limit before (a_variable x) p vs _ u r e live m = absurd (subst term.IsLive (sym e) live)
many-limit before _ p vs t u r e live m = cc

few-variables : (before : List Lexeme) (c : Lexeme) (p : AtomPlace) (vs : List (List ℕ)) (t : term.TermState) → clause_behind before ≡ in_atom p vs t
    → term.is_too_many (Some 255) vs c ≡ false → (x : List ℕ) → c ≡ a_variable x → IsTooMany before x → ⊥
few-variables before c p vs t r m x d k =
    let v : vs ≡ variables_in before [] = in_atom-variables before p vs t r in
    false≢true
    (sym m
    ∙ ap (term.is_too_many (Some 255) vs) d
    ∙ ap (λ ws. term.is_too_many (Some 255) ws (a_variable x)) v
    ∙ made-many 255 (variables_in before []) x k.0 k.1)

judged-term : (before : List Lexeme) (c : Lexeme) (p : AtomPlace) (vs : List (List ℕ)) (t : term.TermState) (full many : Bool) (u : term.TermState)
    → clause_behind before ≡ in_atom p vs t → term.step any_variable t c ≡ u → term.is_full u ≡ full → term.is_too_many (Some 255) vs c ≡ many
    → step (clause_behind before) c ≡ gone_on p vs (whole_atom t) c u
    → IsClauseJudged before c (gone_on p vs (whole_atom t) c u) (gone_on_within p vs (whole_atom t) c (term.within full many u))
judged-term before c p vs t full many term.stuck r e f m g = judged-outside before c (behind p vs (whole_atom t) c) g (behind-outside p vs (whole_atom t) c)
judged-term before c p vs t true many u r e f m g =
    inr (tt, many_arguments (full-term (before ++ c ∷ []) p (variables_in (c ∷ []) vs) u (clause_behind-step before c ∙ g) f))
judged-term before c p vs t false true u r e f m g = inr (tt, many-limit before c p vs t u r e tt m)
judged-term before c p vs t false false u r e f m g = (
  refl,
  tt,
  free before c (leads-full (before ++ c ∷ []) (in_atom p (variables_in (c ∷ []) vs) u) (clause_behind-step before c ∙ g) f)
      (λ n x d l k. few-variables before c p vs t r m x d k),
)

name-full : (p : AtomPlace) (vs : List (List ℕ)) (c : Lexeme) → is_full_clause (step (at_atom p vs) c) ≡ false
name-full p vs (a_name x) = refl
name-full p vs _ = refl

judged-state : (before : List Lexeme) (c : Lexeme) (s : ClauseState) → clause_behind before ≡ s → IsClauseJudged before c (step s c) (limited s c)
judged-state before c (at_atom p vs) r = judged-at before c (at_atom p vs) r tt (name-full p vs c)
judged-state before c (in_atom p vs t) r =
    judged-term before c p vs t (term.is_full (term.step any_variable t c)) (term.is_too_many (Some 255) vs c) (term.step any_variable t c) r refl refl refl
    (ap (λ s. step s c) r)
judged-state before c (ended w) r = judged-at before c (ended w) r tt refl
judged-state before c stuck r = judged-at before c stuck r tt refl

-- the limits judge each token
pub clause-judged : (before : List Lexeme) (c : Lexeme) → IsClauseJudged before c (step (clause_behind before) c) (limited (clause_behind before) c)
clause-judged before c = judged-state before c (clause_behind before) refl

going-step : (s : ClauseState) (c : Lexeme) (p : AtomPlace) (vs : List (List ℕ)) (t : term.TermState) → step s c ≡ in_atom p vs t → IsGoingClause s
going-step (ended w) c p vs t e = cc
going-step stuck c p vs t e = cc
going-step _ c p vs t e = tt

-- where a limit forbids a token, a clause is under way
pub clause_limits-going : (before : List Lexeme) (c : Lexeme) (code : Code) → ClauseLimits before c code → IsGoingClause (clause_behind before)
clause_limits-going before c _ (many_arguments l) =
    going-step (clause_behind before) c l.place (variables_to_argument l.place l.spot) (term.wants l.spot)
    (sym (clause_behind-step before c) ∙ leads_into_atom-state 255 (before ++ c ∷ []) l)
clause_limits-going before _ _ (many_variables {n = n} l new reached) = rw (leads_into_atom-state n before l) tt

-- a limit of the arguments forbids no variable
variable-argument : (n : ℕ) (before : List Lexeme) (x : List ℕ) → LeadsIntoAtom 255 (before ++ a_variable x ∷ []) → LeadsIntoAtom n before → ⊥
variable-argument n before x l m =
    apart _ _ _ _ _ _ _
    (sym (leads_into_atom-state 255 (before ++ a_variable x ∷ []) l) ∙ clause_behind-step before (a_variable x) ∙ variable-step n before x m) where
      apart : (p q : AtomPlace) (vs ws : List (List ℕ)) (s r : Spot) (u : WrittenTerm) → in_atom p vs (term.wants s) ≡ in_atom q ws (term.has u r) → ⊥
      apart p q vs ws s r u e = cc

-- one limit forbids a token
pub clause_limits-once : (before : List Lexeme) (c : Lexeme) (a b : Code) → ClauseLimits before c a → ClauseLimits before c b → a ≡ b
clause_limits-once before c _ _ (many_arguments l) (many_arguments m) = refl
clause_limits-once before _ _ _ (many_arguments l) (many_variables {n = n} {x = x} m new reached) = absurd (variable-argument n before x l m)
clause_limits-once before _ _ _ (many_variables {n = n} {x = x} l new reached) (many_arguments m) = absurd (variable-argument n before x m l)
clause_limits-once before _ _ _ (many_variables l new reached) (many_variables m fresh many) = refl

pub clause_limits-expected : (before : List Lexeme) (c : Lexeme) (code : Code) → ClauseLimits before c code → code ≡ Unexpected → ⊥
clause_limits-expected before c _ (many_arguments l) e = cc
clause_limits-expected before _ _ (many_variables l new reached) e = cc
