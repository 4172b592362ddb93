-- What the machine of clauses read is what it was given.
use Rattle.std.proofs.Common.{◌≡◌, ℕ, List, [], ◌∷◌, ◌++◌, refl, ap, sym, subst, ◌∙◌, Option, Some, None}
use Rattle.fpc_base.specs.declared.tokens.lexeme.Sign.TheVariants as sign
use Rattle.fpc_base.specs.Lexeme.{Lexeme, a_name, a_sign}
use Rattle.fpc_terms.specs.Written.{WrittenArgs, variable_word, application, no_words, variables_in}
use Rattle.fpc_terms.specs.Spot.{alone, in_arguments, in_term}
use Rattle.fpc_terms.specs.Machine as term
use Rattle.fpc_terms.specs.ReadTerm.{any_variable}
use Rattle.fpc_terms.proofs.States as of_term
use Rattle.fpc_terms.proofs.TermLaws as term_laws
use Rattle.fpc_terms.proofs.TermReading.{variables_in-append}
use Rattle.fpc_terms.proofs.AnyTerm.{any-state}
use Rattle.clause_language.specs.Written.{WrittenAtom, atom_tokens, more_atom_tokens, body_tokens}
use Rattle.clause_language.specs.Limits.{AtomPlace, at_head, in_body, done_atom_tokens, tokens_to_atom}
use Rattle.clause_language.specs.ClauseMachine.{ClauseState, at_atom, in_atom, stuck, whole_atom, behind_atom, behind, gone_on, step, run}
use Rattle.clause_language.proofs.ClauseStates.{IsLiveClause, clause_tokens_before, IsAtomState, IsClauseState, KeepsVariables, ClauseFollows, ClauseLeads, step-atom}

-- an atom behind others
pub done_atom_tokens-last : (done : List WrittenAtom) (a : WrittenAtom) (rest : List Lexeme)
    → done_atom_tokens (done ++ a ∷ []) rest ≡ done_atom_tokens done (atom_tokens a (a_sign sign.Comma ∷ rest))
done_atom_tokens-last [] a rest = refl
done_atom_tokens-last (b ∷ more) a rest = ap (λ ts. atom_tokens b (a_sign sign.Comma ∷ ts)) (done_atom_tokens-last more a rest)

-- the last atom of a body before the dot
pub more_atom_tokens-last : (done : List WrittenAtom) (a : WrittenAtom) (rest : List Lexeme)
    → more_atom_tokens (done ++ a ∷ []) rest ≡ a_sign sign.Comma ∷ done_atom_tokens done (atom_tokens a (a_sign sign.Dot ∷ rest))
more_atom_tokens-last [] a rest = refl
more_atom_tokens-last (b ∷ more) a rest = ap (λ ts. a_sign sign.Comma ∷ atom_tokens b ts) (more_atom_tokens-last more a rest)

pub body_tokens-last : (done : List WrittenAtom) (a : WrittenAtom) (rest : List Lexeme)
    → body_tokens (done ++ a ∷ []) rest ≡ a_sign sign.If ∷ done_atom_tokens done (atom_tokens a (a_sign sign.Dot ∷ rest))
body_tokens-last [] a rest = refl
body_tokens-last (b ∷ more) a rest = ap (λ ts. a_sign sign.If ∷ atom_tokens b ts) (more_atom_tokens-last more a rest)

-- an atom of a name and its arguments
abbrev pub an_atom : List ℕ → WrittenArgs → WrittenAtom
an_atom x args = record { text = x; args = args }

-- the tokens of a whole atom
pub whole_atom-tokens : (t : term.TermState) (a : WrittenAtom) → whole_atom t ≡ Some a → (rest : List Lexeme) → of_term.tokens_before t rest ≡ atom_tokens a rest
whole_atom-tokens (term.named x alone) a e rest = let d : an_atom x no_words ≡ a = cc in ap (λ b. atom_tokens b rest) d
whole_atom-tokens (term.has (application x args) alone) a e rest = let d : an_atom x args ≡ a = cc in ap (λ b. atom_tokens b rest) d
whole_atom-tokens (term.has (variable_word x) alone) a e rest = cc
whole_atom-tokens (term.has (variable_word x) (in_arguments ds)) a e rest = cc
whole_atom-tokens (term.has (variable_word x) (in_term y ds s)) a e rest = cc
whole_atom-tokens _ a e rest = cc

behind_atom-tokens : (p : AtomPlace) (vs : List (List ℕ)) (a : WrittenAtom) (c : Lexeme) → IsLiveClause (behind_atom p vs a c) → (rest : List Lexeme)
    → clause_tokens_before (behind_atom p vs a c) rest ≡ tokens_to_atom p (atom_tokens a (c ∷ rest))
behind_atom-tokens at_head vs a (a_sign sign.If) live rest = refl
behind_atom-tokens at_head vs a (a_sign sign.Dot) live rest = refl
behind_atom-tokens (in_body head done) vs a (a_sign sign.Comma) live rest =
    ap (λ ts. atom_tokens head (a_sign sign.If ∷ ts)) (done_atom_tokens-last done a rest)
behind_atom-tokens (in_body head done) vs a (a_sign sign.Dot) live rest = ap (atom_tokens head) (body_tokens-last done a rest)
behind_atom-tokens _ _ _ _ live rest = absurd live

behind_atom-state : (p : AtomPlace) (vs : List (List ℕ)) (a : WrittenAtom) (c : Lexeme) → IsClauseState (behind_atom p vs a c)
behind_atom-state at_head vs a (a_sign sign.If) = tt
behind_atom-state at_head vs a (a_sign sign.Dot) = tt
behind_atom-state (in_body head done) vs a (a_sign sign.Comma) = tt
behind_atom-state (in_body head done) vs a (a_sign sign.Dot) = tt
behind_atom-state _ _ _ _ = tt

behind-follows : (p : AtomPlace) (vs : List (List ℕ)) (t : term.TermState) (c : Lexeme) (o : Option WrittenAtom) → whole_atom t ≡ o
    → IsLiveClause (behind p vs o c) → ClauseFollows (in_atom p vs t) c (behind p vs o c)
behind-follows p vs t c (Some a) e live = record {
  tokens = λ rest. behind_atom-tokens p vs a c live rest ∙ ap (tokens_to_atom p) (sym (whole_atom-tokens t a e (c ∷ rest)));
  is_state = behind_atom-state p vs a c;
}
behind-follows p vs t c None e live = absurd live

-- a term that goes on has read the token
record TermFollows (t : term.TermState) (c : Lexeme) (u : term.TermState) : Type 0 where
  tokens : (rest : List Lexeme) → of_term.tokens_before u rest ≡ of_term.tokens_before t (c ∷ rest)
  is_atom : IsAtomState u

term-follows : (t : term.TermState) (c : Lexeme) (u : term.TermState) → IsAtomState t → term.step any_variable t c ≡ u → term.IsLive u → TermFollows t c u
term-follows t c u a e live =
    subst (λ v. term.IsLive v → TermFollows t c v) e
    (λ l. record { tokens = (term_laws.step-follows any_variable t c (any-state t) l).tokens; is_atom = step-atom t c a l }) live

gone_on-follows : (p : AtomPlace) (vs : List (List ℕ)) (t : term.TermState) (c : Lexeme) (u : term.TermState) → IsAtomState t
    → term.step any_variable t c ≡ u → IsLiveClause (gone_on p vs (whole_atom t) c u) → ClauseFollows (in_atom p vs t) c (gone_on p vs (whole_atom t) c u)
gone_on-follows p vs t c term.stuck a e live = behind-follows p vs t c (whole_atom t) refl live
gone_on-follows p vs t c (term.wants s) a e live =
    let f = term-follows t c (term.wants s) a e tt in record { tokens = λ rest. ap (tokens_to_atom p) (f.tokens rest); is_state = f.is_atom }
gone_on-follows p vs t c (term.named x s) a e live =
    let f = term-follows t c (term.named x s) a e tt in record { tokens = λ rest. ap (tokens_to_atom p) (f.tokens rest); is_state = f.is_atom }
gone_on-follows p vs t c (term.has w s) a e live =
    let f = term-follows t c (term.has w s) a e tt in record { tokens = λ rest. ap (tokens_to_atom p) (f.tokens rest); is_state = f.is_atom }
gone_on-follows p vs t c (term.ended args) a e live =
    let f = term-follows t c (term.ended args) a e tt in record { tokens = λ rest. ap (tokens_to_atom p) (f.tokens rest); is_state = f.is_atom }

-- SOUND: a live step has read the token
pub clause_step-follows : (s : ClauseState) (c : Lexeme) → IsClauseState s → IsLiveClause (step s c) → ClauseFollows s c (step s c)
clause_step-follows (at_atom p vs) (a_name x) h live = record { tokens = λ rest. refl; is_state = tt }
clause_step-follows (in_atom p vs t) c h live = gone_on-follows p vs t c (term.step any_variable t c) h refl live
clause_step-follows _ _ h live = absurd live

pub clause_run-stuck : (cs : List Lexeme) → run stuck cs ≡ stuck
clause_run-stuck [] = refl
clause_run-stuck (c ∷ cs) = clause_run-stuck cs

-- tokens in two parts
pub clause_run-append : (cs ds : List Lexeme) (s : ClauseState) → run s (cs ++ ds) ≡ run (run s cs) ds
clause_run-append [] ds s = refl
clause_run-append (c ∷ cs) ds s = clause_run-append cs ds (step s c)

pub live-run_clause : (cs : List Lexeme) (s : ClauseState) → IsLiveClause (run s cs) → IsLiveClause s
live-run_clause cs stuck live = rw (clause_run-stuck cs) at live
live-run_clause cs _ live = tt

-- tokens that lead to a live state were read
pub clause_run-leads : (cs : List Lexeme) (s : ClauseState) → IsClauseState s → IsLiveClause (run s cs) → ClauseLeads cs s (run s cs)
clause_run-leads [] s h live = record { tokens = λ rest. refl; is_state = h }
clause_run-leads (c ∷ cs) s h live =
    let f = clause_step-follows s c h (live-run_clause cs (step s c) live) in
    let g = clause_run-leads cs (step s c) f.is_state live in
    record { tokens = λ rest. g.tokens rest ∙ f.tokens (cs ++ rest); is_state = g.is_state }

behind_atom-keeps : (p : AtomPlace) (vs : List (List ℕ)) (a : WrittenAtom) (c : Lexeme) → KeepsVariables (variables_in (c ∷ []) vs) (behind_atom p vs a c)
behind_atom-keeps at_head vs a (a_sign sign.If) = refl
behind_atom-keeps at_head vs a (a_sign sign.Dot) = tt
behind_atom-keeps (in_body head done) vs a (a_sign sign.Comma) = refl
behind_atom-keeps (in_body head done) vs a (a_sign sign.Dot) = tt
behind_atom-keeps _ _ _ _ = tt

behind-keeps : (p : AtomPlace) (vs : List (List ℕ)) (o : Option WrittenAtom) (c : Lexeme) → KeepsVariables (variables_in (c ∷ []) vs) (behind p vs o c)
behind-keeps p vs (Some a) c = behind_atom-keeps p vs a c
behind-keeps p vs None c = tt

gone_on-keeps : (p : AtomPlace) (vs : List (List ℕ)) (o : Option WrittenAtom) (c : Lexeme) (u : term.TermState) → KeepsVariables (variables_in (c ∷ []) vs) (gone_on p vs o c u)
gone_on-keeps p vs o c term.stuck = behind-keeps p vs o c
gone_on-keeps p vs o c _ = refl

-- the variables that a state keeps, with those of a token
step-keeps : (s : ClauseState) (c : Lexeme) (us : List (List ℕ)) → KeepsVariables us s → KeepsVariables (variables_in (c ∷ []) us) (step s c)
step-keeps (at_atom p vs) (a_name x) us h = h
step-keeps (in_atom p vs t) c us h =
    subst (λ ws. KeepsVariables (variables_in (c ∷ []) ws) (step (in_atom p vs t) c)) h (gone_on-keeps p vs (whole_atom t) c (term.step any_variable t c))
step-keeps _ _ us h = tt

pub run-keeps : (cs : List Lexeme) (s : ClauseState) (us : List (List ℕ)) → KeepsVariables us s → KeepsVariables (variables_in cs us) (run s cs)
run-keeps [] s us h = h
run-keeps (c ∷ cs) s us h =
    subst (λ ws. KeepsVariables ws (run (step s c) cs)) (sym (variables_in-append (c ∷ []) cs us))
    (run-keeps cs (step s c) (variables_in (c ∷ []) us) (step-keeps s c us h))
