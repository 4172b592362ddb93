-- The machine of clauses reads the tokens of each clause whole.
use Rattle.std.proofs.Common.{◌≡◌, ℕ, List, [], ◌∷◌, ◌++◌, refl, ap, sym, ◌∙◌, Option, Some, append-nil}
use Rattle.std.proofs.lemmas.List.{append_assoc}
use Rattle.fpc_base.specs.declared.tokens.lexeme.Sign.TheVariants as sign
use Rattle.fpc_base.specs.Lexeme.{Lexeme, a_name, a_sign}
use Rattle.fpc_terms.specs.Written.{application, variable_word, no_words, args_tokens, variables_in}
use Rattle.fpc_terms.specs.Spot.{Spot, alone, in_arguments, in_term, tokens_to, done_tokens, IsAlone}
use Rattle.fpc_terms.specs.Machine as term
use Rattle.fpc_terms.specs.ReadTerm.{any_variable}
use Rattle.fpc_terms.proofs.TermLaws.{IsBehind, args_tokens-append}
use Rattle.fpc_terms.proofs.TermLaws as term_laws
use Rattle.fpc_terms.proofs.TermReading.{run-whole, run-tokens_to, variables_in-append}
use Rattle.fpc_terms.proofs.AnyTerm.{any-args, any-spot}
use Rattle.clause_language.specs.Written.{WrittenAtom, WrittenClause, atom_tokens, more_atom_tokens, body_tokens, clause_tokens}
use Rattle.clause_language.specs.Limits.{AtomPlace, at_head, in_body, done_atom_tokens, tokens_to_atom, IsInside}
use Rattle.clause_language.specs.ClauseMachine.{at_atom, in_atom, ended, whole_in, whole_atom, clause_of, behind_atom, gone_on, step, run, clause_start}
use Rattle.clause_language.proofs.ClauseStates.{inside-alone}

gone_on-live : (p : AtomPlace) (vs : List (List ℕ)) (o : Option WrittenAtom) (c : Lexeme) (u : term.TermState) → term.IsLive u
    → gone_on p vs o c u ≡ in_atom p (variables_in (c ∷ []) vs) u
gone_on-live p vs o c term.stuck live = absurd live
gone_on-live p vs o c _ live = refl

-- the term of an atom is read as its own machine reads it
pub run-in_atom : (p : AtomPlace) (vs : List (List ℕ)) (cs rest : List Lexeme) (t : term.TermState) → term.IsLive (term.run any_variable t cs)
    → run (in_atom p vs t) (cs ++ rest) ≡ run (in_atom p (variables_in cs vs) (term.run any_variable t cs)) rest
run-in_atom p vs [] rest t live = refl
run-in_atom p vs (c ∷ cs) rest t live =
    ap (λ s. run s (cs ++ rest)) (gone_on-live p vs (whole_atom t) c (term.step any_variable t c) (term_laws.live-run any_variable cs (term.step any_variable t c) live))
    ∙ run-in_atom p (variables_in (c ∷ []) vs) cs rest (term.step any_variable t c) live
    ∙ ap (λ ws. run (in_atom p ws (term.run any_variable t (c ∷ cs))) rest) (sym (variables_in-append (c ∷ []) cs vs))

-- the same, to a state that is known
pub run-to_state : (p : AtomPlace) (vs : List (List ℕ)) (cs rest : List Lexeme) (t u : term.TermState) → term.run any_variable t cs ≡ u → term.IsLive u
    → run (in_atom p vs t) (cs ++ rest) ≡ run (in_atom p (variables_in cs vs) u) rest
run-to_state p vs cs rest t u e live = run-in_atom p vs cs rest t (rw e live) ∙ ap (λ v. run (in_atom p (variables_in cs vs) v) rest) e

-- a token behind a whole atom is none of its term, unless it is an open parenthesis
named-ends : (p : AtomPlace) (vs : List (List ℕ)) (x : List ℕ) (a : WrittenAtom) (c : Lexeme) → whole_atom (term.named x alone) ≡ Some a → IsBehind (c ∷ [])
    → step (in_atom p vs (term.named x alone)) c ≡ behind_atom p vs a c
named-ends p vs x a (a_sign sign.OpenParenthesis) e b = absurd b
named-ends p vs x a c e b =
    let w : WrittenAtom = record { text = x; args = no_words } in
    let d : w ≡ a = cc in ap (λ v. behind_atom p vs v c) d

pub whole_atom-ends : (p : AtomPlace) (vs : List (List ℕ)) (t : term.TermState) (a : WrittenAtom) (c : Lexeme) → whole_atom t ≡ Some a → IsBehind (c ∷ [])
    → step (in_atom p vs t) c ≡ behind_atom p vs a c
whole_atom-ends p vs (term.named x alone) a c e b = named-ends p vs x a c e b
whole_atom-ends p vs (term.has (application x args) alone) a c e b =
    let w : WrittenAtom = record { text = x; args = args } in
    let d : w ≡ a = cc in ap (λ v. behind_atom p vs v c) d
whole_atom-ends p vs (term.has (variable_word x) alone) a c e b = cc
whole_atom-ends p vs (term.has (variable_word x) (in_arguments ds)) a c e b = cc
whole_atom-ends p vs (term.has (variable_word x) (in_term y ds s)) a c e b = cc
whole_atom-ends p vs _ a c e b = cc

-- the tokens of an atom are those of a term
pub whole_atom-run : (a : WrittenAtom) → whole_atom (term.run any_variable (term.named a.text alone) (args_tokens a.args [])) ≡ Some a
whole_atom-run a = ap whole_in (run-whole any_variable (application a.text a.args) (any-args a.args))

pub whole_atom-live : (t : term.TermState) (a : WrittenAtom) → whole_atom t ≡ Some a → term.IsLive t
whole_atom-live term.stuck a e = cc
whole_atom-live _ a e = tt

-- the variables behind an atom
abbrev pub variables_behind : List (List ℕ) → WrittenAtom → List (List ℕ)
variables_behind vs a = variables_in (args_tokens a.args []) vs

-- COMPLETE: an atom before a token that is no open parenthesis
pub run-atom : (p : AtomPlace) (vs : List (List ℕ)) (a : WrittenAtom) (c : Lexeme) (rest : List Lexeme) → IsBehind (c ∷ [])
    → run (at_atom p vs) (atom_tokens a (c ∷ rest)) ≡ run (behind_atom p (variables_behind vs a) a c) rest
run-atom p vs a c rest b =
    let t = term.run any_variable (term.named a.text alone) (args_tokens a.args []) in
    let e : whole_atom t ≡ Some a = whole_atom-run a in
    ap (run (in_atom p vs (term.named a.text alone))) (args_tokens-append a.args [] (c ∷ rest))
    ∙ run-in_atom p vs (args_tokens a.args []) (c ∷ rest) (term.named a.text alone) (whole_atom-live t a e)
    ∙ ap (λ s. run s rest) (whole_atom-ends p (variables_behind vs a) t a c e b)

-- an atom of a body, and those behind it
run-more_atoms : (head : WrittenAtom) (done : List WrittenAtom) (vs : List (List ℕ)) (a : WrittenAtom) (more : List WrittenAtom)
    → run (at_atom (in_body head done) vs) (atom_tokens a (more_atom_tokens more [])) ≡ ended (clause_of head (done ++ a ∷ more))
run-more_atoms head done vs a [] = run-atom (in_body head done) vs a (a_sign sign.Dot) [] tt
run-more_atoms head done vs a (b ∷ more) =
    run-atom (in_body head done) vs a (a_sign sign.Comma) (atom_tokens b (more_atom_tokens more [])) tt
    ∙ run-more_atoms head (done ++ a ∷ []) (variables_behind vs a) b more
    ∙ ap (λ bs. ended (clause_of head bs)) (append_assoc done (a ∷ []) (b ∷ more))

run-clause : (head : WrittenAtom) (body : List WrittenAtom) → run clause_start (atom_tokens head (body_tokens body [])) ≡ ended (clause_of head body)
run-clause head [] = run-atom at_head [] head (a_sign sign.Dot) [] tt
run-clause head (a ∷ more) =
    run-atom at_head [] head (a_sign sign.If) (atom_tokens a (more_atom_tokens more [])) tt
    ∙ run-more_atoms head [] (variables_behind [] head) a more

-- COMPLETE: a clause
pub run-clause_tokens : (w : WrittenClause) → run clause_start (clause_tokens w []) ≡ ended w
run-clause_tokens w = run-clause w.head w.body

-- the variables behind atoms
abbrev pub variables_behind_all : List (List ℕ) → List WrittenAtom → List (List ℕ)
variables_behind_all vs [] = vs
variables_behind_all vs (a ∷ more) = variables_behind_all (variables_behind vs a) more

run-done_atoms : (head : WrittenAtom) (before done : List WrittenAtom) (vs : List (List ℕ)) (rest : List Lexeme)
    → run (at_atom (in_body head before) vs) (done_atom_tokens done rest) ≡ run (at_atom (in_body head (before ++ done)) (variables_behind_all vs done)) rest
run-done_atoms head before [] vs rest = ap (λ bs. run (at_atom (in_body head bs) vs) rest) (sym (append-nil before))
run-done_atoms head before (a ∷ more) vs rest =
    run-atom (in_body head before) vs a (a_sign sign.Comma) (done_atom_tokens more rest) tt
    ∙ run-done_atoms head (before ++ a ∷ []) more (variables_behind vs a) rest
    ∙ ap (λ bs. run (at_atom (in_body head bs) (variables_behind_all vs (a ∷ more))) rest) (append_assoc before (a ∷ []) more)

-- the variables before an atom
abbrev pub variables_to_atom : AtomPlace → List (List ℕ)
variables_to_atom at_head = []
variables_to_atom (in_body head done) = variables_behind_all (variables_behind [] head) done

-- the tokens to an atom lead there
pub run-tokens_to_atom : (p : AtomPlace) (rest : List Lexeme) → run clause_start (tokens_to_atom p rest) ≡ run (at_atom p (variables_to_atom p)) rest
run-tokens_to_atom at_head rest = refl
run-tokens_to_atom (in_body head done) rest =
    run-atom at_head [] head (a_sign sign.If) (done_atom_tokens done rest) tt ∙ run-done_atoms head [] done (variables_behind [] head) rest

-- tokens that begin with a name
abbrev IsNamed : List Lexeme → Type 0
IsNamed (a_name x ∷ cs) = Unit {0}
IsNamed _ = ⊥

tokens_to-named : (s : Spot) (x : List ℕ) (cs : List Lexeme) → IsAlone s → IsNamed (tokens_to s (a_name x ∷ cs))
tokens_to-named alone x cs h = tt
tokens_to-named (in_arguments ds) x cs h = absurd h
tokens_to-named (in_term y ds s) x cs h = tokens_to-named s y (done_tokens ds (a_name x ∷ cs)) h

spot-named : (s : Spot) (rest : List Lexeme) → IsInside s → IsNamed (tokens_to s rest)
spot-named alone rest h = absurd h
spot-named (in_arguments ds) rest h = absurd h
spot-named (in_term x ds s) rest h = tokens_to-named s x (done_tokens ds rest) h

-- what is read as a term from its name on, is read as an atom
run-named : (p : AtomPlace) (vs : List (List ℕ)) (cs : List Lexeme) (t : term.TermState) → IsNamed cs → term.run any_variable (term.wants alone) cs ≡ t → term.IsLive t
    → run (at_atom p vs) cs ≡ in_atom p (variables_in cs vs) t
run-named p vs (a_name x ∷ cs) t n e live =
    ap (run (in_atom p vs (term.named x alone))) (sym (append-nil cs)) ∙ run-to_state p vs cs [] (term.named x alone) t e live
run-named p vs _ t n e live = absurd n

-- the tokens to an argument of an atom lead there
pub run-to_argument : (p : AtomPlace) (s : Spot) → IsInside s
    → run clause_start (tokens_to_atom p (tokens_to s [])) ≡ in_atom p (variables_in (tokens_to s []) (variables_to_atom p)) (term.wants s)
run-to_argument p s h =
    run-tokens_to_atom p (tokens_to s [])
    ∙ run-named p (variables_to_atom p) (tokens_to s []) (term.wants s) (spot-named s [] h) (run-tokens_to any_variable s (inside-alone s h) (any-spot s) []) tt
