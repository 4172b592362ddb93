-- Each live state of the machine of clauses has tokens that end its clause.
use Rattle.std.proofs.Common.{◌≡◌, ℕ, List, [], ◌∷◌, ◌++◌, refl, ◌∙◌, codes, Some}
use Rattle.fpc_base.specs.declared.tokens.lexeme.Sign.TheVariants as sign
use Rattle.fpc_base.specs.Lexeme.{Lexeme, a_name, a_sign}
use Rattle.fpc_terms.specs.Written.{WrittenTerm, variable_word, application, no_words, variables_in}
use Rattle.fpc_terms.specs.Spot.{alone, in_arguments, in_term}
use Rattle.fpc_terms.specs.Machine as term
use Rattle.fpc_terms.specs.ReadTerm.{any_variable}
use Rattle.fpc_terms.proofs.TermLaws as term_laws
use Rattle.fpc_terms.proofs.TermReading.{completes, whole-live}
use Rattle.clause_language.specs.Written.{WrittenAtom, WrittenClause}
use Rattle.clause_language.specs.Limits.{AtomPlace, at_head, in_body}
use Rattle.clause_language.specs.ClauseMachine.{ClauseState, at_atom, in_atom, ended, stuck, whole_atom, clause_of, behind_atom, run}
use Rattle.clause_language.proofs.ClauseStates.{IsLiveClause, IsAtomState, IsClauseState, atom-alone, atom-live, step-atom}
use Rattle.clause_language.proofs.ClauseComplete.{run-in_atom, whole_atom-ends}

-- tokens that end the clause, and the clause
pub record ClauseEnds (s : ClauseState) : Type 0 where
  pub more : List Lexeme
  pub clause : WrittenClause
  pub leads : run s more ≡ ended clause

-- the clause that a dot behind an atom ends
abbrev ended_by : AtomPlace → WrittenAtom → WrittenClause
ended_by at_head a = clause_of a []
ended_by (in_body head done) a = clause_of head (done ++ a ∷ [])

behind_atom-dot : (p : AtomPlace) (vs : List (List ℕ)) (a : WrittenAtom) → behind_atom p vs a (a_sign sign.Dot) ≡ ended (ended_by p a)
behind_atom-dot at_head vs a = refl
behind_atom-dot (in_body head done) vs a = refl

-- a whole term of an atom is the atom
record IsWhole (t : term.TermState) : Type 0 where
  atom : WrittenAtom
  is : whole_atom t ≡ Some atom

whole-atom : (t : term.TermState) (w : WrittenTerm) → IsAtomState t → term.whole_of t ≡ Some w → IsWhole t
whole-atom (term.named x alone) w h e = record { atom = record { text = x; args = no_words }; is = refl }
whole-atom (term.has (application x args) alone) w h e = record { atom = record { text = x; args = args }; is = refl }
whole-atom (term.has (variable_word x) alone) w h e = absurd h
whole-atom (term.has u (in_arguments ds)) w h e = absurd h
whole-atom (term.has u (in_term x ds s)) w h e = cc
whole-atom _ w h e = cc

-- live tokens stay in the term of the atom
run-atom_state : (cs : List Lexeme) (t : term.TermState) → IsAtomState t → term.IsLive (term.run any_variable t cs) → IsAtomState (term.run any_variable t cs)
run-atom_state [] t h live = h
run-atom_state (c ∷ cs) t h live =
    run-atom_state cs (term.step any_variable t c) (step-atom t c h (term_laws.live-run any_variable cs (term.step any_variable t c) live)) live

ends-in_atom : (p : AtomPlace) (vs : List (List ℕ)) (t : term.TermState) → IsAtomState t → ClauseEnds (in_atom p vs t)
ends-in_atom p vs t h =
    let e = completes any_variable t (atom-alone t h) (atom-live t h) in
    let u = term.run any_variable t e.more in
    let live : term.IsLive u = whole-live u e.term e.leads in
    let w : IsWhole u = whole-atom u e.term (run-atom_state e.more t h live) e.leads in
    record {
      more = e.more ++ a_sign sign.Dot ∷ [];
      clause = ended_by p w.atom;
      leads = run-in_atom p vs e.more (a_sign sign.Dot ∷ []) t live
          ∙ whole_atom-ends p (variables_in e.more vs) u w.atom (a_sign sign.Dot) w.is tt
          ∙ behind_atom-dot p (variables_in e.more vs) w.atom;
    }

-- VIABLE
pub clause_state-ends : (s : ClauseState) → IsClauseState s → IsLiveClause s → ClauseEnds s
clause_state-ends (at_atom p vs) h live =
    let e = ends-in_atom p vs (term.named (codes "a") alone) tt in record { more = a_name (codes "a") ∷ e.more; clause = e.clause; leads = e.leads }
clause_state-ends (in_atom p vs t) h live = ends-in_atom p vs t h
clause_state-ends (ended w) h live = record { more = []; clause = w; leads = refl }
clause_state-ends stuck h live = absurd live
