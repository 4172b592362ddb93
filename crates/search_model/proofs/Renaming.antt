-- What a search finds is the same but for the numbers of names, and so it has the same text.
use Rattle.std.proofs.Common.{◌≡◌, ℕ, List, refl}
use Rattle.fpc_terms.specs.Term.{Term}
use Rattle.fpc_terms.specs.Open.{constant}
use Rattle.fpc_terms.specs.Text.{name_in}
use Rattle.fpc_terms.specs.Same.{SameTerm, SameArgs, same_app, same_no_args, same_arg, SameList, same_nil, same_cons}
use Rattle.fpc_terms.proofs.SameTexts.{term_before-same}
use Rattle.clause_language.specs.declared.atom.Atom.{Atom}
use Rattle.clause_language.specs.declared.clause.Clause.{Clause}
use Rattle.clause_language.specs.LeastModel.{fits}
use Rattle.clause_language.specs.Text.{args_of}
use Rattle.search_model.specs.Run.{Ending}
use Rattle.search_model.specs.Same.{IsOneToOne, related_nil, SameAtom, SameClause, same_call, SameAlternative, same_alternative, SameAnswer, SameEnding, AreSameCalculi}
use Rattle.search_model.specs.Search.{call, Alternative, Answer}
use Rattle.search_model.specs.Solve.{Nothing, no_calculus, solving, solved_atom, atom_text}
use Rattle.search_model.proofs.SameTermParts.{map_put-same, constant-same}
use Rattle.search_model.proofs.SameSearches.{search-same, fits-same, EndAlike, told_alike}

-- two of what there is none of
abbrev pub SameNothing : Nothing → Nothing → Type 0
SameNothing x y = x ≡ y

-- the calculus without items is the same by any names
nothing_same : (S : ℕ → ℕ → Type 0) → AreSameCalculi S no_calculus no_calculus SameNothing SameNothing
nothing_same S = record { items = λ s r h x y k. k; steps = λ s r h d e k. k; expanded = λ x y h k. related_nil }

-- searches over clauses alone end alike
solving-same : {S : ℕ → ℕ → Type 0} → IsOneToOne S → {cs ds : List Clause} → SameList (SameClause S) cs ds → {a b : Atom} → SameAtom S a b → (budget variables : ℕ)
    → SameEnding (SameAnswer S SameNothing SameNothing) (solving cs budget a variables) (solving ds budget b variables)
solving-same {S = S} one same_clauses {a = a} {b = b} h budget variables =
    search-same no_calculus no_calculus SameNothing SameNothing (nothing_same S) fits (fits-same one) one same_clauses (call a) (call b) (same_call h) a.arguments b.arguments h.terms variables budget

module _ {S : ℕ → ℕ → Type 0} where
  -- the atom that was found
  pub solved-same : (m n : ℕ) {a b : Atom} {f g : Alternative Nothing Nothing} → S m n → SameAtom S a b → SameAlternative S SameNothing SameNothing f g → SameAtom S (solved_atom m a f) (solved_atom n b g)
  solved-same m n s h (same_alternative gs es ts levels) =
      record { names = h.names; terms = map_put-same (constant m) (constant n) (constant-same s) ts }

  -- a list as arguments
  pub args_of-same : {ts us : List Term} → SameList (SameTerm S) ts us → SameArgs S (args_of ts) (args_of us)
  args_of-same same_nil = same_no_args
  args_of-same (same_cons h hs) = same_arg h (args_of-same hs)

-- what is known of two endings
abbrev pub TellsTheSame : (ℕ → ℕ → Type 0) → Ending (Answer Nothing Nothing) → Ending (Answer Nothing Nothing) → Type 0
TellsTheSame S e d = EndAlike S SameNothing SameNothing e d

-- what is known of the endings of two searches
pub endings_tell : {S : ℕ → ℕ → Type 0} (one : IsOneToOne S) {cs ds : List Clause} {a b : Atom} (budget variables : ℕ) {e d : Ending (Answer Nothing Nothing)}
    → SameList (SameClause S) cs ds → SameAtom S a b → solving cs budget a variables ≡ e → solving ds budget b variables ≡ d → TellsTheSame S e d
endings_tell {S = S} one budget variables ss h p q = told_alike S SameNothing SameNothing (solving-same one ss h budget variables) p q

-- related names are the same, each by its own table
module _ (names others : List (List ℕ)) {S : ℕ → ℕ → Type 0} (named : (m n : ℕ) → S m n → name_in names m ≡ name_in others n) where
  -- the text of an atom
  pub atom_text-same : {a b : Atom} → SameAtom S a b → atom_text names a ≡ atom_text others b
  atom_text-same h = term_before-same (name_in names) (name_in others) named (same_app h.names (args_of-same h.terms)) refl
