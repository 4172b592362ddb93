-- What a state of the machine of formulas has read.
use Rattle.std.specs.Prelude.{◌≡◌, ℕ, List, ◌∷◌, ◌++◌}
use Rattle.fpc_base.specs.Lexeme.{Lexeme, a_name, a_variable, a_sign}
use Rattle.fpc_terms.specs.Machine as term
use Rattle.fpc_terms.proofs.States as of_term
use Rattle.polarised_formulas.specs.declared.logic.Logic.{Logic}
use Rattle.polarised_formulas.specs.Written.{formula_tokens, mark_tokens, binder_sign, IsBound, IsWrittenIn, is_known}
use Rattle.polarised_formulas.specs.Place.{Place, tokens_to_place, scope_at, IsPlaceBound, IsPlaceIn}
use Rattle.polarised_formulas.specs.Machine.{FormulaState, wants, marked, binding, bound_to, named, in_atom, has, stuck}

-- the tokens that led to the state, before other tokens
abbrev pub tokens_before : Logic → FormulaState → List Lexeme → List Lexeme
tokens_before logic (wants p) rest = tokens_to_place logic p rest
tokens_before logic (marked positive p) rest = tokens_to_place logic p (mark_tokens logic positive rest)
tokens_before logic (binding q p) rest = tokens_to_place logic p (a_sign (binder_sign q) ∷ rest)
tokens_before logic (bound_to q x p) rest = tokens_to_place logic p (a_sign (binder_sign q) ∷ a_variable x ∷ rest)
tokens_before logic (named positive x p) rest = tokens_to_place logic p (mark_tokens logic positive (a_name x ∷ rest))
tokens_before logic (in_atom positive x t p) rest = tokens_to_place logic p (mark_tokens logic positive (a_name x ∷ of_term.tokens_before t rest))
tokens_before logic (has w p) rest = tokens_to_place logic p (formula_tokens logic w rest)
tokens_before logic stuck rest = rest

-- what stands before a place is of the logic, and its variables are bound
abbrev pub IsPlaceOf : Logic → List (List ℕ) → Place → Type 0
IsPlaceOf logic parameters p = IsPlaceBound parameters p × IsPlaceIn logic p

-- the arguments of an atom are not whole
abbrev pub IsGoing : term.TermState → Type 0
IsGoing (term.ended args) = ⊥
IsGoing term.stuck = ⊥
IsGoing _ = Unit {0}

-- what was read so far is of the logic, and its variables are bound
abbrev pub IsStateOf : Logic → List (List ℕ) → FormulaState → Type 0
IsStateOf logic parameters (wants p) = IsPlaceOf logic parameters p
IsStateOf logic parameters (marked positive p) = IsPlaceOf logic parameters p
IsStateOf logic parameters (binding q p) = IsPlaceOf logic parameters p
IsStateOf logic parameters (bound_to q x p) = IsPlaceOf logic parameters p
IsStateOf logic parameters (named positive x p) = IsPlaceOf logic parameters p
IsStateOf logic parameters (in_atom positive x t p) =
    of_term.IsStateKnown (is_known parameters (scope_at p)) t × of_term.IsArgumentState t × IsGoing t × IsPlaceOf logic parameters p
IsStateOf logic parameters (has w p) = IsBound parameters (scope_at p) w × IsWrittenIn logic w × IsPlaceOf logic parameters p
IsStateOf logic parameters stuck = Unit {0}

abbrev pub IsLive : FormulaState → Type 0
IsLive stuck = ⊥
IsLive _ = Unit {0}

-- what a live step keeps
pub record Follows (logic : Logic) (parameters : List (List ℕ)) (s : FormulaState) (c : Lexeme) (t : FormulaState) : Type 0 where
  pub tokens : (rest : List Lexeme) → tokens_before logic t rest ≡ tokens_before logic s (c ∷ rest)
  pub is_of : IsStateOf logic parameters t

-- what live tokens keep
pub record Leads (logic : Logic) (parameters : List (List ℕ)) (cs : List Lexeme) (s t : FormulaState) : Type 0 where
  pub tokens : (rest : List Lexeme) → tokens_before logic t rest ≡ tokens_before logic s (cs ++ rest)
  pub is_of : IsStateOf logic parameters t
