-- Terms in which any variable may stand.
use Rattle.std.proofs.Common.{◌≡◌, ℕ, Bool, true, false, List, [], ◌∷◌, ◌++◌, length, refl, ap, sym, subst, ◌∙◌, None, Result, Ok, Err, nat_eq, ◌⊎◌, inl, inr}
use Rattle.fpc_base.specs.declared.refusal.Code.{Code}
use Rattle.fpc_base.specs.declared.refusal.Code.TheVariants.{Unexpected}
use Rattle.fpc_base.specs.Lexeme.{Lexeme}
use Rattle.fpc_terms.specs.Written.{WrittenTerm, WrittenArgs, variable_word, application, no_words, words, IsKnown, AreKnown}
use Rattle.fpc_terms.specs.Spot.{Spot, alone, in_arguments, in_term, done_at, AllKnown, IsSpotKnown, TermLimits, many_arguments, many_variables}
use Rattle.fpc_terms.specs.Machine.{TermState, wants, named, has, ended, stuck, step, run, IsLive, is_full, within, limited}
use Rattle.fpc_terms.specs.ReadTerm.{any_variable}
use Rattle.fpc_terms.proofs.States.{IsStateKnown}
use Rattle.fpc_terms.proofs.TermLaws.{live-run}
use Rattle.fpc_terms.proofs.TermReading.{leads-run, full-leads, run-one}

-- each variable is known
mutual
  pub any-term : (t : WrittenTerm) → IsKnown any_variable t
  any-term (variable_word x) = refl
  any-term (application x args) = any-args args

  pub any-args : (ts : WrittenArgs) → AreKnown any_variable ts
  any-args no_words = tt
  any-args (words t ts) = (any-term t, any-args ts)

any-done : (ts : List WrittenTerm) → AllKnown any_variable ts
any-done [] = tt
any-done (t ∷ ts) = (any-term t, any-done ts)

pub any-spot : (s : Spot) → IsSpotKnown any_variable s
any-spot alone = tt
any-spot (in_arguments ds) = any-done ds
any-spot (in_term x ds s) = (any-done ds, any-spot s)

pub any-state : (t : TermState) → IsStateKnown any_variable t
any-state (wants s) = any-spot s
any-state (named x s) = any-spot s
any-state (has u s) = (any-term u, any-spot s)
any-state (ended args) = any-args args
any-state stuck = tt

-- what the answer about a token says
abbrev pub IsTermJudged : List Lexeme → Lexeme → TermState → Result TermState Code → Type 0
IsTermJudged before c t (Ok u) = (t ≡ u) × IsLive t × ((code : Code) → TermLimits any_variable None [] before c code → ⊥)
IsTermJudged before c t (Err code) = ((t ≡ stuck) × (code ≡ Unexpected)) ⊎ (IsLive t × TermLimits any_variable None [] before c code)

-- no limit forbids a token where no argument is to come behind 255 others
free : (before : List Lexeme) (c : Lexeme) (t : TermState) → run any_variable (wants alone) (before ++ c ∷ []) ≡ t → is_full t ≡ false
    → (code : Code) → TermLimits any_variable None [] before c code → ⊥
free before c t e f _ (many_arguments l) =
    let r = leads-run any_variable 255 (before ++ c ∷ []) l in
    let d : t ≡ wants r.0 = sym e ∙ r.1.0 in
    let g : nat_eq (length (done_at r.0)) 255 ≡ false = sym (ap is_full d) ∙ f in
    let h : nat_eq 255 255 ≡ false = sym (ap (λ (k : ℕ). nat_eq k 255) r.1.1) ∙ g in cc
free before c t e f _ (many_variables old at_most reached) = cc

judged-within : (before : List Lexeme) (c : Lexeme) (t : TermState) (b : Bool) → run any_variable (wants alone) (before ++ c ∷ []) ≡ t → is_full t ≡ b
    → IsTermJudged before c t (within b false t)
judged-within before c stuck b e f = inl (refl, refl)
judged-within before c (wants s) true e f = inr (tt, many_arguments (full-leads any_variable (before ++ c ∷ []) (wants s) e f))
judged-within before c (wants s) false e f = (refl, tt, free before c (wants s) e f)
judged-within before c (named x s) true e f = cc
judged-within before c (named x s) false e f = (refl, tt, free before c (named x s) e f)
judged-within before c (has u s) true e f = cc
judged-within before c (has u s) false e f = (refl, tt, free before c (has u s) e f)
judged-within before c (ended args) true e f = cc
judged-within before c (ended args) false e f = (refl, tt, free before c (ended args) e f)

-- the limits judge each token of a term with any variables
pub term-judged : (before : List Lexeme) (c : Lexeme) (t : TermState) → run any_variable (wants alone) before ≡ t
    → IsTermJudged before c (step any_variable t c) (limited any_variable None [] t c)
term-judged before c t e = judged-within before c (step any_variable t c) (is_full (step any_variable t c)) (run-one any_variable before c t e) refl

-- one limit forbids a token of it
pub term_limits-once : (before : List Lexeme) (c : Lexeme) (a b : Code) → TermLimits any_variable None [] before c a → TermLimits any_variable None [] before c b → a ≡ b
term_limits-once before c _ _ (many_arguments l) (many_arguments m) = refl
term_limits-once before c _ _ (many_arguments l) (many_variables old at_most reached) = cc
term_limits-once before c _ _ (many_variables old at_most reached) m = cc

-- a token that a limit forbids goes on
pub term_limits-step : (before : List Lexeme) (c : Lexeme) (t : TermState) (code : Code) → run any_variable (wants alone) before ≡ t
    → TermLimits any_variable None [] before c code → IsLive (step any_variable t c)
term_limits-step before c t _ e (many_arguments l) =
    let r = leads-run any_variable 255 (before ++ c ∷ []) l in
    subst IsLive (sym (sym (run-one any_variable before c t e) ∙ r.1.0)) tt
term_limits-step before c t _ e (many_variables old at_most reached) = cc

pub term_limits-live : (before : List Lexeme) (c : Lexeme) (code : Code) → TermLimits any_variable None [] before c code → IsLive (run any_variable (wants alone) before)
term_limits-live before c code l = live-run any_variable (c ∷ []) (run any_variable (wants alone) before) (term_limits-step before c (run any_variable (wants alone) before) code refl l)
