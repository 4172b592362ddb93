-- The front of some items is read as one term, or refused in one way, and not both.
use Rattle.std.proofs.Common.{◌≡◌, ℕ, Bool, true, false, List, [], ◌∷◌, ◌++◌, refl, sym, ◌∙◌, Option, Some, cond}
use Rattle.fpc_base.specs.declared.refusal.Code.{Code}
use Rattle.fpc_base.specs.Lexeme.{Lexeme, a_variable}
use Rattle.fpc_terms.specs.Written.{WrittenTerm, IsTerm, variable_word}
use Rattle.fpc_terms.specs.Spot.{Spot, alone, in_arguments, in_term, TermLimits, LeadsBehind, many_arguments, many_variables}
use Rattle.fpc_terms.specs.Machine.{TermState, wants, named, has, ended, stuck, step, run}
use Rattle.fpc_terms.proofs.TermReading.{is-whole, leads-run, run-one}

pub term-once : (known : List ℕ → Bool) (ts : List Lexeme) (v w : WrittenTerm) → IsTerm known ts v → IsTerm known ts w → v ≡ w
term-once known ts v w h k = let p : Some v ≡ Some w = sym (is-whole known ts v h) ∙ is-whole known ts w k in cc

-- no term is to come after a variable
never-wants : (known : List ℕ → Bool) (t : TermState) (x : List ℕ) (s : Spot) → step known t (a_variable x) ≡ wants s → ⊥
never-wants known (wants spot) x s e = never (known x) e
  where
    never : (b : Bool) → cond b (has (variable_word x) spot) stuck ≡ wants s → ⊥
    never true e = cc
    never false e = cc
never-wants known (named y alone) x s e = cc
never-wants known (named y (in_arguments ds)) x s e = cc
never-wants known (named y (in_term z ds spot)) x s e = cc
never-wants known (has u alone) x s e = cc
never-wants known (has u (in_arguments ds)) x s e = cc
never-wants known (has u (in_term z ds spot)) x s e = cc
never-wants known (ended args) x s e = cc
never-wants known stuck x s e = cc

never-leads : (known : List ℕ → Bool) (n : ℕ) (before : List Lexeme) (x : List ℕ) → LeadsBehind known n (before ++ a_variable x ∷ []) → ⊥
never-leads known n before x l =
    let r = leads-run known n (before ++ a_variable x ∷ []) l in
    never-wants known (run known (wants alone) before) x r.0
    (sym (run-one known before (a_variable x) (run known (wants alone) before) refl) ∙ r.1.0)

-- one limit forbids a token
pub limits-once : (known : List ℕ → Bool) (most : Option ℕ) (earlier : List (List ℕ)) (before : List Lexeme) (c : Lexeme) (a b : Code)
    → TermLimits known most earlier before c a → TermLimits known most earlier before c b → a ≡ b
limits-once known most earlier before _ _ _ (many_arguments l) (many_arguments m) = refl
limits-once known most earlier before _ _ _ (many_arguments l) (many_variables new at_most reached) = absurd (never-leads known 255 before _ l)
limits-once known most earlier before _ _ _ (many_variables new at_most reached) (many_arguments l) = absurd (never-leads known 255 before _ l)
limits-once known most earlier before _ _ _ (many_variables new at_most reached) (many_variables again at_most2 reached2) = refl
