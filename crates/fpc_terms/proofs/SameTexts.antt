-- Terms that are the same by their names have the same text, each by its own table; and terms with names in a table are the same as themselves.
use Rattle.std.proofs.Common.{◌≡◌, ℕ, ◌<◌, List, ◌∷◌, ◌++◌, ap, ap₂}
use Rattle.std.specs.Fmt.{decimal}
use Rattle.fpc_terms.specs.Term.{Term, Args, eigen, bound, variable, app, no_args, arg}
use Rattle.fpc_terms.specs.Text.{plain_leaves, term_before, args_before, more_before}
use Rattle.fpc_terms.specs.Printing.{HasNamesBelow, HaveNamesBelow}
use Rattle.fpc_terms.specs.Same.{SameTerm, SameArgs, same_eigen, same_bound, same_variable, same_app, same_no_args, same_arg}

-- related numbers have one text, each by its own numbering
module _ {S : ℕ → ℕ → Type 0} (text other : ℕ → List ℕ) (named : (m n : ℕ) → S m n → text m ≡ other n) where
  mutual
    pub term_before-same : {t u : Term} {rest more : List ℕ} → SameTerm S t u → rest ≡ more → term_before (plain_leaves text) t rest ≡ term_before (plain_leaves other) u more
    term_before-same (same_eigen n) e = ap (λ w. 36 ∷ (decimal n ++ w)) e
    term_before-same (same_bound k) e = ap (λ w. (35 ∷ decimal k) ++ w) e
    term_before-same (same_variable v) e = ap (λ w. (86 ∷ decimal v) ++ w) e
    term_before-same (same_app {f = f} {g = g} s hs) e = ap₂ (λ x y. x ++ y) (named f g s) (args_before-same hs e)

    pub args_before-same : {ts us : Args} {rest more : List ℕ} → SameArgs S ts us → rest ≡ more → args_before (plain_leaves text) ts rest ≡ args_before (plain_leaves other) us more
    args_before-same same_no_args e = e
    args_before-same (same_arg h hs) e = ap (λ w. 40 ∷ w) (term_before-same h (more_before-same hs e))

    more_before-same : {ts us : Args} {rest more : List ℕ} → SameArgs S ts us → rest ≡ more → more_before (plain_leaves text) ts rest ≡ more_before (plain_leaves other) us more
    more_before-same same_no_args e = ap (λ w. 41 ∷ w) e
    more_before-same (same_arg h hs) e = ap (λ w. 44 ∷ w) (term_before-same h (more_before-same hs e))

module _ (S : ℕ → ℕ → Type 0) (n : ℕ) where
  -- where each number below n is related to itself
  module _ (self : (f : ℕ) → f < n → S f f) where
    mutual
      pub term_itself : (t : Term) → HasNamesBelow n t → SameTerm S t t
      term_itself (eigen k) h = same_eigen k
      term_itself (bound k) h = same_bound k
      term_itself (variable k) h = same_variable k
      term_itself (app f ts) h = same_app (self f h.0) (args_itself ts h.1)

      pub args_itself : (ts : Args) → HaveNamesBelow n ts → SameArgs S ts ts
      args_itself no_args h = same_no_args
      args_itself (arg t ts) h = same_arg (term_itself t h.0) (args_itself ts h.1)

  -- where what is related to any number is below n
  module _ (below : (f g : ℕ) → S f g → f < n) where
    mutual
      pub term_named : {t u : Term} → SameTerm S t u → HasNamesBelow n t
      term_named (same_eigen k) = tt
      term_named (same_bound k) = tt
      term_named (same_variable k) = tt
      term_named (same_app {f = f} {g = g} s hs) = (below f g s, args_named hs)

      pub args_named : {ts us : Args} → SameArgs S ts us → HaveNamesBelow n ts
      args_named same_no_args = tt
      args_named (same_arg h hs) = (term_named h, args_named hs)
