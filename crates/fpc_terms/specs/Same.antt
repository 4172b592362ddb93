-- Terms and lists that are the same but for the numbers of names, or whatever else is related.
use Rattle.std.specs.Prelude.{ℕ, List, [], ◌∷◌, Option, Some, None}
use Rattle.fpc_terms.specs.Term.{Term, Args, eigen, bound, variable, app, no_args, arg}

mutual
  -- the two terms are the same but for their names, which are related
  pub data SameTerm (S : ℕ → ℕ → Type 0) : Term → Term → Type 0 where
    same_eigen : (k : ℕ) → SameTerm S (eigen k) (eigen k)
    same_bound : (k : ℕ) → SameTerm S (bound k) (bound k)
    same_variable : (k : ℕ) → SameTerm S (variable k) (variable k)
    same_app : {f g : ℕ} {ts us : Args} → S f g → SameArgs S ts us → SameTerm S (app f ts) (app g us)

  pub data SameArgs (S : ℕ → ℕ → Type 0) : Args → Args → Type 0 where
    same_no_args : SameArgs S no_args no_args
    same_arg : {t u : Term} {ts us : Args} → SameTerm S t u → SameArgs S ts us → SameArgs S (arg t ts) (arg u us)

-- the two lists have related items, place by place
pub data SameList {X : Type 0} (R : X → X → Type 0) : List X → List X → Type 0 where
  same_nil : SameList R [] []
  same_cons : {x y : X} {xs ys : List X} → R x y → SameList R xs ys → SameList R (x ∷ xs) (y ∷ ys)

-- two related things, or none on both sides
pub data SameOption {X : Type 0} (R : X → X → Type 0) : Option X → Option X → Type 0 where
  same_none : SameOption R None None
  same_some : {x y : X} → R x y → SameOption R (Some x) (Some y)
