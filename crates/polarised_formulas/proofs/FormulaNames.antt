-- A formula that is read has its names in the table.
use Rattle.std.specs.Prelude.{◌≡◌, ℕ, Bool, true, false, if◌then◌else◌, List, [], ◌∷◌, length}
use Rattle.std.proofs.Common.{sym, ◌∙◌}
use Rattle.fpc_base.specs.Tokens.{is_one_of}
use Rattle.fpc_terms.specs.Name.{Agrees, AreDifferent, index_in}
use Rattle.fpc_terms.specs.Term.{Args, bound, variable}
use Rattle.fpc_terms.specs.Printing.{HasNamesBelow}
use Rattle.fpc_terms.proofs.NamesBelow.{number-below, args-below}
use Rattle.polarised_formulas.specs.declared.connective.Joiner.{Joiner}
use Rattle.polarised_formulas.specs.declared.connective.Joiner.TheVariants.{And, Or, Implies}
use Rattle.polarised_formulas.specs.declared.connective.Binder.TheVariants.{ForAll, Exists}
use Rattle.polarised_formulas.specs.Formula.{Formula, atom, for_all, exists}
use Rattle.polarised_formulas.specs.Printing.{AllNamesBelow}
use Rattle.polarised_formulas.specs.Written.{WrittenFormula, true_unit, false_unit, literal, pair, bind, formula_meant, variable_meant, joined_by}

leaf-below : (n : ℕ) (parameters scope : List (List ℕ)) (x : List ℕ) (b : Bool) → HasNamesBelow n (if b then bound (index_in scope x) else variable (index_in parameters x))
leaf-below n parameters scope x true = tt
leaf-below n parameters scope x false = tt

atom-name : (p q : Bool) (f g : ℕ) (ts us : Args) → atom p f ts ≡ atom q g us → f ≡ g
atom-name p q f g ts us e = cc

atom-args : (p q : Bool) (f g : ℕ) (ts us : Args) → atom p f ts ≡ atom q g us → ts ≡ us
atom-args p q f g ts us e = cc

joined-first : (j : Joiner) (a b c d : Formula) → joined_by j a b ≡ joined_by j c d → a ≡ c
joined-first (And p) a b c d e = cc
joined-first (Or p) a b c d e = cc
joined-first Implies a b c d e = cc

joined-second : (j : Joiner) (a b c d : Formula) → joined_by j a b ≡ joined_by j c d → b ≡ d
joined-second (And p) a b c d e = cc
joined-second (Or p) a b c d e = cc
joined-second Implies a b c d e = cc

joined-below : (n : ℕ) (j : Joiner) (a b : Formula) → AllNamesBelow n a → AllNamesBelow n b → AllNamesBelow n (joined_by j a b)
joined-below n (And p) a b h k = (h, k)
joined-below n (Or p) a b h k = (h, k)
joined-below n Implies a b h k = (h, k)

for_all-body : (a b : Formula) → for_all a ≡ for_all b → a ≡ b
for_all-body a b e = cc

exists-body : (a b : Formula) → exists a ≡ exists b → a ≡ b
exists-body a b e = cc

module _ (names parameters : List (List ℕ)) (d : AreDifferent names) where
  formula-below : (scope : List (List ℕ)) (w : WrittenFormula)
      → ((number : List ℕ → ℕ) → Agrees number names → formula_meant number parameters scope w ≡ formula_meant (index_in names) parameters scope w)
      → AllNamesBelow (length names) (formula_meant (index_in names) parameters scope w)
  formula-below scope (true_unit p) h = tt
  formula-below scope (false_unit p) h = tt
  formula-below scope (literal positive x ts) h = (
    number-below names x d (λ number a. atom-name _ _ (number x) (index_in names x) _ _ (h number a)),
    args-below names d (variable_meant parameters scope) (λ y. leaf-below (length names) parameters scope y (is_one_of scope y)) ts
        (λ number a. atom-args _ _ (number x) (index_in names x) _ _ (h number a)),
  )
  formula-below scope (pair j a b) h =
      joined-below (length names) j _ _
      (formula-below scope a (λ number e. joined-first j _ _ _ _ (h number e)))
      (formula-below scope b (λ number e. joined-second j _ _ _ _ (h number e)))
  formula-below scope (bind ForAll x a) h = formula-below (x ∷ scope) a (λ number e. for_all-body _ _ (h number e))
  formula-below scope (bind Exists x a) h = formula-below (x ∷ scope) a (λ number e. exists-body _ _ (h number e))

  pub told-names : (f : Formula) (w : WrittenFormula) → Agrees (index_in names) names → ((number : List ℕ → ℕ) → Agrees number names → f ≡ formula_meant number parameters [] w)
      → AllNamesBelow (length names) f
  told-names f w own h = rw (h (index_in names) own) (formula-below [] w (λ number a. sym (h number a) ∙ h (index_in names) own))
