-- Formulas that are the same but for the numbers of their names.
use Rattle.std.proofs.Common.{◌≡◌, ℕ, suc, true, not, List, ◌∷◌, refl}
use Rattle.fpc_base.specs.Tokens.{is_one_of}
use Rattle.fpc_terms.specs.Term.{Term}
use Rattle.fpc_terms.specs.Written.{WrittenTerm, WrittenArgs, variable_word, application, no_words, words, term_meant, args_meant}
use Rattle.polarised_formulas.specs.declared.connective.Joiner.{Joiner}
use Rattle.polarised_formulas.specs.declared.connective.Joiner.TheVariants.{And, Or, Implies}
use Rattle.polarised_formulas.specs.declared.connective.Binder.{Binder}
use Rattle.polarised_formulas.specs.declared.connective.Binder.TheVariants.{ForAll, Exists}
use Rattle.polarised_formulas.specs.Formula.{Formula, polarity_of, other_polarity, dual_of, open_at}
use Rattle.polarised_formulas.specs.Written.{WrittenFormula, true_unit, false_unit, literal, pair, bind, index_in, variable_meant, joined_by, bound_by, formula_meant}
use Rattle.polarised_formulas.specs.PlainForm.{begins_name}
use Rattle.polarised_formulas.specs.EachName.{EachName, EachNameOf, EachNameIn}
use Rattle.fpc_terms.specs.Same.{SameTerm, SameArgs, same_bound, same_variable, same_app, same_no_args, same_arg}
use Rattle.fpc_terms.proofs.SameTerms.{if-same, open_args-same}
use Rattle.polarised_formulas.specs.Same.{SameFormula, same_truth, same_falsity, same_atom, same_conj, same_disj, same_implies, same_for_all, same_exists}

module _ (number renumber : List ℕ → ℕ) where
  -- the two numbers are those of one name, which begins as one, by the two numberings
  abbrev pub SameName : ℕ → ℕ → Type 0
  SameName f g = (x : List ℕ) × ((begins_name x ≡ true) × ((number x ≡ f) × (renumber x ≡ g)))

  pub same-name : (x : List ℕ) → begins_name x ≡ true → SameName (number x) (renumber x)
  same-name x h = (x, (h, (refl, refl)))

  mutual
    term_meant-same : (leaf : List ℕ → Term) → ((x : List ℕ) → SameTerm SameName (leaf x) (leaf x)) → (w : WrittenTerm) → EachName (λ x. begins_name x ≡ true) w
        → SameTerm SameName (term_meant number leaf w) (term_meant renumber leaf w)
    term_meant-same leaf each (variable_word x) h = each x
    term_meant-same leaf each (application x args) h = same_app (same-name x h.0) (args_meant-same leaf each args h.1)

    args_meant-same : (leaf : List ℕ → Term) → ((x : List ℕ) → SameTerm SameName (leaf x) (leaf x)) → (ws : WrittenArgs) → EachNameOf (λ x. begins_name x ≡ true) ws
        → SameArgs SameName (args_meant number leaf ws) (args_meant renumber leaf ws)
    args_meant-same leaf each no_words h = same_no_args
    args_meant-same leaf each (words t ts) h = same_arg (term_meant-same leaf each t h.0) (args_meant-same leaf each ts h.1)

  leaf-same : (parameters scope : List (List ℕ)) (x : List ℕ) → SameTerm SameName (variable_meant parameters scope x) (variable_meant parameters scope x)
  leaf-same parameters scope x = if-same (SameTerm SameName) (is_one_of scope x) (λ _. same_bound (index_in scope x)) (λ _. same_variable (index_in parameters x))

  joined-same : (j : Joiner) {a b c d : Formula} → SameFormula SameName a c → SameFormula SameName b d → SameFormula SameName (joined_by j a b) (joined_by j c d)
  joined-same (And p) h k = same_conj p h k
  joined-same (Or p) h k = same_disj p h k
  joined-same Implies h k = same_implies h k

  bound-same : (q : Binder) {a c : Formula} → SameFormula SameName a c → SameFormula SameName (bound_by q a) (bound_by q c)
  bound-same ForAll h = same_for_all h
  bound-same Exists h = same_exists h

  -- a written formula stands for the same by both, but for the numbers
  pub formula_meant-same : (parameters scope : List (List ℕ)) (w : WrittenFormula) → EachNameIn (λ x. begins_name x ≡ true) w
      → SameFormula SameName (formula_meant number parameters scope w) (formula_meant renumber parameters scope w)
  formula_meant-same parameters scope (true_unit p) h = same_truth p
  formula_meant-same parameters scope (false_unit p) h = same_falsity p
  formula_meant-same parameters scope (literal positive x args) h = same_atom positive (same-name x h.0) (args_meant-same (variable_meant parameters scope) (leaf-same parameters scope) args h.1)
  formula_meant-same parameters scope (pair j a b) h = joined-same j (formula_meant-same parameters scope a h.0) (formula_meant-same parameters scope b h.1)
  formula_meant-same parameters scope (bind q x a) h = bound-same q (formula_meant-same parameters (x ∷ scope) a h)

module _ (S : ℕ → ℕ → Type 0) where
  pub polarity_of-same : {a b : Formula} → SameFormula S a b → polarity_of a ≡ polarity_of b
  polarity_of-same (same_truth p) = refl
  polarity_of-same (same_falsity p) = refl
  polarity_of-same (same_atom positive s hs) = refl
  polarity_of-same (same_conj p h k) = refl
  polarity_of-same (same_disj p h k) = refl
  polarity_of-same (same_implies h k) = refl
  polarity_of-same (same_for_all h) = refl
  polarity_of-same (same_exists h) = refl

  pub dual_of-same : {a b : Formula} → SameFormula S a b → SameFormula S (dual_of a) (dual_of b)
  dual_of-same (same_truth p) = same_falsity (other_polarity p)
  dual_of-same (same_falsity p) = same_truth (other_polarity p)
  dual_of-same (same_atom positive s hs) = same_atom (not positive) s hs
  dual_of-same (same_conj p h k) = same_disj (other_polarity p) (dual_of-same h) (dual_of-same k)
  dual_of-same (same_disj p h k) = same_conj (other_polarity p) (dual_of-same h) (dual_of-same k)
  dual_of-same (same_implies h k) = same_implies (dual_of-same h) (dual_of-same k)
  dual_of-same (same_for_all h) = same_exists (dual_of-same h)
  dual_of-same (same_exists h) = same_for_all (dual_of-same h)

  pub open_at-same : (k : ℕ) {s r : Term} {a b : Formula} → SameTerm S s r → SameFormula S a b → SameFormula S (open_at k s a) (open_at k r b)
  open_at-same k t (same_truth p) = same_truth p
  open_at-same k t (same_falsity p) = same_falsity p
  open_at-same k t (same_atom positive s hs) = same_atom positive s (open_args-same S k t hs)
  open_at-same k t (same_conj p h i) = same_conj p (open_at-same k t h) (open_at-same k t i)
  open_at-same k t (same_disj p h i) = same_disj p (open_at-same k t h) (open_at-same k t i)
  open_at-same k t (same_implies h i) = same_implies (open_at-same k t h) (open_at-same k t i)
  open_at-same k t (same_for_all h) = same_for_all (open_at-same (suc k) t h)
  open_at-same k t (same_exists h) = same_exists (open_at-same (suc k) t h)
