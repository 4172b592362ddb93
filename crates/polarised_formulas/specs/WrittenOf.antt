-- The written formula that the text of a problem spells.
use Rattle.std.specs.Prelude.{ℕ, zero, suc, ◌-◌, List, [], ◌∷◌}
use Rattle.std.specs.Fmt.{decimal}
use Rattle.fpc_base.specs.declared.tokens.TokenKind.TheVariants.{Name}
use Rattle.fpc_base.specs.Tokens.{HasForm}
use Rattle.fpc_terms.specs.Term.{Term, Args, eigen, bound, variable, app, no_args, arg}
use Rattle.fpc_terms.specs.Text.{name_in}
use Rattle.fpc_terms.specs.Written.{WrittenTerm, WrittenArgs, variable_word, application, no_words, words}
use Rattle.polarised_formulas.specs.Formula.{Formula, truth, falsity, atom, conj, disj, implies, for_all, exists}
use Rattle.polarised_formulas.specs.declared.connective.Joiner.TheVariants.{And, Or, Implies}
use Rattle.polarised_formulas.specs.declared.connective.Binder.TheVariants.{ForAll, Exists}
use Rattle.polarised_formulas.specs.Written.{WrittenFormula, true_unit, false_unit, literal, pair, bind}

-- the variable that a quantifier under j others binds
abbrev pub bound_text : ℕ → List ℕ
bound_text j = 88 ∷ decimal j

abbrev mutual
  -- a term under d quantifiers, with the names of a table
  pub written_term : List (List ℕ) → ℕ → Term → WrittenTerm
  written_term names d (eigen n) = application (36 ∷ decimal n) no_words
  written_term names d (bound k) = variable_word (bound_text (d - 1 - k))
  written_term names d (variable v) = variable_word (80 ∷ decimal v)
  written_term names d (app f ts) = application (name_in names f) (written_args names d ts)

  pub written_args : List (List ℕ) → ℕ → Args → WrittenArgs
  written_args names d no_args = no_words
  written_args names d (arg t ts) = words (written_term names d t) (written_args names d ts)

-- a formula under d quantifiers, with the names of a table
abbrev pub written_of : List (List ℕ) → ℕ → Formula → WrittenFormula
written_of names d (truth p) = true_unit p
written_of names d (falsity p) = false_unit p
written_of names d (atom positive f ts) = literal positive (name_in names f) (written_args names d ts)
written_of names d (conj p a b) = pair (And p) (written_of names d a) (written_of names d b)
written_of names d (disj p a b) = pair (Or p) (written_of names d a) (written_of names d b)
written_of names d (implies a b) = pair Implies (written_of names d a) (written_of names d b)
written_of names d (for_all a) = bind ForAll (bound_text d) (written_of names (suc d) a)
written_of names d (exists a) = bind Exists (bound_text d) (written_of names (suc d) a)

-- the bound variables under d quantifiers, the innermost first
abbrev pub bound_scope : ℕ → List (List ℕ)
bound_scope zero = []
bound_scope (suc d) = bound_text d ∷ bound_scope d

abbrev mutual
  -- each name of the term is the number of a name in the table
  pub IsNamed : List (List ℕ) → Term → Type 0
  IsNamed names (eigen n) = Unit {0}
  IsNamed names (bound k) = Unit {0}
  IsNamed names (variable v) = Unit {0}
  IsNamed names (app f ts) = HasForm Name (name_in names f) × AreNamed names ts

  pub AreNamed : List (List ℕ) → Args → Type 0
  AreNamed names no_args = Unit {0}
  AreNamed names (arg t ts) = IsNamed names t × AreNamed names ts

-- each name of the formula is the number of a name in the table
abbrev pub HasNames : List (List ℕ) → Formula → Type 0
HasNames names (truth p) = Unit {0}
HasNames names (falsity p) = Unit {0}
HasNames names (atom positive f ts) = HasForm Name (name_in names f) × AreNamed names ts
HasNames names (conj p a b) = HasNames names a × HasNames names b
HasNames names (disj p a b) = HasNames names a × HasNames names b
HasNames names (implies a b) = HasNames names a × HasNames names b
HasNames names (for_all a) = HasNames names a
HasNames names (exists a) = HasNames names a
