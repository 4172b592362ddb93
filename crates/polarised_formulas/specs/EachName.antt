-- What holds of each name of a written formula.
use Rattle.std.specs.Prelude.{ℕ, List}
use Rattle.fpc_terms.specs.Written.{WrittenTerm, WrittenArgs, variable_word, application, no_words, words}
use Rattle.polarised_formulas.specs.Written.{WrittenFormula, true_unit, false_unit, literal, pair, bind}

abbrev mutual
  -- each name of the written term is as the predicate says
  pub EachName : (List ℕ → Type 0) → WrittenTerm → Type 0
  EachName P (variable_word x) = Unit {0}
  EachName P (application x args) = P x × EachNameOf P args

  pub EachNameOf : (List ℕ → Type 0) → WrittenArgs → Type 0
  EachNameOf P no_words = Unit {0}
  EachNameOf P (words t ts) = EachName P t × EachNameOf P ts

-- each name of the written formula is as the predicate says
abbrev pub EachNameIn : (List ℕ → Type 0) → WrittenFormula → Type 0
EachNameIn P (true_unit p) = Unit {0}
EachNameIn P (false_unit p) = Unit {0}
EachNameIn P (literal positive x args) = P x × EachNameOf P args
EachNameIn P (pair j a b) = EachNameIn P a × EachNameIn P b
EachNameIn P (bind q x a) = EachNameIn P a
