-- The text of a formula: the plain form of certificates, and the form with named variables of problems.
use Rattle.std.specs.Prelude.{ℕ, suc, ◌-◌, Bool, true, false, List, [], ◌∷◌, ◌++◌, codes}
use Rattle.std.specs.Fmt.{decimal}
use Rattle.fpc_terms.specs.Text.{Leaves, args_before, name_in, plain_leaves}
use Rattle.polarised_formulas.specs.declared.logic.Logic.{Logic}
use Rattle.polarised_formulas.specs.declared.logic.Logic.TheVariants.{Lkf, Ljf}
use Rattle.polarised_formulas.specs.declared.logic.Polarity.{Polarity}
use Rattle.polarised_formulas.specs.declared.logic.Polarity.TheVariants.{Positive, Negative}
use Rattle.polarised_formulas.specs.Formula.{Formula, truth, falsity, atom, conj, disj, implies, for_all, exists}

-- how the leaves under d quantifiers are written, and what stands behind the word of a quantifier under d others
pub record Style : Type 0 where
  pub leaves : ℕ → Leaves
  pub binder : ℕ → List ℕ

-- what stands before the name of an atom
abbrev pub mark_text : Logic → Bool → List ℕ
mark_text Lkf true = []
mark_text Lkf false = codes "~"
mark_text Ljf true = codes "+"
mark_text Ljf false = codes "-"

-- the text of a unit that is true
abbrev pub truth_text : Polarity → List ℕ
truth_text Positive = codes "tt+"
truth_text Negative = codes "tt-"

-- the text of a unit that is false; LJF has one
abbrev pub falsity_text : Logic → Polarity → List ℕ
falsity_text Lkf Positive = codes "ff+"
falsity_text Lkf Negative = codes "ff-"
falsity_text Ljf p = codes "ff"

-- the operator of a conjunction
abbrev pub conj_text : Polarity → List ℕ
conj_text Positive = codes "&+"
conj_text Negative = codes "&-"

-- the operator of a disjunction; LJF has one
abbrev pub disj_text : Logic → Polarity → List ℕ
disj_text Lkf Positive = codes "|+"
disj_text Lkf Negative = codes "|-"
disj_text Ljf p = codes "|"

-- an operator with a blank on each side, before other bytes
abbrev pub operator_before : List ℕ → List ℕ → List ℕ
operator_before operator rest = 32 ∷ (operator ++ 32 ∷ rest)

-- the text of a formula under d quantifiers, before other bytes
abbrev pub formula_before : Style → Logic → ℕ → Formula → List ℕ → List ℕ
formula_before style logic d (truth p) rest = truth_text p ++ rest
formula_before style logic d (falsity p) rest = falsity_text logic p ++ rest
formula_before style logic d (atom positive f ts) rest = mark_text logic positive ++ ((style.leaves d).name f ++ args_before (style.leaves d) ts rest)
formula_before style logic d (conj p a b) rest = 40 ∷ formula_before style logic d a (operator_before (conj_text p) (formula_before style logic d b (41 ∷ rest)))
formula_before style logic d (disj p a b) rest = 40 ∷ formula_before style logic d a (operator_before (disj_text logic p) (formula_before style logic d b (41 ∷ rest)))
formula_before style logic d (implies a b) rest = 40 ∷ formula_before style logic d a (operator_before (codes "=>") (formula_before style logic d b (41 ∷ rest)))
formula_before style logic d (for_all a) rest = codes "all " ++ (style.binder d ++ formula_before style logic (suc d) a rest)
formula_before style logic d (exists a) rest = codes "some " ++ (style.binder d ++ formula_before style logic (suc d) a rest)

-- the plain form: quantifiers bind by position, and a bound index is `#k`
abbrev pub plain_style : (ℕ → List ℕ) → Style
plain_style name = record { leaves = λ d. plain_leaves name; binder = λ d. [] }

-- the plain form of a formula, with the names of a table
abbrev pub plain_text : List (List ℕ) → Logic → Formula → List ℕ
plain_text names logic f = formula_before (plain_style (name_in names)) logic 0 f []

-- the leaves under d quantifiers where bound variables have names: the variable of the quantifier under j others is `Xj`; a variable that no quantifier binds is `Pv`
abbrev pub named_leaves : (ℕ → List ℕ) → ℕ → Leaves
named_leaves name d = record { name = name; bound = λ k. 88 ∷ decimal (d - 1 - k); variable = λ v. 80 ∷ decimal v }

-- the form with named variables: `X0 : ` behind the outermost quantifier
abbrev pub named_style : (ℕ → List ℕ) → Style
named_style name = record { leaves = named_leaves name; binder = λ d. 88 ∷ (decimal d ++ codes " : ") }

-- the word of a logic
abbrev pub logic_text : Logic → List ℕ
logic_text Lkf = codes "lkf"
logic_text Ljf = codes "ljf"

-- the printed form of a problem: a line with the logic's word, the formula and a dot
abbrev pub problem_text : List (List ℕ) → Logic → Formula → List ℕ
problem_text names logic f = logic_text logic ++ 32 ∷ formula_before (named_style (name_in names)) logic 0 f (46 ∷ 10 ∷ [])
