-- The parts of a formula, as total functions.
use Rattle.polarised_formulas.specs.Formula.{Formula, conj, disj, implies, for_all, exists}

-- the first of a formula's two parts; itself where there are none
abbrev pub left_of : Formula → Formula
left_of (conj p a b) = a
left_of (disj p a b) = a
left_of (implies a b) = a
left_of f = f

-- the second of a formula's two parts; itself where there are none
abbrev pub right_of : Formula → Formula
right_of (conj p a b) = b
right_of (disj p a b) = b
right_of (implies a b) = b
right_of f = f

-- the body of a quantified formula; itself where there is none
abbrev pub body_of : Formula → Formula
body_of (for_all a) = a
body_of (exists a) = a
body_of f = f

-- the formula has two parts
abbrev pub IsPair : Formula → Type 0
IsPair (conj p a b) = Unit {0}
IsPair (disj p a b) = Unit {0}
IsPair (implies a b) = Unit {0}
IsPair _ = ⊥

-- the formula has a body
abbrev pub IsQuantified : Formula → Type 0
IsQuantified (for_all a) = Unit {0}
IsQuantified (exists a) = Unit {0}
IsQuantified _ = ⊥
