-- Places in a list that is told from its end.
use Rattle.std.specs.Prelude.{◌≡◌, ℕ, List, ◌∷◌, ◌++◌, length}

-- the item stands in the list with so many behind it
abbrev pub StandsAt : {X : Type 0} → List X → ℕ → X → Type 0
StandsAt {X} xs n x = (front back : List X) × (xs ≡ front ++ x ∷ back) × (length back ≡ n)

-- the last items of a list, as many as said
abbrev pub IsLowest : {X : Type 0} → List X → ℕ → List X → Type 0
IsLowest {X} xs n ys = (front : List X) × (xs ≡ front ++ ys) × (length ys ≡ n)

-- the item stands in the list in front of its last ones, so many, which are these
abbrev pub IsBefore : {X : Type 0} → List X → ℕ → X → List X → Type 0
IsBefore {X} xs n x ys = (front : List X) × (xs ≡ front ++ x ∷ ys) × (length ys ≡ n)
