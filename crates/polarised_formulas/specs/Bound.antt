-- The variables that are bound around a place, the innermost first.
use Rattle.std.specs.Prelude.{ℕ, List, [], ◌∷◌, length, if◌then◌else◌, nat_le}

-- the outermost n of some texts, the outermost last
abbrev pub outermost : ℕ → List (List ℕ) → List (List ℕ)
outermost n [] = []
outermost n (x ∷ xs) = if nat_le (length (x ∷ xs)) n then x ∷ xs else outermost n xs
