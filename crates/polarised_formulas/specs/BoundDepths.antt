-- At which depth each variable is bound innermost.
use Rattle.std.specs.Prelude.{◌≡◌, ℕ, ◌<◌, ◌^◌, Option, Some, None, List, [], ◌∷◌, length, if◌then◌else◌}
use Rattle.std.specs.Str.{bytes_eq}
use Rattle.std.specs.BTreeMap.{BTreeMap, get_by}
use Rattle.std.specs.Cmp.Lexicographic.{slice_cmp}
use Rattle.std.specs.Ordering.{nat_cmp}
use Rattle.std.specs.Borrow.{Bor}

-- how many texts stand outside of the innermost place of a text, if it is one of them
abbrev pub depth_in : List (List ℕ) → List ℕ → Option ℕ
depth_in [] text = None
depth_in (x ∷ xs) text = if bytes_eq x text then Some (length xs) else depth_in xs text

-- for each of the texts its depth among those outside of it
abbrev pub depths_outside : List (List ℕ) → List (Option ℕ)
depths_outside [] = []
depths_outside (x ∷ xs) = depth_in xs x ∷ depths_outside xs

-- the depth that the map has for a text
abbrev pub depth_of : BTreeMap (Bor (List ℕ)) ℕ → List ℕ → Option ℕ
depth_of depths text = get_by (λ k. slice_cmp nat_cmp text k.now) depths

-- what ties a map to the texts, and to the depth that each of them covers
pub record Depths (depths : BTreeMap (Bor (List ℕ)) ℕ) (texts : List (List ℕ)) (covered : List (Option ℕ)) : Type 0 where
  -- the map has for each text its depth, and nothing else
  pub innermost : (text : List ℕ) → depth_of depths text ≡ depth_in texts text
  -- a text covers the depth that it had before it was bound
  pub outside : covered ≡ depths_outside texts
  pub few : length texts < 2 ^ 32
