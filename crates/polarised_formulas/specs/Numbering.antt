-- Numberings of all texts, and texts for all numbers, that agree with a table of names.
use Rattle.std.specs.Prelude.{ℕ, zero, suc, ◌+◌, ◌-◌, ◌*◌, ◌/◌, ◌%◌, if◌then◌else◌, nat_lt, List, [], ◌∷◌}
use Rattle.std.specs.Str.{bytes_eq}
use Rattle.fpc_terms.specs.Text.{name_in}

-- a number made of bytes
abbrev pub code : List ℕ → ℕ
code [] = 0
code (b ∷ bs) = suc (b + 256 * code bs)

-- the bytes of such a number, at most so many of them
abbrev pub decode : ℕ → ℕ → List ℕ
decode zero n = []
decode (suc most) zero = []
decode (suc most) (suc n) = n % 256 ∷ decode most (n / 256)

-- the place of the text in a table that goes on from a place, or for other texts a number from the least one on
abbrev pub number_from : ℕ → ℕ → List (List ℕ) → List ℕ → ℕ
number_from least place [] w = least + code w
number_from least place (t ∷ ts) w = if bytes_eq t w then place else number_from least (suc place) ts w

-- the numbering of a table, where other texts have numbers from the least one on
abbrev pub number_in : ℕ → List (List ℕ) → List ℕ → ℕ
number_in least names w = number_from least 0 names w

-- the text with a number by that numbering
abbrev pub text_in : ℕ → List (List ℕ) → ℕ → List ℕ
text_in least names k = if nat_lt k least then name_in names k else decode (k - least) (k - least)
