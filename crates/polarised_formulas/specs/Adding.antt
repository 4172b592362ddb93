-- Which names come into a table as bytes are read.
use Rattle.std.specs.Prelude.{◌≡◌, ℕ, List, [], ◌++◌}

-- the bytes end with the text
abbrev pub EndsWith : List ℕ → List ℕ → Type 0
EndsWith bytes text = (front : List ℕ) × (front ++ text ≡ bytes)

-- the text ends behind some of the bytes, which come behind others, or right in front of them
abbrev pub IsPartIn : List ℕ → List ℕ → List ℕ → Type 0
IsPartIn before bytes text = (taken rest : List ℕ) × ((taken ++ rest ≡ bytes) × EndsWith (before ++ taken) text)

-- the text is a part of the bytes
abbrev pub IsPartOf : List ℕ → List ℕ → Type 0
IsPartOf bytes text = IsPartIn [] bytes text
