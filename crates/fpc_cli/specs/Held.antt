-- What may be in a file, and how much of it was taken.
use Rattle.std.specs.Prelude.{◌≡◌, ℕ, ◌<◌, List, [], length, Option, Some, None}
use Rattle.fpc_base.specs.Outside.{Content, untold, missing, holds, IsAtStartOf, TakesAtMost}

-- what is told of a file doesn't speak against these bytes
abbrev pub MayHold : Content → List ℕ → Type 0
MayHold untold bytes = Unit {0}
MayHold missing bytes = ⊥
MayHold (holds b) bytes = b ≡ bytes

-- what is told of a file doesn't speak against more bytes than a source file may have
abbrev pub MayBeTooLarge : Content → Type 0
MayBeTooLarge untold = Unit {0}
MayBeTooLarge missing = ⊥
MayBeTooLarge (holds b) = 16777216 < length b

-- at most so many bytes of the file were taken, from its start, and so many are left
abbrev pub IsTakenOf : ℕ → Content → Option (List ℕ) → Type 0
IsTakenOf most content left =
    (before : Option (List ℕ)) × (IsAtStartOf content before × TakesAtMost most before left)

-- the bytes that are left of a file, where it tells them
abbrev pub left_of : Option (List ℕ) → List ℕ
left_of None = []
left_of (Some left) = left

-- it is told of a file what it holds, or that there is none
abbrev pub IsKnown : Content → Type 0
IsKnown untold = ⊥
IsKnown missing = Unit {0}
IsKnown (holds bytes) = Unit {0}
