-- What sources and sinks are told to do: counts of faults, bytes that move, contents of files.
use Rattle.std.specs.Prelude.{◌≡◌, ℕ, ◌+◌, ◌^◌, ◌-◌, ◌≤◌, ◌<◌, min, List, [], ◌∷◌, ◌++◌, length, Option, Some, None}

-- what is told of a file: nothing, that there is none, or its bytes
pub data Content : Type 0 where
  untold : Content
  missing : Content
  holds : (bytes : List ℕ) → Content

-- What has come of a source or of files: the count of failures, what is left of the one that is
-- open, the contents of files by name, the names of those that were opened so far, each where it is
-- told, and a bound on the number of calls so far.
pub record Outside : Type 0 where
  pub faults : ℕ
  pub left : Option (List ℕ)
  pub content : List ℕ → Content
  pub opened : Option (List (List ℕ))
  pub calls : ℕ

-- What has come of a sink: the count of failures, the bytes that it took so far, where they are
-- told, and a bound on the number of calls so far.
pub record Output : Type 0 where
  pub faults : ℕ
  pub taken : Option (List ℕ)
  pub calls : ℕ

-- the last value of a count, at which it stands still
abbrev pub last_count : ℕ
last_count = 2 ^ 64 - 1

-- a count rose, or stands at its last value
abbrev pub Rose : ℕ → ℕ → Type 0
Rose before now = min (before + 1) last_count ≤ now

-- the count of calls after one more
abbrev pub next_count : ℕ → ℕ
next_count n = min (n + 1) last_count

-- the piece was taken from the front of what was left, where that is told; what isn't told stays so
abbrev pub TakesFront : Option (List ℕ) → List ℕ → Option (List ℕ) → Type 0
TakesFront None piece now = now ≡ None
TakesFront (Some before) piece None = ⊥
TakesFront (Some before) piece (Some now) = before ≡ piece ++ now

-- some piece of at most so many bytes was taken from the front
abbrev pub TakesAtMost : ℕ → Option (List ℕ) → Option (List ℕ) → Type 0
TakesAtMost most before now = (piece : List ℕ) × (length piece ≤ most) × TakesFront before piece now

-- nothing is left, where that is told
abbrev pub IsAtEnd : Option (List ℕ) → Type 0
IsAtEnd None = Unit {0}
IsAtEnd (Some left) = left ≡ []

-- more than so many bytes are left, where that is told
abbrev pub HasMoreThan : ℕ → Option (List ℕ) → Type 0
HasMoreThan limit None = Unit {0}
HasMoreThan limit (Some left) = limit < length left

-- what is left now are the bytes of the file, where its content is told
abbrev pub IsAtStartOf : Content → Option (List ℕ) → Type 0
IsAtStartOf untold left = Unit {0}
IsAtStartOf missing left = ⊥
IsAtStartOf (holds bytes) left = left ≡ Some bytes

-- a name was added to those of the files that were opened, where these are told; what isn't told stays so
abbrev pub Opens : Option (List (List ℕ)) → List ℕ → Option (List (List ℕ)) → Type 0
Opens None name now = now ≡ None
Opens (Some before) name None = ⊥
Opens (Some before) name (Some now) = now ≡ before ++ name ∷ []

-- the piece was added to what a sink took, where that is told; what isn't told stays so
abbrev pub Adds : Option (List ℕ) → List ℕ → Option (List ℕ) → Type 0
Adds None piece now = now ≡ None
Adds (Some before) piece None = ⊥
Adds (Some before) piece (Some now) = now ≡ before ++ piece

-- a piece that the bytes begin with was added
abbrev pub AddsPrefix : Option (List ℕ) → List ℕ → Option (List ℕ) → Type 0
AddsPrefix before bytes now = (piece : List ℕ) × ((rest : List ℕ) × (bytes ≡ piece ++ rest)) × Adds before piece now
