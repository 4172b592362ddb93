-- What contracts see of an adapter: what it adapts, and the count of its failures.
use Rattle.std.specs.Prelude.{ℕ, List, [], Option, Some, None}

-- something of the standard library's that is read or written, and how often that has failed
pub record Adapter (T : Type 0) : Type 0 where
  pub adapted : T
  pub faults : ℕ

-- the bytes that reads of an open file will give, where they are known; with no file open there are none
abbrev pub remaining_in : {T : Type 0} → (T → Option (List ℕ)) → Option T → Option (List ℕ)
remaining_in remaining None = Some []
remaining_in remaining (Some file) = remaining file
