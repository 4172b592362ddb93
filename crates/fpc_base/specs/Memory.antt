-- Sources and sinks in memory: what contracts see of them.
use Rattle.std.specs.Prelude.{ℕ, min, Bool, true, false, if◌then◌else◌, nat_eq, nat_le, List, [], ◌∷◌, length, map, slice_index_or, Option, Some, None, String, string_bytes, Vec}
use Rattle.std.specs.declared.alloc.Global.{Global}
use Rattle.std.specs.List.{list_any}
use Rattle.std.specs.Str.{bytes_eq}
use Rattle.fpc_base.specs.Outside.{Content, untold, missing, holds, next_count}

-- The calls so far and the faults so far, the numbers of the calls that fail, and the most bytes that one call moves.
pub record Plan : Type 0 where
  pub calls : ℕ
  pub faults : ℕ
  pub failing : List ℕ
  pub piece : ℕ

abbrev pub first_plan : List ℕ → ℕ → Plan
first_plan failing piece = record { calls = 0; faults = 0; failing = failing; piece = piece }

-- the next call is one of those that fail
abbrev pub fails_next : Plan → Bool
fails_next p = list_any (λ k. nat_eq k p.calls) p.failing

-- after a call that goes well, and after one that fails
abbrev pub after_call : Plan → Plan
after_call p = record p { calls = next_count p.calls }

abbrev pub after_fault : Plan → Plan
after_fault p = record p { calls = next_count p.calls; faults = next_count p.faults }

-- a source in memory: the bytes left, and its plan
pub record Stream : Type 0 where
  pub left : List ℕ
  pub plan : Plan

-- a file's name and bytes
pub record NamedFile : Type 0 where
  pub name : List ℕ
  pub bytes : List ℕ

-- files in memory: all of them, what is left of the one that was opened, and their plan
pub record Folder : Type 0 where
  pub files : List NamedFile
  pub left : List ℕ
  pub plan : Plan

-- what a folder tells of a name: the first file of that name counts
abbrev pub content_in : List NamedFile → List ℕ → Content
content_in [] name = missing
content_in (f ∷ fs) name = if bytes_eq f.name name then holds f.bytes else content_in fs name

-- whether there is a file of that content
abbrev pub is_held : Content → Bool
is_held untold = false
is_held missing = false
is_held (holds bytes) = true

-- names and bytes as the program has them
abbrev pub named_files : List (String Global × Vec ℕ Global) → List NamedFile
named_files = map (λ f. record { name = string_bytes f.0; bytes = f.1.items })

-- the bytes of the file that is open, and none where no file is
abbrev pub open_bytes : List NamedFile → Option ℕ → List ℕ
open_bytes files None = []
open_bytes files (Some i) = (slice_index_or files i (record { name = []; bytes = [] })).bytes

-- a folder in which a call opened what has that content, where there is such a file
abbrev pub after_open : Folder → Content → Folder
after_open folder untold = record folder { plan = after_call folder.plan }
after_open folder missing = record folder { plan = after_call folder.plan }
after_open folder (holds bytes) = record folder { left = bytes; plan = after_call folder.plan }

-- a sink in memory: the bytes taken, the room for all of them, and its plan
pub record Target : Type 0 where
  pub taken : List ℕ
  pub room : ℕ
  pub plan : Plan

-- whether a sink has no room left
abbrev pub is_full : Target → Bool
is_full t = nat_le t.room (length t.taken)

-- how many bytes a call moves: as many as the piece, the buffer, and the bytes left or the room left allow
abbrev pub moved : ℕ → ℕ → ℕ → ℕ
moved piece buffer available = min piece (min buffer available)
