-- Lists of references that share their last items.
use Rattle.std.specs.Prelude.{◌≡◌, ℕ, suc, List, [], length, drop, Option, unwrap_or, option_map}
use Rattle.std.specs.declared.alloc.Global.{Global}
use Rattle.std.specs.declared.rc.Rc.{Rc}

-- the list that begins with a link, or the empty one
abbrev pub list_from : {R : Type 0} → Option (Rc (List R) Global) → List R
list_from first = unwrap_or (option_map (λ link. link.value) first) []

-- the last items of a list, from some place on
abbrev pub IsTail : {R : Type 0} → List R → List R → Type 0
IsTail tail list = (n : ℕ) × (tail ≡ drop n list)

-- a link before the outer list tells the length that it makes, and jumps to a tail of that list
abbrev pub IsLink : {R : Type 0} → ℕ → List R → List R → Type 0
IsLink len outer jump = (len ≡ suc (length outer)) × IsTail jump outer
