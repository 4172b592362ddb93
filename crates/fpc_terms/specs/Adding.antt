-- Which names come into a table as tokens are taken.
use Rattle.std.specs.Prelude.{◌≡◌, ℕ, List, ◌++◌, Some, slice_get, ◌⊎◌}
use Rattle.fpc_base.specs.Lexeme.{Lexeme, Item, a_name, says}
use Rattle.fpc_terms.specs.Name.{HasName}

-- each name of the new table is one of the old table, or a text of this kind
abbrev pub AddsOnly : (List ℕ → Type 0) → List (List ℕ) → List (List ℕ) → Type 0
AddsOnly IsOfKind old new = (text : List ℕ) → HasName new text → HasName old text ⊎ IsOfKind text

-- it is the text
abbrev pub IsText : List ℕ → List ℕ → Type 0
IsText text other = other ≡ text

-- the token is a name with this text
abbrev pub IsNameOf : Lexeme → List ℕ → Type 0
IsNameOf c text = c ≡ a_name text

-- one of the items is a name with this text
abbrev pub IsNameAmong : List Item → List ℕ → Type 0
IsNameAmong items text = (k : ℕ) × ((at : ℕ) × (slice_get items k ≡ Some (says (a_name text) at)))

-- Items were taken from the front, and the names that came stand among them.
pub record AddsTaken (items rest : List Item) (old new : List (List ℕ)) : Type 0 where
  pub taken : List Item
  pub front : items ≡ taken ++ rest
  pub only : AddsOnly (IsNameAmong taken) old new
