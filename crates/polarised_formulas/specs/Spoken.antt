-- Items that are tokens, without their places.
use Rattle.std.specs.Prelude.{◌≡◌, List, [], ◌∷◌}
use Rattle.fpc_base.specs.Lexeme.{Lexeme, Item, says}

-- the items say these tokens, one after another, and none of them is a fault
abbrev pub Says : List Lexeme → List Item → Type 0
Says [] [] = Unit {0}
Says (c ∷ cs) (says d at ∷ items) = (c ≡ d) × Says cs items
Says _ _ = ⊥
