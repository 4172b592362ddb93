-- What the front of some items is read as, and how it is refused, is one thing; and a refusal lies within the source.
use Rattle.std.specs.Prelude.{◌≡◌, ℕ, ◌≤◌, List, [], Option, length}
use Rattle.fpc_base.specs.declared.refusal.Refusal.{Refusal}
use Rattle.fpc_base.specs.declared.tokens.Tokens.{Tokens}
use Rattle.fpc_base.specs.Lexeme.{Item, items_left}
use Rattle.fpc_base.specs.Tokens.{source_of}
use Rattle.fpc_base.specs.Reading.{ReadsFront, RefusesFront}
use Rattle.fpc_terms.specs.ReadTerm.{any_variable}
use Rattle.fpc_terms.specs.Spot.{TermLimits}
use Rattle.fpc_terms.specs.Written.{WrittenTerm, IsTerm}

-- the items begin with this term, and the rest of them is left
abbrev pub ReadsTerm : Option ℕ → List (List ℕ) → List Item → WrittenTerm → List Item → Type 0
ReadsTerm most earlier items w rest =
    ReadsFront (IsTerm any_variable) (TermLimits any_variable most earlier) [] items w rest

-- this is the refusal of the term at the front of the items, in a source of n bytes
abbrev pub RefusesTerm : Option ℕ → List (List ℕ) → ℕ → List Item → Refusal → Type 0
RefusesTerm most earlier n items r =
    RefusesFront (IsTerm any_variable) (TermLimits any_variable most earlier) n [] items r

-- the items begin with one term
abbrev pub IsReadOnce : Type 0
IsReadOnce = (most : Option ℕ) (earlier : List (List ℕ)) (items left more : List Item) (v w : WrittenTerm)
    → ReadsTerm most earlier items v left → ReadsTerm most earlier items w more → (v ≡ w) × (left ≡ more)

-- the items have one refusal
abbrev pub IsRefusedOnce : Type 0
IsRefusedOnce = (most : Option ℕ) (earlier : List (List ℕ)) (n : ℕ) (items : List Item) (r s : Refusal)
    → RefusesTerm most earlier n items r → RefusesTerm most earlier n items s → r ≡ s

-- what is read is not refused
abbrev pub IsNotBoth : Type 0
IsNotBoth = (most : Option ℕ) (earlier : List (List ℕ)) (n : ℕ) (items left : List Item) (w : WrittenTerm)
    (r : Refusal) → ReadsTerm most earlier items w left → RefusesTerm most earlier n items r → ⊥

-- a refusal lies within the source, or at its end
abbrev pub IsRefusedWithin : Type 0
IsRefusedWithin = (most : Option ℕ) (earlier : List (List ℕ)) (tokens : Tokens) (r : Refusal)
    → RefusesTerm most earlier (length (source_of tokens)) (items_left tokens) r
    → r.at ≤ length (source_of tokens)
