-- A refusal lies within the file, or at its end.
use Rattle.std.proofs.Common.{◌≡◌, ℕ, ◌+◌, ◌-◌, ◌≤◌, List, [], ◌∷◌, length, drop, refl, arith, length-drop}
use Rattle.std.specs.Prelude.{zero, suc, map}
use Rattle.fpc_base.specs.declared.refusal.Code.{Code}
use Rattle.fpc_base.specs.declared.refusal.Refusal.{Refusal}
use Rattle.fpc_base.specs.declared.tokens.Tokens.{Tokens}
use Rattle.fpc_base.specs.declared.tokens.front.Front.{Front}
use Rattle.fpc_base.specs.declared.tokens.front.Front.TheVariants.{Gap, Piece, Fault}
use Rattle.fpc_base.specs.Tokens.{Scanned, scanned, front_of, size_of, tokens_behind, source_of}
use Rattle.fpc_base.specs.Lexeme.{Lexeme, Item, says, fault, item_of, items_of, items_left}
use Rattle.fpc_base.specs.Reading.{RefusesAll, RefusesFront}
use Rattle.fpc_base.specs.Reading as reading

-- the place of each item is at most n
abbrev pub AreWithin : ℕ → List Item → Type 0
AreWithin n [] = Unit {0}
AreWithin n (says c at ∷ items) = (at ≤ n) × AreWithin n items
AreWithin n (fault r ∷ items) = (r.at ≤ n) × AreWithin n items

within-scanned : (n : ℕ) (front : Front) (bytes : List ℕ) (at : ℕ) (rest : List Scanned) → at ≤ n → AreWithin n (map item_of rest)
    → AreWithin n (map item_of (scanned front bytes at rest))
within-scanned n (Gap k) bytes at rest h hs = hs
within-scanned n (Piece kind k) bytes at rest h hs = (h, hs)
within-scanned n (Fault code) bytes at rest h hs = (h, tt)

within-behind : (n skipped at : ℕ) (bytes : List ℕ) → at + length bytes ≤ n → AreWithin n (map item_of (tokens_behind skipped at bytes))
within-behind n skipped at [] h = tt
within-behind n (suc k) at (b ∷ bs) h = within-behind n k (suc at) bs (omega arith)
within-behind n zero at (b ∷ bs) h =
    within-scanned n (front_of b bs) (b ∷ bs) at (tokens_behind (size_of (front_of b bs) - 1) (suc at) bs) (omega arith)
    (within-behind n (size_of (front_of b bs) - 1) (suc at) bs (omega arith))

-- from a place on: none past the end
within-from : (n at : ℕ) (bytes : List ℕ) → length bytes ≡ n → AreWithin n (map item_of (tokens_behind 0 at (drop at bytes)))
within-from n zero bytes e = within-behind n 0 0 bytes (omega arith)
within-from n (suc at) bytes e = within-dropped n (suc at) (drop (suc at) bytes) (omega (arith, length-drop (suc at) bytes))
  where
    within-dropped : (n at : ℕ) (rest : List ℕ) → length rest ≡ n - at → AreWithin n (map item_of (tokens_behind 0 at rest))
    within-dropped n at [] e = tt
    within-dropped n at (b ∷ bs) e = within-behind n 0 at (b ∷ bs) (omega arith)

pub items_left-within : (t : Tokens) → AreWithin (length (source_of t)) (items_left t)
items_left-within t = within-from (length (source_of t)) t.at t.bytes.now refl

pub items_of-within : (bytes : List ℕ) → AreWithin (length bytes) (items_of bytes)
items_of-within bytes = within-from (length bytes) 0 bytes refl

module _ {W : Type 0} (IsWhole : List Lexeme → W → Type 0) (Limits : List Lexeme → Lexeme → Code → Type 0) where
  pub all-within : {n : ℕ} {before : List Lexeme} {items : List Item} {r : Refusal} → RefusesAll IsWhole Limits n before items r → AreWithin n items → r.at ≤ n
  all-within (reading.RefusesAll.here refused) h = h.0
  all-within (reading.RefusesAll.bad) h = h.0
  all-within (reading.RefusesAll.at_end none) h = omega arith
  all-within (reading.RefusesAll.later taken more) h = all-within more h.1

  pub front-within : {n : ℕ} {before : List Lexeme} {items : List Item} {r : Refusal} → RefusesFront IsWhole Limits n before items r → AreWithin n items
      → r.at ≤ n
  front-within (reading.RefusesFront.unexpected none no_more) h = h.0
  front-within (reading.RefusesFront.limited begins limit) h = h.0
  front-within (reading.RefusesFront.bad none) h = h.0
  front-within (reading.RefusesFront.at_end none) h = omega arith
  front-within (reading.RefusesFront.later taken more) h = front-within more h.1
