-- How what is added to a table adds up.
use Rattle.std.proofs.Common.{◌≡◌, ℕ, Some, List, [], ◌∷◌, ◌++◌, length, refl, sym, ap, ◌∙◌, subst, inl, inr, append_assoc}
use Rattle.std.specs.List.{slice_get}
use Rattle.fpc_base.specs.Lexeme.{Lexeme, Item, a_name, says}
use Rattle.fpc_terms.specs.Name.{HasName, IsInterned}
use Rattle.fpc_terms.specs.Adding.{AddsOnly, IsText, IsNameOf, IsNameAmong, AddsTaken}
use Rattle.fpc_terms.proofs.Places.{got_push, got_before, got_last}

pub AddsOnly-same : (P : List ℕ → Type 0) (names : List (List ℕ)) → AddsOnly P names names
AddsOnly-same P names text h = inl h

-- one table behind another
pub AddsOnly-then : (P : List ℕ → Type 0) (old mid new : List (List ℕ)) → AddsOnly P old mid → AddsOnly P mid new → AddsOnly P old new
AddsOnly-then P old mid new a b text h = elim (b text h) [ inl m ↦ a text m | inr p ↦ inr p ]

-- a wider kind
pub AddsOnly-wider : (P Q : List ℕ → Type 0) (old new : List (List ℕ)) → ((text : List ℕ) → P text → Q text) → AddsOnly P old new → AddsOnly Q old new
AddsOnly-wider P Q old new wider a text h = elim (a text h) [ inl m ↦ inl m | inr p ↦ inr (wider text p) ]

pub AddsOnly-interned : (old new : List (List ℕ)) (text : List ℕ) → IsInterned old text new → AddsOnly (IsText text) old new
AddsOnly-interned old new text (inl known) other h = inl (subst (λ names. HasName names other) known.1 h)
AddsOnly-interned old new text (inr fresh) other h =
    elim (got_push old text other h.0 (subst (λ names. slice_get names h.0 ≡ Some other) fresh.1 h.1)) [ inl e ↦ inl (h.0, e) | inr e ↦ inr e.1 ]

-- the text of a name
pub AddsOnly-name : (old new : List (List ℕ)) (text : List ℕ) → AddsOnly (IsText text) old new → AddsOnly (IsNameOf (a_name text)) old new
AddsOnly-name old new text = AddsOnly-wider (IsText text) (IsNameOf (a_name text)) old new (λ other e. ap a_name (sym e))

-- a name among items is one among more of them
pub among-front : (items more : List Item) (text : List ℕ) → IsNameAmong items text → IsNameAmong (items ++ more) text
among-front items more text h = (h.0, (h.1.0, got_before items more h.0 _ h.1.1))

pub among-last : (items : List Item) (c : Lexeme) (at : ℕ) (text : List ℕ) → IsNameOf c text → IsNameAmong (items ++ says c at ∷ []) text
among-last items c at text e = (length items, (at, subst (λ (d : Lexeme). slice_get (items ++ says c at ∷ []) (length items) ≡ Some (says d at)) e (got_last items (says c at))))

pub AddsTaken-start : (items : List Item) (names : List (List ℕ)) → AddsTaken items items names names
AddsTaken-start items names = record { taken = []; front = refl; only = AddsOnly-same _ names }

module _ (items all : List Item) (old mid : List (List ℕ)) (a : AddsTaken items all old mid) where
  -- all that was added stands among the items
  pub AddsTaken-all : AddsOnly (IsNameAmong items) old mid
  AddsTaken-all = AddsOnly-wider (IsNameAmong a.taken) (IsNameAmong items) old mid (λ text h. rw a.front (among-front a.taken all text h)) a.only

  -- one more token was taken
  pub AddsTaken-next : (rest : List Item) (c : Lexeme) (at : ℕ) (new : List (List ℕ)) → all ≡ says c at ∷ rest → AddsOnly (IsNameOf c) mid new → AddsTaken items rest old new
  AddsTaken-next rest c at new e b = record {
    taken = a.taken ++ says c at ∷ [];
    front = a.front ∙ ap (λ (xs : List Item). a.taken ++ xs) e ∙ sym (append_assoc a.taken (says c at ∷ []) rest);
    only = AddsOnly-then _ old mid new
        (AddsOnly-wider _ _ old mid (λ text h. among-front a.taken (says c at ∷ []) text h) a.only)
        (AddsOnly-wider _ _ mid new (λ text h. among-last a.taken c at text h) b);
  }

  -- one more token was refused
  pub AddsTaken-refused : (rest : List Item) (c : Lexeme) (at : ℕ) (new : List (List ℕ)) → all ≡ says c at ∷ rest → AddsOnly (IsNameOf c) mid new → AddsOnly (IsNameAmong items) old new
  AddsTaken-refused rest c at new e b =
      let n : AddsTaken items rest old new = AddsTaken-next rest c at new e b in
      AddsOnly-wider (IsNameAmong n.taken) (IsNameAmong items) old new (λ text h. rw n.front (among-front n.taken rest text h)) n.only
