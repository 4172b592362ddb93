-- A goal list for each place, from a place on.
use Rattle.std.proofs.Common.{◌≡◌, ℕ, List, [], ◌∷◌, ◌++◌, refl, ap, sym, ◌∙◌, drop}
use Rattle.std.specs.Prelude.{Bool, true, false, zero, suc, Some, slice_get}
use Rattle.polarised_formulas.specs.Formula.{Formula}
use Rattle.search_model.specs.Lines.{Line, where_so, at_places}
use Rattle.search_model.specs.declared.stored.Stored.{Stored}

module _ {S : Type 0} where
  append_so : (ls : List (Line S)) (c : Bool) (e : Line S) (rest : List (Line S))
      → (ls ++ where_so c e []) ++ rest ≡ ls ++ where_so c e rest
  append_so [] true e rest = refl
  append_so [] false e rest = refl
  append_so (l ∷ ls) c e rest = ap (λ (x : List (Line S)). l ∷ x) (append_so ls c e rest)

module _ {S : Type 0} (test : Formula → Bool) (make : ℕ → Stored → Line S) where
  places_from : (xs : List Stored) (j k : ℕ) (i : Stored) → slice_get xs k ≡ Some i
      → at_places test make j (drop k xs)
      ≡ where_so (test i.formula) (make j i) (at_places test make (suc j) (drop (suc k) xs))
  places_from [] j k i e = absurd (cc)
  places_from (x ∷ xs) j zero i e = let same : x ≡ i = cc in rw same refl
  places_from (x ∷ xs) j (suc k) i e = places_from xs j k i e

  -- the goal lists so far, and then that of the next place and those after it
  pub places_on : (xs : List Stored) (k : ℕ) (i : Stored) (ls ms whole : List (Line S))
      → slice_get xs k ≡ Some i → ls ++ at_places test make k (drop k xs) ≡ whole
      → ms ≡ ls ++ where_so (test i.formula) (make k i) []
      → ms ++ at_places test make (suc k) (drop (suc k) xs) ≡ whole
  places_on xs k i ls ms whole e h m =
      let rest : List (Line S) = at_places test make (suc k) (drop (suc k) xs) in
      ap (λ (x : List (Line S)). x ++ rest) m ∙ append_so ls (test i.formula) (make k i) rest
      ∙ ap (λ (x : List (Line S)). ls ++ x) (sym (places_from xs k k i e)) ∙ h
