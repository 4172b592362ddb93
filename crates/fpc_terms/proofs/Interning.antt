-- A map that numbers texts, and one more text.
use Rattle.std.proofs.Common.{◌≡◌, ℕ, ◌+◌, ◌<◌, ◌^◌, Bool, true, Option, Some, None, List, [], ◌∷◌, ◌++◌, ◌⊎◌, length, map, refl, sym, ap, ◌∙◌, subst, inl, inr, arith, length-append}
use Rattle.std.specs.List.{slice_get}
use Rattle.std.specs.BTreeMap.{BTreeMap, UpdatesBy}
use Rattle.std.specs.Cmp.{eq_by_cmp_equiv}
use Rattle.std.specs.Cmp.Lexicographic.{slice_cmp, bytes_decides, nat_list_cmp_total}
use Rattle.std.specs.Ordering.{nat_cmp, is_eq}
use Rattle.std.specs.Str.{bytes_eq}
use Rattle.std.specs.Map.{lookup, KeepsOthers, IsKeyTest, AreApart}
use Rattle.std.specs.Global.{Vec}
use Rattle.std.proofs.lemmas.Bool.{cases_Bool, false_from_ne_true}
use Rattle.std.proofs.lemmas.List.{map-append}
use Rattle.std.proofs.lemmas.Map.Text.{is_eq-slice_cmp}
use Rattle.fpc_base.specs.Tokens.{is_one_of}
use Rattle.fpc_terms.specs.Name.{HasName, AreDifferent, place_in, number_of, Numbers}
use Rattle.fpc_terms.proofs.Places.{got_push, got_before, got_last, got-index_in, is_one_of-got}

lookup_kept : {K X : Type 0} (eq : K → K → Bool) (test : K → Bool) (old new : List (K × X)) → KeepsOthers eq test old new → (other : K → Bool) → IsKeyTest eq other → AreApart test other → lookup other new ≡ lookup other old
unfolding KeepsOthers
lookup_kept eq test old new h = h

same_texts : (a b : List ℕ) → is_eq (slice_cmp nat_cmp a b) ≡ true → a ≡ b
same_texts a b h = (bytes_decides a b).0 (sym (is_eq-slice_cmp a b) ∙ h)

same_or_not : (a b : List ℕ) → (a ≡ b) ⊎ ¬ (a ≡ b)
same_or_not a b = elim (cases_Bool (bytes_eq a b)) [ inl e ↦ inl ((bytes_decides a b).0 e) | inr e ↦ inr (λ same. cc ((bytes_decides a b).1 same, e)) ]

module _ (m n : BTreeMap (Vec ℕ) ℕ) where
  -- another text keeps its number
  pub number_of-other : (key : List ℕ) (w : Option ℕ) → UpdatesBy (λ x y. slice_cmp nat_cmp x.items y.items) (λ k. slice_cmp nat_cmp key k.items) m n w → (text : List ℕ) → ¬ (text ≡ key) → number_of n text ≡ number_of m text
  number_of-other key w h text ne =
      lookup_kept _ _ _ _ h.3 _
      (λ x y. (eq_by_cmp_equiv nat_list_cmp_total).congr text x.items y.items)
      (λ k e. false_from_ne_true _ (λ other. ne (same_texts text k.items other ∙ sym (same_texts key k.items e))))

  -- one more text
  module _ (texts : List (List ℕ)) (text : List ℕ) (old : Numbers m texts) (absent : ¬ (HasName texts text)) (here : number_of n text ≡ Some (length texts)) (others : (other : List ℕ) → ¬ (other ≡ text) → number_of n other ≡ number_of m other) where
    place_from_number : (place : ℕ) (other : List ℕ) → number_of n other ≡ Some place → slice_get (texts ++ text ∷ []) place ≡ Some other
    place_from_number place other h =
        elim (same_or_not other text) [
          | inl same ↦ subst (λ k. slice_get (texts ++ text ∷ []) k ≡ Some other) (cc (same, h, here)) (subst (λ t. slice_get (texts ++ text ∷ []) (length texts) ≡ Some t) (sym same) (got_last texts text))
          | inr differs ↦ got_before texts (text ∷ []) place other ((old.places place other).0 (sym (others other differs) ∙ h))
        ]

    number_from_place : (place : ℕ) (other : List ℕ) → slice_get (texts ++ text ∷ []) place ≡ Some other → number_of n other ≡ Some place
    number_from_place place other h =
        elim (got_push texts text other place h) [
          | inl before ↦ others other (λ same. absent (place, subst (λ t. slice_get texts place ≡ Some t) same before)) ∙ (old.places place other).1 before
          | inr last ↦ rw (last.0, last.1) here
        ]

    pub Numbers-push : length texts + 1 < 2 ^ 32 → Numbers n (texts ++ text ∷ [])
    Numbers-push room = record {
      places = λ place other. (place_from_number place other, number_from_place place other);
      few = omega (arith, length-append texts (text ∷ []));
    }

-- the table after a text was put into the map with its place
pub Numbers-insert : (m n : BTreeMap (Vec ℕ) ℕ) (texts : List (List ℕ)) (text : List ℕ) (key : List ℕ) (place : ℕ) → Numbers m texts → ¬ (HasName texts text) → length texts + 1 < 2 ^ 32 → key ≡ text → place ≡ length texts → UpdatesBy (λ x y. slice_cmp nat_cmp x.items y.items) (λ k. slice_cmp nat_cmp key k.items) m n (Some place) → Numbers n (texts ++ text ∷ [])
Numbers-insert m n texts text key place old absent room same at updates =
    let here : number_of n text ≡ Some (length texts) = subst (λ t. number_of n t ≡ Some (length texts)) same (updates.1 ∙ ap Some at) in
    let others : (other : List ℕ) → ¬ (other ≡ text) → number_of n other ≡ number_of m other = λ other differs. number_of-other m n key (Some place) updates other (λ e. differs (e ∙ same)) in
    Numbers-push m n texts text old absent here others room

-- the texts of buffers with one more
pub texts-push : (before after : List (Vec ℕ)) (kept : Vec ℕ) (text : List ℕ) → after ≡ before ++ kept ∷ [] → kept.items ≡ text → map (λ t. t.items) after ≡ map (λ t. t.items) before ++ text ∷ []
texts-push before after kept text pushed same = rw (pushed, map-append, same) refl

none_from_absent : (o : Option ℕ) → ((k : ℕ) → o ≡ Some k → ⊥) → o ≡ None
none_from_absent None absent = refl
none_from_absent (Some k) absent = absurd (absent k refl)

module _ (m : BTreeMap (Vec ℕ) ℕ) (texts : List (List ℕ)) (h : Numbers m texts) where
  pub AreDifferent-from_numbers : AreDifferent texts
  AreDifferent-from_numbers i j text a b = cc ((h.places i text).1 a, (h.places j text).1 b)

  -- what a search in the map finds
  pub number_of-place_in : (text : List ℕ) → number_of m text ≡ place_in texts text
  number_of-place_in text =
      elim (cases_Bool (is_one_of texts text)) [
        | inl e ↦ rw e ((h.places _ text).1 (got-index_in texts text e))
        | inr e ↦ rw e (none_from_absent (number_of m text) (λ k some. cc (e, is_one_of-got texts k text ((h.places k text).0 some))))
      ]
