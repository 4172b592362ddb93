-- A map of the depths at which variables are bound, with one more and with one less.
use Rattle.std.proofs.Common.{◌≡◌, ℕ, suc, ◌+◌, ◌-◌, ◌<◌, ◌^◌, Bool, true, false, Option, Some, None, List, [], ◌∷◌, ◌++◌, length, map, reverse, Bor, if◌then◌else◌, refl, sym, ap, ◌∙◌, inl, inr, arith}
use Rattle.std.specs.BTreeMap.{BTreeMap, UpdatesBy}
use Rattle.std.specs.Cmp.Lexicographic.{slice_cmp, bytes_decides}
use Rattle.std.specs.Ordering.{nat_cmp}
use Rattle.std.specs.Str.{bytes_eq}
use Rattle.std.proofs.lemmas.Bool.{cases_Bool}
use Rattle.std.proofs.lemmas.List.{map-append, reverse-append}
use Rattle.std.proofs.lemmas.Map.Text.{btree_map_updates_str}
use Rattle.fpc_base.specs.Tokens.{is_one_of}
use Rattle.fpc_terms.specs.Name.{index_in, place_in}
use Rattle.polarised_formulas.specs.BoundDepths.{depth_in, depth_of, Depths}

bytes_eq-turned : (x y : List ℕ) (b : Bool) → bytes_eq x y ≡ b → bytes_eq y x ≡ b
bytes_eq-turned x y true e = (bytes_decides y x).1 (sym ((bytes_decides x y).0 e))
bytes_eq-turned x y false e =
    elim (cases_Bool (bytes_eq y x)) [
      | inl i ↦ absurd (let j : bytes_eq x y ≡ true = (bytes_decides x y).1 (sym ((bytes_decides y x).0 i)) in cc)
      | inr i ↦ i
    ]

-- what the depth of a text says of its place
abbrev IsPlaced : List (List ℕ) → List ℕ → Option ℕ → Type 0
IsPlaced texts text None = is_one_of texts text ≡ false
IsPlaced texts text (Some depth) = (is_one_of texts text ≡ true) × (index_in texts text + suc depth ≡ length texts)

placed-later : (x : List ℕ) (texts : List (List ℕ)) (text : List ℕ) (depth : Option ℕ) → bytes_eq text x ≡ false → IsPlaced texts text depth → IsPlaced (x ∷ texts) text depth
placed-later x texts text None e h = rw e h
placed-later x texts text (Some depth) e h = rw e (h.0, let i = h.1 in omega (arith, i))

placed : (texts : List (List ℕ)) (text : List ℕ) → IsPlaced texts text (depth_in texts text)
placed [] text = refl
placed (x ∷ texts) text =
    elim (cases_Bool (bytes_eq x text)) [
      | inl e ↦ rw (e, bytes_eq-turned x text true e) (refl, omega arith)
      | inr e ↦ rw e (placed-later x texts text (depth_in texts text) (bytes_eq-turned x text false e) (placed texts text))
    ]

module _ (texts : List (List ℕ)) (text : List ℕ) where
  -- a text without a depth has no place
  pub place_in-unbound : None ≡ depth_in texts text → None ≡ place_in texts text
  place_in-unbound e = let h : IsPlaced texts text None = rw (sym e) at (placed texts text) in rw h refl

  -- a depth is below the number of texts
  pub depth-below : (depth : ℕ) → Some depth ≡ depth_in texts text → depth < length texts
  depth-below depth e = let h : IsPlaced texts text (Some depth) = rw (sym e) at (placed texts text) in omega (arith, h.1)

  -- the place of a text, counted from the inside
  pub place_in-bound : (depth : ℕ) → Some depth ≡ depth_in texts text → Some (length texts - 1 - depth) ≡ place_in texts text
  place_in-bound depth e =
      let h : IsPlaced texts text (Some depth) = rw (sym e) at (placed texts text) in
      let i : length texts - 1 - depth ≡ index_in texts text = omega (arith, h.1) in
      rw h.0 (ap Some i)

-- the innermost text has a depth
pub depth_in-head : (text : List ℕ) (texts : List (List ℕ)) → depth_in (text ∷ texts) text ≡ Some (length texts)
depth_in-head text texts = let e : bytes_eq text text ≡ true = (bytes_decides text text).1 refl in rw e refl

module _ (m n : BTreeMap (Bor (List ℕ)) ℕ) (texts : List (List ℕ)) (covered : List (Option ℕ)) (text : List ℕ) where
  -- one more variable
  module _ (depth : ℕ) (before : Option ℕ) (old : Depths m texts covered) (room : length texts + 1 < 2 ^ 32) (count : depth ≡ length texts) (had : before ≡ depth_of m text) where
    pub Depths-push : UpdatesBy (λ x y. slice_cmp nat_cmp x.now y.now) (λ k. slice_cmp nat_cmp text k.now) m n (Some depth) → Depths n (text ∷ texts) (before ∷ covered)
    Depths-push updates = record {
      innermost = λ other. let now = btree_map_updates_str text m n (Some depth) updates other in let was = old.innermost other in cc;
      outside = (let was = old.innermost text in let others = old.outside in cc);
      few = omega arith;
    }

  -- the innermost variable goes, and its name gets the depth that it covered
  module _ (depth : Option ℕ) (old : Depths m (text ∷ texts) (depth ∷ covered)) (restored : (other : List ℕ) → depth_of n other ≡ (if bytes_eq text other then depth else depth_of m other)) where
    depth_of-restored : (other : List ℕ) → depth_of n other ≡ depth_in texts other
    depth_of-restored other =
        let outside = old.outside in
        let inner = old.innermost other in
        let now = restored other in
        elim (cases_Bool (bytes_eq text other)) [
          | inl e ↦ (let same : text ≡ other = (bytes_decides text other).0 e in
              let c : depth ≡ depth_in texts text = cc in
              let d : depth_of n other ≡ depth = rw e at now in
              d ∙ c ∙ ap (depth_in texts) same)
          | inr e ↦ (let d : depth_of n other ≡ depth_of m other = rw e at now in
              let i : depth_of m other ≡ depth_in texts other = rw e at inner in
              d ∙ i)
        ]

    pub Depths-pop : Depths n texts covered
    Depths-pop = let outside = old.outside in let few = old.few in record { innermost = depth_of-restored; outside = cc; few = omega (arith, few) }

-- the last of some items comes first, where they are turned
pub turned-push : {B C : Type 0} (f : B → C) (before after : List B) (x : B) → after ≡ before ++ x ∷ [] → reverse (map f after) ≡ f x ∷ reverse (map f before)
turned-push f before after x e = rw (e, map-append f before (x ∷ []), reverse-append (map f before) (f x ∷ [])) refl
