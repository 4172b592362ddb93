-- Numbers that have one name, each in its own table.
use Rattle.std.proofs.Common.{◌≡◌, ℕ, zero, suc, ◌<◌, Bool, true, false, nat_eq, List, [], ◌∷◌, map, length, Some, refl, sym, ap, ◌∙◌, inl, inr, arith}
use Rattle.std.specs.List.{list_all}
use Rattle.std.specs.Str.{bytes_eq}
use Rattle.std.specs.Cmp.Lexicographic.{bytes_decides}
use Rattle.std.proofs.lemmas.Bool.{cases_Bool}
use Rattle.std.proofs.lemmas.Bool.Decides.{Decides-eqb, Decides-like, same_from_decides}
use Rattle.std.proofs.lemmas.Option.{slice_get-get_or}
use Rattle.fpc_terms.specs.Name.{AreDifferent, index_in}
use Rattle.fpc_terms.specs.Text.{name_in}
use Rattle.fpc_terms.specs.Same.{SameList, same_nil, same_cons}
use Rattle.clause_language.specs.declared.word_ids.WordIds.{WordIds}
use Rattle.clause_language.specs.Program.{words, ids_of, HaveWords}
use Rattle.search_model.specs.Same.{IsOneToOne, AreOneName}

-- a name stands at one place
one_place : (names : List (List ℕ)) → AreDifferent names → (i j : ℕ) → i < length names → j < length names → name_in names i ≡ name_in names j → i ≡ j
one_place names different i j h k e = different i j (name_in names i) (slice_get-get_or names i [] h) (slice_get-get_or names j [] k ∙ ap Some (sym e))

-- what has a name of some length stands in the table
pub below_where_named : (names : List (List ℕ)) (k b : ℕ) (bs : List ℕ) → name_in names k ≡ b ∷ bs → k < length names
below_where_named [] k b bs e = cc
below_where_named (x ∷ names) zero b bs e = omega arith
below_where_named (x ∷ names) (suc k) b bs e = let less = below_where_named names k b bs e in omega (arith, less)

-- a text with a place in the table is the name there
name_in-index_in : (names : List (List ℕ)) (x : List ℕ) → index_in names x < length names → name_in names (index_in names x) ≡ x
name_in-index_in [] x h = absurd (omega (arith, h))
name_in-index_in (y ∷ names) x h =
    elim (cases_Bool (bytes_eq x y)) [
      | inl e ↦ rw e (sym ((bytes_decides x y).0 e))
      | inr e ↦
          let at : index_in (y ∷ names) x ≡ suc (index_in names x) = rw e refl in
          let less : index_in names x < length names = omega (arith, at, h) in
          rw e (name_in-index_in names x less)
    ]

first-same : (x y : List ℕ) (xs ys : List (List ℕ)) → x ∷ xs ≡ y ∷ ys → x ≡ y
first-same x y xs ys e = cc

rest-same : (x y : List ℕ) (xs ys : List (List ℕ)) → x ∷ xs ≡ y ∷ ys → xs ≡ ys
rest-same x y xs ys e = cc

abbrev is_begun : List ℕ → Bool
is_begun [] = false
is_begun (b ∷ bs) = true

module _ (names others : List (List ℕ)) where
  -- numbers of one name are equal in the one table exactly where they are in the other
  pub one_to_one : AreDifferent names → AreDifferent others → IsOneToOne (AreOneName names others)
  one_to_one different apart f g m n (fb, mb, fm) (gb, nb, gn) =
      same_from_decides (nat_eq f g) (nat_eq m n) (Decides-eqb f g)
      (Decides-like (nat_eq m n) (λ e. one_place names different f g fb gb (fm ∙ ap (name_in others) e ∙ sym gn)) (λ e. one_place others apart m n mb nb (sym fm ∙ ap (name_in names) e ∙ gn))
      (Decides-eqb m n))

  -- a text that stands in both tables has its number in each
  pub text_in_both : (x : List ℕ) → index_in names x < length names → index_in others x < length others → AreOneName names others (index_in names x) (index_in others x)
  text_in_both x h k = (h, k, name_in-index_in names x h ∙ sym (name_in-index_in others x k))

  -- numbers whose names are these texts, none of which is empty
  numbers-same : (texts : List (List ℕ)) (is js : List ℕ) → list_all is_begun texts ≡ true → map (name_in names) is ≡ texts → map (name_in others) js ≡ texts → SameList (AreOneName names others) is js
  numbers-same [] [] [] b e d = same_nil
  numbers-same [] (i ∷ is) js b e d = absurd (cc)
  numbers-same [] [] (j ∷ js) b e d = absurd (cc)
  numbers-same ([] ∷ xs) is js b e d = absurd (cc)
  numbers-same ((y ∷ ys) ∷ xs) [] js b e d = absurd (cc)
  numbers-same ((y ∷ ys) ∷ xs) (i ∷ is) [] b e d = absurd (cc)
  numbers-same ((y ∷ ys) ∷ xs) (i ∷ is) (j ∷ js) b e d =
      let m = first-same (name_in names i) (y ∷ ys) (map (name_in names) is) xs e in
      let n = first-same (name_in others j) (y ∷ ys) (map (name_in others) js) xs d in
      same_cons (below_where_named names i y ys m, below_where_named others j y ys n, m ∙ sym n)
      (numbers-same xs is js b (rest-same (name_in names i) (y ∷ ys) (map (name_in names) is) xs e) (rest-same (name_in others j) (y ∷ ys) (map (name_in others) js) xs d))

  -- the ids of the words
  pub words-same : (v w : WordIds) → HaveWords names v → HaveWords others w → SameList (AreOneName names others) (ids_of v) (ids_of w)
  words-same v w h k = numbers-same words (ids_of v) (ids_of w) refl h k
