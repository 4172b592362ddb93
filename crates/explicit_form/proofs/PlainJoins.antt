-- Bytes behind what was read of a term or a formula stay behind it.
use Rattle.std.proofs.Common.{◌≡◌, ℕ, List, [], ◌∷◌, ◌++◌, decimal, refl, sym, ap, ◌∙◌, append_assoc}
use Rattle.fpc_terms.specs.Term.{Term}
use Rattle.polarised_formulas.specs.declared.logic.Logic.{Logic}
use Rattle.polarised_formulas.specs.Text.{mark_text, operator_before}
use Rattle.polarised_formulas.specs.PlainReading.{operator_text, quantifier_text, Hole, first_of, second_of, under, depth_of, Around, alone, in_term, in_atom, Reading, at_formula, in_word, at_name, in_name, behind_formula, in_operator, at_term, in_function, at_eigen, in_eigen, at_index, in_index, behind_term}
use Rattle.polarised_formulas.specs.PlainForm.{plain_term, plain_formula}
use Rattle.polarised_formulas.proofs.Begun.{done_before, holes_before, around_before, begun_before}
use Rattle.polarised_formulas.proofs.Joins.{plain_term-append, plain_formula-append}

module _ (text : ℕ → List ℕ) (ys : List ℕ) where
  done_before-append : (ts : List Term) (xs : List ℕ) → done_before text ts (xs ++ ys) ≡ done_before text ts xs ++ ys
  done_before-append [] xs = refl
  done_before-append (t ∷ ts) xs = ap (done_before text ts) (plain_term-append text ys t (44 ∷ xs)) ∙ done_before-append ts (plain_term text t (44 ∷ xs))

  name-append : (f : ℕ) (ts : List Term) (xs : List ℕ) → text f ++ 40 ∷ done_before text ts (xs ++ ys) ≡ (text f ++ 40 ∷ done_before text ts xs) ++ ys
  name-append f ts xs = ap (λ v. text f ++ 40 ∷ v) (done_before-append ts xs) ∙ sym (append_assoc (text f) (40 ∷ done_before text ts xs) ys)

  module _ (logic : Logic) where
    holes_before-append : (hs : List Hole) (xs : List ℕ) → holes_before text logic hs (xs ++ ys) ≡ holes_before text logic hs xs ++ ys
    holes_before-append [] xs = refl
    holes_before-append (first_of ∷ hs) xs = holes_before-append hs (40 ∷ xs)
    holes_before-append (second_of o a ∷ hs) xs =
        let link : operator_before (operator_text logic o) (xs ++ ys) ≡ operator_before (operator_text logic o) xs ++ ys = ap (λ v. 32 ∷ v) (sym (append_assoc (operator_text logic o) (32 ∷ xs) ys)) in
        ap (λ v. holes_before text logic hs (40 ∷ v)) (ap (plain_formula text logic (depth_of hs) a) link ∙ plain_formula-append text ys logic (depth_of hs) a (operator_before (operator_text logic o) xs))
        ∙ holes_before-append hs (40 ∷ plain_formula text logic (depth_of hs) a (operator_before (operator_text logic o) xs))
    holes_before-append (under q ∷ hs) xs = ap (holes_before text logic hs) (sym (append_assoc (quantifier_text q) xs ys)) ∙ holes_before-append hs (quantifier_text q ++ xs)

    -- in front of more bytes
    in_holes : (hs : List Hole) (front xs zs : List ℕ) → zs ≡ xs ++ ys → holes_before text logic hs (front ++ zs) ≡ holes_before text logic hs (front ++ xs) ++ ys
    in_holes hs front xs zs e = ap (holes_before text logic hs) (ap (λ v. front ++ v) e ∙ sym (append_assoc front xs ys)) ∙ holes_before-append hs (front ++ xs)

    around_before-append : (up : Around) (xs : List ℕ) → around_before text logic up (xs ++ ys) ≡ around_before text logic up xs ++ ys
    around_before-append alone xs = refl
    around_before-append (in_term f ts up) xs = ap (around_before text logic up) (name-append f ts xs) ∙ around_before-append up (text f ++ 40 ∷ done_before text ts xs)
    around_before-append (in_atom hs positive f ts) xs = in_holes hs (mark_text logic positive) (text f ++ 40 ∷ done_before text ts xs) _ (name-append f ts xs)

    in_around : (up : Around) (front xs zs : List ℕ) → zs ≡ xs ++ ys → around_before text logic up (front ++ zs) ≡ around_before text logic up (front ++ xs) ++ ys
    in_around up front xs zs e = ap (around_before text logic up) (ap (λ v. front ++ v) e ∙ sym (append_assoc front xs ys)) ∙ around_before-append up (front ++ xs)

    pub begun_before-append : (q : Reading) (xs : List ℕ) → begun_before text logic q (xs ++ ys) ≡ begun_before text logic q xs ++ ys
    begun_before-append (at_formula hs) xs = holes_before-append hs xs
    begun_before-append (in_word hs w) xs = in_holes hs w xs _ refl
    begun_before-append (at_name hs positive) xs = in_holes hs (mark_text logic positive) xs _ refl
    begun_before-append (in_name hs positive w) xs = in_holes hs (mark_text logic positive) (w ++ xs) _ (sym (append_assoc w xs ys))
    begun_before-append (behind_formula hs f) xs =
        ap (holes_before text logic hs) (plain_formula-append text ys logic (depth_of hs) f xs) ∙ holes_before-append hs (plain_formula text logic (depth_of hs) f xs)
    begun_before-append (in_operator hs a w) xs =
        in_holes hs (40 ∷ []) (plain_formula text logic (depth_of hs) a (32 ∷ (w ++ xs))) _
        (ap (plain_formula text logic (depth_of hs) a) (ap (λ v. 32 ∷ v) (sym (append_assoc w xs ys))) ∙ plain_formula-append text ys logic (depth_of hs) a (32 ∷ (w ++ xs)))
    begun_before-append (at_term up) xs = around_before-append up xs
    begun_before-append (in_function up w) xs = in_around up w xs _ refl
    begun_before-append (at_eigen up) xs = around_before-append up (36 ∷ xs)
    begun_before-append (in_eigen up k) xs = in_around up (36 ∷ []) (decimal k ++ xs) _ (sym (append_assoc (decimal k) xs ys))
    begun_before-append (at_index up) xs = around_before-append up (35 ∷ xs)
    begun_before-append (in_index up k) xs = in_around up (35 ∷ []) (decimal k ++ xs) _ (sym (append_assoc (decimal k) xs ys))
    begun_before-append (behind_term up t) xs = ap (around_before text logic up) (plain_term-append text ys t xs) ∙ around_before-append up (plain_term text t xs)
