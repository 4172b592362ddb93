-- Places in a list that is told from its end.
use Rattle.std.proofs.Common.{◌≡◌, ℕ, suc, ◌+◌, ◌≤◌, ◌<◌, List, [], ◌∷◌, ◌++◌, length, take, drop, reverse, sym, ap, ◌∙◌, arith, get_or}
use Rattle.std.proofs.Math.Seq.{split_at}
use Rattle.std.proofs.lemmas.List.{reverse-append, length-reverse, length-take, length-append, take-append-drop, append_assoc}
use Rattle.explicit_kernel.specs.Stack.{StandsAt, IsLowest, IsBefore}

reverse-around : {X : Type 0} (front back : List X) (x : X) → reverse (front ++ x ∷ back) ≡ reverse back ++ x ∷ reverse front
reverse-around front back x =
    reverse-append front (x ∷ back) ∙ ap (λ l. l ++ reverse front) (reverse-append (x ∷ []) back) ∙ append_assoc (reverse back) (x ∷ []) (reverse front)

pub stands-at : {X : Type 0} (xs : List X) (n : ℕ) (x : X) → n < length xs → x ≡ get_or xs n x → StandsAt (reverse xs) n x
stands-at xs n x h e = (
  reverse (drop (suc n) xs),
  reverse (take n xs),
  ap reverse (split_at xs n x h ∙ ap (λ y. take n xs ++ y ∷ drop (suc n) xs) (sym e)) ∙ reverse-around (take n xs) (drop (suc n) xs) x,
  omega (arith, h, length-reverse (take n xs), length-take n xs),
)

pub lowest : {X : Type 0} (xs ys : List X) (n : ℕ) → n ≤ length xs → ys ≡ take n xs → IsLowest (reverse xs) n (reverse ys)
lowest xs ys n h e = rw e
    (reverse (drop n xs), ap reverse (sym (take-append-drop n xs)) ∙ reverse-append (take n xs) (drop n xs), omega (arith, h, length-reverse (take n xs), length-take n xs))

pub stands-before : {X : Type 0} (xs ys : List X) (n : ℕ) (x : X) → n < length xs → take (n + 1) xs ≡ ys ++ x ∷ [] → IsBefore (reverse xs) n x (reverse ys)
stands-before xs ys n x h e = (
  reverse (drop (n + 1) xs),
  ap reverse (sym (take-append-drop (n + 1) xs)) ∙ reverse-append (take (n + 1) xs) (drop (n + 1) xs)
      ∙ ap (λ l. reverse (drop (n + 1) xs) ++ l) (ap reverse e ∙ reverse-append ys (x ∷ [])),
  omega (arith, h, length-reverse ys, ap length e, length-append ys (x ∷ []), length-take (n + 1) xs),
)
