-- How some of the variables that are bound are left.
use Rattle.std.proofs.Common.{◌≡◌, ℕ, ◌≤◌, true, false, List, [], ◌∷◌, length, refl, arith, nat_le}
use Rattle.std.proofs.lemmas.Bool.Decides.{nat_tests}
use Rattle.polarised_formulas.specs.Bound.{outermost}

-- so many of them or fewer are left as they are
pub outermost-all : (n : ℕ) (xs : List (List ℕ)) → length xs ≤ n → outermost n xs ≡ xs
outermost-all n [] h = refl
outermost-all n (x ∷ xs) h = let e : nat_le (length (x ∷ xs)) n ≡ true = grind (arith, nat_tests) in rw e refl

-- the innermost goes, where there are more
pub outermost-later : (n : ℕ) (x : List ℕ) (xs : List (List ℕ)) → n ≤ length xs → outermost n (x ∷ xs) ≡ outermost n xs
outermost-later n x xs h = let e : nat_le (length (x ∷ xs)) n ≡ false = grind (arith, nat_tests) in rw e refl
