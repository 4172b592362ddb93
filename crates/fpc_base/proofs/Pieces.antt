-- A piece that is taken from a place in a list, and what is after it.
use Rattle.std.proofs.Common.{◌≡◌, ℕ, ◌+◌, ◌-◌, List, ◌++◌, length, take, drop, sym, arith, length-drop}
use Rattle.std.proofs.lemmas.List.{take_all, take-append-drop, drop-drop}

pub take-from : (xs piece : List ℕ) (at n : ℕ) → piece ≡ take n (take (length xs - at) (drop at xs)) → drop at xs ≡ piece ++ drop (at + n) xs
take-from xs piece at n e =
    let whole : take (length xs - at) (drop at xs) ≡ drop at xs = take_all (length xs - at) (drop at xs) (omega (arith, length-drop at xs)) in
    let front : piece ≡ take n (drop at xs) = rw whole at e in
    rw (front, ← drop-drop n at xs) (sym (take-append-drop n (drop at xs)))
