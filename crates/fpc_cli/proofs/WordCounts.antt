-- Words of a known number.
use Rattle.std.proofs.Common.{◌≡◌, ℕ, List, [], ◌∷◌, length, Some, refl, sym, arith}
use Rattle.std.specs.Prelude.{slice_get}
use Rattle.fpc_cli.specs.Command.{asked_by, short_asked, guided_asked, long_guided_asked}

-- three words ask for what a command and two words behind it ask for
pub three-words : (words : List (List ℕ)) (a b c : List ℕ) → length words ≡ 3 → slice_get words 0 ≡ Some a → slice_get words 1 ≡ Some b → slice_get words 2 ≡ Some c
    → short_asked a b c ≡ asked_by words
three-words [] a b c n f s t = absurd (omega (arith, n))
three-words (x ∷ []) a b c n f s t = absurd (omega (arith, n))
three-words (x ∷ y ∷ []) a b c n f s t = absurd (omega (arith, n))
three-words (x ∷ y ∷ z ∷ []) a b c n f s t =
    let first : x ≡ a = cc in
    let second : y ≡ b = cc in
    let third : z ≡ c = cc in
    let same : short_asked x y z ≡ short_asked a b c = cc in sym same
three-words (x ∷ y ∷ z ∷ w ∷ ws) a b c n f s t = absurd (omega (arith, n))

-- so do four words
pub four-words : (words : List (List ℕ)) (a b c d : List ℕ) → length words ≡ 4 → slice_get words 0 ≡ Some a → slice_get words 1 ≡ Some b → slice_get words 2 ≡ Some c → slice_get words 3 ≡ Some d
    → guided_asked a b c d ≡ asked_by words
four-words [] a b c d n h0 h1 h2 h3 = absurd (omega (arith, n))
four-words (x ∷ []) a b c d n h0 h1 h2 h3 = absurd (omega (arith, n))
four-words (x ∷ y ∷ []) a b c d n h0 h1 h2 h3 = absurd (omega (arith, n))
four-words (x ∷ y ∷ z ∷ []) a b c d n h0 h1 h2 h3 = absurd (omega (arith, n))
four-words (x ∷ y ∷ z ∷ w ∷ []) a b c d n h0 h1 h2 h3 =
    let e0 : x ≡ a = cc in
    let e1 : y ≡ b = cc in
    let e2 : z ≡ c = cc in
    let e3 : w ≡ d = cc in
    let same : guided_asked x y z w ≡ guided_asked a b c d = rw (e0, e1, e2, e3) refl in sym same
four-words (x ∷ y ∷ z ∷ w ∷ t ∷ ts) a b c d n h0 h1 h2 h3 = absurd (omega (arith, n))

-- and six words
pub six-words : (words : List (List ℕ)) (a b c d e f : List ℕ) → length words ≡ 6 → slice_get words 0 ≡ Some a → slice_get words 1 ≡ Some b → slice_get words 2 ≡ Some c → slice_get words 3 ≡ Some d
    → slice_get words 4 ≡ Some e → slice_get words 5 ≡ Some f → long_guided_asked a b c d e f ≡ asked_by words
six-words [] a b c d e f n h0 h1 h2 h3 h4 h5 = absurd (omega (arith, n))
six-words (u ∷ []) a b c d e f n h0 h1 h2 h3 h4 h5 = absurd (omega (arith, n))
six-words (u ∷ v ∷ []) a b c d e f n h0 h1 h2 h3 h4 h5 = absurd (omega (arith, n))
six-words (u ∷ v ∷ w ∷ []) a b c d e f n h0 h1 h2 h3 h4 h5 = absurd (omega (arith, n))
six-words (u ∷ v ∷ w ∷ x ∷ []) a b c d e f n h0 h1 h2 h3 h4 h5 = absurd (omega (arith, n))
six-words (u ∷ v ∷ w ∷ x ∷ y ∷ []) a b c d e f n h0 h1 h2 h3 h4 h5 = absurd (omega (arith, n))
six-words (u ∷ v ∷ w ∷ x ∷ y ∷ z ∷ []) a b c d e f n h0 h1 h2 h3 h4 h5 =
    let e0 : u ≡ a = cc in
    let e1 : v ≡ b = cc in
    let e2 : w ≡ c = cc in
    let e3 : x ≡ d = cc in
    let e4 : y ≡ e = cc in
    let e5 : z ≡ f = cc in
    let same : long_guided_asked u v w x y z ≡ long_guided_asked a b c d e f = cc in sym same
six-words (u ∷ v ∷ w ∷ x ∷ y ∷ z ∷ more ∷ ws) a b c d e f n h0 h1 h2 h3 h4 h5 = absurd (omega (arith, n))
