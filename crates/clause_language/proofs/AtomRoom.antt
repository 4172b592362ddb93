-- How much room the text of an atom takes.
use Rattle.std.proofs.Common.{◌≡◌, ℕ, ◌+◌, ◌<◌, List, [], ◌∷◌, ◌++◌, drop, length, refl, ap, sym, ◌∙◌, arith, length-append, Some, None}
use Rattle.std.proofs.lemmas.Bool.Decides.{nat_tests}
use Rattle.fpc_terms.specs.Term.{Term}
use Rattle.fpc_terms.specs.Text.{name_in, plain_leaves, term_before, args_before, more_before, term_text, room_left}
use Rattle.polarised_formulas.proofs.PrintFacts.{term_before-append}
use Rattle.clause_language.specs.Text.{args_of}

pub room-next : (room n m left : ℕ) → Some left ≡ room_left room n → room_left room (n + m) ≡ room_left left m
room-next room n m left h = grind (arith, nat_tests)

pub room-none : (room n m : ℕ) → None ≡ room_left room n → None ≡ room_left room (n + m)
room-none room n m h = grind (arith, nat_tests)

module _ (names : List (List ℕ)) where
  -- the text of arguments behind one
  abbrev behind : List Term → List ℕ
  behind ts = more_before (plain_leaves (name_in names)) (args_of ts) []

  -- the text of an argument with others behind it
  length-argument : (t : Term) (ts : List Term) → length (behind (t ∷ ts)) ≡ (1 + length (term_text names t)) + length (behind ts)
  length-argument t ts =
      let parts : term_text names t ++ behind ts ≡ term_before (plain_leaves (name_in names)) t (behind ts) = term_before-append (plain_leaves (name_in names)) t [] (behind ts) in
      omega (arith, ap length parts, length-append (term_text names t) (behind ts))

  -- the first argument stands behind a parenthesis and the others behind a comma: both are one byte
  length-arguments : (all : List Term) → 0 < length all → length (behind all) ≡ length (args_before (plain_leaves (name_in names)) (args_of all) [])
  length-arguments [] lt = absurd (omega (arith, lt))
  length-arguments (t ∷ ts) lt = refl

  module _ (all : List Term) (i : ℕ) (t : Term) (left room : ℕ) (parts : drop i all ≡ t ∷ drop (i + 1) all)
      (so_far : room_left left (length (behind (drop i all))) ≡ room_left room (length (behind all))) where
    here : room_left left ((1 + length (term_text names t)) + length (behind (drop (i + 1) all))) ≡ room_left room (length (behind all))
    here = ap (room_left left) (sym (ap (λ ts. length (behind ts)) parts ∙ length-argument t (drop (i + 1) all))) ∙ so_far

    -- one argument more
    pub room-argument : (next : ℕ) → Some next ≡ room_left left (1 + length (term_text names t))
        → room_left next (length (behind (drop (i + 1) all))) ≡ room_left room (length (behind all))
    room-argument next h = sym (room-next left (1 + length (term_text names t)) (length (behind (drop (i + 1) all))) next h) ∙ here

    -- an argument that doesn't fit
    pub room-spent : 0 < length all → None ≡ room_left left (1 + length (term_text names t))
        → None ≡ room_left room (length (args_before (plain_leaves (name_in names)) (args_of all) []))
    room-spent lt h =
        room-none left (1 + length (term_text names t)) (length (behind (drop (i + 1) all))) h ∙ here ∙ ap (room_left room) (length-arguments all lt)
