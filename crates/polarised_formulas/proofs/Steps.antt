-- A line byte by byte, for a machine that holds this one.
use Rattle.std.proofs.Common.{◌≡◌, ℕ, List, [], ◌∷◌, ◌++◌, sym, ap, ◌∙◌}
use Rattle.polarised_formulas.specs.declared.logic.Logic.{Logic}
use Rattle.polarised_formulas.specs.PlainReading.{Reading, Next, on, whole_term, whole_formula, wrong, next, run}
use Rattle.polarised_formulas.proofs.Begins.{stays_wrong}

-- a machine of states S goes on as this one, and from what is whole to a state of its own
pub record Follows (S : Type 0) (number : List ℕ → ℕ) (logic : Logic) (step : S → ℕ → S) (inside : Next → S) : Type 0 where
  pub follows : (q : Reading) (b : ℕ) → step (inside (on q)) b ≡ inside (next number logic q b)

-- the bytes through a machine
abbrev pub through : {S : Type 0} → (S → ℕ → S) → S → List ℕ → S
through step s [] = s
through step s (b ∷ bs) = through step (step s b) bs

-- what is whole is reached by the machine with the same bytes, in front of others
module _ (S : Type 0) (number : List ℕ → ℕ) (logic : Logic) (step : S → ℕ → S) (inside : Next → S) (follows : Follows S number logic step inside) (w : Next) (not_wrong : wrong ≡ w → ⊥) where
  pub through-line : (bs : List ℕ) (n : Next) → run number logic n bs ≡ w → (rest : List ℕ) → through step (inside n) (bs ++ rest) ≡ through step (inside w) rest
  through-line [] n e rest = ap (λ m. through step (inside m) rest) e
  through-line (b ∷ bs) (on q) e rest = ap (λ s. through step s (bs ++ rest)) (follows.follows q b) ∙ through-line bs (next number logic q b) e rest
  through-line (b ∷ bs) (whole_term t) e rest = absurd (not_wrong (sym (stays_wrong number logic bs) ∙ e))
  through-line (b ∷ bs) (whole_formula f) e rest = absurd (not_wrong (sym (stays_wrong number logic bs) ∙ e))
  through-line (b ∷ bs) wrong e rest = absurd (not_wrong (sym (stays_wrong number logic bs) ∙ e))
