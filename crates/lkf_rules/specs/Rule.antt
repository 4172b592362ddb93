-- The rules of LKF, after Liang and Miller: a conclusion and its premises, by these lines and no others.
use Rattle.std.specs.Prelude.{◌≡◌, ℕ, Bool, true, false, List, [], ◌∷◌, ◌++◌}
use Rattle.fpc_terms.specs.Term.{Term, Args, eigen, IsProperTerm, Always}
use Rattle.polarised_formulas.specs.declared.logic.Polarity.TheVariants.{Positive, Negative}
use Rattle.polarised_formulas.specs.Formula.{Formula, truth, falsity, atom, conj, disj, implies, for_all, exists, polarity_of, dual_of, open_at, IsProper, IsLkf}
use Rattle.lkf_rules.specs.Sequent.{Sequent, up, down, IsFresh, StandsIn}

-- a positive formula or a negative literal
abbrev pub is_storable : Formula → Bool
is_storable (truth Positive) = true
is_storable (truth Negative) = false
is_storable (falsity Positive) = true
is_storable (falsity Negative) = false
is_storable (atom positive name ts) = true
is_storable (conj Positive a b) = true
is_storable (conj Negative a b) = false
is_storable (disj Positive a b) = true
is_storable (disj Negative a b) = false
is_storable (implies a b) = false
is_storable (for_all a) = false
is_storable (exists a) = true

-- The instances of the rules, a conclusion and its premises: one line for each rule.
pub data Rule : Sequent → List Sequent → Type 0 where
  true_negative : (s g : List Formula) → Rule (up s (truth Negative ∷ g)) []
  false_negative : (s g : List Formula) → Rule (up s (falsity Negative ∷ g)) (up s g ∷ [])
  or_negative : (s g : List Formula) (a b : Formula) → Rule (up s (disj Negative a b ∷ g)) (up s (a ∷ b ∷ g) ∷ [])
  and_negative : (s g : List Formula) (a b : Formula) → Rule (up s (conj Negative a b ∷ g)) (up s (a ∷ g) ∷ up s (b ∷ g) ∷ [])
  every : (s g : List Formula) (a : Formula) (j : ℕ) → IsFresh j (up s (for_all a ∷ g)) →
      Rule (up s (for_all a ∷ g)) (up s (open_at 0 (eigen j) a ∷ g) ∷ [])
  store : (s g : List Formula) (f : Formula) → is_storable f ≡ true → Rule (up s (f ∷ g)) (up (s ++ f ∷ []) g ∷ [])
  decide : (s : List Formula) (f : Formula) → StandsIn s f → polarity_of f ≡ Positive → Rule (up s []) (down s f ∷ [])
  cut : (s : List Formula) (b : Formula) → IsProper Always b → IsLkf b → Rule (up s []) (up s (b ∷ []) ∷ up s (dual_of b ∷ []) ∷ [])
  true_positive : (s : List Formula) → Rule (down s (truth Positive)) []
  and_positive : (s : List Formula) (a b : Formula) → Rule (down s (conj Positive a b)) (down s a ∷ down s b ∷ [])
  or_left : (s : List Formula) (a b : Formula) → Rule (down s (disj Positive a b)) (down s a ∷ [])
  or_right : (s : List Formula) (a b : Formula) → Rule (down s (disj Positive a b)) (down s b ∷ [])
  some : (s : List Formula) (a : Formula) (t : Term) → IsProperTerm Always t → Rule (down s (exists a)) (down s (open_at 0 t a) ∷ [])
  release : (s : List Formula) (f : Formula) → polarity_of f ≡ Negative → Rule (down s f) (up s (f ∷ []) ∷ [])
  initial : (s : List Formula) (name : ℕ) (ts : Args) → StandsIn s (atom false name ts) → Rule (down s (atom true name ts)) []
