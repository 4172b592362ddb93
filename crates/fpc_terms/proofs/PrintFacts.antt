-- Cell by cell the text of a term comes about.
use Rattle.std.proofs.Common.{◌≡◌, ℕ, ◌<◌, ◌-◌, List, [], ◌∷◌, ◌++◌, length, take, refl, ap, arith, append-nil}
use Rattle.std.specs.Prelude.{Bool, true, false, if◌then◌else◌, zero, suc}
use Rattle.fpc_terms.specs.declared.cell.Cell.{Cell}
use Rattle.fpc_terms.specs.Term.{Term, Args, eigen, bound, variable, app, no_args, arg, count, cells_before, all_before, cells_of}
use Rattle.fpc_terms.specs.Text.{Leaves, term_before, more_before}
use Rattle.fpc_terms.specs.Printing.{StartsWith, HasNamesBelow, HaveNamesBelow, AreNamedBelow, end_text, end_counts, behind_text, behind_counts, cells_text}

mutual
  cells_text-cells_before : (leaves : Leaves) (t : Term) (s : List ℕ) (cs : List Cell) →
      cells_text leaves s (cells_before t cs) ≡ term_before leaves t (end_text s ++ cells_text leaves (end_counts s) cs)
  cells_text-cells_before leaves (eigen n) s cs = refl
  cells_text-cells_before leaves (bound k) s cs = refl
  cells_text-cells_before leaves (variable v) s cs = refl
  cells_text-cells_before leaves (app f no_args) s cs = refl
  cells_text-cells_before leaves (app f (arg t ts)) s cs = rw (cells_text-cells_before leaves t (count ts ∷ s) (all_before ts cs), cells_text-all_before leaves ts s cs)

  -- the arguments behind one
  cells_text-all_before : (leaves : Leaves) (ts : Args) (s : List ℕ) (cs : List Cell) →
      end_text (count ts ∷ s) ++ cells_text leaves (end_counts (count ts ∷ s)) (all_before ts cs) ≡ more_before leaves ts (end_text s ++ cells_text leaves (end_counts s) cs)
  cells_text-all_before leaves no_args s cs = refl
  cells_text-all_before leaves (arg t ts) s cs = rw (cells_text-cells_before leaves t (count ts ∷ s) (all_before ts cs), cells_text-all_before leaves ts s cs)

-- all cells together are the text of the term
pub cells_text-cells_of : (leaves : Leaves) (t : Term) → cells_text leaves [] (cells_of t) ≡ term_before leaves t []
cells_text-cells_of leaves t = cells_text-cells_before leaves t [] []

mutual
  pub AreNamedBelow-cells_before : (n : ℕ) (t : Term) (cs : List Cell) → HasNamesBelow n t → AreNamedBelow n cs → AreNamedBelow n (cells_before t cs)
  AreNamedBelow-cells_before n (eigen m) cs h hs = (tt, hs)
  AreNamedBelow-cells_before n (bound k) cs h hs = (tt, hs)
  AreNamedBelow-cells_before n (variable v) cs h hs = (tt, hs)
  AreNamedBelow-cells_before n (app f ts) cs h hs = (h.0, AreNamedBelow-all_before n ts cs h.1 hs)

  pub AreNamedBelow-all_before : (n : ℕ) (ts : Args) (cs : List Cell) → HaveNamesBelow n ts → AreNamedBelow n cs → AreNamedBelow n (all_before ts cs)
  AreNamedBelow-all_before n no_args cs h hs = hs
  AreNamedBelow-all_before n (arg t ts) cs h hs = AreNamedBelow-cells_before n t (all_before ts cs) h.0 (AreNamedBelow-all_before n ts cs h.1 hs)

pub AreNamedBelow-cells_of : (n : ℕ) (t : Term) → HasNamesBelow n t → AreNamedBelow n (cells_of t)
AreNamedBelow-cells_of n t h = AreNamedBelow-cells_before n t [] h tt

-- behind the head of a cell with arguments
pub behind_text-some : (n : ℕ) (s : List ℕ) → 0 < n → behind_text n s ≡ 40 ∷ []
behind_text-some zero s h = let no : ⊥ = omega arith in absurd no
behind_text-some (suc n) s h = refl

pub behind_counts-some : (n : ℕ) (s : List ℕ) → 0 < n → behind_counts n s ≡ (n - 1) ∷ s
behind_counts-some zero s h = let no : ⊥ = omega arith in absurd no
behind_counts-some (suc n) s h = ap (λ k. k ∷ s) (omega arith)

starts-taken : (a b : List ℕ) → take (length a) (a ++ b) ≡ a
starts-taken [] b = refl
starts-taken (x ∷ a) b = ap (λ l. x ∷ l) (starts-taken a b)

taken-more : (a b c : List ℕ) → take (length a) b ≡ a → take (length b) c ≡ b → take (length a) c ≡ a
taken-more [] b c h k = refl
taken-more (x ∷ a) [] c h k = cc
taken-more (x ∷ a) (y ∷ b) [] h k = cc
taken-more (x ∷ a) (y ∷ b) (z ∷ c) h k = let heads : z ≡ x = cc in let tails : take (length a) c ≡ a = taken-more a b c (cc) (cc) in rw (heads, tails)

pub StartsWith-same : (a : List ℕ) → StartsWith a a
StartsWith-same a = record { taken = rw (append-nil a) at (starts-taken a []) }

pub StartsWith-more : (a b c : List ℕ) → StartsWith a b → StartsWith b c → StartsWith a c
StartsWith-more a b c h k = record { taken = taken-more a b c h.taken k.taken }

pub StartsWith-written : (written : Bool) (a b c : List ℕ) → c ≡ (if written then a ++ b else a) → StartsWith a c
StartsWith-written true a b c e = record { taken = rw e (starts-taken a b) }
StartsWith-written false a b c e = rw e (StartsWith-same a)

pub ruleset front_facts = (StartsWith-same, StartsWith-more, StartsWith-written)

pub ruleset print_facts = (front_facts, cells_text-cells_of, AreNamedBelow-cells_of, behind_text-some, behind_counts-some)
