-- Eigenvariables cell by cell, and weaker facts of leaves.
use Rattle.std.proofs.Common.{◌≡◌, ℕ, List, [], refl}
use Rattle.std.specs.Prelude.{Bool, true, false, ◌||◌}
use Rattle.std.specs.List.{list_any}
use Rattle.std.proofs.Math.Bool.{or_assoc}
use Rattle.fpc_terms.specs.declared.cell.Cell.{Cell}
use Rattle.fpc_terms.specs.Term.{Term, Args, eigen, bound, variable, app, no_args, arg, cells_before, all_before, cells_of, has_eigen_from, any_has_eigen_from, Each, EachArg}
use Rattle.fpc_terms.specs.Scope.{is_eigen_from}

mutual
  pub any-cells_before : (n : ℕ) (t : Term) (cs : List Cell) → list_any (is_eigen_from n) (cells_before t cs) ≡ (has_eigen_from n t || list_any (is_eigen_from n) cs)
  any-cells_before n (eigen m) cs = refl
  any-cells_before n (bound k) cs = refl
  any-cells_before n (variable v) cs = refl
  any-cells_before n (app f ts) cs = any-all_before n ts cs

  pub any-all_before : (n : ℕ) (ts : Args) (cs : List Cell) → list_any (is_eigen_from n) (all_before ts cs) ≡ (any_has_eigen_from n ts || list_any (is_eigen_from n) cs)
  any-all_before n no_args cs = refl
  any-all_before n (arg t ts) cs = rw (any-cells_before n t (all_before ts cs), any-all_before n ts cs, or_assoc)

pub or_nothing : (b : Bool) → (b || false) ≡ b
or_nothing true = refl
or_nothing false = refl

pub any-cells_of : (n : ℕ) (t : Term) → list_any (is_eigen_from n) (cells_of t) ≡ has_eigen_from n t
any-cells_of n t = rw (any-cells_before n t [], or_nothing (has_eigen_from n t))

-- weaker facts hold of the leaves too
module _ {e e' b b' v v' : ℕ → Type 0} (eigens : (n : ℕ) → e n → e' n) (bounds : (n : ℕ) → b n → b' n) (variables : (n : ℕ) → v n → v' n) where
  mutual
    pub Each-weaker : (t : Term) → Each e b v t → Each e' b' v' t
    Each-weaker (eigen n) h = eigens n h
    Each-weaker (bound k) h = bounds k h
    Each-weaker (variable n) h = variables n h
    Each-weaker (app f ts) h = EachArg-weaker ts h

    pub EachArg-weaker : (ts : Args) → EachArg e b v ts → EachArg e' b' v' ts
    EachArg-weaker no_args h = tt
    EachArg-weaker (arg t ts) h = (Each-weaker t h.0, EachArg-weaker ts h.1)

pub ruleset scope_facts = (any-cells_of)
