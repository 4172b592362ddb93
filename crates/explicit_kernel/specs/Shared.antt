-- Sequents still to be derived that share their formulas.
use Rattle.std.specs.Prelude.{◌≡◌, ℕ, suc, ◌≤◌, nat_eq, if◌then◌else◌, List, [], ◌∷◌, ◌++◌, length, map, take}
use Rattle.std.specs.List.{AllByRecursion}
use Rattle.fpc_terms.specs.Term.{Term}
use Rattle.polarised_formulas.specs.declared.logic.Polarity.TheVariants.{Positive}
use Rattle.polarised_formulas.specs.Formula.{Formula, truth}
use Rattle.polarised_formulas.specs.Closure.{Closure, stands_for}
use Rattle.polarised_formulas.specs.Held.{given, closure_reach, AreUnbound}
use Rattle.polarised_formulas.specs.declared.held.Given.{Given}
use Rattle.lkf_rules.specs.Sequent.{Sequent, up, down, Levelled}
use Rattle.explicit_kernel.specs.declared.shared.Cell.{Cell}
use Rattle.explicit_kernel.specs.declared.shared.Task.{Task}
use Rattle.explicit_kernel.specs.declared.shared.Task.TheVariants.{Work, Focus}
use Rattle.explicit_kernel.specs.declared.shared.Open.{Open}
use Rattle.explicit_kernel.specs.declared.shared.Shared.{Shared}

-- a formula as it is held
abbrev pub Held : Type 0
Held = Closure Given

-- the formula that it stands for, by a table of terms
abbrev pub meant : List Term → Held → Formula
meant ts h = stands_for (given ts) h

-- the first n terms of a table serve it
abbrev pub IsServed : ℕ → Held → Type 0
IsServed n h = closure_reach h ≤ n

abbrev pub AreServed : ℕ → List Held → Type 0
AreServed n hs = AllByRecursion (IsServed n) hs

-- what is held from the n-th cell on, counted from 1, where the last cell comes first; 0 is the end
abbrev pub chain : List Cell → ℕ → List Held
chain [] n = []
chain (c ∷ cs) n = if nat_eq n (suc (length cs)) then c.formula ∷ chain cs c.next else chain cs n

-- each cell goes on at one below
abbrev pub GoDown : List Cell → Type 0
GoDown [] = Unit {0}
GoDown (c ∷ cs) = (c.next ≤ length cs) × GoDown cs

-- the first formula of a list that has one
abbrev pub first_of : List Formula → Formula
first_of [] = truth Positive
first_of (f ∷ g) = f

-- the sequent with these stored formulas
abbrev pub sequent_of : List Term → List Held → List Cell → Task → Sequent
sequent_of ts s cs (Work n) = up (map (meant ts) s) (map (meant ts) (chain cs n))
sequent_of ts s cs (Focus n) = down (map (meant ts) s) (first_of (map (meant ts) (chain cs n)))

-- the sequents with their levels
abbrev pub sequents_of : List Term → List Held → List Cell → List Open → List Levelled
sequents_of ts s cs [] = []
sequents_of ts s cs (o ∷ os) = (o.level, sequent_of ts (take o.stored s) cs o.task) ∷ sequents_of ts s cs os

-- the task works on no cell above the n-th
abbrev pub IsBelow : ℕ → Task → Type 0
IsBelow n (Work k) = k ≤ n
IsBelow n (Focus k) = k ≤ n

-- the sequents need no more than so many cells and stored formulas, and those behind the first no
-- more than it says
abbrev pub AreBelow : ℕ → ℕ → List Open → Type 0
AreBelow n k [] = Unit {0}
AreBelow n k (o ∷ os) = (o.stored ≤ k) × (o.floor ≤ n) × IsBelow n o.task × AreBelow o.floor o.stored os

-- the first n terms serve what the task works on; under focus is one formula
abbrev pub IsServedTask : ℕ → List Cell → Task → Type 0
IsServedTask n cs (Work k) = AreServed n (chain cs k)
IsServedTask n cs (Focus k) = (h : Held) × (chain cs k ≡ h ∷ []) × IsServed n h

-- so many terms serve the sequents, and those behind the first need no more than it says
abbrev pub AreServedAll : ℕ → List Held → List Cell → List Open → Type 0
AreServedAll n s cs [] = Unit {0}
AreServedAll n s cs (o ∷ os) =
    (o.terms ≤ n) × AreServed o.terms (take o.stored s) × IsServedTask o.terms cs o.task × AreServedAll o.terms s cs os

-- the sequents need no more than the lowest n cells, the stored formulas and the terms, and the
-- cells go down
pub record IsReady (n : ℕ) (x : Shared) : Type 0 where
  pub below : AreBelow n (length x.stored.items) x.sequents
  pub floor : n ≤ length x.cells
  pub down : GoDown x.cells
  pub served : AreServedAll (length x.terms.items) x.stored.items x.cells x.sequents
  pub stored_served : AreServed (length x.terms.items) x.stored.items
  pub unbound : AreUnbound x.terms.items

abbrev pub IsSound : Shared → Type 0
IsSound x = IsReady (length x.cells) x

-- a worked list begins at the place, and the terms serve it
abbrev pub IsPlace : Shared → ℕ → Type 0
IsPlace x n = (n ≤ length x.cells) × AreServed (length x.terms.items) (chain x.cells n)

-- the formulas that are stored
abbrev pub stored_of : Shared → List Formula
stored_of x = map (meant x.terms.items) x.stored.items

-- the worked list at a place
abbrev pub worked_at : Shared → ℕ → List Formula
worked_at x n = map (meant x.terms.items) (chain x.cells n)

-- the sequents that are shared
abbrev pub pending_of : Shared → List Levelled
pending_of x = sequents_of x.terms.items x.stored.items x.cells x.sequents

-- cells were put on top
pub record Grows (old new : Shared) : Type 0 where
  pub stored : new.stored ≡ old.stored
  pub terms : new.terms ≡ old.terms
  pub pending : pending_of new ≡ pending_of old
  pub longer : length old.cells ≤ length new.cells
  pub ready : (floor : ℕ) → IsReady floor old → IsReady floor new
  pub chains : (n : ℕ) → n ≤ length old.cells → chain new.cells n ≡ chain old.cells n

-- the sequent that was taken off the others, with these formulas and terms
abbrev pub taken_sequent : Open → Shared → Sequent
taken_sequent o x = sequent_of x.terms.items (take o.stored x.stored.items) x.cells o.task

-- the sequent was the next one, and the others are left
pub record IsTaken (o : Open) (x : Shared) : Type 0 where
  pub stored : o.stored ≤ length x.stored.items
  pub terms : o.terms ≤ length x.terms.items
  pub floor : o.floor ≤ length x.cells
  pub task : IsBelow (length x.cells) o.task
  pub below : AreBelow o.floor o.stored x.sequents
  pub own_stored : AreServed o.terms (take o.stored x.stored.items)
  pub own_task : IsServedTask o.terms x.cells o.task
  pub served : AreServedAll o.terms x.stored.items x.cells x.sequents
  pub down : GoDown x.cells
  pub unbound : AreUnbound x.terms.items

-- terms were put behind the others
pub record HasTerms (old new : Shared) : Type 0 where
  pub stored : new.stored ≡ old.stored
  pub cells : new.cells ≡ old.cells
  pub sequents : new.sequents ≡ old.sequents
  pub more : List Term
  pub terms : new.terms.items ≡ old.terms.items ++ more
  pub unbound : AreUnbound more

-- the cell is the first of the worked list at a place, whose rest is left
pub record IsFirst (c : Cell) (n : ℕ) (old new : Shared) : Type 0 where
  pub list : chain old.cells n ≡ c.formula ∷ chain new.cells c.next
  pub formula : IsServed (length new.terms.items) c.formula
  pub rest : IsPlace new c.next
