-- What is the same but for the numbers of its names, which are related by S: programs, the goals
-- and alternatives of a search, its calculi and tables.
use Rattle.std.specs.Prelude.{◌≡◌, ℕ, ◌<◌, nat_eq, List, [], ◌∷◌, length}
use Rattle.fpc_terms.specs.Open.{Level}
use Rattle.fpc_terms.specs.Term.{Term}
use Rattle.fpc_terms.specs.Text.{name_in}
use Rattle.fpc_terms.specs.Same.{SameTerm, SameList}
use Rattle.polarised_formulas.specs.Formula.{Formula}
use Rattle.polarised_formulas.specs.declared.step.Step.{Step}
use Rattle.polarised_formulas.specs.Same.{SameFormula}
use Rattle.polarised_formulas.specs.Same.{SameStep}
use Rattle.clause_language.specs.declared.atom.Atom.{Atom}
use Rattle.clause_language.specs.declared.clause.Clause.{Clause}
use Rattle.clause_language.specs.declared.declaration.DeclaredFormula.{DeclaredFormula}
use Rattle.clause_language.specs.declared.program.Program.{Program}
use Rattle.clause_language.specs.Program.{ids_of}
use Rattle.search_model.specs.Run.{Ending, ended, spent}
use Rattle.search_model.specs.Search.{Choice, SearchCalculus, Goal, call, equate, emit, item}
use Rattle.search_model.specs.Search.{GoalList, Alternative, Answer, accepted, rejected, search}
use Rattle.search_model.specs.Table.{ItemOn, derive, pick, init_pick, cut, Table}
use Rattle.search_model.specs.declared.plain.Outcome.{Outcome}
use Rattle.search_model.specs.declared.plain.Outcome.TheVariants as outcome
use Rattle.search_model.specs.declared.stored.Stored.{Stored}

-- two numbers are equal on the one side exactly where the related ones are on the other
abbrev pub IsOneToOne : (ℕ → ℕ → Type 0) → Type 0
IsOneToOne S = (f g m n : ℕ) → S f m → S g n → nat_eq f g ≡ nat_eq m n

-- the two numbers stand in their tables, and have the same name there
abbrev pub AreOneName : List (List ℕ) → List (List ℕ) → ℕ → ℕ → Type 0
AreOneName names others m n =
    (m < length names) × (n < length others) × (name_in names m ≡ name_in others n)

-- the two lists, perhaps of different types, have related items, place by place
pub data AreRelated {X Y : Type 0} (R : X → Y → Type 0) : List X → List Y → Type 0 where
  related_nil : AreRelated R [] []
  related_cons : {x : X} {y : Y} {xs : List X} {ys : List Y} → R x y → AreRelated R xs ys
      → AreRelated R (x ∷ xs) (y ∷ ys)

-- the two atoms are the same but for the numbers of their names
pub record SameAtom (S : ℕ → ℕ → Type 0) (a b : Atom) : Type 0 where
  pub names : S a.name b.name
  pub terms : SameList (SameTerm S) a.arguments b.arguments

-- so are the two clauses
pub record SameClause (S : ℕ → ℕ → Type 0) (c d : Clause) : Type 0 where
  pub heads : SameAtom S c.head d.head
  pub bodies : SameList (SameAtom S) c.body d.body
  pub as_many : c.variables ≡ d.variables

-- so are the two declared formulas
pub record SameDeclared (S : ℕ → ℕ → Type 0) (c d : DeclaredFormula) : Type 0 where
  pub names : S c.name d.name
  pub as_many : c.parameters ≡ d.parameters
  pub formulas : SameFormula S c.formula d.formula

-- so are the two programs
pub record SameProgram (S : ℕ → ℕ → Type 0) (p q : Program) : Type 0 where
  pub in_logic : p.logic ≡ q.logic
  pub declared : SameList (SameDeclared S) p.declared q.declared
  pub clauses : SameList (SameClause S) p.clauses q.clauses
  pub terms : SameTerm S p.term q.term
  pub as_many : p.variables ≡ q.variables
  pub words : SameList S (ids_of p.ids) (ids_of q.ids)

-- the choice chooses alike for atoms that are the same but for the numbers of their names
abbrev pub ChoosesAlike : (ℕ → ℕ → Type 0) → Choice → Type 0
ChoosesAlike S choice =
    (a b c d : Atom) → SameAtom S a b → SameAtom S c d → choice a c ≡ choice b d

-- the two stored formulas, with their indexes, are the same but for the numbers of their names
pub record SameStored (S : ℕ → ℕ → Type 0) (i j : Stored) : Type 0 where
  pub indexes : SameTerm S i.index j.index
  pub formulas : SameFormula S i.formula j.formula

-- the two items are the same but for the numbers of their names, over sequents that are related
-- by R
pub data SameItem (S : ℕ → ℕ → Type 0) {V W : Type 0} (R : V → W → Type 0)
    : ItemOn V → ItemOn W → Type 0 where
  same_derive : {x y : Term} → (n : ℕ) → {q : V} {r : W} → SameTerm S x y → R q r
      → SameItem S R (derive x n q) (derive y n r)
  same_pick : {x y l m : Term} → (n : ℕ) → {q : V} {r : W} → SameTerm S x y → SameTerm S l m
      → R q r → SameItem S R (pick x n l q) (pick y n m r)
  same_init_pick : {l m : Term} → (n : ℕ) → {q : V} {r : W} → SameTerm S l m → R q r
      → SameItem S R (init_pick n l q) (init_pick n m r)
  same_cut_item : {x y z w b d : Term} → (n : ℕ) → {q : V} {r : W} → SameTerm S x y
      → SameTerm S z w → SameTerm S b d → R q r → SameItem S R (cut x z n b q) (cut y w n d r)

-- so are the two goals, over items that are related by P and steps that are related by Q
pub data SameGoal (S : ℕ → ℕ → Type 0) {I J E F : Type 0} (P : I → J → Type 0)
    (Q : E → F → Type 0) : Goal I E → Goal J F → Type 0 where
  same_call : {a b : Atom} → SameAtom S a b → SameGoal S P Q (call a) (call b)
  same_equate : {t u s r : Term} → SameTerm S t s → SameTerm S u r
      → SameGoal S P Q (equate t u) (equate s r)
  same_emit : {d : E} {e : F} → Q d e → SameGoal S P Q (emit d) (emit e)
  same_item : {x : I} {y : J} → P x y → SameGoal S P Q (item x) (item y)

-- so are the two goal lists, whose new variables have the same levels
pub data SameGoalList (S : ℕ → ℕ → Type 0) {I J E F : Type 0} (P : I → J → Type 0)
    (Q : E → F → Type 0) : GoalList I E → GoalList J F → Type 0 where
  same_goal_list : {goals : List (Goal I E)} {more : List (Goal J F)}
      → AreRelated (SameGoal S P Q) goals more → (new : List Level)
      → SameGoalList S P Q (record { goals = goals; new = new })
      (record { goals = more; new = new })

-- so are the two alternatives, whose variables have the same levels
pub data SameAlternative (S : ℕ → ℕ → Type 0) {I J E F : Type 0} (P : I → J → Type 0)
    (Q : E → F → Type 0) : Alternative I E → Alternative J F → Type 0 where
  same_alternative : {goals : List (Goal I E)} {more : List (Goal J F)} {emitted : List E}
      {spelled : List F} {asked answered : List Term} → AreRelated (SameGoal S P Q) goals more
      → AreRelated Q emitted spelled → SameList (SameTerm S) asked answered → (levels : List Level)
      → SameAlternative S P Q
      (record { goals = goals; emitted = emitted; asked = asked; levels = levels })
      (record { goals = more; emitted = spelled; asked = answered; levels = levels })

-- so are the two answers
pub data SameAnswer (S : ℕ → ℕ → Type 0) {I J E F : Type 0} (P : I → J → Type 0)
    (Q : E → F → Type 0) : Answer I E → Answer J F → Type 0 where
  same_accepted : {a : Alternative I E} {b : Alternative J F} → SameAlternative S P Q a b
      → SameAnswer S P Q (accepted a) (accepted b)
  same_rejected : SameAnswer S P Q rejected rejected

-- the two endings are of one kind, with related answers and the same units
pub data SameEnding {X Y : Type 0} (A : X → Y → Type 0) : Ending X → Ending Y → Type 0 where
  same_ended : {x : X} {y : Y} → A x y → (units : ℕ)
      → SameEnding A (ended x units) (ended y units)
  same_spent : SameEnding A spent spent

-- The two calculi are the same but for the numbers of names: for related items, and terms that are
-- related, they make related items, steps and goal lists.
pub record AreSameCalculi (S : ℕ → ℕ → Type 0) (C D : SearchCalculus)
    (P : C.ItemOf → D.ItemOf → Type 0) (Q : C.StepOf → D.StepOf → Type 0) : Type 0 where
  pub items : (s r : ℕ → Term) → ((n : ℕ) → SameTerm S (s n) (r n))
      → (x : C.ItemOf) (y : D.ItemOf) → P x y → P (C.put_item s x) (D.put_item r y)
  pub steps : (s r : ℕ → Term) → ((n : ℕ) → SameTerm S (s n) (r n))
      → (d : C.StepOf) (e : D.StepOf) → Q d e → Q (C.put_step s d) (D.put_step r e)
  pub expanded : (x : C.ItemOf) (y : D.ItemOf) → P x y → (k : ℕ)
      → AreRelated (SameGoalList S P Q) (C.expand x k) (D.expand y k)

-- two goal lists of tables are the same but for the numbers of names, over sequents that are
-- related by R
abbrev pub SameLine : (S : ℕ → ℕ → Type 0) {V W : Type 0} (R : V → W → Type 0)
    → GoalList (ItemOn V) Step → GoalList (ItemOn W) Step → Type 0
SameLine S R d e = SameGoalList S (SameItem S R) (SameStep S) d e

-- The two tables are the same but for the numbers of names, where sequents are related by R.
pub record AreSameTables (S : ℕ → ℕ → Type 0) (T U : Table)
    (R : T.SequentOf → U.SequentOf → Type 0) : Type 0 where
  pub sequents : (s r : ℕ → Term) → ((n : ℕ) → SameTerm S (s n) (r n))
      → (q : T.SequentOf) (c : U.SequentOf) → R q c → R (T.put_sequent s q) (U.put_sequent r c)
  pub lines : (x : ItemOn T.SequentOf) (y : ItemOn U.SequentOf) → SameItem S R x y → (k : ℕ)
      → AreRelated (SameLine S R) (T.expand x k) (U.expand y k)
  pub roots : (f g : Formula) → SameFormula S f g → R (T.root_of f) (U.root_of g)

-- The searches of calculi and clauses that are the same but for the numbers of names, for such
-- goals, end alike within each budget.
abbrev pub SearchesOfCalculiAlike : Type 1
SearchesOfCalculiAlike = (S : ℕ → ℕ → Type 0) → IsOneToOne S
    → (choice : Choice) → ChoosesAlike S choice
    → (C D : SearchCalculus) (P : C.ItemOf → D.ItemOf → Type 0) (Q : C.StepOf → D.StepOf → Type 0)
    → AreSameCalculi S C D P Q → (cs ds : List Clause) → SameList (SameClause S) cs ds
    → (g : Goal C.ItemOf C.StepOf) (h : Goal D.ItemOf D.StepOf) → SameGoal S P Q g h
    → (asked answered : List Term) → SameList (SameTerm S) asked answered → (variables budget : ℕ)
    → SameEnding (SameAnswer S P Q) (search C choice cs budget g asked variables)
    (search D choice ds budget h answered variables)

-- The two outcomes are of one kind, with the same units, and with as many steps, which are the same
-- but for the numbers of their names.
abbrev pub SameOutcome : (ℕ → ℕ → Type 0) → Outcome → Outcome → Type 0
SameOutcome S (outcome.Accepted trace u) (outcome.Accepted more v) =
    (length trace ≡ length more) × (u ≡ v) × SameList (SameStep S) trace more
SameOutcome S (outcome.Rejected u) (outcome.Rejected v) = u ≡ v
SameOutcome S outcome.Spent outcome.Spent = Unit {0}
SameOutcome S _ _ = ⊥
