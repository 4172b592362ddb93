-- Guided derivations of LKF, and what completes an item of the search.
use Rattle.std.specs.Prelude.{◌≡◌, ◌≢◌, ℕ, suc, ◌<◌, ◌++◌, true, false, List, [], ◌∷◌, Some}
use Rattle.std.specs.Prelude.{slice_get, Contains}
use Rattle.std.specs.List.{All}
use Rattle.fpc_terms.specs.Open.{IsGround}
use Rattle.fpc_terms.specs.Term.{Term, Args, eigen, app, no_args, put, InScope}
use Rattle.polarised_formulas.specs.Formula.{Formula, truth, falsity, atom, conj, disj, for_all}
use Rattle.polarised_formulas.specs.Formula.{exists, polarity_of, dual_of, open_at, IsProper}
use Rattle.polarised_formulas.specs.declared.logic.Polarity.TheVariants.{Positive, Negative}
use Rattle.polarised_formulas.specs.declared.logic.Side.{Side}
use Rattle.polarised_formulas.specs.declared.logic.Side.TheVariants.{Left, Right}
use Rattle.polarised_formulas.specs.declared.step.Step.{Step}
use Rattle.polarised_formulas.specs.declared.step.Step.TheVariants.{TrueN, FalseN, OrN, AndN}
use Rattle.polarised_formulas.specs.declared.step.Step.TheVariants.{Every, Store, Decide, TrueP}
use Rattle.polarised_formulas.specs.declared.step.Step.TheVariants.{AndP, OrP, Exists, Release}
use Rattle.polarised_formulas.specs.declared.step.Step.TheVariants.{Init, Cut}
use Rattle.clause_language.specs.LeastModel.{Holds}
use Rattle.clause_language.specs.declared.declaration.DeclaredFormula.{DeclaredFormula}
use Rattle.clause_language.specs.declared.program.Program.{Program}
use Rattle.clause_language.specs.declared.word_ids.WordIds.{WordIds}
use Rattle.lkf_rules.specs.Rule.{is_storable}
use Rattle.search_model.specs.Lines.{atom_of, arguments_from}
use Rattle.polarised_formulas.specs.OpenFormula.{put_formula}
use Rattle.search_model.specs.Table.{ItemOn, derive, pick, init_pick, cut, Table}
use Rattle.search_model.specs.declared.stored.Stored.{Stored}
use Rattle.lkf_kernel.specs.Lkf.{root_of, put_sequent, IsOpenSequent, IsScopedSequent, goal_lists}
use Rattle.lkf_kernel.specs.declared.sequent.Sequent.{Sequent}
use Rattle.lkf_kernel.specs.declared.sequent.Sequent.TheVariants.{Up, Down}

-- the formula has no variable and no free bound index, and the eigenvariable j stands nowhere in it
abbrev pub IsWithout : ℕ → Formula → Type 0
IsWithout j f = IsProper (λ m. m ≢ j) f

-- the eigenvariable stands in no formula of the sequent, and no formula has a variable or a free
-- bound index
abbrev pub IsFresh : ℕ → Sequent → Type 0
IsFresh j (Up st g) = All (λ (i : Stored). IsWithout j i.formula) st × All (IsWithout j) g
IsFresh j (Down st f) = All (λ (i : Stored). IsWithout j i.formula) st × IsWithout j f

-- the stored formula at a place, with its index
abbrev pub IsAt : List Stored → ℕ → Term → Formula → Type 0
IsAt st k l f = slice_get st k ≡ Some (record { index = l; formula = f })

-- the atom of a clerk or expert is in the least model of the clauses
abbrev pub Says : Program → ℕ → List Term → Type 0
Says p f ts = Holds p.clauses (atom_of f ts)

-- the word for a side
abbrev pub side_word : WordIds → Side → ℕ
side_word w Left = w.left
side_word w Right = w.right

-- the part of a disjunction on a side
abbrev pub part : Side → Formula → Formula → Formula
part Left a b = a
part Right a b = b

-- A guided derivation of a sequent with its certificate and its level, and the steps that spell it
-- in preorder: one constructor for each rule. Eigenvariables are named by the level, and terms are
-- in scope. A clerk's or expert's atom is in the least model of the program's clauses, so
-- certificates and indexes have no variables, but for the certificate of `tt-`, of which nothing is
-- asked.
pub data Guided (p : Program) : Term → ℕ → Sequent → List Step → Type 0 where
  true_negative : {x : Term} {n : ℕ} {st : List Stored} {g : List Formula}
      → Guided p x n (Up st (truth Negative ∷ g)) (TrueN ∷ [])
  false_negative : {x x1 : Term} {n : ℕ} {st : List Stored} {g : List Formula} {us : List Step}
      → Says p p.ids.ff_c (x ∷ x1 ∷ []) → Guided p x1 n (Up st g) us
      → Guided p x n (Up st (falsity Negative ∷ g)) (FalseN ∷ us)
  or_negative
      : {x x1 : Term} {n : ℕ} {st : List Stored} {g : List Formula} {a b : Formula} {us : List Step}
      → Says p p.ids.or_c (x ∷ x1 ∷ []) → Guided p x1 n (Up st (a ∷ b ∷ g)) us
      → Guided p x n (Up st (disj Negative a b ∷ g)) (OrN ∷ us)
  and_negative
      : {x x1 x2 : Term} {n : ℕ} {st : List Stored} {g : List Formula} {a b : Formula}
      {us vs : List Step}
      → Says p p.ids.and_c (x ∷ x1 ∷ x2 ∷ []) → Guided p x1 n (Up st (a ∷ g)) us
      → Guided p x2 n (Up st (b ∷ g)) vs
      → Guided p x n (Up st (conj Negative a b ∷ g)) (AndN ∷ us ++ vs)
  every
      : {x x1 : Term} {n : ℕ} {st : List Stored} {g : List Formula} {a : Formula} {us : List Step}
      → Says p p.ids.all_c (x ∷ eigen n ∷ x1 ∷ []) → IsFresh n (Up st (for_all a ∷ g))
      → Guided p x1 (suc n) (Up st (open_at 0 (eigen n) a ∷ g)) us
      → Guided p x n (Up st (for_all a ∷ g)) (Every ∷ us)
  store
      : {x x1 l : Term} {n : ℕ} {st : List Stored} {g : List Formula} {f : Formula} {us : List Step}
      → Says p p.ids.store_c (x ∷ x1 ∷ l ∷ []) → is_storable f ≡ true
      → Guided p x1 n (Up (st ++ record { index = l; formula = f } ∷ []) g) us
      → Guided p x n (Up st (f ∷ g)) (Store ∷ us)
  decide : {x x1 l : Term} {n k : ℕ} {st : List Stored} {f : Formula} {us : List Step}
      → Says p p.ids.decide_e (x ∷ x1 ∷ l ∷ []) → IsAt st k l f → polarity_of f ≡ Positive
      → Guided p x1 n (Down st f) us → Guided p x n (Up st []) (Decide k ∷ us)
  cut_by
      : {x x1 x2 : Term} {n : ℕ} {st : List Stored} {us vs : List Step} (d : DeclaredFormula)
      (ts : ℕ → Term)
      → Says p p.ids.cut_e
      (x ∷ x1 ∷ x2 ∷ app d.name (arguments_from ts 0 d.parameters) ∷ [])
      → Contains p.declared d → ((i : ℕ) → i < d.parameters → InScope n (ts i))
      → Guided p x1 n (Up st (put_formula ts d.formula ∷ [])) us
      → Guided p x2 n (Up st (dual_of (put_formula ts d.formula) ∷ [])) vs
      → Guided p x n (Up st []) (Cut (put_formula ts d.formula) ∷ us ++ vs)
  true_positive : {x : Term} {n : ℕ} {st : List Stored} → Says p p.ids.tt_e (x ∷ [])
      → Guided p x n (Down st (truth Positive)) (TrueP ∷ [])
  and_positive : {x x1 x2 : Term} {n : ℕ} {st : List Stored} {a b : Formula} {us vs : List Step}
      → Says p p.ids.and_e (x ∷ x1 ∷ x2 ∷ []) → Guided p x1 n (Down st a) us
      → Guided p x2 n (Down st b) vs → Guided p x n (Down st (conj Positive a b)) (AndP ∷ us ++ vs)
  or_positive
      : {x x1 : Term} {n : ℕ} {st : List Stored} {a b : Formula} {us : List Step} (side : Side)
      → Says p p.ids.or_e (x ∷ x1 ∷ app (side_word p.ids side) no_args ∷ [])
      → Guided p x1 n (Down st (part side a b)) us
      → Guided p x n (Down st (disj Positive a b)) (OrP side ∷ us)
  some : {x x1 t : Term} {n : ℕ} {st : List Stored} {a : Formula} {us : List Step}
      → Says p p.ids.some_e (x ∷ x1 ∷ t ∷ []) → InScope n t
      → Guided p x1 n (Down st (open_at 0 t a)) us
      → Guided p x n (Down st (exists a)) (Exists t ∷ us)
  release : {x x1 : Term} {n : ℕ} {st : List Stored} {f : Formula} {us : List Step}
      → Says p p.ids.release_e (x ∷ x1 ∷ []) → polarity_of f ≡ Negative
      → Guided p x1 n (Up st (f ∷ [])) us → Guided p x n (Down st f) (Release ∷ us)
  initial : {x l : Term} {n k f : ℕ} {st : List Stored} {ts : Args}
      → Says p p.ids.init_e (x ∷ l ∷ []) → IsAt st k l (atom false f ts)
      → Guided p x n (Down st (atom true f ts)) (Init k ∷ [])

-- a place with the index l whose formula is positive, and a guided derivation with it under focus
abbrev pub IsPicked : Program → Term → ℕ → Term → List Stored → List Step → Type 0
IsPicked p x n l st steps =
    (k : ℕ) × (f : Formula) × (us : List Step) × IsAt st k l f × (polarity_of f ≡ Positive)
    × Guided p x n (Down st f) us × (steps ≡ Decide k ∷ us)

-- a place with the index l that holds the dual of the formula, a positive literal
abbrev pub ClosesWith : Term → Formula → List Stored → List Step → Type 0
ClosesWith l a st steps =
    (k f : ℕ) × (ts : Args) × (a ≡ atom true f ts) × IsAt st k l (atom false f ts)
    × (steps ≡ Init k ∷ [])

-- a declared formula with terms in scope, named by b, and guided derivations of the cut's premises
abbrev pub IsCut : Program → (x y : Term) → ℕ → (b : Term) → List Stored → List Step → Type 0
IsCut p x y n b st steps =
    (d : DeclaredFormula) × (ts : ℕ → Term) × (us vs : List Step) × Contains p.declared d
    × (b ≡ app d.name (arguments_from ts 0 d.parameters))
    × ((i : ℕ) → i < d.parameters → InScope n (ts i))
    × Guided p x n (Up st (put_formula ts d.formula ∷ [])) us
    × Guided p y n (Up st (dual_of (put_formula ts d.formula) ∷ [])) vs
    × (steps ≡ Cut (put_formula ts d.formula) ∷ us ++ vs)

-- a guided completion of an item without variables, which spells these steps
abbrev pub Completes : Program → ItemOn Sequent → List Step → Type 0
Completes p (derive x n q) steps = Guided p x n q steps
Completes p (pick x n l (Up st g)) steps = IsPicked p x n l st steps
Completes p (init_pick n l (Down st f)) steps = ClosesWith l f st steps
Completes p (cut x y n b (Up st g)) steps = IsCut p x y n b st steps
Completes p _ steps = ⊥

-- LKF's table for a program
abbrev pub lkf_table : Program → Table
lkf_table p = record {
  SequentOf = Sequent;
  put_sequent = put_sequent;
  IsOpenSequent = IsOpenSequent;
  IsScopedSequent = IsScopedSequent;
  root_of = root_of;
  expand = goal_lists p;
  Completed = Completes p;
}

-- A guided derivation of the goal under some closing of the program's certificate, which the steps
-- spell.
pub record IsGuided (p : Program) (goal : Formula) (steps : List Step) : Type 0 where
  pub closing : ℕ → Term
  pub ground : (n : ℕ) → IsGround (closing n)
  pub guided : Guided p (put closing p.term) 0 (root_of goal) steps
