-- LKF's table is one: levels and new variables of goal lists, the root, and that it is natural.
-- (A proof. It stands among the definitions, since what an impl says of a trait's laws may cite no
-- other file of its own crate.)
use Rattle.std.proofs.Common.{◌++◌, ◌<◌, ◌∷◌, ℕ, true, false, List, [], Some}
use Rattle.std.specs.List.{AllByRecursion}
use Rattle.std.proofs.lemmas.List.Elements.{All-nil}
use Rattle.fpc_terms.specs.Term.{Term, eigen, app, count, Never, Always}
use Rattle.fpc_terms.specs.Open.{level_of, IsAtMost}
use Rattle.polarised_formulas.specs.declared.logic.Polarity.TheVariants.{Positive, Negative}
use Rattle.polarised_formulas.specs.declared.logic.Side.TheVariants.{Left, Right}
use Rattle.polarised_formulas.specs.Formula.{Formula, truth, falsity, atom, conj, disj, implies}
use Rattle.polarised_formulas.specs.Formula.{for_all, exists, dual_of, open_at, Tied}
use Rattle.polarised_formulas.specs.declared.step.Step.TheVariants.{TrueN, FalseN, OrN, AndN, Every}
use Rattle.polarised_formulas.specs.declared.step.Step.TheVariants.{Store, Decide, TrueP, AndP, OrP}
use Rattle.polarised_formulas.specs.declared.step.Step.TheVariants.{Exists, Release, Init}
use Rattle.clause_language.specs.declared.program.Program.{Program}
use Rattle.clause_language.specs.Program.{IsOpenProgram}
use Rattle.polarised_formulas.specs.OpenFormula.{AnyBound, IsOpenFormula, IsScopedFormula}
use Rattle.search_model.specs.Table.{ItemOn, derive, pick, init_pick, cut, level_in, IsTable}
use Rattle.search_model.specs.TableLaws.{HaveFewParameters}
use Rattle.search_model.specs.StoredFormulas.{IsOpenStored, IsScopedStored}
use Rattle.search_model.specs.Lines.{Line, one, indexed, at_place, closing_at, atom_term}
use Rattle.search_model.specs.Lines.{is_literal}
use Rattle.search_model.specs.declared.stored.Stored.{Stored}
use Rattle.lkf_kernel.specs.declared.sequent.Sequent.{Sequent}
use Rattle.lkf_kernel.specs.declared.sequent.Sequent.TheVariants.{Up, Down}
use Rattle.lkf_kernel.specs.Lkf.{is_positive, on_work, on_focus, closings, goal_lists}
use Rattle.lkf_kernel.specs.Guided.{lkf_table}
use Rattle.polarised_formulas.proofs.OpenFormulaFacts.{inside_more}
use Rattle.search_model.proofs.SequentParts.{alone}
use Rattle.search_model.proofs.LineSound.{places_by_recursion}
use Rattle.search_model.proofs.LineShort.{IsShort, bare_short, closed_by_short, one_short}
use Rattle.search_model.proofs.LineShort.{raised_short, two_short, indexed_short, witnessed_short}
use Rattle.search_model.proofs.LineShort.{sided_short, picked_short, init_picked_short}
use Rattle.search_model.proofs.LineShort.{cutting_short, at_place_short, closing_at_short}
use Rattle.search_model.proofs.LineShort.{cuts_short, short_levels, short_few}
use Rattle.lkf_kernel.specs.LkfNatural.{lkf_natural}

module _ (p : Program) (few : HaveFewParameters p.declared) where
  abbrev Short : ℕ → List (Line Sequent) → Type 0
  Short n es = AllByRecursion (IsShort Sequent n) es

  module _ (x : Term) (n k : ℕ) (st : List Stored) where
    store_short : (f : Formula) (g : List Formula)
        → IsShort Sequent n (indexed p.ids.store_c x Store n k
        (λ l. Up (st ++ record { index = l; formula = f } ∷ []) g))
    store_short f g =
        indexed_short Sequent n p.ids.store_c x Store k
        (λ l. Up (st ++ record { index = l; formula = f } ∷ []) g)

    work_short : (f : Formula) (g : List Formula) → Short n (on_work p.ids x n k st f g)
    work_short (truth Negative) g = (bare_short Sequent n TrueN, tt)
    work_short (falsity Negative) g = (one_short Sequent n p.ids.ff_c x FalseN k (Up st g), tt)
    work_short (disj Negative a b) g =
        (one_short Sequent n p.ids.or_c x OrN k (Up st (a ∷ b ∷ g)), tt)
    work_short (conj Negative a b) g =
        (two_short Sequent n p.ids.and_c x AndN k (Up st (a ∷ g)) (Up st (b ∷ g)), tt)
    work_short (for_all a) g =
        (raised_short Sequent n p.ids.all_c x Every k (Up st (open_at 0 (eigen n) a ∷ g)), tt)
    work_short (implies a b) g = tt
    work_short (truth Positive) g = (store_short (truth Positive) g, tt)
    work_short (falsity Positive) g = (store_short (falsity Positive) g, tt)
    work_short (atom q f ts) g = (store_short (atom q f ts) g, tt)
    work_short (conj Positive a b) g = (store_short (conj Positive a b) g, tt)
    work_short (disj Positive a b) g = (store_short (disj Positive a b) g, tt)
    work_short (exists a) g = (store_short (exists a) g, tt)

    release_short : (f : Formula)
        → Short n (one p.ids.release_e x Release n k (Up st (f ∷ [])) ∷ [])
    release_short f = (one_short Sequent n p.ids.release_e x Release k (Up st (f ∷ [])), tt)

    focus_short : (f : Formula) → Short n (on_focus p.ids x n k st f)
    focus_short (truth Positive) = (closed_by_short Sequent n p.ids.tt_e x TrueP, tt)
    focus_short (falsity Positive) = tt
    focus_short (conj Positive a b) =
        (two_short Sequent n p.ids.and_e x AndP k (Down st a) (Down st b), tt)
    focus_short (disj Positive a b) = (
      sided_short Sequent n p.ids.or_e x p.ids.left (OrP Left) k (Down st a),
      (sided_short Sequent n p.ids.or_e x p.ids.right (OrP Right) k (Down st b), tt),
    )
    focus_short (exists a) =
        (witnessed_short Sequent n p.ids.some_e x Exists k (λ t. Down st (open_at 0 t a)), tt)
    focus_short (atom true f ts) =
        (init_picked_short Sequent n p.ids.init_e x k (Down st (atom true f ts)), tt)
    focus_short (truth Negative) = release_short (truth Negative)
    focus_short (falsity Negative) = release_short (falsity Negative)
    focus_short (atom false f ts) = release_short (atom false f ts)
    focus_short (conj Negative a b) = release_short (conj Negative a b)
    focus_short (disj Negative a b) = release_short (disj Negative a b)
    focus_short (implies a b) = release_short (implies a b)
    focus_short (for_all a) = release_short (for_all a)

  closings_short : (n : ℕ) (l : Term) (st : List Stored) (f : Formula) → Short n (closings l st f)
  closings_short n l st (atom true f ts) =
      places_by_recursion (IsShort Sequent n) (is_literal false f (count ts))
      (λ j i. closing_at l i.index (atom_term i.formula) (app f ts) (Init j)) st
      (λ j i at is. closing_at_short Sequent n l i.index (atom_term i.formula) (app f ts) (Init j))
  closings_short n l st (atom false f ts) = tt
  closings_short n l st (truth q) = tt
  closings_short n l st (falsity q) = tt
  closings_short n l st (conj q a b) = tt
  closings_short n l st (disj q a b) = tt
  closings_short n l st (implies a b) = tt
  closings_short n l st (for_all a) = tt
  closings_short n l st (exists a) = tt

  lists_short : (x : ItemOn Sequent) (k : ℕ) → Short (level_in x) (goal_lists p x k)
  lists_short (derive x n (Up st (f ∷ g))) k = work_short x n k st f g
  lists_short (derive x n (Up st [])) k = (
    picked_short Sequent n p.ids.decide_e x k (Up st []),
    (cutting_short Sequent n p.ids.cut_e x k (Up st []), tt),
  )
  lists_short (derive x n (Down st f)) k = focus_short x n k st f
  lists_short (pick x n l (Up st g)) k =
      places_by_recursion (IsShort Sequent n) is_positive
      (λ j i. at_place x l i.index (Decide j) n (Down st i.formula)) st
      (λ j i at is. at_place_short Sequent n x l i.index (Decide j) (Down st i.formula))
  lists_short (pick x n l (Down st f)) k = tt
  lists_short (init_pick n l (Up st g)) k = tt
  lists_short (init_pick n l (Down st f)) k = closings_short n l st f
  lists_short (cut x y n b (Up st g)) k =
      cuts_short Sequent n x y b k (λ f. Up st (f ∷ [])) (λ f. Up st (dual_of f ∷ [])) p.declared
      few
  lists_short (cut x y n b (Down st f)) k = tt

pub lkf_tabled : (p : Program) → IsOpenProgram p → HaveFewParameters p.declared
    → IsTable (lkf_table p)
lkf_tabled p program few = record {
  levels = short_levels (lkf_table p) (lists_short p few);
  few = short_few (lkf_table p) (lists_short p few);
  root_open = λ f closed. (
    All-nil (IsOpenStored 0),
    alone (IsOpenFormula 0) f
        (inside_more Never Tied Never Always AnyBound (λ n. n < 0) (λ n a. tt) (λ d n a. tt)
        (λ n a. absurd a) 0 f closed),
  );
  root_scoped = λ f closed. (
    All-nil (IsScopedStored [] 0),
    alone (IsScopedFormula [] 0) f
        (inside_more Never Tied Never (λ m. m < 0) Tied (λ v. IsAtMost (level_of [] v) (Some 0))
        (λ n a. absurd a) (λ d n a. a)
        (λ n a. absurd a) 0 f closed),
  );
  natural = lkf_natural p;
}
