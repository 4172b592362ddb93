-- The sequents of LKF with indexes, and its table: the goal lists by which the search replaces an
-- item.
use Rattle.std.specs.Prelude.{ℕ, ◌++◌, Bool, true, false, List, [], ◌∷◌, map}
use Rattle.std.specs.List.{All}
use Rattle.fpc_terms.specs.Open.{Level}
use Rattle.fpc_terms.specs.Term.{Term, eigen, app, count}
use Rattle.polarised_formulas.specs.Formula.{Formula, truth, falsity, atom, conj, disj, implies}
use Rattle.polarised_formulas.specs.Formula.{for_all, exists, polarity_of, dual_of, open_at}
use Rattle.polarised_formulas.specs.declared.logic.Polarity.TheVariants.{Positive, Negative}
use Rattle.polarised_formulas.specs.declared.logic.Side.TheVariants.{Left, Right}
use Rattle.polarised_formulas.specs.declared.step.Step.TheVariants.{TrueN, FalseN, OrN, AndN}
use Rattle.polarised_formulas.specs.declared.step.Step.TheVariants.{Every, Store, Decide, TrueP}
use Rattle.polarised_formulas.specs.declared.step.Step.TheVariants.{AndP, OrP, Exists, Release, Init}
use Rattle.clause_language.specs.declared.program.Program.{Program}
use Rattle.clause_language.specs.declared.word_ids.WordIds.{WordIds}
use Rattle.search_model.specs.Lines.{Line, bare, closed_by, one, raised, two, indexed, witnessed}
use Rattle.search_model.specs.Lines.{sided, picked, init_picked, cutting, at_place, closing_at}
use Rattle.search_model.specs.Lines.{cut_of, at_places, atom_term, is_literal}
use Rattle.polarised_formulas.specs.OpenFormula.{put_formula, IsOpenFormula, IsScopedFormula}
use Rattle.search_model.specs.StoredFormulas.{put_stored, IsOpenStored, IsScopedStored}
use Rattle.search_model.specs.Table.{ItemOn, derive, pick, init_pick, cut}
use Rattle.search_model.specs.declared.stored.Stored.{Stored}
use Rattle.lkf_kernel.specs.declared.sequent.Sequent.{Sequent}
use Rattle.lkf_kernel.specs.declared.sequent.Sequent.TheVariants.{Up, Down}

-- the root sequent of a goal
abbrev pub root_of : Formula → Sequent
root_of f = Up [] (f ∷ [])

-- a sequent with a term for each variable
abbrev pub put_sequent : (ℕ → Term) → Sequent → Sequent
put_sequent s (Up st g) = Up (map (put_stored s) st) (map (put_formula s) g)
put_sequent s (Down st f) = Down (map (put_stored s) st) (put_formula s f)

-- the sequent's indexes and formulas are open, with variables numbered below k
abbrev pub IsOpenSequent : ℕ → Sequent → Type 0
IsOpenSequent k (Up st g) = All (IsOpenStored k) st × All (IsOpenFormula k) g
IsOpenSequent k (Down st f) = All (IsOpenStored k) st × IsOpenFormula k f

-- the sequent's formulas are in scope at level n, under these levels of its variables
abbrev pub IsScopedSequent : List Level → ℕ → Sequent → Type 0
IsScopedSequent levels n (Up st g) =
    All (IsScopedStored levels n) st × All (IsScopedFormula levels n) g
IsScopedSequent levels n (Down st f) =
    All (IsScopedStored levels n) st × IsScopedFormula levels n f

-- whether a formula is positive
abbrev pub is_positive : Formula → Bool
is_positive f = elim (polarity_of f) [ Positive ↦ true | Negative ↦ false ]

module _ (w : WordIds) (x : Term) (n k : ℕ) (st : List Stored) where
  -- the goal lists where the formula stands first in the worked list, and others after it
  abbrev pub on_work : Formula → List Formula → List (Line Sequent)
  on_work (truth Negative) g = bare TrueN ∷ []
  on_work (falsity Negative) g = one w.ff_c x FalseN n k (Up st g) ∷ []
  on_work (disj Negative a b) g = one w.or_c x OrN n k (Up st (a ∷ b ∷ g)) ∷ []
  on_work (conj Negative a b) g = two w.and_c x AndN n k (Up st (a ∷ g)) (Up st (b ∷ g)) ∷ []
  on_work (for_all a) g = raised w.all_c x Every n k (Up st (open_at 0 (eigen n) a ∷ g)) ∷ []
  on_work (implies a b) g = []
  on_work f g =
      indexed w.store_c x Store n k (λ l. Up (st ++ record { index = l; formula = f } ∷ []) g) ∷ []

  -- the goal lists where nothing is left to be worked on
  abbrev pub on_nothing : List (Line Sequent)
  on_nothing = picked w.decide_e x n k (Up st []) ∷ cutting w.cut_e x n k (Up st []) ∷ []

  -- the goal lists where the formula is under focus
  abbrev pub on_focus : Formula → List (Line Sequent)
  on_focus (truth Positive) = closed_by w.tt_e x TrueP ∷ []
  on_focus (falsity Positive) = []
  on_focus (conj Positive a b) = two w.and_e x AndP n k (Down st a) (Down st b) ∷ []
  on_focus (disj Positive a b) =
      sided w.or_e x w.left (OrP Left) n k (Down st a)
      ∷ sided w.or_e x w.right (OrP Right) n k (Down st b)
      ∷ []
  on_focus (exists a) = witnessed w.some_e x Exists n k (λ t. Down st (open_at 0 t a)) ∷ []
  on_focus (atom true f ts) = init_picked w.init_e x n k (Down st (atom true f ts)) ∷ []
  on_focus f = one w.release_e x Release n k (Up st (f ∷ [])) ∷ []

-- the places to decide on, by the certificate x, where the index l is wanted
abbrev pub picks : Term → ℕ → Term → List Stored → List (Line Sequent)
picks x n l st =
    at_places is_positive (λ j i. at_place x l i.index (Decide j) n (Down st i.formula)) 0 st

-- the places to close with, where the index l is wanted and this formula is under focus
abbrev pub closings : Term → List Stored → Formula → List (Line Sequent)
closings l st (atom true f ts) =
    at_places (is_literal false f (count ts))
    (λ j i. closing_at l i.index (atom_term i.formula) (app f ts) (Init j)) 0 st
closings l st _ = []

-- the cuts of declared formulas, by the certificates x and y, where b is wanted
abbrev pub cuts : Program → (x y : Term) → ℕ → (b : Term) → List Stored → ℕ → List (Line Sequent)
cuts p x y n b st k =
    map (cut_of x y b n k (λ f. Up st (f ∷ [])) (λ f. Up st (dual_of f ∷ []))) p.declared

-- The table: the goal lists for an item, whose new variables are numbered from k on.
abbrev pub goal_lists : Program → ItemOn Sequent → ℕ → List (Line Sequent)
goal_lists p (derive x n (Up st (f ∷ g))) k = on_work p.ids x n k st f g
goal_lists p (derive x n (Up st [])) k = on_nothing p.ids x n k st
goal_lists p (derive x n (Down st f)) k = on_focus p.ids x n k st f
goal_lists p (pick x n l (Up st g)) k = picks x n l st
goal_lists p (init_pick n l (Down st f)) k = closings l st f
goal_lists p (cut x y n b (Up st g)) k = cuts p x y n b st k
goal_lists p _ k = []
