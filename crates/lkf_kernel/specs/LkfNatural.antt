-- LKF's table is natural.
-- (A proof. It stands among the definitions, since what an impl says of a trait's laws may cite no
-- other file of its own crate.)
use Rattle.std.proofs.Common.{◌++◌, ◌+◌, ◌<◌, ◌∙◌, ◌∷◌, ◌≡◌, ℕ, true, false, List, [], map, refl}
use Rattle.std.proofs.Common.{ap, ap₂, sym}
use Rattle.std.specs.List.{All}
use Rattle.std.proofs.lemmas.List.{map-append}
use Rattle.std.proofs.lemmas.List.Elements.{All-nil, All-head, All-tail}
use Rattle.fpc_terms.specs.Term.{Term, eigen, variable, app, count, put, put_all, Always}
use Rattle.fpc_terms.specs.Open.{IsOpen}
use Rattle.fpc_terms.proofs.PutFacts.{put_all_agrees, count-put_all}
use Rattle.polarised_formulas.specs.declared.logic.Polarity.TheVariants.{Positive, Negative}
use Rattle.polarised_formulas.specs.declared.logic.Side.TheVariants.{Left, Right}
use Rattle.polarised_formulas.specs.Formula.{Formula, truth, falsity, atom, conj, disj, implies}
use Rattle.polarised_formulas.specs.Formula.{for_all, exists, dual_of, open_at, EachInside}
use Rattle.polarised_formulas.specs.declared.step.Step.TheVariants.{FalseN, OrN, AndN, Every, Store}
use Rattle.polarised_formulas.specs.declared.step.Step.TheVariants.{Decide, TrueP, AndP, OrP}
use Rattle.polarised_formulas.specs.declared.step.Step.TheVariants.{Exists, Release, Init}
use Rattle.clause_language.specs.declared.program.Program.{Program}
use Rattle.polarised_formulas.specs.OpenFormula.{put_formula, AnyBound, IsOpenFormula}
use Rattle.search_model.specs.Lawful.{IsNatural}
use Rattle.search_model.specs.Table.{ItemOn, derive, pick, init_pick, cut, Table, calculus_of}
use Rattle.search_model.specs.Table.{AreSequents}
use Rattle.search_model.specs.StoredFormulas.{put_stored, IsOpenStored}
use Rattle.search_model.specs.Lines.{Line, one, indexed, at_place, closing_at, atom_term}
use Rattle.search_model.specs.Lines.{is_literal}
use Rattle.search_model.specs.declared.stored.Stored.{Stored}
use Rattle.lkf_kernel.specs.declared.sequent.Sequent.{Sequent}
use Rattle.lkf_kernel.specs.declared.sequent.Sequent.TheVariants.{Up, Down}
use Rattle.lkf_kernel.specs.Lkf.{put_sequent, is_positive, on_work, on_nothing, on_focus, picks}
use Rattle.lkf_kernel.specs.Lkf.{closings, goal_lists}
use Rattle.lkf_kernel.specs.Guided.{lkf_table}
use Rattle.search_model.proofs.SequentParts.{alone, work_agrees, works_agree, stores_agree}
use Rattle.search_model.proofs.SequentParts.{atom_term-put, literal-put}
use Rattle.polarised_formulas.proofs.OpenedPutFacts.{put-dual}
use Rattle.search_model.proofs.LineNatural.{w, w_old, w_new, on, sequent_is, opened_is}
use Rattle.search_model.proofs.LineNatural.{closed_by_natural, one_natural, raised_natural}
use Rattle.search_model.proofs.LineNatural.{two_natural, indexed_natural, witnessed_natural}
use Rattle.search_model.proofs.LineNatural.{sided_natural, picked_natural, init_picked_natural}
use Rattle.search_model.proofs.LineNatural.{cutting_natural, place_natural, closing_natural}
use Rattle.search_model.proofs.LineNatural.{places_natural, cuts_natural}
use Rattle.lkf_kernel.specs.LkfSequents.{lkf_sequents, put-positive}

module _ (p : Program) (j k : ℕ) (r : ℕ → Term) (are_open : (n : ℕ) → n < j → IsOpen k (r n)) where
  abbrev T : Table
  T = lkf_table p

  abbrev laws : AreSequents T
  laws = lkf_sequents p

  abbrev z : ℕ → Term
  z = w T laws j k r are_open

  abbrev over : List (Line Sequent) → List (Line Sequent)
  over es = on T laws j k r are_open es

  z_old : (n : ℕ) → n < j → r n ≡ z n
  z_old = w_old T laws j k r are_open

  second : variable (k + 1) ≡ z (j + 1)
  second = w_new T laws j k r are_open 1

  stores_are : (st : List Stored) → All (IsOpenStored j) st → map (put_stored r) st
      ≡ map (put_stored z) st
  stores_are = stores_agree j r z z_old

  works_are : (g : List Formula) → All (IsOpenFormula j) g → map (put_formula r) g
      ≡ map (put_formula z) g
  works_are = works_agree j r z z_old

  work_is : (f : Formula) → IsOpenFormula j f → put_formula r f ≡ put_formula z f
  work_is = work_agrees j r z z_old

  opened : (t : Term) (a : Formula) → EachInside Always AnyBound (λ n. n < j) 1 a
      → open_at 0 (put z t) (put_formula r a) ≡ put_formula z (open_at 0 t a)
  opened = opened_is T laws j k r are_open

  opened_second : (a : Formula) → EachInside Always AnyBound (λ n. n < j) 1 a
      → open_at 0 (variable (k + 1)) (put_formula r a)
      ≡ put_formula z (open_at 0 (variable (j + 1)) a)
  opened_second a h = ap (λ t. open_at 0 t (put_formula r a)) second ∙ opened (variable (j + 1)) a h

  module _ (x : Term) (hx : IsOpen j x) (n : ℕ) (st : List Stored)
      (hs : All (IsOpenStored j) st) where
    abbrev st' : List Stored
    st' = map (put_stored r) st

    up_is : (g : List Formula) → All (IsOpenFormula j) g → put_sequent r (Up st g)
        ≡ put_sequent z (Up st g)
    up_is g hg = sequent_is T laws j k r are_open (Up st g) (hs, hg)

    down_is : (f : Formula) → IsOpenFormula j f → put_sequent r (Down st f)
        ≡ put_sequent z (Down st f)
    down_is f hf = sequent_is T laws j k r are_open (Down st f) (hs, hf)

    store_natural : (f : Formula) (g : List Formula) → IsOpenFormula j f → All (IsOpenFormula j) g
        → indexed p.ids.store_c (put r x) Store n k
        (λ l. Up (st' ++ record { index = l; formula = put_formula r f } ∷ [])
        (map (put_formula r) g)) ∷ []
        ≡ over (indexed p.ids.store_c x Store n j
        (λ l. Up (st ++ record { index = l; formula = f } ∷ []) g) ∷ [])
    store_natural f g hf hg =
        ap (λ e. e ∷ [])
        (indexed_natural T laws j k r are_open x hx n p.ids.store_c Store
        (λ l. Up (st' ++ record { index = l; formula = put_formula r f } ∷ [])
        (map (put_formula r) g))
        (λ l. Up (st ++ record { index = l; formula = f } ∷ []) g) refl stored)
      where
        stored : Up (st' ++ record { index = variable (k + 1); formula = put_formula r f } ∷ [])
            (map (put_formula r) g)
            ≡ put_sequent z (Up (st ++ record { index = variable (j + 1); formula = f } ∷ []) g)
        stored =
            rw (
              map-append (put_stored z) st (record { index = variable (j + 1); formula = f } ∷ []),
              second,
              stores_are st hs,
              work_is f hf,
              works_are g hg,
            ) refl

    work_natural : (f : Formula) (g : List Formula) → IsOpenFormula j f → All (IsOpenFormula j) g
        → on_work p.ids (put r x) n k st' (put_formula r f) (map (put_formula r) g)
        ≡ over (on_work p.ids x n j st f g)
    work_natural (truth Negative) g hf hg = refl
    work_natural (falsity Negative) g hf hg =
        ap (λ e. e ∷ [])
        (one_natural T laws j k r are_open x hx n p.ids.ff_c FalseN (put_sequent r (Up st g))
        (Up st g) refl (up_is g hg))
    work_natural (disj Negative a b) g hf hg =
        ap (λ e. e ∷ [])
        (one_natural T laws j k r are_open x hx n p.ids.or_c OrN (put_sequent r (Up st (a ∷ b ∷ g)))
        (Up st (a ∷ b ∷ g)) refl
        (rw (stores_are st hs, work_is a hf.0, work_is b hf.1, works_are g hg) refl))
    work_natural (conj Negative a b) g hf hg =
        ap (λ e. e ∷ [])
        (two_natural T laws j k r are_open x hx n p.ids.and_c AndN (put_sequent r (Up st (a ∷ g)))
        (Up st (a ∷ g))
        (put_sequent r (Up st (b ∷ g))) (Up st (b ∷ g)) refl
        (rw (stores_are st hs, work_is a hf.0, works_are g hg) refl)
        (rw (stores_are st hs, work_is b hf.1, works_are g hg) refl))
    work_natural (for_all a) g hf hg =
        ap (λ e. e ∷ [])
        (raised_natural T laws j k r are_open x hx n p.ids.all_c Every
        (Up st' (open_at 0 (eigen n) (put_formula r a) ∷ map (put_formula r) g))
        (Up st (open_at 0 (eigen n) a ∷ g)) refl
        (rw (stores_are st hs, opened (eigen n) a hf, works_are g hg) refl))
    work_natural (implies a b) g hf hg = refl
    work_natural (truth Positive) g hf hg = store_natural (truth Positive) g hf hg
    work_natural (falsity Positive) g hf hg = store_natural (falsity Positive) g hf hg
    work_natural (atom q f ts) g hf hg = store_natural (atom q f ts) g hf hg
    work_natural (conj Positive a b) g hf hg = store_natural (conj Positive a b) g hf hg
    work_natural (disj Positive a b) g hf hg = store_natural (disj Positive a b) g hf hg
    work_natural (exists a) g hf hg = store_natural (exists a) g hf hg

    release_natural : (f : Formula) → IsOpenFormula j f
        → one p.ids.release_e (put r x) Release n k (put_sequent r (Up st (f ∷ []))) ∷ []
        ≡ over (one p.ids.release_e x Release n j (Up st (f ∷ [])) ∷ [])
    release_natural f hf =
        ap (λ y. y ∷ [])
        (one_natural T laws j k r are_open x hx n p.ids.release_e Release
        (put_sequent r (Up st (f ∷ []))) (Up st (f ∷ [])) refl
        (up_is (f ∷ []) (alone (IsOpenFormula j) f hf)))

    focus_natural : (f : Formula) → IsOpenFormula j f
        → on_focus p.ids (put r x) n k st' (put_formula r f) ≡ over (on_focus p.ids x n j st f)
    focus_natural (truth Positive) hf =
        ap (λ y. y ∷ []) (closed_by_natural T laws j k r are_open x hx n p.ids.tt_e TrueP refl)
    focus_natural (falsity Positive) hf = refl
    focus_natural (conj Positive a b) hf =
        ap (λ y. y ∷ [])
        (two_natural T laws j k r are_open x hx n p.ids.and_e AndP (put_sequent r (Down st a))
        (Down st a)
        (put_sequent r (Down st b)) (Down st b) refl (down_is a hf.0) (down_is b hf.1))
    focus_natural (disj Positive a b) hf =
        ap₂ (λ y y'. y ∷ y' ∷ [])
        (sided_natural T laws j k r are_open x hx n p.ids.or_e p.ids.left (OrP Left)
        (put_sequent r (Down st a)) (Down st a) refl (down_is a hf.0))
        (sided_natural T laws j k r are_open x hx n p.ids.or_e p.ids.right (OrP Right)
        (put_sequent r (Down st b)) (Down st b) refl (down_is b hf.1))
    focus_natural (exists a) hf =
        ap (λ y. y ∷ [])
        (witnessed_natural T laws j k r are_open x hx n p.ids.some_e Exists
        (λ t. Down st' (open_at 0 t (put_formula r a)))
        (λ t. Down st (open_at 0 t a)) (ap Exists second)
        (rw (stores_are st hs, opened_second a hf) refl))
    focus_natural (atom true f ts) hf =
        ap (λ y. y ∷ [])
        (init_picked_natural T laws j k r are_open x hx n p.ids.init_e
        (put_sequent r (Down st (atom true f ts)))
        (Down st (atom true f ts)) (down_is (atom true f ts) hf))
    focus_natural (truth Negative) hf = release_natural (truth Negative) hf
    focus_natural (falsity Negative) hf = release_natural (falsity Negative) hf
    focus_natural (atom false f ts) hf = release_natural (atom false f ts) hf
    focus_natural (conj Negative a b) hf = release_natural (conj Negative a b) hf
    focus_natural (disj Negative a b) hf = release_natural (disj Negative a b) hf
    focus_natural (implies a b) hf = release_natural (implies a b) hf
    focus_natural (for_all a) hf = release_natural (for_all a) hf

    nothing_natural : on_nothing p.ids (put r x) n k st' ≡ over (on_nothing p.ids x n j st)
    nothing_natural =
        ap₂ (λ y y'. y ∷ y' ∷ [])
        (picked_natural T laws j k r are_open x hx n p.ids.decide_e (put_sequent r (Up st []))
        (Up st []) (up_is [] (All-nil (IsOpenFormula j))))
        (cutting_natural T laws j k r are_open x hx n p.ids.cut_e (put_sequent r (Up st []))
        (Up st []) (up_is [] (All-nil (IsOpenFormula j))))

    picks_natural : (l : Term) → IsOpen j l → picks (put r x) n (put r l) st'
        ≡ over (picks x n l st)
    picks_natural l hl =
        places_natural T laws j k r are_open is_positive is_positive
        (λ m i. at_place (put r x) (put r l) i.index (Decide m) n (Down st' i.formula))
        (λ m i. at_place x l i.index (Decide m) n (Down st i.formula)) (put-positive r)
        (λ m i hi. place_natural T laws j k r are_open x hx n l i.index (Decide m)
        (put_sequent r (Down st i.formula))
        (Down st i.formula) hl hi.0 refl (down_is i.formula hi.1))
        0 st hs

  closings_natural : (l : Term) → IsOpen j l → (st : List Stored) → All (IsOpenStored j) st
      → (a : Formula) → IsOpenFormula j a
      → closings (put r l) (map (put_stored r) st) (put_formula r a) ≡ over (closings l st a)
  closings_natural l hl st hs (atom true f ts) ha =
      places_natural T laws j k r are_open (is_literal false f (count (put_all r ts)))
      (is_literal false f (count ts))
      (λ m i. closing_at (put r l) i.index (atom_term i.formula) (app f (put_all r ts)) (Init m))
      (λ m i. closing_at l i.index (atom_term i.formula) (app f ts) (Init m))
      (λ a. ap (λ c. is_literal false f c (put_formula r a)) (count-put_all r ts)
      ∙ literal-put r false f (count ts) a)
      (λ m i hi. closing_natural T laws j k r are_open l i.index (Init m)
      (atom_term (put_formula r i.formula)) (atom_term i.formula)
      (app f (put_all r ts)) (app f ts) hl hi.0 refl
      (ap atom_term (work_is i.formula hi.1) ∙ atom_term-put z i.formula)
      (ap (app f) (put_all_agrees Always (AnyBound 0) (λ m. m < j) r z z_old ts ha)))
      0 st hs
  closings_natural l hl st hs (atom false f ts) ha = refl
  closings_natural l hl st hs (truth q) ha = refl
  closings_natural l hl st hs (falsity q) ha = refl
  closings_natural l hl st hs (conj q a b) ha = refl
  closings_natural l hl st hs (disj q a b) ha = refl
  closings_natural l hl st hs (implies a b) ha = refl
  closings_natural l hl st hs (for_all a) ha = refl
  closings_natural l hl st hs (exists a) ha = refl

  lists_natural : (x : ItemOn Sequent) → (calculus_of T).IsOpenItem j x
      → goal_lists p ((calculus_of T).put_item r x) k ≡ over (goal_lists p x j)
  lists_natural (derive x n (Up st (f ∷ g))) h =
      work_natural x h.0 n st h.1.0 f g (All-head (IsOpenFormula j) f g h.1.1)
      (All-tail (IsOpenFormula j) f g h.1.1)
  lists_natural (derive x n (Up st [])) h = nothing_natural x h.0 n st h.1.0
  lists_natural (derive x n (Down st f)) h = focus_natural x h.0 n st h.1.0 f h.1.1
  lists_natural (pick x n l (Up st g)) h = picks_natural x h.0 n st h.2.0 l h.1
  lists_natural (pick x n l (Down st f)) h = refl
  lists_natural (init_pick n l (Up st g)) h = refl
  lists_natural (init_pick n l (Down st a)) h = closings_natural l h.0 st h.1.0 a h.1.1
  lists_natural (cut x y n b (Down st f)) h = refl
  lists_natural (cut x y n b (Up st g)) h =
      cuts_natural T laws j k r are_open x y b h.0 h.1 h.2 n
      (λ f. Up (map (put_stored r) st) (f ∷ [])) (λ f. Up st (f ∷ []))
      (λ f. Up (map (put_stored r) st) (dual_of f ∷ [])) (λ f. Up st (dual_of f ∷ []))
      (λ f. ap (λ ss. Up ss (put_formula z f ∷ [])) (stores_are st h.3.0))
      (λ f. ap₂ (λ ss u. Up ss (u ∷ [])) (stores_are st h.3.0) (sym (put-dual z f))) p.declared

pub lkf_natural : (p : Program) → IsNatural (calculus_of (lkf_table p))
lkf_natural p j k r are_open x h = lists_natural p j k r are_open x h
