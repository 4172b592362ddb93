-- LKF's table is sound.
-- (A proof. It stands among the definitions, since what an impl says of a trait's laws may cite no
-- other file of its own crate.)
use Rattle.std.proofs.Common.{◌++◌, ◌<◌, ◌∙◌, ◌∷◌, ◌≡◌, ℕ, suc, true, false, List, [], map, length}
use Rattle.std.proofs.Common.{Some, refl, ap, ap₂, sym, subst, arith}
use Rattle.std.specs.List.{AllByRecursion}
use Rattle.std.proofs.lemmas.List.{map-append}
use Rattle.std.proofs.lemmas.List.Elements.{All-cons, All-head, All-tail, All-weaker}
use Rattle.fpc_terms.specs.Term.{Term, Args, eigen, app, count, put, put_all, Always}
use Rattle.fpc_terms.specs.Open.{Level, level_of, IsAtMost}
use Rattle.polarised_formulas.specs.declared.logic.Polarity.TheVariants.{Positive, Negative}
use Rattle.polarised_formulas.specs.declared.logic.Side.{Side}
use Rattle.polarised_formulas.specs.declared.logic.Side.TheVariants.{Left, Right}
use Rattle.polarised_formulas.specs.Formula.{Formula, truth, falsity, atom, conj, disj, implies}
use Rattle.polarised_formulas.specs.Formula.{for_all, exists, polarity_of, dual_of, open_at, Tied}
use Rattle.polarised_formulas.specs.declared.step.Step.{Step}
use Rattle.polarised_formulas.specs.declared.step.Step.TheVariants.{TrueN, FalseN, OrN, AndN, Every}
use Rattle.polarised_formulas.specs.declared.step.Step.TheVariants.{Store, Decide, TrueP, AndP, OrP}
use Rattle.polarised_formulas.specs.declared.step.Step.TheVariants.{Exists, Release, Init}
use Rattle.clause_language.specs.declared.program.Program.{Program}
use Rattle.clause_language.specs.Program.{IsOpenProgram}
use Rattle.lkf_rules.specs.Rule.{is_storable}
use Rattle.polarised_formulas.specs.OpenFormula.{put_formula, AnyBound, IsOpenFormula, IsScopedFormula}
use Rattle.search_model.specs.Table.{ItemOn, derive, pick, init_pick, cut, Table}
use Rattle.search_model.specs.TableLaws.{AreSoundLines}
use Rattle.search_model.specs.StoredFormulas.{put_stored, IsOpenStored, IsScopedStored}
use Rattle.search_model.specs.Lines.{Line, one, raised, indexed, sided, init_picked, at_place}
use Rattle.search_model.specs.Lines.{closing_at, atom_term, is_literal}
use Rattle.search_model.specs.declared.stored.Stored.{Stored}
use Rattle.lkf_kernel.specs.declared.sequent.Sequent.{Sequent}
use Rattle.lkf_kernel.specs.declared.sequent.Sequent.TheVariants.{Up, Down}
use Rattle.lkf_kernel.specs.Lkf.{IsOpenSequent, IsScopedSequent, is_positive, on_work, on_nothing}
use Rattle.lkf_kernel.specs.Lkf.{on_focus, picks, closings, cuts, goal_lists}
use Rattle.lkf_kernel.specs.Guided.{Says, side_word, part, Guided, true_negative, false_negative}
use Rattle.lkf_kernel.specs.Guided.{or_negative, and_negative, every, store, decide, cut_by}
use Rattle.lkf_kernel.specs.Guided.{true_positive, and_positive, or_positive, some, release}
use Rattle.lkf_kernel.specs.Guided.{initial, IsPicked, ClosesWith, IsCut, lkf_table}
use Rattle.search_model.proofs.SequentParts.{alone, all_end, stored_all, stored_at, atom_term_open}
use Rattle.search_model.proofs.SequentParts.{literal_put}
use Rattle.polarised_formulas.proofs.OpenedPutFacts.{put-dual, put-polarity, open_opened, scoped_opened}
use Rattle.polarised_formulas.proofs.OpenedPutFacts.{inside_dual, scoped_up}
use Rattle.search_model.proofs.ClosedFacts.{fresh_formulas, fresh_stores, formula_opened}
use Rattle.search_model.proofs.LineSound.{places_by_recursion, IsSound, bare_sound, closed_by_sound}
use Rattle.search_model.proofs.LineSound.{one_sound, raised_sound, two_sound, indexed_sound}
use Rattle.search_model.proofs.LineSound.{witnessed_sound, sided_sound, picked_sound}
use Rattle.search_model.proofs.LineSound.{init_picked_sound, cutting_sound, place_sound}
use Rattle.search_model.proofs.LineSound.{closing_sound, cuts_sound, sound_lines}
use Rattle.lkf_kernel.specs.LkfSequents.{lkf_sequents, put-storable, positive_is, declared_scoped}

module _ (p : Program) where
  abbrev T : Table
  T = lkf_table p

  abbrev Sound : List Level → ItemOn Sequent → Line Sequent → Type 0
  Sound levels x e = IsSound T p.clauses levels x e

  module _ (levels : List Level) (x : Term) (n : ℕ) (st : List Stored) where
    abbrev k : ℕ
    k = length levels

    abbrev Opened : ℕ → List Formula → Type 0
    Opened m g = IsOpenSequent m (Up st g)

    abbrev Scoped : List Level → List Formula → Type 0
    Scoped ms g = IsScopedSequent ms n (Up st g)

    -- the first of the worked formulas, and the others
    first_open : (m : ℕ) (f : Formula) (g : List Formula) → Opened m (f ∷ g) → IsOpenFormula m f
    first_open m f g h = All-head (IsOpenFormula m) f g h.1

    later_open : (m : ℕ) (f : Formula) (g : List Formula) → Opened m (f ∷ g) → Opened m g
    later_open m f g h = (h.0, All-tail (IsOpenFormula m) f g h.1)

    also_open : (m : ℕ) (f : Formula) (g : List Formula) → IsOpenFormula m f → Opened m g
        → Opened m (f ∷ g)
    also_open m f g hf h = (h.0, All-cons (IsOpenFormula m) f g hf h.1)

    first_scoped : (ms : List Level) (f : Formula) (g : List Formula) → Scoped ms (f ∷ g)
        → IsScopedFormula ms n f
    first_scoped ms f g h = All-head (IsScopedFormula ms n) f g h.1

    later_scoped : (ms : List Level) (f : Formula) (g : List Formula) → Scoped ms (f ∷ g)
        → Scoped ms g
    later_scoped ms f g h = (h.0, All-tail (IsScopedFormula ms n) f g h.1)

    also_scoped : (ms : List Level) (f : Formula) (g : List Formula) → IsScopedFormula ms n f
        → Scoped ms g → Scoped ms (f ∷ g)
    also_scoped ms f g hf h = (h.0, All-cons (IsScopedFormula ms n) f g hf h.1)

    store_sound : (f : Formula) (g : List Formula) → is_storable f ≡ true
        → Sound levels (derive x n (Up st (f ∷ g)))
        (indexed p.ids.store_c x Store n k
        (λ l. Up (st ++ record { index = l; formula = f } ∷ []) g))
    store_sound f g storable =
        indexed_sound T p.clauses levels x n (Up st (f ∷ g)) p.ids.store_c Store (λ m. tt)
        (λ l. Up (st ++ record { index = l; formula = f } ∷ []) g)
        (λ m t h ht. (
          all_end (IsOpenStored m) st (record { index = t; formula = f }) h.0
              (ht, first_open m f g h),
          (later_open m f g h).1,
        ))
        (λ ms t h. (
          all_end (IsScopedStored ms n) st (record { index = t; formula = f }) h.0
              (first_scoped ms f g h),
          (later_scoped ms f g h).1,
        ))
        (λ s t x1 us h d. store h (put-storable s f ∙ storable)
        (subst (λ ss. Guided p x1 n (Up ss (map (put_formula s) g)) us)
        (map-append (put_stored s) st (record { index = t; formula = f } ∷ [])) d))

    every_sound : (a : Formula) (g : List Formula)
        → Sound levels (derive x n (Up st (for_all a ∷ g)))
        (raised p.ids.all_c x Every n k (Up st (open_at 0 (eigen n) a ∷ g)))
    every_sound a g =
        raised_sound T p.clauses levels x n (Up st (for_all a ∷ g)) p.ids.all_c Every (λ m. tt)
        (Up st (open_at 0 (eigen n) a ∷ g))
        (λ m h. also_open m (open_at 0 (eigen n) a) g
        (open_opened m (eigen n) a tt (first_open m (for_all a) g h))
        (later_open m (for_all a) g h))
        (λ ms h. (
          All-weaker (IsScopedStored ms n) (IsScopedStored ms (suc n))
              (λ (i : Stored) q. scoped_up ms n 0 i.formula q) st h.0,
          All-cons (IsScopedFormula ms (suc n)) (open_at 0 (eigen n) a) g
              (scoped_opened ms (suc n) (eigen n) a (omega arith)
              (scoped_up ms n 1 a (first_scoped ms (for_all a) g h)))
              (All-weaker (IsScopedFormula ms n) (IsScopedFormula ms (suc n)) (scoped_up ms n 0) g
              (later_scoped ms (for_all a) g h).1),
        ))
        (λ ms s cl b o x1 us h d. every h
        (fresh_stores ms s cl n st o.0, fresh_formulas ms s cl n (for_all a ∷ g) o.1)
        (subst (λ q. Guided p x1 (suc n) (Up (map (put_stored s) st) (q ∷ map (put_formula s) g))
        us)
        (formula_opened ms s cl (eigen n) a (first_open (length ms) (for_all a) g b)) d))

    work_sound : (f : Formula) (g : List Formula)
        → AllByRecursion (Sound levels (derive x n (Up st (f ∷ g)))) (on_work p.ids x n k st f g)
    work_sound (truth Negative) g = (
      bare_sound T p.clauses levels x n (Up st (truth Negative ∷ g)) TrueN (λ m. tt)
          (λ s. true_negative),
      tt,
    )
    work_sound (falsity Negative) g = (
      one_sound T p.clauses levels x n (Up st (falsity Negative ∷ g)) p.ids.ff_c FalseN (λ m. tt)
          (Up st g)
          (λ m h. later_open m (falsity Negative) g h)
          (λ ms h. later_scoped ms (falsity Negative) g h)
          (λ s x1 us h d. false_negative h d),
      tt,
    )
    work_sound (disj Negative a b) g = (
      one_sound T p.clauses levels x n (Up st (disj Negative a b ∷ g)) p.ids.or_c OrN (λ m. tt)
          (Up st (a ∷ b ∷ g))
          (λ m h. let parts = first_open m (disj Negative a b) g h in also_open m a (b ∷ g) parts.0
          (also_open m b g parts.1 (later_open m (disj Negative a b) g h)))
          (λ ms h. let parts = first_scoped ms (disj Negative a b) g h in also_scoped ms a (b ∷ g)
          parts.0 (also_scoped ms b g parts.1 (later_scoped ms (disj Negative a b) g h)))
          (λ s x1 us h d. or_negative h d),
      tt,
    )
    work_sound (conj Negative a b) g = (
      two_sound T p.clauses levels x n (Up st (conj Negative a b ∷ g)) p.ids.and_c AndN (λ m. tt)
          (Up st (a ∷ g)) (Up st (b ∷ g))
          (λ m h. also_open m a g (first_open m (conj Negative a b) g h).0
          (later_open m (conj Negative a b) g h))
          (λ m h. also_open m b g (first_open m (conj Negative a b) g h).1
          (later_open m (conj Negative a b) g h))
          (λ ms h. also_scoped ms a g (first_scoped ms (conj Negative a b) g h).0
          (later_scoped ms (conj Negative a b) g h))
          (λ ms h. also_scoped ms b g (first_scoped ms (conj Negative a b) g h).1
          (later_scoped ms (conj Negative a b) g h))
          (λ s x1 x2 us vs h d e. and_negative h d e),
      tt,
    )
    work_sound (for_all a) g = (every_sound a g, tt)
    work_sound (implies a b) g = tt
    work_sound (truth Positive) g = (store_sound (truth Positive) g refl, tt)
    work_sound (falsity Positive) g = (store_sound (falsity Positive) g refl, tt)
    work_sound (atom q f ts) g = (store_sound (atom q f ts) g refl, tt)
    work_sound (conj Positive a b) g = (store_sound (conj Positive a b) g refl, tt)
    work_sound (disj Positive a b) g = (store_sound (disj Positive a b) g refl, tt)
    work_sound (exists a) g = (store_sound (exists a) g refl, tt)

    release_sound : (f : Formula) → polarity_of f ≡ Negative
        → Sound levels (derive x n (Down st f)) (one p.ids.release_e x Release n k (Up st (f ∷ [])))
    release_sound f negative =
        one_sound T p.clauses levels x n (Down st f) p.ids.release_e Release (λ m. tt)
        (Up st (f ∷ []))
        (λ m h. (h.0, alone (IsOpenFormula m) f h.1))
        (λ ms h. (h.0, alone (IsScopedFormula ms n) f h.1))
        (λ s x1 us h d. release h (put-polarity s f ∙ negative) d)

    side_sound : (side : Side) (a b : Formula)
        → Sound levels (derive x n (Down st (disj Positive a b)))
        (sided p.ids.or_e x (side_word p.ids side) (OrP side) n k (Down st (part side a b)))
    side_sound Left a b =
        sided_sound T p.clauses levels x n (Down st (disj Positive a b)) p.ids.or_e p.ids.left
        (OrP Left) (λ m. tt) (Down st a)
        (λ m h. (h.0, h.1.0)) (λ ms h. (h.0, h.1.0)) (λ s x1 us h d. or_positive Left h d)
    side_sound Right a b =
        sided_sound T p.clauses levels x n (Down st (disj Positive a b)) p.ids.or_e p.ids.right
        (OrP Right) (λ m. tt) (Down st b)
        (λ m h. (h.0, h.1.1)) (λ ms h. (h.0, h.1.1)) (λ s x1 us h d. or_positive Right h d)

    initial_sound : (f : ℕ) (ts : Args)
        → Sound levels (derive x n (Down st (atom true f ts)))
        (init_picked p.ids.init_e x n k (Down st (atom true f ts)))
    initial_sound f ts =
        init_picked_sound T p.clauses levels x n (Down st (atom true f ts)) p.ids.init_e
        (λ s l us h d. closed s l us h d)
      where
        closed : (s : ℕ → Term) (l : Term) (us : List Step) → Says p p.ids.init_e (put s x ∷ l ∷ [])
            → ClosesWith l (atom true f (put_all s ts)) (map (put_stored s) st) us
            → Guided p (put s x) n (Down (map (put_stored s) st) (atom true f (put_all s ts))) us
        closed s l us h (i, g, xs, is_atom, at, steps_are) =
            subst (λ a. Guided p (put s x) n (Down (map (put_stored s) st) a) us) (sym is_atom)
            (subst (Guided p (put s x) n (Down (map (put_stored s) st) (atom true g xs)))
            (sym steps_are) (initial h at))

    focus_sound : (f : Formula)
        → AllByRecursion (Sound levels (derive x n (Down st f))) (on_focus p.ids x n k st f)
    focus_sound (truth Positive) = (
      closed_by_sound T p.clauses levels x n (Down st (truth Positive)) p.ids.tt_e TrueP
          (λ m. tt) (λ s h. true_positive h),
      tt,
    )
    focus_sound (falsity Positive) = tt
    focus_sound (conj Positive a b) = (
      two_sound T p.clauses levels x n (Down st (conj Positive a b)) p.ids.and_e AndP (λ m. tt)
          (Down st a) (Down st b)
          (λ m h. (h.0, h.1.0)) (λ m h. (h.0, h.1.1)) (λ ms h. (h.0, h.1.0)) (λ ms h. (h.0, h.1.1))
          (λ s x1 x2 us vs h d e. and_positive h d e),
      tt,
    )
    focus_sound (disj Positive a b) = (side_sound Left a b, (side_sound Right a b, tt))
    focus_sound (exists a) = (
      witnessed_sound T p.clauses levels x n (Down st (exists a)) p.ids.some_e Exists (λ m t h. h)
          (λ t. Down st (open_at 0 t a))
          (λ m t h ht. (h.0, open_opened m t a ht h.1))
          (λ ms t h ht. (h.0, scoped_opened ms n t a ht h.1))
          (λ ms s cl b o t x1 us scope h d. some h scope
          (subst (λ f. Guided p x1 n (Down (map (put_stored s) st) f) us)
          (formula_opened ms s cl t a b.1) d)),
      tt,
    )
    focus_sound (atom true f ts) = (initial_sound f ts, tt)
    focus_sound (truth Negative) = (release_sound (truth Negative) refl, tt)
    focus_sound (falsity Negative) = (release_sound (falsity Negative) refl, tt)
    focus_sound (atom false f ts) = (release_sound (atom false f ts) refl, tt)
    focus_sound (conj Negative a b) = (release_sound (conj Negative a b) refl, tt)
    focus_sound (disj Negative a b) = (release_sound (disj Negative a b) refl, tt)
    focus_sound (implies a b) = (release_sound (implies a b) refl, tt)
    focus_sound (for_all a) = (release_sound (for_all a) refl, tt)

    nothing_sound : AllByRecursion (Sound levels (derive x n (Up st [])))
        (on_nothing p.ids x n k st)
    nothing_sound = (
      picked_sound T p.clauses levels x n (Up st []) p.ids.decide_e
          (λ s x1 l us h d. decided s x1 l us h d),
      (
        cutting_sound T p.clauses levels x n (Up st []) p.ids.cut_e
            (λ s x1 x2 b us h d. cut_by_it s x1 x2 b us h d),
        tt,
      ),
    )
      where
        decided : (s : ℕ → Term) (x1 l : Term) (us : List Step)
            → Says p p.ids.decide_e (put s x ∷ x1 ∷ l ∷ [])
            → IsPicked p x1 n l (map (put_stored s) st) us
            → Guided p (put s x) n (Up (map (put_stored s) st) []) us
        decided s x1 l us h (i, f, vs, at, positive, d, steps_are) =
            subst (Guided p (put s x) n (Up (map (put_stored s) st) [])) (sym steps_are)
            (decide h at positive d)

        cut_by_it : (s : ℕ → Term) (x1 x2 b : Term) (us : List Step)
            → Says p p.ids.cut_e (put s x ∷ x1 ∷ x2 ∷ b ∷ [])
            → IsCut p x1 x2 n b (map (put_stored s) st) us
            → Guided p (put s x) n (Up (map (put_stored s) st) []) us
        cut_by_it s x1 x2 b us h (d, ts, vs, ws, in_p, is_b, scope, f, f', steps_are) =
            subst (Guided p (put s x) n (Up (map (put_stored s) st) [])) (sym steps_are)
            (cut_by d ts (subst (λ z. Says p p.ids.cut_e (put s x ∷ x1 ∷ x2 ∷ z ∷ [])) is_b h) in_p
            scope f f')

  picks_sound : (levels : List Level) (x : Term) (n : ℕ) (l : Term) (st : List Stored)
      (g : List Formula)
      → AllByRecursion (Sound levels (pick x n l (Up st g))) (picks x n l st)
  picks_sound levels x n l st g =
      places_by_recursion (Sound levels (pick x n l (Up st g))) is_positive
      (λ j i. at_place x l i.index (Decide j) n (Down st i.formula)) st
      (λ j i at positive. place_sound T p.clauses levels x n l (Up st g) i.index (Decide j)
      (λ m. tt) (Down st i.formula)
      (λ m h. let here = stored_all (IsOpenStored m) st j i at h.0 in (here.0, (h.0, here.1)))
      (λ ms h. (h.0, stored_all (IsScopedStored ms n) st j i at h.0))
      (λ s us same d. (
        j,
        put_formula s i.formula,
        us,
        stored_at s st j i at
            ∙ ap (λ z. Some (record { index = z; formula = put_formula s i.formula })) (sym same),
        put-polarity s i.formula ∙ positive_is i.formula positive,
        d,
        refl,
      )))

  closings_sound : (levels : List Level) (n : ℕ) (l : Term) (st : List Stored) (a : Formula)
      → AllByRecursion (Sound levels (init_pick n l (Down st a))) (closings l st a)
  closings_sound levels n l st (atom true f ts) =
      places_by_recursion (Sound levels (init_pick n l (Down st (atom true f ts))))
      (is_literal false f (count ts))
      (λ j i. closing_at l i.index (atom_term i.formula) (app f ts) (Init j)) st
      (λ j i at is. closing_sound T p.clauses levels n l (Down st (atom true f ts)) i.index
      (atom_term i.formula) (app f ts) (Init j) (λ m. tt)
      (λ ms h k.
      let here = stored_all (IsOpenStored (length ms)) st j i at h.0 in (
        here.0,
        atom_term_open (length ms) ms n i.formula here.1
            (stored_all (IsScopedStored ms n) st j i at k.0),
        atom_term_open (length ms) ms n (atom true f ts) h.1 k.1,
      ))
      (λ s same equal. (
        j,
        f,
        put_all s ts,
        refl,
        stored_at s st j i at
            ∙ ap₂ (λ z q. Some (record { index = z; formula = q })) (sym same)
            (literal_put s false f (count ts) i.formula (put_all s ts) is equal),
        refl,
      )))
  closings_sound levels n l st (atom false f ts) = tt
  closings_sound levels n l st (truth q) = tt
  closings_sound levels n l st (falsity q) = tt
  closings_sound levels n l st (conj q a b) = tt
  closings_sound levels n l st (disj q a b) = tt
  closings_sound levels n l st (implies a b) = tt
  closings_sound levels n l st (for_all a) = tt
  closings_sound levels n l st (exists a) = tt

  module _ (program : IsOpenProgram p) where
    cut_lists_sound : (levels : List Level) (x y : Term) (n : ℕ) (b : Term) (st : List Stored)
        (g : List Formula)
        → AllByRecursion (Sound levels (cut x y n b (Up st g))) (cuts p x y n b st (length levels))
    cut_lists_sound levels x y n b st g =
        cuts_sound T p.clauses levels x y n b (Up st g) (λ f. Up st (f ∷ []))
        (λ f. Up st (dual_of f ∷ [])) (
          (λ m f hf h. (h.0, alone (IsOpenFormula m) f hf)),
          (λ ms f hf h. (h.0, alone (IsScopedFormula ms n) f hf)),
        ) (
          (λ m f hf h. (
            h.0,
            alone (IsOpenFormula m) (dual_of f)
                (inside_dual Always AnyBound (λ v. v < m) 0 f hf),
          )),
          (λ ms f hf h. (
            h.0,
            alone (IsScopedFormula ms n) (dual_of f)
                (inside_dual (λ j. j < n) Tied (λ v. IsAtMost (level_of ms v) (Some n)) 0 f hf),
          )),
        )
        p.declared (λ d i. declared_scoped p program d i)
        (λ d i s ts us vs is_b scope f is first second. (
          d,
          ts,
          us,
          vs,
          i,
          is_b,
          scope,
          subst (λ z. Guided p (put s x) n (Up (map (put_stored s) st) (z ∷ [])) us) is first,
          subst (λ z. Guided p (put s y) n (Up (map (put_stored s) st) (z ∷ [])) vs)
              (put-dual s f ∙ ap dual_of is) second,
          refl,
        ))

    lists_sound : (levels : List Level) (x : ItemOn Sequent)
        → AllByRecursion (Sound levels x) (goal_lists p x (length levels))
    lists_sound levels (derive x n (Up st (f ∷ g))) = work_sound levels x n st f g
    lists_sound levels (derive x n (Up st [])) = nothing_sound levels x n st
    lists_sound levels (derive x n (Down st f)) = focus_sound levels x n st f
    lists_sound levels (pick x n l (Up st g)) = picks_sound levels x n l st g
    lists_sound levels (pick x n l (Down st f)) = tt
    lists_sound levels (init_pick n l (Up st g)) = tt
    lists_sound levels (init_pick n l (Down st a)) = closings_sound levels n l st a
    lists_sound levels (cut x y n b (Down st f)) = tt
    lists_sound levels (cut x y n b (Up st g)) = cut_lists_sound levels x y n b st g

pub lkf_sound : (p : Program) → IsOpenProgram p → AreSoundLines (lkf_table p) p.clauses
lkf_sound p program = sound_lines (lkf_table p) p.clauses (lkf_sequents p) (lists_sound p program)
