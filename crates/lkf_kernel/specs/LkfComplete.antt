-- LKF's table is complete.
-- (A proof. It stands among the definitions, since what an impl says of a trait's laws may cite no
-- other file of its own crate.)
use Rattle.std.proofs.Common.{◌++◌, ◌+◌, ◌∙◌, ◌∷◌, ◌≡◌, ℕ, true, false, nat_eq, List, [], Some}
use Rattle.std.proofs.Common.{slice_get, refl, ap, ap₂, sym, subst, eq-eqb}
use Rattle.std.specs.List.{All}
use Rattle.std.proofs.lemmas.Bool.{and_from}
use Rattle.std.proofs.lemmas.List.{map-append}
use Rattle.std.proofs.lemmas.List.Elements.{All-nil, All-cons, All-head, All-tail}
use Rattle.fpc_terms.specs.Term.{Term, Args, eigen, variable, app, no_args, count}
use Rattle.fpc_terms.specs.Open.{IsOpen}
use Rattle.polarised_formulas.specs.declared.logic.Polarity.TheVariants.{Positive, Negative}
use Rattle.polarised_formulas.specs.declared.logic.Side.TheVariants.{Left, Right}
use Rattle.polarised_formulas.specs.Formula.{Formula, truth, falsity, atom, conj, disj, implies}
use Rattle.polarised_formulas.specs.Formula.{for_all, exists, dual_of, open_at}
use Rattle.polarised_formulas.specs.declared.step.Step.{Step}
use Rattle.polarised_formulas.specs.declared.step.Step.TheVariants.{TrueN, FalseN, OrN, AndN, Every}
use Rattle.polarised_formulas.specs.declared.step.Step.TheVariants.{Store, Decide, TrueP, AndP, OrP}
use Rattle.polarised_formulas.specs.declared.step.Step.TheVariants.{Exists, Release, Init}
use Rattle.clause_language.specs.declared.program.Program.{Program}
use Rattle.clause_language.specs.LeastModel.{AreOpenClauses}
use Rattle.clause_language.specs.Program.{IsOpenProgram}
use Rattle.polarised_formulas.specs.OpenFormula.{put_formula, IsOpenFormula}
use Rattle.search_model.specs.Lawful.{IsComplete}
use Rattle.search_model.specs.Table.{ItemOn, derive, pick, init_pick, cut, Table, calculus_of}
use Rattle.search_model.specs.Table.{AreSequents}
use Rattle.search_model.specs.StoredFormulas.{put_stored, IsOpenStored}
use Rattle.search_model.specs.Lines.{Line, arguments_from, one, indexed, sided, picked, cutting}
use Rattle.search_model.specs.Lines.{at_place, closing_at, atom_term, is_literal}
use Rattle.search_model.specs.declared.stored.Stored.{Stored}
use Rattle.lkf_kernel.specs.declared.sequent.Sequent.{Sequent}
use Rattle.lkf_kernel.specs.declared.sequent.Sequent.TheVariants.{Up, Down}
use Rattle.lkf_kernel.specs.Lkf.{put_sequent, is_positive, on_work, on_nothing, on_focus, picks}
use Rattle.lkf_kernel.specs.Lkf.{closings, cuts, goal_lists}
use Rattle.lkf_kernel.specs.Guided.{Says, Guided, Completes, true_negative, false_negative}
use Rattle.lkf_kernel.specs.Guided.{or_negative, and_negative, every, store, decide, cut_by}
use Rattle.lkf_kernel.specs.Guided.{true_positive, and_positive, or_positive, some, release}
use Rattle.lkf_kernel.specs.Guided.{initial, IsPicked, ClosesWith, IsCut, lkf_table}
use Rattle.search_model.proofs.TableFacts.{table_lawful}
use Rattle.search_model.proofs.NaturalFacts.{natural_complete}
use Rattle.search_model.proofs.SequentParts.{alone, stored_all}
use Rattle.polarised_formulas.proofs.OpenedPutFacts.{put-dual, open_opened}
use Rattle.search_model.proofs.ClosedFacts.{closed_formula, closed_formulas, closed_stores}
use Rattle.search_model.proofs.ClosedFacts.{closed_opened}
use Rattle.search_model.proofs.LineGiven.{has_place, Given, later_given, bare_given}
use Rattle.search_model.proofs.LineGiven.{closed_by_given, one_given, raised_given, two_given}
use Rattle.search_model.proofs.LineGiven.{indexed_given, witnessed_given, sided_given, picked_given}
use Rattle.search_model.proofs.LineGiven.{init_picked_given, cutting_given, place_given}
use Rattle.search_model.proofs.LineGiven.{closing_given, cut_given}
use Rattle.lkf_kernel.specs.LkfSequents.{lkf_sequents, is_positive_from, declared_scoped}
use Rattle.lkf_kernel.specs.LkfNatural.{lkf_natural}
use Rattle.lkf_kernel.specs.LkfSound.{lkf_sound}

same_literal : (f : ℕ) (ts : Args) → is_literal false f (count ts) (atom false f ts) ≡ true
same_literal f ts =
    and_from (nat_eq f f) (nat_eq (count ts) (count ts)) (eq-eqb f f refl)
    (eq-eqb (count ts) (count ts) refl)

-- the parts of a literal
abbrev name_in : Formula → ℕ
name_in (atom q f ts) = f
name_in _ = 0

abbrev arguments_in : Formula → Args
arguments_in (atom q f ts) = ts
arguments_in _ = no_args

module _ (p : Program) (program : IsOpenProgram p) where
  abbrev T : Table
  T = lkf_table p

  abbrev laws : AreSequents T
  laws = lkf_sequents p

  abbrev opens : AreOpenClauses p.clauses
  opens = program.clauses_open

  abbrev Gives : List (Line Sequent) → List Step → Type 0
  Gives es us = Given T laws p.clauses opens es us

  module _ (x : Term) (hx : IsOpen 0 x) (n : ℕ) (st : List Stored)
      (hs : All (IsOpenStored 0) st) where
    store_given : (f : Formula) (g : List Formula) (x1 l : Term) (us : List Step)
        → IsOpenFormula 0 f → All (IsOpenFormula 0) g
        → Says p p.ids.store_c (x ∷ x1 ∷ l ∷ [])
        → Guided p x1 n (Up (st ++ record { index = l; formula = f } ∷ []) g) us
        → Gives (indexed p.ids.store_c x Store n 0
        (λ t. Up (st ++ record { index = t; formula = f } ∷ []) g) ∷ []) (Store ∷ us)
    store_given f g x1 l us hf hg h d =
        indexed_given T laws p.clauses opens x hx n p.ids.store_c
        (λ t. Up (st ++ record { index = t; formula = f } ∷ []) g) x1 l us []
        stored Store (λ r. refl) h d
      where
        stored : (r : ℕ → Term)
            → put_sequent r (Up (st ++ record { index = variable (0 + 1); formula = f } ∷ []) g)
            ≡ Up (st ++ record { index = r (0 + 1); formula = f } ∷ []) g
        stored r =
            rw (
              map-append (put_stored r) st (record { index = variable (0 + 1); formula = f } ∷ []),
              closed_stores r st hs,
              closed_formula r f hf,
              closed_formulas r g hg,
            ) refl

    work_given : (f : Formula) (g : List Formula) (us : List Step) → IsOpenFormula 0 f
        → All (IsOpenFormula 0) g
        → Guided p x n (Up st (f ∷ g)) us → Gives (on_work p.ids x n 0 st f g) us
    work_given (truth Negative) g us hf hg true_negative =
        bare_given T laws p.clauses opens x hx n TrueN [] (λ r. refl)
    work_given (falsity Negative) g us hf hg (false_negative {x1} {us = vs} h d) =
        one_given T laws p.clauses opens x hx n p.ids.ff_c FalseN (Up st g) x1 vs [] (hs, hg)
        (λ r. refl) h d
    work_given (disj Negative a b) g us hf hg (or_negative {x1} {us = vs} h d) =
        one_given T laws p.clauses opens x hx n p.ids.or_c OrN (Up st (a ∷ b ∷ g)) x1 vs []
        (hs, All-cons (IsOpenFormula 0) a (b ∷ g) hf.0 (All-cons (IsOpenFormula 0) b g hf.1 hg))
        (λ r. refl) h d
    work_given (conj Negative a b) g us hf hg (and_negative {x1} {x2} {us = vs} {vs = ws} h d e) =
        two_given T laws p.clauses opens x hx n p.ids.and_c AndN (Up st (a ∷ g)) (Up st (b ∷ g)) x1
        x2 vs ws []
        (hs, All-cons (IsOpenFormula 0) a g hf.0 hg) (hs, All-cons (IsOpenFormula 0) b g hf.1 hg)
        (λ r. refl) h d e
    work_given (for_all a) g us hf hg (every {x1} {us = vs} h fresh d) =
        raised_given T laws p.clauses opens x hx n p.ids.all_c Every
        (Up st (open_at 0 (eigen n) a ∷ g)) x1 vs [] (
          hs,
          All-cons (IsOpenFormula 0) (open_at 0 (eigen n) a) g (open_opened 0 (eigen n) a tt hf)
              hg,
        ) (λ r. refl) h d
    work_given (truth Negative) g us hf hg (store h e d) = absurd (cc)
    work_given (falsity Negative) g us hf hg (store h e d) = absurd (cc)
    work_given (disj Negative a b) g us hf hg (store h e d) = absurd (cc)
    work_given (conj Negative a b) g us hf hg (store h e d) = absurd (cc)
    work_given (for_all a) g us hf hg (store h e d) = absurd (cc)
    work_given (implies a b) g us hf hg (store h e d) = absurd (cc)
    work_given (truth Positive) g us hf hg (store {x1} {l} {us = vs} h e d) =
        store_given (truth Positive) g x1 l vs hf hg h d
    work_given (falsity Positive) g us hf hg (store {x1} {l} {us = vs} h e d) =
        store_given (falsity Positive) g x1 l vs hf hg h d
    work_given (atom q f ts) g us hf hg (store {x1} {l} {us = vs} h e d) =
        store_given (atom q f ts) g x1 l vs hf hg h d
    work_given (conj Positive a b) g us hf hg (store {x1} {l} {us = vs} h e d) =
        store_given (conj Positive a b) g x1 l vs hf hg h d
    work_given (disj Positive a b) g us hf hg (store {x1} {l} {us = vs} h e d) =
        store_given (disj Positive a b) g x1 l vs hf hg h d
    work_given (exists a) g us hf hg (store {x1} {l} {us = vs} h e d) =
        store_given (exists a) g x1 l vs hf hg h d

    release_given : (f : Formula) (x1 : Term) (us : List Step) → IsOpenFormula 0 f
        → Says p p.ids.release_e (x ∷ x1 ∷ [])
        → Guided p x1 n (Up st (f ∷ [])) us
        → Gives (one p.ids.release_e x Release n 0 (Up st (f ∷ [])) ∷ []) (Release ∷ us)
    release_given f x1 us hf h d =
        one_given T laws p.clauses opens x hx n p.ids.release_e Release (Up st (f ∷ [])) x1 us []
        (hs, alone (IsOpenFormula 0) f hf) (λ r. refl) h d

    focus_given : (f : Formula) (us : List Step) → IsOpenFormula 0 f → Guided p x n (Down st f) us
        → Gives (on_focus p.ids x n 0 st f) us
    focus_given (truth Positive) us hf (true_positive h) =
        closed_by_given T laws p.clauses opens x hx n p.ids.tt_e TrueP [] (λ r. refl) h
    focus_given (conj Positive a b) us hf (and_positive {x1} {x2} {us = vs} {vs = ws} h d e) =
        two_given T laws p.clauses opens x hx n p.ids.and_e AndP (Down st a) (Down st b) x1 x2 vs ws
        [] (hs, hf.0) (hs, hf.1) (λ r. refl) h d e
    focus_given (disj Positive a b) us hf (or_positive {x1} {us = vs} Left h d) =
        sided_given T laws p.clauses opens x hx n p.ids.or_e p.ids.left (OrP Left) (Down st a) x1 vs
        (sided p.ids.or_e x p.ids.right (OrP Right) n 0 (Down st b) ∷ []) (hs, hf.0) (λ r. refl) h d
    focus_given (disj Positive a b) us hf (or_positive {x1} {us = vs} Right h d) =
        later_given T laws p.clauses opens
        (sided p.ids.or_e x p.ids.left (OrP Left) n 0 (Down st a))
        (sided_given T laws p.clauses opens x hx n p.ids.or_e p.ids.right (OrP Right) (Down st b) x1
        vs [] (hs, hf.1) (λ r. refl) h d)
    focus_given (exists a) us hf (some {x1} {t} {us = vs} h scope d) =
        witnessed_given T laws p.clauses opens x hx n p.ids.some_e (λ u. Down st (open_at 0 u a)) x1
        t vs []
        (λ r. rw (closed_stores r st hs, closed_opened r (variable (0 + 1)) a hf) refl) Exists
        (λ r. refl) scope h d
    focus_given (atom true f ts) us hf (initial {l} {k} h at) =
        init_picked_given T laws p.clauses opens x hx n p.ids.init_e (Down st (atom true f ts)) l us
        [] (hs, hf) h (k, f, ts, refl, at, refl)
    focus_given (truth Positive) us hf (release h e d) = absurd (cc)
    focus_given (falsity Positive) us hf (release h e d) = absurd (cc)
    focus_given (conj Positive a b) us hf (release h e d) = absurd (cc)
    focus_given (disj Positive a b) us hf (release h e d) = absurd (cc)
    focus_given (exists a) us hf (release h e d) = absurd (cc)
    focus_given (atom true f ts) us hf (release h e d) = absurd (cc)
    focus_given (truth Negative) us hf (release {x1} {us = vs} h e d) =
        release_given (truth Negative) x1 vs hf h d
    focus_given (falsity Negative) us hf (release {x1} {us = vs} h e d) =
        release_given (falsity Negative) x1 vs hf h d
    focus_given (atom false f ts) us hf (release {x1} {us = vs} h e d) =
        release_given (atom false f ts) x1 vs hf h d
    focus_given (conj Negative a b) us hf (release {x1} {us = vs} h e d) =
        release_given (conj Negative a b) x1 vs hf h d
    focus_given (disj Negative a b) us hf (release {x1} {us = vs} h e d) =
        release_given (disj Negative a b) x1 vs hf h d
    focus_given (implies a b) us hf (release {x1} {us = vs} h e d) =
        release_given (implies a b) x1 vs hf h d
    focus_given (for_all a) us hf (release {x1} {us = vs} h e d) =
        release_given (for_all a) x1 vs hf h d

    nothing_given : (us : List Step) → Guided p x n (Up st []) us
        → Gives (on_nothing p.ids x n 0 st) us
    nothing_given us (decide {x1} {l} {k} {f = f} {us = vs} h at positive d) =
        picked_given T laws p.clauses opens x hx n p.ids.decide_e (Up st []) x1 l us
        (cutting p.ids.cut_e x n 0 (Up st []) ∷ [])
        (hs, All-nil (IsOpenFormula 0)) h (k, f, vs, at, positive, d, refl)
    nothing_given us (cut_by {x1} {x2} {us = vs} {vs = ws} c ts h in_p scope d d') =
        later_given T laws p.clauses opens (picked p.ids.decide_e x n 0 (Up st []))
        (cutting_given T laws p.clauses opens x hx n p.ids.cut_e (Up st []) x1 x2
        (app c.name (arguments_from ts 0 c.parameters)) us []
        (hs, All-nil (IsOpenFormula 0)) h (c, ts, vs, ws, in_p, refl, scope, d, d', refl))

    picks_given : (l : Term) (us : List Step) → IsPicked p x n l st us → Gives (picks x n l st) us
    picks_given l us (k, f, vs, at, positive, d, steps_are) =
        let i : Stored = record { index = l; formula = f } in
        subst (Gives (picks x n l st)) (sym steps_are)
        (place_given T laws p.clauses opens x hx n (picks x n l st) l (Decide k) (Down st f) vs
        (hs, (stored_all (IsOpenStored 0) st k i at hs).1) (λ r. refl)
        (has_place is_positive (λ j y. at_place x l y.index (Decide j) n (Down st y.formula)) st k i
        at (is_positive_from f positive)) d)

  closings_given : (l : Term) (st : List Stored) (a : Formula) (us : List Step)
      → ClosesWith l a st us → Gives (closings l st a) us
  closings_given l st (atom true f ts) us (k, g, xs, is_atom, at, steps_are) =
      let stands : slice_get st k ≡ Some (record { index = l; formula = atom false f ts }) =
      at ∙ ap₂ (λ h ys. Some (record { index = l; formula = atom false h ys }))
      (sym (ap name_in is_atom)) (sym (ap arguments_in is_atom)) in
      subst (Gives (closings l st (atom true f ts))) (sym steps_are)
      (closing_given T laws p.clauses opens (closings l st (atom true f ts)) l (app f ts) (Init k)
      (λ r. refl)
      (has_place (is_literal false f (count ts))
      (λ j i. closing_at l i.index (atom_term i.formula) (app f ts) (Init j)) st k
      (record { index = l; formula = atom false f ts }) stands (same_literal f ts)))
  closings_given l st (atom false f ts) us (k, g, xs, is_atom, at, steps_are) = absurd (cc)
  closings_given l st (truth q) us (k, g, xs, is_atom, at, steps_are) = absurd (cc)
  closings_given l st (falsity q) us (k, g, xs, is_atom, at, steps_are) = absurd (cc)
  closings_given l st (conj q a b) us (k, g, xs, is_atom, at, steps_are) = absurd (cc)
  closings_given l st (disj q a b) us (k, g, xs, is_atom, at, steps_are) = absurd (cc)
  closings_given l st (implies a b) us (k, g, xs, is_atom, at, steps_are) = absurd (cc)
  closings_given l st (for_all a) us (k, g, xs, is_atom, at, steps_are) = absurd (cc)
  closings_given l st (exists a) us (k, g, xs, is_atom, at, steps_are) = absurd (cc)

  cuts_given : (x y : Term) (n : ℕ) (b : Term) (st : List Stored) → IsOpen 0 x → IsOpen 0 y
      → IsOpen 0 b → All (IsOpenStored 0) st
      → (us : List Step) → IsCut p x y n b st us → Gives (cuts p x y n b st 0) us
  cuts_given x y n b st hx hy hb hs us (d, ts, vs, ws, in_p, is_b, scope, f, f', steps_are) =
      subst (Gives (cuts p x y n b st 0)) (sym steps_are)
      (cut_given T laws p.clauses opens x y b hx hy hb n (λ f. Up st (f ∷ []))
      (λ f. Up st (dual_of f ∷ []))
      (λ r a. ap (λ ss. Up ss (put_formula r a ∷ [])) (closed_stores r st hs))
      (λ r a. ap₂ (λ ss u. Up ss (u ∷ [])) (closed_stores r st hs) (put-dual r a))
      p.declared d in_p (declared_scoped p program d in_p) ts scope is_b vs ws f f')

  lists_given : (x : ItemOn Sequent) → (calculus_of T).IsOpenItem 0 x → (us : List Step)
      → Completes p x us → Gives (goal_lists p x 0) us
  lists_given (derive x n (Up st (f ∷ g))) h us d =
      work_given x h.0 n st h.1.0 f g us (All-head (IsOpenFormula 0) f g h.1.1)
      (All-tail (IsOpenFormula 0) f g h.1.1) d
  lists_given (derive x n (Up st [])) h us d = nothing_given x h.0 n st h.1.0 us d
  lists_given (derive x n (Down st f)) h us d = focus_given x h.0 n st h.1.0 f us h.1.1 d
  lists_given (pick x n l (Up st g)) h us d = picks_given x h.0 n st h.2.0 l us d
  lists_given (pick x n l (Down st f)) h us d = absurd d
  lists_given (init_pick n l (Up st g)) h us d = absurd d
  lists_given (init_pick n l (Down st a)) h us d = closings_given l st a us d
  lists_given (cut x y n b (Up st g)) h us d = cuts_given x y n b st h.0 h.1 h.2 h.3.0 us d
  lists_given (cut x y n b (Down st f)) h us d = absurd d

pub lkf_complete : (p : Program) → IsOpenProgram p
    → IsComplete (calculus_of (lkf_table p)) p.clauses
lkf_complete p program =
    natural_complete (calculus_of (lkf_table p)) p.clauses
    (table_lawful (lkf_table p) (lkf_sequents p) p.clauses (lkf_sound p program)) (lkf_natural p)
    (lists_given p program)
