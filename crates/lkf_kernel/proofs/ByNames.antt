-- LKF's table is the same but for the numbers of names, where programs are.
use Rattle.std.proofs.Common.{◌≡◌, ℕ, ◌+◌, ◌++◌, true, false, List, [], ◌∷◌, ap}
use Rattle.fpc_terms.specs.Term.{Term, variable, app, count}
use Rattle.fpc_terms.specs.Same.{SameTerm, same_eigen, same_variable, same_app, SameList, same_nil, same_cons}
use Rattle.fpc_terms.proofs.SameTerms.{append-same, slice_get-same}
use Rattle.polarised_formulas.specs.Formula.{Formula, dual_of}
use Rattle.polarised_formulas.specs.declared.logic.Polarity.TheVariants.{Positive, Negative}
use Rattle.polarised_formulas.specs.declared.logic.Side.TheVariants.{Left, Right}
use Rattle.polarised_formulas.specs.declared.step.Step.TheVariants.{TrueN, FalseN, OrN, AndN, Every, Store, Decide, TrueP, AndP, OrP, Release, Init}
use Rattle.polarised_formulas.specs.Same.{SameFormula, same_truth, same_falsity, same_atom, same_conj, same_disj, same_implies, same_for_all, same_exists}
use Rattle.polarised_formulas.proofs.SameFormulas.{polarity_of-same, dual_of-same, open_at-same}
use Rattle.polarised_formulas.specs.Same.{same_exists_step, same_nameless}
use Rattle.clause_language.specs.Program.{ids_of}
use Rattle.clause_language.specs.declared.program.Program.{Program}
use Rattle.clause_language.specs.declared.word_ids.WordIds.{WordIds}
use Rattle.search_model.specs.Lines.{Line, at_place, closing_at, atom_term, is_literal}
use Rattle.search_model.specs.Same.{IsOneToOne, AreRelated, related_nil, related_cons, SameStored, SameProgram, SameItem, same_derive, same_pick, same_init_pick, same_cut_item, SameLine, AreSameTables}
use Rattle.search_model.specs.Table.{ItemOn}
use Rattle.search_model.specs.declared.stored.Stored.{Stored}
use Rattle.search_model.proofs.LineSame.{put_stored-same, put_formulas-same, atom_term-same, literal-same, bare_same, closed_by_same, one_same, raised_same, two_same, indexed_same, witnessed_same, sided_same, picked_same, init_picked_same, cutting_same, at_place_same, closing_at_same, places_same, cuts_same}
use Rattle.search_model.proofs.SameTables.{put_formula-same}
use Rattle.search_model.proofs.SameTermParts.{count-same, some-same}
use Rattle.lkf_kernel.specs.Guided.{lkf_table}
use Rattle.lkf_kernel.specs.Lkf.{put_sequent, is_positive, on_work, on_nothing, on_focus, picks, closings, goal_lists}
use Rattle.lkf_kernel.specs.declared.sequent.Sequent.{Sequent}
use Rattle.lkf_kernel.specs.declared.sequent.Sequent.TheVariants.{Up, Down}

-- the two sequents are the same but for the numbers of their names
pub data SameSequent (S : ℕ → ℕ → Type 0) : Sequent → Sequent → Type 0 where
  same_up : {st su : List Stored} {g h : List Formula} → SameList (SameStored S) st su → SameList (SameFormula S) g h → SameSequent S (Up st g) (Up su h)
  same_down : {st su : List Stored} {f g : Formula} → SameList (SameStored S) st su → SameFormula S f g → SameSequent S (Down st f) (Down su g)

positive-same : (S : ℕ → ℕ → Type 0) (f g : Formula) → SameFormula S f g → is_positive f ≡ is_positive g
positive-same S f g h = ap (λ p. elim p [ Positive ↦ true | Negative ↦ false ]) (polarity_of-same S h)

-- two lists of goal lists
abbrev AreSame : (S : ℕ → ℕ → Type 0) → List (Line Sequent) → List (Line Sequent) → Type 0
AreSame S es ds = AreRelated (SameLine S (SameSequent S)) es ds

module _ {S : ℕ → ℕ → Type 0} where
  alone : {e d : Line Sequent} → SameLine S (SameSequent S) e d → AreSame S (e ∷ []) (d ∷ [])
  alone h = related_cons h related_nil

  sequent_put-same : (s r : ℕ → Term) → ((n : ℕ) → SameTerm S (s n) (r n)) → {q c : Sequent} → SameSequent S q c → SameSequent S (put_sequent s q) (put_sequent r c)
  sequent_put-same s r h (same_up is fs) = same_up (put_stored-same s r h is) (put_formulas-same s r h fs)
  sequent_put-same s r h (same_down is k) = same_down (put_stored-same s r h is) (put_formula-same s r h k)

  module _ {v w : WordIds} (ids : SameList S (ids_of v) (ids_of w)) {x y : Term} (xs : SameTerm S x y) (n k : ℕ) {st su : List Stored} (sts : SameList (SameStored S) st su) where
    and_c : S v.and_c w.and_c
    and_c = some-same S (slice_get-same ids 0)

    or_c : S v.or_c w.or_c
    or_c = some-same S (slice_get-same ids 1)

    ff_c : S v.ff_c w.ff_c
    ff_c = some-same S (slice_get-same ids 2)

    all_c : S v.all_c w.all_c
    all_c = some-same S (slice_get-same ids 3)

    store_c : S v.store_c w.store_c
    store_c = some-same S (slice_get-same ids 4)

    decide_e : S v.decide_e w.decide_e
    decide_e = some-same S (slice_get-same ids 5)

    release_e : S v.release_e w.release_e
    release_e = some-same S (slice_get-same ids 6)

    init_e : S v.init_e w.init_e
    init_e = some-same S (slice_get-same ids 7)

    tt_e : S v.tt_e w.tt_e
    tt_e = some-same S (slice_get-same ids 8)

    and_e : S v.and_e w.and_e
    and_e = some-same S (slice_get-same ids 9)

    or_e : S v.or_e w.or_e
    or_e = some-same S (slice_get-same ids 10)

    some_e : S v.some_e w.some_e
    some_e = some-same S (slice_get-same ids 11)

    cut_e : S v.cut_e w.cut_e
    cut_e = some-same S (slice_get-same ids 12)

    left : S v.left w.left
    left = some-same S (slice_get-same ids 35)

    right : S v.right w.right
    right = some-same S (slice_get-same ids 36)

    storing-same : {f g : Formula} {fs gs : List Formula} → SameFormula S f g → SameList (SameFormula S) fs gs
        → SameSequent S (Up (st ++ record { index = variable (k + 1); formula = f } ∷ []) fs) (Up (su ++ record { index = variable (k + 1); formula = g } ∷ []) gs)
    storing-same f fs = same_up (append-same sts (same_cons (record { indexes = same_variable (k + 1); formulas = f }) same_nil)) fs

    work-same : {f g : Formula} {fs gs : List Formula} → SameFormula S f g → SameList (SameFormula S) fs gs → AreSame S (on_work v x n k st f fs) (on_work w y n k su g gs)
    work-same (same_truth Negative) fs = alone (bare_same (same_nameless TrueN tt))
    work-same (same_falsity Negative) fs = alone (one_same n k ff_c xs (same_nameless FalseN tt) (same_up sts fs))
    work-same (same_disj Negative a b) fs = alone (one_same n k or_c xs (same_nameless OrN tt) (same_up sts (same_cons a (same_cons b fs))))
    work-same (same_conj Negative a b) fs = alone (two_same n k and_c xs (same_nameless AndN tt) (same_up sts (same_cons a fs)) (same_up sts (same_cons b fs)))
    work-same (same_for_all a) fs = alone (raised_same n k all_c xs (same_nameless Every tt) (same_up sts (same_cons (open_at-same S 0 (same_eigen n) a) fs)))
    work-same (same_implies a b) fs = related_nil
    work-same (same_truth Positive) fs = alone (indexed_same n k store_c xs (same_nameless Store tt) (storing-same (same_truth Positive) fs))
    work-same (same_falsity Positive) fs = alone (indexed_same n k store_c xs (same_nameless Store tt) (storing-same (same_falsity Positive) fs))
    work-same (same_atom b f ts) fs = alone (indexed_same n k store_c xs (same_nameless Store tt) (storing-same (same_atom b f ts) fs))
    work-same (same_disj Positive a b) fs = alone (indexed_same n k store_c xs (same_nameless Store tt) (storing-same (same_disj Positive a b) fs))
    work-same (same_conj Positive a b) fs = alone (indexed_same n k store_c xs (same_nameless Store tt) (storing-same (same_conj Positive a b) fs))
    work-same (same_exists a) fs = alone (indexed_same n k store_c xs (same_nameless Store tt) (storing-same (same_exists a) fs))

    nothing-same : AreSame S (on_nothing v x n k st) (on_nothing w y n k su)
    nothing-same = related_cons (picked_same n k decide_e xs (same_up sts same_nil)) (alone (cutting_same n k cut_e xs (same_up sts same_nil)))

    released : {f g : Formula} → SameFormula S f g → SameSequent S (Up st (f ∷ [])) (Up su (g ∷ []))
    released f = same_up sts (same_cons f same_nil)

    focus-same : {f g : Formula} → SameFormula S f g → AreSame S (on_focus v x n k st f) (on_focus w y n k su g)
    focus-same (same_truth Positive) = alone (closed_by_same tt_e xs (same_nameless TrueP tt))
    focus-same (same_falsity Positive) = related_nil
    focus-same (same_conj Positive a b) = alone (two_same n k and_e xs (same_nameless AndP tt) (same_down sts a) (same_down sts b))
    focus-same (same_disj Positive a b) =
        related_cons (sided_same n k or_e xs left (same_nameless (OrP Left) tt) (same_down sts a)) (alone (sided_same n k or_e xs right (same_nameless (OrP Right) tt) (same_down sts b)))
    focus-same (same_exists a) = alone (witnessed_same n k some_e xs (same_exists_step (same_variable (k + 1))) (same_down sts (open_at-same S 0 (same_variable (k + 1)) a)))
    focus-same (same_atom true f ts) = alone (init_picked_same n k init_e xs (same_down sts (same_atom true f ts)))
    focus-same (same_atom false f ts) = alone (one_same n k release_e xs (same_nameless Release tt) (released (same_atom false f ts)))
    focus-same (same_truth Negative) = alone (one_same n k release_e xs (same_nameless Release tt) (released (same_truth Negative)))
    focus-same (same_falsity Negative) = alone (one_same n k release_e xs (same_nameless Release tt) (released (same_falsity Negative)))
    focus-same (same_conj Negative a b) = alone (one_same n k release_e xs (same_nameless Release tt) (released (same_conj Negative a b)))
    focus-same (same_disj Negative a b) = alone (one_same n k release_e xs (same_nameless Release tt) (released (same_disj Negative a b)))
    focus-same (same_implies a b) = alone (one_same n k release_e xs (same_nameless Release tt) (released (same_implies a b)))
    focus-same (same_for_all a) = alone (one_same n k release_e xs (same_nameless Release tt) (released (same_for_all a)))

  picks-same : {x y : Term} → SameTerm S x y → (n : ℕ) → {l m : Term} → SameTerm S l m → {st su : List Stored} → SameList (SameStored S) st su → AreSame S (picks x n l st) (picks y n m su)
  picks-same {x = x} {y = y} xs n {l = l} {m = m} ls {st = st} {su = su} sts =
      places_same is_positive is_positive (λ j i. at_place x l i.index (Decide j) n (Down st i.formula)) (λ j i. at_place y m i.index (Decide j) n (Down su i.formula))
      (positive-same S) (λ j i o s e. at_place_same n xs ls s.indexes (same_nameless (Decide j) tt) (same_down sts s.formulas)) 0 sts

  module _ (one_to_one : IsOneToOne S) where
    closings-same : {l m : Term} → SameTerm S l m → {st su : List Stored} → SameList (SameStored S) st su → {f g : Formula} → SameFormula S f g → AreSame S (closings l st f) (closings m su g)
    closings-same {l = l} {m = m} ls sts (same_atom true {f = f} {g = g} {ts = ts} {us = us} h hs) =
        places_same (is_literal false f (count ts)) (is_literal false g (count us)) (λ j i. closing_at l i.index (atom_term i.formula) (app f ts) (Init j)) (λ j i. closing_at m i.index (atom_term i.formula) (app g us) (Init j))
        (λ a b s. literal-same one_to_one false h (count-same hs) s)
        (λ j i k s e. closing_at_same ls s.indexes (atom_term-same false f (count ts) s.formulas e) (same_app h hs) (same_nameless (Init j) tt)) 0 sts
    closings-same ls sts (same_atom false h hs) = related_nil
    closings-same ls sts (same_truth p) = related_nil
    closings-same ls sts (same_falsity p) = related_nil
    closings-same ls sts (same_conj p a b) = related_nil
    closings-same ls sts (same_disj p a b) = related_nil
    closings-same ls sts (same_implies a b) = related_nil
    closings-same ls sts (same_for_all a) = related_nil
    closings-same ls sts (same_exists a) = related_nil

    module _ (p q : Program) (programs : SameProgram S p q) where
      goal_lists-same : (k : ℕ) {i j : ItemOn Sequent} → SameItem S (SameSequent S) i j → AreSame S (goal_lists p i k) (goal_lists q j k)
      goal_lists-same k (same_derive n xs (same_up sts (same_cons h hs))) = work-same programs.words xs n k sts h hs
      goal_lists-same k (same_derive n xs (same_up sts same_nil)) = nothing-same programs.words xs n k sts
      goal_lists-same k (same_derive n xs (same_down sts h)) = focus-same programs.words xs n k sts h
      goal_lists-same k (same_pick n xs ls (same_up sts hs)) = picks-same xs n ls sts
      goal_lists-same k (same_pick n xs ls (same_down sts h)) = related_nil
      goal_lists-same k (same_init_pick n ls (same_up sts hs)) = related_nil
      goal_lists-same k (same_init_pick n ls (same_down sts h)) = closings-same ls sts h
      goal_lists-same k (same_cut_item n xs zs bs (same_up {st = st} {su = su} sts hs)) =
          cuts_same n k xs zs bs (λ f. Up st (f ∷ [])) (λ f. Up st (dual_of f ∷ [])) (λ f. Up su (f ∷ [])) (λ f. Up su (dual_of f ∷ []))
          (λ f g s. same_up sts (same_cons s same_nil)) (λ f g s. same_up sts (same_cons (dual_of-same S s) same_nil)) programs.declared
      goal_lists-same k (same_cut_item n xs zs bs (same_down sts h)) = related_nil

      pub lkf_tables_same : AreSameTables S (lkf_table p) (lkf_table q) (SameSequent S)
      lkf_tables_same = record {
        sequents = λ s r h q c k. sequent_put-same s r h k;
        lines = λ i j h k. goal_lists-same k h;
        roots = λ f g s. same_up same_nil (same_cons s same_nil);
      }
