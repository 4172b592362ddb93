-- Tables that are the same but for the numbers of names give calculi that are.
use Rattle.std.proofs.Common.{◌≡◌, ℕ, refl, sym, subst}
use Rattle.fpc_terms.specs.Term.{Term}
use Rattle.fpc_terms.specs.Same.{SameTerm}
use Rattle.polarised_formulas.specs.Formula.{Formula}
use Rattle.polarised_formulas.specs.declared.step.Step.{Step}
use Rattle.polarised_formulas.specs.declared.step.Step.TheVariants as step
use Rattle.polarised_formulas.specs.Same.{SameFormula, same_truth, same_falsity, same_atom, same_conj, same_disj, same_implies, same_for_all, same_exists}
use Rattle.polarised_formulas.specs.Same.{IsNameless, SameStep, same_exists_step, same_left_every, same_right_exists, same_cut, same_nameless}
use Rattle.polarised_formulas.specs.OpenFormula.{put_formula, put_step}
use Rattle.search_model.specs.Same.{SameItem, same_derive, same_pick, same_init_pick, same_cut_item, AreSameCalculi, AreSameTables}
use Rattle.search_model.specs.Table.{ItemOn, Table, calculus_of}
use Rattle.search_model.proofs.SameTermParts.{put-same, put_all-same}

-- a step without names stays
nameless_stays : (s : ℕ → Term) (e : Step) → IsNameless e → put_step s e ≡ e
nameless_stays s (step.Exists t) h = absurd h
nameless_stays s (step.Cut f) h = absurd h
nameless_stays s (step.FocLEvery t) h = absurd h
nameless_stays s (step.FocRExists t) h = absurd h
nameless_stays s _ h = refl

module _ {S : ℕ → ℕ → Type 0} (s r : ℕ → Term) (each : (n : ℕ) → SameTerm S (s n) (r n)) where
  -- terms for the variables of a formula
  pub put_formula-same : {f g : Formula} → SameFormula S f g → SameFormula S (put_formula s f) (put_formula r g)
  put_formula-same (same_truth p) = same_truth p
  put_formula-same (same_falsity p) = same_falsity p
  put_formula-same (same_atom positive h hs) = same_atom positive h (put_all-same s r each hs)
  put_formula-same (same_conj p h k) = same_conj p (put_formula-same h) (put_formula-same k)
  put_formula-same (same_disj p h k) = same_disj p (put_formula-same h) (put_formula-same k)
  put_formula-same (same_implies h k) = same_implies (put_formula-same h) (put_formula-same k)
  put_formula-same (same_for_all h) = same_for_all (put_formula-same h)
  put_formula-same (same_exists h) = same_exists (put_formula-same h)

  -- and of a step
  pub put_step-same : {d e : Step} → SameStep S d e → SameStep S (put_step s d) (put_step r e)
  put_step-same (same_exists_step h) = same_exists_step (put-same s r each h)
  put_step-same (same_left_every h) = same_left_every (put-same s r each h)
  put_step-same (same_right_exists h) = same_right_exists (put-same s r each h)
  put_step-same (same_cut h) = same_cut (put_formula-same h)
  put_step-same (same_nameless e h) =
      subst (λ x. SameStep S x (put_step r e)) (sym (nameless_stays s e h)) (subst (λ x. SameStep S e x) (sym (nameless_stays r e h)) (same_nameless e h))

module _ {S : ℕ → ℕ → Type 0} (T U : Table) (R : T.SequentOf → U.SequentOf → Type 0) (tables : AreSameTables S T U R) where
  put_item-same : (s r : ℕ → Term) → ((n : ℕ) → SameTerm S (s n) (r n)) → {x : ItemOn T.SequentOf} {y : ItemOn U.SequentOf} → SameItem S R x y
      → SameItem S R ((calculus_of T).put_item s x) ((calculus_of U).put_item r y)
  put_item-same s r h (same_derive n {q = q} {r = c} x k) = same_derive n (put-same s r h x) (tables.sequents s r h q c k)
  put_item-same s r h (same_pick n {q = q} {r = c} x l k) = same_pick n (put-same s r h x) (put-same s r h l) (tables.sequents s r h q c k)
  put_item-same s r h (same_init_pick n {q = q} {r = c} l k) = same_init_pick n (put-same s r h l) (tables.sequents s r h q c k)
  put_item-same s r h (same_cut_item n {q = q} {r = c} x z b k) = same_cut_item n (put-same s r h x) (put-same s r h z) (put-same s r h b) (tables.sequents s r h q c k)

  pub calculi_of_tables : AreSameCalculi S (calculus_of T) (calculus_of U) (SameItem S R) (SameStep S)
  calculi_of_tables = record {
    items = λ s r h x y k. put_item-same s r h k;
    steps = λ s r h d e k. put_step-same s r h k;
    expanded = tables.lines;
  }
