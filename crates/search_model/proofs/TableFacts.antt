-- The laws of a table's items follow from those of its sequents.
use Rattle.std.proofs.Common.{◌≡◌, ℕ, ◌<◌, ◌≤◌, ◌++◌, List, length, refl, ap₂, ◌∙◌, arith}
use Rattle.fpc_terms.specs.Term.{Term, variable, put, Always, Never}
use Rattle.fpc_terms.specs.Open.{IsOpen, Level, level_of}
use Rattle.fpc_terms.proofs.PutFacts.{put-put, put_agrees, open_put, open_more}
use Rattle.clause_language.specs.declared.clause.Clause.{Clause}
use Rattle.fpc_terms.specs.Open.{IsOpenAt}
use Rattle.search_model.specs.Lawful.{IsLawful}
use Rattle.search_model.specs.Search.{SearchCalculus}
use Rattle.search_model.specs.Table.{ItemOn, derive, pick, init_pick, cut}
use Rattle.search_model.specs.Table.{Table, calculus_of, AreSequents}
use Rattle.search_model.specs.TableLaws.{AreSoundLines}
use Rattle.polarised_formulas.proofs.OpenFormulaFacts.{put_same, step_same, step-put, step_agrees}
use Rattle.polarised_formulas.proofs.OpenFormulaFacts.{step_open_put, step_open_more}

module _ (T : Table) (laws : AreSequents T) where
  abbrev C : SearchCalculus
  C = calculus_of T

  abbrev Item : Type 0
  Item = ItemOn T.SequentOf

  -- a sequent without variables stays as it is
  pub sequent_closed : (r : ℕ → Term) (q : T.SequentOf) → T.IsOpenSequent 0 q → T.put_sequent r q ≡ q
  sequent_closed r q h =
      laws.sequent_agrees 0 r variable (λ n l. absurd (omega (arith, l))) q h ∙ laws.sequent_same q

  pub item_same : (x : Item) → C.put_item variable x ≡ x
  item_same (derive x n q) = ap₂ (λ t c. derive t n c) (put_same x) (laws.sequent_same q)
  item_same (pick x n l q) = rw (put_same x, put_same l, laws.sequent_same q) refl
  item_same (init_pick n l q) = rw (put_same l, laws.sequent_same q) refl
  item_same (cut x y n b q) = rw (put_same x, put_same y, put_same b, laws.sequent_same q) refl

  pub item-put : (s r : ℕ → Term) (x : Item)
      → C.put_item s (C.put_item r x) ≡ C.put_item (λ n. put s (r n)) x
  item-put s r (derive x n q) =
      ap₂ (λ t c. derive t n c) (put-put s r x) (laws.sequent-put s r q)
  item-put s r (pick x n l q) = rw (put-put s r x, put-put s r l, laws.sequent-put s r q) refl
  item-put s r (init_pick n l q) = rw (put-put s r l, laws.sequent-put s r q) refl
  item-put s r (cut x y n b q) =
      rw (put-put s r x, put-put s r y, put-put s r b, laws.sequent-put s r q) refl

  module _ (k : ℕ) (s r : ℕ → Term) (same : (n : ℕ) → n < k → s n ≡ r n) where
    term_agrees : (t : Term) → IsOpen k t → put s t ≡ put r t
    term_agrees t h = put_agrees Always Never (λ n. n < k) s r same t h

    pub item_agrees : (x : Item) → C.IsOpenItem k x → C.put_item s x ≡ C.put_item r x
    item_agrees (derive x n q) h =
        rw (term_agrees x h.0, laws.sequent_agrees k s r same q h.1) refl
    item_agrees (pick x n l q) h =
        rw (term_agrees x h.0, term_agrees l h.1, laws.sequent_agrees k s r same q h.2) refl
    item_agrees (init_pick n l q) h =
        rw (term_agrees l h.0, laws.sequent_agrees k s r same q h.1) refl
    item_agrees (cut x y n b q) h =
        rw (
          term_agrees x h.0,
          term_agrees y h.1,
          term_agrees b h.2,
          laws.sequent_agrees k s r same q h.3,
        ) refl

  module _ (j k : ℕ) (r : ℕ → Term) (are_open : (n : ℕ) → n < j → IsOpen k (r n)) where
    term_open : (t : Term) → IsOpen j t → IsOpen k (put r t)
    term_open t h = open_put j k r are_open t h

    sequent_open : (q : T.SequentOf) → T.IsOpenSequent j q → T.IsOpenSequent k (T.put_sequent r q)
    sequent_open q h = laws.open_put j k r are_open q h

    pub item_open_put : (x : Item) → C.IsOpenItem j x → C.IsOpenItem k (C.put_item r x)
    item_open_put (derive x n q) h = (term_open x h.0, sequent_open q h.1)
    item_open_put (pick x n l q) h = (term_open x h.0, term_open l h.1, sequent_open q h.2)
    item_open_put (init_pick n l q) h = (term_open l h.0, sequent_open q h.1)
    item_open_put (cut x y n b q) h =
        (term_open x h.0, term_open y h.1, term_open b h.2, sequent_open q h.3)

  module _ (j k : ℕ) (le : j ≤ k) where
    term_more : (t : Term) → IsOpen j t → IsOpen k t
    term_more t h = open_more j k le t h

    pub item_open_more : (x : Item) → C.IsOpenItem j x → C.IsOpenItem k x
    item_open_more (derive x n q) h = (term_more x h.0, laws.open_more j k le q h.1)
    item_open_more (pick x n l q) h =
        (term_more x h.0, term_more l h.1, laws.open_more j k le q h.2)
    item_open_more (init_pick n l q) h = (term_more l h.0, laws.open_more j k le q h.1)
    item_open_more (cut x y n b q) h =
        (term_more x h.0, term_more y h.1, term_more b h.2, laws.open_more j k le q h.3)

  pub item_scoped_put : (levels after : List Level) (r : ℕ → Term)
      → ((n : ℕ) → n < length levels → IsOpenAt after (level_of levels n) (r n))
      → (x : Item) → C.IsScopedItem levels x → C.IsScopedItem after (C.put_item r x)
  item_scoped_put levels after r at_levels (derive x n q) h =
      (tt, laws.scoped_put levels after r at_levels n q h.1)
  item_scoped_put levels after r at_levels (pick x n l q) h =
      (tt, tt, laws.scoped_put levels after r at_levels n q h.2)
  item_scoped_put levels after r at_levels (init_pick n l q) h =
      (tt, laws.scoped_put levels after r at_levels n q h.1)
  item_scoped_put levels after r at_levels (cut x y n b q) h =
      (tt, tt, tt, laws.scoped_put levels after r at_levels n q h.3)

  pub item_scoped_more : (levels more : List Level) (x : Item) → C.IsScopedItem levels x
      → C.IsScopedItem (levels ++ more) x
  item_scoped_more levels more (derive x n q) h = (tt, laws.scoped_more levels more n q h.1)
  item_scoped_more levels more (pick x n l q) h = (tt, tt, laws.scoped_more levels more n q h.2)
  item_scoped_more levels more (init_pick n l q) h = (tt, laws.scoped_more levels more n q h.1)
  item_scoped_more levels more (cut x y n b q) h = (tt, tt, tt, laws.scoped_more levels more n q h.3)

  -- the calculus of a table is lawful
  pub table_lawful : (clauses : List Clause) → AreSoundLines T clauses → IsLawful C clauses
  table_lawful clauses lines = record {
    item-put = item-put;
    step-put = step-put;
    item_same = item_same;
    step_same = step_same;
    item_agrees = item_agrees;
    step_agrees = step_agrees;
    open_put = item_open_put;
    step_open_put = step_open_put;
    open_more = item_open_more;
    step_open_more = step_open_more;
    scoped_put = λ levels after r at_levels x o scoped. item_scoped_put levels after r at_levels x scoped;
    scoped_more = λ levels more x o scoped. item_scoped_more levels more x scoped;
    expands = lines.expands;
    sound = lines.sound;
  }
