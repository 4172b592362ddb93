-- What has no variables stays as it is, and what a closing makes of what is in scope.
use Rattle.std.proofs.Common.{◌<◌, ◌∙◌, ◌≡◌, ◌≢◌, ℕ, List, map, length, None, Some, ap, arith}
use Rattle.std.specs.List.{All}
use Rattle.std.proofs.lemmas.List.Elements.{All-map, All-weaker}
use Rattle.fpc_terms.specs.Term.{Term, variable, put, Each, Never, Always}
use Rattle.fpc_terms.specs.Open.{IsOpen, Level, level_of, IsAtMost, IsScopedAt, IsClosing}
use Rattle.fpc_terms.proofs.PutFacts.{put_agrees, each_more}
use Rattle.polarised_formulas.specs.Formula.{Formula, open_at, EachInside, Tied, IsProper}
use Rattle.polarised_formulas.specs.OpenFormula.{put_formula, AnyBound, IsOpenFormula, IsScopedFormula}
use Rattle.search_model.specs.StoredFormulas.{put_stored, IsOpenStored, IsScopedStored}
use Rattle.search_model.specs.declared.stored.Stored.{Stored}
use Rattle.polarised_formulas.proofs.OpenFormulaFacts.{put_same, formula_same, formula_agrees}
use Rattle.polarised_formulas.proofs.OpenFormulaFacts.{inside_more, inside_put}
use Rattle.polarised_formulas.proofs.OpenedPutFacts.{put-open_at}
use Rattle.search_model.proofs.SequentParts.{stores_same, works_same, work_agrees, works_agree}
use Rattle.search_model.proofs.SequentParts.{stores_agree}

module _ (r : ℕ → Term) where
  none_below : (n : ℕ) → n < 0 → r n ≡ variable n
  none_below n l = absurd (omega (arith, l))

  pub closed_term : (t : Term) → IsOpen 0 t → put r t ≡ t
  closed_term t h = put_agrees Always Never (λ n. n < 0) r variable none_below t h ∙ put_same t

  pub closed_formula : (f : Formula) → IsOpenFormula 0 f → put_formula r f ≡ f
  closed_formula f h = work_agrees 0 r variable none_below f h ∙ formula_same f

  pub closed_formulas : (g : List Formula) → All (IsOpenFormula 0) g → map (put_formula r) g ≡ g
  closed_formulas g h = works_agree 0 r variable none_below g h ∙ works_same g

  pub closed_stores : (st : List Stored) → All (IsOpenStored 0) st → map (put_stored r) st ≡ st
  closed_stores st h = stores_agree 0 r variable none_below st h ∙ stores_same st

  pub closed_opened : (t : Term) (a : Formula) → EachInside Always AnyBound (λ n. n < 0) 1 a
      → put_formula r (open_at 0 t a) ≡ open_at 0 (put r t) a
  closed_opened t a h =
      put-open_at Always AnyBound (λ n. n < 0) r (λ n l. absurd (omega (arith, l))) t 1 0 a h
      ∙ ap (open_at 0 (put r t))
      (formula_agrees Always AnyBound (λ n. n < 0) r variable none_below 1 a h ∙ formula_same a)

-- under a closing
module _ (levels : List Level) (s : ℕ → Term) (closing : IsClosing levels s) where
  in_scope_at : (n d v : ℕ) → IsAtMost (level_of levels v) (Some n)
      → Each (λ m. m < n) (Tied d) Never (s v)
  in_scope_at n d v q = by_level (level_of levels v) q (closing.in_scope v)
    where
      by_level : (a : Level) → IsAtMost a (Some n) → IsScopedAt a (s v)
          → Each (λ m. m < n) (Tied d) Never (s v)
      by_level None q i = absurd q
      by_level (Some a) q i =
          each_more (λ m. m < a) Never Never (λ m. m < n) (Tied d) Never
          (λ m l. omega (arith, l, q))
          (λ m x. absurd x) (λ m x. x) (s v) i

  -- the eigenvariable of the level stands in no formula
  pub fresh_formula : (n : ℕ) (f : Formula) → IsScopedFormula levels n f
      → IsProper (λ m. m ≢ n) (put_formula s f)
  fresh_formula n f h =
      inside_more (λ m. m < n) Tied Never (λ m. m ≢ n) Tied Never
      (λ m l same. omega (arith, l, same))
      (λ k m a. a) (λ m a. a) 0 (put_formula s f)
      (inside_put (λ m. m < n) Tied (λ v. IsAtMost (level_of levels v) (Some n)) (λ m. m < n) Tied
      Never
      (λ m a. a) (λ k m a. a) s (λ k v q. in_scope_at n k v q) 0 f h)

  pub fresh_formulas : (n : ℕ) (g : List Formula) → All (IsScopedFormula levels n) g
      → All (IsProper (λ m. m ≢ n)) (map (put_formula s) g)
  fresh_formulas n g h =
      All-map (IsProper (λ m. m ≢ n)) (put_formula s) g
      (All-weaker (IsScopedFormula levels n) (λ f. IsProper (λ m. m ≢ n) (put_formula s f))
      (fresh_formula n) g h)

  pub fresh_stores : (n : ℕ) (st : List Stored) → All (IsScopedStored levels n) st
      → All (λ (i : Stored). IsProper (λ m. m ≢ n) i.formula) (map (put_stored s) st)
  fresh_stores n st h =
      All-map (λ (i : Stored). IsProper (λ m. m ≢ n) i.formula) (put_stored s) st
      (All-weaker (IsScopedStored levels n)
      (λ (i : Stored). IsProper (λ m. m ≢ n) (put_formula s i.formula))
      (λ (i : Stored) q. fresh_formula n i.formula q) st h)

  -- an index is opened before or after
  pub formula_opened : (t : Term) (f : Formula)
      → EachInside Always AnyBound (λ n. n < length levels) 1 f
      → put_formula s (open_at 0 t f) ≡ open_at 0 (put s t) (put_formula s f)
  formula_opened t f h =
      put-open_at Always AnyBound (λ n. n < length levels) s
      (λ n l. each_more Always Never Never Always Never Always (λ m a. a) (λ m a. a) (λ m a. tt)
      (s n) (closing.ground n))
      t 1 0 f h
