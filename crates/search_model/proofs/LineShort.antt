-- Each goal list has at most the next level, and brings few variables: stated once for both logics.
use Rattle.std.proofs.Common.{◌∷◌, ◌≤◌, ℕ, suc, List, [], map, length, Some, Contains, sym, subst}
use Rattle.std.proofs.Common.{arith}
use Rattle.std.specs.List.{All, AllByRecursion}
use Rattle.std.proofs.lemmas.List.{length-replicate}
use Rattle.std.proofs.lemmas.List.Elements.{All-head, All-tail, All-contains, All-from_recursion}
use Rattle.fpc_terms.specs.Term.{Term}
use Rattle.fpc_terms.specs.Open.{Level}
use Rattle.polarised_formulas.specs.Formula.{Formula}
use Rattle.polarised_formulas.specs.declared.step.Step.{Step}
use Rattle.clause_language.specs.declared.declaration.DeclaredFormula.{DeclaredFormula}
use Rattle.search_model.specs.Table.{ItemOn, level_in, Table, IsLevelled}
use Rattle.search_model.specs.TableLaws.{HaveFewParameters}
use Rattle.search_model.specs.Lines.{Line, bare, closed_by, one, raised, two, indexed, witnessed}
use Rattle.search_model.specs.Lines.{sided, picked, init_picked, cutting, matched, at_place}
use Rattle.search_model.specs.Lines.{closing_at, cut_of}

module _ (S : Type 0) (n : ℕ) where
  abbrev pub IsShort : Line S → Type 0
  IsShort e = AllByRecursion (IsLevelled {S = S} (suc n)) e.goals × (length e.new ≤ 255)

  pub bare_short : (e : Step) → IsShort (bare e)
  bare_short e = ((tt, tt), omega arith)

  pub closed_by_short : (f : ℕ) (x : Term) (e : Step) → IsShort (closed_by f x e)
  closed_by_short f x e = ((tt, (tt, tt)), omega arith)

  pub one_short : (f : ℕ) (x : Term) (e : Step) (k : ℕ) (q : S) → IsShort (one f x e n k q)
  one_short f x e k q = ((tt, (tt, (omega arith, tt))), omega arith)

  pub raised_short : (f : ℕ) (x : Term) (e : Step) (k : ℕ) (q : S) → IsShort (raised f x e n k q)
  raised_short f x e k q = ((tt, (tt, (omega arith, tt))), omega arith)

  pub two_short : (f : ℕ) (x : Term) (e : Step) (k : ℕ) (q r : S) → IsShort (two f x e n k q r)
  two_short f x e k q r = ((tt, (tt, (omega arith, (omega arith, tt)))), omega arith)

  pub indexed_short : (f : ℕ) (x : Term) (e : Step) (k : ℕ) (q : Term → S)
      → IsShort (indexed f x e n k q)
  indexed_short f x e k q = ((tt, (tt, (omega arith, tt))), omega arith)

  pub witnessed_short : (f : ℕ) (x : Term) (e : Term → Step) (k : ℕ) (q : Term → S)
      → IsShort (witnessed f x e n k q)
  witnessed_short f x e k q = ((tt, (tt, (omega arith, tt))), omega arith)

  pub sided_short : (f : ℕ) (x : Term) (side : ℕ) (e : Step) (k : ℕ) (q : S)
      → IsShort (sided f x side e n k q)
  sided_short f x side e k q = ((tt, (tt, (tt, (omega arith, tt)))), omega arith)

  pub picked_short : (f : ℕ) (x : Term) (k : ℕ) (q : S) → IsShort (picked f x n k q)
  picked_short f x k q = ((tt, (omega arith, tt)), omega arith)

  pub init_picked_short : (f : ℕ) (x : Term) (k : ℕ) (q : S) → IsShort (init_picked f x n k q)
  init_picked_short f x k q = ((tt, (omega arith, tt)), omega arith)

  pub cutting_short : (f : ℕ) (x : Term) (k : ℕ) (q : S) → IsShort (cutting f x n k q)
  cutting_short f x k q = ((tt, (omega arith, tt)), omega arith)

  pub matched_short : (f : ℕ) (x : Term) (e : Step) (a b : Term) → IsShort (matched f x e a b)
  matched_short f x e a b = ((tt, (tt, (tt, tt))), omega arith)

  pub at_place_short : (x l t : Term) (e : Step) (q : S) → IsShort (at_place x l t e n q)
  at_place_short x l t e q = ((tt, (tt, (omega arith, tt))), omega arith)

  pub closing_at_short : (l t a b : Term) (e : Step) → IsShort (closing_at l t a b e)
  closing_at_short l t a b e = ((tt, (tt, (tt, tt))), omega arith)

  pub cuts_short : (x y b : Term) (k : ℕ) (q r : Formula → S) (ds : List DeclaredFormula)
      → HaveFewParameters ds
      → AllByRecursion IsShort (map (cut_of x y b n k q r) ds)
  cuts_short x y b k q r [] h = tt
  cuts_short x y b k q r (d ∷ ds) h = (
    (
      (tt, (tt, (omega arith, (omega arith, tt)))),
      subst (λ m. m ≤ 255) (sym (length-replicate {A = Level} d.parameters (Some n)))
          (All-head (λ (d : DeclaredFormula). d.parameters ≤ 255) d ds h),
    ),
    cuts_short x y b k q r ds (All-tail (λ (d : DeclaredFormula). d.parameters ≤ 255) d ds h),
  )

-- what a table owes of levels and new variables, where each goal list is short
module _ (T : Table)
    (short : (x : ItemOn T.SequentOf) (k : ℕ)
    → AllByRecursion (IsShort T.SequentOf (level_in x)) (T.expand x k))
    (x : ItemOn T.SequentOf) (k : ℕ) (e : Line T.SequentOf)
    (among : Contains (T.expand x k) e) where
  it_is : IsShort T.SequentOf (level_in x) e
  it_is =
      All-contains (IsShort T.SequentOf (level_in x)) (T.expand x k) e
      (All-from_recursion (IsShort T.SequentOf (level_in x)) (T.expand x k) (short x k)) among

  pub short_levels : All (IsLevelled (suc (level_in x))) e.goals
  short_levels =
      All-from_recursion (IsLevelled {S = T.SequentOf} (suc (level_in x))) e.goals it_is.0

  pub short_few : length e.new ≤ 255
  short_few = it_is.1
