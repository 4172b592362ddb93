-- The goal lists of a cut, one for each declared formula.
use Rattle.std.proofs.Common.{◌≡◌, ◌+◌, ℕ, zero, suc, List, [], ◌∷◌, ◌++◌, map, take, Some, slice_get, refl, ap, ap₂, sym, ◌∙◌, arith}
use Rattle.fpc_terms.specs.Open.{later}
use Rattle.fpc_terms.specs.Term.{Term}
use Rattle.polarised_formulas.specs.Formula.{Formula, dual_of}
use Rattle.clause_language.specs.declared.declaration.DeclaredFormula.{DeclaredFormula}
use Rattle.search_model.specs.Lines.{Line, cut_of}
use Rattle.polarised_formulas.specs.OpenFormula.{put_formula}
use Rattle.search_model.specs.declared.stored.Stored.{Stored}
use Rattle.lkf_kernel.specs.declared.sequent.Sequent.{Sequent}
use Rattle.lkf_kernel.specs.declared.sequent.Sequent.TheVariants.{Up}

module _ {A B : Type 0} (f : A → B) where
  map_next : (xs : List A) (i : ℕ) (x : A) → slice_get xs i ≡ Some x
      → map f (take (suc i) xs) ≡ map f (take i xs) ++ f x ∷ []
  map_next [] i x e = absurd (cc)
  map_next (y ∷ ys) zero x e = let same : y ≡ x = cc in rw same refl
  map_next (y ∷ ys) (suc i) x e = ap (λ (zs : List B). f y ∷ zs) (map_next ys i x e)

  -- the values so far, and that of the next item
  pub mapped_on : (xs : List A) (i : ℕ) (x : A) (ls ms : List B) (e : B) → slice_get xs i ≡ Some x
      → ls ≡ map f (take i xs) → e ≡ f x → ms ≡ ls ++ e ∷ [] → ms ≡ map f (take (i + 1) xs)
  mapped_on xs i x ls ms e at h same m =
      let next : suc i ≡ i + 1 = omega arith in
      m ∙ ap₂ (λ (ys : List B) (y : B). ys ++ y ∷ []) h same ∙ sym (map_next xs i x at)
      ∙ ap (λ (j : ℕ). map f (take j xs)) next

-- the goal list of a cut whose premises are these
pub cut_line : (x y b : Term) (n k : ℕ) (st : List Stored) (d : DeclaredFormula) (q r : Sequent)
    → q ≡ Up st (put_formula (later k) d.formula ∷ [])
    → r ≡ Up st (dual_of (put_formula (later k) d.formula) ∷ [])
    → cut_of x y b n k (λ f. q) (λ f. r) d
    ≡ cut_of x y b n k (λ f. Up st (f ∷ [])) (λ f. Up st (dual_of f ∷ [])) d
cut_line x y b n k st d q r first second = rw (first, second) refl
