-- What is plain is of the logic, and has no variable and no free bound index.
use Rattle.std.proofs.Common.{◌≡◌, ℕ, suc, ◌<◌, Bool, List}
use Rattle.fpc_terms.specs.Term.{Term, Args, eigen, bound, variable, app, no_args, arg, Each, EachArg, Never}
use Rattle.polarised_formulas.specs.declared.logic.Logic.{Logic}
use Rattle.polarised_formulas.specs.declared.logic.Logic.TheVariants.{Lkf, Ljf}
use Rattle.polarised_formulas.specs.declared.logic.Polarity.TheVariants.{Positive, Negative}
use Rattle.polarised_formulas.specs.Formula.{Formula, truth, falsity, atom, conj, disj, implies, for_all, exists, EachInside, Tied, IsLkf, IsLjf, IsOfLogic}
use Rattle.polarised_formulas.specs.PlainForm.{IsPlainTerm, ArePlainTerms, IsPlainFormula, PlainTermIsProper, PlainFormulaIsProper}

module _ (text : ℕ → List ℕ) (number : List ℕ → ℕ) (e : ℕ → Type 0) (any : (k : ℕ) → k < 1000000000 → e k) where
  mutual
    inside-term : (t : Term) (d : ℕ) → IsPlainTerm text number d t → Each e (Tied d) Never t
    inside-term (eigen k) d p = any k p
    inside-term (bound k) d p = p.0
    inside-term (variable v) d p = p
    inside-term (app f ts) d p = inside-args ts d p.1

    inside-args : (ts : Args) (d : ℕ) → ArePlainTerms text number d ts → EachArg e (Tied d) Never ts
    inside-args no_args d p = tt
    inside-args (arg t ts) d p = (inside-term t d p.0, inside-args ts d p.1)

  mutual
    alone-term : (t : Term) → IsPlainTerm text number 0 t → Each e Never Never t
    alone-term (eigen k) p = any k p
    alone-term (bound k) p = absurd (not_below k p.0)
      where
        not_below : (k : ℕ) → k < 0 → ⊥
        not_below k l = omega Rattle.std.proofs.Common.arith
    alone-term (variable v) p = p
    alone-term (app f ts) p = alone-args ts p.1

    alone-args : (ts : Args) → ArePlainTerms text number 0 ts → EachArg e Never Never ts
    alone-args no_args p = tt
    alone-args (arg t ts) p = (alone-term t p.0, alone-args ts p.1)

  inside-formula : (logic : Logic) (f : Formula) (d : ℕ) → IsPlainFormula text number logic d f → EachInside e Tied Never d f
  inside-formula logic (truth p) d h = tt
  inside-formula logic (falsity p) d h = tt
  inside-formula logic (atom positive f ts) d h = inside-args ts d h.1
  inside-formula logic (conj p a b) d h = (inside-formula logic a d h.1, inside-formula logic b d h.2)
  inside-formula logic (disj p a b) d h = (inside-formula logic a d h.1, inside-formula logic b d h.2)
  inside-formula logic (implies a b) d h = (inside-formula logic a d h.1, inside-formula logic b d h.2)
  inside-formula logic (for_all a) d h = inside-formula logic a (suc d) h
  inside-formula logic (exists a) d h = inside-formula logic a (suc d) h

module _ (text : ℕ → List ℕ) (number : List ℕ → ℕ) where
  lkf : (f : Formula) (d : ℕ) → IsPlainFormula text number Lkf d f → IsLkf f
  lkf (truth p) d h = tt
  lkf (falsity p) d h = tt
  lkf (atom positive f ts) d h = tt
  lkf (conj p a b) d h = (lkf a d h.1, lkf b d h.2)
  lkf (disj p a b) d h = (lkf a d h.1, lkf b d h.2)
  lkf (implies a b) d h = h.0
  lkf (for_all a) d h = lkf a (suc d) h
  lkf (exists a) d h = lkf a (suc d) h

  ljf : (f : Formula) (d : ℕ) → IsPlainFormula text number Ljf d f → IsLjf f
  ljf (truth p) d h = tt
  ljf (falsity Positive) d h = tt
  ljf (falsity Negative) d h = h
  ljf (atom positive f ts) d h = tt
  ljf (conj p a b) d h = (ljf a d h.1, ljf b d h.2)
  ljf (disj Positive a b) d h = (ljf a d h.1, ljf b d h.2)
  ljf (disj Negative a b) d h = h.0
  ljf (implies a b) d h = (ljf a d h.1, ljf b d h.2)
  ljf (for_all a) d h = ljf a (suc d) h
  ljf (exists a) d h = ljf a (suc d) h

  of_logic : (logic : Logic) (f : Formula) → IsPlainFormula text number logic 0 f → IsOfLogic logic f
  of_logic Lkf f h = lkf f 0 h
  of_logic Ljf f h = ljf f 0 h

pub plain_term_is_proper : PlainTermIsProper
plain_term_is_proper text number t h = alone-term text number (λ k. k < 1000000000) (λ k l. l) t h

pub plain_formula_is_proper : PlainFormulaIsProper
plain_formula_is_proper text number logic f h = (inside-formula text number (λ k. k < 1000000000) (λ k l. l) logic f 0 h, of_logic text number logic f h)
