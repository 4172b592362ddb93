-- The names of what is plain with a table stand in the table.
use Rattle.std.proofs.Common.{◌≡◌, ℕ, zero, suc, ◌<◌, true, List, [], ◌∷◌, length, arith}
use Rattle.fpc_terms.specs.Term.{Term, Args, eigen, bound, variable, app, no_args, arg}
use Rattle.fpc_terms.specs.Text.{name_in}
use Rattle.fpc_terms.specs.Printing.{HasNamesBelow, HaveNamesBelow}
use Rattle.polarised_formulas.specs.declared.logic.Logic.{Logic}
use Rattle.polarised_formulas.specs.Formula.{Formula, truth, falsity, atom, conj, disj, implies, for_all, exists}
use Rattle.polarised_formulas.specs.Printing.{AllNamesBelow}
use Rattle.polarised_formulas.specs.PlainForm.{begins_name, IsPlainTerm, ArePlainTerms, IsPlainFormula}
use Rattle.polarised_formulas.specs.Numbering.{number_in}
use Rattle.polarised_formulas.specs.PlainTexts.{PlainTermIsNamed, PlainFormulaIsNamed}

module _ (number : List ℕ → ℕ) (names : List (List ℕ)) where
  below : (ts : List (List ℕ)) (g : ℕ) → begins_name (name_in ts g) ≡ true → g < length ts
  below [] g e = let no : ⊥ = cc in absurd no
  below (t ∷ ts) zero e = omega arith
  below (t ∷ ts) (suc g) e = let rec = below ts g e in omega arith

  mutual
    pub named-term : (t : Term) (d : ℕ) → IsPlainTerm (name_in names) number d t → HasNamesBelow (length names) t
    named-term (eigen k) d h = tt
    named-term (bound k) d h = tt
    named-term (variable v) d h = tt
    named-term (app f ts) d h = (below names f h.0.0, named-args ts d h.1)

    named-args : (ts : Args) (d : ℕ) → ArePlainTerms (name_in names) number d ts → HaveNamesBelow (length names) ts
    named-args no_args d h = tt
    named-args (arg t ts) d h = (named-term t d h.0, named-args ts d h.1)

  pub named-formula : (logic : Logic) (f : Formula) (d : ℕ) → IsPlainFormula (name_in names) number logic d f → AllNamesBelow (length names) f
  named-formula logic (truth p) d h = tt
  named-formula logic (falsity p) d h = tt
  named-formula logic (atom positive f ts) d h = (below names f h.0.0, named-args ts d h.1)
  named-formula logic (conj p a b) d h = (named-formula logic a d h.1, named-formula logic b d h.2)
  named-formula logic (disj p a b) d h = (named-formula logic a d h.1, named-formula logic b d h.2)
  named-formula logic (implies a b) d h = (named-formula logic a d h.1, named-formula logic b d h.2)
  named-formula logic (for_all a) d h = named-formula logic a (suc d) h
  named-formula logic (exists a) d h = named-formula logic a (suc d) h

pub plain_term_is_named : PlainTermIsNamed
plain_term_is_named names t h = named-term (number_in (length names) names) names t 0 h

pub plain_formula_is_named : PlainFormulaIsNamed
plain_formula_is_named names logic f h = named-formula (number_in (length names) names) names logic f 0 h
