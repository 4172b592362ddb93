-- The names of what is plain with the names of a table stand in the table.
use Rattle.std.proofs.Common.{◌≡◌, ℕ, zero, suc, ◌<◌, true, List, [], ◌∷◌, length, arith}
use Rattle.fpc_terms.specs.Term.{Term, Args, eigen, bound, variable, app, no_args, arg}
use Rattle.fpc_terms.specs.Printing.{HasNamesBelow, HaveNamesBelow}
use Rattle.fpc_terms.specs.Text.{name_in}
use Rattle.polarised_formulas.specs.declared.logic.Logic.{Logic}
use Rattle.polarised_formulas.specs.declared.step.Step.{Step}
use Rattle.polarised_formulas.specs.declared.step.Step.TheVariants as step
use Rattle.polarised_formulas.specs.Formula.{Formula, truth, falsity, atom, conj, disj, implies, for_all, exists}
use Rattle.polarised_formulas.specs.Printing.{AllNamesBelow}
use Rattle.polarised_formulas.specs.PlainForm.{begins_name, IsPlainTerm, ArePlainTerms, IsPlainFormula}
use Rattle.explicit_form.specs.StepText.{IsPlainArgument}
use Rattle.explicit_form.specs.Sizes.{StepNamedBelow}
use Rattle.explicit_form.specs.StepTables.{PlainIsNamed}

name-below : (names : List (List ℕ)) (f : ℕ) → begins_name (name_in names f) ≡ true → f < length names
name-below [] f h = cc
name-below (t ∷ ts) zero h = omega arith
name-below (t ∷ ts) (suc f) h = let l = name-below ts f h in omega arith

module _ (names : List (List ℕ)) (number : List ℕ → ℕ) where
  mutual
    term-named : (t : Term) (d : ℕ) → IsPlainTerm (name_in names) number d t → HasNamesBelow (length names) t
    term-named (eigen k) d h = tt
    term-named (bound k) d h = tt
    term-named (variable v) d h = tt
    term-named (app f ts) d h = (name-below names f h.0.0, args-named ts d h.1)

    args-named : (ts : Args) (d : ℕ) → ArePlainTerms (name_in names) number d ts → HaveNamesBelow (length names) ts
    args-named no_args d h = tt
    args-named (arg t ts) d h = (term-named t d h.0, args-named ts d h.1)

  module _ (logic : Logic) where
    formula-named : (f : Formula) (d : ℕ) → IsPlainFormula (name_in names) number logic d f → AllNamesBelow (length names) f
    formula-named (truth p) d h = tt
    formula-named (falsity p) d h = tt
    formula-named (atom positive f ts) d h = (name-below names f h.0.0, args-named ts d h.1)
    formula-named (conj p a b) d h = (formula-named a d h.1, formula-named b d h.2)
    formula-named (disj p a b) d h = (formula-named a d h.1, formula-named b d h.2)
    formula-named (implies a b) d h = (formula-named a d h.1, formula-named b d h.2)
    formula-named (for_all a) d h = formula-named a (suc d) h
    formula-named (exists a) d h = formula-named a (suc d) h

    argument-named : (s : Step) → IsPlainArgument (name_in names) number logic s → StepNamedBelow (length names) s
    argument-named (step.Exists t) h = term-named t 0 h
    argument-named (step.FocLEvery t) h = term-named t 0 h
    argument-named (step.FocRExists t) h = term-named t 0 h
    argument-named (step.Cut f) h = formula-named f 0 h
    argument-named _ h = tt

pub plain_is_named : PlainIsNamed
plain_is_named names number logic [] h = tt
plain_is_named names number logic (s ∷ ss) h = (argument-named names number logic s h.0.1, plain_is_named names number logic ss h.1)
