-- What is proper, of the logic, named by a table and within the limits is plain, and so is read back from its text.
use Rattle.std.proofs.Common.{◌≡◌, ℕ, zero, suc, ◌<◌, ◌≤◌, true, List, [], ◌∷◌, length, refl, arith}
use Rattle.fpc_terms.specs.Name.{AreDifferent}
use Rattle.fpc_terms.specs.Term.{Term, Args, eigen, bound, variable, app, no_args, arg, Each, EachArg, Never, IsProperTerm}
use Rattle.fpc_terms.specs.Text.{name_in, term_text}
use Rattle.polarised_formulas.specs.declared.logic.Logic.{Logic}
use Rattle.polarised_formulas.specs.declared.logic.Logic.TheVariants.{Lkf, Ljf}
use Rattle.polarised_formulas.specs.declared.logic.Polarity.TheVariants.{Positive, Negative}
use Rattle.polarised_formulas.specs.Formula.{Formula, truth, falsity, atom, conj, disj, implies, for_all, exists, EachInside, Tied, IsProper, IsOfLogic}
use Rattle.polarised_formulas.specs.Text.{plain_text}
use Rattle.polarised_formulas.specs.PlainReading.{of_term, of_formula}
use Rattle.polarised_formulas.specs.PlainForm.{begins_name, IsPlainName, IsPlainTerm, ArePlainTerms, IsPlainFormula, HasNineDigits}
use Rattle.polarised_formulas.specs.Numbering.{number_in}
use Rattle.polarised_formulas.specs.PlainTexts.{IsPlainTermIn, IsPlainIn}
use Rattle.polarised_formulas.specs.PlainLimits.{FitsTerm, FitsFormula, HasOutcome, a_term, a_formula}
use Rattle.polarised_formulas.specs.PlainPrinting.{IsNamed, IsNamedTerm, AreNamedTerms, IsNamedFormula, TermIsPlain, FormulaIsPlain, TermIsReadBack, FormulaIsReadBack}
use Rattle.polarised_formulas.proofs.Numberings.{Agrees-number_in}
use Rattle.polarised_formulas.proofs.Texts.{got}
use Rattle.polarised_formulas.proofs.Proper.{plain_term_is_proper, plain_formula_is_proper}
use Rattle.polarised_formulas.proofs.TableOutcomes.{term_has_outcome, formula_has_outcome}

-- a name stands in the table
stands : (names : List (List ℕ)) (g : ℕ) → begins_name (name_in names g) ≡ true → g < length names
stands [] g h = cc
stands (t ∷ ts) zero h = omega arith
stands (t ∷ ts) (suc g) h = let l = stands ts g h in omega arith

module _ (names : List (List ℕ)) (differ : AreDifferent names) where
  plain_name : (g : ℕ) → IsNamed names g → IsPlainName (name_in names) (number_in (length names) names) g
  plain_name g h = (h.1, h.2, Agrees-number_in (length names) names differ g (name_in names g) (got names g h.1))

  mutual
    plain_inside : (t : Term) (d : ℕ) → d ≤ 10000 → Each HasNineDigits (Tied d) Never t → IsNamedTerm names t → IsPlainTerm (name_in names) (number_in (length names) names) d t
    plain_inside (eigen k) d l p h = p
    plain_inside (bound k) d l p h = (p, omega arith)
    plain_inside (variable v) d l p h = p
    plain_inside (app f ts) d l p h = (plain_name f h.0, plain_insides ts d l p h.1)

    plain_insides : (ts : Args) (d : ℕ) → d ≤ 10000 → EachArg HasNineDigits (Tied d) Never ts → AreNamedTerms names ts → ArePlainTerms (name_in names) (number_in (length names) names) d ts
    plain_insides no_args d l p h = tt
    plain_insides (arg t ts) d l p h = (plain_inside t d l p.0 h.0, plain_insides ts d l p.1 h.1)

  mutual
    plain_alone : (t : Term) → Each HasNineDigits Never Never t → IsNamedTerm names t → IsPlainTermIn names t
    plain_alone (eigen k) p h = p
    plain_alone (bound k) p h = absurd p
    plain_alone (variable v) p h = p
    plain_alone (app f ts) p h = (plain_name f h.0, plain_alones ts p h.1)

    plain_alones : (ts : Args) → EachArg HasNineDigits Never Never ts → AreNamedTerms names ts → ArePlainTerms (name_in names) (number_in (length names) names) 0 ts
    plain_alones no_args p h = tt
    plain_alones (arg t ts) p h = (plain_alone t p.0 h.0, plain_alones ts p.1 h.1)

  -- under d quantifiers, which are among the n formulas around
  plain_under : (logic : Logic) (f : Formula) (d n : ℕ) → d ≤ n → EachInside HasNineDigits Tied Never d f → IsOfLogic logic f → IsNamedFormula names f → FitsFormula (name_in names) n f
      → IsPlainFormula (name_in names) (number_in (length names) names) logic d f
  plain_under logic (truth p) d n l k o h fits = tt
  plain_under Lkf (falsity p) d n l k o h fits = tt
  plain_under Ljf (falsity Positive) d n l k o h fits = tt
  plain_under Ljf (falsity Negative) d n l k o h fits = o
  plain_under logic (atom positive f ts) d n l k o h fits = let low = fits.0 in (plain_name f h.0, plain_insides ts d (omega arith) k h.1)
  plain_under Lkf (conj p a b) d n l k o h fits = (tt, plain_under Lkf a d (suc n) (omega arith) k.0 o.0 h.0 fits.1, plain_under Lkf b d (suc n) (omega arith) k.1 o.1 h.1 fits.2)
  plain_under Ljf (conj p a b) d n l k o h fits = (tt, plain_under Ljf a d (suc n) (omega arith) k.0 o.0 h.0 fits.1, plain_under Ljf b d (suc n) (omega arith) k.1 o.1 h.1 fits.2)
  plain_under Lkf (disj p a b) d n l k o h fits = (tt, plain_under Lkf a d (suc n) (omega arith) k.0 o.0 h.0 fits.1, plain_under Lkf b d (suc n) (omega arith) k.1 o.1 h.1 fits.2)
  plain_under Ljf (disj Positive a b) d n l k o h fits = (tt, plain_under Ljf a d (suc n) (omega arith) k.0 o.0 h.0 fits.1, plain_under Ljf b d (suc n) (omega arith) k.1 o.1 h.1 fits.2)
  plain_under Ljf (disj Negative a b) d n l k o h fits = absurd o
  plain_under Lkf (implies a b) d n l k o h fits = absurd o
  plain_under Ljf (implies a b) d n l k o h fits = (tt, plain_under Ljf a d (suc n) (omega arith) k.0 o.0 h.0 fits.1, plain_under Ljf b d (suc n) (omega arith) k.1 o.1 h.1 fits.2)
  plain_under Lkf (for_all a) d n l k o h fits = plain_under Lkf a (suc d) (suc n) (omega arith) k o h fits.1
  plain_under Ljf (for_all a) d n l k o h fits = plain_under Ljf a (suc d) (suc n) (omega arith) k o h fits.1
  plain_under Lkf (exists a) d n l k o h fits = plain_under Lkf a (suc d) (suc n) (omega arith) k o h fits.1
  plain_under Ljf (exists a) d n l k o h fits = plain_under Ljf a (suc d) (suc n) (omega arith) k o h fits.1

module _ (names : List (List ℕ)) where
  named : (g : ℕ) → IsPlainName (name_in names) (number_in (length names) names) g → IsNamed names g
  named g p = (stands names g p.0, p.0, p.1)

  mutual
    named_term : (t : Term) (d : ℕ) → IsPlainTerm (name_in names) (number_in (length names) names) d t → IsNamedTerm names t
    named_term (eigen k) d p = tt
    named_term (bound k) d p = tt
    named_term (variable v) d p = tt
    named_term (app f ts) d p = (named f p.0, named_terms ts d p.1)

    named_terms : (ts : Args) (d : ℕ) → ArePlainTerms (name_in names) (number_in (length names) names) d ts → AreNamedTerms names ts
    named_terms no_args d p = tt
    named_terms (arg t ts) d p = (named_term t d p.0, named_terms ts d p.1)

  named_formula : (logic : Logic) (f : Formula) (d : ℕ) → IsPlainFormula (name_in names) (number_in (length names) names) logic d f → IsNamedFormula names f
  named_formula logic (truth p) d h = tt
  named_formula logic (falsity p) d h = tt
  named_formula logic (atom positive f ts) d h = (named f h.0, named_terms ts d h.1)
  named_formula logic (conj p a b) d h = (named_formula logic a d h.1, named_formula logic b d h.2)
  named_formula logic (disj p a b) d h = (named_formula logic a d h.1, named_formula logic b d h.2)
  named_formula logic (implies a b) d h = (named_formula logic a d h.1, named_formula logic b d h.2)
  named_formula logic (for_all a) d h = named_formula logic a (suc d) h
  named_formula logic (exists a) d h = named_formula logic a (suc d) h

pub term_is_plain : TermIsPlain
term_is_plain names differ t = (λ p. (plain_term_is_proper (name_in names) (number_in (length names) names) t p, named_term names t 0 p), λ h. plain_alone names differ t h.0 h.1)

pub formula_is_plain : FormulaIsPlain
formula_is_plain names differ logic f fits = (forth, λ h. plain_under names differ logic f 0 0 (omega arith) h.0 h.1 h.2 fits)
  where
    forth : IsPlainIn names logic f → IsProper HasNineDigits f × IsOfLogic logic f × IsNamedFormula names f
    forth p = let k = plain_formula_is_proper (name_in names) (number_in (length names) names) logic f p in (k.0, k.1, named_formula names logic f 0 p)

pub term_is_read_back : TermIsReadBack
term_is_read_back names differ logic t = (forth, back)
  where
    forth : HasOutcome names logic of_term (term_text names t) (a_term t) → IsProperTerm HasNineDigits t × IsNamedTerm names t × FitsTerm (name_in names) t
    forth h = let k = (term_has_outcome names differ logic (term_text names t) t).0 h in let p = (term_is_plain names differ t).0 k.0 in (p.0, p.1, k.1)

    back : IsProperTerm HasNineDigits t × IsNamedTerm names t × FitsTerm (name_in names) t → HasOutcome names logic of_term (term_text names t) (a_term t)
    back h = (term_has_outcome names differ logic (term_text names t) t).1 ((term_is_plain names differ t).1 (h.0, h.1), h.2, refl)

pub formula_is_read_back : FormulaIsReadBack
formula_is_read_back names differ logic f = (forth, back)
  where
    forth : HasOutcome names logic of_formula (plain_text names logic f) (a_formula f) → IsProper HasNineDigits f × IsOfLogic logic f × IsNamedFormula names f × FitsFormula (name_in names) 0 f
    forth h = let k = (formula_has_outcome names differ logic (plain_text names logic f) f).0 h in let p = (formula_is_plain names differ logic f k.1).0 k.0 in (p.0, p.1, p.2, k.1)

    back : IsProper HasNineDigits f × IsOfLogic logic f × IsNamedFormula names f × FitsFormula (name_in names) 0 f → HasOutcome names logic of_formula (plain_text names logic f) (a_formula f)
    back h = (formula_has_outcome names differ logic (plain_text names logic f) f).1 ((formula_is_plain names differ logic f h.3).1 (h.0, h.1, h.2), h.3, refl)
