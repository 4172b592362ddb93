-- The outcome of a whole text with the names of a table.
use Rattle.std.proofs.Common.{◌≡◌, ℕ, suc, ◌+◌, ◌<◌, ◌≤◌, List, length, refl, sym, ap, ◌∙◌, subst, arith}
use Rattle.fpc_terms.specs.Name.{Agrees, AreDifferent}
use Rattle.fpc_terms.specs.Term.{Term, Args, eigen, bound, variable, app, no_args, arg}
use Rattle.fpc_terms.specs.Text.{name_in, term_text}
use Rattle.polarised_formulas.specs.declared.logic.Logic.{Logic}
use Rattle.polarised_formulas.specs.Formula.{Formula, truth, falsity, atom, conj, disj, implies, for_all, exists}
use Rattle.polarised_formulas.specs.Text.{plain_text}
use Rattle.polarised_formulas.specs.PlainReading.{whole_term, whole_formula, of_term, of_formula, start}
use Rattle.polarised_formulas.specs.PlainForm.{GivesBack, IsPlainName, IsPlainTerm, ArePlainTerms, IsPlainFormula}
use Rattle.polarised_formulas.specs.Numbering.{number_in, text_in}
use Rattle.polarised_formulas.specs.PlainTexts.{IsPlainTermIn, IsPlainIn}
use Rattle.polarised_formulas.specs.PlainLimits.{a_term, a_formula, FitsTerm, FitArgs, FitsFormula, IsNumbering, HasOutcome, TermOutcome, FormulaOutcome}
use Rattle.polarised_formulas.proofs.Renaming.{term_bound, args_bound, name_bound}
use Rattle.polarised_formulas.proofs.Numberings.{GivesBack-number_in, Agrees-number_in}
use Rattle.polarised_formulas.proofs.Texts.{agreeing, formula_from, formula_back, term_from, term_back}
use Rattle.polarised_formulas.proofs.Outcomes.{gives_term, gives_formula, forth, back'}

-- what fits with texts fits with others that are the same for its names
module _ (text text' own : ℕ → List ℕ) (number : List ℕ → ℕ) (limit : ℕ) (each : (g : ℕ) → g < limit → IsPlainName own number g → text g ≡ text' g) where
  mutual
    pub fits-term : (t : Term) (d : ℕ) → term_bound t ≤ limit → IsPlainTerm own number d t → FitsTerm text t → FitsTerm text' t
    fits-term (eigen k) d l p h = tt
    fits-term (bound k) d l p h = tt
    fits-term (variable v) d l p h = tt
    fits-term (app f ts) d l p h = let low : f < limit = omega arith in (subst (λ v. length v ≤ 255) (each f low p.0) h.0, h.1, fits-args ts d (omega arith) p.1 h.2)

    fits-args : (ts : Args) (d : ℕ) → args_bound ts ≤ limit → ArePlainTerms own number d ts → FitArgs text ts → FitArgs text' ts
    fits-args no_args d l p h = tt
    fits-args (arg t ts) d l p h = (fits-term t d (omega arith) p.0 h.0, fits-args ts d (omega arith) p.1 h.1)

  pub fits-formula : (logic : Logic) (f : Formula) (d n : ℕ) → name_bound f ≤ limit → IsPlainFormula own number logic d f → FitsFormula text n f → FitsFormula text' n f
  fits-formula logic (truth p) d n l k h = h
  fits-formula logic (falsity p) d n l k h = h
  fits-formula logic (atom positive f ts) d n l k h = let low : f < limit = omega arith in (h.0, subst (λ v. length v ≤ 255) (each f low k.0) h.1, h.2, fits-args ts d (omega arith) k.1 h.3)
  fits-formula logic (conj p a b) d n l k h = (h.0, fits-formula logic a d (suc n) (omega arith) k.1 h.1, fits-formula logic b d (suc n) (omega arith) k.2 h.2)
  fits-formula logic (disj p a b) d n l k h = (h.0, fits-formula logic a d (suc n) (omega arith) k.1 h.1, fits-formula logic b d (suc n) (omega arith) k.2 h.2)
  fits-formula logic (implies a b) d n l k h = (h.0, fits-formula logic a d (suc n) (omega arith) k.1 h.1, fits-formula logic b d (suc n) (omega arith) k.2 h.2)
  fits-formula logic (for_all a) d n l k h = (h.0, fits-formula logic a (suc d) (suc n) l k h.1)
  fits-formula logic (exists a) d n l k h = (h.0, fits-formula logic a (suc d) (suc n) l k h.1)

module _ (names : List (List ℕ)) (differ : AreDifferent names) where
  numbering : (least : ℕ) → length names ≤ least → IsNumbering names (number_in least names)
  numbering least l = (Agrees-number_in least names differ, (text_in least names, GivesBack-number_in least names l))

  -- a name of the table has its own text by each numbering
  own_text : (number : List ℕ → ℕ) (text : ℕ → List ℕ) → Agrees number names → GivesBack text number → (limit g : ℕ) → g < limit → IsPlainName (name_in names) (number_in (length names) names) g → name_in names g ≡ text g
  own_text number text agrees back limit g low p = let e = agreeing names differ number agrees limit g low p in sym (back (name_in names g) p.0) ∙ ap text e.0.2

  module _ (logic : Logic) (bytes : List ℕ) where
    formula_forth : (f : Formula) → HasOutcome names logic of_formula bytes (a_formula f) → IsPlainIn names logic f × FitsFormula (name_in names) 0 f × (plain_text names logic f ≡ bytes)
    formula_forth f h =
        let least = length names + name_bound f in
        let within : length names ≤ least = omega arith in
        let back = GivesBack-number_in least names within in
        let r = forth (text_in least names) (number_in least names) back logic of_formula (whole_formula f) (a_formula f) (gives_formula f) bytes (start of_formula) 0 refl tt (h (number_in least names) (numbering least within)) in
        let k = formula_from names differ logic bytes f r.0 in
        let same = λ (g : ℕ) (low : g < name_bound f) (p : IsPlainName (name_in names) (number_in (length names) names) g). sym (own_text (number_in least names) (text_in least names) (Agrees-number_in least names differ) back (name_bound f) g low p) in
        (k.0, fits-formula (text_in least names) (name_in names) (name_in names) (number_in (length names) names) (name_bound f) same logic f 0 0 (omega arith) k.0 r.1, k.1)

    formula_outcome : (f : Formula) → IsPlainIn names logic f × FitsFormula (name_in names) 0 f × (plain_text names logic f ≡ bytes) → HasOutcome names logic of_formula bytes (a_formula f)
    formula_outcome f h number is =
        let text = is.1.0 in
        let fits = fits-formula (name_in names) text (name_in names) (number_in (length names) names) (name_bound f) (own_text number text is.0 is.1.1 (name_bound f)) logic f 0 0 (omega arith) h.0 h.1 in
        (back' text number is.1.1 logic of_formula (whole_formula f) (a_formula f) (gives_formula f) bytes (start of_formula) refl (formula_back names differ logic bytes f (h.0, h.2) number is.0) fits).1 0

    term_forth : (t : Term) → HasOutcome names logic of_term bytes (a_term t) → IsPlainTermIn names t × FitsTerm (name_in names) t × (term_text names t ≡ bytes)
    term_forth t h =
        let least = length names + term_bound t in
        let within : length names ≤ least = omega arith in
        let back = GivesBack-number_in least names within in
        let r = forth (text_in least names) (number_in least names) back logic of_term (whole_term t) (a_term t) (gives_term t) bytes (start of_term) 0 refl tt (h (number_in least names) (numbering least within)) in
        let k = term_from names differ logic bytes t r.0 in
        let same = λ (g : ℕ) (low : g < term_bound t) (p : IsPlainName (name_in names) (number_in (length names) names) g). sym (own_text (number_in least names) (text_in least names) (Agrees-number_in least names differ) back (term_bound t) g low p) in
        (k.0, fits-term (text_in least names) (name_in names) (name_in names) (number_in (length names) names) (term_bound t) same t 0 (omega arith) k.0 r.1, k.1)

    term_outcome : (t : Term) → IsPlainTermIn names t × FitsTerm (name_in names) t × (term_text names t ≡ bytes) → HasOutcome names logic of_term bytes (a_term t)
    term_outcome t h number is =
        let text = is.1.0 in
        let fits = fits-term (name_in names) text (name_in names) (number_in (length names) names) (term_bound t) (own_text number text is.0 is.1.1 (term_bound t)) t 0 (omega arith) h.0 h.1 in
        (back' text number is.1.1 logic of_term (whole_term t) (a_term t) (gives_term t) bytes (start of_term) refl (term_back names differ logic bytes t (h.0, h.2) number is.0) fits).1 0

pub term_has_outcome : TermOutcome
term_has_outcome names differ logic bytes t = (term_forth names differ logic bytes t, term_outcome names differ logic bytes t)

pub formula_has_outcome : FormulaOutcome
formula_has_outcome names differ logic bytes f = (formula_forth names differ logic bytes f, formula_outcome names differ logic bytes f)
