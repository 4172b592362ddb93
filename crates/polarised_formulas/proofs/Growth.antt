-- What is plain with the names of a table stays so as the table grows.
use Rattle.std.proofs.Common.{◌≡◌, ℕ, zero, suc, ◌<◌, List, [], ◌∷◌, length, Some, slice_get, sym, ap, ◌∙◌, subst, arith}
use Rattle.fpc_terms.specs.Name.{AreDifferent, Grows}
use Rattle.fpc_terms.specs.Text.{name_in, term_text}
use Rattle.polarised_formulas.specs.Text.{plain_text}
use Rattle.polarised_formulas.specs.PlainReading.{is_keyword}
use Rattle.polarised_formulas.specs.PlainForm.{begins_name, IsPlainName}
use Rattle.polarised_formulas.specs.Numbering.{number_in}
use Rattle.polarised_formulas.specs.PlainTexts.{IsPlainTermIn, IsPlainIn}
use Rattle.polarised_formulas.specs.PlainLimits.{PlainGrows, PlainTermGrows}
use Rattle.polarised_formulas.proofs.Numberings.{Agrees-number_in}
use Rattle.polarised_formulas.proofs.Renaming.{term_bound, name_bound, rename_term-same, rename-same, move_term, move_formula}
use Rattle.polarised_formulas.proofs.Texts.{got}
use Rattle.polarised_formulas.proofs.TableOutcomes.{fits-term, fits-formula}

name_in-got : (names : List (List ℕ)) (g : ℕ) (text : List ℕ) → slice_get names g ≡ Some text → name_in names g ≡ text
name_in-got [] g text e = cc
name_in-got (t ∷ ts) zero text e = cc
name_in-got (t ∷ ts) (suc g) text e = name_in-got ts g text e

module _ (old new : List (List ℕ)) (grows : Grows old new) (differ : AreDifferent new) where
  same_name : (g : ℕ) → IsPlainName (name_in old) (number_in (length old) old) g → name_in new g ≡ name_in old g
  same_name g p = name_in-got new g (name_in old g) (grows g (name_in old g) (got old g p.0))

  each : (limit g : ℕ) → g < limit → IsPlainName (name_in old) (number_in (length old) old) g → IsPlainName (name_in new) (number_in (length new) new) g × (name_in new g ≡ name_in old g)
  each limit g low p =
      let e = same_name g p in
      let at : number_in (length new) new (name_in old g) ≡ g = Agrees-number_in (length new) new differ g (name_in old g) (grows g (name_in old g) (got old g p.0)) in
      ((ap begins_name e ∙ p.0, ap is_keyword e ∙ p.1, ap (number_in (length new) new) e ∙ at), e)

pub plain_grows : PlainGrows
plain_grows old new grows differ logic f h =
    let m = move_formula (name_in old) (name_in new) (number_in (length old) old) (number_in (length new) new) (λ g. g) (name_bound f) (each old new grows differ (name_bound f)) logic f 0 (omega arith) h in (
      subst (IsPlainIn new logic) (rename-same f) m.0,
      ap (plain_text new logic) (sym (rename-same f)) ∙ m.1 [],
      fits-formula (name_in old) (name_in new) (name_in old) (number_in (length old) old) (name_bound f) (λ g low p. sym (same_name old new grows differ g p)) logic f 0 0 (omega arith) h,
    )

pub plain_term_grows : PlainTermGrows
plain_term_grows old new grows differ t h =
    let m = move_term (name_in old) (name_in new) (number_in (length old) old) (number_in (length new) new) (λ g. g) (term_bound t) (each old new grows differ (term_bound t)) t 0 (omega arith) h in (
      subst (IsPlainTermIn new) (rename_term-same t) m.0,
      ap (term_text new) (sym (rename_term-same t)) ∙ m.1 [],
      fits-term (name_in old) (name_in new) (name_in old) (number_in (length old) old) (term_bound t) (λ g low p. sym (same_name old new grows differ g p)) t 0 (omega arith) h,
    )
