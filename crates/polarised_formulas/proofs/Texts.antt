-- Texts without the end of their line, and with the names of a table.
use Rattle.std.proofs.Common.{◌≡◌, ℕ, zero, suc, ◌+◌, ◌<◌, true, List, [], ◌∷◌, ◌++◌, length, Some, slice_get, refl, sym, ap, ◌∙◌, subst, arith, nat_lt, append_assoc, append-nil}
use Rattle.std.proofs.lemmas.Bool.{cond-true}
use Rattle.std.proofs.lemmas.Bool.Decides.{nat_tests}
use Rattle.std.proofs.lemmas.List.{same_from_push}
use Rattle.fpc_terms.specs.Name.{Agrees, AreDifferent}
use Rattle.fpc_terms.specs.Term.{Term}
use Rattle.fpc_terms.specs.Text.{name_in, term_text}
use Rattle.polarised_formulas.specs.declared.logic.Logic.{Logic}
use Rattle.polarised_formulas.specs.Formula.{Formula}
use Rattle.polarised_formulas.specs.Text.{plain_text}
use Rattle.polarised_formulas.specs.PlainReading.{Next, on, whole_term, whole_formula, wrong, run, Use, of_term, of_formula, start, IsGoing, is_keyword}
use Rattle.polarised_formulas.specs.PlainForm.{begins_name, IsPlainName, IsPlainTerm, IsPlainFormula, IsLine, plain_term, plain_formula}
use Rattle.polarised_formulas.specs.Numbering.{number_in, text_in}
use Rattle.polarised_formulas.specs.PlainTexts.{IsText, BeginsText, IsOn, OnBegins, IsPlainTermIn, IsPlainIn, ReadsTerm, ReadsFormula, TermIsRead, FormulaIsRead}
use Rattle.polarised_formulas.proofs.Forward.{run-append}
use Rattle.polarised_formulas.proofs.Begins.{going_begins, stays_wrong, line_goes, term_read, formula_read, term_is_whole, formula_is_whole}
use Rattle.polarised_formulas.proofs.Joins.{plain_term-append, plain_formula-append}
use Rattle.polarised_formulas.proofs.Numberings.{GivesBack-number_in, Agrees-number_in}
use Rattle.polarised_formulas.proofs.Renaming.{term_bound, name_bound, rename_term-same, rename-same, move_term, move_formula}

-- a list that is not empty has a last item
record Ends (xs : List ℕ) : Type 0 where
  front : List ℕ
  last : ℕ
  whole : xs ≡ front ++ last ∷ []

ends : (b : ℕ) (bs : List ℕ) → Ends (b ∷ bs)
ends b [] = record { front = []; last = b; whole = refl }
ends b (c ∷ bs) = let e = ends c bs in record { front = b ∷ e.front; last = e.last; whole = ap (λ v. b ∷ v) e.whole }

module _ (text : ℕ → List ℕ) (number : List ℕ → ℕ) (logic : Logic) where
  pub line_from_text : (wanted : Use) (bytes : List ℕ) → IsText text number logic wanted bytes → IsLine text number logic wanted (bytes ++ 10 ∷ [])
  line_from_text of_term bytes h = (h.0, h.1, plain_term-append text (10 ∷ []) h.0 [] ∙ ap (λ v. v ++ 10 ∷ []) h.2)
  line_from_text of_formula bytes h = (h.0, h.1, plain_formula-append text (10 ∷ []) logic 0 h.0 [] ∙ ap (λ v. v ++ 10 ∷ []) h.2)

  pub text_from_line : (wanted : Use) (bytes : List ℕ) (b : ℕ) → IsLine text number logic wanted (bytes ++ b ∷ []) → IsText text number logic wanted bytes
  text_from_line of_term bytes b h = (h.0, h.1, (same_from_push (plain_term text h.0 []) bytes 10 b (sym (plain_term-append text (10 ∷ []) h.0 []) ∙ h.2)).0)
  text_from_line of_formula bytes b h = (h.0, h.1, (same_from_push (plain_formula text logic 0 h.0 []) bytes 10 b (sym (plain_formula-append text (10 ∷ []) logic 0 h.0 []) ∙ h.2)).0)

  line_is_whole : (wanted : Use) (bytes : List ℕ) → IsLine text number logic wanted bytes → IsOn (run number logic (start wanted) bytes) → ⊥
  line_is_whole of_term bytes h going = subst IsOn (ap (run number logic (start of_term)) (sym h.2) ∙ term_read text number logic h.0 h.1) going
  line_is_whole of_formula bytes h going = subst IsOn (ap (run number logic (start of_formula)) (sym h.2) ∙ formula_read text number logic h.0 h.1) going

  going-on : (n : Next) (bs : List ℕ) (b : ℕ) → IsGoing (run number logic n (bs ++ b ∷ [])) → IsOn n
  going-on (on q) bs b h = tt
  going-on (whole_term t) [] b h = h
  going-on (whole_term t) (c ∷ bs) b h = subst IsGoing (stays_wrong number logic (bs ++ b ∷ [])) h
  going-on (whole_formula f) [] b h = h
  going-on (whole_formula f) (c ∷ bs) b h = subst IsGoing (stays_wrong number logic (bs ++ b ∷ [])) h
  going-on wrong bs b h = subst IsGoing (stays_wrong number logic (bs ++ b ∷ [])) h

  IsOn-going : (n : Next) → IsOn n → IsGoing n
  IsOn-going (on q) h = tt
  IsOn-going (whole_term t) h = absurd h
  IsOn-going (whole_formula f) h = absurd h
  IsOn-going wrong h = absurd h

  text_from_begun : (wanted : Use) (bytes : List ℕ) → IsOn (run number logic (start wanted) bytes) → (more : List ℕ) → IsLine text number logic wanted (bytes ++ more) → BeginsText text number logic wanted bytes
  text_from_begun wanted bytes going [] h = absurd (line_is_whole wanted bytes (subst (IsLine text number logic wanted) (append-nil bytes) h) going)
  text_from_begun wanted bytes going (b ∷ bs) h =
      let e = ends b bs in
      let same : bytes ++ b ∷ bs ≡ (bytes ++ e.front) ++ e.last ∷ [] = ap (λ v. bytes ++ v) e.whole ∙ sym (append_assoc bytes e.front (e.last ∷ [])) in
      (e.front, text_from_line wanted (bytes ++ e.front) e.last (subst (IsLine text number logic wanted) same h))

  on_from_text : (wanted : Use) (bytes : List ℕ) → BeginsText text number logic wanted bytes → IsOn (run number logic (start wanted) bytes)
  on_from_text wanted bytes h =
      let line = line_from_text wanted (bytes ++ h.0) h.1 in
      let same = ap (run number logic (start wanted)) (append_assoc bytes h.0 (10 ∷ [])) ∙ run-append number logic (start wanted) bytes (h.0 ++ 10 ∷ []) in
      going-on (run number logic (start wanted) bytes) h.0 10 (subst IsGoing same (line_goes text number logic wanted ((bytes ++ h.0) ++ 10 ∷ []) line))

pub on_begins : OnBegins
on_begins text number back logic wanted bytes = (forth, on_from_text text number logic wanted bytes)
  where
    forth : IsOn (run number logic (start wanted) bytes) → BeginsText text number logic wanted bytes
    forth going =
        let b = (going_begins text number back logic wanted bytes).0 (IsOn-going text number logic (run number logic (start wanted) bytes) going) in
        text_from_begun text number logic wanted bytes going b.0 b.1

-- a name of a table stands in it
pub got : (names : List (List ℕ)) (g : ℕ) → begins_name (name_in names g) ≡ true → slice_get names g ≡ Some (name_in names g)
got [] g h = cc
got (t ∷ ts) zero h = refl
got (t ∷ ts) (suc g) h = got ts g h

module _ (names : List (List ℕ)) (differ : AreDifferent names) where
  -- a name with a small number is the same in a numbering with a large least number
  pub table_name : (least g : ℕ) → g < least → IsPlainName (text_in least names) (number_in least names) g → IsPlainName (name_in names) (number_in (length names) names) g × (name_in names g ≡ text_in least names g)
  table_name least g low p =
      let l : nat_lt g least ≡ true = grind (arith, nat_tests) in
      let e : text_in least names g ≡ name_in names g = cond-true (nat_lt g least) _ _ l in
      let h : begins_name (name_in names g) ≡ true = ap begins_name (sym e) ∙ p.0 in
      ((h, ap is_keyword (sym e) ∙ p.1, Agrees-number_in (length names) names differ g (name_in names g) (got names g h)), sym e)

  pub agreeing : (number : List ℕ → ℕ) → Agrees number names → (limit g : ℕ) → g < limit → IsPlainName (name_in names) (number_in (length names) names) g → IsPlainName (name_in names) number g × (name_in names g ≡ name_in names g)
  agreeing number agrees limit g low p = ((p.0, p.1, agrees g (name_in names g) (got names g p.0)), refl)

  module _ (logic : Logic) (bytes : List ℕ) where
    -- one reading tells it: by the numbering that keeps all names of the formula apart from the texts outside the table
    pub formula_from : (f : Formula) → run (number_in (length names + name_bound f) names) logic (start of_formula) (bytes ++ 10 ∷ []) ≡ whole_formula f → IsPlainIn names logic f × (plain_text names logic f ≡ bytes)
    formula_from f h =
        let least = length names + name_bound f in
        let w = (formula_is_whole (text_in least names) (number_in least names) (GivesBack-number_in least names (omega arith)) logic (bytes ++ 10 ∷ []) f).0 h in
        let m = move_formula (text_in least names) (name_in names) (number_in least names) (number_in (length names) names) (λ g. g) least (table_name least) logic f 0 (omega arith) w.0 in
        let e = rename-same f in
        let plain : IsPlainIn names logic f = subst (IsPlainIn names logic) e m.0 in
        let same : plain_formula (name_in names) logic 0 f (10 ∷ []) ≡ bytes ++ 10 ∷ [] = ap (λ g. plain_formula (name_in names) logic 0 g (10 ∷ [])) (sym e) ∙ m.1 (10 ∷ []) ∙ w.1 in
        (plain, (same_from_push (plain_text names logic f) bytes 10 10 (sym (plain_formula-append (name_in names) (10 ∷ []) logic 0 f []) ∙ same)).0)

    formula_forth : (f : Formula) → ReadsFormula names logic bytes f → IsPlainIn names logic f × (plain_text names logic f ≡ bytes)
    formula_forth f h = formula_from f (h (number_in (length names + name_bound f) names) (Agrees-number_in (length names + name_bound f) names differ))

    pub formula_back : (f : Formula) → IsPlainIn names logic f × (plain_text names logic f ≡ bytes) → ReadsFormula names logic bytes f
    formula_back f h number agrees =
        let m = move_formula (name_in names) (name_in names) (number_in (length names) names) number (λ g. g) (name_bound f) (agreeing number agrees (name_bound f)) logic f 0 (omega arith) h.0 in
        let plain : IsPlainFormula (name_in names) number logic 0 f = subst (IsPlainFormula (name_in names) number logic 0) (rename-same f) m.0 in
        ap (run number logic (start of_formula)) (ap (λ v. v ++ 10 ∷ []) (sym h.1) ∙ sym (plain_formula-append (name_in names) (10 ∷ []) logic 0 f [])) ∙ formula_read (name_in names) number logic f plain

    pub term_from : (t : Term) → run (number_in (length names + term_bound t) names) logic (start of_term) (bytes ++ 10 ∷ []) ≡ whole_term t → IsPlainTermIn names t × (term_text names t ≡ bytes)
    term_from t h =
        let least = length names + term_bound t in
        let w = (term_is_whole (text_in least names) (number_in least names) (GivesBack-number_in least names (omega arith)) logic (bytes ++ 10 ∷ []) t).0 h in
        let m = move_term (text_in least names) (name_in names) (number_in least names) (number_in (length names) names) (λ g. g) least (table_name least) t 0 (omega arith) w.0 in
        let e = rename_term-same t in
        let plain : IsPlainTermIn names t = subst (IsPlainTermIn names) e m.0 in
        let same : plain_term (name_in names) t (10 ∷ []) ≡ bytes ++ 10 ∷ [] = ap (λ u. plain_term (name_in names) u (10 ∷ [])) (sym e) ∙ m.1 (10 ∷ []) ∙ w.1 in
        (plain, (same_from_push (term_text names t) bytes 10 10 (sym (plain_term-append (name_in names) (10 ∷ []) t []) ∙ same)).0)

    term_forth : (t : Term) → ReadsTerm names logic bytes t → IsPlainTermIn names t × (term_text names t ≡ bytes)
    term_forth t h = term_from t (h (number_in (length names + term_bound t) names) (Agrees-number_in (length names + term_bound t) names differ))

    pub term_back : (t : Term) → IsPlainTermIn names t × (term_text names t ≡ bytes) → ReadsTerm names logic bytes t
    term_back t h number agrees =
        let m = move_term (name_in names) (name_in names) (number_in (length names) names) number (λ g. g) (term_bound t) (agreeing number agrees (term_bound t)) t 0 (omega arith) h.0 in
        let plain : IsPlainTerm (name_in names) number 0 t = subst (IsPlainTerm (name_in names) number 0) (rename_term-same t) m.0 in
        ap (run number logic (start of_term)) (ap (λ v. v ++ 10 ∷ []) (sym h.1) ∙ sym (plain_term-append (name_in names) (10 ∷ []) t [])) ∙ term_read (name_in names) number logic t plain

pub term_is_read : TermIsRead
term_is_read names differ logic bytes t = (term_forth names differ logic bytes t, term_back names differ logic bytes t)

pub formula_is_read : FormulaIsRead
formula_is_read names differ logic bytes f = (formula_forth names differ logic bytes f, formula_back names differ logic bytes f)
