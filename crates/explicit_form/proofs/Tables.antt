-- Certificates with the names of a table.
use Rattle.std.proofs.Common.{◌≡◌, ℕ, ◌+◌, ◌<◌, ◌≤◌, List, [], ◌∷◌, ◌++◌, length, refl, sym, ap, ◌∙◌, subst, arith}
use Rattle.fpc_terms.specs.Name.{Agrees, AreDifferent, Grows}
use Rattle.fpc_terms.specs.Term.{Term}
use Rattle.fpc_terms.specs.Text.{name_in}
use Rattle.polarised_formulas.specs.declared.logic.Logic.{Logic}
use Rattle.polarised_formulas.specs.declared.step.Step.{Step}
use Rattle.polarised_formulas.specs.declared.step.Step.TheVariants as step
use Rattle.polarised_formulas.specs.Formula.{Formula}
use Rattle.polarised_formulas.specs.PlainReading.{is_keyword}
use Rattle.polarised_formulas.specs.PlainForm.{begins_name, GivesBack, IsPlainName, IsPlainTerm, IsPlainFormula, plain_term, plain_formula}
use Rattle.polarised_formulas.specs.Numbering.{number_in, text_in}
use Rattle.polarised_formulas.proofs.Growth.{plain_grows, plain_term_grows}
use Rattle.polarised_formulas.proofs.Joins.{plain_term-append, plain_formula-append}
use Rattle.polarised_formulas.proofs.Numberings.{GivesBack-number_in, Agrees-number_in}
use Rattle.polarised_formulas.proofs.Renaming.{term_bound, name_bound, rename_term-same, rename-same, move_term, move_formula}
use Rattle.polarised_formulas.proofs.TableOutcomes.{fits-term, fits-formula}
use Rattle.polarised_formulas.proofs.Texts.{table_name, agreeing}
use Rattle.explicit_form.specs.StepText.{word_text, step_word, header_text, argument_before, lines_before, end_text, IsPlainArgument, ArePlainSteps, IsCertificate}
use Rattle.explicit_form.specs.StepReading.{ended, start, run, steps_onto}
use Rattle.explicit_form.specs.StepLaws.{HasLines}
use Rattle.explicit_form.specs.StepLimits.{most_bytes, read, FitsStep, FitSteps}
use Rattle.explicit_form.specs.StepTables.{IsCertificateIn, ReadsSteps, ReadsLines, HasOutcome, StepsAreRead, LinesInTable, StepsOutcome, StepGrows}
use Rattle.explicit_form.proofs.Certificates.{certificate_is_whole}
use Rattle.explicit_form.proofs.Forward.{run-certificate}
use Rattle.explicit_form.proofs.LineEnds.{lines_are_read}
use Rattle.explicit_form.proofs.Outcomes.{certificate_outcome}

-- a number above each name
abbrev step_bound : Step → ℕ
step_bound (step.Exists t) = term_bound t
step_bound (step.FocLEvery t) = term_bound t
step_bound (step.FocRExists t) = term_bound t
step_bound (step.Cut f) = name_bound f
step_bound _ = 0

abbrev steps_bound : List Step → ℕ
steps_bound [] = 0
steps_bound (s ∷ ss) = step_bound s + steps_bound ss

-- steps that are plain by one naming are plain by another, with the same text, where each name below the limit is so
module _ (text text' : ℕ → List ℕ) (number number' : List ℕ → ℕ) (limit : ℕ) (each : (g : ℕ) → g < limit → IsPlainName text number g → IsPlainName text' number' g × (text' g ≡ text g)) (logic : Logic) where
  move_plain_term : (t : Term) → term_bound t ≤ limit → IsPlainTerm text number 0 t → IsPlainTerm text' number' 0 t × ((rest : List ℕ) → plain_term text' t rest ≡ plain_term text t rest)
  move_plain_term t l p =
      let m = move_term text text' number number' (λ g. g) limit each t 0 l p in
      (subst (IsPlainTerm text' number' 0) (rename_term-same t) m.0, λ rest. ap (λ u. plain_term text' u rest) (sym (rename_term-same t)) ∙ m.1 rest)

  move_plain_formula : (f : Formula) → name_bound f ≤ limit → IsPlainFormula text number logic 0 f → IsPlainFormula text' number' logic 0 f × ((rest : List ℕ) → plain_formula text' logic 0 f rest ≡ plain_formula text logic 0 f rest)
  move_plain_formula f l p =
      let m = move_formula text text' number number' (λ g. g) limit each logic f 0 l p in
      (subst (IsPlainFormula text' number' logic 0) (rename-same f) m.0, λ rest. ap (λ u. plain_formula text' logic 0 u rest) (sym (rename-same f)) ∙ m.1 rest)

  move_argument : (s : Step) → step_bound s ≤ limit → IsPlainArgument text number logic s → IsPlainArgument text' number' logic s × ((rest : List ℕ) → argument_before text' logic s rest ≡ argument_before text logic s rest)
  move_argument (step.Exists t) l p = let m = move_plain_term t l p in (m.0, λ rest. m.1 (10 ∷ rest))
  move_argument (step.FocLEvery t) l p = let m = move_plain_term t l p in (m.0, λ rest. m.1 (10 ∷ rest))
  move_argument (step.FocRExists t) l p = let m = move_plain_term t l p in (m.0, λ rest. m.1 (10 ∷ rest))
  move_argument (step.Cut f) l p = let m = move_plain_formula f l p in (m.0, λ rest. m.1 (10 ∷ rest))
  move_argument _ l p = (p, λ rest. refl)

  move_steps : (ss : List Step) → steps_bound ss ≤ limit → ArePlainSteps text number logic ss → ArePlainSteps text' number' logic ss × ((rest : List ℕ) → lines_before text' logic ss rest ≡ lines_before text logic ss rest)
  move_steps [] l p = (tt, λ rest. refl)
  move_steps (s ∷ ss) l p =
      let a = move_argument s (omega arith) p.0.1 in
      let m = move_steps ss (omega arith) p.1 in
      (((p.0.0, a.0), m.0), λ rest. ap (λ v. word_text (step_word s) ++ v) (a.1 (lines_before text' logic ss rest) ∙ ap (argument_before text logic s) (m.1 rest)))

  move_certificate : (ss : List Step) (bytes : List ℕ) → steps_bound ss ≤ limit → IsCertificate text number logic ss bytes → IsCertificate text' number' logic ss bytes
  move_certificate ss bytes l h = let m = move_steps ss l h.0 in (m.0, ap (λ v. header_text logic ++ v) (m.1 end_text) ∙ h.1)

-- what fits with texts fits with others that are the same for its names
module _ (text text' own : ℕ → List ℕ) (number : List ℕ → ℕ) (limit : ℕ) (each : (g : ℕ) → g < limit → IsPlainName own number g → text g ≡ text' g) (logic : Logic) where
  fits-step : (s : Step) → step_bound s ≤ limit → IsPlainArgument own number logic s → FitsStep text s → FitsStep text' s
  fits-step (step.Exists t) l p h = fits-term text text' own number limit each t 0 l p h
  fits-step (step.FocLEvery t) l p h = fits-term text text' own number limit each t 0 l p h
  fits-step (step.FocRExists t) l p h = fits-term text text' own number limit each t 0 l p h
  fits-step (step.Cut f) l p h = fits-formula text text' own number limit each logic f 0 0 l p h
  fits-step _ l p h = tt

  fit-steps : (ss : List Step) → steps_bound ss ≤ limit → ArePlainSteps own number logic ss → FitSteps text ss → FitSteps text' ss
  fit-steps [] l p h = tt
  fit-steps (s ∷ ss) l p h = (fits-step s (omega arith) p.0.1 h.0, fit-steps ss (omega arith) p.1 h.1)

module _ (names : List (List ℕ)) (differ : AreDifferent names) (logic : Logic) (bytes : List ℕ) where
  steps_from : (steps : List Step) → run (number_in (length names + steps_bound steps) names) logic start bytes ≡ ended (steps_onto steps []) → IsCertificateIn names logic steps bytes
  steps_from steps e =
      let least = length names + steps_bound steps in
      let w = (certificate_is_whole (text_in least names) (number_in least names) (GivesBack-number_in least names (omega arith)) logic bytes steps).0 e in
      move_certificate (text_in least names) (name_in names) (number_in least names) (number_in (length names) names) least (table_name names differ least) logic steps bytes (omega arith) w

  agreed : (steps : List Step) → IsCertificateIn names logic steps bytes → (number : List ℕ → ℕ) → Agrees number names → IsCertificate (name_in names) number logic steps bytes
  agreed steps h number agrees = move_certificate (name_in names) (name_in names) (number_in (length names) names) number (steps_bound steps) (agreeing names differ number agrees (steps_bound steps)) logic steps bytes (omega arith) h

  steps_read : (steps : List Step) → IsCertificateIn names logic steps bytes → ReadsSteps names logic bytes steps
  steps_read steps h number agrees = let c = agreed steps h number agrees in ap (run number logic start) (sym c.1) ∙ run-certificate (name_in names) number logic steps c.0

  lines_from : (done : List Step) → ReadsLines names logic bytes done → HasLines (name_in names) (number_in (length names) names) logic (steps_onto done []) bytes
  lines_from done h =
      let steps = steps_onto done [] in
      let least = length names + steps_bound steps in
      let r = h (number_in least names) (Agrees-number_in least names differ) in
      let w = lines_are_read (text_in least names) (number_in least names) (GivesBack-number_in least names (omega arith)) logic bytes done r.0 r.1 in
      let m = move_steps (text_in least names) (name_in names) (number_in least names) (number_in (length names) names) least (table_name names differ least) logic steps (omega arith) w.plain in
      record { plain = m.0; line = w.line; parts = ap (λ v. header_text logic ++ v) (m.1 w.line) ∙ w.parts; open_line = w.open_line }

  -- a name of the table has its text by each numbering of the table
  same_text : (number : List ℕ → ℕ) (text : ℕ → List ℕ) → Agrees number names → GivesBack text number → (limit g : ℕ) → g < limit → IsPlainName (name_in names) (number_in (length names) names) g → IsPlainName text number g × (text g ≡ name_in names g)
  same_text number text agrees back limit g low p =
      let a = agreeing names differ number agrees limit g low p in
      let e : text g ≡ name_in names g = ap text (sym a.0.2) ∙ back (name_in names g) p.0 in
      ((ap begins_name e ∙ p.0, ap is_keyword e ∙ p.1, ap number e ∙ a.0.2), e)

  outcome_forth : (steps : List Step) → HasOutcome names logic bytes (read steps) → IsCertificateIn names logic steps bytes × FitSteps (name_in names) steps × (length bytes ≤ most_bytes)
  outcome_forth steps h =
      let least = length names + steps_bound steps in
      let back = GivesBack-number_in least names (omega arith) in
      let agrees = Agrees-number_in least names differ in
      let w = (certificate_outcome (text_in least names) (number_in least names) back logic bytes steps).0 (h (number_in least names) (agrees, (text_in least names, back))) in
      let c = move_certificate (text_in least names) (name_in names) (number_in least names) (number_in (length names) names) least (table_name names differ least) logic steps bytes (omega arith) w.0 in
      (c, fit-steps (text_in least names) (name_in names) (name_in names) (number_in (length names) names) least (λ g low p. (same_text (number_in least names) (text_in least names) agrees back least g low p).1) logic steps (omega arith) c.0 w.1, w.2)

  outcome_back : (steps : List Step) → IsCertificateIn names logic steps bytes × FitSteps (name_in names) steps × (length bytes ≤ most_bytes) → HasOutcome names logic bytes (read steps)
  outcome_back steps h number is =
      let bound = steps_bound steps in
      let same = same_text number is.1.0 is.0 is.1.1 bound in
      let c = move_certificate (name_in names) is.1.0 (number_in (length names) names) number bound same logic steps bytes (omega arith) h.0 in
      let fits = fit-steps (name_in names) is.1.0 (name_in names) (number_in (length names) names) bound (λ g low p. sym (same g low p).1) logic steps (omega arith) h.0.0 h.1 in
      (certificate_outcome is.1.0 number is.1.1 logic bytes steps).1 (c, fits, h.2)

pub steps_are_read : StepsAreRead
steps_are_read names differ logic bytes steps =
    (λ h. steps_from names differ logic bytes steps (h (number_in (length names + steps_bound steps) names) (Agrees-number_in (length names + steps_bound steps) names differ)), steps_read names differ logic bytes steps)

pub lines_in_table : LinesInTable
lines_in_table names differ logic bytes done h = lines_from names differ logic bytes done h

pub steps_outcome : StepsOutcome
steps_outcome names differ logic bytes steps = (outcome_forth names differ logic bytes steps, outcome_back names differ logic bytes steps)

module _ (old new : List (List ℕ)) (grows : Grows old new) (differ : AreDifferent new) (logic : Logic) where
  term-behind : (text : ℕ → List ℕ) (t : Term) (rest : List ℕ) → plain_term text t (10 ∷ rest) ≡ plain_term text t [] ++ 10 ∷ rest
  term-behind text t rest = plain_term-append text (10 ∷ rest) t []

  formula-behind : (text : ℕ → List ℕ) (f : Formula) (rest : List ℕ) → plain_formula text logic 0 f (10 ∷ rest) ≡ plain_formula text logic 0 f [] ++ 10 ∷ rest
  formula-behind text f rest = plain_formula-append text (10 ∷ rest) logic 0 f []

  abbrev Grown : Step → Type 0
  Grown s = IsPlainArgument (name_in new) (number_in (length new) new) logic s × ((rest : List ℕ) → argument_before (name_in new) logic s rest ≡ argument_before (name_in old) logic s rest) × (FitsStep (name_in old) s → FitsStep (name_in new) s)

  grown-argument : (s : Step) → IsPlainArgument (name_in old) (number_in (length old) old) logic s → Grown s
  grown-argument (step.Exists t) p = let g = plain_term_grows old new grows differ t p in (g.0, λ rest. term-behind (name_in new) t rest ∙ ap (λ v. v ++ 10 ∷ rest) g.1 ∙ sym (term-behind (name_in old) t rest), g.2)
  grown-argument (step.FocLEvery t) p = let g = plain_term_grows old new grows differ t p in (g.0, λ rest. term-behind (name_in new) t rest ∙ ap (λ v. v ++ 10 ∷ rest) g.1 ∙ sym (term-behind (name_in old) t rest), g.2)
  grown-argument (step.FocRExists t) p = let g = plain_term_grows old new grows differ t p in (g.0, λ rest. term-behind (name_in new) t rest ∙ ap (λ v. v ++ 10 ∷ rest) g.1 ∙ sym (term-behind (name_in old) t rest), g.2)
  grown-argument (step.Cut f) p = let g = plain_grows old new grows differ logic f p in (g.0, λ rest. formula-behind (name_in new) f rest ∙ ap (λ v. v ++ 10 ∷ rest) g.1 ∙ sym (formula-behind (name_in old) f rest), g.2)
  grown-argument _ p = (p, λ rest. refl, λ h. h)

pub step_grows : StepGrows
step_grows old new grows differ logic s p = let g = grown-argument old new grows differ logic s p.1 in ((p.0, g.0), λ rest. ap (λ v. word_text (step_word s) ++ v) (g.1 rest), g.2)
