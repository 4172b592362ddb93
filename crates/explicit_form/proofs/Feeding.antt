-- What a reader gives and tells, and the text.
use Rattle.std.proofs.Common.{◌≡◌, ℕ, ◌≤◌, true, false, List, [], ◌∷◌, ◌++◌, length, take, refl, sym, ap, ◌∙◌, subst, arith, append_assoc}
use Rattle.fpc_base.specs.declared.refusal.Code.TheVariants.{Unexpected}
use Rattle.fpc_base.specs.declared.refusal.Refusal.{Refusal}
use Rattle.fpc_terms.specs.Name.{Agrees, AreDifferent}
use Rattle.fpc_terms.specs.Text.{name_in}
use Rattle.polarised_formulas.specs.declared.logic.Logic.{Logic}
use Rattle.polarised_formulas.specs.declared.step.Step.{Step}
use Rattle.polarised_formulas.specs.Numbering.{number_in, text_in}
use Rattle.polarised_formulas.proofs.Numberings.{GivesBack-number_in, Agrees-number_in}
use Rattle.polarised_formulas.proofs.Standing.{Agrees-grows}
use Rattle.explicit_form.specs.StepReading.{Line, State, heading, reading, ended, mistaken, stuck, start, run, steps_onto, steps_of}
use Rattle.explicit_form.specs.StepLaws.{HasLines}
use Rattle.explicit_form.specs.StepLimits.{read, refused, outcome_at_end, outcome, IsRefused}
use Rattle.explicit_form.specs.StepTables.{ReadsLines}
use Rattle.explicit_form.specs.Feeding.{done_of, pushed, is_whole}
use Rattle.explicit_form.specs.StepFeeding.{is_in_lines, NothingGiven, FeedingGives, EndIsWhole, LinesAreTaken, ToldIsRefused, EndIsRefused}
use Rattle.explicit_form.proofs.Certificates.{turned}
use Rattle.explicit_form.proofs.ReaderFeeding.{HasRead-grows, at_end, refused-so, steps-in-order}
use Rattle.explicit_form.proofs.Refusals.{refusal_is_told}
use Rattle.explicit_form.proofs.Tables.{lines_in_table, steps_outcome}

-- steps in order come behind those before
steps-behind : (done ss : List Step) → steps_onto done ss ≡ steps_onto done [] ++ ss
steps-behind [] ss = refl
steps-behind (s ∷ done) ss =
    steps-behind done (s ∷ ss) ∙ sym (append_assoc (steps_onto done []) (s ∷ []) ss) ∙ ap (λ v. v ++ ss) (sym (steps-behind done (s ∷ [])))

steps_of-done : (st : State) → steps_of st ≡ steps_onto (done_of st) []
steps_of-done (heading w) = refl
steps_of-done (reading done l) = refl
steps_of-done (ended done) = refl
steps_of-done mistaken = refl
steps_of-done stuck = refl

-- what is read where the last line is
whole-end : (place : ℕ) (st : State) → is_whole st ≡ true → outcome_at_end place st ≡ read (steps_of st)
whole-end place (heading w) e = cc
whole-end place (reading done l) e = cc
whole-end place (ended done) e = refl
whole-end place mistaken e = cc
whole-end place stuck e = cc

open-end : (place : ℕ) (st : State) → is_whole st ≡ false → outcome_at_end place st ≡ refused (record { code = Unexpected; at = place })
open-end place (heading w) e = refl
open-end place (reading done l) e = refl
open-end place (ended done) e = cc
open-end place mistaken e = refl
open-end place stuck e = refl

-- inside the lines the steps are those whose lines have ended
lines-of : (st : State) (steps : List Step) → is_in_lines st ≡ true → steps_of st ≡ steps → (l : Line) × (st ≡ reading (steps_onto steps []) l)
lines-of (heading w) steps e s = cc
lines-of (reading done l) steps e s = (l, ap (λ v. reading v l) (sym (turned done) ∙ ap (λ v. steps_onto v []) s))
lines-of (ended done) steps e s = cc
lines-of mistaken steps e s = cc
lines-of stuck steps e s = cc

-- an outcome that refuses by the numbering of the table says why the bytes are refused
is-refused : (names : List (List ℕ)) → AreDifferent names → (logic : Logic) (bytes : List ℕ) (x : Refusal) → ((number : List ℕ → ℕ) → Agrees number names → outcome number logic start 0 bytes ≡ refused x)
    → IsRefused (text_in (length names) names) (number_in (length names) names) logic bytes x
is-refused names differ logic bytes x h =
    let least = length names in
    let low : length names ≤ least = omega arith in
    (refusal_is_told (text_in least names) (number_in least names) (GivesBack-number_in least names low) logic bytes x).0 (h (number_in least names) (Agrees-number_in least names differ))

pub nothing_given : NothingGiven
nothing_given logic names r h = record { has_read = h; given = λ number agrees. refl }

pub feeding_gives : FeedingGives
feeding_gives logic known names before bytes steps n old new h grows fed = record { has_read = fed.0; given = by }
  where
    by : (number : List ℕ → ℕ) → Agrees number names → steps_of (run number logic start (before ++ take n bytes)) ≡ steps ++ pushed new.step []
    by number agrees =
        let st = run number logic start before in
        steps_of-done (run number logic start (before ++ take n bytes))
        ∙ ap (λ v. steps_onto v []) (fed.1 number agrees)
        ∙ steps-in-order (done_of st) new.step []
        ∙ steps-behind (done_of st) (pushed new.step [])
        ∙ ap (λ v. v ++ pushed new.step []) (sym (steps_of-done st) ∙ h.given number (Agrees-grows known names number grows agrees))

pub end_is_whole : EndIsWhole
end_is_whole names differ logic bytes steps r h ends = (steps_outcome names differ logic bytes steps).0 (λ number is. by number is.0)
  where
    by : (number : List ℕ → ℕ) → Agrees number names → outcome number logic start 0 bytes ≡ read steps
    by number agrees =
        at_end logic names bytes number r h.has_read agrees ∙ whole-end r.at (run number logic start bytes) (ends number agrees) ∙ ap read (h.given number agrees)

pub lines_are_taken : LinesAreTaken
lines_are_taken names differ logic bytes steps r h inside =
    subst (λ ss. HasLines (name_in names) (number_in (length names) names) logic ss bytes) (turned steps) (lines_in_table names differ logic bytes (steps_onto steps []) reads)
  where
    reads : ReadsLines names logic bytes (steps_onto steps [])
    reads number agrees = lines-of (run number logic start bytes) steps (inside number agrees) (h.given number agrees)

pub told_is_refused : ToldIsRefused
told_is_refused names differ logic known before bytes x old new h grows fed rest =
    is-refused names differ logic _ x (λ number agrees. refused-so logic names before bytes x _ (HasRead-grows logic known names before old h grows) fed number agrees rest)

pub end_is_refused : EndIsRefused
end_is_refused names differ logic bytes r h open_end = is-refused names differ logic bytes _ by
  where
    by : (number : List ℕ → ℕ) → Agrees number names → outcome number logic start 0 bytes ≡ refused (record { code = Unexpected; at = length bytes })
    by number agrees =
        at_end logic names bytes number r h agrees ∙ ap (λ n. outcome_at_end n (run number logic start bytes)) h.place
        ∙ open-end (length bytes) (run number logic start bytes) (open_end number agrees)
