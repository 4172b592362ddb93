-- The outcome of a whole certificate.
use Rattle.std.proofs.Common.{◌≡◌, ℕ, suc, ◌+◌, ◌<◌, ◌≤◌, Bool, true, false, if◌then◌else◌, List, [], ◌∷◌, length, Option, Some, None, refl, sym, ap, ◌∙◌, subst, arith, nat_le}
use Rattle.std.proofs.lemmas.Bool.{cond-false}
use Rattle.std.proofs.lemmas.Bool.Decides.{nat_tests}
use Rattle.fpc_base.specs.declared.refusal.Code.TheVariants.{TooLarge}
use Rattle.fpc_base.specs.declared.refusal.Refusal.{Refusal}
use Rattle.polarised_formulas.specs.declared.logic.Logic.{Logic}
use Rattle.polarised_formulas.specs.declared.step.Step.{Step}
use Rattle.polarised_formulas.specs.PlainForm.{GivesBack}
use Rattle.explicit_form.specs.StepText.{IsCertificate}
use Rattle.explicit_form.specs.StepReading.{State, heading, reading, ended, mistaken, stuck, start, go, run, steps_onto}
use Rattle.explicit_form.specs.StepLimits.{most_bytes, byte_fault, read, outcome_at_end, unless_refused, outcome, FitSteps, CertificateOutcome}
use Rattle.explicit_form.proofs.Certificates.{Holds, Holds-go, Holds-start, turned, certificate_is_whole}
use Rattle.explicit_form.proofs.Limits.{FitsState, fits-go, back-go}

pub fit-onto : (text : ℕ → List ℕ) (done ss : List Step) → FitSteps text done → FitSteps text ss → FitSteps text (steps_onto done ss)
fit-onto text [] ss h k = k
fit-onto text (s ∷ done) ss h k = fit-onto text done (s ∷ ss) h.1 (h.0, k)

module _ (text : ℕ → List ℕ) (number : List ℕ → ℕ) (back : GivesBack text number) (logic : Logic) (steps : List Step) where
  -- the bytes from a place on are the rest of the text of the steps, within the limits
  record Reaches (st : State) (place : ℕ) (bs : List ℕ) : Type 0 where
    ends : run number logic st bs ≡ ended (steps_onto steps [])
    fits : FitsState text (run number logic st bs)
    small : place ≤ most_bytes → place + length bs ≤ most_bytes

  forth-end : (st : State) (place : ℕ) → FitsState text st → outcome_at_end place st ≡ read steps → Reaches st place []
  forth-end (heading w) place h e = cc
  forth-end (reading done l) place h e = cc
  forth-end (ended done) place h e =
      let same : steps_onto done [] ≡ steps = cc in
      record { ends = ap ended (sym (turned done) ∙ ap (λ v. steps_onto v []) same); fits = h; small = λ l. omega arith }
  forth-end mistaken place h e = cc
  forth-end stuck place h e = cc

  forth : (bs : List ℕ) (st : State) (place : ℕ) (f : List ℕ → List ℕ) → Holds text number back logic st f → FitsState text st → outcome number logic st place bs ≡ read steps → Reaches st place bs
  forth [] st place f holds h e = forth-end st place h e
  forth (b ∷ bs) st place f holds h e = large (nat_le most_bytes place) refl e (forth bs (go number logic st b) (suc place) (λ rest. f (b ∷ rest)) (Holds-go text number back logic st b f holds))
    where
      told : (o : Option Refusal) → byte_fault place st (go number logic st b) ≡ o → place < most_bytes → unless_refused o (outcome number logic (go number logic st b) (suc place) bs) ≡ read steps
          → (FitsState text (go number logic st b) → outcome number logic (go number logic st b) (suc place) bs ≡ read steps → Reaches (go number logic st b) (suc place) bs) → Reaches st place (b ∷ bs)
      told (Some r) t l s rec = cc
      told None t l s rec =
          let r = rec (fits-go text number back logic place st b holds.alive h t) s in
          let low : suc place ≤ most_bytes = omega arith in
          let m = r.small low in
          record { ends = r.ends; fits = r.fits; small = λ _. omega arith }

      large : (c : Bool) → nat_le most_bytes place ≡ c → unless_refused (if c then Some (record { code = TooLarge; at = place }) else byte_fault place st (go number logic st b)) (outcome number logic (go number logic st b) (suc place) bs) ≡ read steps
          → (FitsState text (go number logic st b) → outcome number logic (go number logic st b) (suc place) bs ≡ read steps → Reaches (go number logic st b) (suc place) bs) → Reaches st place (b ∷ bs)
      large true t s rec = cc
      large false t s rec = told (byte_fault place st (go number logic st b)) refl (grind (arith, nat_tests)) s rec

  -- the outcome is the steps, and what leads to it fits
  abbrev Arrives : State → List ℕ → Type 0
  Arrives st bs = FitsState text st × ((place : ℕ) → place + length bs ≤ most_bytes → outcome number logic st place bs ≡ read steps)

  within : (place : ℕ) (o : Option Refusal) → place < most_bytes → (if nat_le most_bytes place then Some (record { code = TooLarge; at = place }) else o) ≡ o
  within place o l = let t : nat_le most_bytes place ≡ false = grind (arith, nat_tests) in cond-false (nat_le most_bytes place) _ o t

  arrives : (bs : List ℕ) (st : State) (f : List ℕ → List ℕ) → Holds text number back logic st f → run number logic st bs ≡ ended (steps_onto steps []) → FitSteps text (steps_onto steps []) → Arrives st bs
  arrives [] st f holds e h = (subst (FitsState text) (sym e) h, λ place l. ap (outcome_at_end place) e ∙ ap read (turned steps))
  arrives (b ∷ bs) st f holds e h =
      let rec = arrives bs (go number logic st b) (λ rest. f (b ∷ rest)) (Holds-go text number back logic st b f holds) e h in
      let behind = back-go text number back logic st b holds.alive rec.0 in (
        behind.0,
        λ place l.
            let low : place < most_bytes = omega arith in
            let later : suc place + length bs ≤ most_bytes = omega arith in
            ap (λ o. unless_refused o (outcome number logic (go number logic st b) (suc place) bs)) (within place (byte_fault place st (go number logic st b)) low ∙ behind.1 place) ∙ rec.1 (suc place) later,
      )

pub certificate_outcome : CertificateOutcome
certificate_outcome text number back logic bytes steps = (one, other)
  where
    one : outcome number logic start 0 bytes ≡ read steps → IsCertificate text number logic steps bytes × FitSteps text steps × (length bytes ≤ most_bytes)
    one e =
        let r = forth text number back logic steps bytes start 0 (λ rest. rest) (Holds-start text number back logic) tt e in
        let fits = fit-onto text (steps_onto steps []) [] (subst (FitsState text) r.ends r.fits) tt in
        let low : 0 ≤ most_bytes = omega arith in
        let small = r.small low in
        ((certificate_is_whole text number back logic bytes steps).0 r.ends, subst (FitSteps text) (turned steps) fits, omega arith)

    other : IsCertificate text number logic steps bytes × FitSteps text steps × (length bytes ≤ most_bytes) → outcome number logic start 0 bytes ≡ read steps
    other h =
        let small = h.2 in
        (arrives text number back logic steps bytes start (λ rest. rest) (Holds-start text number back logic) ((certificate_is_whole text number back logic bytes steps).1 h.0) (fit-onto text steps [] h.1 tt)).1 0 (omega arith)
