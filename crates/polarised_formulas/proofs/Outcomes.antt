-- The outcome of a whole text.
use Rattle.std.proofs.Common.{◌≡◌, ℕ, suc, List, [], ◌∷◌, ◌++◌, Option, Some, None, refl, sym, ap, ◌∙◌, subst}
use Rattle.fpc_base.specs.declared.refusal.Code.{Code}
use Rattle.fpc_base.specs.declared.refusal.Code.TheVariants.{Unexpected}
use Rattle.fpc_terms.specs.Term.{Term}
use Rattle.polarised_formulas.specs.declared.logic.Logic.{Logic}
use Rattle.polarised_formulas.specs.Formula.{Formula}
use Rattle.polarised_formulas.specs.PlainReading.{Reading, Next, on, whole_term, whole_formula, wrong, next, go, run, Use}
use Rattle.polarised_formulas.specs.PlainForm.{GivesBack}
use Rattle.polarised_formulas.specs.PlainLimits.{nesting, limit_of, fault_inside, Outcome, a_term, a_formula, refused, outcome_at_end, unless_refused, outcome}
use Rattle.polarised_formulas.proofs.Begun.{IsLive, IsLiveNext}
use Rattle.polarised_formulas.proofs.Live.{IsLiveNext-next}
use Rattle.polarised_formulas.proofs.Begins.{stays_wrong}
use Rattle.polarised_formulas.proofs.Fitting.{Fits, FitsNext, limit-within, within-limit, back-next, fits-within}
use Rattle.polarised_formulas.proofs.Keeping.{Ahead, ahead-next}

-- what is whole gives the outcome
pub record Gives (w : Next) (o : Outcome) : Type 0 where
  pub at_end : (place : ℕ) → outcome_at_end place w ≡ o
  pub only : (place : ℕ) (n : Next) → outcome_at_end place n ≡ o → n ≡ w
  pub not_refused : (code : Code) (place : ℕ) → refused code place ≡ o → ⊥
  pub not_wrong : wrong ≡ w → ⊥

pub gives_term : (t : Term) → Gives (whole_term t) (a_term t)
gives_term t = record { at_end = λ place. refl; only = by; not_refused = λ code place e. cc; not_wrong = λ e. cc }
  where
    by : (place : ℕ) (n : Next) → outcome_at_end place n ≡ a_term t → n ≡ whole_term t
    by place (on q) e = cc
    by place (whole_term u) e = cc
    by place (whole_formula f) e = cc
    by place wrong e = cc

pub gives_formula : (f : Formula) → Gives (whole_formula f) (a_formula f)
gives_formula f = record { at_end = λ place. refl; only = by; not_refused = λ code place e. cc; not_wrong = λ e. cc }
  where
    by : (place : ℕ) (n : Next) → outcome_at_end place n ≡ a_formula f → n ≡ whole_formula f
    by place (on q) e = cc
    by place (whole_term u) e = cc
    by place (whole_formula g) e = cc
    by place wrong e = cc

module _ (text : ℕ → List ℕ) (number : List ℕ → ℕ) (back : GivesBack text number) (logic : Logic) (wanted : Use) (w : Next) (o : Outcome) (gives : Gives w o) where
  -- what the outcome says of the bytes
  abbrev Reaches : Next → List ℕ → Type 0
  Reaches n bs = (run number logic n (bs ++ 10 ∷ []) ≡ w) × FitsNext text w

  forth-end : (q : Reading) → IsLive text number logic wanted q → Fits text q → (place : ℕ) → outcome_at_end place (next number logic q 10) ≡ o → Reaches (on q) []
  forth-end q live fits place e = by (next number logic q 10) refl (ahead-next text number back logic wanted q 10 live fits)
    where
      same : next number logic q 10 ≡ w
      same = gives.only place (next number logic q 10) e

      by : (m : Next) → next number logic q 10 ≡ m → Ahead text (nesting q) m → Reaches (on q) []
      by (on r) h a = absurd (gives.not_refused Unexpected place (ap (outcome_at_end place) (sym h) ∙ e))
      by (whole_term t) h a = (same, subst (FitsNext text) (sym h ∙ same) a)
      by (whole_formula f) h a = (same, subst (FitsNext text) (sym h ∙ same) a)
      by wrong h a = absurd (gives.not_refused Unexpected place (ap (outcome_at_end place) (sym h) ∙ e))

  forth-step : (q : Reading) (m : Next) → Ahead text (nesting q) m → (bs : List ℕ) (place : ℕ) → (FitsNext text m → outcome number logic m (suc place) bs ≡ o → Reaches m bs)
      → unless_refused (fault_inside q m) place (outcome number logic m (suc place) bs) ≡ o → Reaches m bs
  forth-step q (on r) a bs place rec e = by (limit_of q r) refl e
    where
      by : (c : Option Code) → limit_of q r ≡ c → unless_refused c place (outcome number logic (on r) (suc place) bs) ≡ o → Reaches (on r) bs
      by (Some code) h e = absurd (gives.not_refused code place e)
      by None h e = let l = limit-within q r h in rec (a l.shallow l.short l.few) e
  forth-step q (whole_term t) a bs place rec e = absurd (gives.not_refused Unexpected place e)
  forth-step q (whole_formula f) a bs place rec e = absurd (gives.not_refused Unexpected place e)
  forth-step q wrong a bs place rec e = absurd (gives.not_refused Unexpected place e)

  pub forth : (bs : List ℕ) (n : Next) (place : ℕ) → IsLiveNext text number logic wanted n → FitsNext text n → outcome number logic n place bs ≡ o → Reaches n bs
  forth [] (on q) place live fits e = forth-end q live fits place e
  forth (b ∷ bs) (on q) place live fits e =
      forth-step q (next number logic q b) (ahead-next text number back logic wanted q b live fits) bs place (forth bs (next number logic q b) (suc place) (IsLiveNext-next text number wanted back logic q b live)) e
  forth [] (whole_term t) place live fits e = absurd (gives.not_refused Unexpected place e)
  forth (b ∷ bs) (whole_term t) place live fits e = absurd (gives.not_refused Unexpected place e)
  forth [] (whole_formula f) place live fits e = absurd (gives.not_refused Unexpected place e)
  forth (b ∷ bs) (whole_formula f) place live fits e = absurd (gives.not_refused Unexpected place e)
  forth [] wrong place live fits e = absurd (gives.not_refused Unexpected place e)
  forth (b ∷ bs) wrong place live fits e = absurd (gives.not_refused Unexpected place e)

  -- the outcome is as wanted, and what leads to it fits
  abbrev Arrives : Next → List ℕ → Type 0
  Arrives n bs = FitsNext text n × ((place : ℕ) → outcome number logic n place bs ≡ o)

  back-step : (q : Reading) (b : ℕ) (m : Next) → next number logic q b ≡ m → (bs : List ℕ) → Arrives m bs → (place : ℕ) → unless_refused (fault_inside q m) place (outcome number logic m (suc place) bs) ≡ o
  back-step q b (on r) h bs rec place = ap (λ c. unless_refused c place (outcome number logic (on r) (suc place) bs)) (within-limit q r (fits-within text number back logic q b r h rec.0)) ∙ rec.1 (suc place)
  back-step q b (whole_term t) h [] rec place = absurd (gives.not_refused Unexpected (suc place) (rec.1 (suc place)))
  back-step q b (whole_term t) h (c ∷ bs) rec place = absurd (gives.not_refused Unexpected (suc place) (rec.1 (suc place)))
  back-step q b (whole_formula f) h [] rec place = absurd (gives.not_refused Unexpected (suc place) (rec.1 (suc place)))
  back-step q b (whole_formula f) h (c ∷ bs) rec place = absurd (gives.not_refused Unexpected (suc place) (rec.1 (suc place)))
  back-step q b wrong h bs rec place = absurd rec.0

  ended : (n : Next) → (go number logic n 10 ≡ wrong) → ((b : ℕ) → go number logic n b ≡ wrong) → (bs : List ℕ) → run number logic n (bs ++ 10 ∷ []) ≡ w → ⊥
  ended n h k [] e = gives.not_wrong (sym h ∙ e)
  ended n h k (b ∷ bs) e = gives.not_wrong (sym (ap (λ m. run number logic m (bs ++ 10 ∷ [])) (k b) ∙ stays_wrong number logic (bs ++ 10 ∷ [])) ∙ e)

  pub back' : (bs : List ℕ) (n : Next) → IsLiveNext text number logic wanted n → run number logic n (bs ++ 10 ∷ []) ≡ w → FitsNext text w → Arrives n bs
  back' [] (on q) live e fits = (back-next text number back logic wanted q 10 live (subst (FitsNext text) (sym e) fits), λ place. ap (outcome_at_end place) e ∙ gives.at_end place)
  back' (b ∷ bs) (on q) live e fits =
      let rec = back' bs (next number logic q b) (IsLiveNext-next text number wanted back logic q b live) e fits in
      (back-next text number back logic wanted q b live rec.0, back-step q b (next number logic q b) refl bs rec)
  back' [] (whole_term t) live e fits = absurd (gives.not_wrong e)
  back' (b ∷ bs) (whole_term t) live e fits = absurd (ended (whole_term t) refl (λ c. refl) (b ∷ bs) e)
  back' [] (whole_formula f) live e fits = absurd (gives.not_wrong e)
  back' (b ∷ bs) (whole_formula f) live e fits = absurd (ended (whole_formula f) refl (λ c. refl) (b ∷ bs) e)
  back' [] wrong live e fits = absurd (gives.not_wrong e)
  back' (b ∷ bs) wrong live e fits = absurd (ended wrong refl (λ c. refl) (b ∷ bs) e)
