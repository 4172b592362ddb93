-- The steps of a reader of a whole text, while the table of names grows.
use Rattle.std.proofs.Common.{◌≡◌, ℕ, suc, List, [], ◌∷◌, drop, Some, None, refl, ap, ◌∙◌}
use Rattle.fpc_base.specs.declared.refusal.Code.{Code}
use Rattle.fpc_terms.specs.Name.{Agrees, Grows}
use Rattle.polarised_formulas.specs.declared.logic.Logic.{Logic}
use Rattle.polarised_formulas.specs.PlainReading.{Reading, on, next, Use, of_term, of_formula, start, at_term, alone, at_formula}
use Rattle.polarised_formulas.specs.PlainLimits.{limit_of, fault_inside, Outcome, refused, outcome_at_end, unless_refused, outcome, HasOutcome, StandsAt, Comes}

-- a numbering of the new table is one of the old table
pub Agrees-grows : (old new : List (List ℕ)) (number : List ℕ → ℕ) → Grows old new → Agrees number new → Agrees number old
Agrees-grows old new number grows agrees k text got = agrees k text (grows k text got)

pub HasOutcome-comes : (names : List (List ℕ)) (logic : Logic) (wanted : Use) (bytes : List ℕ) (o : Outcome) → Comes names logic wanted bytes o → HasOutcome names logic wanted bytes o
HasOutcome-comes names logic wanted bytes o h number is = h number is.0

pub stands-term : (names : List (List ℕ)) (logic : Logic) (bytes : List ℕ) → StandsAt names logic of_term bytes 0 (at_term alone)
stands-term names logic bytes number agrees = refl

pub stands-formula : (names : List (List ℕ)) (logic : Logic) (bytes : List ℕ) → StandsAt names logic of_formula bytes 0 (at_formula [])
stands-formula names logic bytes number agrees = refl

module _ (old new : List (List ℕ)) (grows : Grows old new) (logic : Logic) (wanted : Use) (bytes : List ℕ) (place : ℕ) (q : Reading) (stands : StandsAt old logic wanted bytes place q) where
  from : (number : List ℕ → ℕ) → Agrees number new → (rest : List ℕ) → drop place bytes ≡ rest → outcome number logic (start wanted) 0 bytes ≡ outcome number logic (on q) place rest
  from number agrees rest e = stands number (Agrees-grows old new number grows agrees) ∙ ap (outcome number logic (on q) place) e

  -- a byte that goes on
  pub stands-next : (b : ℕ) (r : Reading) → drop place bytes ≡ b ∷ drop (suc place) bytes → ((number : List ℕ → ℕ) → Agrees number new → next number logic q b ≡ on r) → limit_of q r ≡ None → StandsAt new logic wanted bytes (suc place) r
  stands-next b r e step free number agrees =
      from number agrees (b ∷ drop (suc place) bytes) e
      ∙ ap (λ n. unless_refused (fault_inside q n) place (outcome number logic n (suc place) (drop (suc place) bytes))) (step number agrees)
      ∙ ap (λ c. unless_refused c place (outcome number logic (on r) (suc place) (drop (suc place) bytes))) free

  -- a byte of which something is told
  pub comes-refused : (b : ℕ) (rest : List ℕ) (code : Code) → drop place bytes ≡ b ∷ rest → ((number : List ℕ → ℕ) → Agrees number new → fault_inside q (next number logic q b) ≡ Some code) → Comes new logic wanted bytes (refused code place)
  comes-refused b rest code e fault number agrees =
      from number agrees (b ∷ rest) e ∙ ap (λ c. unless_refused c place (outcome number logic (next number logic q b) (suc place) rest)) (fault number agrees)

  -- the end
  pub comes-end : (o : Outcome) → drop place bytes ≡ [] → ((number : List ℕ → ℕ) → Agrees number new → outcome_at_end place (next number logic q 10) ≡ o) → Comes new logic wanted bytes o
  comes-end o e end number agrees = from number agrees [] e ∙ end number agrees
