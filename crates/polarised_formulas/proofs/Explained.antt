-- What a reader of a whole text tells, in terms of texts.
use Rattle.std.proofs.Common.{◌≡◌, ℕ, ◌<◌, ◌≤◌, Bool, true, false, if◌then◌else◌, List, length, Result, Ok, Err, inl, inr, refl, sym, ◌∙◌, arith, nat_lt, nat_le}
use Rattle.std.proofs.lemmas.Bool.Decides.{nat_tests}
use Rattle.fpc_base.specs.declared.refusal.Code.{Code}
use Rattle.fpc_base.specs.declared.refusal.Code.TheVariants.{TooLarge}
use Rattle.fpc_base.specs.declared.refusal.ParseRefusal.{ParseRefusal}
use Rattle.fpc_base.specs.declared.refusal.ParseRefusal.TheVariants.{Refused, OutOfMemory}
use Rattle.fpc_terms.specs.Name.{AreDifferent}
use Rattle.polarised_formulas.specs.declared.logic.Logic.{Logic}
use Rattle.polarised_formulas.specs.Formula.{Formula}
use Rattle.polarised_formulas.specs.PlainReading.{of_formula, start}
use Rattle.polarised_formulas.specs.PlainForm.{GivesBack}
use Rattle.polarised_formulas.specs.PlainLimits.{Outcome, a_term, a_formula, refused, outcome, cut, at_most}
use Rattle.polarised_formulas.specs.PlainTaking.{IsAnswer, IsPlainRefusal, IsExplained}
use Rattle.polarised_formulas.proofs.Standing.{HasOutcome-comes}
use Rattle.polarised_formulas.proofs.PlainNamed.{plain_formula_is_named}
use Rattle.polarised_formulas.proofs.Refusals.{refusal_is_told}
use Rattle.polarised_formulas.proofs.TableOutcomes.{formula_has_outcome}

module _ (text : ℕ → List ℕ) (number : List ℕ → ℕ) (back : GivesBack text number) (logic : Logic) (bytes : List ℕ) (code : Code) (place : ℕ) where
  explained-cut : (o : Outcome) → outcome number logic (start of_formula) 0 bytes ≡ o → 67108864 < length bytes → cut 67108864 o ≡ refused code place → IsPlainRefusal text number logic bytes code place
  explained-cut (a_term t) e long h = let a : TooLarge ≡ code = cc in let b : 67108864 ≡ place = cc in inr (sym a, sym b, long, λ c earlier k. let no : ⊥ = cc in absurd no)
  explained-cut (a_formula f) e long h = let a : TooLarge ≡ code = cc in let b : 67108864 ≡ place = cc in inr (sym a, sym b, long, λ c earlier k. let no : ⊥ = cc in absurd no)
  explained-cut (refused c p) e long h = by (nat_lt p 67108864) refl h
    where
      by : (t : Bool) → nat_lt p 67108864 ≡ t → (if t then refused c p else refused TooLarge 67108864) ≡ refused code place → IsPlainRefusal text number logic bytes code place
      by true d k =
          let a : p ≡ place = cc in
          let l : p < 67108864 = grind (arith, nat_tests) in
          inl (inl (rw (sym a) l), (refusal_is_told text number back logic of_formula bytes code place).0 (e ∙ k))
      by false d k =
          let a : TooLarge ≡ code = cc in
          let b : 67108864 ≡ place = cc in
          let l : 67108864 ≤ p = grind (arith, nat_tests) in
          inr (sym a, sym b, long, λ x earlier z. let q : p ≡ earlier = cc in rw (sym q) l)

  explained-refusal : at_most 67108864 (length bytes) (outcome number logic (start of_formula) 0 bytes) ≡ refused code place → IsPlainRefusal text number logic bytes code place
  explained-refusal h = by (nat_le (length bytes) 67108864) refl h
    where
      by : (t : Bool) → nat_le (length bytes) 67108864 ≡ t
          → (if t then outcome number logic (start of_formula) 0 bytes else cut 67108864 (outcome number logic (start of_formula) 0 bytes)) ≡ refused code place → IsPlainRefusal text number logic bytes code place
      by true d k = let l : length bytes ≤ 67108864 = grind (arith, nat_tests) in inl (inr l, (refusal_is_told text number back logic of_formula bytes code place).0 k)
      by false d k = let l : 67108864 < length bytes = grind (arith, nat_tests) in explained-cut (outcome number logic (start of_formula) 0 bytes) refl l k

pub explained : (names : List (List ℕ)) → AreDifferent names → (logic : Logic) (bytes : List ℕ) (result : Result Formula ParseRefusal) → IsAnswer names logic bytes result → IsExplained names logic bytes result
explained names differ logic bytes (Ok f) h =
    let r = (formula_has_outcome names differ logic bytes f).0 (HasOutcome-comes names logic of_formula bytes (a_formula f) h.1) in (r.0, r.1, r.2, plain_formula_is_named names logic f r.0)
explained names differ logic bytes (Err (Refused r)) h = λ text number agrees back. explained-refusal text number back logic bytes r.code r.at (h number agrees)
explained names differ logic bytes (Err OutOfMemory) h = tt
