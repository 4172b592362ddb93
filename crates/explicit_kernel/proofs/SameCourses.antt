-- The judgment of a certificate hangs on no number of a name.
use Rattle.std.proofs.Common.{◌≡◌, ℕ, suc, true, if◌then◌else◌, List, [], ◌∷◌, length, Option, Some, None, refl, sym, ap, ◌∙◌, subst, nat_eq}
use Rattle.std.proofs.lemmas.Bool.Decides.{Decides-eqb, Decides-like, same_from_decides}
use Rattle.fpc_base.specs.declared.refusal.Code.TheVariants.{Unexpected}
use Rattle.fpc_base.specs.declared.refusal.Refusal.{Refusal}
use Rattle.polarised_formulas.specs.declared.logic.Logic.{Logic}
use Rattle.polarised_formulas.specs.declared.logic.Logic.TheVariants.{Lkf}
use Rattle.polarised_formulas.specs.declared.step.Step.{Step}
use Rattle.polarised_formulas.specs.Formula.{Formula}
use Rattle.polarised_formulas.specs.PlainForm.{begins_name, GivesBack}
use Rattle.polarised_formulas.specs.Calculus.Rules.{RuleCalculus, LevelledIn}
use Rattle.explicit_form.specs.StepReading.{State, go}
use Rattle.explicit_form.specs.StepLimits.{fault}
use Rattle.explicit_form.specs.Feeding.{step_with, is_whole}
use Rattle.explicit_kernel.specs.JudgmentIn.{Judgment, accepted, rejected, refused, Course, going, judged, in_front, played, closing, playing, fitting, judging, advance, course, begin, at_end}
use Rattle.explicit_kernel.specs.JudgmentLaws.{NumbersDontMatter}
use Rattle.fpc_terms.specs.Same.{SameList, same_nil, same_cons, SameOption, same_none, same_some}
use Rattle.fpc_terms.proofs.SameTerms.{if-same, append-same}
use Rattle.polarised_formulas.specs.Same.{SameFormula}
use Rattle.polarised_formulas.proofs.SameFormulas.{SameName, formula_meant-same}
use Rattle.polarised_formulas.specs.Same.{SameStep}
use Rattle.polarised_formulas.proofs.Calculus.Naming.{SameLevelled, same_levelled, IsOneToOne, RespectsNames}
use Rattle.lkf_rules.specs.Lkf.{lkf}
use Rattle.lkf_rules.proofs.SameSequents.{lkf_respects_names}
use Rattle.explicit_form.proofs.SameLines.{SameState, same_heading, is_whole-same, fault-same, go-same, step_with-same}

-- the two courses are the same but for the numbers of names; a judgment has none
pub data SameCourse (S : ℕ → ℕ → Type 0) {X : Type 0} (R : X → X → Type 0) : Course X → Course X → Type 0 where
  same_going : {st su : State} {p q : List (ℕ × X)} → SameState S st su → SameList (SameLevelled R) p q → (n : ℕ) → SameCourse S R (going st p n) (going su q n)
  same_judged : (j : Judgment) → SameCourse S R (judged j) (judged j)

module _ (C : RuleCalculus) (R : RespectsNames C) (S : ℕ → ℕ → Type 0) (one : IsOneToOne S) where
  abbrev SamePending : List (LevelledIn C) → List (LevelledIn C) → Type 0
  SamePending p q = SameList (SameLevelled (R.SameSequent S)) p q

  in_front-same : {o u : Option (List (LevelledIn C))} {p q : List (LevelledIn C)} → SameOption SamePending o u → SamePending p q → SameOption SamePending (in_front o p) (in_front u q)
  in_front-same same_none k = same_none
  in_front-same (same_some h) k = same_some (append-same h k)

  played-same : {s t : Step} {p q : List (LevelledIn C)} → SameStep S s t → SamePending p q → SameOption SamePending (played C s p) (played C t q)
  played-same s same_nil = same_none
  played-same {s = s} {t = t} h (same_cons (same_levelled n {c = c} {d = d} k) q) = in_front-same (R.premises_same S one s t h n c d k) q

  closing-same : (place : ℕ) {st su : State} {p q : List (LevelledIn C)} → SameState S st su → SamePending p q → (n : ℕ) → SameCourse S (R.SameSequent S) (closing place st p n) (closing place su q n)
  closing-same place h same_nil n = same_going h same_nil n
  closing-same place {st = st} {su = su} {p = x ∷ p} {q = y ∷ q} h (same_cons c k) n =
      subst (λ w. SameCourse S (R.SameSequent S) (closing place st (x ∷ p) n) (if w then judged (rejected (suc n) place) else going su (y ∷ q) n)) (is_whole-same S h)
      (if-same (SameCourse S (R.SameSequent S)) (is_whole st) (λ _. same_judged (rejected (suc n) place)) (λ _. same_going h (same_cons c k) n))

  playing-same : (place : ℕ) {st su : State} {o u : Option (List (LevelledIn C))} → SameState S st su → SameOption SamePending o u → (n : ℕ) → SameCourse S (R.SameSequent S) (playing place st o n) (playing place su u n)
  playing-same place h same_none n = same_judged (rejected (suc n) place)
  playing-same place h (same_some k) n = closing-same place h k (suc n)

  fitting-same : (place : ℕ) {st su : State} {o u : Option Step} {p q : List (LevelledIn C)} → SameState S st su → SameOption (SameStep S) o u → SamePending p q → (n : ℕ)
      → SameCourse S (R.SameSequent S) (fitting C place st o p n) (fitting C place su u q n)
  fitting-same place h same_none k n = closing-same place h k n
  fitting-same place h (same_some s) k n = playing-same place h (played-same s k) n

  judging-same : (r : Option Refusal) (place : ℕ) {st su : State} {o u : Option Step} {p q : List (LevelledIn C)} → SameState S st su → SameOption (SameStep S) o u → SamePending p q → (n : ℕ)
      → SameCourse S (R.SameSequent S) (judging C r place st o p n) (judging C r place su u q n)
  judging-same None place h s k n = fitting-same place h s k n
  judging-same (Some r) place h s k n = same_judged (refused r n)

  begin-same : {f g : Formula} → SameFormula S f g → SameCourse S (R.SameSequent S) (begin C f) (begin C g)
  begin-same {f = f} {g = g} h = same_going (same_heading []) (same_cons (same_levelled 0 (R.root_same S f g h)) same_nil) 0

  at_end-same : (place : ℕ) {c d : Course C.SequentOf} → SameCourse S (R.SameSequent S) c d → at_end place c ≡ at_end place d
  at_end-same place (same_going h k n) = ap (λ w. if w then accepted n else refused (record { code = Unexpected; at = place }) n) (is_whole-same S h)
  at_end-same place (same_judged j) = refl

-- names with one number are one name, so they have one number by each other numbering
one_number : (text : ℕ → List ℕ) (number renumber : List ℕ → ℕ) → GivesBack text number → (x y : List ℕ) → begins_name x ≡ true → begins_name y ≡ true → number x ≡ number y → renumber x ≡ renumber y
one_number text number renumber back x y h k e = ap renumber (sym (back x h) ∙ ap text e ∙ back y k)

-- two numbers of names are equal by the one numbering exactly where they are by the other
one_to_one : (text other : ℕ → List ℕ) (number renumber : List ℕ → ℕ) → GivesBack text number → GivesBack other renumber
    → (f g m n : ℕ) → SameName number renumber f m → SameName number renumber g n → nat_eq f g ≡ nat_eq m n
one_to_one text other number renumber back again f g m n (x, (h, (xf, xm))) (y, (k, (yg, yn))) =
    same_from_decides (nat_eq f g) (nat_eq m n) (Decides-eqb f g)
    (Decides-like (nat_eq m n) (λ e. sym xf ∙ one_number other renumber number again x y h k (xm ∙ e ∙ sym yn) ∙ yg) (λ e. sym xm ∙ one_number text number renumber back x y h k (xf ∙ e ∙ sym yg) ∙ yn) (Decides-eqb m n))

-- a byte of a certificate of the logic leads to the same by both numberings, and ends the line of the same step
pub record ReadsAlike (logic : Logic) : Type 0 where
  pub byte : (number renumber : List ℕ → ℕ) (st su : State) → SameState (SameName number renumber) st su → (b : ℕ) → SameState (SameName number renumber) (go number logic st b) (go renumber logic su b)
  pub step : (number renumber : List ℕ → ℕ) (st su : State) → SameState (SameName number renumber) st su → (b : ℕ) → SameOption (SameStep (SameName number renumber)) (step_with number logic st b) (step_with renumber logic su b)

-- it does in LKF
lkf_reads_alike : ReadsAlike Lkf
lkf_reads_alike = record { byte = λ number renumber st su h b. go-same number renumber h b; step = λ number renumber st su h b. step_with-same number renumber h b }

module _ (C : RuleCalculus) (R : RespectsNames C) (A : ReadsAlike C.logic) (number renumber : List ℕ → ℕ) (one : IsOneToOne (SameName number renumber)) where
  advance-same : (place : ℕ) {c d : Course C.SequentOf} → SameCourse (SameName number renumber) (R.SameSequent (SameName number renumber)) c d → (b : ℕ) → SameCourse (SameName number renumber) (R.SameSequent (SameName number renumber)) (advance C number place c b) (advance C renumber place d b)
  advance-same place (same_going {st = st} {su = su} {p = p} {q = q} h k n) b =
      let next = A.byte number renumber st su h b in
      let step = A.step number renumber st su h b in
      subst
      (λ r. SameCourse (SameName number renumber) (R.SameSequent (SameName number renumber)) (advance C number place (going st p n) b) (judging C r place (go renumber C.logic su b) (step_with renumber C.logic su b) q n))
      (fault-same (SameName number renumber) place h next)
      (judging-same C R (SameName number renumber) one (fault place st (go number C.logic st b)) place next step k n)
  advance-same place (same_judged j) b = same_judged j

  course-same : (bytes : List ℕ) (place : ℕ) {c d : Course C.SequentOf} → SameCourse (SameName number renumber) (R.SameSequent (SameName number renumber)) c d → SameCourse (SameName number renumber) (R.SameSequent (SameName number renumber)) (course C number place c bytes) (course C renumber place d bytes)
  course-same [] place h = h
  course-same (b ∷ bytes) place h = course-same bytes (suc place) (advance-same place h b)

-- the judgment is the same
pub numbers_dont_matter_in : (C : RuleCalculus) → RespectsNames C → ReadsAlike C.logic → NumbersDontMatter C
numbers_dont_matter_in C R A text other number renumber back again w names bytes =
    let one = one_to_one text other number renumber back again in
    at_end-same C R (SameName number renumber) one (length bytes)
    (course-same C R A number renumber one bytes 0 (begin-same C R (SameName number renumber) one (formula_meant-same number renumber [] [] w names)))

-- the same in LKF
pub numbers_dont_matter : NumbersDontMatter lkf
numbers_dont_matter = numbers_dont_matter_in lkf lkf_respects_names lkf_reads_alike
